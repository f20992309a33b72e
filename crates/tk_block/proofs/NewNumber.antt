-- A block's text, cut where a new number and its check are written.
use Rattle.std.proofs.Common.{◌≡◌, ℕ, ◌+◌, ◌-◌, ◌≤◌, List, [], ◌∷◌, ◌++◌, take, drop, length, replicate, refl, sym, ◌∙◌, ap, append_assoc, arith}
use Rattle.std.specs.Int.{w16, w32, w64, to_be_bytes, from_be_bytes}
use Rattle.std.proofs.lemmas.List.{take_at, drop_at, length-append, length-replicate, replicate-append-replicate, length-take, length-drop}
use Rattle.std.proofs.Math.Seq.{drop-append-add}
use Rattle.std.proofs.lemmas.Nat.{from_be_bytes-to_be_bytes_2, from_be_bytes-to_be_bytes_4, from_be_bytes-to_be_bytes_8}
use Rattle.tk_block.specs.declared.block.Body.{Body}
use Rattle.tk_block.specs.Number.{u16_in, u32_in, u64_in}
use Rattle.tk_block.specs.Text.{head_text, head_front, checked, check_number}
use Rattle.tk_block.specs.Blocks.{block_with, IsSmall, flag, numbers_text, body_front, block_text, extent_of, room_of, numbered}
use Rattle.tk_block.specs.Layout.{laid, end_of, first_or_none}
use Rattle.tk_block.specs.Renumber.{unchecked_text, unchecked_texts, IsBlockIn}
use Rattle.tk_block.proofs.Heads.{length-head_text}
use Rattle.tk_block.proofs.Bodies.{length-numbers_text}
use Rattle.tk_block.proofs.Lengths.{room_fits}

-- a part of a list is written over by one as long
pub overwritten : (at : ℕ) (all xs ys zs ws : List ℕ) → all ≡ xs ++ (ys ++ zs) → length xs ≡ at → length ys ≡ length ws → take at all ++ (ws ++ drop (at + length ws) all) ≡ xs ++ (ws ++ zs)
overwritten at all xs ys zs ws is here same =
    let front : take at all ≡ xs = ap (λ l. take at l) is ∙ take_at xs (ys ++ zs) at here in
    let rest : drop (at + length ws) all ≡ zs = ap (λ l. drop (at + length ws) l) (is ∙ sym (append_assoc xs ys zs)) ∙ drop_at (xs ++ ys) zs (at + length ws) (omega (arith, length-append xs ys)) in
    rw (front, rest) refl

abbrev opening : (b : Body) (place link : ℕ) → List ℕ
opening b place link = head_text (extent_of b) place ++ to_be_bytes w64 link

-- a body's numbers before its number
abbrev lengths_text : Body → List ℕ
lengths_text b = b.kind ∷ flag b.last ∷ to_be_bytes w16 (length b.key) ++ to_be_bytes w32 (length b.value)

abbrev ending : (b : Body) (rest : List ℕ) → List ℕ
ending b rest = replicate (extent_of b - room_of b) 0 ++ rest

abbrev sum_text : (b : Body) (place : ℕ) → List ℕ
sum_text b place = to_be_bytes w32 (check_number (body_front b) place)

length-opening : (b : Body) (place link : ℕ) → length (opening b place link) ≡ 24
length-opening b place link = length-append (head_text (extent_of b) place) (to_be_bytes w64 link) ∙ ap (λ n. n + 8) (length-head_text (extent_of b) place)

numbers_split : (b : Body) → numbers_text b ≡ lengths_text b ++ to_be_bytes w64 b.number
unfolding numbers_text
numbers_split b = refl

front_split : (b : Body) → body_front b ≡ lengths_text b ++ (to_be_bytes w64 b.number ++ (b.key ++ b.value))
front_split b = rw numbers_split (simp append_assoc)

block_split : (b : Body) (place link : ℕ) (rest : List ℕ) → block_text b place link ++ rest ≡ opening b place link ++ (body_front b ++ (sum_text b place ++ ending b rest))
unfolding block_text block_with checked
block_split b place link rest = simp append_assoc

-- what stands where the check will be
abbrev no_sum : List ℕ
no_sum = 0 ∷ 0 ∷ 0 ∷ 0 ∷ []

unchecked_split : (b : Body) (place link : ℕ) (rest : List ℕ) → unchecked_text b place link ++ rest ≡ opening b place link ++ (body_front b ++ (no_sum ++ ending b rest))
unfolding unchecked_text
unchecked_split b place link rest =
    append_assoc (opening b place link ++ body_front b) (replicate (4 + (extent_of b - room_of b)) 0) rest
    ∙ ap (λ (l : List ℕ). (opening b place link ++ body_front b) ++ (l ++ rest)) (sym (replicate-append-replicate {A = ℕ} 4 (extent_of b - room_of b) 0))
    ∙ append_assoc (opening b place link) (body_front b) (no_sum ++ ending b rest)

length-body_front : (b : Body) → length (body_front b) ≡ 16 + length b.key + length b.value
length-body_front b = omega (arith, length-append (numbers_text b ++ b.key) b.value, length-append (numbers_text b) b.key, length-numbers_text b)

pub length-unchecked_text : (b : Body) (place link : ℕ) → length (unchecked_text b place link) ≡ extent_of b
unfolding unchecked_text
length-unchecked_text b place link =
    omega (arith, length-append (opening b place link ++ body_front b) (replicate (4 + (extent_of b - room_of b)) 0), length-append (opening b place link) (body_front b), length-opening b place link, length-body_front b, length-replicate {A = ℕ} (4 + (extent_of b - room_of b)) 0, room_fits (room_of b))

pub length-unchecked_texts : (place : ℕ) (bs : List Body) (links : List ℕ) → place + length (unchecked_texts (laid place bs) links) ≡ end_of place bs
length-unchecked_texts place [] links = omega arith
length-unchecked_texts place (b ∷ bs) links =
    omega (arith, length-append (unchecked_text b place (first_or_none links)) (unchecked_texts (laid (place + extent_of b) bs) (drop 1 links)), length-unchecked_text b place (first_or_none links), length-unchecked_texts (place + extent_of b) bs (drop 1 links))

told : (b : Body) (place link : ℕ) (rest : List ℕ) → (take 8 (drop 4 (unchecked_text b place link ++ rest)) ≡ to_be_bytes w64 (extent_of b)) × (take 2 (drop 26 (unchecked_text b place link ++ rest)) ≡ to_be_bytes w16 (length b.key)) × (take 4 (drop 28 (unchecked_text b place link ++ rest)) ≡ to_be_bytes w32 (length b.value))
unfolding unchecked_text head_text head_front checked numbers_text
told b place link rest = (refl, refl, refl)

-- a part of the bytes behind a front
behind : (at i n : ℕ) (text front block : List ℕ) → length front ≡ at → text ≡ front ++ block → take n (drop (at + i) text) ≡ take n (drop i block)
behind at i n text front block here is = ap (λ l. take n (drop (at + i) l)) is ∙ ap (λ k. take n (drop (k + i) (front ++ block))) (sym here) ∙ ap (λ l. take n l) (drop-append-add front block i)

pub extent_told : (at : ℕ) (text front : List ℕ) (b : Body) (place link : ℕ) (rest : List ℕ) → length front ≡ at → IsSmall b.key b.value → text ≡ front ++ (unchecked_text b place link ++ rest) → u64_in text (at + 4) ≡ extent_of b
unfolding u64_in
extent_told at text front b place link rest here small is = ap (λ l. from_be_bytes w64 l) (behind at 4 8 text front _ here is ∙ (told b place link rest).0) ∙ from_be_bytes-to_be_bytes_8 _ (omega arith)

pub key_told : (at : ℕ) (text front : List ℕ) (b : Body) (place link : ℕ) (rest : List ℕ) → length front ≡ at → IsSmall b.key b.value → text ≡ front ++ (unchecked_text b place link ++ rest) → u16_in text (at + 26) ≡ length b.key
unfolding u16_in
key_told at text front b place link rest here small is = ap (λ l. from_be_bytes w16 l) (behind at 26 2 text front _ here is ∙ (told b place link rest).1) ∙ from_be_bytes-to_be_bytes_2 _ small.key_fits

pub value_told : (at : ℕ) (text front : List ℕ) (b : Body) (place link : ℕ) (rest : List ℕ) → length front ≡ at → IsSmall b.key b.value → text ≡ front ++ (unchecked_text b place link ++ rest) → u32_in text (at + 28) ≡ length b.value
unfolding u32_in
value_told at text front b place link rest here small is = ap (λ l. from_be_bytes w32 l) (behind at 28 4 text front _ here is ∙ (told b place link rest).2) ∙ from_be_bytes-to_be_bytes_4 _ (omega arith)

long : (at : ℕ) (text front : List ℕ) (b : Body) (place link : ℕ) (rest : List ℕ) → length front ≡ at → text ≡ front ++ (unchecked_text b place link ++ rest) → at + 44 + length b.key + length b.value ≤ length text
long at text front b place link rest here is = omega (arith, ap length is, length-append front (unchecked_text b place link ++ rest), length-append (unchecked_text b place link) rest, length-unchecked_text b place link, room_fits (room_of b))

-- a block lies within the bytes
pub fit : (at place : ℕ) (text : List ℕ) → IsBlockIn text at place → at + 44 + u16_in text (at + 26) + u32_in text (at + 28) ≤ length text
fit at place text h = omega (arith, long at text h.front h.body place h.link h.rest h.here h.spelled, key_told at text h.front h.body place h.link h.rest h.here h.small h.spelled, value_told at text h.front h.body place h.link h.rest h.here h.small h.spelled)

abbrev pub written : (at : ℕ) (text new : List ℕ) → List ℕ
written at text new = take at text ++ (new ++ drop (at + length new) text)

-- the number is written
numbered_text : (at number : ℕ) (text front : List ℕ) (b : Body) (place link : ℕ) (rest : List ℕ) → length front ≡ at → text ≡ front ++ (unchecked_text b place link ++ rest)
    → written (at + 32) text (to_be_bytes w64 number) ≡ (front ++ opening b place link) ++ (body_front (numbered number b) ++ (no_sum ++ ending b rest))
numbered_text at number text front b place link rest here is =
    let cut : text ≡ (front ++ (opening b place link ++ lengths_text b)) ++ (to_be_bytes w64 b.number ++ ((b.key ++ b.value) ++ (no_sum ++ ending b rest))) =
    is ∙ ap (λ l. front ++ l) (unchecked_split b place link rest ∙ ap (λ l. opening b place link ++ (l ++ (no_sum ++ ending b rest))) (front_split b)) ∙ simp append_assoc in
    overwritten (at + 32) text _ (to_be_bytes w64 b.number) _ (to_be_bytes w64 number) cut (omega (arith, length-append front (opening b place link ++ lengths_text b), length-append (opening b place link) (lengths_text b), length-opening b place link)) refl
    ∙ rw (front_split (numbered number b)) (simp append_assoc)

-- the bytes that the check is taken of
summed : (at n : ℕ) (text front : List ℕ) (b : Body) (place link : ℕ) (rest : List ℕ) → length front ≡ at → n ≡ 16 + length b.key + length b.value → text ≡ (front ++ opening b place link) ++ (body_front b ++ rest) → take n (drop (at + 24) text) ≡ body_front b
summed at n text front b place link rest here is spelled =
    ap (λ l. take n (drop (at + 24) l)) spelled
    ∙ ap (λ l. take n l) (drop_at (front ++ opening b place link) (body_front b ++ rest) (at + 24) (omega (arith, length-append front (opening b place link), length-opening b place link)))
    ∙ take_at (body_front b) rest n (length-body_front b ∙ sym is)

pub length-written : (at : ℕ) (text new : List ℕ) → at + length new ≤ length text → length (written at text new) ≡ length text
length-written at text new fits = omega (arith, length-append (take at text) (new ++ drop (at + length new) text), length-append new (drop (at + length new) text), length-take {A = ℕ} at text, length-drop {A = ℕ} (at + length new) text)

-- and then the check
pub rewritten : (at k v number place link : ℕ) (text front : List ℕ) (b : Body) (rest mid new : List ℕ) → length front ≡ at → text ≡ front ++ (unchecked_text b place link ++ rest) → k ≡ length b.key → v ≡ length b.value
    → mid ≡ written (at + 32) text (to_be_bytes w64 number)
    → new ≡ written (at + 40 + k + v) mid (to_be_bytes w32 (check_number (take (at + 40 + k + v - (at + 24)) (drop (at + 24) mid)) place))
    → new ≡ front ++ (block_text (numbered number b) place link ++ rest)
rewritten at k v number place link text front b rest mid new here is key value first second =
    let cut : mid ≡ (front ++ opening b place link) ++ (body_front (numbered number b) ++ (no_sum ++ ending b rest)) = first ∙ numbered_text at number text front b place link rest here is in
    let sum = summed at (at + 40 + k + v - (at + 24)) mid front (numbered number b) place link (no_sum ++ ending b rest) here (omega arith) cut in
    let known : new ≡ written (at + 40 + k + v) mid (sum_text (numbered number b) place) = second ∙ ap (λ l. written (at + 40 + k + v) mid (to_be_bytes w32 (check_number l place))) sum in
    known
    ∙ overwritten (at + 40 + k + v) mid ((front ++ opening b place link) ++ body_front (numbered number b)) no_sum (ending b rest) (sum_text (numbered number b) place) (cut ∙ simp append_assoc) (omega (arith, length-append (front ++ opening b place link) (body_front (numbered number b)), length-append front (opening b place link), length-opening b place link, length-body_front (numbered number b))) refl
    ∙ rw (block_split (numbered number b) place link rest) (simp append_assoc)
