-- A whole block is read back, whatever follows.
use Rattle.std.proofs.Common.{◌≡◌, ℕ, zero, suc, lit<, ◌+◌, ◌-◌, ◌<◌, ◌≤◌, ◌^◌, List, [], ◌∷◌, ◌++◌, take, drop, length, get_or, replicate, Some, Bool, true, refl, sym, ◌∙◌, ap, append_assoc, arith}
use Rattle.std.specs.Int.{w64, to_be_bytes, from_be_bytes}
use Rattle.std.proofs.lemmas.Bool.Decides.{nat_tests}
use Rattle.std.proofs.lemmas.List.{drop_at, take_at, length-append, length-replicate, length-take, length-drop, get_or-drop}
use Rattle.std.proofs.lemmas.Nat.{from_be_bytes-to_be_bytes_8, be_bytes_8}
use Rattle.tk_model.specs.declared.record.Change.{Change}
use Rattle.tk_model.specs.declared.record.Change.TheVariants.{Put, Drop, Clear}
use Rattle.tk_block.specs.declared.block.Body.{Body}
use Rattle.tk_block.specs.Number.{u64_in}
use Rattle.tk_block.specs.Text.{is_extent, head_text, head_front, checked, head_at}
use Rattle.tk_block.specs.Blocks.{block_with, IsSmall, key_of, value_of, body_of, body_text, block_text, body_at, extent_for, extent_of, room_of}
use Rattle.tk_block.specs.Grammar.{FitsExtent, FitsBody}
use Rattle.tk_block.proofs.Heads.{head_found, length-head_text}
use Rattle.tk_block.proofs.Bodies.{joined_front}
use Rattle.tk_block.proofs.Grammar.{heads}
use Rattle.tk_block.proofs.BodyGrammar.{bodies, length-body_text}
use Rattle.tk_block.proofs.Lengths.{length-block_text, room_fits}

extent_valid : (room : ℕ) → room < 2 ^ 63 → is_extent (extent_for room) ≡ true
extent_valid room small = grind (arith, nat_tests)

-- a body that fits has an extent that a head can tell
pub extent_fits : (b : Body) → FitsBody b → is_extent (extent_of b) ≡ true
extent_fits b fits =
    let small : length b.value ≤ 33554431 = grind (arith, nat_tests, fits.0) in
    extent_valid (room_of b) (omega (arith, fits.1))

-- what stands behind head, link and body
abbrev pub behind_body : (b : Body) (rest : List ℕ) → List ℕ
behind_body b rest = replicate (extent_of b - room_of b) 0 ++ rest

-- ---- a block of any extent, with any padding

head_first : (b : Body) (place extent link : ℕ) (padding rest : List ℕ) → block_with b place extent link padding ++ rest ≡ head_text extent place ++ (to_be_bytes w64 link ++ (body_text b place ++ (padding ++ rest)))
unfolding block_with
head_first b place extent link padding rest = simp append_assoc

pub any_head : (b : Body) (place extent link : ℕ) (padding rest : List ℕ) → FitsExtent extent → head_at (block_with b place extent link padding ++ rest) place ≡ Some extent
any_head b place extent link padding rest fits =
    ap (λ l. head_at l place) (head_first b place extent link padding rest) ∙ (heads place).again extent _ fits

any_body_stands : (b : Body) (place extent link : ℕ) (padding rest : List ℕ) → drop 24 (block_with b place extent link padding ++ rest) ≡ (body_text b place ++ padding) ++ rest
unfolding block_with head_text head_front checked
any_body_stands b place extent link padding rest = refl

pub any_body : (b : Body) (place extent link : ℕ) (padding rest : List ℕ) → FitsBody b → body_at (drop 24 (block_with b place extent link padding ++ rest)) place ≡ Some b
any_body b place extent link padding rest fits =
    ap (λ l. body_at l place) (any_body_stands b place extent link padding rest ∙ append_assoc (body_text b place) padding rest) ∙ (bodies place).again b _ fits

-- ---- a block that was appended

pub block_head : (b : Body) (place link : ℕ) (rest : List ℕ) → FitsBody b → head_at (block_text b place link ++ rest) place ≡ Some (extent_of b)
unfolding block_text
block_head b place link rest fits = any_head b place (extent_of b) link (replicate (extent_of b - room_of b) 0) rest (extent_fits b fits)

link_stands : (b : Body) (place link : ℕ) (rest : List ℕ) → take 8 (drop 16 (block_text b place link ++ rest)) ≡ to_be_bytes w64 link
unfolding block_text block_with head_text head_front checked
link_stands b place link rest = refl

pub block_link : (b : Body) (place link : ℕ) (rest : List ℕ) → link < 2 ^ 64 → u64_in (block_text b place link ++ rest) 16 ≡ link
unfolding u64_in
block_link b place link rest fits = ap (λ l. from_be_bytes w64 l) (link_stands b place link rest) ∙ from_be_bytes-to_be_bytes_8 link fits

pub block_body : (b : Body) (place link : ℕ) (rest : List ℕ) → FitsBody b → body_at (drop 24 (block_text b place link ++ rest)) place ≡ Some b
unfolding block_text
block_body b place link rest fits = any_body b place (extent_of b) link (replicate (extent_of b - room_of b) 0) rest fits

-- what stands before the padding
abbrev unpadded : (b : Body) (place link : ℕ) → List ℕ
unpadded b place link = (head_text (extent_of b) place ++ to_be_bytes w64 link) ++ body_text b place

length-unpadded : (b : Body) (place link : ℕ) → length (unpadded b place link) ≡ room_of b
length-unpadded b place link =
    omega (arith, length-append (head_text (extent_of b) place ++ to_be_bytes w64 link) (body_text b place), length-append (head_text (extent_of b) place) (to_be_bytes w64 link), length-head_text (extent_of b) place, length-body_text b place)

padding_last : (b : Body) (place link : ℕ) → block_text b place link ≡ unpadded b place link ++ replicate (extent_of b - room_of b) 0
unfolding block_text block_with
padding_last b place link = refl

-- the zero bytes up to the extent
pub block_padding : (b : Body) (place link : ℕ) (rest : List ℕ) → take (extent_of b - room_of b) (drop (room_of b) (block_text b place link ++ rest)) ≡ replicate (extent_of b - room_of b) 0
block_padding b place link rest =
    ap (λ l. take (extent_of b - room_of b) (drop (room_of b) l)) (ap (λ l. l ++ rest) (padding_last b place link) ∙ append_assoc (unpadded b place link) _ rest)
    ∙ ap (λ l. take (extent_of b - room_of b) l) (drop_at (unpadded b place link) (behind_body b rest) (room_of b) (length-unpadded b place link))
    ∙ take_at (replicate (extent_of b - room_of b) 0) rest (extent_of b - room_of b) (length-replicate {A = ℕ} (extent_of b - room_of b) 0)

pub block_rest : (b : Body) (place link : ℕ) (rest : List ℕ) → drop (extent_of b) (block_text b place link ++ rest) ≡ rest
block_rest b place link rest = drop_at (block_text b place link) rest (extent_of b) (length-block_text b place link)

pub block_front : (b : Body) (place link : ℕ) (rest : List ℕ) → take (extent_of b) (block_text b place link ++ rest) ≡ block_text b place link
block_front b place link rest = take_at (block_text b place link) rest (extent_of b) (length-block_text b place link)

-- the body of a change within the limits fits
pub change_fits : (number : ℕ) (c : Change) (last : Bool) → IsSmall (key_of c) (value_of c) → number < 2 ^ 64 → FitsBody (body_of number c last)
change_fits number (Put pair) last small fits = (grind (arith, nat_tests), small.key_fits, fits)
change_fits number (Drop key) last small fits = (refl, small.key_fits, fits)
change_fits number Clear last small fits = (refl, small.key_fits, fits)

front_small : (n : ℕ) (xs : List ℕ) → ((i : ℕ) → get_or xs i 0 < 256) → (i : ℕ) → get_or (take n xs) i 0 < 256
front_small zero xs small i = lit< tt
front_small (suc n) [] small i = lit< tt
front_small (suc n) (x ∷ xs) small zero = small zero
front_small (suc n) (x ∷ xs) small (suc i) = front_small n xs (λ k. small (suc k)) i

-- bytes of a part are bytes
part_small : (at n : ℕ) (bytes : List ℕ) → ((i : ℕ) → get_or bytes i 0 < 256) → (i : ℕ) → get_or (take n (drop at bytes)) i 0 < 256
part_small at n bytes small i = front_small n (drop at bytes) (λ k. rw (get_or-drop at bytes k 0) (small (at + k))) i

link_told : (bytes : List ℕ) → u64_in bytes 16 ≡ from_be_bytes w64 (take 8 (drop 16 bytes))
unfolding u64_in
link_told bytes = refl

-- head, body and zero bytes of a block, with the link that stands between
pub block_spelled : (bytes : List ℕ) (place : ℕ) (b : Body) → ((i : ℕ) → get_or bytes i 0 < 256) → head_at bytes place ≡ Some (extent_of b) → body_at (drop 24 bytes) place ≡ Some b
    → take (extent_of b - room_of b) (drop (room_of b) bytes) ≡ replicate (extent_of b - room_of b) 0
    → take (extent_of b) bytes ≡ block_text b place (u64_in bytes 16)
block_spelled bytes place b small head body padding =
    let link = u64_in bytes 16 in
    let heading = (head_found bytes place (extent_of b) head).1 in
    let spelled : take (16 + length b.key + length b.value + 4) (drop 24 bytes) ≡ body_text b place = ap (λ n. take n (drop 24 bytes)) (sym (length-body_text b place)) ∙ ((bodies place).found (drop 24 bytes) b body).1 in
    let long : 24 + (16 + length b.key + length b.value + 4) ≤ length bytes = omega (arith, ap length spelled, length-body_text b place, length-take {A = ℕ} (16 + length b.key + length b.value + 4) (drop 24 bytes), length-drop {A = ℕ} 24 bytes) in
    let linked : take 8 (drop 16 bytes) ≡ to_be_bytes w64 link = sym (be_bytes_8 (take 8 (drop 16 bytes)) link (omega (arith, length-take {A = ℕ} 8 (drop 16 bytes), length-drop {A = ℕ} 16 bytes)) (part_small 16 8 bytes small) (link_told bytes)) in
    let opened = joined_front 16 8 bytes _ _ heading linked in
    let whole = joined_front 24 (16 + length b.key + length b.value + 4) bytes _ _ opened spelled in
    let room : 24 + (16 + length b.key + length b.value + 4) ≡ room_of b = omega arith in
    let unpadded_is : take (room_of b) bytes ≡ unpadded b place link = ap (λ n. take n bytes) (sym room) ∙ whole in
    let padded = joined_front (room_of b) (extent_of b - room_of b) bytes _ _ unpadded_is padding in
    let end : room_of b + (extent_of b - room_of b) ≡ extent_of b = omega (arith, room_fits (room_of b)) in
    ap (λ n. take n bytes) (sym end) ∙ padded ∙ sym (padding_last b place link)
