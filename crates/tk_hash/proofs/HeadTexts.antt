-- Heads of buckets as text, and a write of some of them.
use Rattle.std.proofs.Common.{◌≡◌, ℕ, zero, suc, ◌+◌, ◌*◌, ◌<◌, ◌≤◌, ◌^◌, List, [], ◌∷◌, ◌++◌, length, get_or, take, drop, replicate, refl, sym, ◌∙◌, ap, subst, arith, append_assoc, length-append}
use Rattle.std.specs.Prelude.{Option, Some, None, IfSome}
use Rattle.std.specs.Option.{option_map}
use Rattle.std.specs.Int.{w64, to_be_bytes}
use Rattle.std.proofs.Math.ListN.{set}
use Rattle.std.proofs.Math.Seq.{take-append-add, drop-append-add}
use Rattle.std.proofs.lemmas.List.{append-nil, take-append-le, drop-append-le, length-replicate, take-replicate, replicate-append-replicate, drop-drop, drop_more, take_all, drop_all, take_at}
use Rattle.tk_model.specs.declared.record.Group.{Group}
use Rattle.tk_disk.specs.Disk.{put_at}
use Rattle.tk_block.specs.Text.{static_text, closing_text}
use Rattle.tk_block.specs.declared.head.StaticHead.{StaticHead}
use Rattle.tk_block.specs.declared.closing.Closing.{Closing}
use Rattle.tk_block.proofs.Grammar.{length-closing_text, length-static_text}
use Rattle.tk_append.specs.Pieces.{words_text}
use Rattle.tk_append.specs.FileText.{text_with}
use Rattle.tk_append.proofs.LogSteps.{length_put}
use Rattle.tk_append.specs.Restored.{groups_text}
use Rattle.tk_hash.specs.declared.plan.NewHead.{NewHead}
use Rattle.tk_hash.specs.Plan.{with_new, AllBelow}

length-words_text : (ws : List ℕ) → length (words_text ws) ≡ 8 * length ws
length-words_text [] = refl
length-words_text (w ∷ ws) = omega (arith, length-append (to_be_bytes w64 w) (words_text ws), length-words_text ws)

words_text-append : (xs ys : List ℕ) → words_text (xs ++ ys) ≡ words_text xs ++ words_text ys
words_text-append [] ys = refl
words_text-append (x ∷ xs) ys =
    ap (λ (l : List ℕ). to_be_bytes w64 x ++ l) (words_text-append xs ys) ∙ sym (append_assoc (to_be_bytes w64 x) (words_text xs) (words_text ys))

words_text-take : (n : ℕ) (ws : List ℕ) → take (8 * n) (words_text ws) ≡ words_text (take n ws)
words_text-take zero ws = refl
words_text-take (suc n) [] = take_all (8 * suc n) [] (omega arith)
words_text-take (suc n) (w ∷ ws) =
    ap (λ (k : ℕ). take k (to_be_bytes w64 w ++ words_text ws)) (omega arith) ∙ take-append-add (to_be_bytes w64 w) (words_text ws) (8 * n) ∙ ap (λ (l : List ℕ). to_be_bytes w64 w ++ l) (words_text-take n ws)

words_text-drop : (n : ℕ) (ws : List ℕ) → drop (8 * n) (words_text ws) ≡ words_text (drop n ws)
words_text-drop zero ws = refl
words_text-drop (suc n) [] = drop_all (8 * suc n) [] (omega arith)
words_text-drop (suc n) (w ∷ ws) =
    ap (λ (k : ℕ). drop k (to_be_bytes w64 w ++ words_text ws)) (omega arith) ∙ drop-append-add (to_be_bytes w64 w) (words_text ws) (8 * n) ∙ words_text-drop n ws

-- a write of whole numbers
words_put : (b : ℕ) (ws heads : List ℕ) → put_at (8 * b) (words_text ws) (words_text heads) ≡ words_text (put_at b ws heads)
words_put b ws heads =
    ap (λ (l : List ℕ). l ++ (words_text ws ++ drop (8 * b + length (words_text ws)) (words_text heads))) (words_text-take b heads)
    ∙ ap (λ (n : ℕ). words_text (take b heads) ++ (words_text ws ++ drop n (words_text heads))) (omega (arith, length-words_text ws))
    ∙ ap (λ (l : List ℕ). words_text (take b heads) ++ (words_text ws ++ l)) (words_text-drop (b + length ws) heads)
    ∙ sym (words_text-append (take b heads) (ws ++ drop (b + length ws) heads) ∙ ap (λ (l : List ℕ). words_text (take b heads) ++ l) (words_text-append ws (drop (b + length ws) heads)))

-- a write behind a front
put_behind : (front rest bytes : List ℕ) (n at : ℕ) → length front ≡ n → put_at (n + at) bytes (front ++ rest) ≡ front ++ put_at at bytes rest
put_behind front rest bytes n at long =
    ap (λ (k : ℕ). put_at (k + at) bytes (front ++ rest)) (sym long)
    ∙ ap (λ (l : List ℕ). l ++ (bytes ++ drop (length front + at + length bytes) (front ++ rest))) (take-append-add front rest at)
    ∙ ap (λ (k : ℕ). (front ++ take at rest) ++ (bytes ++ drop k (front ++ rest))) (omega arith)
    ∙ ap (λ (l : List ℕ). (front ++ take at rest) ++ (bytes ++ l)) (drop-append-add front rest (at + length bytes))
    ∙ append_assoc front (take at rest) (bytes ++ drop (at + length bytes) rest)

-- a write in front of a rest
put_before : (front rest bytes : List ℕ) (at : ℕ) → at + length bytes ≤ length front → put_at at bytes (front ++ rest) ≡ put_at at bytes front ++ rest
put_before front rest bytes at within =
    ap (λ (l : List ℕ). l ++ (bytes ++ drop (at + length bytes) (front ++ rest))) (take-append-le at front rest (omega (arith, within)))
    ∙ ap (λ (l : List ℕ). take at front ++ (bytes ++ l)) (drop-append-le (at + length bytes) front rest within)
    ∙ ap (λ (l : List ℕ). take at front ++ l) (sym (append_assoc bytes (drop (at + length bytes) front) rest))
    ∙ sym (append_assoc (take at front) (bytes ++ drop (at + length bytes) front) rest)

-- a write of whole heads into a file's text
pub heads_put : (h : StaticHead) (c : Closing) (b : ℕ) (ws heads bytes : List ℕ) (groups : List Group) → bytes ≡ words_text ws → b + length ws ≤ length heads
    → put_at (64 + 8 * b) bytes (text_with h c heads groups) ≡ text_with h c (put_at b ws heads) groups
heads_put h c b ws heads bytes groups is within =
    let front : List ℕ = static_text h ++ closing_text c in
    let rest : List ℕ = groups_text h groups in
    ap (λ (l : List ℕ). put_at (64 + 8 * b) l (front ++ (words_text heads ++ rest))) is
    ∙ put_behind front (words_text heads ++ rest) (words_text ws) 64 (8 * b) (omega (arith, length-append (static_text h) (closing_text c), length-static_text h, length-closing_text c))
    ∙ ap (λ (l : List ℕ). front ++ l) (put_before (words_text heads) rest (words_text ws) (8 * b) (omega (arith, within, length-words_text ws, length-words_text heads)) ∙ ap (λ (l : List ℕ). l ++ rest) (words_put b ws heads))

pub set_put : (heads : List ℕ) (b place : ℕ) → b < length heads → put_at b (place ∷ []) heads ≡ set heads b place
set_put [] b place within = absurd (omega arith)
set_put (x ∷ xs) zero place within = refl
set_put (x ∷ xs) (suc b) place within =
    let next : suc b + 1 ≡ suc (b + 1) = omega arith in
    ap (λ (k : ℕ). (x ∷ take b xs) ++ (place ∷ drop k (x ∷ xs))) next ∙ ap (λ (l : List ℕ). x ∷ l) (set_put xs b place (omega arith))

pub zero_words : (n : ℕ) → words_text (replicate n 0) ≡ replicate (8 * n) 0
zero_words zero = refl
zero_words (suc n) =
    let next : 8 + 8 * n ≡ 8 * suc n = omega arith in
    ap (λ (l : List ℕ). to_be_bytes w64 0 ++ l) (zero_words n) ∙ replicate-append-replicate 8 (8 * n) 0 ∙ ap (λ (k : ℕ). replicate {A = ℕ} k 0) next

-- zero heads behind zero heads
pub zeros_more : (b n next : ℕ) (heads : List ℕ) → next ≡ b + n → next ≤ length heads → put_at b (replicate n 0) (replicate b 0 ++ drop b heads) ≡ replicate next 0 ++ drop next heads
zeros_more b n next heads is within =
    let zeros : List ℕ = replicate b 0 in
    let more : List ℕ = replicate n 0 in
    let long : length zeros ≡ b = length-replicate b 0 in
    let also : length more ≡ n = length-replicate n 0 in
    ap (λ (l : List ℕ). l ++ (more ++ drop (b + length more) (zeros ++ drop b heads))) (take_at zeros (drop b heads) b long)
    ∙ ap (λ (k : ℕ). zeros ++ (more ++ drop k (zeros ++ drop b heads))) {x = b + length more} {y = length zeros + n} (omega (arith, long, also))
    ∙ ap (λ (l : List ℕ). zeros ++ (more ++ l)) (drop-append-add zeros (drop b heads) n ∙ drop-drop n b heads)
    ∙ ap (λ (k : ℕ). zeros ++ (more ++ drop k heads)) (sym is)
    ∙ sym (append_assoc zeros more (drop next heads))
    ∙ ap (λ (l : List ℕ). l ++ drop next heads) (replicate-append-replicate b n 0 ∙ ap (λ (k : ℕ). replicate k 0) (sym is))

-- the file has heads with P
pub record HasHeads (h : StaticHead) (c : Closing) (groups : List Group) (image : Option (List ℕ)) (P : List ℕ → Type 0) : Type 0 where
  pub now : List ℕ
  pub long : length now ≡ 2 ^ h.p
  pub there : image ≡ Some (text_with h c now groups)
  pub holds : P now

-- some heads more
pub heads_more : (h : StaticHead) (c : Closing) (groups : List Group) (image new : Option (List ℕ)) (P Q : List ℕ → Type 0) (b : ℕ) (ws bytes : List ℕ) → bytes ≡ words_text ws → b + length ws ≤ 2 ^ h.p
    → new ≡ option_map (put_at (64 + 8 * b) bytes) image → ((now : List ℕ) → length now ≡ 2 ^ h.p → P now → Q (put_at b ws now)) → HasHeads h c groups image P → HasHeads h c groups new Q
heads_more h c groups image new P Q b ws bytes is within written step has = record {
  now = put_at b ws has.now;
  long = length_put b ws has.now (omega (arith, within, has.long)) ∙ has.long;
  there = written ∙ ap (λ (o : Option (List ℕ)). option_map (put_at (64 + 8 * b) bytes) o) has.there ∙ ap (λ (l : List ℕ). Some l) (heads_put h c b ws has.now bytes groups is (omega (arith, within, has.long)));
  holds = step has.now has.long has.holds;
}

-- a write leaves a file as long
pub long_put : (old new : Option (List ℕ)) (n at : ℕ) (bytes : List ℕ) → at + length bytes ≤ n → IfSome old (λ f. n ≤ length f) → new ≡ option_map (put_at at bytes) old → IfSome new (λ f. n ≤ length f)
long_put None new n at bytes within there is = subst (λ (o : Option (List ℕ)). IfSome o (λ f. n ≤ length f)) (sym is) tt
long_put (Some f) new n at bytes within there is =
    subst (λ (o : Option (List ℕ)). IfSome o (λ f. n ≤ length f)) (sym is) (omega (arith, there, length_put at bytes f (omega (arith, within, there))))

-- a new head more
pub new_more : (ns : List NewHead) (i : ℕ) (d : NewHead) (now goal : List ℕ) → i < length ns → (get_or ns i d).bucket < length now → with_new (drop i ns) now ≡ goal
    → with_new (drop (i + 1) ns) (put_at (get_or ns i d).bucket ((get_or ns i d).place ∷ []) now) ≡ goal
new_more ns i d now goal below within is =
    ap (λ (l : List ℕ). with_new (drop (i + 1) ns) l) (set_put now (get_or ns i d).bucket (get_or ns i d).place within)
    ∙ sym (ap (λ (l : List NewHead). with_new l now) (drop_more ns i d below)) ∙ is

pub below_more : (number : ℕ) (ns : List NewHead) (i : ℕ) (d : NewHead) → i < length ns → AllBelow number (drop i ns) → ((get_or ns i d).bucket < number) × AllBelow number (drop (i + 1) ns)
below_more number ns i d below all = subst (λ (l : List NewHead). AllBelow number l) (drop_more ns i d below) all

pub if_some : (o : Option (List ℕ)) (P Q : List ℕ → Type 0) → IfSome o P → ((f : List ℕ) → P f → Q f) → IfSome o Q
if_some None P Q holds more = tt
if_some (Some f) P Q holds more = more f holds

-- all new heads are written
pub all_new : (h : StaticHead) (c : Closing) (groups : List Group) (image : Option (List ℕ)) (ns : List NewHead) (i : ℕ) (goal : List ℕ) → length ns ≤ i → HasHeads h c groups image (λ now. with_new (drop i ns) now ≡ goal)
    → image ≡ Some (text_with h c goal groups)
all_new h c groups image ns i goal all has =
    has.there ∙ ap (λ (l : List ℕ). Some (text_with h c l groups)) (sym (ap (λ (l : List NewHead). with_new l has.now) (drop_all i ns all)) ∙ has.holds)

-- all heads are zero
pub all_zero : (h : StaticHead) (c : Closing) (groups : List Group) (image : Option (List ℕ)) (old : List ℕ) (b : ℕ) → length old ≡ b → HasHeads h c groups image (λ now. now ≡ replicate b 0 ++ drop b old)
    → image ≡ Some (text_with h c (replicate (length old) 0) groups)
all_zero h c groups image old b long has =
    has.there ∙ ap (λ (l : List ℕ). Some (text_with h c l groups)) (
    has.holds ∙ ap (λ (l : List ℕ). replicate b 0 ++ l) (drop_all b old (omega (arith, long))) ∙ append-nil (replicate b 0) ∙ ap (λ (k : ℕ). replicate k 0) (sym long))

-- so many zero bytes are so many zero heads
pub zero_bytes : (zeros bytes : List ℕ) (n : ℕ) → zeros ≡ replicate (length zeros) 0 → 8 * n ≤ length zeros → bytes ≡ take (8 * n) zeros → bytes ≡ words_text (replicate n 0)
zero_bytes zeros bytes n are within is =
    is ∙ ap (λ (l : List ℕ). take (8 * n) l) are ∙ take-replicate (8 * n) (length zeros) 0 within ∙ sym (zero_words n)

pub if_both : (o : Option (List ℕ)) (P Q R : List ℕ → Type 0) → IfSome o P → IfSome o Q → ((f : List ℕ) → P f → Q f → R f) → IfSome o R
if_both None P Q R one two more = tt
if_both (Some f) P Q R one two more = more f one two

pub always : (o : Option (List ℕ)) (P : List ℕ → Type 0) → ((f : List ℕ) → P f) → IfSome o P
always None P holds = tt
always (Some f) P holds = holds f
