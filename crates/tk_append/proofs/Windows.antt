-- The bytes of a window, after a read behind its end or a step of its start, and what a disk shows.
use Rattle.std.proofs.Common.{◌≡◌, ℕ, ◌+◌, ◌-◌, ◌<◌, ◌≤◌, inl, inr, List, [], ◌++◌, length, take, drop, slice_range, refl, sym, ap, subst, ◌∙◌, arith, append_assoc}
use Rattle.std.specs.Prelude.{Bool, true, false, min, nat_le, Option, Some, None, IfSome, Result, Ok, Err, OnOk}
use Rattle.std.specs.Int.{w64, from_be_bytes}
use Rattle.std.specs.Io.{StartsWith}
use Rattle.std.proofs.lemmas.List.{take_at, drop_at, take-append-le, drop-append-le, drop-take, drop-drop, length-take-le, length-take, length-drop, length-append, take-append-drop}
use Rattle.std.proofs.Math.Seq.{take-add, take-append_seam, drop-append_seam}
use borrow.Rule.Slice.PartMut.{put_mid, post_of}
use Rattle.std.proofs.lemmas.Bool.{leb-true}
use Rattle.std.proofs.lemmas.Bool.Decides.{nat_tests}
use Rattle.tk_block.specs.Number.{u64_in}
use Rattle.tk_append.specs.Walked.{Shows, HoldsBlock}

pub grown : (xs ys : List ℕ) (start end k n : ℕ) → start ≤ end → end ≤ length xs → n ≤ length ys
    → slice_range (put_mid end k xs ys) start (end + n) ≡ slice_range xs start end ++ take n ys
grown xs ys start end k n ordered within fits =
    let front = length-take-le end xs within in
    let held = drop start (take end xs) in
    let len : length held ≡ end - start = omega (arith, length-drop start (take end xs)) in
    let sum : end + n - start ≡ (end - start) + n = omega arith in
    let parts : end ≡ start + (end - start) = omega arith in
    let same : held ≡ take (end - start) (drop start xs) = ap (λ j. drop start (take j xs)) parts ∙ drop-take start (end - start) xs in
    let after = ys ++ post_of end k xs in
    ap (take (end + n - start)) (drop-append-le start (take end xs) after (omega arith))
    ∙ ap (λ j. take j (held ++ after)) sum ∙ take-add (end - start) n (held ++ after)
    ∙ (rw (take_at held after _ len, drop_at held after _ len, take-append-le n ys (post_of end k xs) fits, same) refl)

pub passed : (xs : List ℕ) (start end count : ℕ) → start + count ≤ end
    → slice_range xs (start + count) end ≡ drop count (slice_range xs start end)
passed xs start end count inside =
    let parts : end - start ≡ count + (end - (start + count)) = omega arith in
    sym (ap (λ j. drop count (take j (drop start xs))) parts ∙ drop-take count _ (drop start xs)
    ∙ ap (take (end - (start + count))) (drop-drop count start xs))

pub length_items : (xs : List ℕ) (start end : ℕ) → start ≤ end → end ≤ length xs → length (slice_range xs start end) ≡ end - start
length_items xs start end ordered within = length-take-le (end - start) (drop start xs) (omega (arith, length-drop start xs))

-- ---- what a disk shows

if_some : (o : Option (List ℕ)) (P Q : List ℕ → Type 0) → IfSome o P → ((f : List ℕ) → P f → Q f) → IfSome o Q
if_some None P Q holds more = tt
if_some (Some f) P Q holds more = more f holds

if_both : (o : Option (List ℕ)) (P Q R : List ℕ → Type 0) → IfSome o P → IfSome o Q → ((f : List ℕ) → P f → Q f → R f) → IfSome o R
if_both None P Q R p q more = tt
if_both (Some f) P Q R p q more = more f p q

pub cut : (f xs : List ℕ) → StartsWith f xs → f ≡ xs ++ drop (length xs) f
cut f xs a = sym (take-append-drop (length xs) f) ∙ ap (λ (l : List ℕ). l ++ drop (length xs) f) a

pub starts : (f xs rest : List ℕ) → f ≡ xs ++ rest → StartsWith f xs
starts f xs rest is = ap (λ (l : List ℕ). take (length xs) l) is ∙ take-append_seam xs rest

starts_both : (f xs ys : List ℕ) → StartsWith f xs → StartsWith (drop (length xs) f) ys → StartsWith f (xs ++ ys)
starts_both f xs ys a b =
    ap (λ (n : ℕ). take n f) (length-append xs ys) ∙ take-add (length xs) (length ys) f
    ∙ ap (λ (l : List ℕ). l ++ take (length ys) (drop (length xs) f)) a ∙ ap (λ (l : List ℕ). xs ++ l) b

pub starts_first : (f xs ys : List ℕ) → StartsWith f (xs ++ ys) → StartsWith f xs
starts_first f xs ys a = starts f xs (ys ++ drop (length (xs ++ ys)) f) (cut f (xs ++ ys) a ∙ append_assoc xs ys (drop (length (xs ++ ys)) f))

pub starts_rest : (f xs ys : List ℕ) → StartsWith f (xs ++ ys) → StartsWith (drop (length xs) f) ys
starts_rest f xs ys a =
    let rest : List ℕ = drop (length (xs ++ ys)) f in
    starts (drop (length xs) f) ys rest (ap (λ (l : List ℕ). drop (length xs) l) (cut f (xs ++ ys) a ∙ append_assoc xs ys rest) ∙ drop-append_seam xs (ys ++ rest))

pub shows_both : (image : Option (List ℕ)) (at next : ℕ) (xs ys : List ℕ) → next ≡ at + length xs → Shows image at xs → Shows image next ys → Shows image at (xs ++ ys)
shows_both image at next xs ys is a b =
    if_both image (λ f. StartsWith (drop at f) xs) (λ f. StartsWith (drop next f) ys) (λ f. StartsWith (drop at f) (xs ++ ys)) a b
    (λ f p q. starts_both (drop at f) xs ys p (subst (λ (l : List ℕ). StartsWith l ys) (ap (λ (n : ℕ). drop n f) is ∙ sym (drop-drop (length xs) at f)) q))

pub shows_first : (image : Option (List ℕ)) (at n : ℕ) (xs : List ℕ) → Shows image at xs → Shows image at (take n xs)
shows_first image at n xs a =
    if_some image (λ f. StartsWith (drop at f) xs) (λ f. StartsWith (drop at f) (take n xs)) a
    (λ f p. starts_first (drop at f) (take n xs) (drop n xs) (subst (λ (l : List ℕ). StartsWith (drop at f) l) (sym (take-append-drop n xs)) p))

pub shows_rest : (image : Option (List ℕ)) (at n : ℕ) (xs : List ℕ) → n ≤ length xs → Shows image at xs → Shows image (at + n) (drop n xs)
shows_rest image at n xs within a =
    if_some image (λ f. StartsWith (drop at f) xs) (λ f. StartsWith (drop (at + n) f) (drop n xs)) a
    (λ f p. subst (λ (l : List ℕ). StartsWith l (drop n xs)) (drop-drop n at f)
    (subst (λ (k : ℕ). StartsWith (drop k (drop at f)) (drop n xs)) (length-take-le n xs within)
    (starts_rest (drop at f) (take n xs) (drop n xs) (subst (λ (l : List ℕ). StartsWith (drop at f) l) (sym (take-append-drop n xs)) p))))

pub shows_none : (image : Option (List ℕ)) (at : ℕ) → Shows image at []
shows_none None at = tt
shows_none (Some f) at = refl

-- a number among the bytes that a list starts with
pub u64_same : (xs ys : List ℕ) (at : ℕ) → at + 8 ≤ length xs → StartsWith ys xs → u64_in ys at ≡ u64_in xs at
unfolding u64_in
u64_same xs ys at fits a =
    let rest = drop (length xs) ys in
    ap (λ (l : List ℕ). from_be_bytes w64 (take 8 (drop at l))) (cut ys xs a)
    ∙ ap (λ (l : List ℕ). from_be_bytes w64 (take 8 l)) (drop-append-le at xs rest (omega arith))
    ∙ ap (λ (l : List ℕ). from_be_bytes w64 l) (take-append-le 8 (drop at xs) rest (omega (arith, length-drop at xs)))

-- ---- what a filled window shows and holds

-- bytes that were read behind others
abbrev pub Reads : (image : Option (List ℕ)) (at count : ℕ) (old new : List ℕ) → Type 0
Reads image at count old new = (more : List ℕ) × (new ≡ old ++ more) × (length more ≡ count) × Shows image at more

pub read_shows : {T E : Type 0} (r : Result T E) (image : Option (List ℕ)) (place at count : ℕ) (first old new : List ℕ) → OnOk r (Reads image at count old new) → old ≡ first → at ≡ place + length first
    → Shows image place first → OnOk r (Shows image place new)
read_shows (Err e) image place at count first old new more same is a = tt
read_shows (Ok x) image place at count first old new more same is a =
    subst (λ (l : List ℕ). Shows image place l) (sym (more.1 ∙ ap (λ (l : List ℕ). l ++ more.0) same)) (shows_both image place at first more.0 is a more.3)

held_by : (t : Bool) (left e : ℕ) (bytes : List ℕ) → nat_le left e ≡ t → u64_in bytes 4 ≡ e → 24 ≤ length bytes → min e left ≤ length bytes → length bytes ≤ left → HoldsBlock left bytes
held_by true left e bytes is same long enough within = let le : left ≤ e = leb-true _ _ is in inl (omega arith)
held_by false left e bytes is same long enough within = let lt : e < left = grind (arith, nat_tests) in inr (long, λ small. omega (arith, same))

pub fill_holds : {T E : Type 0} (r : Result T E) (left e : ℕ) (old new : List ℕ) → e ≡ u64_in old 4 → 24 ≤ length old → OnOk r (StartsWith new old) → OnOk r (min e left ≤ length new) → OnOk r (length new ≤ left)
    → OnOk r (HoldsBlock left new)
fill_holds (Err x) left e old new is long starts enough within = tt
fill_holds (Ok x) left e old new is long starts enough within =
    let same : u64_in new 4 ≡ u64_in old 4 = u64_same old new 4 (omega arith) starts in
    held_by (nat_le left e) left e new refl (same ∙ sym is) (omega (arith, ap length starts, length-take (length old) new)) enough within

pub length_put : (at k : ℕ) (xs ys : List ℕ) → at + k ≤ length xs → length ys ≡ k → length (put_mid at k xs ys) ≡ length xs
length_put at k xs ys fits is =
    omega (arith, length-append (take at xs) (ys ++ drop k (drop at xs)), length-append ys (drop k (drop at xs)), length-take-le at xs (omega arith), length-drop k (drop at xs), length-drop at xs)
