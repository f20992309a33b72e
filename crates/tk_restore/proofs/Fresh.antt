-- The new file is the one to which the image is restored.
use Rattle.std.proofs.Common.{◌≡◌, ◌⊎◌, ℕ, ◌^◌, Bool, true, false, cond, eqb, List, [], ◌∷◌, ◌++◌, length, refl, sym, ◌∙◌, ap, subst, arith, inl, inr, append_assoc}
use Rattle.std.specs.Prelude.{map, nat_le, nat_lt, Option, Some, None, IfSome}
use Rattle.std.proofs.lemmas.Bool.Decides.{nat_tests}
use Rattle.std.proofs.lemmas.List.{append-nil}
use Rattle.tk_model.specs.declared.record.Pair.{Pair}
use Rattle.tk_model.specs.declared.record.Group.{Group}
use Rattle.tk_model.specs.declared.record.Change.TheVariants.{Put}
use Rattle.tk_model.specs.declared.record.Order.TheVariants.{Hash}
use Rattle.tk_model.specs.declared.error.OpenError.TheVariants.{NotADatabase, BrokenAt}
use Rattle.tk_model.specs.Records.{after, replay, Rising}
use Rattle.tk_model.proofs.RecordLaws.{replay_rising}
use Rattle.tk_store.proofs.Filling.{put_next}
use Rattle.tk_block.specs.Text.{static_at, base_of}
use Rattle.tk_block.specs.Layout.{end_of, bodies_of, file_text}
use Rattle.tk_block.specs.declared.head.StaticHead.{StaticHead}
use Rattle.tk_append.specs.Fresh.{together, apart, fresh_groups, fresh_next, fresh_text, fresh_size}
use Rattle.tk_append.specs.Restored.{groups_in, groups_by, restored_groups}
use Rattle.tk_restore.specs.Restoration.{restored_records, restored_head, restored_file, restored_size, IsAppending, refused_by, refusal}

-- ---- records that are set in their order

pub after_puts : (xs ys : List Pair) → Rising Hash (xs ++ ys) → after Hash (map Put ys) xs ≡ xs ++ ys
after_puts xs [] rising = sym (append-nil xs)
after_puts xs (p ∷ ys) rising =
    ap (λ (m : List Pair). after Hash (map Put ys) m) (put_next xs ys (xs ++ p ∷ ys) p rising refl)
    ∙ after_puts (xs ++ p ∷ []) ys (subst (Rising Hash) (sym (append_assoc xs (p ∷ []) ys)) rising)
    ∙ append_assoc xs (p ∷ []) ys

-- one group of all leaves them
pub together_leaves : (pairs : List Pair) → Rising Hash pairs → replay Hash (together 0 pairs) [] ≡ pairs
together_leaves [] rising = refl
together_leaves (p ∷ ps) rising = after_puts [] (p ∷ ps) rising

pub records_rising : (f : List ℕ) → Rising Hash (restored_records f)
records_rising f = replay_rising Hash (restored_groups f) [] tt

pub records_are : (h : StaticHead) (f : List ℕ) → static_at f ≡ Some h → replay Hash (groups_in h f) [] ≡ restored_records f
unfolding restored_groups
records_are h f is = ap (λ (o : Option StaticHead). replay Hash (groups_by f o) []) (sym is)

-- ---- the kind

no_updating : (h : StaticHead) → (h.kind ≡ 1) ⊎ (h.kind ≡ 3) → eqb h.kind 2 ≡ false
no_updating h (inl one) = ap (λ (k : ℕ). eqb k 2) one
no_updating h (inr three) = ap (λ (k : ℕ). eqb k 2) three

pub kind_of : (h : StaticHead) (f : List ℕ) → static_at f ≡ Some h → IsAppending f → (h.kind ≡ 1) ⊎ (h.kind ≡ 3)
kind_of h f is appending = subst (λ (o : Option StaticHead). IfSome o (λ h. (h.kind ≡ 1) ⊎ (h.kind ≡ 3))) is appending

in_one : (h : StaticHead) (f : List ℕ) (pairs : List Pair) → static_at f ≡ Some h → IsAppending f → fresh_groups h.kind 0 pairs ≡ together 0 pairs
in_one h f pairs is appending = ap (λ (b : Bool). cond b (apart 0 pairs) (together 0 pairs)) (no_updating h (kind_of h f is appending))

-- ---- what is refused

pub refused_headless : (image : Option (List ℕ)) (found : Option StaticHead) → found ≡ None → IfSome image (λ f. found ≡ static_at f) → IfSome image (λ f. refusal f ≡ Some NotADatabase)
unfolding refusal
refused_headless None found none is = tt
refused_headless (Some f) found none is = ap (refused_by f) (sym is ∙ none)

size_same : (h : StaticHead) (f : List ℕ) (pairs : List Pair) → static_at f ≡ Some h → IsAppending f → pairs ≡ restored_records f → fresh_size (restored_head h) 0 pairs ≡ restored_size h f
size_same h f pairs is appending records =
    ap (λ (gs : List Group). end_of (base_of h.p) (bodies_of gs)) (in_one h f pairs is appending ∙ ap (together 0) records)

refused_as : (t : Bool) (h : StaticHead) (f : List ℕ) → static_at f ≡ Some h → nat_lt (2 ^ 40) (restored_size h f) ≡ t → refusal f ≡ cond t (Some (BrokenAt 10)) None
unfolding refusal
refused_as t h f is long = ap (refused_by f) is ∙ ap (λ (b : Bool). cond b (Some (BrokenAt 10)) None) long

lt_by : (t : Bool) (n m : ℕ) → nat_le n m ≡ t → nat_lt m n ≡ cond t false true
lt_by true n m is = grind (arith, nat_tests)
lt_by false n m is = grind (arith, nat_tests)

-- by whether there is room
pub refused_by_room : (image : Option (List ℕ)) (found : Option StaticHead) (h : StaticHead) (pairs : List Pair) (t : Bool) → found ≡ Some h → IfSome image (λ f. found ≡ static_at f) → IfSome image IsAppending
    → IfSome image (λ f. pairs ≡ replay Hash (groups_in h f) []) → nat_le (fresh_size (restored_head h) 0 pairs) (2 ^ 40) ≡ t → IfSome image (λ f. refusal f ≡ cond (cond t false true) (Some (BrokenAt 10)) None)
refused_by_room None found h pairs t some is appending records room = tt
refused_by_room (Some f) found h pairs t some is appending records room =
    let static : static_at f ≡ Some h = sym is ∙ some in
    refused_as (cond t false true) h f static
    (ap (λ (n : ℕ). nat_lt (2 ^ 40) n) (sym (size_same h f pairs static appending (records ∙ records_are h f static))) ∙ lt_by t (fresh_size (restored_head h) 0 pairs) (2 ^ 40) room)

-- ---- what is written

pub file_same : (h : StaticHead) (f : List ℕ) (pairs : List Pair) → static_at f ≡ Some h → IsAppending f → pairs ≡ restored_records f → fresh_text (restored_head h) 0 pairs ≡ restored_file h f
file_same h f pairs is appending records =
    let new = restored_head h in
    let all = restored_records f in
    ap (λ (gs : List Group). file_text new gs (length pairs) (fresh_next 0 pairs)) (in_one h f pairs is appending)
    ∙ ap (λ (l : List Pair). file_text new (together 0 l) (length l) (fresh_next 0 l)) records
    ∙ ap (λ (l : List Pair). file_text new (together 0 all) (length l) (fresh_next 0 all)) (sym (together_leaves all (records_rising f)))
