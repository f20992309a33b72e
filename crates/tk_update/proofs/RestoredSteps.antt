-- What a crash image is restored to.
use Rattle.std.proofs.Common.{◌≡◌, ℕ, Bool, true, false, List, [], ◌∷◌, refl, sym, ◌∙◌, ap, subst, if◌then◌else◌}
use Rattle.std.specs.Prelude.{Option, Some, None, ◌==◌, ◌&&◌, ◌||◌}
use Rattle.tk_model.specs.Orders.{same_bytes}
use Rattle.tk_model.specs.Records.{find, put, Rising}
use Rattle.tk_model.proofs.KeyOrders.{same_told}
use Rattle.tk_model.proofs.RecordLaws.{put_rising, find_put_same, find_put_other}
use Rattle.tk_model.specs.declared.record.Order.{Order}
use Rattle.tk_model.specs.declared.record.Pair.{Pair}
use Rattle.tk_block.specs.declared.block.Body.{Body}
use Rattle.tk_block.specs.Layout.{Placed}
use Rattle.tk_update.specs.Blocks.{is_of, value_in}
use Rattle.tk_update.specs.Laws.{RestoresValues}
use Rattle.tk_update.specs.Restored.{newer, newest_of, restore_one, newest_records, restored_blocks}
use Rattle.tk_update.proofs.KeptKeys.{has}

no_both : (o : Option (List ℕ)) (b : Bool) → (if b then o else o) ≡ o
no_both o true = refl
no_both o false = refl

one_if : (o : Order) (k key : List ℕ) (t s h : Bool) (v w : Option (List ℕ)) (b : Body) (m : List Pair) → b.key ≡ key → (b.kind == 1) ≡ t → same_bytes k b.key ≡ s → (s ≡ true → w ≡ v) → find k m ≡ (if h then w else None)
    → find k (restore_one o b v m) ≡ (if (t && s) || h then w else None)
one_if o k key t true h None w b m at kind same is go =
    go ∙ ap (λ (z : Option (List ℕ)). if h then z else None) (is refl) ∙ no_both None h ∙ sym (no_both None ((t && true) || h)) ∙ sym (ap (λ (z : Option (List ℕ)). if (t && true) || h then z else None) (is refl))
one_if o k key true false h None w b m at kind same is go = go
one_if o k key false false h None w b m at kind same is go = go
one_if o k key false s h (Some u) w b m at kind same is go = ap (λ (z : Bool). find k (if z then put o (record { key = b.key; value = u }) m else m)) kind ∙ go
one_if o k key true false h (Some u) w b m at kind same is go =
    ap (λ (z : Bool). find k (if z then put o (record { key = b.key; value = u }) m else m)) kind ∙ find_put_other o k (record { key = b.key; value = u }) m same ∙ go
one_if o k key true true h (Some u) w b m at kind same is go =
    ap (λ (z : Bool). find k (if z then put o (record { key = b.key; value = u }) m else m)) kind
    ∙ subst (λ (j : List ℕ). find j (put o (record { key = b.key; value = u }) m) ≡ Some u) (sym (same_told k b.key same)) (find_put_same o (record { key = b.key; value = u }) m)
    ∙ sym (is refl)

find_restored : (o : Order) (k : List ℕ) (all xs : List Placed) → find k (newest_records o all xs) ≡ (if has k xs then value_in (newest_of k all) else None)
find_restored o k all [] = refl
find_restored o k all (x ∷ xs) =
    one_if o k x.body.key (x.body.kind == 1) (same_bytes k x.body.key) (has k xs) (value_in (newest_of x.body.key all)) (value_in (newest_of k all)) x.body (newest_records o all xs) refl refl refl
    (λ same. ap (λ (j : List ℕ). value_in (newest_of j all)) (same_told k x.body.key same)) (find_restored o k all xs)

newest_if : (k : List ℕ) (t h : Bool) (x : Placed) (o : Option Placed) → (h ≡ false → o ≡ None) → (t || h) ≡ false → (if t then newer x o else o) ≡ None
newest_if k true h x o go none = absurd (cc)
newest_if k false h x o go none = go none

newest_none : (k : List ℕ) (xs : List Placed) → has k xs ≡ false → newest_of k xs ≡ None
newest_none k [] none = refl
newest_none k (x ∷ xs) none = newest_if k (is_of k x.body) (has k xs) x (newest_of k xs) (λ more. newest_none k xs more) none

settle : (t : Bool) (o : Option Placed) → (t ≡ false → o ≡ None) → (if t then value_in o else None) ≡ value_in o
settle true o go = refl
settle false o go = ap value_in (sym (go refl))

rising_if : (o : Order) (v : Option (List ℕ)) (b : Body) (m : List Pair) → Rising o m → Rising o (restore_one o b v m)
rising_if o None b m up = up
rising_if o (Some u) b m up = step (b.kind == 1)
  where
    step : (t : Bool) → Rising o (if t then put o (record { key = b.key; value = u }) m else m)
    step true = put_rising o (record { key = b.key; value = u }) m up
    step false = up

rising_from : (o : Order) (all xs : List Placed) → Rising o (newest_records o all xs)
rising_from o all [] = tt
rising_from o all (x ∷ xs) = rising_if o (value_in (newest_of x.body.key all)) x.body (newest_records o all xs) (rising_from o all xs)

pub restores_values : (o : Order) → RestoresValues o
restores_values o = record {
  found = λ c k. find_restored o k (restored_blocks c) (restored_blocks c) ∙ settle (has k (restored_blocks c)) (newest_of k (restored_blocks c)) (newest_none k (restored_blocks c));
  rising = λ c. rising_from o (restored_blocks c) (restored_blocks c);
}
