-- After the changes of an update the file has just the pages of the new tree.
use Rattle.std.proofs.Common.{◌≡◌, ℕ, zero, suc, take, Bool, true, false, if◌then◌else◌, List, [], ◌∷◌, Option, Some, None, refl, sym, subst, ◌∙◌, arith}
use Rattle.std.specs.Prelude.{◌==◌, nat_lt}
use Rattle.std.proofs.lemmas.Bool.Decides.{nat_tests}
use Rattle.tk_model.specs.Orders.{same_bytes}
use Rattle.tk_model.specs.Records.{find, after_one, after, replay, Rising}
use Rattle.tk_model.specs.declared.record.Order.{Order}
use Rattle.tk_model.specs.declared.record.Pair.{Pair}
use Rattle.tk_model.specs.declared.record.Group.{Group}
use Rattle.tk_model.specs.declared.record.Change.{Change}
use Rattle.tk_model.specs.declared.record.Change.TheVariants as changes
use Rattle.tk_model.proofs.KeyOrders.{same_told}
use Rattle.tk_model.proofs.RecordLaws.{one_rising, after_rising, find_put_same, find_put_other, find_without_same, find_without_other}
use Rattle.tk_tree.specs.Pages.{TreeState, number_key, pages_of, all_pages, IsStored, IsOther}
use Rattle.tk_tree.specs.Writes.{after_change, state_of, with_number, with_numbers, Updated, after_changes, updated, by_text, page_change, changes_at, page_changes, page_groups, state_after}
use Rattle.tk_tree.proofs.PutPages.{put_tree_keeps}
use Rattle.tk_tree.proofs.DropPages.{drop_tree_keeps, clear_tree_keeps}

-- ---- changes of the file

changed_same : (o : Order) (key : List ℕ) (text : Option (List ℕ)) (file : List Pair) → Rising o file → find key (after_one o (by_text key text) file) ≡ text
changed_same o key None file rising = find_without_same o key file rising
changed_same o key (Some v) file rising = find_put_same o (record { key = key; value = v }) file

changed_other : (o : Order) (k key : List ℕ) (text : Option (List ℕ)) (file : List Pair) → same_bytes k key ≡ false → find k (after_one o (by_text key text) file) ≡ find k file
changed_other o k key None file other = find_without_other k key file other
changed_other o k key (Some v) file other = find_put_other o k (record { key = key; value = v }) file other

changed : (o : Order) (pages file : List Pair) (k : List ℕ) (n : ℕ) (ns : List ℕ) (b : Bool) → Rising o file → same_bytes k (number_key n) ≡ b → (IsOther k (n ∷ ns) → find k file ≡ find k pages)
    → IsOther k ns → find k (after_one o (page_change pages n) file) ≡ find k pages
changed o pages file k n ns true rising is right other =
    let at : k ≡ number_key n = same_told k (number_key n) is in
    subst (λ j. find j (after_one o (page_change pages n) file) ≡ find j pages) (sym at) (changed_same o (number_key n) (find (number_key n) pages) file rising)
changed o pages file k n ns false rising is right other = changed_other o k (number_key n) (find (number_key n) pages) file is ∙ right (is, other)

-- what was right of all pages but these, is right of all after their changes
pub all_changed : (o : Order) (pages : List Pair) (ns : List ℕ) (file : List Pair) (k : List ℕ) → Rising o file → (IsOther k ns → find k file ≡ find k pages) → find k (after o (changes_at pages ns) file) ≡ find k pages
all_changed o pages [] file k rising right = right tt
all_changed o pages (n ∷ ns) file k rising right =
    all_changed o pages ns (after_one o (page_change pages n) file) k (one_rising o (page_change pages n) file rising) (changed o pages file k n ns (same_bytes k (number_key n)) rising refl right)

-- ---- the numbers of all pages that were written

eq_told : (m n : ℕ) → (m == n) ≡ true → m ≡ n
eq_told m n h = grind (arith, nat_tests)

with_by : (k : List ℕ) (a b : Bool) (n m : ℕ) (ms : List ℕ) → (n == m) ≡ a → (IsOther k (with_number n ms) → (same_bytes k (number_key n) ≡ false) × IsOther k ms)
    → IsOther k (if a then m ∷ ms else (if b then n ∷ m ∷ ms else m ∷ with_number n ms)) → (same_bytes k (number_key n) ≡ false) × IsOther k (m ∷ ms)
with_by k true b n m ms is deeper other = (subst (λ j. same_bytes k (number_key j) ≡ false) (sym (eq_told n m is)) other.0, other)
with_by k false true n m ms is deeper other = (other.0, other.1)
with_by k false false n m ms is deeper other = let d = deeper other.1 in (d.0, (other.0, d.1))

one_other : (k : List ℕ) (n : ℕ) (ms : List ℕ) → IsOther k (with_number n ms) → (same_bytes k (number_key n) ≡ false) × IsOther k ms
one_other k n [] other = other
one_other k n (m ∷ ms) other = with_by k (n == m) (nat_lt n m) n m ms refl (one_other k n ms) other

all_other : (k : List ℕ) (ns ms : List ℕ) → IsOther k (with_numbers ns ms) → IsOther k ns × IsOther k ms
all_other k [] ms other = (tt, other)
all_other k (n ∷ ns) ms other =
    let deeper = all_other k ns (with_number n ms) other in
    let one = one_other k n ms deeper.1 in ((one.0, deeper.0), one.1)

-- ---- updates

change_keeps : (k : List ℕ) (o : Order) (c : Change) (s : TreeState) → IsOther k (after_change o c s).wrote → find k (pages_of (after_change o c s).levels (after_change o c s).top) ≡ find k (pages_of s.levels s.top)
change_keeps k o (changes.Put p) s other = put_tree_keeps k o p s.levels s.top s.next other
change_keeps k o (changes.Drop key) s other = drop_tree_keeps k o key s.levels s.top s.next other
change_keeps k o changes.Clear s other = clear_tree_keeps k s.levels s.top s.next other

pub others_stay : (o : Order) (c : Change) (s : TreeState) (key : List ℕ) → IsOther key (after_change o c s).wrote → find key (pages_of (after_change o c s).levels (after_change o c s).top) ≡ find key (pages_of s.levels s.top)
others_stay o c s key other = change_keeps key o c s other

changes_keep : (k : List ℕ) (o : Order) (cs : List Change) (u : Updated) → IsOther k (after_changes o cs u).wrote
    → IsOther k u.wrote × (find k (pages_of (after_changes o cs u).state.levels (after_changes o cs u).state.top) ≡ find k (pages_of u.state.levels u.state.top))
changes_keep k o [] u other = (other, refl)
changes_keep k o (c ∷ cs) u other =
    let g = after_change o c u.state in
    let deeper = changes_keep k o cs (record { state = state_of g; wrote = with_numbers g.wrote u.wrote }) other in
    let both = all_other k g.wrote u.wrote deeper.0 in
    (both.1, deeper.1 ∙ change_keeps k o c u.state both.0)

meta_skipped : (k : List ℕ) (s : TreeState) → same_bytes k (number_key 0) ≡ false → find k (all_pages s) ≡ find k (pages_of s.levels s.top)
meta_skipped k s other = rw other refl

-- the file has just the pages of the tree after an update
pub update_stored : (o order : Order) (cs : List Change) (s : TreeState) (file : List Pair) → Rising order file → IsStored file s → IsStored (after order (page_changes o s cs) file) (updated o s cs).state
update_stored o order [] s file rising is = is
update_stored o order (c ∷ cs) s file rising is = λ k.
    let u = updated o s (c ∷ cs) in
    all_changed order (all_pages u.state) u.wrote file k rising (λ other.
    let kept = changes_keep k o (c ∷ cs) (record { state = s; wrote = 0 ∷ [] }) other in
    is k ∙ meta_skipped k s kept.0.0 ∙ sym kept.1 ∙ sym (meta_skipped k u.state kept.0.0))

-- so has it after a front of the groups of pages, with the tree after that front
pub fronts_stored : (o order : Order) (n : ℕ) (gs : List Group) (s : TreeState) (file : List Pair) → Rising order file → IsStored file s → IsStored (replay order (take n (page_groups o s gs)) file) (state_after o s (take n gs))
fronts_stored o order zero gs s file rising is = is
fronts_stored o order (suc n) [] s file rising is = is
fronts_stored o order (suc n) (g ∷ gs) s file rising is =
    fronts_stored o order n gs (updated o s g.changes).state (after order (page_changes o s g.changes) file) (after_rising order (page_changes o s g.changes) file rising) (update_stored o order g.changes s file rising is)
