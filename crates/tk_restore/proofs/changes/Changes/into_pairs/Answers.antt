use Rattle.std.proofs.Common.{◌≡◌, List, ℕ, [], sym, subst}
use Rattle.std.specs.Prelude.{Result, Ok, Err, IfOk}
use Rattle.tk_model.specs.Records.{after}
use Rattle.tk_model.specs.declared.record.Change.{Change}
use Rattle.tk_model.specs.declared.record.Order.TheVariants.{Hash}
use Rattle.tk_model.specs.declared.record.Pair.{Pair}
use Rattle.tk_block.specs.Blocks.{AllSmall}
use Rattle.tk_append.specs.Fresh.{AllPairsSmall}
use Rattle.tk_restore.specs.Changes.{AllEntries}
use Rattle.tk_restore.proofs.Entries.{changes_small}
use Rattle.tk_restore.proofs.Held.{after_small}
use Rattle.tk_restore.proofs.changes.Changes.into_pairs.Goals as goal

small_of : {E : Type 0} (r : Result (List Pair) E) (cs : List Change) → IfOk r (λ pairs. pairs ≡ after Hash cs []) → AllSmall cs → IfOk r AllPairsSmall
small_of (Ok pairs) cs is small = subst AllPairsSmall (sym is) (after_small cs [] small tt)
small_of (Err error) cs is small = tt

pub pairs_of-requires : goal.pairs_of-requires
pairs_of-requires c =
    let bytes = c.self.inside.bytes.items in
    subst (λ (l : List ℕ). AllEntries l c.deref-2.result.now) (sym c.deref.ensures.value)
    (subst (AllEntries bytes) (sym c.deref-2.ensures.value) (c.in_ok-sort.ensures.entries bytes c.self.invariant))

pub returns-clause-small : goal.returns-clause-small
returns-clause-small c =
    let bytes = c.self.inside.bytes.items in
    small_of c.pairs_of.result _ c.pairs_of.ensures
    (changes_small c.deref.result.now c.deref-2.result.now
    (subst (λ (l : List ℕ). AllEntries l c.deref-2.result.now) (sym c.deref.ensures.value)
    (subst (AllEntries bytes) (sym c.deref-2.ensures.value) (c.in_ok-sort.ensures.entries bytes c.self.invariant))))
