use Rattle.std.proofs.Common.{◌≡◌, ◌+◌, List, Option, replicate, rules, sym, subst, ap}
use Rattle.atomic_table.specs.Table.{opening}
use Rattle.tk_locks.specs.declared.home.Home.{Home}
use Rattle.tk_locks.specs.Made.{Fresh}
use Rattle.tk_locks.specs.Rule.{Ground, Rule}
use Rattle.tk_locks.specs.View.{first_view}
use Rattle.tk_locks.proofs.Whole.{opens}
use Rattle.tk_locks.proofs.table.LockTable.make_as.Goals as goal

pub new-requires : goal.new-requires
new-requires g c =
    let e : c.args.stores.items ≡ c.of.result.value.items = ap (λ v. v.items) (sym c.of.ensures) in
    let is : c.as_slice.result.now ≡ replicate (c.args.frame.stripes + c.args.frame.stores + 1) 0 = search rules in
    let k : Ground g.row.S.Denot = record { frame = c.args.frame; start = c.of.result.value.items } in
    subst (λ (xs : List (Option (Home g.row.S.Denot))). Rule g.S.SeqStore.lawful g.S.SeqStore.stands g.S.SeqStore.store_view g.S.SeqStore.constants g.S.SeqStore.fault_count k (opening c.as_slice.result.now xs first_view)) (sym e)
    (opens g.S.SeqStore.lawful g.S.SeqStore.stands g.S.SeqStore.store_view g.S.SeqStore.constants g.S.SeqStore.fault_count k c.as_slice.result.now is c.requires.frame
    (subst (λ (xs : List (Option (Home g.row.S.Denot))). Fresh g.S.SeqStore.lawful g.S.SeqStore.stands g.S.SeqStore.store_view g.S.SeqStore.constants c.args.frame xs) e c.requires.fresh))
