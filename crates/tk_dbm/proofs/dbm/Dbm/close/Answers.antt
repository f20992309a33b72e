use Rattle.std.proofs.Common.{◌+◌, ℕ, List, sym, ap, subst}
use Rattle.tk_core.specs.declared.frame.Frame.{Frame}
use Rattle.tk_locks.specs.declared.home.Home.{Home}
use Rattle.tk_dbm.specs.Closing.{IsClosed}
use Rattle.tk_dbm.specs.Dbm.{its, view}
use Rattle.tk_dbm.specs.Ending.{AllMayEnd, EndsAll}
use Rattle.tk_dbm.proofs.Closing.{may_end_all, closes}
use Rattle.tk_dbm.proofs.dbm.Dbm.close.Goals as goal

pub end_all-stores-requires-clause-may : goal.end_all-stores-requires-clause-may
end_all-stores-requires-clause-may g c =
    let calls : ℕ = c.dissolve-stores.result.calls in let next = ap (λ (f : Frame). f.base + calls) c.args.self.framed in
    subst (λ (z : ℕ × List (Home g.row.S.Denot)). AllMayEnd g.S.SeqStore.stands g.S.SeqStore.store_view g.S.SeqStore.constants z.0 z.1) (λ t. (sym next t, sym c.into_vec.ensures t))
    (may_end_all g.S.SeqStore.lawful g.S.SeqStore.stands g.S.SeqStore.store_view g.S.SeqStore.constants g.S.SeqStore.fault_count (its c.args.self) (view c.args.pass) calls c.dissolve-stores.result.stores c.dissolve-stores.ensures.end)

pub returns : goal.returns
returns g c =
    let calls : ℕ = c.dissolve-stores.result.calls in let next = ap (λ (f : Frame). f.base + calls) c.args.self.framed in
    let ended = subst (λ (z : ℕ × List (Home g.row.S.Denot)). EndsAll g.S.SeqStore.stands g.S.SeqStore.store_view g.S.SeqStore.constants g.S.SeqStore.fault_count z.0 z.1 c.end_all-stores.result.0.items c.end_all-stores.result.1) (λ t. (next t, c.into_vec.ensures t)) c.end_all-stores.ensures in
    record {
      closed = subst (λ (ys : List g.row.S.Denot). IsClosed g.S.SeqStore.lawful g.S.SeqStore.stands g.S.SeqStore.store_view g.S.SeqStore.constants g.S.SeqStore.fault_count (its c.args.self) (view c.args.pass) (record { status = c.end_all-stores.result.1; stores = ys; calls = calls })) (sym c.from_vec.ensures)
          (closes g.S.SeqStore.lawful g.S.SeqStore.stands g.S.SeqStore.store_view g.S.SeqStore.constants g.S.SeqStore.fault_count (its c.args.self) (view c.args.pass) calls c.dissolve-stores.result.stores c.end_all-stores.result.0.items c.end_all-stores.result.1 c.dissolve-stores.ensures.end ended);
    }
