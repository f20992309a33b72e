use Rattle.std.proofs.Common.{ap, ◌∙◌}
use Rattle.tk_locks.specs.Calls.{its}
use Rattle.tk_locks.proofs.Views.{own_given}
use Rattle.tk_locks.proofs.table.LockTable.give_store.Goals as goal

pub returns-clause-own : goal.returns-clause-own
returns-clause-own g c = (
  c.close.ensures.0 ∙ c.give_store_as.ensures.own.0 ∙ c.open-seat.ensures.0 ∙ c.requires.own.0,
  own_given (its c.args.self.now).frame c.args.i c.args.home.broken (g.S.SeqStore.fault_count c.args.home.store) c.args.pass.now c.close.new.self c.open-seat.result.me.0 c.give_store_as.new.seat.me.0 c.requires.own.1
      (ap (λ m. m.0) c.open-seat.ensures.1) c.give_store_as.ensures.step c.close.ensures.1 c.close.ensures.2 (c.close.ensures.3 ∙ c.open-seat.ensures.2),
)
