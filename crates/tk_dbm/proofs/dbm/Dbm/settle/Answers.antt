use Rattle.std.proofs.Common.{rules, inr, Some, ap, arith}
use Rattle.tk_status.specs.declared.Status.TheVariants.{System}
use Rattle.tk_locks.specs.Rule.{count_at}
use Rattle.tk_dbm.specs.Dbm.{its, view}
use Rattle.tk_dbm.proofs.Changing.{may_mark, fault_only}
use Rattle.tk_dbm.proofs.dbm.Dbm.settle.Goals as goal

pub overflow_add-self : goal.overflow_add-self
overflow_add-self g c = let b = c.args.self.now.sized.1 in let n = (c.requires.due c.in-Some.number c.in-Some.is).1 in omega arith

pub returns-in-Err : goal.returns-in-Err
returns-in-Err g c =
    let rose = fault_only (g.S.SeqStore.fault_count c.args.home.now.store) (g.S.SeqStore.fault_count c.finish.new.home.store) c.finish.result _ c.in-Err.is c.finish.ensures.answers c.finish.ensures.cause in
    let e = c.faults-faults.ensures in record {
      out = record {
        low = c.requires.holds.0;
        holds = c.requires.holds.1;
        owed = λ z. absurd (cc (z));
        stays = may_mark (its c.args.self.now).frame (count_at g.S.SeqStore.fault_count (its c.args.self.now).start) c.args.i (g.S.SeqStore.fault_count c.args.home.now.store) c.faults-faults.result (view c.args.pass.now) c.requires.holds.0 c.requires.whole.1 c.requires.begun (omega arith);
        counted = let q = c.requires.holds.2 in let l = c.finish.ensures.cause.later in omega arith;
        follows = λ z. absurd (cc (z));
      };
      settled = inr (inr (c.in-Some.number, c.in-Some.is, search rules, ap System e, ap Some e, rose));
    }
