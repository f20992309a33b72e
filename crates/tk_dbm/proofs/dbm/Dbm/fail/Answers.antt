use Rattle.std.proofs.Common.{arith}
use Rattle.tk_dbm.specs.Dbm.{its, view}
use Rattle.tk_locks.specs.Rule.{count_at}
use Rattle.tk_dbm.proofs.Changing.{may_mark}
use Rattle.tk_dbm.proofs.dbm.Dbm.fail.Goals as goal

pub refuse-requires-clause-out : goal.refuse-requires-clause-out
refuse-requires-clause-out g c = record {
  low = c.requires.holds.0;
  holds = c.requires.holds.1;
  owed = λ e. absurd (cc (e));
  stays = may_mark (its c.args.self.now).frame (count_at g.S.SeqStore.fault_count (its c.args.self.now).start) c.args.i _ c.faults-faults.result (view c.args.pass.now) c.requires.holds.0 c.requires.whole c.requires.begun (let r = c.requires.rose.0 in let e = c.faults-faults.ensures in omega arith);
  counted = let r = c.requires.rose.1 in omega arith;
  follows = λ e. absurd (cc (e));
}
