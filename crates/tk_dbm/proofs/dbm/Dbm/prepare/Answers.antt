use Rattle.std.proofs.Common.{length, subst, sym, arith}
use Rattle.tk_model.specs.Entries.{shard_records}
use Rattle.tk_core.specs.Rule.{map_after, shard}
use Rattle.tk_dbm.specs.Dbm.{its, setting, view}
use Rattle.tk_dbm.specs.declared.visit.Work.{Work}
use Rattle.tk_dbm.specs.Visiting.{IsSum}
use Rattle.tk_dbm.proofs.Goods.{counted_in}
use Rattle.tk_dbm.proofs.dbm.Dbm.prepare.Goals as goal

pub returns-in-Some-clause-sum : goal.returns-in-Some-clause-sum
returns-in-Some-clause-sum g c tells = let k = counted_in g.S.SeqStore.lawful g.S.SeqStore.stands g.S.SeqStore.store_view g.S.SeqStore.constants (its c.args.self.now) c.requires.fresh c.args.part.now.store c.requires.out.low g.met.S.SeqStore.replays
    c.args.home.now.store (view c.args.pass.now).caller.base _ (c.requires.out.owed c.requires.whole) tells c.count.result c.count.ensures in
    let e = c.in-Some.ensures.1 in
    subst (λ (w : Work). IsSum w c.args.sum (length (shard_records (shard (its c.args.self.now).frame c.args.part.now.store) (map_after (its c.args.self.now).frame
    (setting g.S.SeqStore.lawful g.S.SeqStore.store_view g.S.SeqStore.fault_count c.args.self.now).first (view c.args.pass.now).caller.base))) c.in-Some.sum) (sym c.in-Count.is) (omega arith)
