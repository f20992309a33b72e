use Rattle.std.proofs.Common.{ap, arith}
use Rattle.tk_locks.specs.Calls.{view as view_of}
use Rattle.tk_dbm.specs.Dbm.{its}
use Rattle.tk_dbm.proofs.Goods.{whole, stays, next_stays, found_value}
use Rattle.tk_dbm.proofs.dbm.Dbm.value.Goals as goal

pub get-requires : goal.get-requires
get-requires g c = record { whole = whole g.S.SeqStore.lawful g.S.SeqStore.stands g.S.SeqStore.store_view g.S.SeqStore.constants (its c.args.self.now) c.requires.fresh c.args.i c.requires.out.low c.args.home.now.store _ _ (c.requires.out.owed c.requires.whole) }

pub returns-clause-out : goal.returns-clause-out
returns-clause-out g c = let looks = c.get.ensures.looks in let out = c.requires.out in record {
  low = out.low;
  holds = out.holds;
  owed = λ _. stays g.S.SeqStore.lawful g.S.SeqStore.stands g.S.SeqStore.store_view g.S.SeqStore.constants (its c.args.self.now) c.requires.fresh c.args.i out.low c.args.home.now.store c.get.new.self _ _ looks.keeps looks.same_nature
      (ap (λ z. z.map) looks.same_shown) (ap (λ z. z.closed) looks.same_shown) (out.owed c.requires.whole);
  stays = out.stays;
  counted = let a = out.counted in let b = c.get.ensures.cause.later in omega arith;
  follows = λ _. next_stays g.S.SeqStore.lawful g.S.SeqStore.stands g.S.SeqStore.store_view g.S.SeqStore.constants (its c.args.self.now) c.requires.fresh c.args.i out.low c.args.home.now.store c.get.new.self _ looks.same_nature (ap (λ z. z.floor) looks.same_shown) (out.follows c.requires.whole);
}

pub returns-clause-value : goal.returns-clause-value
returns-clause-value g c told = found_value g.S.SeqStore.lawful g.S.SeqStore.stands g.S.SeqStore.store_view g.S.SeqStore.constants (its c.args.self.now) c.requires.fresh c.args.i c.requires.out.low g.met.S.SeqStore.replays
    c.args.home.now.store (view_of c.args.token.now).caller.base _ c.args.key.now c.requires.key (c.requires.out.owed c.requires.whole) told c.get.result _ _ c.get.ensures.value
