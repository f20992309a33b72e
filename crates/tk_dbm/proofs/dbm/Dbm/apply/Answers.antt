use Rattle.tk_dbm.specs.Dbm.{its, view}
use Rattle.tk_dbm.proofs.Goods.{whole, unclosed}
use Rattle.tk_dbm.proofs.Reserving.{applied_out}
use Rattle.tk_dbm.proofs.dbm.Dbm.apply.Goals as goal

pub apply_reserved-requires-clause-whole : goal.apply_reserved-requires-clause-whole
apply_reserved-requires-clause-whole g c = whole g.S.SeqStore.lawful g.S.SeqStore.stands g.S.SeqStore.store_view g.S.SeqStore.constants (its c.args.self.now) c.requires.fresh c.args.i c.requires.ready.low c.args.home.now.store _ _ c.requires.ready.good_then

pub apply_reserved-requires-clause-open : goal.apply_reserved-requires-clause-open
apply_reserved-requires-clause-open g c = unclosed g.S.SeqStore.lawful g.S.SeqStore.stands g.S.SeqStore.store_view g.S.SeqStore.constants (its c.args.self.now) c.requires.fresh c.args.i c.requires.ready.low c.args.home.now.store _ _ c.requires.ready.good_then

pub returns-clause-out : goal.returns-clause-out
returns-clause-out g c = let ready = c.requires.ready in applied_out g.S.SeqStore.lawful g.S.SeqStore.stands g.S.SeqStore.store_view g.S.SeqStore.constants g.S.SeqStore.fault_count (its c.args.self.now) c.requires.fresh c.args.i c.args.number (view c.args.pass.now)
    c.args.home.now.store c.apply_reserved.new.self c.args.home.now.broken c.requires.whole g.S.SeqStore.reserved ready c.apply_reserved.result (c.apply_reserved.ensures.stands ready.changes ready.ready) (c.apply_reserved.ensures.floor ready.changes ready.ready)
    c.apply_reserved.ensures.goes_on.same_nature c.apply_reserved.ensures.goes_on.tells c.apply_reserved.ensures.open c.apply_reserved.ensures.cause.later
