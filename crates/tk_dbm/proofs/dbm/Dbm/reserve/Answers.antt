use Rattle.std.proofs.Common.{◌≡◌, true, ⊎_elim}
use Rattle.tk_store.proofs.Fits.{fits_more}
use Rattle.tk_dbm.specs.Dbm.{its, view, writes}
use Rattle.tk_dbm.proofs.Goods.{whole, unclosed, writes as is_writable}
use Rattle.tk_dbm.proofs.Reserving.{reserved_out}
use Rattle.tk_dbm.proofs.dbm.Dbm.reserve.Goals as goal

pub reserve_group-requires-clause-whole : goal.reserve_group-requires-clause-whole
reserve_group-requires-clause-whole g c = whole g.S.SeqStore.lawful g.S.SeqStore.stands g.S.SeqStore.store_view g.S.SeqStore.constants (its c.args.self.now) c.requires.fresh c.args.i c.requires.out.low c.args.home.now.store _ _ (c.requires.out.owed c.requires.whole)

pub reserve_group-requires-clause-open : goal.reserve_group-requires-clause-open
reserve_group-requires-clause-open g c = unclosed g.S.SeqStore.lawful g.S.SeqStore.stands g.S.SeqStore.store_view g.S.SeqStore.constants (its c.args.self.now) c.requires.fresh c.args.i c.requires.out.low c.args.home.now.store _ _ (c.requires.out.owed c.requires.whole)

pub reserve_group-requires-clause-fit : goal.reserve_group-requires-clause-fit
reserve_group-requires-clause-fit g c = fits_more 16777215 _ c.args.changes.now (g.met.S.SeqStore.values c.args.home.now.store).0 c.requires.fit

pub reserve_group-requires-clause-writable : goal.reserve_group-requires-clause-writable
reserve_group-requires-clause-writable g c not = ⊎_elim
    (λ (w : writes c.args.self.now ≡ true). absurd (cc (
      is_writable g.S.SeqStore.lawful g.S.SeqStore.stands g.S.SeqStore.store_view g.S.SeqStore.constants (its c.args.self.now) c.requires.fresh c.args.i c.requires.out.low c.args.home.now.store _ _ (writes c.args.self.now)
          c.requires.writable.0 w (c.requires.out.owed c.requires.whole),
      not,
    ))) (λ e. e) c.requires.writable.1

pub returns-clause-out : goal.returns-clause-out
returns-clause-out g c = reserved_out g.S.SeqStore.lawful g.S.SeqStore.stands g.S.SeqStore.store_view g.S.SeqStore.constants g.S.SeqStore.fault_count (its c.args.self.now) c.requires.fresh c.args.i (view c.args.pass.now) c.args.home.now c.reserve_group.new.self
    c.requires.whole c.requires.out c.reserve_group.result c.reserve_group.ensures.stands c.reserve_group.ensures.contents c.reserve_group.ensures.goes_on.same_nature c.reserve_group.ensures.cause.later
