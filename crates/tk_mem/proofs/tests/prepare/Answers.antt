use Rattle.tk_store.proofs.Fits.{fits_more}
use Rattle.tk_mem.proofs.tests.prepare.Goals as goal

pub reserve_group-requires-clause-fit : goal.reserve_group-requires-clause-fit
reserve_group-requires-clause-fit g c = fits_more 16777215 _ c.args.changes.now (g.met.S.SeqStore.values c.args.store.now).0 c.requires.fit
