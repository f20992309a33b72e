use Rattle.std.proofs.Common.{[], ◌++◌}
use Rattle.tk_store.specs.Store.{groups_made_by}
use Rattle.tk_dbm.proofs.dbm.Dbm.sync_hard.Goals as goal

pub sync-requires-clause-whole : goal.sync-requires-clause-whole
sync-requires-clause-whole g c = let w = c.requires.whole in (w.0, w.1 ++ groups_made_by (g.S.SeqStore.constants c.args.store.now) c.args.number [], w.2, c.in_ok-apply_reserved.ensures.stands [] c.requires.reserved w.0 w.1 w.2 w.3)

pub returns-clause-stands : goal.returns-clause-stands
returns-clause-stands g c first since hard stood = c.sync.ensures.stands first (since ++ groups_made_by (g.S.SeqStore.constants c.args.store.now) c.args.number []) hard (c.in_ok-apply_reserved.ensures.stands [] c.requires.reserved first since hard stood)
