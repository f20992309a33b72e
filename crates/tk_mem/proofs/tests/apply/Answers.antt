use Rattle.std.proofs.Common.{◌++◌}
use Rattle.tk_store.specs.Store.{groups_made_by}
use Rattle.tk_store.proofs.Fits.{fits_more}
use Rattle.tk_mem.proofs.tests.apply.Goals as goal

pub returns-clause-whole : goal.returns-clause-whole
returns-clause-whole g c =
    let (first, since, hard, st) = c.requires.whole in
    let checked = c.in_ok-need.ensures.looks.keeps first since hard st in
    let reserved = c.in_ok-reserve_group.ensures.stands first since hard checked in
    (first, since ++ groups_made_by (g.S.SeqStore.constants c.reserve_group.new.self) c.args.number c.args.changes.now, hard, c.in_ok-apply_reserved.ensures.stands c.args.changes.now c.in_ok-reserve_group.ensures.reserved first since hard reserved)

pub check_group-requires-clause-fit : goal.check_group-requires-clause-fit
check_group-requires-clause-fit g c = fits_more 16777215 _ c.args.changes.now (g.met.S.SeqStore.values c.args.store.now).0 c.requires.fit

pub reserve_group-requires-clause-fit : goal.reserve_group-requires-clause-fit
reserve_group-requires-clause-fit g c = fits_more 16777215 _ c.args.changes.now (g.met.S.SeqStore.values c.check_group.new.self).0 c.requires.fit
