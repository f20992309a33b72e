use Rattle.std.proofs.Common.{rules, ◌≡◌, ◌∙◌, ap, [], ◌++◌, Some, sum_by, true, false}
use Rattle.tk_store.specs.Store.{groups_made_by, extent_of}
use Rattle.tk_store.proofs.Whole.{stays_whole, sum_needed, stays_near}
use Rattle.tk_store.proofs.Fits.{fits_more}
use Rattle.tk_store.proofs.run.put_changes.Goals as goal

pub returns-clause-size : goal.returns-clause-size
returns-clause-size g c v ext =
    let some : c.args.changes.now ≡ [] → ⊥ = λ e. let wrong : false ≡ true = c.if-is_empty.ensures.1 e in cc in
    let same = c.in_ok-reserve_group.ensures.extents v ext in
    let need : (g.S.SeqStore.store_view c.args.store.now).needs c.args.changes.now ≡ Some (sum_by (extent_of v) c.args.changes.now) =
    g.met.S.SeqStore.by_extents c.args.store.now v c.args.changes.now ext ∙ ap Some (sum_needed (g.S.SeqStore.constants c.args.store.now) v c.args.changes.now some) in
    let grown =
    c.apply_reserved.ensures.size c.args.changes.now v (sum_by (extent_of v) c.args.changes.now) c.in_ok-reserve_group.ensures.reserved (rw c.in_ok-reserve_group.ensures.goes_on.same_nature ext) (rw same need) in
    rw (← same) grown

pub returns-clause-whole : goal.returns-clause-whole
returns-clause-whole g c =
    let (first, since, hard, st) = c.requires.whole in
    let reserved = c.in_ok-reserve_group.ensures.stands first since hard st in
    stays_whole g.S.SeqStore.stands c.apply_reserved.new.self c.apply_reserved.result first (since ++ groups_made_by (g.S.SeqStore.constants c.reserve_group.new.self) c.args.number c.args.changes.now) hard
    c.apply_reserved.ensures.answers
    (c.apply_reserved.ensures.stands c.args.changes.now c.in_ok-reserve_group.ensures.reserved first since hard reserved)

pub returns-clause-next : goal.returns-clause-next
returns-clause-next g c =
    stays_near c.apply_reserved.result (g.S.SeqStore.store_view c.args.store.now).floor c.args.number (g.S.SeqStore.store_view c.apply_reserved.new.self).floor c.args.changes.now
    c.apply_reserved.ensures.answers (search rules)

pub reserve_group-requires-clause-fit : goal.reserve_group-requires-clause-fit
reserve_group-requires-clause-fit g c = fits_more 16777215 _ c.args.changes.now (g.met.S.SeqStore.values c.args.store.now).0 c.requires.fit
