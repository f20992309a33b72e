use Rattle.std.proofs.Common.{refl, ap, length}
use Rattle.std.specs.Prelude.{Err}
use Rattle.std.proofs.lemmas.Option.{IfSome_then}
use Rattle.tk_append.specs.Fresh.{fresh_groups, fresh_next}
use Rattle.tk_append.proofs.FreshPasts.{some_both, cut_moments}
use Rattle.tk_append.proofs.fresh.write_or_empty.Goals as goal

pub returns-in_err-cut-in-Err-NoMemory-clause-pasts : goal.returns-in_err-cut-in-Err-NoMemory-clause-pasts
returns-in_err-cut-in-Err-NoMemory-clause-pasts g c =
    let start = c.args.disk.now in
    let h = c.args.head.now in
    IfSome_then (g.D.Disk.image start) (some_both (g.D.Disk.image start) _ _ (c.in-Err-NoMemory.ensures.no_memory (ap (λ e. Err e) c.in-Err-NoMemory.field-0-is)) c.write_fresh.ensures.pasts)
    (λ f both.
    cut_moments h (fresh_groups h.kind c.args.number c.args.pairs.now) (length c.args.pairs.now) (fresh_next c.args.number c.args.pairs.now) (g.D.Disk.past start)
    g.D.Disk.may_leave g.D.Disk.past g.D.Disk.moment g.D.Disk.left_with g.met.D.Disk.only_with start c.write_fresh.new.disk c.cut.new.self 0 refl both.0 c.cut.ensures.past c.cut.ensures.pasts both.1)

pub returns-in_ok-cut-in-Err-NoMemory-clause-pasts : goal.returns-in_ok-cut-in-Err-NoMemory-clause-pasts
returns-in_ok-cut-in-Err-NoMemory-clause-pasts g c =
    let start = c.args.disk.now in
    let h = c.args.head.now in
    IfSome_then (g.D.Disk.image start) (some_both (g.D.Disk.image start) _ _ (c.in-Err-NoMemory.ensures.no_memory (ap (λ e. Err e) c.in-Err-NoMemory.field-0-is)) c.write_fresh.ensures.pasts)
    (λ f both.
    cut_moments h (fresh_groups h.kind c.args.number c.args.pairs.now) (length c.args.pairs.now) (fresh_next c.args.number c.args.pairs.now) (g.D.Disk.past start)
    g.D.Disk.may_leave g.D.Disk.past g.D.Disk.moment g.D.Disk.left_with g.met.D.Disk.only_with start c.write_fresh.new.disk c.cut.new.self 0 refl both.0 c.cut.ensures.past c.cut.ensures.pasts both.1)
