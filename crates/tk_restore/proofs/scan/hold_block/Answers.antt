use Rattle.std.proofs.Common.{◌≡◌, true, List, ℕ, sym, ◌∙◌, ap, subst, arith}
use Rattle.std.specs.Prelude.{Option}
use Rattle.tk_block.specs.Text.{head_at}
use Rattle.tk_disk.proofs.Moments.{reads_joined}
use Rattle.tk_append.specs.Walked.{Shows}
use Rattle.tk_append.specs.Windows.{items}
use Rattle.tk_append.proofs.Rereading.{extent_valid}
use Rattle.tk_restore.proofs.Steps.{hold_none, hold_some}
use Rattle.tk_restore.proofs.scan.hold_block.Goals as goal

pub returns-in_default-clause-holds : goal.returns-in_default-clause-holds
returns-in_default-clause-holds g c =
    let whole = c.if-not-branch.false in
    let fill = c.in_ok-fill.ensures in
    hold_none (g.D.Disk.image c.args.disk.now) c.args.place c.args.left (items c.args.window.now) (items c.fill.new.window) (λ s. fill.shows s whole) (fill.long whole) (fill.held whole)
    (ap (λ (l : List ℕ). head_at l c.args.place) (sym c.as_slice.ensures) ∙ sym c.in_default.ensures.value)

pub returns-clause-holds : goal.returns-clause-holds
returns-clause-holds g c =
    let image = g.D.Disk.image c.args.disk.now in
    let first = items c.fill.new.window in
    let new = items c.fill-2.new.window in
    let whole = c.if-not-branch.false in
    let fill = c.in_ok-fill.ensures in
    let more = c.in_ok-fill-2.ensures in
    let all = c.if-not-branch-2.false in
    let shows : Shows image c.args.place first → c.in_ok-fill-2.field-0 ≡ true → Shows image c.args.place new = subst (λ (o : Option (List ℕ)). Shows o c.args.place first → c.in_ok-fill-2.field-0 ≡ true → Shows o c.args.place new) fill.image more.shows in
    hold_some image c.args.place c.args.left c.in-Some.extent (items c.args.window.now) first new (λ s. fill.shows s whole) (λ s. shows s all) (fill.long whole) (fill.held whole) (more.grows all) (omega (arith, more.long all, c.min.ensures)) (more.held all)
    (ap (λ (l : List ℕ). head_at l c.args.place) (sym c.as_slice.ensures) ∙ sym c.in-Some.ensures.value)

pub returns-clause-some : goal.returns-clause-some
returns-clause-some g c = extent_valid c.in-Some.extent (c.in-Some.ensures.exact.found _ c.in-Some.extent (sym c.in-Some.ensures.value)).0

pub returns-clause-still : goal.returns-clause-still
returns-clause-still g c = reads_joined g.D.Disk.may_leave g.D.Disk.moment g.D.Disk.left_since g.D.Disk.past g.D.Disk.left_with g.met.D.Disk.counts_now g.met.D.Disk.counts_with c.args.disk.now c.fill.new.disk c.fill-2.new.disk c.fill.ensures.still c.fill-2.ensures.still
