use Rattle.std.proofs.Common.{◌-◌, ◌≤◌, Bool, List, ℕ, refl, ap, subst, length, ◌∙◌}
use Rattle.std.specs.Prelude.{Option, IfSome, min}
use Rattle.tk_append.specs.Opening.{Walk}
use Rattle.tk_append.specs.Windows.{items}
use Rattle.tk_restore.specs.Readings.{Knows, IsRead, NotRead, ReadOrNot}
use Rattle.tk_restore.proofs.Steps.{Holding, scan_headless, scan_unread, scan_last, scan_next}
use Rattle.tk_restore.proofs.scan.step.Goals as goal

pub returns-in_default-clause-scanned : goal.returns-in_default-clause-scanned
returns-in_default-clause-scanned g c h s =
    let image = g.D.Disk.image c.args.disk.now in
    let left = c.args.size - c.args.place in
    let old = items c.args.window.now in
    let new = items c.hold_block.new.window in
    scan_headless image h c.args.size c.args.place left old new c.args.reading.now c.requires.here refl
    (subst (λ (o : Option ℕ). Holding image c.args.place left old new o) c.in_default.is c.in_ok-extent.ensures.holds) s

pub returns-then-not-branch-clause-scanned : goal.returns-then-not-branch-clause-scanned
returns-then-not-branch-clause-scanned g c h s =
    let image = g.D.Disk.image c.args.disk.now in
    let left = c.args.size - c.args.place in
    let old = items c.args.window.now in
    let new = items c.hold_block.new.window in
    let extent = c.in-Some.extent in
    let read : (w : Walk) → Knows c.args.reading.now w → NotRead w c.args.place extent new × Knows c.read.new.self w = λ w knows.
    subst (λ (t : Bool). ReadOrNot t w c.args.place extent new c.read.new.self) c.if-not-branch.true
    (subst (λ (l : List ℕ). ReadOrNot c.in_ok-read.field-0 w c.args.place extent l c.read.new.self) c.as_slice.ensures (c.in_ok-read.ensures w knows)) in
    scan_unread image h c.args.size c.args.place left extent old new c.args.reading.now c.read.new.self c.requires.here refl
    (subst (λ (o : Option ℕ). Holding image c.args.place left old new o) c.in-Some.is c.in_ok-extent.ensures.holds) read s

pub returns-then-extent-left-clause-scanned : goal.returns-then-extent-left-clause-scanned
returns-then-extent-left-clause-scanned g c h s =
    let image = g.D.Disk.image c.args.disk.now in
    let left = c.args.size - c.args.place in
    let old = items c.args.window.now in
    let new = items c.hold_block.new.window in
    let extent = c.in-Some.extent in
    let read : (w : Walk) → Knows c.args.reading.now w → IsRead w c.args.place extent new c.read.new.self = λ w knows.
    subst (λ (t : Bool). ReadOrNot t w c.args.place extent new c.read.new.self) c.if-not-branch.false
    (subst (λ (l : List ℕ). ReadOrNot c.in_ok-read.field-0 w c.args.place extent l c.read.new.self) c.as_slice.ensures (c.in_ok-read.ensures w knows)) in
    scan_last image h c.args.size c.args.place left extent old new c.args.reading.now c.read.new.self c.requires.here refl
    (subst (λ (o : Option ℕ). Holding image c.args.place left old new o) c.in-Some.is c.in_ok-extent.ensures.holds) read c.if-extent-left.true s

pub returns-clause-scanned : goal.returns-clause-scanned
returns-clause-scanned g c h s =
    let image = g.D.Disk.image c.args.disk.now in
    let left = c.args.size - c.args.place in
    let old = items c.args.window.now in
    let new = items c.hold_block.new.window in
    let extent = c.in-Some.extent in
    let read : (w : Walk) → Knows c.args.reading.now w → IsRead w c.args.place extent new c.read.new.self = λ w knows.
    subst (λ (t : Bool). ReadOrNot t w c.args.place extent new c.read.new.self) c.if-not-branch.false
    (subst (λ (l : List ℕ). ReadOrNot c.in_ok-read.field-0 w c.args.place extent l c.read.new.self) c.as_slice.ensures (c.in_ok-read.ensures w knows)) in
    let fits : length new ≤ left = subst (λ (o : Option ℕ). IfSome o (λ _. length new ≤ left)) c.in-Some.is c.in_ok-extent.ensures.held in
    scan_next image h c.args.size c.args.place left extent c.min.result old new (items c.pass.new.self) c.args.reading.now c.read.new.self c.requires.here refl
    (subst (λ (o : Option ℕ). Holding image c.args.place left old new o) c.in-Some.is c.in_ok-extent.ensures.holds) fits read c.if-extent-left.false
    (c.min.ensures ∙ ap (λ (l : List ℕ). min (length l) extent) c.as_slice-held.ensures) c.pass.ensures s
