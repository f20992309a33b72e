use Rattle.std.proofs.Common.{sym, ◌∙◌, ◌&&◌}
use Rattle.std.specs.List.{list_all}
use Rattle.tk_model.specs.Entries.{all_touched, all_were, fits}
use Rattle.tk_model.proofs.PlainSteps.{some_rising}
use Rattle.tk_model.proofs.RecordLaws.{all_touched_rising}
use Rattle.tk_model.proofs.plain.PlainMap.run_proc.Goals as goal

pub invariant_of-self : goal.invariant_of-self
invariant_of-self c =
    let o = c.self.inside.order in
    let m = c.self.inside.pairs in
    let ts = c.args.touches.now in
    some_rising o (all_were o ts m && list_all fits ts) (all_touched o ts m) c.in-Some.after
    (sym c.in-Some.is ∙ c.in_ok-after.ensures) (all_touched_rising o ts m c.self.invariant)
