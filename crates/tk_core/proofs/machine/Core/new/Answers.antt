use Rattle.std.proofs.Common.{rules, ◌≡◌, ◌+◌, true, false, None, [], ◌∷◌, replicate}
use Rattle.tk_core.specs.declared.frame.Frame.{Frame}
use Rattle.tk_core.specs.declared.machine.Row.{Row}
use Rattle.tk_core.specs.Program.{caller_of}
use Rattle.tk_core.specs.Steps.{first_caller}
use Rattle.tk_core.proofs.Programs.{built, filled}
use Rattle.tk_core.proofs.machine.Core.new.Goals as goal

pub invariant_of-result : goal.invariant_of-result
invariant_of-result c =
    let f : Frame = record { stripes = c.args.stripes; stores = c.args.stores; order = c.args.order; base = 0 } in
    let first : Row = record { live = true; allowance = 4611686018427387904; held = c.new.result; want = None; out = c.new-2.result; seen = 0; base = 0; mine = c.new-3.result; breaking = c.new-4.result; broke = c.new-5.result; met = c.new-6.result } in
    let owners : c.resize.new.self.items ≡ replicate (c.args.stripes + c.args.stores) 0 = filled _ _ _ _ 0 c.in_ok-resize.ensures.items c.new-owners.ensures.items c.new-owners.ensures.len in
    let spoilt : c.resize-2.new.self.items ≡ replicate c.args.stores false = filled _ _ _ _ false c.in_ok-resize-2.ensures.items c.new-spoilt.ensures.items c.new-spoilt.ensures.len in
    let away : c.resize-3.new.self.items ≡ replicate c.args.stores false = filled _ _ _ _ false c.in_ok-resize-3.ensures.items c.new-away.ensures.items c.new-away.ensures.len in
    let rows : c.push.new.self.items ≡ first ∷ [] = search rules in
    let caller : caller_of [] first ≡ first_caller = search rules in
    built f (record { stores = (c.requires.some_store, c.requires.few_stores); stripes = (c.requires.some_stripes, c.requires.few_stripes) })
    c.new-7.result.items c.resize.new.self.items c.resize-2.new.self.items c.resize-3.new.self.items c.push.new.self.items first c.new-7.ensures.items owners spoilt away rows caller
