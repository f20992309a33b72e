use Rattle.std.proofs.Common.{subst, rules}
use Rattle.tk_disk.specs.Memory.{TapeView}
use Rattle.tk_disk.specs.Redone.{IsKeptImage}
use Rattle.tk_disk.specs.Replay.{AreWithin}
use Rattle.tk_disk.proofs.Redoing.{kept-left}
use Rattle.tk_disk.proofs.tape.Tape.crash.Goals as goal

pub returns-clause-left : goal.returns-clause-left
returns-clause-left c =
    let kept : IsKeptImage c.args.keep c.args.self.now.first c.args.self.now.steps c.args.self.now.store c.redo_kept.new.file.items = search rules in
    kept-left c.args.self.now c.args.keep c.redo_kept.new.file.items
    (subst (λ (v : TapeView). AreWithin v.steps v.store v.first) c.self.view_is c.self.invariant.tells.within) kept
