use Rattle.std.proofs.Common.{◌∙◌, ap}
use Rattle.tk_restore.specs.Changes.{LiveAndBegun}
use Rattle.tk_restore.proofs.Entries.{complete_live}
use Rattle.tk_restore.proofs.records.Records.complete.Goals as goal

pub returns-in_ok-settle-clause-live : goal.returns-in_ok-settle-clause-live
returns-in_ok-settle-clause-live c =
    ap (λ (v : LiveAndBegun). v.live) c.in_ok-settle.ensures
    ∙ complete_live c.self.inside.changes c.self.inside.complete c.len-self-inside.result c.args.self.now c.self.view_is c.len-self-inside.ensures

pub returns-else-held-self-clause-live : goal.returns-else-held-self-clause-live
returns-else-held-self-clause-live c = complete_live c.self.inside.changes c.self.inside.complete c.len-self-inside.result c.args.self.now c.self.view_is c.len-self-inside.ensures
