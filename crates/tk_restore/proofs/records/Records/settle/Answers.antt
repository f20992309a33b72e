use Rattle.std.proofs.Common.{◌∙◌, List, [], ap}
use Rattle.std.specs.Prelude.{map}
use Rattle.tk_model.specs.Records.{after}
use Rattle.tk_model.specs.declared.record.Change.{Change}
use Rattle.tk_model.specs.declared.record.Change.TheVariants.{Put}
use Rattle.tk_model.specs.declared.record.Order.TheVariants.{Hash}
use Rattle.tk_model.specs.declared.record.Pair.{Pair}
use Rattle.tk_restore.proofs.Entries.{settled_view}
use Rattle.tk_restore.proofs.records.Records.settle.Goals as goal

pub returns : goal.returns
returns c =
    settled_view c.self.inside.changes c.in_ok-self-inside.field-0 c.in_ok-pairs.pairs c.self.inside.complete c.len-self-inside.result c.args.self.now c.self.view_is c.requires
    (c.in_ok-pairs.ensures.records ∙ ap (λ (cs : List Change). after Hash cs []) c.replace-changes.ensures.value)
    (c.in_ok-self-inside.ensures ∙ ap (λ (ps : List Pair). map Put ps) c.as_slice.ensures) c.len-self-inside.ensures
