use Rattle.std.proofs.Common.{◌≡◌, ℕ, List, [], None, sym, ◌∙◌, ap, subst}
use Rattle.std.specs.Prelude.{Bool, Option, IfSome, IfOk}
use Rattle.std.specs.Option.{is_some, option_copied}
use Rattle.tk_model.specs.Records.{find, replay}
use Rattle.tk_model.specs.declared.record.Order.TheVariants.{Hash}
use Rattle.tk_append.specs.FileText.{IsFile}
use Rattle.tk_hash.specs.Plan.{told_there}
use Rattle.tk_hash.proofs.HeadTexts.{if_some}
use Rattle.tk_hash.proofs.HashKeeps.{key_in}
use Rattle.tk_hash.proofs.counts.was_there.Goals as goal

pub returns-in-Some-recall-clause-value : goal.returns-in-Some-recall-clause-value
returns-in-Some-recall-clause-value g c = λ groups.
    let none : find c.args.key.now c.args.marks.now ≡ None = sym c.get.ensures ∙ ap option_copied c.in-None.is in
    let was = is_some (find c.args.key.now (replay Hash groups [])) in
    if_some (g.D.Disk.image c.args.disk.now) _ _ (key_in (g.D.Disk.image c.args.disk.now) c.args.file.now.head c.args.found.now groups c.requires.found) (λ f known file.
    subst (λ (o : Option Bool). IfSome o (λ there. there ≡ was)) c.in-Some-recall.is (c.recall.ensures.right (replay Hash groups []) (known file))
    ∙ sym (ap (λ (o : Option (List ℕ)). told_there o was) none))

pub returns-in-None-recall-clause-value : goal.returns-in-None-recall-clause-value
returns-in-None-recall-clause-value g c = λ groups.
    let none : find c.args.key.now c.args.marks.now ≡ None = sym c.get.ensures ∙ ap option_copied c.in-None.is in
    subst (λ (o : Option (List ℕ)). IfSome (g.D.Disk.image c.args.disk.now) (λ f. IsFile c.args.file.now.head f groups
    → IfOk c.has_key.result (λ there. there ≡ told_there o (is_some (find c.args.key.now (replay Hash groups [])))))) (sym none) (c.has_key.ensures.value groups)
