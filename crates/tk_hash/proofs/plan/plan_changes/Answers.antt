use Rattle.std.proofs.Common.{rules, ◌^◌, ◌≡◌, List, [], ◌∷◌, ◌++◌, ◌∙◌, subst}
use Rattle.tk_model.specs.declared.record.Change.{Change}
use Rattle.tk_model.specs.declared.record.Change.TheVariants.{Clear}
use Rattle.tk_block.specs.Blocks.{group_bodies}
use Rattle.tk_block.specs.Layout.{Placed, laid, links_of}
use Rattle.tk_append.specs.Chains.{HeadsAre}
use Rattle.tk_append.specs.Log.{blocks_of}
use Rattle.tk_hash.specs.Plan.{with_new}
use Rattle.tk_hash.proofs.HeadTexts.{if_some}
use Rattle.tk_hash.proofs.HashKeeps.{heads_in}
use Rattle.tk_hash.proofs.GroupChained.{cleared_heads}
use Rattle.tk_hash.proofs.Once.{heads_same, below_same}
use Rattle.tk_hash.proofs.plan.plan_changes.Goals as goal

pub returns-in-Clear-clause-heads : goal.returns-in-Clear-clause-heads
returns-in-Clear-clause-heads g c = λ number groups.
    let clear : c.args.changes.now ≡ Clear ∷ [] = search rules in
    if_some (g.D.Disk.image c.args.disk.now) _ _ (heads_in (g.D.Disk.image c.args.disk.now) c.args.file.now.head c.args.file.now.heads.now groups c.requires.file.heads_are)
    (λ f are is. cleared_heads c.args.file.now.head.p c.args.file.now.end number c.args.file.now.heads.now (blocks_of c.args.file.now.head groups) c.in_ok-plan_clear.field-0.heads c.args.changes.now c.in_ok-plan_clear.ensures.heads clear (are is))

pub returns-clause-links : goal.returns-clause-links
returns-clause-links g c = λ number groups.
    let before : List Placed = blocks_of c.args.file.now.head groups in
    if_some (g.D.Disk.image c.args.disk.now) _ _ (heads_in (g.D.Disk.image c.args.disk.now) c.args.file.now.head c.args.file.now.heads.now groups c.requires.file.heads_are) (λ f are is.
    subst (λ (l : List Change). c.settle.new.self.links ≡ links_of c.args.file.now.head.p before (laid c.args.file.now.end (group_bodies number l))) c.as_slice-changes.ensures
    (c.settle.ensures.links ∙ c.in_ok-chains.ensures.links number before (are is)))

pub returns-clause-heads : goal.returns-clause-heads
returns-clause-heads g c = λ number groups.
    let before : List Placed = blocks_of c.args.file.now.head groups in
    if_some (g.D.Disk.image c.args.disk.now) _ _ (heads_in (g.D.Disk.image c.args.disk.now) c.args.file.now.head c.args.file.now.heads.now groups c.requires.file.heads_are) (λ f are is.
    subst (λ (l : List Change). HeadsAre c.args.file.now.head.p (with_new c.settle.new.self.heads.items c.args.file.now.heads.now) (before ++ laid c.args.file.now.end (group_bodies number l))) c.as_slice-changes.ensures
    (heads_same c.args.file.now.head.p c.in_ok-chains.chains.heads.items c.settle.new.self.heads.items c.args.file.now.heads.now _ c.in_ok-settle.ensures.heads c.requires.file.heads_are.whole (c.in_ok-chains.ensures.heads number before (are is))))

pub returns-clause-fit : goal.returns-clause-fit
returns-clause-fit g c = below_same (2 ^ c.args.file.now.head.p) c.in_ok-chains.chains.heads.items c.settle.new.self.heads.items c.in_ok-settle.ensures.heads c.in_ok-chains.ensures.fit
