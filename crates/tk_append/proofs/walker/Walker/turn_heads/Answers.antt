use Rattle.std.proofs.Common.{◌∙◌, ap}
use Rattle.std.proofs.lemmas.Bool.{eq-eqb, ne_eqb}
use Rattle.tk_model.specs.Hashes.{bucket_of}
use Rattle.tk_block.specs.Blocks.{body_said}
use Rattle.tk_append.proofs.NewestHeads.{heads_clear, heads_put}
use Rattle.tk_append.proofs.walker.Walker.turn_heads.Goals as goal

pub returns-then-found-eq4-clause-heads : goal.returns-then-found-eq4-clause-heads
returns-then-found-eq4-clause-heads c blocks so_far of_kind next further =
    heads_clear c.args.p c.args.place next c.args.self.now.cleared c.args.self.now.heads.items blocks (body_said c.args.found.now.block) so_far (eq-eqb _ _ c.if-found-eq4.true) further

pub returns-else-found-eq4-clause-heads : goal.returns-else-found-eq4-clause-heads
returns-else-found-eq4-clause-heads c blocks so_far of_kind next further =
    heads_put c.args.p c.args.place next c.args.self.now.cleared c.bucket.result c.args.self.now.heads.items blocks (body_said c.args.found.now.block) so_far of_kind (ne_eqb _ _ c.if-found-eq4.false)
    (c.bucket.ensures.value ∙ ap (λ m. bucket_of m c.args.p) c.requires.hash) c.bucket.ensures.below further
