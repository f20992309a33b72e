use Rattle.std.proofs.Common.{◌≡◌, ◌*◌, ◌∙◌, ℕ, ap, refl}
use Rattle.tk_block.specs.Number.{u64_in}
use Rattle.tk_skipfile.proofs.Judging.{none_met, meets_next, met_next}
use Rattle.tk_skipfile.proofs.links.Links.meet_all.Goals as goal

pub loop-level-init : goal.loop-level-init
loop-level-init c = record { follows = λ rows places f m. none_met rows places c.args.self.now f; room = refl; count = refl }

pub loop-level-preserved : goal.loop-level-preserved
loop-level-preserved c = record {
  follows = λ rows places f m.
      let level = c.loop-level.level in
      let bytes = c.args.links.now in
      let word : c.u64_at-link.result ≡ u64_in bytes (8 * level) = c.u64_at-link.ensures ∙ ap (λ (n : ℕ). u64_in bytes (8 * n)) c.from.ensures in
      met_next rows places level _ c.u64_at-link.result bytes c.meet.new.self refl word
      (c.meet.ensures.follows rows places _ (c.loop-level.invariant.follows rows places f m) (meets_next rows places c.args.height level c.args.index c.args.owner bytes m c.loop-level-test.true));
  room = c.meet.ensures.room ∙ c.loop-level.invariant.room;
  count = c.meet.ensures.count ∙ c.loop-level.invariant.count;
}
