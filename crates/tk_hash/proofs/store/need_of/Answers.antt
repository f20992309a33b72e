use Rattle.std.proofs.Common.{◌≡◌, ◌+◌, ◌∷◌, drop, sym, ◌∙◌, ap, true}
use Rattle.std.proofs.lemmas.List.{drop_more}
use Rattle.tk_model.specs.declared.record.Change.{Change}
use Rattle.tk_hash.proofs.Extents.{same_extent, fit_rest, sum_more}
use Rattle.tk_hash.proofs.store.need_of.Goals as goal

pub loop-change-preserved : goal.loop-change-preserved
loop-change-preserved c =
    let here : drop c.loop-change.change-index c.args.changes.now ≡ c.change-item.result ∷ drop (c.loop-change.change-index + 1) c.args.changes.now =
    drop_more c.args.changes.now c.loop-change.change-index c.change-item.result c.loop-change-test.true ∙ ap (λ (x : Change). x ∷ drop (c.loop-change.change-index + 1) c.args.changes.now) (sym c.change-item.is) in
    record {
      sum = sum_more _ _ _ _ _ _ c.args.changes.now here c.in-Some.ensures.1 (c.extent_of_change.ensures 0 true ∙ same_extent 0 c.change-item.result true) c.loop-change.invariant.sum;
      fit = fit_rest _ _ _ here c.loop-change.invariant.fit;
    }
