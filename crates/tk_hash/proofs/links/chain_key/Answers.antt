use Rattle.std.proofs.Common.{◌≡◌, ◌∷◌, ◌++◌, [], ℕ, List, ◌∙◌, ap, subst, arith}
use Rattle.std.specs.Prelude.{slice_index}
use Rattle.std.proofs.lemmas.Result.{on_ok_weaker}
use Rattle.tk_model.specs.Hashes.{bucket_of}
use Rattle.tk_block.specs.Layout.{bucket_in}
use Rattle.tk_hash.specs.declared.plan.NewHead.{NewHead}
use Rattle.tk_hash.specs.Plan.{placed_in, IsNewest}
use Rattle.tk_hash.proofs.links.chain_key.Goals as goal

pub returns-clause-links : goal.returns-clause-links
returns-clause-links c =
    let new = c.args.chains.now.heads.items in
    let heads = c.args.heads.now in
    let b : c.bucket-bucket.result ≡ bucket_in c.args.p c.args.key.now = c.bucket-bucket.ensures.value ∙ ap (λ (m : ℕ). bucket_of m c.args.p) c.mix.ensures in
    let all : IsNewest c.remember.new.newest new = subst (λ (l : List NewHead). IsNewest c.remember.new.newest l) c.deref.ensures.value c.in_ok-remember.ensures in
    on_ok_weaker c.push.result (λ e. e ∙ ap (λ (n : ℕ). c.args.chains.now.links ++ n ∷ []) (c.newest_block-link.ensures new all ∙ ap (λ (k : ℕ). placed_in new k (slice_index heads k)) b)) c.push.ensures.links
