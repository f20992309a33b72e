use Rattle.std.proofs.Common.{◌≡◌, ℕ, ◌-◌, List, get_or, take, sym, ◌∙◌, ap, subst, arith}
use Rattle.std.proofs.lemmas.Result.{on_ok_weaker}
use Rattle.tk_model.specs.Records.{put}
use Rattle.tk_model.specs.declared.record.Order.TheVariants.{Hash}
use Rattle.tk_model.specs.declared.record.Pair.{Pair}
use Rattle.tk_hash.specs.Plan.{mark_in, TellThere}
use Rattle.tk_hash.proofs.Counted.{tell_more}
use Rattle.tk_hash.proofs.counts.mark_before.Goals as goal

pub returns-then-at-eq0 : goal.returns-then-at-eq0
returns-then-at-eq0 c = subst (λ (k : ℕ). TellThere (take k c.args.changes.now) c.args.marks.now) (omega (arith, c.if-at-eq0.true)) c.requires.marks

pub returns : goal.returns
returns c =
    let at = c.args.at in
    let cs = c.args.changes.now in
    let change = c.index-changes-at.result in
    let same : put Hash c.in_ok-mark.mark c.args.marks.now ≡ put Hash (mark_in (get_or cs (at - 1) change)) c.args.marks.now =
    ap (λ (p : Pair). put Hash p c.args.marks.now) (c.in_ok-mark.ensures ∙ ap mark_in c.index-changes-at.is) in
    let tells : TellThere (take at cs) (put Hash (mark_in (get_or cs (at - 1) change)) c.args.marks.now) =
    tell_more cs (at - 1) at change c.args.marks.now (omega (arith, c.if-at-eq0.false)) (omega (arith, c.requires.at)) c.requires.alone c.requires.marks in
    on_ok_weaker c.put.result (λ e. subst (λ (l : List Pair). TellThere (take at cs) l) (sym (e ∙ same)) tells) c.put.ensures.ok
