use Rattle.std.proofs.Common.{◌≡◌, length, ◌∙◌, ap, arith}
use Rattle.std.proofs.lemmas.Result.{on_ok_weaker}
use Rattle.tk_block.proofs.Grammar.{length-closing_text}
use Rattle.tk_append.proofs.LogSteps.{there_put}
use Rattle.tk_append.proofs.log.GroupLog.put_closing.Goals as goal

pub returns-clause-stands : goal.returns-clause-stands
returns-clause-stands g c = λ groups stands.
    let long : length c.write_closing.result ≡ 32 = ap length c.write_closing.ensures ∙ length-closing_text c.args.closing.now in
    on_ok_weaker c.write_at.result
    (λ written. record {
      end_is = stands.end_is;
      there = there_put (g.D.Disk.image c.args.self.now.disk) _ c.args.self.now.head groups 32 c.write_closing.result (omega (arith, long)) stands.there written;
    })
    c.write_at.ensures.written
