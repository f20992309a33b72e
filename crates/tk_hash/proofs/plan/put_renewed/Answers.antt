use Rattle.std.proofs.Common.{◌≡◌, ◌+◌, ◌*◌, ◌≤◌, ◌^◌, ◌∷◌, [], length, drop, get_or, sym, ◌∙◌, ap, arith}
use Rattle.std.proofs.lemmas.List.{append-nil}
use Rattle.std.specs.Int.{w64, to_be_bytes}
use Rattle.tk_block.specs.Text.{base_of}
use Rattle.tk_append.specs.LogParts.{log_disk, log_head}
use Rattle.tk_hash.specs.declared.plan.NewHead.{NewHead}
use Rattle.tk_hash.specs.Plan.{with_new}
use Rattle.tk_hash.proofs.HeadTexts.{heads_more, long_put, new_more, below_more, all_new, if_some}
use Rattle.tk_hash.proofs.Writings.{puts_more}
use Rattle.tk_hash.proofs.plan.put_renewed.Goals as goal

pub returns-in_err-set_cells-clause-puts : goal.returns-in_err-set_cells-clause-puts
returns-in_err-set_cells-clause-puts g c =
    let disk = g.D.Disk in
    let e = c.set_cells.ensures in
    let none : NewHead = record { bucket = 0; place = 0 } in
    let fit = below_more (2 ^ c.args.log.now.head.p) c.args.heads.now c.loop-head.head-index none c.loop-head-test.true c.loop-head.invariant.below in
    puts_more disk.image disk.may_leave disk.past disk.moment disk.left_since disk.left_with disk.taken_count c.args.log.now c.loop-head.log c.set_cells.new.self _ _
    (omega (arith, ap length c.to_be_bytes.ensures, fit.0)) c.loop-head.invariant.puts e.head e.end e.told e.taken e.crash e.time e.past e.pasts

pub loop-head-preserved : goal.loop-head-preserved
loop-head-preserved g c =
    let disk = g.D.Disk in
    let e = c.set_cells.ensures in
    let w = c.in_ok-set_cells.ensures in
    let i = c.loop-head.head-index in
    let ns = c.args.heads.now in
    let none : NewHead = record { bucket = 0; place = 0 } in
    let n = get_or ns i none in
    let eight : length c.to_be_bytes.result ≡ 8 = ap length c.to_be_bytes.ensures in
    let fit = below_more (2 ^ c.args.log.now.head.p) ns i none c.loop-head-test.true c.loop-head.invariant.below in
    let within : 64 + 8 * n.bucket + length c.to_be_bytes.result ≤ base_of c.args.log.now.head.p = omega (arith, eight, fit.0) in
    record {
      written = λ k old groups.
          if_some (disk.image (log_disk c.args.log.now)) _ _ (c.loop-head.invariant.written k old groups) (λ f known is long.
          heads_more (log_head c.args.log.now) k groups _ _ (λ now. with_new (drop i ns) now ≡ with_new ns old) (λ now. with_new (drop (i + 1) ns) now ≡ with_new ns old) n.bucket (n.place ∷ []) c.to_be_bytes.result
          (c.to_be_bytes.ensures ∙ sym (append-nil (to_be_bytes w64 n.place))) (omega (arith, fit.0)) w.written
          (λ now all more. new_more ns i none now (with_new ns old) c.loop-head-test.true (omega (arith, all, fit.0)) more)
          (known is long));
      puts = puts_more disk.image disk.may_leave disk.past disk.moment disk.left_since disk.left_with disk.taken_count c.args.log.now c.loop-head.log c.set_cells.new.self n.bucket c.to_be_bytes.result
          within c.loop-head.invariant.puts e.head e.end e.told e.taken e.crash e.time e.past e.pasts;
      there = long_put (disk.image (log_disk c.loop-head.log)) _ (base_of c.args.log.now.head.p) (64 + 8 * n.bucket) c.to_be_bytes.result within c.loop-head.invariant.there w.written;
      below = fit.1;
      count = w.cause.kept ∙ c.loop-head.invariant.count;
    }

pub returns-clause-written : goal.returns-clause-written
returns-clause-written g c = λ k old groups.
    if_some (g.D.Disk.image (log_disk c.args.log.now)) _ _ (c.loop-head.invariant.written k old groups) (λ f known is long. all_new (log_head c.args.log.now) k groups _ c.args.heads.now c.loop-head.head-index _ c.loop-head-test.false (known is long))
