use Rattle.std.proofs.Common.{◌≡◌, ◌+◌, ◌*◌, ◌≤◌, ◌^◌, ◌++◌, ℕ, List, length, take, drop, replicate, refl, ◌∙◌, ap, arith}
use Rattle.std.proofs.lemmas.List.{length-replicate, length-take-le}
use Rattle.tk_disk.specs.Disk.{put_at}
use Rattle.tk_block.specs.Text.{base_of}
use Rattle.tk_block.specs.declared.head.StaticHead.{StaticHead}
use Rattle.tk_append.specs.LogParts.{log_disk, log_head}
use Rattle.tk_hash.proofs.HeadTexts.{heads_more, long_put, zeros_more, zero_bytes, all_zero, if_some}
use Rattle.tk_hash.proofs.Writings.{puts_more}
use Rattle.tk_hash.proofs.plan.put_zeros.Goals as goal

pub returns-in_err-set_cells-clause-puts : goal.returns-in_err-set_cells-clause-puts
returns-in_err-set_cells-clause-puts g c =
    let disk = g.D.Disk in
    let e = c.set_cells.ensures in
    let p = c.args.log.now.head.p in
    let number : c.number_of_buckets-number.result ≡ 2 ^ p = c.number_of_buckets-number.ensures ∙ ap (λ (h : StaticHead). 2 ^ h.p) c.head.ensures in
    let n = c.min-cells.result in
    let cells : c.loop-bucket.bucket + n ≤ 2 ^ p = omega (arith, number, c.min-cells.ensures, c.loop-bucket-test.true) in
    let long : length (take (8 * n) c.args.zeros.now) ≡ 8 * n = length-take-le (8 * n) c.args.zeros.now (omega (arith, c.min-cells.ensures)) in
    puts_more disk.image disk.may_leave disk.past disk.moment disk.left_since disk.left_with disk.taken_count c.args.log.now c.loop-bucket.log c.set_cells.new.self c.loop-bucket.bucket (take (8 * n) c.args.zeros.now)
    (omega (arith, cells, long)) c.loop-bucket.invariant.puts e.head e.end e.told e.taken e.crash e.time e.past e.pasts

pub loop-bucket-preserved : goal.loop-bucket-preserved
loop-bucket-preserved g c =
    let disk = g.D.Disk in
    let e = c.set_cells.ensures in
    let w = c.in_ok-set_cells.ensures in
    let b = c.loop-bucket.bucket in
    let n = c.min-cells.result in
    let p = c.args.log.now.head.p in
    let bytes : List ℕ = take (8 * n) c.args.zeros.now in
    let number : c.number_of_buckets-number.result ≡ 2 ^ p = c.number_of_buckets-number.ensures ∙ ap (λ (h : StaticHead). 2 ^ h.p) c.head.ensures in
    let cells : b + n ≤ 2 ^ p = omega (arith, number, c.min-cells.ensures, c.loop-bucket-test.true) in
    let fits : 8 * n ≤ length c.args.zeros.now = omega (arith, c.min-cells.ensures) in
    let long : length bytes ≡ 8 * n = length-take-le (8 * n) c.args.zeros.now fits in
    let within : 64 + 8 * b + length bytes ≤ base_of p = omega (arith, cells, long) in
    record {
      written = λ k old groups.
          if_some (disk.image (log_disk c.args.log.now)) _ _ (c.loop-bucket.invariant.written k old groups) (λ f known is whole.
          heads_more (log_head c.args.log.now) k groups _ _ (λ now. now ≡ replicate b 0 ++ drop b old) (λ now. now ≡ replicate (b + n) 0 ++ drop (b + n) old) b (replicate n 0) bytes
          (zero_bytes c.args.zeros.now bytes n c.requires.zeros fits refl) (omega (arith, cells, length-replicate {A = ℕ} n 0)) w.written
          (λ now all zeros. ap (λ (l : List ℕ). put_at b (replicate n 0) l) zeros ∙ zeros_more b n (b + n) old refl (omega (arith, whole, cells)))
          (known is whole));
      puts = puts_more disk.image disk.may_leave disk.past disk.moment disk.left_since disk.left_with disk.taken_count c.args.log.now c.loop-bucket.log c.set_cells.new.self b bytes
          within c.loop-bucket.invariant.puts e.head e.end e.told e.taken e.crash e.time e.past e.pasts;
      there = long_put (disk.image (log_disk c.loop-bucket.log)) _ (base_of p) (64 + 8 * b) bytes within c.loop-bucket.invariant.there w.written;
      within = cells;
      count = w.cause.kept ∙ c.loop-bucket.invariant.count;
    }

pub returns-clause-written : goal.returns-clause-written
returns-clause-written g c = λ k old groups.
    let p = c.args.log.now.head.p in
    let number : c.number_of_buckets-number.result ≡ 2 ^ p = c.number_of_buckets-number.ensures ∙ ap (λ (h : StaticHead). 2 ^ h.p) c.head.ensures in
    if_some (g.D.Disk.image (log_disk c.args.log.now)) _ _ (c.loop-bucket.invariant.written k old groups) (λ f known is whole.
    all_zero (log_head c.args.log.now) k groups _ old c.loop-bucket.bucket (omega (arith, whole, number, c.loop-bucket-test.false, c.loop-bucket.invariant.within)) (known is whole))
