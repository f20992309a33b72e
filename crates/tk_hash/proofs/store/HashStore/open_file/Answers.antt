use Rattle.std.proofs.Common.{◌≡◌, ℕ, sym, subst, arith}
use Rattle.std.specs.Prelude.{IfSome}
use Rattle.std.proofs.lemmas.Result.{IfOk-weaker}
use Rattle.tk_block.specs.declared.head.StaticHead.{StaticHead}
use Rattle.tk_append.specs.Log.{closed_text}
use Rattle.tk_append.specs.LogParts.{log_disk, log_head}
use Rattle.tk_disk.proofs.Moments.{torn_read, reads_joined}
use Rattle.tk_hash.proofs.HashOpens.{counted_log, all_ok, err_weaker}
use Rattle.tk_hash.proofs.store.HashStore.open_file.Goals as goal

pub of_log-requires : goal.of_log-requires
of_log-requires g c =
    let found = c.in_ok-log.ensures.found in
    record { buffer = c.in-Ok.ensures; whole = (found.groups, counted_log g.D.Disk.image g.D.Disk.may_leave g.D.Disk.past c.args.disk c.args.shard c.in_ok-log.field-0 c.end.result found c.in_ok-log.ensures.image c.end.ensures (omega arith)) }

pub returns-clause-opened : goal.returns-clause-opened
returns-clause-opened g c =
    let found = c.in_ok-log.ensures.found in
    let r = c.in_ok-log.field-0 in
    let is = counted_log g.D.Disk.image g.D.Disk.may_leave g.D.Disk.past c.args.disk c.args.shard r c.end.result found c.in_ok-log.ensures.image c.end.ensures (omega arith) in
    all_ok c.of_log.result _ _ _ _ (c.of_log.ensures.stands found.groups is) c.of_log.ensures.head c.of_log.ensures.next
    (λ s stands head next. (
      found.groups,
      stands,
      subst (λ (n : ℕ). IfSome (g.D.Disk.image c.args.disk) (λ f. f ≡ closed_text (log_head s.log) found.groups n)) (sym next)
          (subst (λ (h : StaticHead). IfSome (g.D.Disk.image c.args.disk) (λ f. f ≡ closed_text h found.groups r.next)) (sym head) found.text),
    ))

pub returns-clause-time : goal.returns-clause-time
returns-clause-time g c =
    IfOk-weaker c.of_log.result _ _ (λ s time. torn_read g.D.Disk.may_leave g.D.Disk.moment g.D.Disk.left_since g.D.Disk.past g.D.Disk.left_with g.met.D.Disk.only_now c.args.disk (log_disk c.in_ok-log.field-0.log) (log_disk s.log) 32 32 c.in_ok-log.ensures.still time) c.of_log.ensures.time

pub returns-clause-back_time : goal.returns-clause-back_time
returns-clause-back_time g c =
    err_weaker c.of_log.result _ _ (λ u time. torn_read g.D.Disk.may_leave g.D.Disk.moment g.D.Disk.left_since g.D.Disk.past g.D.Disk.left_with g.met.D.Disk.only_now c.args.disk (log_disk c.in_ok-log.field-0.log) u.disk 32 32 c.in_ok-log.ensures.still time) c.of_log.ensures.back_time

pub returns-clause-reads_still : goal.returns-clause-reads_still
returns-clause-reads_still g c = λ no.
    IfOk-weaker c.of_log.result _ _ (λ s still. reads_joined g.D.Disk.may_leave g.D.Disk.moment g.D.Disk.left_since g.D.Disk.past g.D.Disk.left_with g.met.D.Disk.counts_now g.met.D.Disk.counts_with c.args.disk (log_disk c.in_ok-log.field-0.log) (log_disk s.log) c.in_ok-log.ensures.still still) (c.of_log.ensures.reads_still no)

pub returns-clause-back : goal.returns-clause-back
returns-clause-back g c = err_weaker c.of_log.result _ _ (λ u fails other. absurd (other fails.0)) c.of_log.ensures.fails

pub returns-clause-back_reads : goal.returns-clause-back_reads
returns-clause-back_reads g c = λ no. err_weaker c.of_log.result _ _ (λ u fails. absurd (fails.1 no)) c.of_log.ensures.fails

pub returns-clause-back_still : goal.returns-clause-back_still
returns-clause-back_still g c = err_weaker c.of_log.result _ _ (λ u fails other. absurd (other fails.0)) c.of_log.ensures.fails

pub returns-clause-back_reads_still : goal.returns-clause-back_reads_still
returns-clause-back_reads_still g c = λ no. err_weaker c.of_log.result _ _ (λ u fails. absurd (fails.1 no)) c.of_log.ensures.fails
