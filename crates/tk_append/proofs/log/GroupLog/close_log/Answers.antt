use Rattle.std.proofs.Common.{ℕ, subst, refl}
use Rattle.tk_disk.specs.Crash.{PastOnly}
use Rattle.tk_block.specs.declared.closing.Closing.{Closing}
use Rattle.tk_append.specs.LogPasts.{Closes}
use Rattle.tk_append.proofs.PastSteps.{past_weaker, past_then, settles_closes, writes_closes, last_closes}
use Rattle.tk_append.proofs.log.GroupLog.close_log.Goals as goal

pub returns-clause-pasts : goal.returns-clause-pasts
returns-clause-pasts g c =
    let image = g.D.Disk.image in
    let past = g.D.Disk.past in
    let moment = g.D.Disk.moment in
    let left_with = g.D.Disk.left_with in
    let start = c.args.self.now.disk in
    let end = c.sync_log-2.new.self.disk in
    let closing : Closing = record { size = c.sync_log.new.self.end; count = c.args.count; next = c.args.next } in
    let closes = Closes closing (image start) (past start) in
    let settled = c.in_ok-sync_log.ensures.settled refl in
    let synced = past_weaker moment left_with start c.sync_log.new.self.disk closes _ c.sync_log.ensures.pasts (settles_closes closing (image start) (past start)) in
    let marked =
    past_then moment left_with start c.sync_log.new.self.disk c.put_closing.new.self.disk closes _ synced c.put_closing.ensures.pasts
    (λ p. writes_closes closing (image start) (past start) (past c.sync_log.new.self.disk) p settled) in
    subst (λ (n : ℕ). PastOnly moment left_with start end (Closes (record { size = n; count = c.args.count; next = c.args.next }) (image start) (past start))) c.sync_log.ensures.end
    (past_then moment left_with start c.put_closing.new.self.disk end closes _ marked c.sync_log-2.ensures.pasts
    (λ p. last_closes closing (image start) _ _ (past start) (past c.sync_log.new.self.disk) (past c.put_closing.new.self.disk) p settled c.put_closing.ensures.past c.in_ok-sync_log.ensures.image c.in_ok-put_closing.ensures.written))
