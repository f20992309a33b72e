use Rattle.std.proofs.Common.{rules, ◌++◌, take, inl, refl, ◌∙◌, arith}
use Rattle.tk_append.specs.LogParts.{log_disk, log_head, log_end}
use Rattle.tk_hash.specs.Hash.{groups_held}
use Rattle.tk_hash.proofs.Keeping.{keeps_torn}
use Rattle.tk_hash.proofs.HashKeeps.{done}
use Rattle.tk_hash.proofs.HashGrows.{base_within, marked, closed_file, closing_by, closes_held}
use Rattle.tk_hash.proofs.Ended.{ended_closed}
use Rattle.tk_hash.proofs.store.HashStore.end_file.Goals as goal

pub returns-in_err-as_store_error-clause-kept : goal.returns-in_err-as_store_error-clause-kept
returns-in_err-as_store_error-clause-kept g c first since hard st =
    keeps_torn g.D.Disk.may_leave g.D.Disk.moment g.D.Disk.left_since (log_head c.args.self.now.log) (groups_held first.held ++ take hard since) _ _ 32 32 (inl (omega arith, omega arith)) c.close_log.ensures.crash c.close_log.ensures.time

pub returns-clause-kept : goal.returns-clause-kept
returns-clause-kept g c first since hard st =
    keeps_torn g.D.Disk.may_leave g.D.Disk.moment g.D.Disk.left_since (log_head c.args.self.now.log) (groups_held first.held ++ take hard since) _ _ 32 32 (inl (omega arith, omega arith)) c.close_log.ensures.crash c.close_log.ensures.time

pub returns-in_err-as_store_error-clause-fair : goal.returns-in_err-as_store_error-clause-fair
returns-in_err-as_store_error-clause-fair g c first since hard st = closes_held g.D.Disk.image g.D.Disk.may_leave g.D.Disk.past g.D.Disk.moment g.D.Disk.left_with c.args.self.now first since hard st _ _ c.close_log.ensures.past c.close_log.ensures.pasts

pub returns-clause-fair : goal.returns-clause-fair
returns-clause-fair g c first since hard st = closes_held g.D.Disk.image g.D.Disk.may_leave g.D.Disk.past g.D.Disk.moment g.D.Disk.left_with c.args.self.now first since hard st _ _ c.close_log.ensures.past c.close_log.ensures.pasts

pub returns-clause-stands : goal.returns-clause-stands
returns-clause-stands g c first since hard st =
    let s = c.args.self.now in
    marked g.D.Disk.image g.D.Disk.may_leave g.D.Disk.past g.D.Disk.moment g.D.Disk.left_with s _ (record { size = log_end s.log; count = s.count; next = c.args.next }) first since hard c.requires.writable st c.close_log.ensures.head c.close_log.ensures.end
    (closing_by c.end.result (log_end s.log) s.count c.args.next _ refl (c.end.ensures ∙ c.close_log.ensures.end)) refl refl refl refl refl refl refl refl c.requires.closed
    (done c.close_log.result c.as_store_error.result c.in_ok-as_store_error.field-0 c.as_store_error.ensures.err (search rules) c.close_log.ensures.written)
    (done c.close_log.result c.as_store_error.result c.in_ok-as_store_error.field-0 c.as_store_error.ensures.err (search rules) c.close_log.ensures.durable)
    (returns-clause-fair g c first since hard st)

pub returns-clause-file : goal.returns-clause-file
returns-clause-file g c groups since hard st =
    let s = c.args.self.now in
    closed_file g.D.Disk.image g.D.Disk.may_leave g.D.Disk.past s (g.D.Disk.image (log_disk c.close_log.new.self)) c.args.next groups since hard st
    (done c.close_log.result c.as_store_error.result c.in_ok-as_store_error.field-0 c.as_store_error.ensures.err (search rules) c.close_log.ensures.written)

pub returns-clause-ended : goal.returns-clause-ended
returns-clause-ended g c =
    let s = c.args.self.now in
    let w = c.requires.whole in
    let some = base_within g.D.Disk.image g.D.Disk.may_leave g.D.Disk.past s w.0 w.1 w.2 w.3 in
    ended_closed s.closed s.writable (record { size = c.end.result; count = s.count; next = c.args.next }) c.args.next c.requires.closed c.requires.writable (omega (arith, some, c.end.ensures ∙ c.close_log.ensures.end)) refl
