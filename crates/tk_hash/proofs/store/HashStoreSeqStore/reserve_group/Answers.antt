use Rattle.std.proofs.Common.{[], arith}
use Rattle.std.specs.Prelude.{Some, None}
use Rattle.tk_hash.specs.HashLaws.{hash_safe_less}
use Rattle.tk_hash.proofs.HashGrows.{restaged, stood_staged, unless_fault}
use Rattle.tk_hash.proofs.store.HashStoreSeqStore.reserve_group.Goals as goal

pub returns-in_err-reserve_changes-clause-since : goal.returns-in_err-reserve_changes-clause-since
returns-in_err-reserve_changes-clause-since g c =
    unless_fault c.from_residual-in_err-reserve_changes.result
    (λ t n first since hard st. c.reserve_changes.ensures.since t n first since hard (stood_staged g.D.Disk.image g.D.Disk.may_leave g.D.Disk.past g.D.Disk.moment g.D.Disk.left_since g.D.Disk.left_with c.args.self.now None c.args.self.now.closed (λ unclosed. unclosed) t n first since hard st))

pub returns-in_err-reserve_changes-clause-safe : goal.returns-in_err-reserve_changes-clause-safe
returns-in_err-reserve_changes-clause-safe g c t n first since hard st =
    hash_safe_less g.D.Disk.image g.D.Disk.left_since g.D.Disk.left_with _ t first since [] n n (omega arith)
    (c.reserve_changes.ensures.since t n first since hard (stood_staged g.D.Disk.image g.D.Disk.may_leave g.D.Disk.past g.D.Disk.moment g.D.Disk.left_since g.D.Disk.left_with c.args.self.now None c.args.self.now.closed (λ unclosed. unclosed) t n first since hard st)).safe

pub returns-in_ok-reserve_changes-clause-stands : goal.returns-in_ok-reserve_changes-clause-stands
returns-in_ok-reserve_changes-clause-stands g c first since hard st =
    restaged g.D.Disk.image g.D.Disk.may_leave g.D.Disk.past c.reserve_changes.new.self first since hard (c.reserve_changes.ensures.stands first since hard (restaged g.D.Disk.image g.D.Disk.may_leave g.D.Disk.past c.args.self.now first since hard st None c.args.self.now.closed (λ unclosed. unclosed))) (Some c.in_ok-reserve_changes.field-0) c.reserve_changes.new.self.closed (λ unclosed. unclosed)

pub returns-in_ok-reserve_changes-clause-since : goal.returns-in_ok-reserve_changes-clause-since
returns-in_ok-reserve_changes-clause-since g c t n first since hard st =
    stood_staged g.D.Disk.image g.D.Disk.may_leave g.D.Disk.past g.D.Disk.moment g.D.Disk.left_since g.D.Disk.left_with c.reserve_changes.new.self (Some c.in_ok-reserve_changes.field-0) c.reserve_changes.new.self.closed (λ unclosed. unclosed) t n first since hard
    (c.reserve_changes.ensures.since t n first since hard (stood_staged g.D.Disk.image g.D.Disk.may_leave g.D.Disk.past g.D.Disk.moment g.D.Disk.left_since g.D.Disk.left_with c.args.self.now None c.args.self.now.closed (λ unclosed. unclosed) t n first since hard st))

pub returns-in_ok-reserve_changes-clause-safe : goal.returns-in_ok-reserve_changes-clause-safe
returns-in_ok-reserve_changes-clause-safe g c t n first since hard st =
    hash_safe_less g.D.Disk.image g.D.Disk.left_since g.D.Disk.left_with _ t first since [] n n (omega arith) (returns-in_ok-reserve_changes-clause-since g c t n first since hard st).safe
