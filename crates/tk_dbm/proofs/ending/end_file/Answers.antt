use Rattle.std.proofs.Common.{ℕ, Some, Err, refl, sym, ap, ◌∙◌, subst}
use Rattle.tk_status.specs.declared.Status.{Status}
use Rattle.tk_dbm.specs.Ending.{EndsFile, failure_with}
use Rattle.tk_dbm.specs.Fates.{Ended}
use Rattle.tk_dbm.proofs.Fates.{file_failed}
use Rattle.tk_dbm.proofs.ending.end_file.Goals as goal

pub returns-in-Ok : goal.returns-in-Ok
returns-in-Ok g c = let e = c.in-Ok.ensures in record {
  fate = Ended;
  closes = (record { closed = e.closed; same = e.goes_on.same_nature; tells = e.goes_on.tells; later = e.cause.later }, e.stands, e.ended);
  failed_is = refl;
}

pub returns-in-Err : goal.returns-in-Err
returns-in-Err g c = let e = c.in-Err.ensures in
    subst (λ (s : Status). EndsFile g.S.SeqStore.stands g.S.SeqStore.store_view g.S.SeqStore.constants g.S.SeqStore.fault_count c.args.next c.args.store (Some s) c.close.new.self) (sym (c.failure_of-failure.ensures ∙ ap (λ (n : ℕ). failure_with n c.in-Err.error) c.faults.ensures))
    (file_failed g.S.SeqStore.stands g.S.SeqStore.store_view g.S.SeqStore.constants g.S.SeqStore.fault_count c.args.next _ c.args.store c.close.new.self c.in-Err.error (record { closed = e.closed; same = e.goes_on.same_nature; tells = e.goes_on.tells; later = e.cause.later }) e.unended (λ z. e.cause.fault (ap Err z)) e.kept e.never)
