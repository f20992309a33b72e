use Rattle.std.proofs.Common.{true, refl, subst}
use Rattle.tk_status.specs.declared.Status.TheVariants.{Success}
use Rattle.tk_proc.specs.Replies.{append_reply}
use Rattle.tk_dbm.specs.Dbm.{view}
use Rattle.tk_dbm.specs.declared.answer.Answer.{Answer}
use Rattle.tk_derived.specs.declared.appender.LentAppender.{LentAppender}
use Rattle.tk_derived.specs.Rows.{append_row}
use Rattle.tk_derived.specs.Derived.{Replies}
use Rattle.tk_derived.proofs.Replied.{success_is_made}
use Rattle.tk_derived.proofs.GatedCalls.{derived_by}
use Rattle.tk_derived.proofs.RowLaws.{append_succeeds, append_replies}
use Rattle.tk_derived.proofs.appender.append.Goals as goal

pub returns-clause-derived : goal.returns-clause-derived
returns-clause-derived g c =
    subst (λ (a : Answer). Replies g.S.SeqStore.lawful g.S.SeqStore.stands g.S.SeqStore.store_view g.S.SeqStore.constants g.S.SeqStore.fault_count c.args.db.now true
    c.args.key.now (append_row c.args.value.now c.args.delim.now) (view c.args.pass.now) a (view c.process.new.pass)) (success_is_made c.process.result)
    (derived_by (λ (p : LentAppender) k was. (append_reply p.value.now p.delimiter.now was).action) (λ (p : LentAppender) k was. p)
    (record { called = c.process.ensures.called; turned = c.process.ensures.turned; same = λ was. refl; fair = append_replies c.args.value.now c.args.delim.now })
    Success (λ was e. append_succeeds c.args.value.now c.args.delim.now was))
