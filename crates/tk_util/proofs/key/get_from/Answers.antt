use Rattle.std.proofs.Common.{ℕ, List, refl, ◌∙◌, ap}
use Rattle.std.specs.Prelude.{Option}
use Rattle.tk_proc.specs.Replies.{get_reply}
use Rattle.tk_util.proofs.Ready.{get_fits}
use Rattle.tk_util.proofs.Replies.{called_done, value_made, get_done}
use Rattle.tk_util.proofs.key.get_from.Goals as goal

pub returns-clause-call : goal.returns-clause-call
returns-clause-call g c =
    get_done _ _ _ _ _ _ _
    (called_done _ _ get_reply _ _ (λ was. refl) get_fits _ _ _ _ _ _ _
    c.run_call-disk.ensures.made c.run_call-disk.ensures.no_room c.run_call-disk.ensures.refused c.run_call-disk.ensures.no_memory
    (λ was new. c.status.ensures ∙ ap (λ (w : Option (List ℕ)). (get_reply w).status) new) c.with_status-answer.ensures)
    (value_made _ _ get_reply _ _ (λ was. refl) get_fits _ _ _ _ _ _ _ _ (λ was new. new) c.run_call-disk.ensures.made c.with_status-answer.ensures)
    c.with_status-answer.ensures c.status.ensures (c.run_call-disk.ensures.reads refl).same
