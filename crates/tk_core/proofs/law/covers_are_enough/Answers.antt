use Rattle.std.proofs.Common.{sym, ap, ◌∙◌}
use Rattle.tk_model.specs.Records.{find}
use Rattle.tk_model.specs.Entries.{changes_of}
use Rattle.tk_model.proofs.NetChanges.{changes_reach}
use Rattle.tk_core.proofs.Calls.{call_alike, key_stays, store_stays}
use Rattle.tk_core.proofs.law.covers_are_enough.Goals as goal

pub returns : goal.returns
returns c = record {
  legal = λ held e m n frame rm rn agree covers. (call_alike c.args.frame held frame m n rm rn agree e covers).0;
  changes = λ held e m n frame rm rn agree covers. (call_alike c.args.frame held frame m n rm rn agree e covers).1;
  keys = λ held e m frame rm covers k free.
      ap (find k) (sym (changes_reach c.args.frame.order e m rm)) ∙ key_stays c.args.frame held frame k free (changes_of c.args.frame.order m e) m covers;
  stores = λ held e m covers i low free. store_stays c.args.frame held i low free (changes_of c.args.frame.order m e) covers;
}
