use Rattle.tk_model.proofs.NetChanges.{changes_reach}
use Rattle.tk_model.proofs.Shards.{parts_reach, parts_more}
use Rattle.tk_model.proofs.Limits.{entry_held, changes_fit}
use Rattle.tk_model.proofs.law.changes_are_enough.Goals as goal

pub returns : goal.returns
returns c = record {
  net = record { net = changes_reach c.args.order };
  parts = record { shard = parts_reach c.args.order; more = parts_more c.args.order };
  limits = record {
    held = entry_held c.args.order;
    fit = λ e m l h. (changes_fit c.args.order e m l h).0;
    lone = λ e m l h. (changes_fit c.args.order e m l h).1;
  };
}
