use Rattle.tk_proc.proofs.LegalRuns.{keys_legal, each_legal, next_legal, one_key_changes}
use Rattle.std.proofs.Common.{refl}
use Rattle.tk_proc.proofs.Answering.{one_status, keys_long, each_long, next_status_is, next_state_is, none_status, none_state}
use Rattle.tk_proc.proofs.law.runs_are_legal.Goals as goal

pub returns : goal.returns
returns g c = record {
  legal = record {
    keys = keys_legal g.P.RecordProcessor.acts g.P.RecordProcessor.turns c.args.order;
    each = each_legal g.P.RecordProcessor.acts g.P.RecordProcessor.turns c.args.order;
    next = next_legal g.P.RecordProcessor.acts g.P.RecordProcessor.turns c.args.order;
  };
  one = record { changes = one_key_changes g.P.RecordProcessor.acts g.P.RecordProcessor.turns c.args.order };
  answers = record {
    one_status = one_status g.P.RecordProcessor.acts g.P.RecordProcessor.turns c.args.order;
    one_state = λ w s k m. refl;
    keys_long = keys_long g.P.RecordProcessor.acts g.P.RecordProcessor.turns c.args.order;
    each_long = each_long g.P.RecordProcessor.acts g.P.RecordProcessor.turns c.args.order;
    each_none = λ w s. refl;
    next_status_is = next_status_is g.P.RecordProcessor.acts g.P.RecordProcessor.turns c.args.order;
    next_state_is = next_state_is g.P.RecordProcessor.acts g.P.RecordProcessor.turns c.args.order;
    none_status = none_status g.P.RecordProcessor.acts g.P.RecordProcessor.turns c.args.order;
    none_state = λ w. none_state g.P.RecordProcessor.acts g.P.RecordProcessor.turns c.args.order;
  };
}
