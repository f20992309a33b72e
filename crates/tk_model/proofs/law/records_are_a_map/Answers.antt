use Rattle.tk_model.proofs.RecordLaws.{find_put_same, find_put_other, find_without_same, find_without_other, replay_rising, entries_rising, same_records}
use Rattle.tk_model.proofs.law.records_are_a_map.Goals as goal

pub returns : goal.returns
returns c = record {
  finds = record {
    put_same = find_put_same c.args.order;
    put_other = find_put_other c.args.order;
    dropped_same = find_without_same c.args.order;
    dropped_other = find_without_other;
  };
  rising = record { groups = replay_rising c.args.order; calls = entries_rising c.args.order };
  alike = record { same = same_records c.args.order };
}
