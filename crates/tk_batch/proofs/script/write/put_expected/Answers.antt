use Rattle.std.proofs.Common.{refl}
use Rattle.tk_batch.specs.Written.{expected_fields}
use Rattle.tk_batch.proofs.Tabs.{tabs_more, tabs_text, tabs_back, with_expected}
use Rattle.tk_batch.proofs.script.write.put_expected.Goals as goal

pub loop-pair-preserved : goal.loop-pair-preserved
loop-pair-preserved c =
    tabs_more expected_fields with_expected c.args.out.now c.loop-pair.out c.put_expected_pair.new.out c.args.expected.now c.loop-pair.pair-index c.pair-item.result c.loop-pair.invariant c.loop-pair-test.true c.pair-item.is c.in_ok-put_expected_pair.ensures.ok c.in_ok-put_expected_pair.ensures.back

pub returns-clause-ok : goal.returns-clause-ok
returns-clause-ok c = tabs_text expected_fields c.args.out.now c.loop-pair.out c.args.expected.now c.loop-pair.pair-index c.loop-pair.invariant refl c.loop-pair-test.false

pub returns-clause-back : goal.returns-clause-back
returns-clause-back c = tabs_back expected_fields c.args.out.now c.loop-pair.out c.args.expected.now c.loop-pair.pair-index c.loop-pair.invariant refl c.loop-pair-test.false
