use Rattle.std.proofs.Common.{rules, ◌≡◌, IfSome, Some}
use Rattle.tk_model.specs.Records.{after}
use Rattle.tk_store.specs.OneRecord.{call_changes}
use Rattle.tk_store.proofs.Acts.{reached}
use Rattle.tk_store.proofs.run.run_on.Goals as goal

pub returns-clause-map : goal.returns-clause-map
returns-clause-map g c =
    let changed : IfSome (g.S.SeqStore.store_view c.args.store.now).map (λ m. (g.S.SeqStore.store_view c.put_changes.new.store).map
    ≡ Some (after (g.S.SeqStore.constants c.args.store.now).order (call_changes g.P.RecordProcessor.acts c.args.p.now c.args.key.now m) m)) =
    search rules in
    reached g.P.RecordProcessor.acts (g.S.SeqStore.constants c.args.store.now).order c.args.p.now c.args.key.now (g.S.SeqStore.store_view c.args.store.now).map (g.S.SeqStore.store_view c.put_changes.new.store).map changed
