use Rattle.std.proofs.lemmas.Option.{IfSome_then}
use Rattle.tk_mem.proofs.Openings.{accepts, breaks, is_no_text, broken_never, no_text_never}
use Rattle.tk_mem.proofs.tiny_store.TinyStore.load.Goals as goal

pub returns-in-Ok-clause-broken : goal.returns-in-Ok-clause-broken
returns-in-Ok-clause-broken g c =
    IfSome_then (g.D.Disk.image c.args.disk) c.in-Ok.ensures.accepted (λ f accepted place fails. broken_never c.args.shard c.args.writable f c.in-Ok.records place accepted fails)

pub returns-in-Ok-clause-no_text : goal.returns-in-Ok-clause-no_text
returns-in-Ok-clause-no_text g c =
    IfSome_then (g.D.Disk.image c.args.disk) c.in-Ok.ensures.accepted (λ f accepted none. no_text_never c.args.shard c.args.writable f c.in-Ok.records accepted none)

pub returns-in-Err-clause-accepted : goal.returns-in-Err-clause-accepted
returns-in-Err-clause-accepted g c =
    IfSome_then (g.D.Disk.image c.args.disk) c.in-Err.ensures.refused (λ f cause pairs accepted. accepts c.args.shard c.args.writable f pairs c.in-Err.cause accepted cause)

pub returns-in-Err-clause-broken : goal.returns-in-Err-clause-broken
returns-in-Err-clause-broken g c =
    IfSome_then (g.D.Disk.image c.args.disk) c.in-Err.ensures.refused (λ f cause place fails. breaks c.args.shard c.args.writable f place c.in-Err.cause fails cause)

pub returns-in-Err-clause-no_text : goal.returns-in-Err-clause-no_text
returns-in-Err-clause-no_text g c =
    IfSome_then (g.D.Disk.image c.args.disk) c.in-Err.ensures.refused (λ f cause none. is_no_text c.args.shard c.args.writable f c.in-Err.cause none cause)
