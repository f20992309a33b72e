use Rattle.std.proofs.Common.{[]}
use Rattle.std.proofs.lemmas.Option.{IfSome_then}
use Rattle.tk_status.specs.declared.Status.{Status}
use Rattle.tk_hash.specs.Hash.{opening, hash_disk}
use Rattle.tk_util.proofs.CallSteps.{made_on, kept_on, no_room_on, said_of, full_tells, memory_tells, one_more}
use Rattle.tk_store.specs.OneRecord.{call_changes}
use Rattle.tk_util.proofs.Sparing.{safe_made, safe_refused, safe_failed}
use Rattle.tk_util.proofs.call.call_on.Goals as goal

pub returns-in_ok-end_call-in-Ok-clause-made : goal.returns-in_ok-end_call-in-Ok-clause-made
returns-in_ok-end_call-in-Ok-clause-made g c = λ groups stands.
    made_on g.D.Disk.image g.D.Disk.may_leave g.D.Disk.past g.P.RecordProcessor.acts g.P.RecordProcessor.turns c.args.store.now c.run_on.new.store c.end_call.new.store _ _ _ groups c.next_number-next.result c.saturating_add.result _ stands
    (said_of _ _ _ _ _ _ c.in-Ok.ensures.status c.in-Ok.ensures.turned c.in-Ok.ensures.full c.in-Ok.ensures.map c.in-Ok.ensures.stands) c.run_on.ensures.constants c.next_number-next.ensures c.requires.limit (λ writable. one_more _ _ _ c.next_number-next.ensures (c.requires.low writable) c.saturating_add.ensures)
    (λ since st. c.in_ok-end_call-in-Ok.ensures.file groups since 0 st)

pub returns-in_ok-end_call-in-Err-Full-clause-no_room : goal.returns-in_ok-end_call-in-Err-Full-clause-no_room
returns-in_ok-end_call-in-Err-Full-clause-no_room g c = λ groups stands.
    IfSome_then (g.D.Disk.image (hash_disk c.args.store.now)) (no_room_on g.D.Disk.image g.D.Disk.may_leave g.D.Disk.past g.P.RecordProcessor.acts c.args.store.now c.end_call-in-Err-Full.new.store _ _ groups c.in-Err-Full.field-0 _ _ _ c.in-Err-Full.field-0-is stands c.requires.limit c.in-Err-Full.ensures.full
    (kept_on g.D.Disk.image c.args.store.now c.run_on.new.store c.end_call-in-Err-Full.new.store groups c.next_number-next.result _ c.run_on.ensures.constants c.next_number-next.ensures ((full_tells Status _ c.in-Err-Full.field-0 _ _ _ c.in-Err-Full.field-0-is c.in-Err-Full.ensures.refused).2).map
    (c.in_ok-end_call-in-Err-Full.ensures.file groups [] 0 ((full_tells Status _ c.in-Err-Full.field-0 _ _ _ c.in-Err-Full.field-0-is c.in-Err-Full.ensures.refused).0 (opening groups) [] 0 stands))
    (λ after. after))) (λ f room same. room)

pub returns-in_ok-end_call-in-Err-NoMemory-clause-no_memory : goal.returns-in_ok-end_call-in-Err-NoMemory-clause-no_memory
returns-in_ok-end_call-in-Err-NoMemory-clause-no_memory g c = λ groups stands.
    kept_on g.D.Disk.image c.args.store.now c.run_on.new.store c.end_call-in-Err-NoMemory.new.store groups c.next_number-next.result _ c.run_on.ensures.constants c.next_number-next.ensures ((memory_tells Status _ c.in-Err-NoMemory.field-0 c.in-Err-NoMemory.field-0-is c.in-Err-NoMemory.ensures.refused).2).map
    (c.in_ok-end_call-in-Err-NoMemory.ensures.file groups [] 0 ((memory_tells Status _ c.in-Err-NoMemory.field-0 c.in-Err-NoMemory.field-0-is c.in-Err-NoMemory.ensures.refused).0 (opening groups) [] 0 stands))
    (λ after same. after)

pub returns-in_ok-end_call-in-Ok-clause-safe : goal.returns-in_ok-end_call-in-Ok-clause-safe
returns-in_ok-end_call-in-Ok-clause-safe g c = λ groups t since.
    safe_made g.D.Disk.image g.D.Disk.may_leave g.D.Disk.past g.D.Disk.moment g.D.Disk.left_since g.D.Disk.left_with c.args.store.now t groups since
    (call_changes g.P.RecordProcessor.acts c.args.p.now c.args.key.now) c.next_number-next.result c.next_number-next.ensures c.run_on.new.store c.end_call.new.store c.in-Ok.ensures.since c.end_call.ensures.safe

pub returns-in_ok-end_call-in-Err-Full-clause-safe : goal.returns-in_ok-end_call-in-Err-Full-clause-safe
returns-in_ok-end_call-in-Err-Full-clause-safe g c = λ groups t since.
    safe_refused g.D.Disk.image g.D.Disk.may_leave g.D.Disk.past g.D.Disk.moment g.D.Disk.left_since g.D.Disk.left_with c.args.store.now t groups since
    (call_changes g.P.RecordProcessor.acts c.args.p.now c.args.key.now) c.next_number-next.result c.next_number-next.ensures c.run_on.new.store c.end_call-in-Err-Full.new.store
    (full_tells Status _ c.in-Err-Full.field-0 _ _ _ c.in-Err-Full.field-0-is c.in-Err-Full.ensures.refused).1 c.end_call-in-Err-Full.ensures.safe

pub returns-in_ok-end_call-in-Err-NoMemory-clause-safe : goal.returns-in_ok-end_call-in-Err-NoMemory-clause-safe
returns-in_ok-end_call-in-Err-NoMemory-clause-safe g c = λ groups t since.
    safe_refused g.D.Disk.image g.D.Disk.may_leave g.D.Disk.past g.D.Disk.moment g.D.Disk.left_since g.D.Disk.left_with c.args.store.now t groups since
    (call_changes g.P.RecordProcessor.acts c.args.p.now c.args.key.now) c.next_number-next.result c.next_number-next.ensures c.run_on.new.store c.end_call-in-Err-NoMemory.new.store
    (memory_tells Status _ c.in-Err-NoMemory.field-0 c.in-Err-NoMemory.field-0-is c.in-Err-NoMemory.ensures.refused).1 c.end_call-in-Err-NoMemory.ensures.safe

pub returns-in_err-end_call-in-Ok-clause-safe : goal.returns-in_err-end_call-in-Ok-clause-safe
returns-in_err-end_call-in-Ok-clause-safe g c = λ groups t since.
    safe_made g.D.Disk.image g.D.Disk.may_leave g.D.Disk.past g.D.Disk.moment g.D.Disk.left_since g.D.Disk.left_with c.args.store.now t groups since
    (call_changes g.P.RecordProcessor.acts c.args.p.now c.args.key.now) c.next_number-next.result c.next_number-next.ensures c.run_on.new.store c.end_call.new.store c.in-Ok.ensures.since c.end_call.ensures.safe

pub returns-in_err-end_call-in-Err-Full-clause-safe : goal.returns-in_err-end_call-in-Err-Full-clause-safe
returns-in_err-end_call-in-Err-Full-clause-safe g c = λ groups t since.
    safe_refused g.D.Disk.image g.D.Disk.may_leave g.D.Disk.past g.D.Disk.moment g.D.Disk.left_since g.D.Disk.left_with c.args.store.now t groups since
    (call_changes g.P.RecordProcessor.acts c.args.p.now c.args.key.now) c.next_number-next.result c.next_number-next.ensures c.run_on.new.store c.end_call-in-Err-Full.new.store
    (full_tells Status _ c.in-Err-Full.field-0 _ _ _ c.in-Err-Full.field-0-is c.in-Err-Full.ensures.refused).1 c.end_call-in-Err-Full.ensures.safe

pub returns-in_err-end_call-in-Err-NoMemory-clause-safe : goal.returns-in_err-end_call-in-Err-NoMemory-clause-safe
returns-in_err-end_call-in-Err-NoMemory-clause-safe g c = λ groups t since.
    safe_refused g.D.Disk.image g.D.Disk.may_leave g.D.Disk.past g.D.Disk.moment g.D.Disk.left_since g.D.Disk.left_with c.args.store.now t groups since
    (call_changes g.P.RecordProcessor.acts c.args.p.now c.args.key.now) c.next_number-next.result c.next_number-next.ensures c.run_on.new.store c.end_call-in-Err-NoMemory.new.store
    (memory_tells Status _ c.in-Err-NoMemory.field-0 c.in-Err-NoMemory.field-0-is c.in-Err-NoMemory.ensures.refused).1 c.end_call-in-Err-NoMemory.ensures.safe

pub returns-in-Err-Fault-clause-safe : goal.returns-in-Err-Fault-clause-safe
returns-in-Err-Fault-clause-safe g c = λ groups t since.
    safe_failed g.D.Disk.image g.D.Disk.may_leave g.D.Disk.past g.D.Disk.moment g.D.Disk.left_since g.D.Disk.left_with c.args.store.now t groups since
    (call_changes g.P.RecordProcessor.acts c.args.p.now c.args.key.now) c.next_number-next.result c.next_number-next.ensures c.run_on.new.store c.run_on.ensures.safe
