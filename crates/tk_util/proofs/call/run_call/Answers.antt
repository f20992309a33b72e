use Rattle.std.proofs.Common.{◌≡◌, Some, refl, ◌∙◌}
use Rattle.tk_store.specs.OneRecord.{call_changes}
use Rattle.tk_util.specs.Calls.{RefusedAt}
use Rattle.tk_hash.specs.Hash.{hash_disk}
use Rattle.tk_util.proofs.CallSteps.{made_at, no_room_at, memory_at, no_place}
use Rattle.tk_util.proofs.Crashing.{crash_opened, crash_unopened, still_opened}
use Rattle.tk_util.proofs.CutShort.{opened_cut, unopened_cut}
use Rattle.tk_util.proofs.Interrupting.{interrupted_at, unopened_at}
use Rattle.tk_util.proofs.Making.{empty_refused, unopened_unmade}
use Rattle.tk_util.proofs.Sparing.{spared_at, spared_back, safe_opened}
use Rattle.tk_util.proofs.call.run_call.Goals as goal

pub returns-clause-made : goal.returns-clause-made
returns-clause-made g c =
    made_at g.D.Disk.image g.D.Disk.may_leave g.D.Disk.past g.P.RecordProcessor.acts g.P.RecordProcessor.turns (g.D.Disk.image c.args.disk) c.in-Ok.store (hash_disk c.call_on-answer.new.store) c.into_disk.result c.args.writable _ _ _ c.call_on-answer.result
    c.in-Ok.ensures.exact c.in-Ok.ensures.opened c.in-Ok.ensures.mode.0 c.in-Ok.ensures.told c.into_disk.ensures c.call_on-answer.ensures.made

pub returns-clause-no_room : goal.returns-clause-no_room
returns-clause-no_room g c =
    no_room_at g.D.Disk.image g.D.Disk.may_leave g.D.Disk.past g.P.RecordProcessor.acts (g.D.Disk.image c.args.disk) c.in-Ok.store (hash_disk c.call_on-answer.new.store) c.into_disk.result c.args.writable c.args.key.now c.args.p.now c.call_on-answer.result
    c.in-Ok.ensures.exact c.in-Ok.ensures.opened c.in-Ok.ensures.told c.into_disk.ensures c.call_on-answer.ensures.no_room

pub returns-clause-spared : goal.returns-clause-spared
returns-clause-spared g c = λ may.
    spared_at g.D.Disk.image g.D.Disk.may_leave g.D.Disk.past g.D.Disk.moment g.D.Disk.left_since g.D.Disk.left_with g.met.D.Disk.counts_now (g.D.Disk.image c.args.disk) c.in-Ok.store c.call_on-answer.new.store c.into_disk.result (g.D.Disk.may_leave c.args.disk)
    c.in-Ok.ensures.opened (c.in-Ok.ensures.mode.0 ∙ may) c.in-Ok.ensures.told c.into_disk.ensures c.call_on-answer.ensures.told c.call_on-answer.ensures.constants c.call_on-answer.ensures.time
    (call_changes g.P.RecordProcessor.acts c.args.p.now c.args.key.now)
    (safe_opened g.D.Disk.image g.D.Disk.may_leave g.D.Disk.past g.D.Disk.moment g.D.Disk.left_since g.D.Disk.left_with g.met.D.Disk.only_now g.met.D.Disk.only_with g.met.D.Disk.since_with c.in-Ok.store c.call_on-answer.new.store (call_changes g.P.RecordProcessor.acts c.args.p.now c.args.key.now) c.call_on-answer.ensures.safe)

pub returns-in-Err-clause-spared : goal.returns-in-Err-clause-spared
returns-in-Err-clause-spared g c = λ may.
    spared_back g.D.Disk.image g.D.Disk.may_leave g.D.Disk.past g.D.Disk.moment g.D.Disk.left_since g.D.Disk.left_with g.met.D.Disk.counts_now (g.D.Disk.image c.args.disk) c.args.disk _ c.in-Err.ensures.back_time

pub returns-clause-refused : goal.returns-clause-refused
returns-clause-refused g c =
    no_place (g.D.Disk.image c.args.disk) c.call_on-answer.result (λ f place. RefusedAt c.args.writable f place × (g.D.Disk.image c.into_disk.result ≡ Some f)) c.call_on-answer.ensures.taken

pub returns-clause-crash : goal.returns-clause-crash
returns-clause-crash g c = λ may.
    crash_opened g.D.Disk.image g.D.Disk.may_leave g.D.Disk.past c.call_on-answer.result (g.D.Disk.may_leave c.args.disk) (g.D.Disk.may_leave (hash_disk c.in-Ok.store)) (hash_disk c.call_on-answer.new.store) c.into_disk.result
    c.call_on-answer.ensures.taken c.into_disk.ensures (c.call_on-answer.ensures.crash (c.in-Ok.ensures.mode.0 ∙ may))

pub returns-in-Err-clause-crash : goal.returns-in-Err-clause-crash
returns-in-Err-clause-crash g c = λ may. crash_unopened _ _ _ _ _ c.unopened.ensures (λ other. (c.in-Err.ensures.back_still other).crash)

pub returns-clause-reads : goal.returns-clause-reads
returns-clause-reads g c = λ reads.
    still_opened g.D.Disk.image g.D.Disk.may_leave g.D.Disk.past c.args.disk (hash_disk c.in-Ok.store) (hash_disk c.call_on-answer.new.store) c.into_disk.result
    (c.in-Ok.ensures.reads reads) (c.in-Ok.ensures.reads_still reads).crash c.into_disk.ensures (c.call_on-answer.ensures.reads (c.in-Ok.ensures.mode.0 ∙ reads))

pub returns-in-Err-clause-reads : goal.returns-in-Err-clause-reads
returns-in-Err-clause-reads g c = λ reads. record { same = c.in-Err.ensures.back_reads reads; crash = (c.in-Err.ensures.back_reads_still reads).crash }

pub returns-clause-no_memory : goal.returns-clause-no_memory
returns-clause-no_memory g c =
    memory_at g.D.Disk.image g.D.Disk.may_leave g.D.Disk.past (g.D.Disk.image c.args.disk) c.in-Ok.store (hash_disk c.call_on-answer.new.store) c.into_disk.result c.call_on-answer.result
    c.in-Ok.ensures.opened c.in-Ok.ensures.told c.into_disk.ensures c.call_on-answer.ensures.no_memory

pub returns-clause-crashes : goal.returns-clause-crashes
returns-clause-crashes g c = λ may.
    interrupted_at g.D.Disk.image g.D.Disk.may_leave g.D.Disk.past g.D.Disk.moment g.D.Disk.left_since g.D.Disk.left_with (g.D.Disk.image c.args.disk) c.args.disk c.in-Ok.store c.call_on-answer.new.store c.into_disk.result c.args.writable
    (call_changes g.P.RecordProcessor.acts c.args.p.now c.args.key.now) c.in-Ok.ensures.exact c.in-Ok.ensures.opened c.in-Ok.ensures.mode.0 may c.in-Ok.ensures.told c.into_disk.ensures c.call_on-answer.ensures.told c.call_on-answer.ensures.constants
    c.in-Ok.ensures.time.later c.call_on-answer.ensures.time
    (safe_opened g.D.Disk.image g.D.Disk.may_leave g.D.Disk.past g.D.Disk.moment g.D.Disk.left_since g.D.Disk.left_with g.met.D.Disk.only_now g.met.D.Disk.only_with g.met.D.Disk.since_with c.in-Ok.store c.call_on-answer.new.store (call_changes g.P.RecordProcessor.acts c.args.p.now c.args.key.now) c.call_on-answer.ensures.safe)

pub returns-in-Err-clause-crashes : goal.returns-in-Err-clause-crashes
returns-in-Err-clause-crashes g c = λ may.
    unopened_at g.D.Disk.image g.D.Disk.may_leave g.D.Disk.past g.D.Disk.moment g.D.Disk.left_since g.D.Disk.left_with (g.D.Disk.image c.args.disk) _ c.args.disk _ c.in-Err.ensures.back_time

pub returns-clause-cut_short : goal.returns-clause-cut_short
returns-clause-cut_short g c = λ may.
    opened_cut g.D.Disk.image g.D.Disk.may_leave g.D.Disk.past g.D.Disk.moment g.D.Disk.left_since g.D.Disk.left_with g.met.D.Disk.counts_now g.met.D.Disk.counts_with g.met.D.Disk.reads_left g.met.D.Disk.since_with (g.D.Disk.image c.args.disk) c.args.disk c.in-Ok.store c.call_on-answer.new.store c.into_disk.result c.args.writable
    (call_changes g.P.RecordProcessor.acts c.args.p.now c.args.key.now) refl c.in-Ok.ensures.opened c.in-Ok.ensures.mode.0 may c.in-Ok.ensures.told c.into_disk.ensures c.call_on-answer.ensures.told c.call_on-answer.ensures.constants
    c.in-Ok.ensures.last c.in-Ok.ensures.time c.in-Ok.ensures.pasts c.call_on-answer.ensures.time c.call_on-answer.ensures.safe

pub returns-in-Err-clause-cut_short : goal.returns-in-Err-clause-cut_short
returns-in-Err-clause-cut_short g c = λ may.
    unopened_cut g.D.Disk.image g.D.Disk.may_leave g.D.Disk.past g.D.Disk.moment g.D.Disk.left_since g.D.Disk.left_with g.met.D.Disk.counts_now g.met.D.Disk.counts_with g.met.D.Disk.reads_left g.met.D.Disk.since_with (g.D.Disk.image c.args.disk) _ c.args.disk _ refl c.in-Err.ensures.back_time c.in-Err.ensures.back_pasts

pub returns-clause-makes : goal.returns-clause-makes
returns-clause-makes g c = λ may. empty_refused (g.D.Disk.image c.args.disk) c.args.writable _ c.in-Ok.ensures.exact

pub returns-in-Err-clause-makes : goal.returns-in-Err-clause-makes
returns-in-Err-clause-makes g c = λ may. unopened_unmade g.D.Disk.past g.D.Disk.moment g.D.Disk.left_with (g.D.Disk.image c.args.disk) c.args.disk _ c.in-Err.ensures.back_pasts
