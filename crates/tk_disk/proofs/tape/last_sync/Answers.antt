use Rattle.std.proofs.Common.{◌+◌, refl, arith}
use Rattle.tk_disk.specs.declared.tape.Step.TheVariants.{Write, Cut, Sync}
use Rattle.tk_disk.proofs.LastSync.{spent_within, counted-other, counted-sync}
use Rattle.tk_disk.proofs.tape.last_sync.Goals.{in-Write, in-Cut, in-Sync}
use Rattle.tk_disk.proofs.tape.last_sync.Goals as goal

pub overflow_add-bytes : goal.overflow_add-bytes
overflow_add-bytes c = omega (arith, spent_within c.args.steps.now c.loop-i.i (Write 0 0) (Write c.in-Write.field-0 c.in-Write.n) c.loop-i-test.true c.in-Write.is, c.loop-i.invariant.bytes_so_far, c.requires)

pub loop-i-preserved : goal.loop-i-preserved
loop-i-preserved c =
    let steps = c.args.steps.now in
    let synced = c.loop-i.synced in
    elim c.match-step.branch [
      | in-Write w ↦ rw (w.synced-is, w.bytes-is) (counted-other steps c.loop-i.i (Write 0 0) (Write w.in-Write.field-0 w.in-Write.n) c.loop-i-test.true w.in-Write.is synced.0 c.loop-i.bytes synced.1 (c.loop-i.bytes + w.in-Write.n) tt (omega arith) c.loop-i.invariant)
      | in-Cut w ↦ rw (w.synced-is, w.bytes-is) (counted-other steps c.loop-i.i (Write 0 0) (Cut w.in-Cut.field-0) c.loop-i-test.true w.in-Cut.is synced.0 c.loop-i.bytes synced.1 c.loop-i.bytes tt (omega arith) c.loop-i.invariant)
      | in-Sync w ↦ rw (w.synced-is, w.bytes-is) (counted-sync steps c.loop-i.i (Write 0 0) Sync c.loop-i-test.true w.in-Sync.is synced.0 c.loop-i.bytes synced.1 refl c.loop-i.invariant)
    ]
