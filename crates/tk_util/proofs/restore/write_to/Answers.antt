use Rattle.std.proofs.Common.{◌≡◌, ◌≢◌, ℕ, ◌∙◌, subst, inl, inr}
use Rattle.tk_disk.specs.Disk.{Rose}
use Rattle.tk_disk.specs.Folder.{or_empty}
use Rattle.tk_status.specs.Finish.{ended, exists_at}
use Rattle.tk_util.proofs.Endings.{not_status, rose_moved}
use Rattle.tk_util.proofs.Making.{taken_restores, untaken_restores}
use Rattle.tk_util.proofs.OnFolder.{wrote_leaves, fault_counted}
use Rattle.tk_util.proofs.Restoring.{nothing_settled, wrote_settled, wrote_by, counted_true, write_stopped, memory_stop}
use Rattle.tk_util.proofs.restore.write_to.Given as Given
use Rattle.tk_util.proofs.restore.write_to.Goals as goal

pub returns-in-Err-clause-ends_clearly : goal.returns-in-Err-clause-ends_clearly
returns-in-Err-clause-ends_clearly g c = λ tells image from. nothing_settled image _ _ c.in-Err.ensures.same

pub returns-in-Ok-given-clause-crash : goal.returns-in-Ok-given-clause-crash
returns-in-Ok-given-clause-crash g c =
    wrote_leaves (g.F.Folder.tells c.args.folder.now) c.args.name.now _ _ (g.F.Folder.leaves c.args.folder.now) (g.F.Folder.leaves c.take_disk.new.folder) (g.F.Folder.leaves c.give-given.new.self) c.with.result
    (g.F.D.Disk.may_leave c.in-Ok.disk) (g.F.D.Disk.may_leave c.write_new-written.new.to) (g.F.D.Disk.image c.in-Ok.disk) (g.F.D.Disk.image c.write_new-written.new.to) c.in-Ok.ensures.image (λ tells. c.give-given.ensures.here (c.take_disk.ensures.tells ∙ tells))
    c.write_new-written.ensures.unwritten c.in-Ok.ensures.crash.crash c.give-given.ensures.crash.crash c.take_disk.ensures.others_crash (λ m ne. (c.give-given.ensures.others_crash m ne).crash)
    (not_status _ (ended 0) 3 c.with.ensures (λ h. cc h), not_status _ (ended 0) 7 c.with.ensures (λ h. cc h))
    (λ either. counted_true _ _ c.write_new-written.result c.counted-written.result c.counted-written.ensures.answer c.in-Ok-true.is c.in-Ok-true.field-0-test c.write_new-written.ensures.durable)

pub returns-in-Err-given-clause-ends_clearly : goal.returns-in-Err-given-clause-ends_clearly
returns-in-Err-given-clause-ends_clearly g c = λ tells image from.
    wrote_settled image _ _ (g.F.D.Disk.image c.write_new-written.new.to) (c.give-given.ensures.here (c.take_disk.ensures.tells ∙ tells)) (g.F.D.Disk.image c.in-Ok.disk) _ c.write_new-written.result c.counted-written.result (c.in-Ok.ensures.image tells)
    (c.write_new-written.ensures.written image from) c.counted-written.ensures.answer
    (λ e. rose_moved _ _ _ _ c.in-Ok.ensures.count c.give-given.ensures.count (subst (λ (k : ℕ). Rose k (g.F.D.Disk.fault_count c.write_new-written.new.to)) c.faults-faults.ensures (subst (λ (k : ℕ). Rose c.faults-faults.result k) c.faults.ensures (fault_counted _ _ c.counted-written.result c.counted-written.ensures.counts e))))

pub returns-in-Err-written-clause-ends_clearly : goal.returns-in-Err-written-clause-ends_clearly
returns-in-Err-written-clause-ends_clearly g c = λ tells image from.
    wrote_settled image _ _ (g.F.D.Disk.image c.write_new-written.new.to) (c.give-given.ensures.here (c.take_disk.ensures.tells ∙ tells)) (g.F.D.Disk.image c.in-Ok.disk) _ c.write_new-written.result c.counted-written.result (c.in-Ok.ensures.image tells)
    (c.write_new-written.ensures.written image from) c.counted-written.ensures.answer
    (λ e. rose_moved _ _ _ _ c.in-Ok.ensures.count c.give-given.ensures.count (subst (λ (k : ℕ). Rose k (g.F.D.Disk.fault_count c.write_new-written.new.to)) c.faults-faults.ensures (subst (λ (k : ℕ). Rose c.faults-faults.result k) c.faults.ensures (fault_counted _ _ c.counted-written.result c.counted-written.ensures.counts e))))

-- a writing that stopped ends with 4 or 5
other : (g : Given.Over) (c : goal.After-end_of-in-Err-written g) (k : ℕ) → k ≢ 4 → k ≢ 5 → c.end_of-in-Err-written.result.status ≡ k → ⊥
other g c = write_stopped _ c.write_new-written.result c.counted-written.result c.in-Err-written.stop c.give-given.result _ c.write_new-written.ensures.stops c.counted-written.ensures.answer c.in-Err-written.is c.end_of-in-Err-written.ensures

pub returns-in-Ok-given-clause-ends_clearly : goal.returns-in-Ok-given-clause-ends_clearly
returns-in-Ok-given-clause-ends_clearly g c = λ tells image from.
    wrote_settled image _ _ (g.F.D.Disk.image c.write_new-written.new.to) (c.give-given.ensures.here (c.take_disk.ensures.tells ∙ tells)) (g.F.D.Disk.image c.in-Ok.disk) _ c.write_new-written.result c.counted-written.result (c.in-Ok.ensures.image tells)
    (c.write_new-written.ensures.written image from) c.counted-written.ensures.answer
    (λ e. rose_moved _ _ _ _ c.in-Ok.ensures.count c.give-given.ensures.count (subst (λ (k : ℕ). Rose k (g.F.D.Disk.fault_count c.write_new-written.new.to)) c.faults-faults.ensures (subst (λ (k : ℕ). Rose c.faults-faults.result k) c.faults.ensures (fault_counted _ _ c.counted-written.result c.counted-written.ensures.counts e))))

pub returns-in-Ok-false-clause-ends_clearly : goal.returns-in-Ok-false-clause-ends_clearly
returns-in-Ok-false-clause-ends_clearly g c = λ tells image from.
    wrote_settled image _ _ (g.F.D.Disk.image c.write_new-written.new.to) (c.give-given.ensures.here (c.take_disk.ensures.tells ∙ tells)) (g.F.D.Disk.image c.in-Ok.disk) _ c.write_new-written.result c.counted-written.result (c.in-Ok.ensures.image tells)
    (c.write_new-written.ensures.written image from) c.counted-written.ensures.answer
    (λ e. rose_moved _ _ _ _ c.in-Ok.ensures.count c.give-given.ensures.count (subst (λ (k : ℕ). Rose k (g.F.D.Disk.fault_count c.write_new-written.new.to)) c.faults-faults.ensures (subst (λ (k : ℕ). Rose c.faults-faults.result k) c.faults.ensures (fault_counted _ _ c.counted-written.result c.counted-written.ensures.counts e))))

pub returns-in-Ok-given-clause-wrote : goal.returns-in-Ok-given-clause-wrote
returns-in-Ok-given-clause-wrote g c = λ tells image from.
    wrote_by image _ _ (g.F.D.Disk.image c.write_new-written.new.to) (c.give-given.ensures.here (c.take_disk.ensures.tells ∙ tells)) (g.F.D.Disk.image c.in-Ok.disk) _ c.write_new-written.result c.counted-written.result c.with.result (c.in-Ok.ensures.image tells)
    (c.write_new-written.ensures.written image from) c.counted-written.ensures.answer
    (λ e. cc (c.in-Ok-true.is, c.in-Ok-true.field-0-test)) (λ e. absurd (not_status _ (ended 0) 7 c.with.ensures (λ h. cc h) e)) (λ e. absurd (not_status _ (ended 0) 5 c.with.ensures (λ h. cc h) e))

pub returns-in-Err-given-clause-wrote : goal.returns-in-Err-given-clause-wrote
returns-in-Err-given-clause-wrote g c = λ tells image from.
    wrote_by image _ _ (g.F.D.Disk.image c.write_new-written.new.to) (c.give-given.ensures.here (c.take_disk.ensures.tells ∙ tells)) (g.F.D.Disk.image c.in-Ok.disk) _ c.write_new-written.result c.counted-written.result c.with-in-Err-given.result (c.in-Ok.ensures.image tells)
    (c.write_new-written.ensures.written image from) c.counted-written.ensures.answer
    (λ e. absurd (not_status _ (ended 4) 0 c.with-in-Err-given.ensures (λ h. cc h) e)) (λ e. absurd (not_status _ (ended 4) 7 c.with-in-Err-given.ensures (λ h. cc h) e)) (λ e. absurd (not_status _ (ended 4) 5 c.with-in-Err-given.ensures (λ h. cc h) e))

pub returns-in-Ok-false-clause-wrote : goal.returns-in-Ok-false-clause-wrote
returns-in-Ok-false-clause-wrote g c = λ tells image from.
    wrote_by image _ _ (g.F.D.Disk.image c.write_new-written.new.to) (c.give-given.ensures.here (c.take_disk.ensures.tells ∙ tells)) (g.F.D.Disk.image c.in-Ok.disk) _ c.write_new-written.result c.counted-written.result c.exists.result (c.in-Ok.ensures.image tells)
    (c.write_new-written.ensures.written image from) c.counted-written.ensures.answer
    (λ e. absurd (not_status _ (exists_at 1) 0 c.exists.ensures (λ h. cc h) e)) (λ e. cc (c.in-Ok-false.is, c.in-Ok-false.field-0-test)) (λ e. absurd (not_status _ (exists_at 1) 5 c.exists.ensures (λ h. cc h) e))

pub returns-in-Err-written-clause-wrote : goal.returns-in-Err-written-clause-wrote
returns-in-Err-written-clause-wrote g c = λ tells image from.
    wrote_by image _ _ (g.F.D.Disk.image c.write_new-written.new.to) (c.give-given.ensures.here (c.take_disk.ensures.tells ∙ tells)) (g.F.D.Disk.image c.in-Ok.disk) _ c.write_new-written.result c.counted-written.result c.end_of-in-Err-written.result (c.in-Ok.ensures.image tells)
    (c.write_new-written.ensures.written image from) c.counted-written.ensures.answer
    (λ e. absurd (other g c 0 (λ h. cc h) (λ h. cc h) e)) (λ e. absurd (other g c 7 (λ h. cc h) (λ h. cc h) e)) (λ e. c.in-Err-written.is ∙ memory_stop c.in-Err-written.stop c.give-given.result _ c.end_of-in-Err-written.ensures e)

pub returns-in-Err-given-clause-crash : goal.returns-in-Err-given-clause-crash
returns-in-Err-given-clause-crash g c =
    wrote_leaves (g.F.Folder.tells c.args.folder.now) c.args.name.now _ _ (g.F.Folder.leaves c.args.folder.now) (g.F.Folder.leaves c.take_disk.new.folder) (g.F.Folder.leaves c.give-given.new.self) c.with-in-Err-given.result
    (g.F.D.Disk.may_leave c.in-Ok.disk) (g.F.D.Disk.may_leave c.write_new-written.new.to) (g.F.D.Disk.image c.in-Ok.disk) (g.F.D.Disk.image c.write_new-written.new.to) c.in-Ok.ensures.image (λ tells. c.give-given.ensures.here (c.take_disk.ensures.tells ∙ tells))
    c.write_new-written.ensures.unwritten c.in-Ok.ensures.crash.crash c.give-given.ensures.crash.crash c.take_disk.ensures.others_crash (λ m ne. (c.give-given.ensures.others_crash m ne).crash)
    (not_status _ (ended 4) 3 c.with-in-Err-given.ensures (λ h. cc h), not_status _ (ended 4) 7 c.with-in-Err-given.ensures (λ h. cc h))
    (λ either. absurd (elim either [ inl e ↦ not_status _ (ended 4) 0 c.with-in-Err-given.ensures (λ h. cc h) e | inr e ↦ not_status _ (ended 4) 6 c.with-in-Err-given.ensures (λ h. cc h) e ]))

pub returns-in-Err-written-clause-crash : goal.returns-in-Err-written-clause-crash
returns-in-Err-written-clause-crash g c =
    let other = write_stopped _ c.write_new-written.result c.counted-written.result c.in-Err-written.stop c.give-given.result _ c.write_new-written.ensures.stops c.counted-written.ensures.answer c.in-Err-written.is c.end_of-in-Err-written.ensures in
    wrote_leaves (g.F.Folder.tells c.args.folder.now) c.args.name.now _ _ (g.F.Folder.leaves c.args.folder.now) (g.F.Folder.leaves c.take_disk.new.folder) (g.F.Folder.leaves c.give-given.new.self) c.end_of-in-Err-written.result
    (g.F.D.Disk.may_leave c.in-Ok.disk) (g.F.D.Disk.may_leave c.write_new-written.new.to) (g.F.D.Disk.image c.in-Ok.disk) (g.F.D.Disk.image c.write_new-written.new.to) c.in-Ok.ensures.image (λ tells. c.give-given.ensures.here (c.take_disk.ensures.tells ∙ tells))
    c.write_new-written.ensures.unwritten c.in-Ok.ensures.crash.crash c.give-given.ensures.crash.crash c.take_disk.ensures.others_crash (λ m ne. (c.give-given.ensures.others_crash m ne).crash)
    (other 3 (λ h. cc h) (λ h. cc h), other 7 (λ h. cc h) (λ h. cc h)) (λ either. absurd (elim either [ inl e ↦ other 0 (λ h. cc h) (λ h. cc h) e | inr e ↦ other 6 (λ h. cc h) (λ h. cc h) e ]))

pub returns-in-Err-clause-makes : goal.returns-in-Err-clause-makes
returns-in-Err-clause-makes g c = λ tells image from empty. untaken_restores _ _ _ _ _ _ _ _ _ _ c.in-Err.ensures.err_crash (g.met.F.Folder.only_with c.args.folder.now c.args.name.now) image

pub returns-in-Ok-given-clause-makes : goal.returns-in-Ok-given-clause-makes
returns-in-Ok-given-clause-makes g c = λ tells image from.
    taken_restores _ _ _ _ _ _ _ _ _ _ _ _ _ _ _ _ _ _ _ _ c.in-Ok.ensures.crash c.give-given.ensures.crash image (or_empty (g.F.Folder.file c.args.folder.now c.args.name.now)) (g.F.D.Disk.image c.in-Ok.disk) (c.in-Ok.ensures.image tells)
    (c.write_new-written.ensures.makes image from)

pub returns-in-Err-given-clause-makes : goal.returns-in-Err-given-clause-makes
returns-in-Err-given-clause-makes g c = λ tells image from.
    taken_restores _ _ _ _ _ _ _ _ _ _ _ _ _ _ _ _ _ _ _ _ c.in-Ok.ensures.crash c.give-given.ensures.crash image (or_empty (g.F.Folder.file c.args.folder.now c.args.name.now)) (g.F.D.Disk.image c.in-Ok.disk) (c.in-Ok.ensures.image tells)
    (c.write_new-written.ensures.makes image from)

pub returns-in-Ok-false-clause-makes : goal.returns-in-Ok-false-clause-makes
returns-in-Ok-false-clause-makes g c = λ tells image from.
    taken_restores _ _ _ _ _ _ _ _ _ _ _ _ _ _ _ _ _ _ _ _ c.in-Ok.ensures.crash c.give-given.ensures.crash image (or_empty (g.F.Folder.file c.args.folder.now c.args.name.now)) (g.F.D.Disk.image c.in-Ok.disk) (c.in-Ok.ensures.image tells)
    (c.write_new-written.ensures.makes image from)

pub returns-in-Err-written-clause-makes : goal.returns-in-Err-written-clause-makes
returns-in-Err-written-clause-makes g c = λ tells image from.
    taken_restores _ _ _ _ _ _ _ _ _ _ _ _ _ _ _ _ _ _ _ _ c.in-Ok.ensures.crash c.give-given.ensures.crash image (or_empty (g.F.Folder.file c.args.folder.now c.args.name.now)) (g.F.D.Disk.image c.in-Ok.disk) (c.in-Ok.ensures.image tells)
    (c.write_new-written.ensures.makes image from)
