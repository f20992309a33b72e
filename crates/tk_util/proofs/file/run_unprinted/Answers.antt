use Rattle.std.proofs.Common.{◌≡◌, ℕ, Bool, true, List, [], refl, sym, ◌∙◌, subst, inl}
use Rattle.std.specs.Prelude.{Option, Some, IsSome, Result, Ok}
use Rattle.tk_disk.specs.Crash.{Within}
use Rattle.tk_disk.specs.Disk.{Rose}
use Rattle.tk_disk.specs.Folder.{or_empty, SameBut, SameHistory}
use Rattle.tk_disk.specs.declared.disk.DiskError.{DiskError}
use Rattle.tk_status.specs.declared.finish.Finish.{Finish}
use Rattle.tk_util.specs.Asked.{file_said}
use Rattle.tk_util.specs.Ends.{call_end}
use Rattle.tk_util.specs.Done.{NotTaken, RanOnFile}
use Rattle.tk_util.specs.CutShort.{CutsCommandShort}
use Rattle.tk_util.specs.Interrupted.{InterruptsCommand}
use Rattle.tk_util.specs.Leaves.{LeavesToCrash, OthersWithin}
use Rattle.tk_util.specs.Making.{Makes}
use Rattle.tk_util.specs.Ran.{IsClearEnd, creates, file_of, writes}
use Rattle.tk_util.specs.World.{World}
use Rattle.tk_util.proofs.CutShort.{taken_cut, untaken_cut}
use Rattle.tk_util.proofs.Interrupting.{not_taken_through, taken_through}
use Rattle.tk_util.proofs.Making.{taken_makes, untaken_makes}
use Rattle.tk_util.proofs.Endings.{no_fault, rose_moved, two_names}
use Rattle.tk_util.proofs.OnFile.{on_file_done, on_file_counted, clear_end, rose_of, file_ran, not_taken, not_taken_settled}
use Rattle.tk_util.proofs.OnFolder.{leaves_through, crash_counted, fault_counted}
use Rattle.tk_util.proofs.file.run_unprinted.Given as Given
use Rattle.tk_util.proofs.file.run_unprinted.Goals as goal

abbrev world : (files : List ℕ → Option (List ℕ)) (left held : Option (List ℕ)) → World
world files left held = record { files = files; left = left; held = held }

-- why the disk was not taken, of the command's file
why : (g : Given.Over) (c : goal.After-end_of g) → NotTaken (creates (file_said c.args.command)) (g.F.Folder.tells c.args.folder.now) (g.F.Folder.file c.args.folder.now (file_of (file_said c.args.command))) c.in-Err.stop
why g c =
    subst (λ (n : List ℕ). NotTaken (creates (file_said c.args.command)) (g.F.Folder.tells c.args.folder.now) (g.F.Folder.file c.args.folder.now n) c.in-Err.stop) c.file.ensures
    (subst (λ (b : Bool). NotTaken b (g.F.Folder.tells c.args.folder.now) (g.F.Folder.file c.args.folder.now c.file.result.now) c.in-Err.stop) c.creates.ensures c.in-Err.ensures.stopped)

pub returns-in-Err-clause-ran : goal.returns-in-Err-clause-ran
returns-in-Err-clause-ran g c = λ left held tells.
    not_taken (world (g.F.Folder.file c.args.folder.now) left held) (world (g.F.Folder.file c.take_disk.new.folder) left held) c.args.command (g.F.Folder.tells c.args.folder.now) c.args.getter.now tells c.requires.unread
    (subst (λ (n : List ℕ). g.F.Folder.file c.take_disk.new.folder n ≡ g.F.Folder.file c.args.folder.now n) c.file.ensures c.in-Err.ensures.same)
    (record { others = subst (λ (n : List ℕ). SameBut n (g.F.Folder.file c.args.folder.now) (g.F.Folder.file c.take_disk.new.folder)) c.file.ensures c.take_disk.ensures.others; left = refl; held = refl })
    c.in-Err.stop c.end_of.result (why g c) c.end_of.ensures

pub returns-in-Err-clause-ends_clearly : goal.returns-in-Err-clause-ends_clearly
returns-in-Err-clause-ends_clearly g c = λ left held tells.
    inl (not_taken_settled (world (g.F.Folder.file c.args.folder.now) left held) (world (g.F.Folder.file c.take_disk.new.folder) left held) c.args.command (g.F.Folder.tells c.args.folder.now) c.args.getter.now tells c.requires.unread
    (subst (λ (n : List ℕ). g.F.Folder.file c.take_disk.new.folder n ≡ g.F.Folder.file c.args.folder.now n) c.file.ensures c.in-Err.ensures.same)
    (record { others = subst (λ (n : List ℕ). SameBut n (g.F.Folder.file c.args.folder.now) (g.F.Folder.file c.take_disk.new.folder)) c.file.ensures c.take_disk.ensures.others; left = refl; held = refl })
    c.in-Err.stop (why g c))

module _ (g : Given.Over) (c : goal.After-end_of-2 g) (left held : Option (List ℕ)) (tells : g.F.Folder.tells c.args.folder.now ≡ true) where
  -- what the call did, whatever giving the disk back answered
  made : (given : Result (Unit {0}) DiskError) (finish : Finish) → finish ≡ call_end c.counted-answer.result given
      → RanOnFile c.args.command (world (g.F.Folder.file c.args.folder.now) left held) (world (g.F.Folder.file c.give-given.new.self) left held) c.call_command-disk.new.getter finish
  made given finish is =
      let name : List ℕ = file_of (file_said c.args.command) in
      on_file_done (world (g.F.Folder.file c.args.folder.now) left held) (world (g.F.Folder.file c.give-given.new.self) left held) c.counted-answer.result given finish is
      (g.F.D.Disk.image c.in-Ok.disk) (g.F.D.Disk.image c.call_command-disk.result.disk) c.args.command c.call_command-disk.new.getter
      (λ no. subst (λ (n : List ℕ). IsSome (g.F.Folder.file c.args.folder.now n)) c.file.ensures (c.in-Ok.ensures.there (c.creates.ensures ∙ no) tells))
      (subst (λ (n : List ℕ). g.F.D.Disk.image c.in-Ok.disk ≡ Some (or_empty (g.F.Folder.file c.args.folder.now n))) c.file.ensures (c.in-Ok.ensures.image tells))
      (on_file_counted g.F.D.Disk.image c.args.command (g.F.D.Disk.image c.in-Ok.disk) c.call_command-disk.new.getter c.call_command-disk.result.disk c.call_command-disk.result.answer c.counted-answer.result _
      c.counted-answer.ensures.answer c.call_command-disk.ensures.done)
      (subst (λ (n : List ℕ). g.F.Folder.file c.give-given.new.self n ≡ g.F.D.Disk.image c.call_command-disk.result.disk) c.file-2.ensures (c.give-given.ensures.here (c.take_disk.ensures.tells ∙ tells)))
      (record {
        others = two_names name _ _ _ (subst (λ (n : List ℕ). SameBut n (g.F.Folder.file c.args.folder.now) (g.F.Folder.file c.take_disk.new.folder)) c.file.ensures c.take_disk.ensures.others)
            (subst (λ (n : List ℕ). SameBut n (g.F.Folder.file c.take_disk.new.folder) (g.F.Folder.file c.give-given.new.self)) c.file-2.ensures c.give-given.ensures.others);
        left = refl;
        held = refl;
      })

-- the name by which it is given back
same_name : (g : Given.Over) (c : goal.After-end_of-2 g) → c.file-2.result.now ≡ c.file.result.now
same_name g c = c.file-2.ensures ∙ sym c.file.ensures

-- and what is told of it then
given_back : (g : Given.Over) (c : goal.After-end_of-2 g) → SameHistory (g.F.D.Disk.moment c.call_command-disk.result.disk) (g.F.Folder.moment_of c.give-given.new.self c.file.result.now)
    (g.F.D.Disk.may_leave c.call_command-disk.result.disk) (g.F.Folder.leaves c.give-given.new.self c.file.result.now) (g.F.D.Disk.left_since c.call_command-disk.result.disk) (g.F.Folder.left_since c.give-given.new.self c.file.result.now)
    (g.F.D.Disk.past c.call_command-disk.result.disk) (g.F.Folder.past_of c.give-given.new.self c.file.result.now) (g.F.D.Disk.left_with c.call_command-disk.result.disk) (g.F.Folder.left_with c.give-given.new.self c.file.result.now)
given_back g c =
    subst (λ (n : List ℕ). SameHistory (g.F.D.Disk.moment c.call_command-disk.result.disk) (g.F.Folder.moment_of c.give-given.new.self n)
    (g.F.D.Disk.may_leave c.call_command-disk.result.disk) (g.F.Folder.leaves c.give-given.new.self n) (g.F.D.Disk.left_since c.call_command-disk.result.disk) (g.F.Folder.left_since c.give-given.new.self n)
    (g.F.D.Disk.past c.call_command-disk.result.disk) (g.F.Folder.past_of c.give-given.new.self n) (g.F.D.Disk.left_with c.call_command-disk.result.disk) (g.F.Folder.left_with c.give-given.new.self n)) (same_name g c) c.give-given.ensures.crash

pub returns-clause-ran : goal.returns-clause-ran
returns-clause-ran g c = λ left held tells. made g c left held tells c.give-given.result c.end_of-2.result c.end_of-2.ensures

pub returns-clause-ends_clearly : goal.returns-clause-ends_clearly
returns-clause-ends_clearly g c = λ left held tells.
    no_fault (IsClearEnd (file_said c.args.command)) (clear_end c.args.command) c.counted-answer.result
    (λ e. rose_of c.args.command _ _ (rose_moved _ _ _ _ (subst (λ (n : List ℕ). g.F.D.Disk.fault_count c.in-Ok.disk ≡ g.F.Folder.disk_faults c.args.folder.now n) c.file.ensures c.in-Ok.ensures.count)
    (subst (λ (n : List ℕ). g.F.Folder.disk_faults c.give-given.new.self n ≡ g.F.D.Disk.fault_count c.call_command-disk.result.disk) c.file-2.ensures c.give-given.ensures.count)
    (subst (λ (k : ℕ). Rose k (g.F.D.Disk.fault_count c.call_command-disk.result.disk)) c.faults-faults.ensures
    (subst (λ (k : ℕ). Rose c.faults-faults.result k) c.faults.ensures (fault_counted _ _ c.counted-answer.result c.counted-answer.ensures.counts e)))))
    (λ finish is. file_ran c.args.command (world (g.F.Folder.file c.args.folder.now) left held) (world (g.F.Folder.file c.give-given.new.self) left held) c.call_command-disk.new.getter finish (made g c left held tells (Ok tt) finish is))

pub returns-clause-crash : goal.returns-clause-crash
returns-clause-crash g c =
    subst (λ (n : List ℕ). LeavesToCrash (writes (file_said c.args.command)) (g.F.Folder.tells c.args.folder.now) n (g.F.Folder.file c.args.folder.now n) (g.F.Folder.file c.give-given.new.self n) (g.F.Folder.leaves c.args.folder.now) (g.F.Folder.leaves c.give-given.new.self) c.end_of-2.result) c.file.ensures
    (leaves_through (writes (file_said c.args.command)) (g.F.Folder.tells c.args.folder.now) c.file.result.now (g.F.Folder.file c.args.folder.now c.file.result.now) (g.F.Folder.file c.give-given.new.self c.file.result.now) (g.F.Folder.leaves c.args.folder.now) (g.F.Folder.leaves c.give-given.new.self) c.end_of-2.result
    (g.F.Folder.leaves c.take_disk.new.folder) (g.F.D.Disk.may_leave c.in-Ok.disk) (g.F.D.Disk.may_leave c.call_command-disk.result.disk) (g.F.D.Disk.image c.in-Ok.disk) (g.F.D.Disk.image c.call_command-disk.result.disk) c.counted-answer.result c.give-given.result
    c.in-Ok.ensures.image
    (λ tells. subst (λ (n : List ℕ). g.F.Folder.file c.give-given.new.self n ≡ g.F.D.Disk.image c.call_command-disk.result.disk) (same_name g c) (c.give-given.ensures.here (c.take_disk.ensures.tells ∙ tells)))
    c.call_command-disk.ensures.spared
    (crash_counted g.F.D.Disk.image g.F.D.Disk.may_leave g.F.D.Disk.past (writes (file_said c.args.command)) (g.F.D.Disk.may_leave c.in-Ok.disk) _ c.call_command-disk.result.answer c.counted-answer.result _ c.counted-answer.ensures.answer c.call_command-disk.ensures.crash)
    c.in-Ok.ensures.crash.crash
    (subst (λ (n : List ℕ). Within (g.F.D.Disk.may_leave c.call_command-disk.result.disk) (g.F.Folder.leaves c.give-given.new.self n)) (same_name g c) c.give-given.ensures.crash.crash)
    c.take_disk.ensures.others_crash
    (subst (λ (n : List ℕ). OthersWithin n (g.F.Folder.leaves c.take_disk.new.folder) (g.F.Folder.leaves c.give-given.new.self)) (same_name g c) (λ m ne. (c.give-given.ensures.others_crash m ne).crash))
    c.end_of-2.ensures)

pub returns-in-Err-clause-crashes : goal.returns-in-Err-clause-crashes
returns-in-Err-clause-crashes g c = λ tells.
    subst (λ (n : List ℕ). InterruptsCommand (file_said c.args.command) (or_empty (g.F.Folder.file c.args.folder.now n)) (g.F.Folder.moment_of c.args.folder.now n) (g.F.Folder.moment_of c.take_disk.new.folder n)
    (g.F.Folder.leaves c.args.folder.now n) (g.F.Folder.left_since c.args.folder.now n) (g.F.Folder.left_since c.take_disk.new.folder n) (g.F.Folder.left_with c.take_disk.new.folder n)) c.file.ensures
    (not_taken_through (file_said c.args.command) (or_empty (g.F.Folder.file c.args.folder.now c.file.result.now)) _ _ _ _ _ _ _ _ _ _ c.in-Err.ensures.err_crash)

pub returns-clause-crashes : goal.returns-clause-crashes
returns-clause-crashes g c = λ tells.
    subst (λ (n : List ℕ). InterruptsCommand (file_said c.args.command) (or_empty (g.F.Folder.file c.args.folder.now n)) (g.F.Folder.moment_of c.args.folder.now n) (g.F.Folder.moment_of c.give-given.new.self n)
    (g.F.Folder.leaves c.args.folder.now n) (g.F.Folder.left_since c.args.folder.now n) (g.F.Folder.left_since c.give-given.new.self n) (g.F.Folder.left_with c.give-given.new.self n)) c.file.ensures
    (taken_through _ _ _ _ _ _ _ _ _ _ _ _ _ _ _ _ _ _ _ _ c.in-Ok.ensures.crash (given_back g c) (file_said c.args.command) (or_empty (g.F.Folder.file c.args.folder.now c.file.result.now)) (g.F.D.Disk.image c.in-Ok.disk) (c.in-Ok.ensures.image tells)
    c.call_command-disk.ensures.crashes)

pub returns-in-Err-clause-cut_short : goal.returns-in-Err-clause-cut_short
returns-in-Err-clause-cut_short g c = λ tells.
    subst (λ (n : List ℕ). CutsCommandShort (file_said c.args.command) (or_empty (g.F.Folder.file c.args.folder.now n)) (g.F.Folder.moment_of c.args.folder.now n) (g.F.Folder.moment_of c.take_disk.new.folder n)
    (g.F.Folder.past_of c.args.folder.now n) (g.F.Folder.leaves c.args.folder.now n) (g.F.Folder.left_with c.take_disk.new.folder n)) c.file.ensures
    (untaken_cut (or_empty (g.F.Folder.file c.args.folder.now c.file.result.now)) _ _ _ _ _ _ _ _ _ _ c.in-Err.ensures.err_crash (g.met.F.Folder.only_with c.args.folder.now c.file.result.now) (file_said c.args.command))

pub returns-clause-cut_short : goal.returns-clause-cut_short
returns-clause-cut_short g c = λ tells.
    subst (λ (n : List ℕ). CutsCommandShort (file_said c.args.command) (or_empty (g.F.Folder.file c.args.folder.now n)) (g.F.Folder.moment_of c.args.folder.now n) (g.F.Folder.moment_of c.give-given.new.self n)
    (g.F.Folder.past_of c.args.folder.now n) (g.F.Folder.leaves c.args.folder.now n) (g.F.Folder.left_with c.give-given.new.self n)) c.file.ensures
    (taken_cut _ _ _ _ _ _ _ _ _ _ _ _ _ _ _ _ _ _ _ _ c.in-Ok.ensures.crash (given_back g c) (file_said c.args.command) (or_empty (g.F.Folder.file c.args.folder.now c.file.result.now)) (g.F.D.Disk.image c.in-Ok.disk) (c.in-Ok.ensures.image tells)
    c.call_command-disk.ensures.cut_short)

pub returns-in-Err-clause-makes : goal.returns-in-Err-clause-makes
returns-in-Err-clause-makes g c = λ tells empty.
    subst (λ (n : List ℕ). Makes (file_said c.args.command) (g.F.Folder.file c.args.folder.now) (g.F.Folder.past_of c.args.folder.now n) (g.F.Folder.moment_of c.args.folder.now n) (g.F.Folder.moment_of c.take_disk.new.folder n) (g.F.Folder.left_with c.take_disk.new.folder n)) c.file.ensures
    (untaken_makes _ _ _ _ _ _ _ _ _ _ c.in-Err.ensures.err_crash (g.met.F.Folder.only_with c.args.folder.now c.file.result.now) c.args.command (g.F.Folder.file c.args.folder.now))

pub returns-clause-makes : goal.returns-clause-makes
returns-clause-makes g c = λ tells.
    subst (λ (n : List ℕ). or_empty (g.F.Folder.file c.args.folder.now n) ≡ []
    → Makes (file_said c.args.command) (g.F.Folder.file c.args.folder.now) (g.F.Folder.past_of c.args.folder.now n) (g.F.Folder.moment_of c.args.folder.now n) (g.F.Folder.moment_of c.give-given.new.self n) (g.F.Folder.left_with c.give-given.new.self n)) c.file.ensures
    (taken_makes _ _ _ _ _ _ _ _ _ _ _ _ _ _ _ _ _ _ _ _ c.in-Ok.ensures.crash (given_back g c) (file_said c.args.command) (g.F.Folder.file c.args.folder.now) (or_empty (g.F.Folder.file c.args.folder.now c.file.result.now)) (g.F.D.Disk.image c.in-Ok.disk)
    (c.in-Ok.ensures.image tells) (c.call_command-disk.ensures.makes (g.F.Folder.file c.args.folder.now)))
