use Rattle.std.proofs.Common.{◌≡◌, true, [], ◌∙◌, ap}
use Rattle.std.specs.Prelude.{Some, IfSome}
use Rattle.tk_disk.specs.Crash.{Only}
use Rattle.tk_disk.specs.Folder.{or_empty}
use Rattle.tk_util.specs.Asked.{command_asked}
use Rattle.tk_util.specs.Calls.{Spares}
use Rattle.tk_util.specs.CutShort.{CutsCommandShort}
use Rattle.tk_util.specs.Interrupted.{InterruptsCommand}
use Rattle.tk_util.specs.Making.{Makes}
use Rattle.tk_util.specs.Ran.{file_of, writes}
use Rattle.tk_util.specs.Words.{Command}
use Rattle.tk_util.proofs.Making.{made_in_the_end}
use Rattle.tk_util.specs.declared.words.Asked.{Asked}
use Rattle.tk_util.proofs.SameCommand.{same_of, same_ran, same_settled}
use Rattle.tk_util.proofs.run.run_util.Goals as goal

pub returns-in-Some-OnFile-clause-ends_clearly : goal.returns-in-Some-OnFile-clause-ends_clearly
returns-in-Some-OnFile-clause-ends_clearly g c = λ d asked tells.
    same_settled _ _ (g.F.Folder.disk_faults c.args.folder.now) (g.F.Folder.disk_faults c.run_on_file.new.folder) _ _ _ asked
    (c.in-Some-OnFile.ensures.read ∙ ap (λ (a : Asked). Some (command_asked a)) c.in-Some-OnFile.field-0-is) (c.run_on_file.ensures.ends_clearly (g.R.Source.left c.args.source.now) (g.W.Sink.held c.args.out.now) tells)

pub returns-in-Some-OnFile-clause-spared : goal.returns-in-Some-OnFile-clause-spared
returns-in-Some-OnFile-clause-spared g c = λ d asked may tells.
    same_of (λ (x : Command). Spares (or_empty (g.F.Folder.file c.args.folder.now (file_of x))) (g.F.Folder.leaves c.args.folder.now (file_of x)) (g.F.Folder.leaves c.run_on_file.new.folder (file_of x))) _ _ _ asked
    (c.in-Some-OnFile.ensures.read ∙ ap (λ (a : Asked). Some (command_asked a)) c.in-Some-OnFile.field-0-is) (c.run_on_file.ensures.crash.spared tells)

pub returns-in-Some-Restore-clause-ran : goal.returns-in-Some-Restore-clause-ran
returns-in-Some-Restore-clause-ran g c = λ d asked tells.
    same_ran _ _ _ _ _ _ asked
    (c.in-Some-Restore.ensures.read ∙ ap (λ (a : Asked). Some (command_asked a)) c.in-Some-Restore.field-0-is) (c.run_restore.ensures.ran (g.R.Source.left c.args.source.now) (g.W.Sink.held c.args.out.now) tells)

pub returns-in-Some-Restore-clause-ends_clearly : goal.returns-in-Some-Restore-clause-ends_clearly
returns-in-Some-Restore-clause-ends_clearly g c = λ d asked tells.
    same_settled _ _ (g.F.Folder.disk_faults c.args.folder.now) (g.F.Folder.disk_faults c.run_restore.new.folder) _ _ _ asked
    (c.in-Some-Restore.ensures.read ∙ ap (λ (a : Asked). Some (command_asked a)) c.in-Some-Restore.field-0-is) (c.run_restore.ensures.ends_clearly (g.R.Source.left c.args.source.now) (g.W.Sink.held c.args.out.now) tells)

pub returns-in-Some-Restore-clause-spared : goal.returns-in-Some-Restore-clause-spared
returns-in-Some-Restore-clause-spared g c = λ d asked may tells.
    same_of (λ (x : Command). Spares (or_empty (g.F.Folder.file c.args.folder.now (file_of x))) (g.F.Folder.leaves c.args.folder.now (file_of x)) (g.F.Folder.leaves c.run_restore.new.folder (file_of x))) _ _ _ asked
    (c.in-Some-Restore.ensures.read ∙ ap (λ (a : Asked). Some (command_asked a)) c.in-Some-Restore.field-0-is) (c.run_restore.ensures.crash.spared tells)

pub returns-in-Some-OnFile-clause-crashes : goal.returns-in-Some-OnFile-clause-crashes
returns-in-Some-OnFile-clause-crashes g c = λ d asked tells.
    same_of (λ (x : Command). InterruptsCommand x (or_empty (g.F.Folder.file c.args.folder.now (file_of x))) (g.F.Folder.moment_of c.args.folder.now (file_of x)) (g.F.Folder.moment_of c.run_on_file.new.folder (file_of x))
    (g.F.Folder.leaves c.args.folder.now (file_of x)) (g.F.Folder.left_since c.args.folder.now (file_of x)) (g.F.Folder.left_since c.run_on_file.new.folder (file_of x)) (g.F.Folder.left_with c.run_on_file.new.folder (file_of x))) _ _ _ asked
    (c.in-Some-OnFile.ensures.read ∙ ap (λ (a : Asked). Some (command_asked a)) c.in-Some-OnFile.field-0-is) (c.run_on_file.ensures.crashes tells)

pub returns-in-Some-Restore-clause-crashes : goal.returns-in-Some-Restore-clause-crashes
returns-in-Some-Restore-clause-crashes g c = λ d asked tells.
    same_of (λ (x : Command). InterruptsCommand x (or_empty (g.F.Folder.file c.args.folder.now (file_of x))) (g.F.Folder.moment_of c.args.folder.now (file_of x)) (g.F.Folder.moment_of c.run_restore.new.folder (file_of x))
    (g.F.Folder.leaves c.args.folder.now (file_of x)) (g.F.Folder.left_since c.args.folder.now (file_of x)) (g.F.Folder.left_since c.run_restore.new.folder (file_of x)) (g.F.Folder.left_with c.run_restore.new.folder (file_of x))) _ _ _ asked
    (c.in-Some-Restore.ensures.read ∙ ap (λ (a : Asked). Some (command_asked a)) c.in-Some-Restore.field-0-is) tt

pub returns-in-Some-OnFile-clause-cut_short : goal.returns-in-Some-OnFile-clause-cut_short
returns-in-Some-OnFile-clause-cut_short g c = λ d asked tells.
    same_of (λ (x : Command). CutsCommandShort x (or_empty (g.F.Folder.file c.args.folder.now (file_of x))) (g.F.Folder.moment_of c.args.folder.now (file_of x)) (g.F.Folder.moment_of c.run_on_file.new.folder (file_of x))
    (g.F.Folder.past_of c.args.folder.now (file_of x)) (g.F.Folder.leaves c.args.folder.now (file_of x)) (g.F.Folder.left_with c.run_on_file.new.folder (file_of x))) _ _ _ asked
    (c.in-Some-OnFile.ensures.read ∙ ap (λ (a : Asked). Some (command_asked a)) c.in-Some-OnFile.field-0-is) (c.run_on_file.ensures.cut_short tells)

pub returns-in-Some-Restore-clause-cut_short : goal.returns-in-Some-Restore-clause-cut_short
returns-in-Some-Restore-clause-cut_short g c = λ d asked tells.
    same_of (λ (x : Command). CutsCommandShort x (or_empty (g.F.Folder.file c.args.folder.now (file_of x))) (g.F.Folder.moment_of c.args.folder.now (file_of x)) (g.F.Folder.moment_of c.run_restore.new.folder (file_of x))
    (g.F.Folder.past_of c.args.folder.now (file_of x)) (g.F.Folder.leaves c.args.folder.now (file_of x)) (g.F.Folder.left_with c.run_restore.new.folder (file_of x))) _ _ _ asked
    (c.in-Some-Restore.ensures.read ∙ ap (λ (a : Asked). Some (command_asked a)) c.in-Some-Restore.field-0-is) tt

pub returns-in-Some-OnFile-clause-durable : goal.returns-in-Some-OnFile-clause-durable
returns-in-Some-OnFile-clause-durable g c = λ d asked may either tells.
    same_of (λ (x : Command). writes x ≡ true → IfSome (g.F.Folder.file c.run_on_file.new.folder (file_of x)) (λ f. Only f (g.F.Folder.leaves c.run_on_file.new.folder (file_of x)))) _ _ _ asked
    (c.in-Some-OnFile.ensures.read ∙ ap (λ (a : Asked). Some (command_asked a)) c.in-Some-OnFile.field-0-is) (λ written. c.run_on_file.ensures.crash.durable written either tells) may

pub returns-in-Some-OnFile-clause-makes : goal.returns-in-Some-OnFile-clause-makes
returns-in-Some-OnFile-clause-makes g c = λ d asked tells.
    same_of (λ (x : Command). or_empty (g.F.Folder.file c.args.folder.now (file_of x)) ≡ []
    → Makes x (g.F.Folder.file c.args.folder.now) (g.F.Folder.past_of c.args.folder.now (file_of x)) (g.F.Folder.moment_of c.args.folder.now (file_of x)) (g.F.Folder.moment_of c.run_on_file.new.folder (file_of x)) (g.F.Folder.left_with c.run_on_file.new.folder (file_of x))) _ _ _ asked
    (c.in-Some-OnFile.ensures.read ∙ ap (λ (a : Asked). Some (command_asked a)) c.in-Some-OnFile.field-0-is) (c.run_on_file.ensures.makes tells)

pub returns-in-Some-OnFile-clause-made : goal.returns-in-Some-OnFile-clause-made
returns-in-Some-OnFile-clause-made g c = λ d asked tells empty.
    let new = c.run_on_file.new.folder in
    made_in_the_end d _ _ _ _ _ (g.F.Folder.left_with new (file_of d)) (g.F.Folder.file new (file_of d)) (returns-in-Some-OnFile-clause-makes g c d asked tells empty)
    (λ f is later. g.met.F.Folder.counts_with new (file_of d) _ f later (g.met.F.Folder.reads_left new (file_of d) f is))

pub returns-in-Some-Restore-clause-makes : goal.returns-in-Some-Restore-clause-makes
returns-in-Some-Restore-clause-makes g c = λ d asked tells.
    same_of (λ (x : Command). or_empty (g.F.Folder.file c.args.folder.now (file_of x)) ≡ []
    → Makes x (g.F.Folder.file c.args.folder.now) (g.F.Folder.past_of c.args.folder.now (file_of x)) (g.F.Folder.moment_of c.args.folder.now (file_of x)) (g.F.Folder.moment_of c.run_restore.new.folder (file_of x)) (g.F.Folder.left_with c.run_restore.new.folder (file_of x))) _ _ _ asked
    (c.in-Some-Restore.ensures.read ∙ ap (λ (a : Asked). Some (command_asked a)) c.in-Some-Restore.field-0-is) (c.run_restore.ensures.makes tells)

pub returns-in-Some-Restore-clause-made : goal.returns-in-Some-Restore-clause-made
returns-in-Some-Restore-clause-made g c = λ d asked tells empty.
    let new = c.run_restore.new.folder in
    made_in_the_end d _ _ _ _ _ (g.F.Folder.left_with new (file_of d)) (g.F.Folder.file new (file_of d)) (returns-in-Some-Restore-clause-makes g c d asked tells empty)
    (λ f is later. g.met.F.Folder.counts_with new (file_of d) _ f later (g.met.F.Folder.reads_left new (file_of d) f is))
