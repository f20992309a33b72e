use Rattle.std.proofs.Common.{refl}
use Rattle.std.proofs.lemmas.Option.{IfSome_then}
use Rattle.tk_skipfile.proofs.Wordless.{synced_none, wordless_called, wordless_joined}
use Rattle.tk_skipfile.proofs.write.write_rest.Goals as goal

pub returns-in_err-sync-clause-no_word : goal.returns-in_err-sync-clause-no_word
returns-in_err-sync-clause-no_word g c =
    let none = synced_none c.sync.result (g.D.Disk.image c.args.disk.now) (g.D.Disk.image c.write_records.new.disk) _ (g.D.Disk.past c.write_records.new.disk) (g.D.Disk.past c.sync.new.self)
    c.in_ok-write_records.ensures.written (c.sync.ensures.settled refl) c.sync.ensures.unsettled in
    IfSome_then (g.D.Disk.image c.args.disk.now) none
    (λ f none_more.
    wordless_joined g.D.Disk.past g.D.Disk.moment g.D.Disk.left_with c.args.disk.now c.write_records.new.disk c.sync.new.self c.write_records.ensures.no_word
    (wordless_called g.D.Disk.may_leave g.D.Disk.past g.D.Disk.moment g.D.Disk.left_with g.met.D.Disk.only_with _ _ c.sync.ensures.pasts none_more))

pub returns-clause-no_word : goal.returns-clause-no_word
returns-clause-no_word g c =
    let none = synced_none c.sync.result (g.D.Disk.image c.args.disk.now) (g.D.Disk.image c.write_records.new.disk) _ (g.D.Disk.past c.write_records.new.disk) (g.D.Disk.past c.sync.new.self)
    c.in_ok-write_records.ensures.written (c.sync.ensures.settled refl) c.sync.ensures.unsettled in
    IfSome_then (g.D.Disk.image c.args.disk.now) none
    (λ f none_more.
    wordless_joined g.D.Disk.past g.D.Disk.moment g.D.Disk.left_with c.args.disk.now c.write_records.new.disk c.sync.new.self c.write_records.ensures.no_word
    (wordless_called g.D.Disk.may_leave g.D.Disk.past g.D.Disk.moment g.D.Disk.left_with g.met.D.Disk.only_with _ _ c.sync.ensures.pasts none_more))
