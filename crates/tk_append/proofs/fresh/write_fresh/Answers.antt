use Rattle.std.proofs.Common.{◌≡◌, refl, ◌∙◌, subst, List, ℕ, length}
use Rattle.std.specs.Prelude.{Option, Some, IfSome, OnOk}
use Rattle.std.proofs.lemmas.Option.{IfSome_then}
use Rattle.std.proofs.lemmas.Result.{on_ok_weaker}
use Rattle.tk_disk.specs.Crash.{Only}
use Rattle.tk_disk.specs.Past.{with_write, settled_on}
use Rattle.tk_disk.proofs.Moments.{leaves_joined}
use Rattle.tk_append.specs.Untorn.{WritesNoHeader}
use Rattle.tk_append.specs.Fresh.{IsFreshMoment, fresh_groups, fresh_next, fresh_text}
use Rattle.tk_append.proofs.FreshPasts.{rest_of, some_both, before_header, header_moments, synced_moments, header_written}
use Rattle.tk_append.proofs.fresh.write_fresh.Goals as goal

pub returns-in_err-write_rest-clause-pasts : goal.returns-in_err-write_rest-clause-pasts
returns-in_err-write_rest-clause-pasts g c =
    let image = g.D.Disk.image in
    let past = g.D.Disk.past in
    let leave = g.D.Disk.may_leave in
    let moment = g.D.Disk.moment in
    let left_with = g.D.Disk.left_with in
    let h = c.args.head.now in
    let groups = fresh_groups h.kind c.args.number c.args.pairs.now in
    let count = length c.args.pairs.now in
    let next = fresh_next c.args.number c.args.pairs.now in
    let start = c.args.disk.now in
    let disk = c.write_rest.new.disk in
    IfSome_then (image start) c.write_rest.ensures.no_header
    (λ f no_header. before_header h groups count next (past start) leave past moment left_with g.met.D.Disk.only_with start disk refl no_header.each)

pub returns-in_err-write_at-clause-pasts : goal.returns-in_err-write_at-clause-pasts
returns-in_err-write_at-clause-pasts g c =
    let image = g.D.Disk.image in
    let past = g.D.Disk.past in
    let leave = g.D.Disk.may_leave in
    let moment = g.D.Disk.moment in
    let left_with = g.D.Disk.left_with in
    let h = c.args.head.now in
    let groups = fresh_groups h.kind c.args.number c.args.pairs.now in
    let count = length c.args.pairs.now in
    let next = fresh_next c.args.number c.args.pairs.now in
    let start = c.args.disk.now in
    let disk = c.write_rest.new.disk in
    let named = c.write_at.new.self in
    let moments = IsFreshMoment h groups (fresh_text h c.args.number c.args.pairs.now) (past start) in
    let both : IfSome (image start) (λ _. (image disk ≡ Some (rest_of h groups count next)) × WritesNoHeader past moment left_with start disk) =
    some_both (image start) _ _ c.in_ok-write_rest.ensures.written c.write_rest.ensures.no_header in
    IfSome_then (image start) both (λ f there.
    let settled = subst (λ (o : Option (List ℕ)). IfSome o (λ l. past disk ≡ settled_on l)) there.0 c.in_ok-write_rest.ensures.settled in
    let only = subst (λ (o : Option (List ℕ)). IfSome o (λ l. Only l (leave disk))) there.0 c.in_ok-write_rest.ensures.durable in
    leaves_joined moment left_with start disk named moments
    (before_header h groups count next (past start) leave past moment left_with g.met.D.Disk.only_with start disk refl there.1.each)
    (header_moments h groups count next (past start) leave past moment left_with g.met.D.Disk.only_with disk named c.write_static.result c.write_static.ensures settled only c.write_at.ensures.past c.write_at.ensures.crash c.write_at.ensures.pasts))

pub returns-clause-pasts : goal.returns-clause-pasts
returns-clause-pasts g c =
    let image = g.D.Disk.image in
    let past = g.D.Disk.past in
    let leave = g.D.Disk.may_leave in
    let moment = g.D.Disk.moment in
    let left_with = g.D.Disk.left_with in
    let h = c.args.head.now in
    let groups = fresh_groups h.kind c.args.number c.args.pairs.now in
    let count = length c.args.pairs.now in
    let next = fresh_next c.args.number c.args.pairs.now in
    let start = c.args.disk.now in
    let disk = c.write_rest.new.disk in
    let named = c.write_at.new.self in
    let moments = IsFreshMoment h groups (fresh_text h c.args.number c.args.pairs.now) (past start) in
    let both : IfSome (image start) (λ _. (image disk ≡ Some (rest_of h groups count next)) × WritesNoHeader past moment left_with start disk) =
    some_both (image start) _ _ c.in_ok-write_rest.ensures.written c.write_rest.ensures.no_header in
    let end = c.sync.new.self in
    IfSome_then (image start) both (λ f there.
    let settled = subst (λ (o : Option (List ℕ)). IfSome o (λ l. past disk ≡ settled_on l)) there.0 c.in_ok-write_rest.ensures.settled in
    let only = subst (λ (o : Option (List ℕ)). IfSome o (λ l. Only l (leave disk))) there.0 c.in_ok-write_rest.ensures.durable in
    let written = subst (λ (o : Option (List ℕ)). IfSome o (λ _. past named ≡ with_write 0 c.write_static.result (past disk))) there.0 c.in_ok-write_at.ensures.told_past in
    let whole : image named ≡ Some (fresh_text h c.args.number c.args.pairs.now) = header_written h groups count next (image disk) (image named) c.write_static.result c.write_static.ensures there.0 c.in_ok-write_at.ensures.written in
    leaves_joined moment left_with start named end moments
    (leaves_joined moment left_with start disk named moments
    (before_header h groups count next (past start) leave past moment left_with g.met.D.Disk.only_with start disk refl there.1.each)
    (header_moments h groups count next (past start) leave past moment left_with g.met.D.Disk.only_with disk named c.write_static.result c.write_static.ensures settled only c.write_at.ensures.past c.write_at.ensures.crash c.write_at.ensures.pasts))
    (synced_moments h groups count next (past start) leave past moment left_with g.met.D.Disk.only_with c.sync.result disk named end c.write_static.result c.write_static.ensures settled only written c.write_at.ensures.crash c.sync.ensures.crash
    (subst (λ (o : Option (List ℕ)). OnOk c.sync.result (IfSome o (λ l. Only l (leave end)))) whole (c.sync.ensures.durable refl))
    (subst (λ (o : Option (List ℕ)). IfSome o (λ l. OnOk c.sync.result (past end ≡ settled_on l))) whole (c.sync.ensures.settled refl))
    c.sync.ensures.unsettled c.sync.ensures.pasts))

pub returns-clause-written : goal.returns-clause-written
returns-clause-written g c =
    let image = g.D.Disk.image in
    let h = c.args.head.now in
    on_ok_weaker c.sync.result (λ same.
    IfSome_then (image c.args.disk.now) c.in_ok-write_rest.ensures.written (λ f there.
    same
    ∙ header_written h (fresh_groups h.kind c.args.number c.args.pairs.now) (length c.args.pairs.now) (fresh_next c.args.number c.args.pairs.now) (image c.write_rest.new.disk) (image c.write_at.new.self) c.write_static.result c.write_static.ensures there
    c.in_ok-write_at.ensures.written)) c.sync.ensures.image

pub returns-in_err-write_rest-clause-no_memory : goal.returns-in_err-write_rest-clause-no_memory
returns-in_err-write_rest-clause-no_memory g c = λ is. IfSome_then (g.D.Disk.image c.args.disk.now) c.write_rest.ensures.no_header (λ f no_header. no_header.now)
