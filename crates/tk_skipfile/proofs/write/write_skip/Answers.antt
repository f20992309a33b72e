use Rattle.std.proofs.Common.{refl, subst, ◌≡◌, ℕ, List, ◌++◌, length, ◌∙◌, ap}
use Rattle.std.specs.Prelude.{Some, IfSome, replicate}
use Rattle.tk_disk.specs.Crash.{PastOnly}
use Rattle.tk_append.proofs.FreshPasts.{some_both}
use Rattle.tk_skipfile.specs.HeaderLast.{IsSkipMoment, WritesNoWord}
use Rattle.std.proofs.lemmas.Option.{IfSome_then}
use Rattle.std.proofs.lemmas.Result.{on_ok_weaker}
use Rattle.tk_model.specs.declared.record.Pair.{Pair}
use Rattle.tk_skipfile.specs.SkipText.{header_text, records_text, skip_text}
use Rattle.tk_skipfile.proofs.TextSteps.{header_put, length-header}
use Rattle.tk_disk.proofs.Moments.{leaves_joined}
use Rattle.tk_skipfile.proofs.Wordless.{IsBehind, settled_behind, written_behind, synced_behind, records_moments, header_moments}
use Rattle.tk_skipfile.proofs.write.write_skip.Goals as goal

pub returns-clause-written : goal.returns-clause-written
unfolding skip_text
returns-clause-written g c =
    let image = g.D.Disk.image in
    let pairs = c.args.pairs.now in
    let header : c.write_header.result ≡ header_text (length pairs) c.args.generation =
    c.write_header.ensures ∙ ap (λ (n : ℕ). header_text n c.args.generation) c.len.ensures in
    let whole : c.write_header.result ++ records_text c.as_slice.result.now ≡ header_text (length pairs) c.args.generation ++ records_text pairs =
    ap (λ (l : List ℕ). l ++ records_text c.as_slice.result.now) header
    ∙ ap (λ (l : List Pair). header_text (length pairs) c.args.generation ++ records_text l) c.as_slice.ensures in
    on_ok_weaker c.sync.result (λ same.
    IfSome_then (image c.args.disk.now) c.in_ok-write_rest.ensures.written (λ f there.
    same
    ∙ header_put (image c.write_rest.new.disk) (image c.write_at.new.self) c.write_header.result (records_text c.as_slice.result.now) (ap length header ∙ length-header _ _) there c.in_ok-write_at.ensures.written
    ∙ ap (λ (l : List ℕ). Some l) whole)) c.sync.ensures.image

pub returns-in_err-write_rest-clause-header_last : goal.returns-in_err-write_rest-clause-header_last
returns-in_err-write_rest-clause-header_last g c =
    IfSome_then (g.D.Disk.image c.args.disk.now) c.write_rest.ensures.no_word
    (λ f none.
    subst (λ (ps : List Pair). PastOnly g.D.Disk.moment g.D.Disk.left_with c.args.disk.now c.write_rest.new.disk (IsSkipMoment ps (g.D.Disk.past c.args.disk.now))) c.as_slice.ensures
    (records_moments g.D.Disk.may_leave g.D.Disk.past g.D.Disk.moment g.D.Disk.left_with g.met.D.Disk.only_with c.as_slice.result.now c.args.disk.now c.write_rest.new.disk none))

pub returns-in_err-write_at-clause-header_last : goal.returns-in_err-write_at-clause-header_last
returns-in_err-write_at-clause-header_last g c =
    let image = g.D.Disk.image in
    let past = g.D.Disk.past in
    let start = c.args.disk.now in
    let disk = c.write_rest.new.disk in
    let named = c.write_at.new.self in
    let pairs = c.as_slice.result.now in
    let both : IfSome (image start) (λ _. (image disk ≡ Some (replicate 32 0 ++ records_text pairs)) × WritesNoWord past g.D.Disk.moment g.D.Disk.left_with start disk) =
    some_both (image start) _ _ c.in_ok-write_rest.ensures.written c.write_rest.ensures.no_word in
    IfSome_then (image start) both (λ f there.
    let settled : IsBehind pairs (past disk) = settled_behind pairs (replicate 32 0) (image disk) (past disk) refl there.0 c.in_ok-write_rest.ensures.settled in
    let written : IsBehind pairs (past named) = written_behind pairs 0 c.write_header.result (past disk) (past named) settled c.write_at.ensures.past in
    let first = records_moments g.D.Disk.may_leave past g.D.Disk.moment g.D.Disk.left_with g.met.D.Disk.only_with pairs start disk there.1 in
    let second = header_moments g.D.Disk.may_leave past g.D.Disk.moment g.D.Disk.left_with g.met.D.Disk.only_with pairs (past start) disk named c.write_at.ensures.pasts settled written in
    let moments = leaves_joined g.D.Disk.moment g.D.Disk.left_with start disk named (λ x. IsSkipMoment pairs (past start) x.0) first second in
    subst (λ (ps : List Pair). PastOnly g.D.Disk.moment g.D.Disk.left_with start named (IsSkipMoment ps (past start))) c.as_slice.ensures moments)

pub returns-clause-header_last : goal.returns-clause-header_last
returns-clause-header_last g c =
    let image = g.D.Disk.image in
    let past = g.D.Disk.past in
    let start = c.args.disk.now in
    let disk = c.write_rest.new.disk in
    let named = c.write_at.new.self in
    let pairs = c.as_slice.result.now in
    let both : IfSome (image start) (λ _. (image disk ≡ Some (replicate 32 0 ++ records_text pairs)) × WritesNoWord past g.D.Disk.moment g.D.Disk.left_with start disk) =
    some_both (image start) _ _ c.in_ok-write_rest.ensures.written c.write_rest.ensures.no_word in
    IfSome_then (image start) both (λ f there.
    let settled : IsBehind pairs (past disk) = settled_behind pairs (replicate 32 0) (image disk) (past disk) refl there.0 c.in_ok-write_rest.ensures.settled in
    let written : IsBehind pairs (past named) = written_behind pairs 0 c.write_header.result (past disk) (past named) settled c.write_at.ensures.past in
    let first = records_moments g.D.Disk.may_leave past g.D.Disk.moment g.D.Disk.left_with g.met.D.Disk.only_with pairs start disk there.1 in
    let second = header_moments g.D.Disk.may_leave past g.D.Disk.moment g.D.Disk.left_with g.met.D.Disk.only_with pairs (past start) disk named c.write_at.ensures.pasts settled written in
    let moments = leaves_joined g.D.Disk.moment g.D.Disk.left_with start disk named (λ x. IsSkipMoment pairs (past start) x.0) first second in
    let end = c.sync.new.self in
    let long : length c.write_header.result ≡ 32 = ap length c.write_header.ensures ∙ length-header _ _ in
    let whole = header_put (image disk) (image named) c.write_header.result (records_text pairs) long there.0 c.in_ok-write_at.ensures.written in
    let synced : IsBehind pairs (past end) = synced_behind c.sync.result pairs c.write_header.result (image named) (past named) (past end) long whole (c.sync.ensures.settled refl) c.sync.ensures.unsettled written in
    let third = header_moments g.D.Disk.may_leave past g.D.Disk.moment g.D.Disk.left_with g.met.D.Disk.only_with pairs (past start) named end c.sync.ensures.pasts written synced in
    subst (λ (ps : List Pair). PastOnly g.D.Disk.moment g.D.Disk.left_with start end (IsSkipMoment ps (past start))) c.as_slice.ensures
    (leaves_joined g.D.Disk.moment g.D.Disk.left_with start named end (λ x. IsSkipMoment pairs (past start) x.0) moments third))
