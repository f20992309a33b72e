use Rattle.std.proofs.Common.{◌≡◌, ◌∙◌, sym, ap, ◌+◌, ◌-◌, [], ◌∷◌, ◌++◌, arith}
use Rattle.std.proofs.lemmas.List.{map-append}
use Rattle.tk_model.specs.RecordText.{pair_here, record_at, record_size}
use Rattle.tk_page.specs.Page.{items_in}
use Rattle.tk_page.specs.View.{records_seen}
use Rattle.tk_page.proofs.Reading.{with_front, read_more, read_none, read_all, read_past, empty_so, some_so, rest_behind}
use Rattle.tk_page.proofs.view.records_here.Goals as goal

pub returns-in_default : goal.returns-in_default
returns-in_default c =
    read_none record_at record_size (records_seen c.loop-done.records) (c.args.count - c.loop-done.done) (c.args.count - (c.loop-done.done + 1)) c.loop-done.rest.now (omega arith) (sym c.in_default.ensures.value)
    ∙ c.loop-done.invariant

pub loop-done-preserved : goal.loop-done-preserved
loop-done-preserved c =
    let left = items_in record_at record_size (c.args.count - (c.loop-done.done + 1)) c.in-Some.here.rest.now in
    let seen : records_seen (c.loop-done.records ++ c.in-Some.here ∷ []) ≡ records_seen c.loop-done.records ++ pair_here c.in-Some.here ∷ [] = map-append pair_here c.loop-done.records (c.in-Some.here ∷ []) in
    let more : with_front (records_seen c.loop-done.records ++ pair_here c.in-Some.here ∷ []) left ≡ with_front (records_seen c.loop-done.records) (items_in record_at record_size (c.args.count - c.loop-done.done) c.loop-done.rest.now) =
    read_more record_at record_size (records_seen c.loop-done.records) (pair_here c.in-Some.here) (c.args.count - c.loop-done.done) (c.args.count - (c.loop-done.done + 1)) c.loop-done.rest.now c.in-Some.here.rest.now (omega arith) (sym c.in-Some.ensures.value) (rest_behind c.loop-done.rest.now (pair_here c.in-Some.here) c.in-Some.here.rest.now c.in-Some.ensures.found) in
    rw c.in_ok-push.ensures.ok (ap (λ xs. with_front xs left) seen ∙ more ∙ c.loop-done.invariant)

pub returns-then-is_empty : goal.returns-then-is_empty
returns-then-is_empty c = read_all record_at record_size (records_seen c.loop-done.records) (c.args.count - c.loop-done.done) c.loop-done.rest.now (omega arith) (empty_so c.loop-done.rest.now (sym c.if-is_empty.true ∙ c.is_empty.ensures)) ∙ c.loop-done.invariant

pub returns : goal.returns
returns c = read_past record_at record_size (records_seen c.loop-done.records) (c.args.count - c.loop-done.done) c.loop-done.rest.now (omega arith) (some_so c.loop-done.rest.now (sym c.if-is_empty.false ∙ c.is_empty.ensures)) ∙ c.loop-done.invariant
