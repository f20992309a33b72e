use Rattle.std.proofs.Common.{◌≡◌, ◌∙◌, sym, ap, ◌+◌, ◌-◌, [], ◌∷◌, ◌++◌, arith}
use Rattle.std.proofs.lemmas.List.{map-append}
use Rattle.tk_page.specs.Page.{child_at, child_size, items_in}
use Rattle.tk_page.specs.View.{child_seen, children_seen}
use Rattle.tk_page.proofs.Reading.{with_front, read_more, read_none, read_all, read_past, empty_so, some_so}
use Rattle.tk_page.proofs.view.children_here.Goals as goal

pub returns-in_default : goal.returns-in_default
returns-in_default c =
    read_none child_at child_size (children_seen c.loop-done.children) (c.args.count - c.loop-done.done) (c.args.count - (c.loop-done.done + 1)) c.loop-done.rest.now (omega arith) (sym c.in_default.ensures.value)
    ∙ c.loop-done.invariant

pub loop-done-preserved : goal.loop-done-preserved
loop-done-preserved c =
    let left = items_in child_at child_size (c.args.count - (c.loop-done.done + 1)) c.in-Some.here.rest.now in
    let seen : children_seen (c.loop-done.children ++ c.in-Some.here ∷ []) ≡ children_seen c.loop-done.children ++ child_seen c.in-Some.here ∷ [] = map-append child_seen c.loop-done.children (c.in-Some.here ∷ []) in
    let more : with_front (children_seen c.loop-done.children ++ child_seen c.in-Some.here ∷ []) left ≡ with_front (children_seen c.loop-done.children) (items_in child_at child_size (c.args.count - c.loop-done.done) c.loop-done.rest.now) =
    read_more child_at child_size (children_seen c.loop-done.children) (child_seen c.in-Some.here) (c.args.count - c.loop-done.done) (c.args.count - (c.loop-done.done + 1)) c.loop-done.rest.now c.in-Some.here.rest.now (omega arith) (sym c.in-Some.ensures.value) c.in-Some.ensures.rest in
    rw c.in_ok-push.ensures.ok (ap (λ xs. with_front xs left) seen ∙ more ∙ c.loop-done.invariant)

pub returns-then-is_empty : goal.returns-then-is_empty
returns-then-is_empty c = read_all child_at child_size (children_seen c.loop-done.children) (c.args.count - c.loop-done.done) c.loop-done.rest.now (omega arith) (empty_so c.loop-done.rest.now (sym c.if-is_empty.true ∙ c.is_empty.ensures)) ∙ c.loop-done.invariant

pub returns : goal.returns
returns c = read_past child_at child_size (children_seen c.loop-done.children) (c.args.count - c.loop-done.done) c.loop-done.rest.now (omega arith) (some_so c.loop-done.rest.now (sym c.if-is_empty.false ∙ c.is_empty.ensures)) ∙ c.loop-done.invariant
