use Rattle.std.proofs.Common.{ℕ, sym, subst, refl}
use Rattle.tk_skipfile.specs.Walking.{BeginsLinked, linked_of}
use Rattle.tk_skipfile.proofs.Walks.{may_follow, fewer, all_read, none_begins, none_other}
use Rattle.tk_skipfile.proofs.walker.Walker.next.Goals as goal

pub returns-then-self-clause-none : goal.returns-then-self-clause-none
returns-then-self-clause-none c xs at = all_read xs c.args.self.now c.args.bytes.now at c.if-self.true

pub returns-in_default-clause-none : goal.returns-in_default-clause-none
returns-in_default-clause-none c xs at = none_begins xs c.args.self.now c.args.bytes.now c.height_of-height.result at c.height_of-height.ensures.value c.in_default.ensures.none

pub returns-then-is_behind-clause-found : goal.returns-then-is_behind-clause-found
returns-then-is_behind-clause-found c xs at =
    may_follow xs c.args.self.now c.args.bytes.now (linked_of c.in-Some.here) c.in-Some.here.rest.now c.height_of-height.result at c.height_of-height.ensures.value c.in-Some.ensures.found (c.if-is_behind.ensures.yes refl)

pub returns-then-is_behind-clause-more : goal.returns-then-is_behind-clause-more
returns-then-is_behind-clause-more c xs at = fewer xs c.args.self.now at c.if-self.false

pub returns-then-is_behind-clause-text : goal.returns-then-is_behind-clause-text
returns-then-is_behind-clause-text c =
    subst (λ (n : ℕ). BeginsLinked n c.args.self.now.place c.args.bytes.now (linked_of c.in-Some.here) c.in-Some.here.rest.now) (sym c.in-Some.ensures.height) c.in-Some.ensures.found

pub returns-else-is_behind-clause-none : goal.returns-else-is_behind-clause-none
returns-else-is_behind-clause-none c xs at =
    none_other xs c.args.self.now c.args.bytes.now (linked_of c.in-Some.here) c.in-Some.here.rest.now c.height_of-height.result at c.height_of-height.ensures.value c.in-Some.ensures.found (c.if-is_behind.ensures.no refl)
