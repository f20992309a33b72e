use Rattle.std.proofs.Common.{refl}
use Rattle.tk_model.specs.RecordText.{pair_here}
use Rattle.tk_mem.proofs.Filing.{filed_more, none_begins, none_other}
use Rattle.tk_mem.proofs.load.Loading.next.Goals as goal

pub returns-in_default-clause-none : goal.returns-in_default-clause-none
returns-in_default-clause-none c = none_begins c.args.of c.args.self.now.records c.args.bytes.now c.in_default.ensures.none

pub returns-then-may_follow-clause-filed : goal.returns-then-may_follow-clause-filed
returns-then-may_follow-clause-filed c =
    let l = c.requires.loaded in
    let follows = c.if-may_follow.ensures.yes refl in
    filed_more c.args.of c.args.self.now.records c.args.self.now.last (pair_here c.in-Some.here) l.filed l.ends follows.0 c.in-Some.ensures.fits follows.1

pub returns-else-may_follow-clause-none : goal.returns-else-may_follow-clause-none
returns-else-may_follow-clause-none c =
    none_other c.args.of c.args.self.now.records c.args.self.now.last c.args.bytes.now (pair_here c.in-Some.here) c.in-Some.here.rest.now c.requires.loaded.ends c.in-Some.ensures.found
    (c.if-may_follow.ensures.no refl)
