use Rattle.std.proofs.Common.{rules, sym, ap, subst, ◌∙◌, ◌≡◌, ◌+◌, ◌∷◌, ℕ, Option, length, true, Some, None, arith}
use Rattle.atomic_table.specs.Table.{rest}
use Rattle.tk_core.specs.declared.frame.Frame.{Frame}
use Rattle.tk_locks.specs.View.{View, noted, marked}
use Rattle.tk_locks.specs.Rule.{records_in, good_of, next_fits, count_at}
use Rattle.tk_locks.specs.Steps.{Fits, MayMark}
use Rattle.tk_locks.proofs.Facts.{marked_head}
use Rattle.tk_locks.proofs.Keeps.{fetches_at, gives_store_at}
use Rattle.tk_locks.proofs.Views.{same_value, may_give, gave_as}
use Rattle.tk_locks.proofs.table.LockTable.give_store_as.Goals as goal

pub load-requires : goal.load-requires
load-requires g c =
    let fe = ap (λ z. z.frame) c.requires.ground ∙ c.args.self.now.sized.2 in let we = ap (λ (z : Frame). z.stripes + c.args.i + 1) (sym fe) in (
      search rules,
      (let e = ap (λ (z : Frame). z.stores) fe in let l = c.requires.lock.0 in let z = c.args.self.now.sized.0 in omega arith),
      fetches_at _ _ _ _ _ _ _ _ c.requires.ground _ _ _ c.args.i _ g.K.Marked.kept we c.requires.lock.0 c.requires.live c.requires.lock.2 (subst (λ (b : Option ℕ). MayMark g.J.Told.ground.frame (count_at g.S.SeqStore.fault_count g.J.Told.ground.start) c.args.i c.args.seat.now.me.0 b) (sym c.requires.marked.0) c.requires.stays),
    )

pub exchange-requires : goal.exchange-requires
exchange-requires g c =
    let fe = ap (λ z. z.frame) c.requires.ground ∙ c.args.self.now.sized.2 in let we = ap (λ (z : Frame). z.stripes + c.args.i + 1) (sym fe) in
    let t = c.load.ensures.2 c.args.i we in (search rules, (None, t.1 ∙ (λ i. (c.args.i, None) ∷ sym (ap rest t.1) i)))

pub swap-requires : goal.swap-requires
swap-requires g c =
    let fe = ap (λ z. z.frame) c.requires.ground ∙ c.args.self.now.sized.2 in let we = ap (λ (z : Frame). z.stripes + c.args.i + 1) (sym fe) in
    let t = c.load.ensures.2 c.args.i we in let now = c.exchange.ensures.3 in
    let same = ap (λ m. m.0) now ∙ t.0 in (
      search rules,
      (let e = ap (λ (z : Frame). z.stores) fe in let l = c.requires.lock.0 in let z = c.args.self.now.sized.0 in omega arith),
      gives_store_at _ _ _ _ _ _ _ _ c.requires.ground _ _ _ c.args.i _ c.args.home _ we
          (may_give g.J.Told.ground.frame c.args.i g.K.Marked.kept c.args.seat.now.me.0 c.exchange.new.seat.me.0 c.requires.live c.requires.lock.0 c.requires.lock.1 same)
          (ap (λ m. m.1) now ∙ (λ i. (c.args.i, Some c.args.home) ∷ sym (ap (λ m. rest m.1) now) i))
          (sym c.requires.marked.0 ∙ sym (ap (λ (y : View). marked c.args.i y.marks) same ∙ marked_head c.args.i g.K.Marked.kept c.args.seat.now.me.0.marks))
          (subst (λ (y : View). Fits g.J.Told.ground.frame (λ m. g.S.SeqStore.lawful m ≡ true) (records_in g.J.Told.ground.frame.order g.S.SeqStore.store_view g.J.Told.ground.start) (good_of g.S.SeqStore.stands g.S.SeqStore.store_view g.S.SeqStore.constants g.J.Told.ground) (next_fits g.S.SeqStore.store_view g.S.SeqStore.constants g.J.Told.ground) g.S.SeqStore.fault_count (count_at g.S.SeqStore.fault_count g.J.Told.ground.start) c.args.i y.caller c.args.home) (sym same) c.requires.fits)
          (sym c.requires.marked.1)
          (let n = c.requires.count in let e = c.requires.marked.1 in let q = ap (λ (y : View). noted c.args.i y.counts) same in omega arith)
          (λ whole. subst (λ (y : View). next_fits g.S.SeqStore.store_view g.S.SeqStore.constants g.J.Told.ground c.args.home.store (length y.caller.base)) (sym same) (c.requires.next whole)),
    )

pub unreachable-requires : goal.unreachable-requires
unreachable-requires g c =
    let fe = ap (λ z. z.frame) c.requires.ground ∙ c.args.self.now.sized.2 in let we = ap (λ (z : Frame). z.stripes + c.args.i + 1) (sym fe) in
    let t = c.load.ensures.2 c.args.i we in
    let e = same_value g.row.S.Denot g.J.Told.ground.frame (λ m. g.S.SeqStore.lawful m ≡ true) (records_in g.J.Told.ground.frame.order g.S.SeqStore.store_view g.J.Told.ground.start) (good_of g.S.SeqStore.stands g.S.SeqStore.store_view g.S.SeqStore.constants g.J.Told.ground) (next_fits g.S.SeqStore.store_view g.S.SeqStore.constants g.J.Told.ground) g.S.SeqStore.fault_count (count_at g.S.SeqStore.fault_count g.J.Told.ground.start)
    c.args.i c.load.new.seat.me.1 _ _ _ _ t.1 c.exchange.ensures.2 in cc (e, c.in-Some.is)

pub returns-clause-own : goal.returns-clause-own
returns-clause-own g c =
    let fe = ap (λ z. z.frame) c.requires.ground ∙ c.args.self.now.sized.2 in let we = ap (λ (z : Frame). z.stripes + c.args.i + 1) (sym fe) in
    let t = c.load.ensures.2 c.args.i we in let u = c.swap.ensures.2 c.args.i we in
    (c.swap.ensures.0 ∙ c.exchange.ensures.0 ∙ c.load.ensures.0, u.1 ∙ ap (λ m. rest m.1) c.exchange.ensures.3 ∙ ap rest t.1 ∙ c.requires.own.1)

pub returns-clause-step : goal.returns-clause-step
returns-clause-step g c =
    let fe = ap (λ z. z.frame) c.requires.ground ∙ c.args.self.now.sized.2 in let we = ap (λ (z : Frame). z.stripes + c.args.i + 1) (sym fe) in
    let t = c.load.ensures.2 c.args.i we in let u = c.swap.ensures.2 c.args.i we in
    gave_as g.J.Told.ground.frame c.args.i g.K.Marked.kept c.args.home.broken g.K.Marked.count (g.S.SeqStore.fault_count c.args.home.store) c.args.seat.now.me.0 c.exchange.new.seat.me.0 c.swap.new.seat.me.0
    c.requires.marked.0 c.requires.marked.1 (ap (λ m. m.0) c.exchange.ensures.3 ∙ t.0) u.0
