use Rattle.std.proofs.Common.{rules, sym, ap, ◌∙◌, ◌≡◌, ◌+◌, ◌∷◌, true, Some, None, arith}
use Rattle.atomic_table.specs.Table.{rest}
use Rattle.tk_core.specs.declared.frame.Frame.{Frame}
use Rattle.tk_locks.specs.Rule.{records_in, good_of, next_fits, count_at}
use Rattle.tk_locks.proofs.Keeps.{takes_store_at, parks_at}
use Rattle.tk_locks.proofs.Views.{may_park, got_store}
use Rattle.tk_locks.proofs.table.LockTable.try_take_store_as.Goals as goal

pub compare_exchange-requires : goal.compare_exchange-requires
compare_exchange-requires g c =
    let fe = ap (λ z. z.frame) c.requires.ground ∙ c.args.self.now.sized.2 in let we = ap (λ (z : Frame). z.stripes + c.args.i + 1) (sym fe) in (
      search rules,
      (let e = ap (λ (z : Frame). z.stores) fe in let l = c.requires.lock.0 in let z = c.args.self.now.sized.0 in omega arith),
      takes_store_at _ _ _ _ _ _ _ _ c.requires.ground _ _ _ c.args.i _ we c.requires.lock.0 c.requires.lock.1,
    )

pub exchange-home-requires : goal.exchange-home-requires
exchange-home-requires g c =
    let fe = ap (λ z. z.frame) c.requires.ground ∙ c.args.self.now.sized.2 in let we = ap (λ (z : Frame). z.stripes + c.args.i + 1) (sym fe) in
    let t = (c.compare_exchange.ensures.2 c.args.i we).0 c.if-compare_exchange-ne0.false in
    (search rules, (Some t.0, t.2 ∙ (λ i. (c.args.i, Some t.0) ∷ sym (ap rest t.2) i)))

pub load-requires : goal.load-requires
load-requires g c =
    let fe = ap (λ z. z.frame) c.requires.ground ∙ c.args.self.now.sized.2 in let we = ap (λ (z : Frame). z.stripes + c.args.i + 1) (sym fe) in
    let t = (c.compare_exchange.ensures.2 c.args.i we).0 c.if-compare_exchange-ne0.false in let now = c.exchange-home.ensures.3 in (
      search rules,
      (let e = ap (λ (z : Frame). z.stores) fe in let l = c.requires.lock.0 in let z = c.args.self.now.sized.0 in omega arith),
      parks_at _ _ _ _ _ _ _ _ c.requires.ground _ _ _ c.args.i _ we
          (may_park _ g.J.Told.ground.frame (λ m. g.S.SeqStore.lawful m ≡ true) (records_in g.J.Told.ground.frame.order g.S.SeqStore.store_view g.J.Told.ground.start) (good_of g.S.SeqStore.stands g.S.SeqStore.store_view g.S.SeqStore.constants g.J.Told.ground) (next_fits g.S.SeqStore.store_view g.S.SeqStore.constants g.J.Told.ground) g.S.SeqStore.fault_count (count_at g.S.SeqStore.fault_count g.J.Told.ground.start)
          c.args.i c.args.seat.now.me.0 c.compare_exchange.new.seat.me.0 c.exchange-home.new.seat.me.0 t.0 c.requires.lock.0 c.requires.lock.1 t.1 (ap (λ m. m.0) now))
          (ap (λ m. m.1) now ∙ (λ i. (c.args.i, None) ∷ sym (ap (λ m. rest m.1) now) i)),
    )

pub returns-clause-own : goal.returns-clause-own
returns-clause-own g c =
    let fe = ap (λ z. z.frame) c.requires.ground ∙ c.args.self.now.sized.2 in let we = ap (λ (z : Frame). z.stripes + c.args.i + 1) (sym fe) in
    let t = (c.compare_exchange.ensures.2 c.args.i we).0 c.if-compare_exchange-ne0.false in
    (c.load.ensures.0 ∙ c.exchange-home.ensures.0 ∙ c.compare_exchange.ensures.0, (c.load.ensures.2 c.args.i we).1 ∙ ap (λ m. rest m.1) c.exchange-home.ensures.3 ∙ ap rest t.2 ∙ c.requires.own.1)

pub returns-clause-step : goal.returns-clause-step
returns-clause-step g c =
    let fe = ap (λ z. z.frame) c.requires.ground ∙ c.args.self.now.sized.2 in let we = ap (λ (z : Frame). z.stripes + c.args.i + 1) (sym fe) in
    let t = (c.compare_exchange.ensures.2 c.args.i we).0 c.if-compare_exchange-ne0.false in
    got_store _ g.J.Told.ground.frame (λ m. g.S.SeqStore.lawful m ≡ true) (records_in g.J.Told.ground.frame.order g.S.SeqStore.store_view g.J.Told.ground.start) (good_of g.S.SeqStore.stands g.S.SeqStore.store_view g.S.SeqStore.constants g.J.Told.ground) (next_fits g.S.SeqStore.store_view g.S.SeqStore.constants g.J.Told.ground) g.S.SeqStore.fault_count (count_at g.S.SeqStore.fault_count g.J.Told.ground.start)
    c.args.i c.args.seat.now.me.0 c.compare_exchange.new.seat.me c.exchange-home.new.seat.me c.load.new.seat.me c.exchange-home.result t.0 c.args.seat.now.me.1 t.1 t.2 c.exchange-home.ensures.2 (ap (λ m. m.0) c.exchange-home.ensures.3) (c.load.ensures.2 c.args.i we).0

pub returns-then-compare_exchange-ne0-clause-own : goal.returns-then-compare_exchange-ne0-clause-own
returns-then-compare_exchange-ne0-clause-own g c =
    let fe = ap (λ z. z.frame) c.requires.ground ∙ c.args.self.now.sized.2 in let we = ap (λ (z : Frame). z.stripes + c.args.i + 1) (sym fe) in
    let t = (c.compare_exchange.ensures.2 c.args.i we).1 c.if-compare_exchange-ne0.true in (c.compare_exchange.ensures.0, t.1 ∙ c.requires.own.1)

pub returns-then-compare_exchange-ne0-clause-step : goal.returns-then-compare_exchange-ne0-clause-step
returns-then-compare_exchange-ne0-clause-step g c =
    let fe = ap (λ z. z.frame) c.requires.ground ∙ c.args.self.now.sized.2 in let we = ap (λ (z : Frame). z.stripes + c.args.i + 1) (sym fe) in
    ((c.compare_exchange.ensures.2 c.args.i we).1 c.if-compare_exchange-ne0.true).0
