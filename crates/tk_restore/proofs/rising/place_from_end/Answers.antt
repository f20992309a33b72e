use Rattle.std.proofs.Common.{◌≡◌, ◌<◌, ◌≤◌, ◌+◌, ◌-◌, ℕ, List, length, drop, sym, ap, subst, ◌∙◌, arith}
use Rattle.std.proofs.lemmas.List.{drop_all}
use Rattle.tk_model.specs.declared.record.Order.TheVariants.{Hash}
use Rattle.tk_model.specs.declared.record.Pair.{Pair}
use Rattle.tk_model.specs.Orders.{key_cmp}
use Rattle.tk_model.specs.Records.{AllBehind}
use Rattle.tk_restore.proofs.Placing.{behind_here, same_goes, same_stands, front_less, goes_between, none_between}
use Rattle.tk_restore.proofs.rising.place_from_end.Goals as goal

back : (k : List ℕ) (m : List Pair) (i : ℕ) → 0 < i → AllBehind Hash k (drop i m) → AllBehind Hash k (drop (i - 1 + 1) m)
back k m i some behind =
    let e : i ≡ i - 1 + 1 = omega arith in
    subst (λ j. AllBehind Hash k (drop j m)) e behind

pub loop-i-init : goal.loop-i-init
loop-i-init c = subst (AllBehind Hash c.args.key.now) (sym (drop_all (length c.args.pairs.now) c.args.pairs.now (omega arith))) tt

pub loop-i-preserved : goal.loop-i-preserved
loop-i-preserved c =
    behind_here c.args.key.now c.args.pairs.now (c.loop-i.i - 1) c.index-pairs-i.result (omega arith) c.index-pairs-i.is
    (ap (λ (p : Pair). key_cmp Hash c.args.key.now p.key) c.index-pairs-i.is ∙ ap (key_cmp Hash c.args.key.now) (sym c.as_slice.ensures) ∙ sym c.compare_keys.ensures ∙ c.in-Less.is)
    (back c.args.key.now c.args.pairs.now c.loop-i.i (omega arith) c.loop-i.invariant)

pub returns-in-Equal-clause-goes : goal.returns-in-Equal-clause-goes
returns-in-Equal-clause-goes c =
    same_goes c.args.key.now c.args.pairs.now (c.loop-i.i - 1) c.index-pairs-i.result (omega arith) c.index-pairs-i.is c.requires
    (ap (λ (p : Pair). key_cmp Hash c.args.key.now p.key) c.index-pairs-i.is ∙ ap (key_cmp Hash c.args.key.now) (sym c.as_slice.ensures) ∙ sym c.compare_keys.ensures ∙ c.in-Equal.is)

pub returns-in-Equal-clause-stands : goal.returns-in-Equal-clause-stands
returns-in-Equal-clause-stands c =
    same_stands c.args.key.now c.args.pairs.now (c.loop-i.i - 1) c.index-pairs-i.result (omega arith) c.index-pairs-i.is c.requires
    (ap (λ (p : Pair). key_cmp Hash c.args.key.now p.key) c.index-pairs-i.is ∙ ap (key_cmp Hash c.args.key.now) (sym c.as_slice.ensures) ∙ sym c.compare_keys.ensures ∙ c.in-Equal.is)

pub returns-in-Greater-clause-goes : goal.returns-in-Greater-clause-goes
returns-in-Greater-clause-goes c =
    let before = front_less c.args.key.now c.args.pairs.now (c.loop-i.i - 1) c.index-pairs-i.result (omega arith) c.index-pairs-i.is c.requires
    (ap (λ (p : Pair). key_cmp Hash c.args.key.now p.key) c.index-pairs-i.is ∙ ap (key_cmp Hash c.args.key.now) (sym c.as_slice.ensures) ∙ sym c.compare_keys.ensures ∙ c.in-Greater.is) in
    goes_between c.args.key.now c.args.pairs.now (c.loop-i.i - 1 + 1) (omega arith) before (back c.args.key.now c.args.pairs.now c.loop-i.i (omega arith) c.loop-i.invariant)

pub returns-in-Greater-clause-stands : goal.returns-in-Greater-clause-stands
returns-in-Greater-clause-stands c =
    let before = front_less c.args.key.now c.args.pairs.now (c.loop-i.i - 1) c.index-pairs-i.result (omega arith) c.index-pairs-i.is c.requires
    (ap (λ (p : Pair). key_cmp Hash c.args.key.now p.key) c.index-pairs-i.is ∙ ap (key_cmp Hash c.args.key.now) (sym c.as_slice.ensures) ∙ sym c.compare_keys.ensures ∙ c.in-Greater.is) in
    none_between c.args.key.now c.args.pairs.now (c.loop-i.i - 1 + 1) before (back c.args.key.now c.args.pairs.now c.loop-i.i (omega arith) c.loop-i.invariant)

first : (k : List ℕ) (m : List Pair) (i : ℕ) → i ≤ 0 → AllBehind Hash k (drop i m) → AllBehind Hash k (drop 0 m)
first k m i none behind =
    let e : i ≡ 0 = omega (arith, none) in
    subst (λ j. AllBehind Hash k (drop j m)) e behind

pub returns-clause-goes : goal.returns-clause-goes
returns-clause-goes c = goes_between c.args.key.now c.args.pairs.now 0 (omega arith) tt (first c.args.key.now c.args.pairs.now c.loop-i.i c.loop-i-test.false c.loop-i.invariant)

pub returns-clause-stands : goal.returns-clause-stands
returns-clause-stands c = none_between c.args.key.now c.args.pairs.now 0 tt (first c.args.key.now c.args.pairs.now c.loop-i.i c.loop-i-test.false c.loop-i.invariant)
