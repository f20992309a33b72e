use Rattle.std.proofs.Common.{◌≡◌, ◌+◌, ◌∙◌, sym, ap, subst, refl, ℕ, List, [], length, take, drop, true, Option, None, arith, length-drop}
use Rattle.tk_model.specs.declared.record.Pair.{Pair}
use Rattle.tk_tree.specs.Formed.{leaf_size}
use Rattle.tk_tree.specs.Put.{is_long, half_of, split_leaf}
use Rattle.tk_tree.specs.Parts.{Splits}
use Rattle.tk_tree.proofs.LeafSplits.{half_inside}
use Rattle.tk_tree.proofs.CodeSplits.{last_splits, first_past, both_answer, back_small, least_at}
use Rattle.tk_tree.proofs.split.+split_leaf.Goals as goal

pub returns-then-next-eq18446744073709551615 : goal.returns-then-next-eq18446744073709551615
returns-then-next-eq18446744073709551615 t c =
    let long : is_long c.args.pairs ≡ true = ap is_long (sym c.as_slice.ensures) ∙ sym c.is_long.ensures ∙ c.if-not-is_long.false in
    last_splits c.args.number c.args.key c.args.pairs c.args.next [] [] long (omega arith)

pub cut-requires : goal.cut-requires
cut-requires t c =
    let long : is_long c.args.pairs ≡ true = ap is_long (sym c.as_slice.ensures) ∙ sym c.is_long.ensures ∙ c.if-not-is_long.false in
    let half : c.half_of-half.result ≡ half_of c.args.pairs = c.half_of-half.ensures ∙ ap half_of c.as_slice-2.ensures in
    let h = half_inside c.args.pairs long in omega (arith, half, h.1)

pub at-requires : goal.at-requires
at-requires t c =
    let long : is_long c.args.pairs ≡ true = ap is_long (sym c.as_slice.ensures) ∙ sym c.is_long.ensures ∙ c.if-not-is_long.false in
    let half : c.half_of-half.result ≡ half_of c.args.pairs = c.half_of-half.ensures ∙ ap half_of c.as_slice-2.ensures in
    let h = half_inside c.args.pairs long in omega (arith, half, h.1, ap length c.in_ok-front.ensures.1, length-drop c.half_of-half.result c.args.pairs)

pub split_leaf-requires-in-Some : goal.split_leaf-requires-in-Some
split_leaf-requires-in-Some t c =
    let long : is_long c.args.pairs ≡ true = ap is_long (sym c.as_slice.ensures) ∙ sym c.is_long.ensures ∙ c.if-not-is_long.false in
    let half : c.half_of-half.result ≡ half_of c.args.pairs = c.half_of-half.ensures ∙ ap half_of c.as_slice-2.ensures in
    let h = half_inside c.args.pairs long in (
      omega (arith, half, h.0, h.1, c.decreases, ap length c.in_ok-front.ensures.1, length-drop c.half_of-half.result c.args.pairs),
      omega (arith, c.requires, ap leaf_size c.in_ok-front.ensures.1, back_small c.half_of-half.result c.args.pairs),
    )

pub returns-in-Some : goal.returns-in-Some
returns-in-Some t c =
    let long : is_long c.args.pairs ≡ true = ap is_long (sym c.as_slice.ensures) ∙ sym c.is_long.ensures ∙ c.if-not-is_long.false in
    let half : c.half_of-half.result ≡ half_of c.args.pairs = c.half_of-half.ensures ∙ ap half_of c.as_slice-2.ensures in
    both_answer c.args.number c.args.key c.in_ok-least.least c.args.pairs c.in_ok-front.front c.in_ok-front.back c.args.next (c.args.next + 1) c.in-Some.after c.args.out.now c.split_leaf.new.out c.split_leaf-in-Some.new.out c.split_leaf-in-Some.result long
    (c.in_ok-front.ensures.0 ∙ ap (λ n. take n c.args.pairs) half) (c.in_ok-front.ensures.1 ∙ ap (λ n. drop n c.args.pairs) half) refl
    (c.in_ok-least.ensures ∙ c.as_slice-3.ensures ∙ least_at c.in_ok-front.back c.at.result.now c.at.ensures)
    (subst (λ (o : Option ℕ). Splits c.args.key (split_leaf (length c.in_ok-front.front) c.args.number c.in_ok-front.front (c.args.next + 1)) c.args.out.now c.split_leaf.new.out o) c.in-Some.is c.in_ok-after.ensures)
    c.split_leaf-in-Some.ensures

pub returns-in-None : goal.returns-in-None
returns-in-None t c =
    let long : is_long c.args.pairs ≡ true = ap is_long (sym c.as_slice.ensures) ∙ sym c.is_long.ensures ∙ c.if-not-is_long.false in
    let half : c.half_of-half.result ≡ half_of c.args.pairs = c.half_of-half.ensures ∙ ap half_of c.as_slice-2.ensures in
    let front : c.in_ok-front.front ≡ take (half_of c.args.pairs) c.args.pairs = c.in_ok-front.ensures.0 ∙ ap (λ n. take n c.args.pairs) half in
    first_past c.args.number c.args.key c.args.pairs c.args.next c.args.out.now c.split_leaf.new.out c.split_leaf.new.out long
    (subst (λ (q : List Pair). Splits c.args.key (split_leaf (length q) c.args.number q (c.args.next + 1)) c.args.out.now c.split_leaf.new.out None) front
    (subst (λ (o : Option ℕ). Splits c.args.key (split_leaf (length c.in_ok-front.front) c.args.number c.in_ok-front.front (c.args.next + 1)) c.args.out.now c.split_leaf.new.out o) c.in-None.is c.in_ok-after.ensures))
