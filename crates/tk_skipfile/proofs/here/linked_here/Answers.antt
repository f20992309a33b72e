use Rattle.std.specs.Prelude.{Bool, true, false, not, nat_eq}
use Rattle.std.specs.Int.{w32, to_be_bytes}
use Rattle.std.specs.Cmp.Lexicographic.{pointwise, same_text, other_text}
use Rattle.tk_block.specs.Text.{check_number}
use Rattle.std.proofs.Common.{◌≡◌, ◌≢◌, refl, ◌*◌, ◌-◌, ℕ, List, length, take, drop, ◌∙◌, sym, ap, subst, arith}
use Rattle.std.specs.Prelude.{Some, None}
use Rattle.std.proofs.lemmas.List.{take_rest}
use Rattle.tk_model.specs.declared.record.Pair.{Pair}
use Rattle.tk_skipfile.specs.Walking.{BeginsLinked, words_in}
use Rattle.tk_skipfile.proofs.Spelled.{linked_found, links_there, record_there, found_same, value_short, check_there, check_right}
use Rattle.tk_skipfile.proofs.here.linked_here.Goals as goal

-- the part behind the links
tail_of : (bytes : List ℕ) (size height : ℕ) → size ≡ height → take (length bytes - 8 * size) (drop (8 * size) bytes) ≡ drop (8 * height) bytes
tail_of bytes size height is = take_rest bytes (8 * size) ∙ ap (λ (n : ℕ). drop (8 * n) bytes) is

nothing : (p : Pair) → None ≡ Some p → ⊥
nothing p e = absurd (cc)

pub returns-then-bytes-size-clause-none : goal.returns-then-bytes-size-clause-none
returns-then-bytes-size-clause-none c x rest b = links_there c.args.height c.args.place c.args.bytes.now x rest b (omega (arith, c.if-bytes-size.true, c.from-size.ensures))

pub returns-in_default-clause-none : goal.returns-in_default-clause-none
returns-in_default-clause-none c x rest b =
    nothing x.pair (c.in_default.ensures.again x.pair _ (record_there c.args.height c.args.place c.args.bytes.now x rest b _ (tail_of c.args.bytes.now c.from-size.result c.args.height c.from-size.ensures)))

pub returns-then-value-gt-LONGEST_VALUE-clause-none : goal.returns-then-value-gt-LONGEST_VALUE-clause-none
returns-then-value-gt-LONGEST_VALUE-clause-none c x rest b =
    let same = found_same c.args.height c.args.place c.args.bytes.now x rest b _ _ _ (tail_of c.args.bytes.now c.from-size.result c.args.height c.from-size.ensures) c.in-Some.ensures.found in
    elim c.then-value-gt-LONGEST_VALUE.branch [
      | goal.then-value-gt-LONGEST_VALUE-via-then-value-gt-LONGEST_VALUE w ↦ value_short c.args.height c.args.place c.args.bytes.now x rest b _ same.0 w.if-value-gt-LONGEST_VALUE.true
      | goal.then-value-gt-LONGEST_VALUE-via-else-value-gt-LONGEST_VALUE+then-rest-lt4 w ↦ check_there c.args.height c.args.place c.args.bytes.now x rest b _ same.1 w.if-rest-lt4.true
    ]

told : (there check : List ℕ) (p differs : Bool) → p ≡ pointwise nat_eq there check → differs ≡ not p → differs ≡ false → there ≡ check
told there check true differs is turned told_so = same_text there check is
told there check false differs is turned told_so = absurd (cc)

untold : (there check : List ℕ) (p differs : Bool) → p ≡ pointwise nat_eq there check → differs ≡ not p → differs ≡ true → there ≢ check
untold there check true differs is turned told_so = absurd (cc)
untold there check false differs is turned told_so = other_text there check is

-- the check that was computed
check_is : (text bytes : List ℕ) (check place n : ℕ) → check ≡ check_number (take n text) place → bytes ≡ to_be_bytes w32 check → bytes ≡ to_be_bytes w32 (check_number (take n text) place)
check_is text bytes check place n is spelled = spelled ∙ ap (λ (k : ℕ). to_be_bytes w32 k) is

pub returns-then-ne-clause-none : goal.returns-then-ne-clause-none
returns-then-ne-clause-none c x rest b =
    let there = c.in-Some.field-0.rest.now in
    let same = found_same c.args.height c.args.place c.args.bytes.now x rest b _ _ _ (tail_of c.args.bytes.now c.from-size.result c.args.height c.from-size.ensures) c.in-Some.ensures.found in
    untold (take 4 there) c.as_slice.result.now _ c.ne.result refl c.ne.ensures c.if-ne.true
    (check_right c.args.height c.args.place c.args.bytes.now x rest b there same.1
    ∙ sym (c.as_slice.ensures ∙ check_is c.args.bytes.now c.to_be_bytes-check.result c.check.result c.args.place (length c.args.bytes.now - length there) c.check.ensures c.to_be_bytes-check.ensures))

found : (bytes tail rest behind : List ℕ) (size height place : ℕ) (p : Pair) → size ≡ height → BeginsLinked height place bytes (record { links = words_in height 0 (take (8 * height) bytes); pair = p }) (drop 4 rest)
    → BeginsLinked height place bytes (record { links = words_in height 0 (take (8 * size) bytes); pair = p }) (take (length rest - 4) (drop 4 rest))
found bytes tail rest behind size height place p is b =
    subst (λ (l : List ℕ). BeginsLinked height place bytes (record { links = words_in height 0 (take (8 * size) bytes); pair = p }) l) (sym (take_rest rest 4))
    (subst (λ (n : ℕ). BeginsLinked height place bytes (record { links = words_in height 0 (take (8 * n) bytes); pair = p }) (drop 4 rest)) (sym is) b)

pub returns-clause-found : goal.returns-clause-found
returns-clause-found c =
    let bytes = c.args.bytes.now in
    let there = c.in-Some.field-0.rest.now in
    let p : Pair = record { key = c.in-Some.field-0.key.now; value = c.in-Some.field-0.value.now } in
    found bytes bytes there there c.from-size.result c.args.height c.args.place p c.from-size.ensures
    (linked_found bytes _ there c.args.height c.args.place p (λ i. omega (arith, c.type_inv.bytes i)) (omega (arith, c.if-bytes-size.false, c.from-size.ensures)) (tail_of bytes c.from-size.result c.args.height c.from-size.ensures) c.in-Some.ensures.found
    (omega (arith, c.if-value-gt-LONGEST_VALUE.false)) (omega (arith, c.if-rest-lt4.false))
    (told (take 4 there) c.as_slice.result.now _ c.ne.result refl c.ne.ensures c.if-ne.false ∙ c.as_slice.ensures ∙ check_is bytes c.to_be_bytes-check.result c.check.result c.args.place (length bytes - length there) c.check.ensures c.to_be_bytes-check.ensures))
