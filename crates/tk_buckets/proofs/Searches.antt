-- The search for the cell that leads to a block.
use Rattle.std.proofs.Common.{◌≡◌, ◌≢◌, ◌⊎◌, inl, inr, ℕ, ◌+◌, ◌*◌, ◌/◌, ◌-◌, ◌<◌, ◌≤◌, ◌^◌, Bool, true, cond, eqb, leb, List, [], ◌∷◌, length, refl, sym, ◌∙◌, ap, subst, arith}
use Rattle.std.specs.Prelude.{min, ◌&&◌, Option, Some, None, IfSome}
use Rattle.std.proofs.lemmas.Bool.{eq-eqb, ne_eqb, cases_eq, le-leb}
use Rattle.tk_block.specs.Number.{u64_in}
use Rattle.tk_block.specs.declared.head.StaticHead.{StaticHead}
use Rattle.tk_buckets.specs.Chain.{IsLinked, link_in, has_block, cell_to}
use Rattle.tk_buckets.proofs.Links.{whole_long}
use Rattle.tk_buckets.proofs.Follows.{linked_few}
use Rattle.tk_buckets.proofs.Unlinks.{some_behind}

module _ (h : StaticHead) (f : List ℕ) (place : ℕ) (places : List ℕ) (cell : ℕ) where
  -- the search stands at a cell that leads to the rest of the chain
  pub record Toward (at next steps : ℕ) : Type 0 where
    pub rest : List ℕ
    pub linked : IsLinked h f next rest
    pub among : has_block place rest ≡ true
    pub leads : cell_to at place rest ≡ cell_to cell place places
    pub count : steps + length rest ≡ length places
    pub within : at + 8 ≤ length f

  one_step : (at next steps n : ℕ) (rest : List ℕ) → next ≢ place → IsLinked h f next rest → has_block place rest ≡ true → cell_to at place rest ≡ cell_to cell place places
      → steps + length rest ≡ length places → (next + 24 ≤ length f → n ≡ link_in f next) → Toward (next + 16) n (steps + 1)
  one_step at next steps n [] ne linked among leads count gives = absurd (cc (among))
  one_step at next steps n (q ∷ qs) ne linked among leads count gives =
      let same : next ≡ q = linked.0 in
      let other : q ≢ place = λ is. ne (same ∙ is) in
      let within : next + 24 ≤ length f = omega (arith, same, linked.1.within, whole_long h f q linked.1) in
      record {
        rest = qs;
        linked = subst (λ (k : ℕ). IsLinked h f k qs) (sym (gives within ∙ ap (λ (k : ℕ). link_in f k) same)) linked.3;
        among = some_behind place q qs other among;
        leads =
            ap (λ (k : ℕ). cell_to (k + 16) place qs) same
            ∙ sym (ap (λ (b : Bool). cond b at (cell_to (q + 16) place qs)) (ne_eqb q place other))
            ∙ leads;
        count = omega (arith, count);
        within = omega (arith, within);
      }

  next_within : (next : ℕ) (rest : List ℕ) → IsLinked h f next rest → has_block place rest ≡ true → next + 24 ≤ length f
  next_within next [] linked among = absurd (cc (among))
  next_within next (q ∷ qs) linked among = omega (arith, linked.0, linked.1.within, whole_long h f q linked.1)

  here : (at next : ℕ) (rest : List ℕ) → next ≡ place → IsLinked h f next rest → has_block place rest ≡ true → cell_to at place rest ≡ cell_to cell place places → at ≡ cell_to cell place places
  here at next [] is linked among leads = absurd (cc (among))
  here at next (q ∷ qs) is linked among leads =
      sym (ap (λ (b : Bool). cond b at (cell_to (q + 16) place qs)) (eq-eqb q place (sym linked.0 ∙ is))) ∙ leads

  more_left : (next : ℕ) (rest : List ℕ) → IsLinked h f next rest → has_block place rest ≡ true → 1 ≤ length rest
  more_left next [] linked among = absurd (cc (among))
  more_left next (q ∷ qs) linked among = omega arith

  two_left : (next : ℕ) (rest : List ℕ) → next ≢ place → IsLinked h f next rest → has_block place rest ≡ true → 2 ≤ length rest
  two_left next [] ne linked among = absurd (cc (among))
  two_left next (q ∷ qs) ne linked among = omega (arith, more_left (link_in f q) qs linked.3 (some_behind place q qs (λ is. ne (linked.0 ∙ is)) among))

  -- the search ends at the block
  arrived : (at next steps : ℕ) → IsLinked h f (u64_in f cell) places → Toward at next steps → (next ≡ place) ⊎ (length f / 48 ≤ steps) → next ≡ place
  arrived at next steps all t (inl is) = is
  arrived at next steps all t (inr full) = elim (cases_eq next place) [
    | inl e ↦ e
    | inr ne ↦ absurd (omega (arith, full, linked_few h f (u64_in f cell) places all, t.count, two_left next t.rest ne t.linked t.among))
  ]

  chosen : (at next steps : ℕ) → length f ≤ 2 ^ 40 → Toward at next steps → next ≡ place → cond (eqb next place && leb at (2 ^ 40 - 8)) (Some at) None ≡ Some (cell_to cell place places)
  chosen at next steps size t is =
      ap (λ (b : Bool). cond (b && leb at (2 ^ 40 - 8)) (Some at) None) (eq-eqb next place is)
      ∙ ap (λ (b : Bool). cond b (Some at) None) (le-leb at (2 ^ 40 - 8) (omega (arith, size, t.within)))
      ∙ ap (λ (n : ℕ). Some n) (here at next t.rest is t.linked t.among t.leads)

-- the same, where the disk tells the file
abbrev pub ToldToward : StaticHead → Option (List ℕ) → (place cell : ℕ) → (places : List ℕ) → (at next steps : ℕ) → Type 0
ToldToward h o place cell places at next steps =
    IfSome o (λ f. cell + 8 ≤ length f → IsLinked h f (u64_in f cell) places → has_block place places ≡ true → Toward h f place places cell at next steps)

pub begins : (h : StaticHead) (o : Option (List ℕ)) (place cell next : ℕ) (places : List ℕ) → IfSome o (λ f. cell + 8 ≤ length f → next ≡ u64_in f cell) → ToldToward h o place cell places cell next 0
begins h None place cell next places value = tt
begins h (Some f) place cell next places value = λ fits linked has.
    record { rest = places; linked = subst (λ (n : ℕ). IsLinked h f n places) (sym (value fits)) linked; among = has; leads = refl; count = omega arith; within = fits }

pub goes_on : (h : StaticHead) (o : Option (List ℕ)) (place cell : ℕ) (places : List ℕ) (len at next steps to n : ℕ) → IfSome o (λ f. length f ≡ len) → len < 2 ^ 64 → to ≡ min (next + 16) 18446744073709551615 → next ≢ place
    → IfSome o (λ f. to + 8 ≤ length f → n ≡ u64_in f to) → ToldToward h o place cell places at next steps → ToldToward h o place cell places to n (steps + 1)
goes_on h None place cell places len at next steps to n long small is ne value toward = tt
goes_on h (Some f) place cell places len at next steps to n long small is ne value toward = λ fits linked has.
    let t = toward fits linked has in
    let fits_next : next + 24 ≤ length f = next_within h f place places cell next t.rest t.linked t.among in
    let same : to ≡ next + 16 = omega (arith, is, fits_next, long, small) in
    subst (λ (k : ℕ). Toward h f place places cell k n (steps + 1)) (sym same)
    (one_step h f place places cell at next steps n t.rest ne t.linked t.among t.leads t.count
    (λ within. value (omega (arith, same, within)) ∙ ap (λ (k : ℕ). u64_in f k) same))

pub ends : (h : StaticHead) (o : Option (List ℕ)) (place cell : ℕ) (places : List ℕ) (len at next steps : ℕ) (found : Option ℕ) → IfSome o (λ f. length f ≡ len) → IfSome o (λ f. length f ≤ 2 ^ 40)
    → (next ≡ place) ⊎ (len / 48 ≤ steps) → found ≡ cond (eqb next place && leb at (2 ^ 40 - 8)) (Some at) None → ToldToward h o place cell places at next steps
    → IfSome o (λ f. cell + 8 ≤ length f → IsLinked h f (u64_in f cell) places → has_block place places ≡ true → found ≡ Some (cell_to cell place places))
ends h None place cell places len at next steps found long size over is toward = tt
ends h (Some f) place cell places len at next steps found long size over is toward = λ fits linked has.
    let t = toward fits linked has in
    is ∙ chosen h f place places cell at next steps size t (arrived h f place places cell at next steps linked t (subst (λ (k : ℕ). (next ≡ place) ⊎ (k / 48 ≤ steps)) (sym long) over))

-- what the search reads: a head, and of each block on the way its link
abbrev pub Reads : StaticHead → Option (List ℕ) → (place cell : ℕ) → (places : List ℕ) → (before now : ℕ) → Type 0
Reads h o place cell places before now = IfSome o (λ f. cell + 8 ≤ length f → IsLinked h f (u64_in f cell) places → has_block place places ≡ true → now ≤ before + 8 * length places)

pub cost_first : (h : StaticHead) (o : Option (List ℕ)) (place cell : ℕ) (places : List ℕ) (before now : ℕ) → now ≤ before + 8 → Reads h o place cell places before now
cost_first h None place cell places before now most = tt
cost_first h (Some f) place cell places before now most = λ fits linked has. omega (arith, most, more_left h f place places cell (u64_in f cell) places linked has)

pub cost_more : (h : StaticHead) (o : Option (List ℕ)) (place cell : ℕ) (places : List ℕ) (before now at next steps : ℕ) → next ≢ place → now ≤ before + 16 + 8 * steps → ToldToward h o place cell places at next steps → Reads h o place cell places before now
cost_more h None place cell places before now at next steps ne most toward = tt
cost_more h (Some f) place cell places before now at next steps ne most toward = λ fits linked has.
    let t = toward fits linked has in
    omega (arith, most, t.count, two_left h f place places cell next t.rest ne t.linked t.among)

pub cost_left : (h : StaticHead) (o : Option (List ℕ)) (place cell : ℕ) (places : List ℕ) (before now at next steps : ℕ) → now ≤ before + 8 + 8 * steps → ToldToward h o place cell places at next steps → Reads h o place cell places before now
cost_left h None place cell places before now at next steps most toward = tt
cost_left h (Some f) place cell places before now at next steps most toward = λ fits linked has.
    let t = toward fits linked has in
    omega (arith, most, t.count, more_left h f place places cell next t.rest t.linked t.among)
