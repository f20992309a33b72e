-- A walk along a chain, as far as a key.
use Rattle.std.proofs.Common.{◌≡◌, ◌≢◌, ◌⊎◌, inl, inr, ℕ, ◌+◌, ◌/◌, ◌<◌, ◌≤◌, ◌^◌, List, [], ◌∷◌, length, refl, sym, ◌∙◌, ap, subst, arith}
use Rattle.std.specs.Prelude.{Bool, true, false, Option, Some, None, IfSome, if◌then◌else◌}
use Rattle.tk_block.specs.Number.{u64_in}
use Rattle.tk_block.specs.declared.head.StaticHead.{StaticHead}
use Rattle.tk_buckets.specs.Chain.{IsWhole, IsLinked, link_in}
use Rattle.tk_buckets.specs.Lookup.{body_in_block, has_key, place_of, read_of_block, read_of_chain, Finds}
use Rattle.tk_buckets.specs.Seen.{Sees, shown_block}
use Rattle.tk_buckets.proofs.Follows.{linked_few}
use Rattle.tk_buckets.proofs.Seen.{OfWhole}

-- what is left of the walk
pub record Walks (h : StaticHead) (f key : List ℕ) (room : ℕ) (places : List ℕ) (before now place steps : ℕ) : Type 0 where
  pub rest : List ℕ
  pub linked : IsLinked h f place rest
  pub answer : place_of f key places ≡ place_of f key rest
  pub cost : now + read_of_chain f key room rest ≤ before + read_of_chain f key room places
  pub count : steps + length rest ≡ length places

module _ (h : StaticHead) (f key : List ℕ) (room : ℕ) (places : List ℕ) (before was now place steps : ℕ) where
  cost_from : (rest : List ℕ) → place ≢ 0 → IsLinked h f place rest → was + read_of_chain f key room rest ≤ before + read_of_chain f key room places
      → (IsWhole h f place → now ≤ was + read_of_block key room (body_in_block f place)) → now ≤ before + read_of_chain f key room places
  cost_from [] some linked cost costs = absurd (some linked)
  cost_from (q ∷ qs) some linked cost costs =
      let one = costs (subst (λ (k : ℕ). IsWhole h f k) (sym linked.0) linked.1) in
      omega (arith, cost, subst (λ (k : ℕ). now ≤ was + read_of_block key room (body_in_block f k)) linked.0 one)

  next_from : (buffer : List ℕ) (link : ℕ) (rest : List ℕ) → place ≢ 0 → IsLinked h f place rest → place_of f key places ≡ place_of f key rest → was + read_of_chain f key room rest ≤ before + read_of_chain f key room places
      → steps + length rest ≡ length places → (IsWhole h f place → now ≤ was + read_of_block key room (body_in_block f place)) → (IsWhole h f place → Sees f key place buffer false) → link ≡ u64_in buffer 16
      → Walks h f key room places before now link (steps + 1)
  next_from buffer link [] some linked answer cost count costs sees is = absurd (some linked)
  next_from buffer link (q ∷ qs) some linked answer cost count costs sees is =
      let whole = subst (λ (k : ℕ). IsWhole h f k) (sym linked.0) linked.1 in
      let s = sees whole in
      let other : has_key key (body_in_block f q) ≡ false = sym (s.told ∙ ap (λ (k : ℕ). has_key key (body_in_block f k)) linked.0) in
      let read : read_of_chain f key room (q ∷ qs) ≡ read_of_block key room (body_in_block f q) + read_of_chain f key room qs =
      ap (λ (t : Bool). read_of_block key room (body_in_block f q) + (if t then 0 else read_of_chain f key room qs)) other in
      record {
        rest = qs;
        linked = subst (λ (k : ℕ). IsLinked h f k qs) (sym (is ∙ s.link_is ∙ ap (λ (k : ℕ). link_in f k) linked.0)) linked.3;
        answer = answer ∙ ap (λ (t : Bool). if t then Some q else place_of f key qs) other;
        cost = omega (arith, cost, read, subst (λ (k : ℕ). now ≤ was + read_of_block key room (body_in_block f k)) linked.0 (costs whole));
        count = omega (arith, count);
      }

  here_from : (buffer rest : List ℕ) → place ≢ 0 → IsLinked h f place rest → place_of f key places ≡ place_of f key rest → (IsWhole h f place → Sees f key place buffer true) → Finds f key places buffer (Some (shown_block place buffer))
  here_from buffer [] some linked answer sees = absurd (some linked)
  here_from buffer (q ∷ qs) some linked answer sees =
      let s = sees (subst (λ (k : ℕ). IsWhole h f k) (sym linked.0) linked.1) in
      let own : has_key key (body_in_block f q) ≡ true = sym (s.told ∙ ap (λ (k : ℕ). has_key key (body_in_block f k)) linked.0) in
      (answer ∙ ap (λ (t : Bool). if t then Some q else place_of f key qs) own ∙ ap (λ (k : ℕ). Some k) (sym linked.0), s.shows refl)

  none_from : (len first : ℕ) (rest : List ℕ) → length f ≤ len → (place ≡ 0) ⊎ (len / 48 ≤ steps) → IsLinked h f first places → IsLinked h f place rest → place_of f key places ≡ place_of f key rest → steps + length rest ≡ length places
      → place_of f key places ≡ None
  none_from len first [] fits over all linked answer count = answer
  none_from len first (q ∷ qs) fits (inl none) all linked answer count = absurd (omega (arith, none, linked.0, linked.1.behind))
  none_from len first (q ∷ qs) fits (inr full) all linked answer count = absurd (omega (arith, full, fits, count, linked_few h f first places all))

-- ---- where the disk tells the file

abbrev pub ToldWalks : StaticHead → Option (List ℕ) → (key : List ℕ) → (room first : ℕ) → (places : List ℕ) → (before now place steps : ℕ) → Type 0
ToldWalks h o key room first places before now place steps = IfSome o (λ f. IsLinked h f first places → Walks h f key room places before now place steps)

pub begins : (h : StaticHead) (o : Option (List ℕ)) (key : List ℕ) (room first : ℕ) (places : List ℕ) (before : ℕ) → ToldWalks h o key room first places before before first 0
begins h None key room first places before = tt
begins h (Some f) key room first places before = λ linked. record { rest = places; linked = linked; answer = refl; cost = omega arith; count = omega arith }

of_whole : (h : StaticHead) (f : List ℕ) (mid : Option (List ℕ)) (place len : ℕ) (P : List ℕ → Type 0) → mid ≡ Some f → length f ≤ len → len < 2 ^ 64 → OfWhole mid place P → IsWhole h f place → P f
of_whole h f mid place len P is fits small all whole =
    subst (λ (o : Option (List ℕ)). IfSome o (λ f. IsWhole h f place → length f < 2 ^ 64 → P f)) is (all h) whole (omega (arith, fits, small))

module _ (h : StaticHead) (mid : Option (List ℕ)) (key : List ℕ) (room first : ℕ) (places : List ℕ) (before was now place steps len : ℕ) (small : len < 2 ^ 64) (some : place ≢ 0)
    (costs : OfWhole mid place (λ f. now ≤ was + read_of_block key room (body_in_block f place))) where
  pub cost_so_far : (o : Option (List ℕ)) → mid ≡ o → IfSome o (λ f. length f ≤ len) → ToldWalks h o key room first places before was place steps → IfSome o (λ f. IsLinked h f first places → now ≤ before + read_of_chain f key room places)
  cost_so_far None is fits walks = tt
  cost_so_far (Some f) is fits walks = λ linked.
      let w = walks linked in
      cost_from h f key room places before was now place steps w.rest some w.linked w.cost (of_whole h f mid place len (λ f. now ≤ was + read_of_block key room (body_in_block f place)) is fits small costs)

  module _ (buffer : List ℕ) (has : Bool) (sees : OfWhole mid place (λ f. Sees f key place buffer has)) where
    pub goes_on : (o : Option (List ℕ)) (link : ℕ) → mid ≡ o → IfSome o (λ f. length f ≤ len) → has ≡ false → link ≡ u64_in buffer 16 → ToldWalks h o key room first places before was place steps
        → ToldWalks h o key room first places before now link (steps + 1)
    goes_on None link is fits told same walks = tt
    goes_on (Some f) link is fits told same walks = λ linked.
        let w = walks linked in
        next_from h f key room places before was now place steps buffer link w.rest some w.linked w.answer w.cost w.count
        (of_whole h f mid place len (λ f. now ≤ was + read_of_block key room (body_in_block f place)) is fits small costs)
        (subst (λ (t : Bool). IsWhole h f place → Sees f key place buffer t) told (of_whole h f mid place len (λ f. Sees f key place buffer has) is fits small sees)) same

    pub here : (o : Option (List ℕ)) → mid ≡ o → IfSome o (λ f. length f ≤ len) → has ≡ true → ToldWalks h o key room first places before was place steps → IfSome o (λ f. IsLinked h f first places → Finds f key places buffer (Some (shown_block place buffer)))
    here None is fits told walks = tt
    here (Some f) is fits told walks = λ linked.
        let w = walks linked in
        here_from h f key room places before was now place steps buffer w.rest some w.linked w.answer
        (subst (λ (t : Bool). IsWhole h f place → Sees f key place buffer t) told (of_whole h f mid place len (λ f. Sees f key place buffer has) is fits small sees))

pub ends : (h : StaticHead) (o : Option (List ℕ)) (key : List ℕ) (room first : ℕ) (places : List ℕ) (before now place steps len : ℕ) → IfSome o (λ f. length f ≤ len) → (place ≡ 0) ⊎ (len / 48 ≤ steps)
    → ToldWalks h o key room first places before now place steps → IfSome o (λ f. IsLinked h f first places → place_of f key places ≡ None)
ends h None key room first places before now place steps len fits over walks = tt
ends h (Some f) key room first places before now place steps len fits over walks = λ linked.
    let w = walks linked in none_from h f key room places before now now place steps len first w.rest fits over linked w.linked w.answer w.count

pub cost_left : (h : StaticHead) (o : Option (List ℕ)) (key : List ℕ) (room first : ℕ) (places : List ℕ) (before now place steps : ℕ) → ToldWalks h o key room first places before now place steps
    → IfSome o (λ f. IsLinked h f first places → now ≤ before + read_of_chain f key room places)
cost_left h None key room first places before now place steps walks = tt
cost_left h (Some f) key room first places before now place steps walks = λ linked. let w = walks linked in omega (arith, w.cost)
