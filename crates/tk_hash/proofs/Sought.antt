-- What the first block of a key in a chain says of the records, and what was read to find it.
use Rattle.std.proofs.Common.{◌≡◌, ℕ, ◌+◌, ◌-◌, ◌≤◌, List, [], ◌∷◌, length, take, refl, sym, ◌∙◌, ap, subst, arith}
use Rattle.std.specs.Prelude.{Bool, true, false, min, max, Option, Some, None, if◌then◌else◌, ◌==◌, ◌&&◌}
use Rattle.std.proofs.lemmas.Bool.{eq-eqb}
use Rattle.tk_model.specs.Orders.{same_bytes}
use Rattle.tk_model.proofs.KeyOrders.{same_itself}
use Rattle.tk_block.specs.Blocks.{extent_of, room_of}
use Rattle.tk_block.specs.Layout.{Placed}
use Rattle.tk_block.specs.declared.block.Body.{Body}
use Rattle.tk_block.specs.declared.head.StaticHead.{StaticHead}
use Rattle.tk_buckets.specs.Chain.{places_in}
use Rattle.tk_buckets.specs.Lookup.{StandsAt, AllStand, body_in_block, has_key, place_of, may_have, read_of_block, read_of_chain}
use Rattle.tk_hash.specs.Chain.{value_in, value_by, extents}

one_body : (a b : Body) → Some a ≡ Some b → a ≡ b
one_body a b e = cc

one_place : (a b : ℕ) → Some a ≡ Some b → a ≡ b
one_place a b e = cc

read_by : (t : Bool) (b : Body) (room : ℕ) → (if t then max 48 (min (room_of b - 4) room) else 48) ≤ extent_of b
read_by true b room = omega arith
read_by false b room = omega arith

here_sum : (read e s r : ℕ) → read ≡ r + 0 → read + e ≤ e + s + r
here_sum read e s r is = omega (arith, is)

more_sum : (read first rest e s extent r : ℕ) → read ≡ first + rest → first ≤ e → rest + extent ≤ s + r → read + extent ≤ e + s + r
more_sum read first rest e s extent r is small deeper = omega (arith, is, small, deeper)

all_sum : (read first rest e s : ℕ) → read ≡ first + rest → first ≤ e → rest ≤ s → read ≤ e + s
all_sum read first rest e s is small deeper = omega (arith, is, small, deeper)

module _ (h : StaticHead) (f key : List ℕ) (room : ℕ) where
  -- no block has the key
  none_by : (t : Bool) (x : Placed) (xs : List Placed) → same_bytes key x.body.key ≡ t → StandsAt h f x → (place_of f key (places_in xs) ≡ None → value_by key xs ≡ None)
      → place_of f key (x.place ∷ places_in xs) ≡ None → value_by key (x ∷ xs) ≡ None
  none_by true x xs is here deeper none =
      let has : has_key key (body_in_block f x.place) ≡ true = ap (has_key key) here.says ∙ is in
      let found : place_of f key (x.place ∷ places_in xs) ≡ Some x.place = ap (λ (b : Bool). if b then Some x.place else place_of f key (places_in xs)) has in
      absurd (cc (found, none))
  none_by false x xs is here deeper none =
      let has : has_key key (body_in_block f x.place) ≡ false = ap (has_key key) here.says ∙ is in
      let further : place_of f key (x.place ∷ places_in xs) ≡ place_of f key (places_in xs) = ap (λ (b : Bool). if b then Some x.place else place_of f key (places_in xs)) has in
      ap (λ (b : Bool). if b then value_in x.body else value_by key xs) is ∙ deeper (sym further ∙ none)

  pub value_none : (xs : List Placed) → AllStand h f xs → place_of f key (places_in xs) ≡ None → value_by key xs ≡ None
  value_none [] all none = refl
  value_none (x ∷ xs) all none = none_by (same_bytes key x.body.key) x xs refl all.0 (value_none xs all.1) none

  -- the first that has it
  pub record Decides (xs : List Placed) (b : Body) : Type 0 where
    pub value : value_by key xs ≡ value_in b
    pub left : read_of_chain f key room (places_in xs) + extent_of b ≤ extents xs + read_of_block key room (Some b)

  read_first : (t : Bool) (x : Placed) (xs : List Placed) → same_bytes key x.body.key ≡ t → StandsAt h f x
      → read_of_chain f key room (places_in (x ∷ xs)) ≡ read_of_block key room (Some x.body) + (if t then 0 else read_of_chain f key room (places_in xs))
  read_first t x xs is here =
      ap (λ (o : Option Body). read_of_block key room o + (if has_key key o then 0 else read_of_chain f key room (places_in xs))) here.says
      ∙ ap (λ (s : Bool). read_of_block key room (Some x.body) + (if s then 0 else read_of_chain f key room (places_in xs))) is

  first_by : (t : Bool) (x : Placed) (xs : List Placed) (q : ℕ) (b : Body) → same_bytes key x.body.key ≡ t → StandsAt h f x → body_in_block f q ≡ Some b
      → (place_of f key (places_in xs) ≡ Some q → Decides xs b) → place_of f key (x.place ∷ places_in xs) ≡ Some q → Decides (x ∷ xs) b
  first_by true x xs q b is here says deeper found =
      let has : has_key key (body_in_block f x.place) ≡ true = ap (has_key key) here.says ∙ is in
      let first : place_of f key (x.place ∷ places_in xs) ≡ Some x.place = ap (λ (b : Bool). if b then Some x.place else place_of f key (places_in xs)) has in
      let at : x.place ≡ q = one_place x.place q (sym first ∙ found) in
      let same : x.body ≡ b = one_body x.body b (sym here.says ∙ ap (body_in_block f) at ∙ says) in
      let value : value_by key (x ∷ xs) ≡ value_in x.body = ap (λ (b : Bool). if b then value_in x.body else value_by key xs) is in
      let left : read_of_chain f key room (places_in (x ∷ xs)) + extent_of x.body ≤ extents (x ∷ xs) + read_of_block key room (Some x.body) =
      here_sum (read_of_chain f key room (places_in (x ∷ xs))) (extent_of x.body) (extents xs) (read_of_block key room (Some x.body)) (read_first true x xs is here) in
      let decides : Decides (x ∷ xs) x.body = record { value = value; left = left } in
      subst (λ (y : Body). Decides (x ∷ xs) y) same decides
  first_by false x xs q b is here says deeper found =
      let has : has_key key (body_in_block f x.place) ≡ false = ap (has_key key) here.says ∙ is in
      let further : place_of f key (x.place ∷ places_in xs) ≡ place_of f key (places_in xs) = ap (λ (b : Bool). if b then Some x.place else place_of f key (places_in xs)) has in
      let d = deeper (sym further ∙ found) in
      record {
        value = ap (λ (b : Bool). if b then value_in x.body else value_by key xs) is ∙ d.value;
        left =
            more_sum (read_of_chain f key room (places_in (x ∷ xs))) (read_of_block key room (Some x.body)) (read_of_chain f key room (places_in xs)) (extent_of x.body) (extents xs) (extent_of b) (read_of_block key room (Some b))
            (read_first false x xs is here) (read_by (may_have key x.body) x.body room) d.left;
      }

  pub value_first : (xs : List Placed) (q : ℕ) (b : Body) → AllStand h f xs → body_in_block f q ≡ Some b → place_of f key (places_in xs) ≡ Some q → Decides xs b
  value_first [] q b all says found = absurd (cc (found))
  value_first (x ∷ xs) q b all says found = first_by (same_bytes key x.body.key) x xs q b refl all.0 says (value_first xs q b all.1 says) found

  -- a look-up reads no more than the blocks take
  cost_by : (t : Bool) (x : Placed) (xs : List Placed) → same_bytes key x.body.key ≡ t → StandsAt h f x → read_of_chain f key room (places_in xs) ≤ extents xs → read_of_chain f key room (places_in (x ∷ xs)) ≤ extents (x ∷ xs)
  cost_by true x xs is here deeper =
      all_sum (read_of_chain f key room (places_in (x ∷ xs))) (read_of_block key room (Some x.body)) 0 (extent_of x.body) (extents xs) (read_first true x xs is here) (read_by (may_have key x.body) x.body room) (omega arith)
  cost_by false x xs is here deeper =
      all_sum (read_of_chain f key room (places_in (x ∷ xs))) (read_of_block key room (Some x.body)) (read_of_chain f key room (places_in xs)) (extent_of x.body) (extents xs) (read_first false x xs is here) (read_by (may_have key x.body) x.body room) deeper

  pub cost_all : (xs : List Placed) → AllStand h f xs → read_of_chain f key room (places_in xs) ≤ extents xs
  cost_all [] all = omega arith
  cost_all (x ∷ xs) all = cost_by (same_bytes key x.body.key) x xs refl all.0 (cost_all xs all.1)

may_have_own : (key : List ℕ) (b : Body) → b.key ≡ key → may_have key b ≡ true
may_have_own key b is =
    let n = min (length key) 8 in
    ap (λ (t : Bool). t && same_bytes (take n key) (take n b.key)) (eq-eqb _ _ (ap length is)) ∙ ap (λ (l : List ℕ). same_bytes (take n key) (take n l)) is ∙ same_itself (take n key)

-- what the buffer has of the value was read
pub read_own : (key : List ℕ) (room : ℕ) (b : Body) → b.key ≡ key → read_of_block key room (Some b) ≡ max 48 (min (room_of b - 4) room)
read_own key room b is = ap (λ (t : Bool). if t then max 48 (min (room_of b - 4) room) else 48) (may_have_own key b is)
