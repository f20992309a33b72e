-- What is read of a block that stands in a file.
use Rattle.std.proofs.Common.{◌≡◌, ℕ, ◌+◌, ◌<◌, ◌≤◌, ◌^◌, List, ◌++◌, length, take, drop, refl, sym, ◌∙◌, ap, subst, arith}
use Rattle.std.specs.Prelude.{slice_index, Option, Some, None, IfSome}
use Rattle.std.proofs.lemmas.List.{drop_at, take_at, take_all, drop-drop, length-take}
use Rattle.std.proofs.Math.Seq.{take-add}
use Rattle.tk_model.specs.declared.record.Change.{Change}
use Rattle.tk_block.specs.declared.block.Body.{Body}
use Rattle.tk_block.specs.declared.head.StaticHead.{StaticHead}
use Rattle.tk_block.specs.Number.{u16_in, u32_in}
use Rattle.tk_block.specs.Blocks.{room_of}
use Rattle.tk_block.specs.Layout.{Placed}
use Rattle.tk_buckets.specs.Lookup.{StandsAt}
use Rattle.tk_buckets.proofs.Links.{whole_long}
use Rattle.tk_buckets.proofs.Seen.{front_of, key_part, value_part}
use Rattle.tk_append.specs.Opening.{change_in}

one_body : (a b : Body) → Some a ≡ Some b → a ≡ b
one_body a b e = cc

module _ (h : StaticHead) (f : List ℕ) (x : Placed) (is : StandsAt h f x) where
  -- the body that stands there is the block's
  same : is.whole.body ≡ x.body
  same = one_body is.whole.body x.body (sym is.whole.says ∙ is.says)

  block_within : x.place + room_of x.body ≤ length f
  block_within = omega (arith, ap room_of same, is.whole.room, is.whole.within)

  front_within : x.place + 48 ≤ length f
  front_within = omega (arith, whole_long h f x.place is.whole, is.whole.within)

  -- kind and lengths, as the first bytes say them
  pub record Says (bytes : List ℕ) : Type 0 where
    pub kind : slice_index bytes 24 ≡ x.body.kind
    pub key_is : u16_in bytes 26 ≡ length x.body.key
    pub value_is : u32_in bytes 28 ≡ length x.body.value

  front_says : (bytes : List ℕ) → bytes ≡ take 48 (drop x.place f) → length bytes ≡ 48 → Says bytes
  front_says bytes read long =
      let front = front_of h f x.place is.whole 48 bytes (take_all 48 bytes (omega (arith, long)) ∙ read) (omega arith) in
      record {
        kind = front.kind ∙ ap (λ (b : Body). b.kind) same;
        key_is = front.key ∙ ap (λ (b : Body). length b.key) same;
        value_is = front.value ∙ ap (λ (b : Body). length b.value) same;
      }

  key_is : (key : ℕ) → key ≡ length x.body.key → take key (drop (x.place + 40) f) ≡ x.body.key
  key_is key long =
      ap (λ (l : List ℕ). take key l) (sym (drop-drop 40 x.place f))
      ∙ key_part h f x.place is.whole (40 + key) (drop x.place f) refl key (omega (arith, long, ap (λ (b : Body). length b.key) same)) (omega arith)
      ∙ ap (λ (b : Body). take key b.key) same ∙ take_all key x.body.key (omega (arith, long))

  value_is : (key value : ℕ) → key ≡ length x.body.key → value ≡ length x.body.value → take value (drop key (drop (x.place + 40) f)) ≡ x.body.value
  value_is key value key_long long =
      let own : key ≡ length is.whole.body.key = key_long ∙ sym (ap (λ (b : Body). length b.key) same) in
      ap (λ (l : List ℕ). take value (drop key l)) (sym (drop-drop 40 x.place f)) ∙ ap (λ (l : List ℕ). take value l) (drop-drop key 40 (drop x.place f))
      ∙ ap (λ (k : ℕ). take value (drop (40 + k) (drop x.place f))) own
      ∙ value_part h f x.place is.whole (40 + length is.whole.body.key + value) (drop x.place f) refl value (omega (arith, long, ap (λ (b : Body). length b.value) same)) (omega arith)
      ∙ ap (λ (b : Body). take value b.value) same ∙ take_all value x.body.value (omega (arith, long))

  -- key and value
  text_is : (key value : ℕ) → key ≡ length x.body.key → value ≡ length x.body.value → take (key + value) (drop (x.place + 40) f) ≡ x.body.key ++ x.body.value
  text_is key value key_long long =
      take-add key value (drop (x.place + 40) f) ∙ ap (λ (l : List ℕ). l ++ take value (drop key (drop (x.place + 40) f))) (key_is key key_long)
      ∙ ap (λ (l : List ℕ). x.body.key ++ l) (value_is key value key_long long)

pub told_front : (h : StaticHead) (o : Option (List ℕ)) (x : Placed) (bytes : List ℕ) (place key value : ℕ) → length bytes ≡ 48 → key ≡ u16_in bytes 26 → value ≡ u32_in bytes 28
    → IfSome o (λ f. place + 48 ≤ length f → bytes ≡ take 48 (drop place f))
    → IfSome o (λ f. StandsAt h f x → length f < 2 ^ 64 → place ≡ x.place → (slice_index bytes 24 ≡ x.body.kind) × (key ≡ length x.body.key) × (value ≡ length x.body.value))
told_front h None x bytes place key value long key_is value_is read = tt
told_front h (Some f) x bytes place key value long key_is value_is read = λ is size here.
    let e : bytes ≡ take 48 (drop x.place f) = subst (λ (n : ℕ). bytes ≡ take 48 (drop n f)) here (read (omega (arith, here, front_within h f x is))) in
    let says = front_says h f x is bytes e long in
    (says.kind, key_is ∙ says.key_is, value_is ∙ says.value_is)

module _ (h : StaticHead) (o : Option (List ℕ)) (x : Placed) (place at kind key value : ℕ) (text front back : List ℕ) (change : Change)
    (at_is : place + 40 < 2 ^ 64 → at ≡ place + 40)
    (front_is : front ≡ take key text) (back_is : back ≡ drop key text)
    (says : IfSome o (λ f. StandsAt h f x → length f < 2 ^ 64 → place ≡ x.place → (kind ≡ x.body.kind) × (key ≡ length x.body.key) × (value ≡ length x.body.value)))
    (read : IfSome o (λ f. at + (key + value) ≤ length f → text ≡ take (key + value) (drop at f)))
    (made : kind ≡ x.body.kind → front ≡ x.body.key → back ≡ x.body.value → change ≡ change_in x.body) where
  change_told : (f : List ℕ) → (StandsAt h f x → length f < 2 ^ 64 → place ≡ x.place → (kind ≡ x.body.kind) × (key ≡ length x.body.key) × (value ≡ length x.body.value))
      → (at + (key + value) ≤ length f → text ≡ take (key + value) (drop at f)) → StandsAt h f x → length f < 2 ^ 64 → place ≡ x.place → change ≡ change_in x.body
  change_told f front_says whole is size here =
      let told = front_says is size here in
      let within = block_within h f x is in
      let behind : at ≡ x.place + 40 = at_is (omega (arith, here, within, size)) ∙ ap (λ (n : ℕ). n + 40) here in
      let both : text ≡ x.body.key ++ x.body.value =
      whole (omega (arith, behind, within, told.1, told.2)) ∙ ap (λ (n : ℕ). take (key + value) (drop n f)) behind ∙ text_is h f x is key value told.1 told.2 in
      made told.0 (front_is ∙ ap (λ (l : List ℕ). take key l) both ∙ take_at x.body.key x.body.value key (sym told.1))
      (back_is ∙ ap (λ (l : List ℕ). drop key l) both ∙ drop_at x.body.key x.body.value key (sym told.1))

  told_in : (q : Option (List ℕ)) → IfSome q (λ f. StandsAt h f x → length f < 2 ^ 64 → place ≡ x.place → (kind ≡ x.body.kind) × (key ≡ length x.body.key) × (value ≡ length x.body.value))
      → IfSome q (λ f. at + (key + value) ≤ length f → text ≡ take (key + value) (drop at f)) → IfSome q (λ f. StandsAt h f x → length f < 2 ^ 64 → place ≡ x.place → change ≡ change_in x.body)
  told_in None front_says whole = tt
  told_in (Some f) front_says whole = change_told f front_says whole

  pub told_change : IfSome o (λ f. StandsAt h f x → length f < 2 ^ 64 → place ≡ x.place → change ≡ change_in x.body)
  told_change = told_in o says read
