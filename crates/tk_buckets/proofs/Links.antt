-- Chains that stay after a write beside their blocks, in one of their links, or inside a block that stands whole after it.
use Rattle.std.proofs.Common.{◌≡◌, ◌≢◌, ◌⊎◌, inl, inr, ℕ, ◌+◌, ◌<◌, ◌≤◌, ◌^◌, List, [], ◌∷◌, ◌++◌, length, take, drop, true, sym, ◌∙◌, ap, subst, arith, take-append-drop}
use Rattle.std.specs.Prelude.{Option, Some, None, IfSome, Result, OnOk}
use Rattle.std.specs.Option.{option_map}
use Rattle.std.specs.Int.{w64, to_be_bytes}
use Rattle.std.proofs.lemmas.Bool.{cases_order}
use Rattle.std.proofs.lemmas.Bool.Decides.{nat_tests}
use Rattle.std.proofs.lemmas.Result.{on_ok_weaker}
use Rattle.tk_disk.specs.Crash.{Torn}
use Rattle.tk_disk.specs.Disk.{put_at}
use Rattle.tk_block.specs.Number.{u64_in}
use Rattle.tk_block.specs.Text.{is_extent, base_of}
use Rattle.tk_block.specs.Blocks.{body_at, body_text, room_of}
use Rattle.tk_block.specs.declared.block.Body.{Body}
use Rattle.tk_block.specs.declared.head.StaticHead.{StaticHead}
use Rattle.tk_block.proofs.Heads.{head_found, head_again}
use Rattle.tk_block.proofs.BodyGrammar.{bodies, length-body_text}
use Rattle.tk_buckets.specs.Chain.{IsWhole, IsBeside, AllBeside, IsApart, IsLinked, IsChain, IsNext, extent_in, link_in, head_cell}
use Rattle.tk_buckets.proofs.Writes.{Reaches, part_kept, number_kept, put_torn, length_put, number_put}

extent_fits : (e : ℕ) → is_extent e ≡ true → (48 ≤ e) × (e < 2 ^ 64)
extent_fits e is = (grind (arith, nat_tests), grind (arith, nat_tests))

-- a whole block's extent
pub whole_long : (h : StaticHead) (f : List ℕ) (q : ℕ) → IsWhole h f q → 48 ≤ extent_in f q
whole_long h f q whole = (extent_fits (extent_in f q) (head_found (drop q f) q (extent_in f q) whole.head).0).0

-- behind the block's link, and a body fits there after the write
pub record IsInside (f g : List ℕ) (at q : ℕ) : Type 0 where
  pub body : Body
  pub behind : q + 24 ≤ at
  pub says : body_at (drop (q + 24) g) q ≡ Some body
  pub room : room_of body ≤ extent_in f q

-- in the block's link
pub record IsLinkOf (at n q : ℕ) : Type 0 where
  pub from : q + 16 ≤ at
  pub to : at + n ≤ q + 24

-- a write of n bytes spares the block and its link
abbrev pub Keeps : (f g : List ℕ) (at n q : ℕ) → Type 0
Keeps f g at n q = IsBeside f at n q ⊎ IsInside f g at q

abbrev pub AllKept : (f g : List ℕ) (at n : ℕ) → List ℕ → Type 0
AllKept f g at n [] = Unit {0}
AllKept f g at n (q ∷ qs) = Keeps f g at n q × AllKept f g at n qs

-- it spares the block, but for its link
abbrev pub Spares : (f g : List ℕ) (at n q : ℕ) → Type 0
Spares f g at n q = Keeps f g at n q ⊎ IsLinkOf at n q

abbrev pub AllSpared : (f g : List ℕ) (at n : ℕ) → List ℕ → Type 0
AllSpared f g at n [] = Unit {0}
AllSpared f g at n (q ∷ qs) = Spares f g at n q × AllSpared f g at n qs

pub all_kept : (f g : List ℕ) (at n : ℕ) (qs : List ℕ) → AllBeside f at n qs → AllKept f g at n qs
all_kept f g at n [] beside = tt
all_kept f g at n (q ∷ qs) beside = (inl beside.0, all_kept f g at n qs beside.1)

pub all_spared : (f g : List ℕ) (at n : ℕ) (qs : List ℕ) → AllKept f g at n qs → AllSpared f g at n qs
all_spared f g at n [] kept = tt
all_spared f g at n (q ∷ qs) kept = (inl kept.0, all_spared f g at n qs kept.1)

-- bytes before the records
pub front_is_beside : (h : StaticHead) (f : List ℕ) (at n first : ℕ) (qs : List ℕ) → at + n ≤ base_of h.p → IsLinked h f first qs → AllBeside f at n qs
front_is_beside h f at n first [] front linked = tt
front_is_beside h f at n first (q ∷ qs) front linked = (inl (omega (arith, front, linked.1.behind)), front_is_beside h f at n (link_in f q) qs front linked.3)

module _ (h : StaticHead) (at n : ℕ) (f g : List ℕ) (torn : Torn at n f g) where
  head_beside : (q : ℕ) → 48 ≤ extent_in f q → Spares f g at n q → (q + 16 ≤ at) ⊎ (at + n ≤ q)
  head_beside q long (inl (inl (inl before))) = inr before
  head_beside q long (inl (inl (inr past))) = inl (omega (arith, past, long))
  head_beside q long (inl (inr inside)) = inl (omega (arith, inside.behind))
  head_beside q long (inr link) = inl (omega (arith, link.from))

  extent_beside : (q : ℕ) → (q + 16 ≤ at) ⊎ (at + n ≤ q) → (q + 4 + 8 ≤ at) ⊎ (at + n ≤ q + 4)
  extent_beside q (inl before) = inl (omega (arith, before))
  extent_beside q (inr past) = inr (omega (arith, past))

  link_beside : (q : ℕ) → 48 ≤ extent_in f q → Keeps f g at n q → (q + 16 + 8 ≤ at) ⊎ (at + n ≤ q + 16)
  link_beside q long (inl (inl before)) = inr (omega (arith, before))
  link_beside q long (inl (inr past)) = inl (omega (arith, past, long))
  link_beside q long (inr inside) = inl (omega (arith, inside.behind))

  extent_with : (q : ℕ) → IsWhole h f q → (q + 16 ≤ at) ⊎ (at + n ≤ q) → extent_in g q ≡ extent_in f q
  extent_with q whole beside = number_kept at n f g torn (q + 4) (inl (omega (arith, whole_long h f q whole, whole.within))) (extent_beside q beside)

  pub extent_kept : (q : ℕ) → IsWhole h f q → Spares f g at n q → extent_in g q ≡ extent_in f q
  extent_kept q whole spares = extent_with q whole (head_beside q (whole_long h f q whole) spares)

  pub link_kept : (q : ℕ) → IsWhole h f q → Keeps f g at n q → link_in g q ≡ link_in f q
  link_kept q whole keeps =
      let long = whole_long h f q whole in
      number_kept at n f g torn (q + 16) (inl (omega (arith, long, whole.within))) (link_beside q long keeps)

  -- the body beside the write is as it was
  body_kept : (q : ℕ) → (whole : IsWhole h f q) → (q + 24 + length (body_text whole.body q) ≤ at) ⊎ (at + n ≤ q + 24) → body_at (drop (q + 24) g) q ≡ Some whole.body
  body_kept q whole beside =
      let text = body_text whole.body q in
      let says = (bodies q).found (drop (q + 24) f) whole.body whole.says in
      let k = length text in
      let spelled : take k (drop (q + 24) g) ≡ text =
      part_kept at n f g torn (q + 24) k (inl (omega (arith, length-body_text whole.body q, whole.room, whole.within))) beside ∙ says.1 in
      ap (λ (l : List ℕ). body_at l q) (sym (take-append-drop k (drop (q + 24) g)) ∙ ap (λ (l : List ℕ). l ++ drop k (drop (q + 24) g)) spelled)
      ∙ (bodies q).again whole.body (drop k (drop (q + 24) g)) says.0

  -- the head is as it was, and a body fits behind it
  pub whole_with : (q : ℕ) (b : Body) → IsWhole h f q → (q + 16 ≤ at) ⊎ (at + n ≤ q) → body_at (drop (q + 24) g) q ≡ Some b → room_of b ≤ extent_in f q → IsWhole h g q
  whole_with q b whole beside says room =
      let e = extent_in f q in
      let same : extent_in g q ≡ e = extent_with q whole beside in
      let found = head_found (drop q f) q e whole.head in
      record {
        body = b;
        behind = whole.behind;
        head =
            head_again (drop q g) q e found.0 (extent_fits e found.0).1 (part_kept at n f g torn q 16 (inl (omega (arith, whole_long h f q whole, whole.within))) beside ∙ found.1)
            ∙ ap (λ (n : ℕ). Some n) (sym same);
        says = says;
        room = subst (λ (n : ℕ). room_of b ≤ n) (sym same) room;
        within = omega (arith, whole.within, same, torn.no_shorter);
      }

  body_after : (q : ℕ) → (whole : IsWhole h f q) → Spares f g at n q → (b : Body) × (body_at (drop (q + 24) g) q ≡ Some b) × (room_of b ≤ extent_in f q)
  body_after q whole (inl (inl (inl before))) = (whole.body, body_kept q whole (inr (omega (arith, before))), whole.room)
  body_after q whole (inl (inl (inr past))) = (whole.body, body_kept q whole (inl (omega (arith, past, whole.room, length-body_text whole.body q))), whole.room)
  body_after q whole (inl (inr inside)) = (inside.body, inside.says, inside.room)
  body_after q whole (inr link) = (whole.body, body_kept q whole (inr link.to), whole.room)

  -- the block still stands whole
  pub whole_kept : (q : ℕ) → IsWhole h f q → Spares f g at n q → IsWhole h g q
  whole_kept q whole spares = let b = body_after q whole spares in whole_with q b.0 whole (head_beside q (whole_long h f q whole) spares) b.1 b.2

  apart_step : (q r e x e' x' : ℕ) → e' ≡ e → x' ≡ x → (q + e ≤ r) ⊎ (r + x ≤ q) → (q + e' ≤ r) ⊎ (r + x' ≤ q)
  apart_step q r e x e' x' same other (inl before) = inl (omega (arith, before, same))
  apart_step q r e x e' x' same other (inr past) = inr (omega (arith, past, other))

  pub apart_kept : (q first : ℕ) (qs : List ℕ) → extent_in g q ≡ extent_in f q → IsLinked h f first qs → AllSpared f g at n qs → IsApart f q qs → IsApart g q qs
  apart_kept q first [] same linked spares apart = tt
  apart_kept q first (r ∷ rs) same linked spares apart =
      (apart_step q r _ _ _ _ same (extent_kept r linked.1 spares.0) apart.0, apart_kept q (link_in f r) rs same linked.3 spares.1 apart.1)

  -- the blocks stay linked
  pub linked_kept : (first : ℕ) (qs : List ℕ) → IsLinked h f first qs → AllKept f g at n qs → IsLinked h g first qs
  linked_kept first [] linked kept = linked
  linked_kept first (q ∷ qs) linked kept = (
    linked.0,
    whole_kept q linked.1 (inl kept.0),
    apart_kept q (link_in f q) qs (extent_kept q linked.1 (inl kept.0)) linked.3 (all_spared f g at n qs kept.1) linked.2,
    subst (λ (k : ℕ). IsLinked h g k qs) (sym (link_kept q linked.1 kept.0)) (linked_kept (link_in f q) qs linked.3 kept.1),
  )

  -- the chain stays, where its head is beside the write
  pub chain_kept : (bucket : ℕ) (places : List ℕ) → Reaches at n f g torn (head_cell bucket + 8) → (head_cell bucket + 8 ≤ at) ⊎ (at + n ≤ head_cell bucket) → IsChain h f bucket places → AllKept f g at n places → IsChain h g bucket places
  chain_kept bucket places reach beside chain kept =
      let cell = head_cell bucket in
      let same : u64_in g cell ≡ u64_in f cell = number_kept at n f g torn cell reach beside in
      record {
        heads = omega (arith, chain.heads, torn.no_shorter);
        linked = subst (λ (k : ℕ). IsLinked h g k places) (sym same) (linked_kept (u64_in f cell) places chain.linked kept);
      }

-- a head's cell is before the records
pub head_before : (h : StaticHead) (bucket : ℕ) → bucket < 2 ^ h.p → head_cell bucket + 8 ≤ base_of h.p
head_before h bucket below = omega (arith, below)

-- a block more in front
pub inserted : (h : StaticHead) (f : List ℕ) (bucket place : ℕ) (places : List ℕ) → bucket < 2 ^ h.p → place < 2 ^ 64 → IsNext h f bucket place places
    → IsChain h (put_at (head_cell bucket) (to_be_bytes w64 place) f) bucket (place ∷ places)
inserted h f bucket place places below small next =
    let cell = head_cell bucket in
    let g = put_at cell (to_be_bytes w64 place) f in
    let front = head_before h bucket below in
    let fits : cell ≤ length f = omega (arith, front, next.chain.heads) in
    let torn : Torn cell 8 f g = put_torn cell (to_be_bytes w64 place) f fits in
    let linked = next.chain.linked in
    let kept = all_kept f g cell 8 places (front_is_beside h f cell 8 (u64_in f cell) places front linked) in
    let before : cell + 8 ≤ place = omega (arith, front, next.whole.behind) in
    let own : Keeps f g cell 8 place = inl (inl before) in
    let link : link_in g place ≡ u64_in f cell = link_kept h cell 8 f g torn place next.whole own ∙ next.link in
    record {
      heads = omega (arith, next.chain.heads, torn.no_shorter);
      linked = (
        number_put cell place f fits small,
        whole_kept h cell 8 f g torn place next.whole (inl own),
        apart_kept h cell 8 f g torn place (u64_in f cell) places (extent_kept h cell 8 f g torn place next.whole (inl own)) linked (all_spared f g cell 8 places kept) next.apart,
        subst (λ (k : ℕ). IsLinked h g k places) (sym link) (linked_kept h cell 8 f g torn (u64_in f cell) places linked kept),
      );
    }

pub heads_apart : (bucket other : ℕ) → other ≢ bucket → (head_cell other + 8 ≤ head_cell bucket) ⊎ (head_cell bucket + 8 ≤ head_cell other)
heads_apart bucket other ne = elim (cases_order other bucket) [
  | inl e ↦ absurd (ne e)
  | inr (inl lt) ↦ inl (omega (arith, lt))
  | inr (inr gt) ↦ inr (omega (arith, gt))
]

-- another bucket's chain
pub other_stays : (h : StaticHead) (f : List ℕ) (bucket other place : ℕ) (places : List ℕ) → bucket < 2 ^ h.p → other ≢ bucket → IsChain h f other places
    → IsChain h (put_at (head_cell bucket) (to_be_bytes w64 place) f) other places
other_stays h f bucket other place places below ne chain =
    let cell = head_cell bucket in
    let g = put_at cell (to_be_bytes w64 place) f in
    let front = head_before h bucket below in
    let fits : cell + 8 ≤ length f = omega (arith, front, chain.heads) in
    chain_kept h cell 8 f g (put_torn cell (to_be_bytes w64 place) f (omega (arith, fits))) other places (inr (length_put cell (to_be_bytes w64 place) f fits)) (heads_apart bucket other ne) chain
    (all_kept f g cell 8 places (front_is_beside h f cell 8 (u64_in f (head_cell other)) places front chain.linked))

-- what a write makes of a file, where the disk tells it
pub told_put : {T E : Type 0} (r : Result T E) (old new : Option (List ℕ)) (step : List ℕ → List ℕ) (A Q : List ℕ → Type 0) → OnOk r (new ≡ option_map step old) → ((f : List ℕ) → A f → Q (step f))
    → IfSome old (λ f. A f → OnOk r (IfSome new Q))
told_put r None new step A Q written so = tt
told_put r (Some f) new step A Q written so = λ a. on_ok_weaker r (λ is. subst (λ (o : Option (List ℕ)). IfSome o Q) (sym is) (so f a)) written
