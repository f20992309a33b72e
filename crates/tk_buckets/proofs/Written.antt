-- Blocks that were written one behind another, each with its link, are chains.
use Rattle.std.proofs.Common.{◌≡◌, inr, ℕ, ◌+◌, ◌<◌, ◌≤◌, ◌^◌, Bool, true, false, cond, eqb, List, [], ◌∷◌, ◌++◌, length, take, drop, refl, sym, ◌∙◌, ap, subst, arith, append_assoc, length-append}
use Rattle.std.specs.Prelude.{◌&&◌, ◌||◌, Option, Some, None, IfSome}
use Rattle.std.specs.Int.{w64, from_be_bytes}
use Rattle.std.proofs.lemmas.Bool.{eqb-true}
use Rattle.std.proofs.lemmas.Option.{cond_some}
use Rattle.std.proofs.lemmas.List.{append-nil, drop_at, drop-drop, length-drop}
use Rattle.tk_block.specs.Number.{u64_in}
use Rattle.tk_block.specs.Text.{head_at, base_of}
use Rattle.tk_block.specs.Blocks.{body_at, block_text, extent_of, room_of}
use Rattle.tk_block.specs.Grammar.{FitsBody}
use Rattle.tk_block.specs.Layout.{placed, Placed, bucket_in, is_in, laid, newest, link_of, links_of, texts}
use Rattle.tk_block.specs.declared.block.Body.{Body}
use Rattle.tk_block.specs.declared.head.StaticHead.{StaticHead}
use Rattle.tk_block.proofs.BlockReads.{block_head, block_link, block_body}
use Rattle.tk_block.proofs.Layouts.{newest-append}
use Rattle.tk_block.proofs.Lengths.{length-block_text, room_fits}
use Rattle.tk_buckets.specs.Chain.{IsWhole, IsApart, IsLinked, IsChain, IsWritten, AllFitBody, head_cell, block_step, bucket_blocks, places_in, extent_in, link_in}
use Rattle.tk_buckets.specs.Lookup.{StandsAt, AllStand, body_in_block}

head_says : (bytes : List ℕ) (place e : ℕ) → head_at bytes place ≡ Some e → u64_in bytes 4 ≡ e
unfolding head_at
head_says bytes place e found = (cond_some _ _ _ found).1

pub number_behind : (f : List ℕ) (place i : ℕ) → u64_in f (place + i) ≡ u64_in (drop place f) i
unfolding u64_in
number_behind f place i = ap (λ (l : List ℕ). from_be_bytes w64 (take 8 l)) (sym (drop-drop i place f))

module _ (h : StaticHead) (f : List ℕ) (place : ℕ) (b : Body) (link : ℕ) (rest : List ℕ) (fits : FitsBody b) (is : drop place f ≡ block_text b place link ++ rest) where
  pub written_extent : extent_in f place ≡ extent_of b
  written_extent =
      number_behind f place 4 ∙ head_says (drop place f) place (extent_of b) (ap (λ (l : List ℕ). head_at l place) is ∙ block_head b place link rest fits)

  pub written_link : link < 2 ^ 64 → link_in f place ≡ link
  written_link small = number_behind f place 16 ∙ ap (λ (l : List ℕ). u64_in l 16) is ∙ block_link b place link rest small

  written_says : body_in_block f place ≡ Some b
  written_says = ap (λ (l : List ℕ). body_at l place) (sym (drop-drop 24 place f) ∙ ap (λ (l : List ℕ). drop 24 l) is) ∙ block_body b place link rest fits

  -- a block that was written stands whole
  pub written_whole : base_of h.p ≤ place → IsWhole h f place
  written_whole behind = record {
    body = b;
    behind = behind;
    head = ap (λ (l : List ℕ). head_at l place) is ∙ block_head b place link rest fits ∙ ap (λ (n : ℕ). Some n) (sym written_extent);
    says = written_says;
    room = omega (arith, room_fits (room_of b), written_extent);
    within = omega (arith, written_extent, ap length is, length-drop place f, length-append (block_text b place link) rest, length-block_text b place link);
  }

  pub written_stands : base_of h.p ≤ place → StandsAt h f (placed place b)
  written_stands behind = record { whole = written_whole behind; extent = written_extent; says = written_says }

stand_by_kind : (h : StaticHead) (f : List ℕ) (clear ours : Bool) (x : Placed) (found : List Placed) → StandsAt h f x → AllStand h f found → AllStand h f (cond clear [] (cond ours (x ∷ found) found))
stand_by_kind h f true ours x found here all = tt
stand_by_kind h f false true x found here all = (here, all)
stand_by_kind h f false false x found here all = all

-- the blocks of a bucket stand where they were written
stand_written : (h : StaticHead) (f : List ℕ) (bucket : ℕ) (before : List Placed) (bodies : List Body) (at : ℕ) (found : List Placed) → base_of h.p ≤ at → AllFitBody bodies
    → drop at f ≡ texts (laid at bodies) (links_of h.p before (laid at bodies)) → AllStand h f found → AllStand h f (bucket_blocks h.p bucket found (laid at bodies))
stand_written h f bucket before [] at found behind fit is all = all
stand_written h f bucket before (b ∷ bs) at found behind fit is all =
    let x : Placed = placed at b in
    let e = extent_of b in
    let link = link_of h.p before b in
    let rest = texts (laid (at + e) bs) (links_of h.p (before ++ x ∷ []) (laid (at + e) bs)) in
    stand_written h f bucket (before ++ x ∷ []) bs (at + e) (block_step h.p bucket found x) (omega (arith, behind)) fit.1
    (sym (drop-drop e at f) ∙ ap (λ (l : List ℕ). drop e l) is ∙ drop_at (block_text b at link) rest e (length-block_text b at link))
    (stand_by_kind h f (eqb b.kind 4) (is_in h.p bucket b) x found (written_stands h f at b link rest fit.0 is behind) all)

pub bucket_stands : (h : StaticHead) (f : List ℕ) (bucket : ℕ) (bodies : List Body) → IsWritten h f bucket bodies → AllStand h f (bucket_blocks h.p bucket [] (laid (base_of h.p) bodies))
bucket_stands h f bucket bodies w = stand_written h f bucket [] bodies (base_of h.p) [] (omega arith) w.fit w.blocks tt

-- each of these blocks ends before a place
abbrev pub AllBefore : List ℕ → (at : ℕ) → List ℕ → Type 0
AllBefore f at [] = Unit {0}
AllBefore f at (q ∷ qs) = (q + extent_in f q ≤ at) × AllBefore f at qs

all_apart : (f : List ℕ) (at : ℕ) (qs : List ℕ) → AllBefore f at qs → IsApart f at qs
all_apart f at [] before = tt
all_apart f at (q ∷ qs) before = (inr before.0, all_apart f at qs before.1)

all_later : (f : List ℕ) (at next : ℕ) (qs : List ℕ) → at ≤ next → AllBefore f at qs → AllBefore f next qs
all_later f at next [] le before = tt
all_later f at next (q ∷ qs) le before = (omega (arith, before.0, le), all_later f at next qs le before.1)

first_small : (h : StaticHead) (f : List ℕ) (first at : ℕ) (qs : List ℕ) → IsLinked h f first qs → AllBefore f at qs → first ≤ at
first_small h f first at [] linked before = omega (arith, linked)
first_small h f first at (q ∷ qs) linked before = omega (arith, linked.0, before.0)

and_right : (a b : Bool) → (a && b) ≡ true → b ≡ true
and_right true b is = is
and_right false b is = absurd (cc (is))

in_bucket : (p bucket : ℕ) (b : Body) → is_in p bucket b ≡ true → bucket_in p b.key ≡ bucket
in_bucket p bucket b is = eqb-true _ _ (and_right ((eqb b.kind 1) || (eqb b.kind 2)) (eqb (bucket_in p b.key) bucket) is)

-- one block more
by_kind : (h : StaticHead) (f : List ℕ) (clear ours : Bool) (n : ℕ) (x : Placed) (found : List Placed) → IsLinked h f n (places_in found) → (clear ≡ false → ours ≡ true → IsLinked h f x.place (x.place ∷ places_in found))
    → IsLinked h f (cond clear 0 (cond ours x.place n)) (places_in (cond clear [] (cond ours (x ∷ found) found)))
by_kind h f true ours n x found linked more = refl
by_kind h f false true n x found linked more = more refl refl
by_kind h f false false n x found linked more = linked

before_by_kind : (f : List ℕ) (clear ours : Bool) (x : Placed) (next : ℕ) (found : List Placed) → AllBefore f next (x.place ∷ places_in found) → AllBefore f next (places_in (cond clear [] (cond ours (x ∷ found) found)))
before_by_kind f true ours x next found before = tt
before_by_kind f false true x next found before = before
before_by_kind f false false x next found before = before.1

-- the blocks of a bucket, where all were written with their links
pub chain_written : (h : StaticHead) (f : List ℕ) (bucket : ℕ) (before : List Placed) (bodies : List Body) (at : ℕ) (found : List Placed) → length f < 2 ^ 64 → base_of h.p ≤ at → AllFitBody bodies
    → drop at f ≡ texts (laid at bodies) (links_of h.p before (laid at bodies)) → IsLinked h f (newest h.p bucket 0 before) (places_in found) → AllBefore f at (places_in found)
    → IsLinked h f (newest h.p bucket 0 (before ++ laid at bodies)) (places_in (bucket_blocks h.p bucket found (laid at bodies)))
chain_written h f bucket before [] at found size behind fit is linked ended =
    subst (λ (l : List Placed). IsLinked h f (newest h.p bucket 0 l) (places_in found)) (sym (append-nil before)) linked
chain_written h f bucket before (b ∷ bs) at found size behind fit is linked ended =
    let p = h.p in
    let x : Placed = placed at b in
    let e = extent_of b in
    let link = link_of p before b in
    let n = newest p bucket 0 before in
    let rest = texts (laid (at + e) bs) (links_of p (before ++ x ∷ []) (laid (at + e) bs)) in
    let whole = written_whole h f at b link rest fit.0 is behind in
    let extent : extent_in f at ≡ e = written_extent h f at b link rest fit.0 is in
    let end : AllBefore f (at + e) (at ∷ places_in found) = (omega (arith, extent), all_later f at (at + e) (places_in found) (omega arith) ended) in
    let small : n < 2 ^ 64 = omega (arith, first_small h f n at (places_in found) linked ended, whole.within, size) in
    let more : eqb b.kind 4 ≡ false → is_in p bucket b ≡ true → IsLinked h f at (at ∷ places_in found) = λ kept ours.
    let same : link ≡ n = ap (λ (c : Bool). cond c 0 (newest p (bucket_in p b.key) 0 before)) kept ∙ ap (λ (k : ℕ). newest p k 0 before) (in_bucket p bucket b ours) in
    (refl, whole, all_apart f at (places_in found) ended, subst (λ (k : ℕ). IsLinked h f k (places_in found)) (sym (written_link h f at b link rest fit.0 is (omega (arith, same, small)) ∙ same)) linked) in
    let step : IsLinked h f (newest p bucket 0 (before ++ x ∷ [])) (places_in (block_step p bucket found x)) =
    subst (λ (k : ℕ). IsLinked h f k (places_in (block_step p bucket found x))) (sym (newest-append p bucket 0 before (x ∷ []))) (by_kind h f (eqb b.kind 4) (is_in p bucket b) n x found linked more) in
    subst (λ (l : List Placed). IsLinked h f (newest p bucket 0 l) (places_in (bucket_blocks p bucket (block_step p bucket found x) (laid (at + e) bs)))) (append_assoc before (x ∷ []) (laid (at + e) bs))
    (chain_written h f bucket (before ++ x ∷ []) bs (at + e) (block_step p bucket found x) size (omega (arith, behind)) fit.1
    (sym (drop-drop e at f) ∙ ap (λ (l : List ℕ). drop e l) is ∙ drop_at (block_text b at link) rest e (length-block_text b at link))
    step (before_by_kind f (eqb b.kind 4) (is_in p bucket b) x (at + e) found end))

-- a bucket of a file whose blocks were written so
pub bucket_written : (h : StaticHead) (f : List ℕ) (bucket : ℕ) (bodies : List Body) → IsWritten h f bucket bodies → IsChain h f bucket (places_in (bucket_blocks h.p bucket [] (laid (base_of h.p) bodies)))
bucket_written h f bucket bodies w = record {
  heads = w.heads;
  linked =
      subst (λ (n : ℕ). IsLinked h f n (places_in (bucket_blocks h.p bucket [] (laid (base_of h.p) bodies)))) (sym w.head)
      (chain_written h f bucket [] bodies (base_of h.p) [] w.size (omega arith) w.fit w.blocks refl tt);
}

-- from its head on
pub told_written : (h : StaticHead) (o : Option (List ℕ)) (bucket first : ℕ) (bodies : List Body) (R : Type 0) → IfSome o (λ f. IsLinked h f first (places_in (bucket_blocks h.p bucket [] (laid (base_of h.p) bodies))) → R)
    → IfSome o (λ f. IsWritten h f bucket bodies → first ≡ u64_in f (head_cell bucket) → R)
told_written h None bucket first bodies R known = tt
told_written h (Some f) bucket first bodies R known = λ w is.
    known (subst (λ (n : ℕ). IsLinked h f n (places_in (bucket_blocks h.p bucket [] (laid (base_of h.p) bodies)))) (sym is) (bucket_written h f bucket bodies w).linked)
