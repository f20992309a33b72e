-- The records of a bucket are what the blocks of its chain leave.
use Rattle.std.proofs.Common.{◌≡◌, ℕ, ◌+◌, Bool, true, false, cond, List, [], ◌∷◌, refl, sym, ◌∙◌, ap, subst}
use Rattle.std.specs.Prelude.{◌==◌}
use Rattle.std.specs.declared.cmp.Ordering.{Ordering}
use Rattle.std.specs.declared.cmp.Ordering.TheVariants.{Less, Equal, Greater}
use Rattle.tk_model.specs.Orders.{same_bytes, key_cmp}
use Rattle.tk_model.specs.Records.{put, put_by, without, after, after_one, replay, AllBehind, Rising}
use Rattle.tk_model.specs.declared.record.Order.TheVariants.{Hash}
use Rattle.tk_model.specs.declared.record.Pair.{Pair}
use Rattle.tk_model.specs.declared.record.Group.{Group}
use Rattle.tk_model.specs.declared.record.Change.{Change}
use Rattle.tk_model.specs.declared.record.Change.TheVariants.{Put, Drop, Clear}
use Rattle.tk_model.proofs.KeyOrders.{same_told, keys_apart}
use Rattle.tk_model.proofs.RecordLaws.{behind_earlier, one_rising, after_rising}
use Rattle.tk_block.specs.declared.head.StaticHead.{StaticHead}
use Rattle.tk_block.specs.Text.{base_of}
use Rattle.tk_block.specs.Blocks.{body_of, extent_of, group_bodies, is_nil}
use Rattle.tk_block.specs.Layout.{placed, Placed, bucket_in, laid, end_of, bodies_of}
use Rattle.tk_block.proofs.Layouts.{laid-append}
use Rattle.tk_append.specs.Opening.{change_in}
use Rattle.tk_buckets.specs.Chain.{block_step, bucket_blocks}
use Rattle.tk_hash.specs.Chain.{chain_of, in_bucket}
use Rattle.tk_hash.specs.Shelf.{left_by}
use Rattle.tk_hash.proofs.Chains.{bucket_blocks-append}

-- ---- a change of records, and the bucket

pick_behind : (t : Bool) (k : List ℕ) (q : Pair) (rest : List Pair) → AllBehind Hash k (q ∷ rest) → AllBehind Hash k (cond t (q ∷ rest) rest)
pick_behind true k q rest all = all
pick_behind false k q rest all = all.1

bucket_behind : (p bucket : ℕ) (k : List ℕ) (m : List Pair) → AllBehind Hash k m → AllBehind Hash k (in_bucket p bucket m)
bucket_behind p bucket k [] all = tt
bucket_behind p bucket k (q ∷ qs) all = pick_behind (bucket_in p q.key == bucket) k q (in_bucket p bucket qs) (all.0, bucket_behind p bucket k qs all.1)

put_first : (new : Pair) (m : List Pair) → AllBehind Hash new.key m → put Hash new m ≡ new ∷ m
put_first new [] behind = refl
put_first new (q ∷ qs) behind = ap (λ (c : Ordering). put_by c new q qs (put Hash new qs)) behind.0

put_equal : (t : Bool) (new q : Pair) (rest : List Pair) → key_cmp Hash new.key q.key ≡ Equal → cond t (new ∷ rest) rest ≡ cond t (put Hash new (cond t (q ∷ rest) rest)) (cond t (q ∷ rest) rest)
put_equal true new q rest e = sym (ap (λ (c : Ordering). put_by c new q rest (put Hash new rest)) e)
put_equal false new q rest e = refl

put_greater : (t u : Bool) (new q : Pair) (rest : List Pair) → key_cmp Hash new.key q.key ≡ Greater
    → cond u (q ∷ cond t (put Hash new rest) rest) (cond t (put Hash new rest) rest) ≡ cond t (put Hash new (cond u (q ∷ rest) rest)) (cond u (q ∷ rest) rest)
put_greater true true new q rest e = sym (ap (λ (c : Ordering). put_by c new q rest (put Hash new rest)) e)
put_greater true false new q rest e = refl
put_greater false u new q rest e = refl

module _ (p bucket : ℕ) where
  put_by_in : (c : Ordering) (new q : Pair) (qs : List Pair) → key_cmp Hash new.key q.key ≡ c → Rising Hash (q ∷ qs)
      → in_bucket p bucket (put Hash new qs) ≡ cond (bucket_in p new.key == bucket) (put Hash new (in_bucket p bucket qs)) (in_bucket p bucket qs)
      → in_bucket p bucket (put_by c new q qs (put Hash new qs)) ≡ cond (bucket_in p new.key == bucket) (put Hash new (in_bucket p bucket (q ∷ qs))) (in_bucket p bucket (q ∷ qs))
  put_by_in Less new q qs e rising deeper =
      let rest = in_bucket p bucket (q ∷ qs) in
      ap (λ (l : List Pair). cond (bucket_in p new.key == bucket) l rest) (sym (put_first new rest (bucket_behind p bucket new.key (q ∷ qs) (e, behind_earlier Hash new.key q.key qs e rising.0))))
  put_by_in Equal new q qs e rising deeper =
      let rest = in_bucket p bucket qs in
      let t = bucket_in p new.key == bucket in
      subst (λ (u : Bool). cond t (new ∷ rest) rest ≡ cond t (put Hash new (cond u (q ∷ rest) rest)) (cond u (q ∷ rest) rest)) (ap (λ (k : List ℕ). bucket_in p k == bucket) (keys_apart Hash new.key q.key e))
      (put_equal t new q rest e)
  put_by_in Greater new q qs e rising deeper =
      let rest = in_bucket p bucket qs in
      ap (λ (l : List Pair). cond (bucket_in p q.key == bucket) (q ∷ l) l) deeper ∙ put_greater (bucket_in p new.key == bucket) (bucket_in p q.key == bucket) new q rest e

  put_in : (new : Pair) (m : List Pair) → Rising Hash m → in_bucket p bucket (put Hash new m) ≡ cond (bucket_in p new.key == bucket) (put Hash new (in_bucket p bucket m)) (in_bucket p bucket m)
  put_in new [] rising = refl
  put_in new (q ∷ qs) rising = put_by_in (key_cmp Hash new.key q.key) new q qs refl rising (put_in new qs rising.1)

  none_left : (t : Bool) (k : List ℕ) → [] ≡ cond t (without k []) []
  none_left true k = refl
  none_left false k = refl

  without_same : (t : Bool) (k : List ℕ) (q : Pair) (rest : List Pair) → same_bytes k q.key ≡ true → rest ≡ cond t (without k (cond t (q ∷ rest) rest)) (cond t (q ∷ rest) rest)
  without_same true k q rest e = sym (ap (λ (s : Bool). cond s rest (q ∷ without k rest)) e)
  without_same false k q rest e = refl

  without_other : (t u : Bool) (k : List ℕ) (q : Pair) (rest : List Pair) → same_bytes k q.key ≡ false
      → cond u (q ∷ cond t (without k rest) rest) (cond t (without k rest) rest) ≡ cond t (without k (cond u (q ∷ rest) rest)) (cond u (q ∷ rest) rest)
  without_other true true k q rest e = sym (ap (λ (s : Bool). cond s rest (q ∷ without k rest)) e)
  without_other true false k q rest e = refl
  without_other false u k q rest e = refl

  without_by : (s : Bool) (k : List ℕ) (q : Pair) (qs : List Pair) → same_bytes k q.key ≡ s → in_bucket p bucket (without k qs) ≡ cond (bucket_in p k == bucket) (without k (in_bucket p bucket qs)) (in_bucket p bucket qs)
      → in_bucket p bucket (cond s qs (q ∷ without k qs)) ≡ cond (bucket_in p k == bucket) (without k (in_bucket p bucket (q ∷ qs))) (in_bucket p bucket (q ∷ qs))
  without_by true k q qs e deeper =
      let rest = in_bucket p bucket qs in
      let t = bucket_in p k == bucket in
      subst (λ (u : Bool). rest ≡ cond t (without k (cond u (q ∷ rest) rest)) (cond u (q ∷ rest) rest)) (ap (λ (j : List ℕ). bucket_in p j == bucket) (same_told k q.key e)) (without_same t k q rest e)
  without_by false k q qs e deeper =
      let rest = in_bucket p bucket qs in
      ap (λ (l : List Pair). cond (bucket_in p q.key == bucket) (q ∷ l) l) deeper ∙ without_other (bucket_in p k == bucket) (bucket_in p q.key == bucket) k q rest e

  without_in : (k : List ℕ) (m : List Pair) → in_bucket p bucket (without k m) ≡ cond (bucket_in p k == bucket) (without k (in_bucket p bucket m)) (in_bucket p bucket m)
  without_in k [] = none_left (bucket_in p k == bucket) k
  without_in k (q ∷ qs) = without_by (same_bytes k q.key) k q qs refl (without_in k qs)

  -- ---- blocks of changes

  left_by_pick : (t : Bool) (x : Placed) (found : List Placed) → cond t (after_one Hash (change_in x.body) (left_by found)) (left_by found) ≡ left_by (cond t (x ∷ found) found)
  left_by_pick true x found = refl
  left_by_pick false x found = refl

  left_after_one : (place n : ℕ) (last : Bool) (c : Change) (m : List Pair) (found : List Placed) → Rising Hash m → in_bucket p bucket m ≡ left_by found
      → in_bucket p bucket (after_one Hash c m) ≡ left_by (block_step p bucket found (placed place (body_of n c last)))
  left_after_one place n last (Put pair) m found rising is =
      put_in pair m rising ∙ ap (λ (l : List Pair). cond (bucket_in p pair.key == bucket) (put Hash pair l) l) is
      ∙ left_by_pick (bucket_in p pair.key == bucket) (placed place (body_of n (Put pair) last)) found
  left_after_one place n last (Drop k) m found rising is =
      without_in k m ∙ ap (λ (l : List Pair). cond (bucket_in p k == bucket) (without k l) l) is
      ∙ left_by_pick (bucket_in p k == bucket) (placed place (body_of n (Drop k) last)) found
  left_after_one place n last Clear m found rising is = refl

  left_after : (place n : ℕ) (cs : List Change) (m : List Pair) (found : List Placed) → Rising Hash m → in_bucket p bucket m ≡ left_by found
      → in_bucket p bucket (after Hash cs m) ≡ left_by (bucket_blocks p bucket found (laid place (group_bodies n cs)))
  left_after place n [] m found rising is = is
  left_after place n (c ∷ cs) m found rising is =
      let b = body_of n c (is_nil cs) in
      left_after (place + extent_of b) n cs (after_one Hash c m) (block_step p bucket found (placed place b)) (one_rising Hash c m rising)
      (left_after_one place n (is_nil cs) c m found rising is)

  left_replayed : (place : ℕ) (gs : List Group) (m : List Pair) (found : List Placed) → Rising Hash m → in_bucket p bucket m ≡ left_by found
      → in_bucket p bucket (replay Hash gs m) ≡ left_by (bucket_blocks p bucket found (laid place (bodies_of gs)))
  left_replayed place [] m found rising is = is
  left_replayed place (g ∷ gs) m found rising is =
      let front = group_bodies g.number g.changes in
      left_replayed (end_of place front) gs (after Hash g.changes m) (bucket_blocks p bucket found (laid place front)) (after_rising Hash g.changes m rising)
      (left_after place g.number g.changes m found rising is)
      ∙ ap left_by (sym (bucket_blocks-append p bucket found (laid place front) (laid (end_of place front) (bodies_of gs))))
      ∙ ap (λ (l : List Placed). left_by (bucket_blocks p bucket found l)) (sym (laid-append place front (bodies_of gs)))

-- what the records have in a bucket, by its chain
pub left_in_chain : (h : StaticHead) (bucket : ℕ) (groups : List Group) → in_bucket h.p bucket (replay Hash groups []) ≡ left_by (chain_of h bucket groups)
left_in_chain h bucket groups = left_replayed h.p bucket (base_of h.p) groups [] [] tt refl
