-- The first block of a key in its bucket's chain decides what the records have at the key.
use Rattle.std.proofs.Common.{◌≡◌, ℕ, ◌+◌, Bool, true, false, cond, List, [], ◌∷◌, ◌++◌, refl, sym, ◌∙◌, ap}
use Rattle.std.specs.Prelude.{◌==◌, if◌then◌else◌}
use Rattle.std.proofs.lemmas.Bool.{eq-eqb}
use Rattle.tk_model.specs.Orders.{same_bytes}
use Rattle.tk_model.specs.Records.{find, after, after_one, replay, Rising}
use Rattle.tk_model.specs.declared.record.Order.TheVariants.{Hash}
use Rattle.tk_model.specs.declared.record.Pair.{Pair}
use Rattle.tk_model.specs.declared.record.Group.{Group}
use Rattle.tk_model.specs.declared.record.Change.{Change}
use Rattle.tk_model.specs.declared.record.Change.TheVariants.{Put, Drop, Clear}
use Rattle.tk_model.proofs.KeyOrders.{same_told, same_itself}
use Rattle.tk_model.proofs.RecordLaws.{one_rising, after_rising, find_put_same, find_put_other, find_without_same, find_without_other}
use Rattle.tk_block.specs.declared.head.StaticHead.{StaticHead}
use Rattle.tk_block.specs.Text.{base_of}
use Rattle.tk_block.specs.Blocks.{body_of, extent_of, group_bodies, is_nil}
use Rattle.tk_block.specs.Layout.{placed, Placed, bucket_in, laid, end_of, bodies_of}
use Rattle.tk_block.proofs.Layouts.{laid-append}
use Rattle.tk_buckets.specs.Chain.{block_step, bucket_blocks}
use Rattle.tk_hash.specs.Chain.{chain_of, value_in, value_by}

-- a chain behind more blocks
pub bucket_blocks-append : (p bucket : ℕ) (found xs ys : List Placed) → bucket_blocks p bucket found (xs ++ ys) ≡ bucket_blocks p bucket (bucket_blocks p bucket found xs) ys
bucket_blocks-append p bucket found [] ys = refl
bucket_blocks-append p bucket found (x ∷ xs) ys = bucket_blocks-append p bucket (block_step p bucket found x) xs ys

by_its_key : (bucket other : ℕ) (key : List ℕ) (x : Placed) (found : List Placed) → bucket ≡ other → x.body.key ≡ key → value_by key (cond (bucket == other) (x ∷ found) found) ≡ value_in x.body
by_its_key bucket other key x found same is =
    ap (λ (t : Bool). value_by key (cond t (x ∷ found) found)) (eq-eqb bucket other same)
    ∙ ap (λ (t : Bool). if t then value_in x.body else value_by key found) (ap (same_bytes key) is ∙ same_itself key)

by_other_key : (ours : Bool) (key : List ℕ) (x : Placed) (found : List Placed) → same_bytes key x.body.key ≡ false → value_by key (cond ours (x ∷ found) found) ≡ value_by key found
by_other_key true key x found other = ap (λ (t : Bool). if t then value_in x.body else value_by key found) other
by_other_key false key x found other = refl

module _ (p place n : ℕ) (last : Bool) (key : List ℕ) (m : List Pair) (found : List Placed) where
  abbrev block : Change → Placed
  block c = placed place (body_of n c last)

  after_put : (pair : Pair) (same : Bool) → same_bytes key pair.key ≡ same → find key m ≡ value_by key found
      → find key (after_one Hash (Put pair) m) ≡ value_by key (block_step p (bucket_in p key) found (block (Put pair)))
  after_put pair true same is =
      let e : key ≡ pair.key = same_told key pair.key same in
      ap (λ (k : List ℕ). find k (after_one Hash (Put pair) m)) e ∙ find_put_same Hash pair m
      ∙ sym (by_its_key (bucket_in p pair.key) (bucket_in p key) key (block (Put pair)) found (ap (bucket_in p) (sym e)) (sym e))
  after_put pair false other is =
      find_put_other Hash key pair m other ∙ is ∙ sym (by_other_key (bucket_in p pair.key == bucket_in p key) key (block (Put pair)) found other)

  after_drop : (k : List ℕ) (same : Bool) → same_bytes key k ≡ same → Rising Hash m → find key m ≡ value_by key found
      → find key (after_one Hash (Drop k) m) ≡ value_by key (block_step p (bucket_in p key) found (block (Drop k)))
  after_drop k true same rising is =
      let e : key ≡ k = same_told key k same in
      ap (λ (j : List ℕ). find j (after_one Hash (Drop k) m)) e ∙ find_without_same Hash k m rising
      ∙ sym (by_its_key (bucket_in p k) (bucket_in p key) key (block (Drop k)) found (ap (bucket_in p) (sym e)) (sym e))
  after_drop k false other rising is =
      find_without_other key k m other ∙ is ∙ sym (by_other_key (bucket_in p k == bucket_in p key) key (block (Drop k)) found other)

  found_after_one : (c : Change) → Rising Hash m → find key m ≡ value_by key found → find key (after_one Hash c m) ≡ value_by key (block_step p (bucket_in p key) found (block c))
  found_after_one (Put pair) rising is = after_put pair (same_bytes key pair.key) refl is
  found_after_one (Drop k) rising is = after_drop k (same_bytes key k) refl rising is
  found_after_one Clear rising is = refl

found_after : (p place n : ℕ) (key : List ℕ) (cs : List Change) (m : List Pair) (found : List Placed) → Rising Hash m → find key m ≡ value_by key found
    → find key (after Hash cs m) ≡ value_by key (bucket_blocks p (bucket_in p key) found (laid place (group_bodies n cs)))
found_after p place n key [] m found rising is = is
found_after p place n key (c ∷ cs) m found rising is =
    let b = body_of n c (is_nil cs) in
    found_after p (place + extent_of b) n key cs (after_one Hash c m) (block_step p (bucket_in p key) found (placed place b)) (one_rising Hash c m rising)
    (found_after_one p place n (is_nil cs) key m found c rising is)

found_replayed : (p place : ℕ) (key : List ℕ) (gs : List Group) (m : List Pair) (found : List Placed) → Rising Hash m → find key m ≡ value_by key found
    → find key (replay Hash gs m) ≡ value_by key (bucket_blocks p (bucket_in p key) found (laid place (bodies_of gs)))
found_replayed p place key [] m found rising is = is
found_replayed p place key (g ∷ gs) m found rising is =
    let front = group_bodies g.number g.changes in
    let bucket = bucket_in p key in
    found_replayed p (end_of place front) key gs (after Hash g.changes m) (bucket_blocks p bucket found (laid place front)) (after_rising Hash g.changes m rising)
    (found_after p place g.number key g.changes m found rising is)
    ∙ ap (value_by key) (sym (bucket_blocks-append p bucket found (laid place front) (laid (end_of place front) (bodies_of gs))))
    ∙ ap (λ (l : List Placed). value_by key (bucket_blocks p bucket found l)) (sym (laid-append place front (bodies_of gs)))

-- what the records have at a key, by the chain of its bucket
pub found_in_chain : (h : StaticHead) (groups : List Group) (key : List ℕ) → find key (replay Hash groups []) ≡ value_by key (chain_of h (bucket_in h.p key) groups)
found_in_chain h groups key = found_replayed h.p (base_of h.p) key groups [] [] tt refl
