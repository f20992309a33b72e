-- The reading of a bucket, block by block.
use Rattle.std.proofs.Common.{◌≡◌, ℕ, zero, suc, ◌-◌, ◌<◌, ◌≤◌, ◌^◌, List, [], ◌∷◌, length, drop, get_or, refl, sym, ◌∙◌, ap, subst, arith}
use Rattle.std.specs.Prelude.{Option, Some, None, IfSome}
use Rattle.tk_model.specs.Records.{after_one, replay}
use Rattle.tk_model.specs.declared.record.Order.TheVariants.{Hash}
use Rattle.tk_model.specs.declared.record.Pair.{Pair}
use Rattle.tk_model.specs.declared.record.Group.{Group}
use Rattle.tk_model.specs.declared.record.Change.{Change}
use Rattle.tk_block.specs.Layout.{Placed}
use Rattle.tk_block.specs.declared.head.StaticHead.{StaticHead}
use Rattle.tk_buckets.specs.Chain.{places_in}
use Rattle.tk_buckets.specs.Lookup.{StandsAt, AllStand}
use Rattle.tk_append.specs.FileText.{IsFile}
use Rattle.tk_append.specs.Opening.{change_in}
use Rattle.tk_hash.specs.Chain.{chain_of, in_bucket}
use Rattle.tk_hash.specs.Seek.{IsShelf}
use Rattle.tk_hash.specs.Shelf.{HasBucket, left_by}
use Rattle.tk_hash.specs.declared.shelf.Shelf.{Shelf}
use Rattle.tk_hash.proofs.Buckets.{left_in_chain}
use Rattle.tk_hash.proofs.Standing.{chain_stands}

-- one block of a list
record BlockAt (h : StaticHead) (f : List ℕ) (blocks : List Placed) (j : ℕ) : Type 0 where
  x : Placed
  stands : StandsAt h f x
  place : get_or (places_in blocks) j 0 ≡ x.place
  split : drop j blocks ≡ x ∷ drop (suc j) blocks

block_at : (h : StaticHead) (f : List ℕ) (blocks : List Placed) (j : ℕ) → j < length (places_in blocks) → AllStand h f blocks → BlockAt h f blocks j
block_at h f [] j inside all = absurd (omega arith)
block_at h f (x ∷ xs) zero inside all = record { x = x; stands = all.0; place = refl; split = refl }
block_at h f (x ∷ xs) (suc j) inside all =
    let deeper = block_at h f xs j (omega arith) all.1 in
    record { x = deeper.x; stands = deeper.stands; place = deeper.place; split = deeper.split }

-- the records that the blocks from the i-th on leave
abbrev pub ToldLeft : (h : StaticHead) (o : Option (List ℕ)) (blocks : List Placed) (places : List ℕ) (i : ℕ) → List Pair → Type 0
ToldLeft h o blocks places i records = IfSome o (λ f. AllStand h f blocks → length f < 2 ^ 64 → places ≡ places_in blocks → records ≡ left_by (drop i blocks))

drop_places : (blocks : List Placed) → drop (length (places_in blocks)) blocks ≡ []
drop_places [] = refl
drop_places (x ∷ xs) = drop_places xs

pub none_left : (h : StaticHead) (o : Option (List ℕ)) (blocks : List Placed) (places : List ℕ) (records : List Pair) → records ≡ [] → ToldLeft h o blocks places (length places) records
none_left h None blocks places records empty = tt
none_left h (Some f) blocks places records empty = λ all size is. empty ∙ sym (ap (λ (n : ℕ). left_by (drop n blocks)) (ap length is) ∙ ap left_by (drop_places blocks))

-- one block more
left_earlier : (h : StaticHead) (o : Option (List ℕ)) (blocks : List Placed) (places : List ℕ) (i place : ℕ) (change : Change) (old new : List Pair) → 0 < i → i ≤ length places → place ≡ get_or places (i - 1) 0
    → ((x : Placed) → IfSome o (λ f. StandsAt h f x → length f < 2 ^ 64 → place ≡ x.place → change ≡ change_in x.body)) → new ≡ after_one Hash change old → ToldLeft h o blocks places i old → ToldLeft h o blocks places (i - 1) new
left_earlier h None blocks places i place change old new some inside at says made left = tt
left_earlier h (Some f) blocks places i place change old new some inside at says made left = λ all size is.
    let b = block_at h f blocks (i - 1) (omega (arith, ap length is)) all in
    let back : suc (i - 1) ≡ i = omega arith in
    let told : change ≡ change_in b.x.body = says b.x b.stands size (at ∙ ap (λ (l : List ℕ). get_or l (i - 1) 0) is ∙ b.place) in
    made ∙ ap (λ (c : Change). after_one Hash c old) told ∙ ap (after_one Hash (change_in b.x.body)) (left all size is)
    ∙ sym (ap left_by (b.split ∙ ap (λ (n : ℕ). b.x ∷ drop n blocks) back))

-- the same, of what a disk tells after readings
pub left_next : (h : StaticHead) (o mid : Option (List ℕ)) (blocks : List Placed) (places : List ℕ) (i place : ℕ) (change : Change) (old new : List Pair) → mid ≡ o → ((x : Placed) → IfSome mid (λ f. StandsAt h f x → length f < 2 ^ 64 → place ≡ x.place → change ≡ change_in x.body))
    → place ≡ get_or places (i - 1) 0 → 0 < i → i ≤ length places → new ≡ after_one Hash change old → ToldLeft h o blocks places i old → ToldLeft h o blocks places (i - 1) new
left_next h o mid blocks places i place change old new same says at some inside made left =
    left_earlier h o blocks places i place change old new some inside at
    (λ x. subst (λ (q : Option (List ℕ)). IfSome q (λ f. StandsAt h f x → length f < 2 ^ 64 → place ≡ x.place → change ≡ change_in x.body)) same (says x)) made left

pub all_left : (h : StaticHead) (o : Option (List ℕ)) (blocks : List Placed) (places : List ℕ) (i : ℕ) (records : List Pair) → i ≡ 0 → ToldLeft h o blocks places i records → IfSome o (λ f. AllStand h f blocks → length f < 2 ^ 64 → places ≡ places_in blocks → records ≡ left_by blocks)
all_left h None blocks places i records done left = tt
all_left h (Some f) blocks places i records done left = λ all size is. left all size is ∙ ap (λ (n : ℕ). left_by (drop n blocks)) done

-- all blocks of a bucket
pub bucket_read : (o : Option (List ℕ)) (h : StaticHead) (groups : List Group) (bucket : ℕ) (places : List ℕ) (records : List Pair) → bucket < 2 ^ h.p
    → IfSome o (λ f. IsFile h f groups → places ≡ places_in (chain_of h bucket groups))
    → IfSome o (λ f. AllStand h f (chain_of h bucket groups) → length f < 2 ^ 64 → places ≡ places_in (chain_of h bucket groups) → records ≡ left_by (chain_of h bucket groups))
    → IfSome o (λ f. IsFile h f groups → records ≡ in_bucket h.p bucket (replay Hash groups []))
bucket_read None h groups bucket places records below chain left = tt
bucket_read (Some f) h groups bucket places records below chain left = λ is.
    left (chain_stands h f groups bucket below is) is.size (chain is) ∙ sym (left_in_chain h bucket groups)

-- what is found among the records of a bucket that the shelf has
pub found_on : (search : List Pair → Option Pair) (o : Option (List ℕ)) (h : StaticHead) (groups : List Group) (bucket : ℕ) (before after : Option Shelf) (found : Option Pair)
    → IfSome after (λ s. found ≡ search s.records) → IfSome o (λ f. IsFile h f groups → IsShelf h groups before → HasBucket h groups bucket after)
    → IfSome o (λ f. IsFile h f groups → IsShelf h groups before → found ≡ search (in_bucket h.p bucket (replay Hash groups [])))
found_on search None h groups bucket before after found is known = tt
found_on search (Some f) h groups bucket before None found is known = λ file held. absurd (known file held)
found_on search (Some f) h groups bucket before (Some s) found is known = λ file held. is ∙ ap search (known file held)

-- the shelf has the bucket already
pub lies_there : (o : Option (List ℕ)) (h : StaticHead) (groups : List Group) (bucket : ℕ) (shelf : Option Shelf) → (IsShelf h groups shelf → HasBucket h groups bucket shelf)
    → IfSome o (λ f. IsFile h f groups → IsShelf h groups shelf → HasBucket h groups bucket shelf)
lies_there None h groups bucket shelf has = tt
lies_there (Some f) h groups bucket shelf has = λ file. has

-- the bucket that was read is laid on the shelf
pub lies_now : (o : Option (List ℕ)) (h : StaticHead) (groups : List Group) (bucket : ℕ) (shelf : Option Shelf) (records : List Pair) → IfSome o (λ f. IsFile h f groups → records ≡ in_bucket h.p bucket (replay Hash groups []))
    → IfSome o (λ f. IsFile h f groups → IsShelf h groups shelf → records ≡ in_bucket h.p bucket (replay Hash groups []))
lies_now None h groups bucket shelf records is = tt
lies_now (Some f) h groups bucket shelf records is = λ file held. is file
