-- A search from bucket to bucket.
use Rattle.std.proofs.Common.{◌≡◌, ℕ, ◌+◌, ◌-◌, ◌*◌, ◌<◌, ◌≤◌, ◌^◌, true, false, List, [], get_or, refl, sym, ◌∙◌, ap, subst, arith}
use Rattle.std.specs.Prelude.{Option, Some, None, IfSome}
use Rattle.std.specs.Option.{is_some}
use Rattle.tk_model.specs.Records.{first_within, last_within, or_else, replay, Rising}
use Rattle.tk_model.specs.declared.record.Order.TheVariants.{Hash}
use Rattle.tk_model.specs.declared.record.Bound.{Bound}
use Rattle.tk_model.specs.declared.record.Pair.{Pair}
use Rattle.tk_model.specs.declared.record.Group.{Group}
use Rattle.tk_model.proofs.RecordLaws.{replay_rising}
use Rattle.tk_block.specs.declared.head.StaticHead.{StaticHead}
use Rattle.tk_append.specs.FileText.{IsFile}
use Rattle.tk_store.specs.Hashed.{start_of, end_of}
use Rattle.tk_hash.specs.Chain.{in_bucket}
use Rattle.tk_hash.specs.Seek.{IsShelf, KnowsHeads}
use Rattle.tk_hash.specs.declared.shelf.Shelf.{Shelf}
use Rattle.tk_hash.proofs.InOrder.{from_bucket, below_bucket, from_start, before_end, first-append, last-append, from_split, below_split, from_later, below_earlier, from_all, below_all, bucket_small}
use Rattle.tk_hash.proofs.Standing.{none_at}
use Rattle.tk_hash.proofs.HashKeeps.{heads_in}

some_else : (found rest : Option Pair) → is_some found ≡ true → or_else found rest ≡ found
some_else (Some q) rest some = refl
some_else None rest some = absurd (cc some)

none_else : (found rest : Option Pair) → is_some found ≡ false → or_else found rest ≡ rest
none_else (Some q) rest none = absurd (cc none)
none_else None rest none = refl

-- a fact of the records of the file's groups, where the shelf was right
abbrev pub Told : (o : Option (List ℕ)) (h : StaticHead) (groups : List Group) (shelf : Option Shelf) → (List Pair → Type 0) → Type 0
Told o h groups shelf P = IfSome o (λ f. IsFile h f groups → IsShelf h groups shelf → P (replay Hash groups []))

abbrev pub ShelfKept : (o : Option (List ℕ)) (h : StaticHead) (groups : List Group) (before after : Option Shelf) → Type 0
ShelfKept o h groups before after = IfSome o (λ f. IsFile h f groups → IsShelf h groups before → IsShelf h groups after)

-- the search up begins with a bucket
abbrev pub ToldUp : (o : Option (List ℕ)) (h : StaticHead) (groups : List Group) (shelf : Option Shelf) → Bound → (bucket : ℕ) → Type 0
ToldUp o h groups shelf b bucket = Told o h groups shelf (λ m. first_within Hash b (from_bucket h.p bucket m) ≡ first_within Hash b m)

-- the search down begins below a bucket
abbrev pub ToldDown : (o : Option (List ℕ)) (h : StaticHead) (groups : List Group) (shelf : Option Shelf) → Bound → (end : ℕ) → Type 0
ToldDown o h groups shelf b end = Told o h groups shelf (λ m. last_within Hash b (below_bucket h.p end m) ≡ last_within Hash b m)

-- these heads, from one on, are 0
abbrev pub AreEmpty : (heads : List ℕ) (from end : ℕ) → Type 0
AreEmpty heads from end = (i : ℕ) → from ≤ i → i < end → get_or heads i 0 ≡ 0

pub shelf_kept : (o : Option (List ℕ)) (h : StaticHead) (groups : List Group) (before mid after : Option Shelf) → ShelfKept o h groups before mid → ShelfKept o h groups mid after → ShelfKept o h groups before after
shelf_kept None h groups before mid after first second = tt
shelf_kept (Some f) h groups before mid after first second = λ is held. second is (first is held)

-- the same, of what a disk tells after readings
pub shelf_next : (o later : Option (List ℕ)) (h : StaticHead) (groups : List Group) (before mid after : Option Shelf) → later ≡ o → ShelfKept o h groups before mid → ShelfKept later h groups mid after → ShelfKept o h groups before after
shelf_next o later h groups before mid after same first second =
    shelf_kept o h groups before mid after first (subst (λ (q : Option (List ℕ)). ShelfKept q h groups mid after) same second)

pub shelf_same : (o : Option (List ℕ)) (h : StaticHead) (groups : List Group) (shelf : Option Shelf) → ShelfKept o h groups shelf shelf
shelf_same None h groups shelf = tt
shelf_same (Some f) h groups shelf = λ is held. held

module _ (h : StaticHead) (groups : List Group) (b : Bound) where
  rising : Rising Hash (replay Hash groups [])
  rising = replay_rising Hash groups [] tt

  pub begins_up : (o : Option (List ℕ)) (shelf : Option Shelf) (bucket : ℕ) → bucket ≡ start_of h.p b → ToldUp o h groups shelf b bucket
  begins_up None shelf bucket is = tt
  begins_up (Some f) shelf bucket is = λ file held. ap (λ (n : ℕ). first_within Hash b (from_bucket h.p n (replay Hash groups []))) is ∙ from_start h.p b (replay Hash groups [])

  pub begins_down : (o : Option (List ℕ)) (shelf : Option Shelf) (end : ℕ) → h.p ≤ 24 → end ≡ end_of h.p b → ToldDown o h groups shelf b end
  begins_down None shelf end small is = tt
  begins_down (Some f) shelf end small is = λ file held.
      ap (λ (n : ℕ). last_within Hash b (below_bucket h.p n (replay Hash groups []))) is ∙ before_end h.p b (replay Hash groups []) (λ k. bucket_small h.p k small)

  split_up : (bucket : ℕ) → first_within Hash b (from_bucket h.p bucket (replay Hash groups []))
      ≡ or_else (first_within Hash b (in_bucket h.p bucket (replay Hash groups []))) (first_within Hash b (from_bucket h.p (bucket + 1) (replay Hash groups [])))
  split_up bucket =
      let m = replay Hash groups [] in
      ap (first_within Hash b) (from_split h.p bucket m rising) ∙ first-append b (in_bucket h.p bucket m) (from_bucket h.p (bucket + 1) m)

  split_down : (bucket end : ℕ) → end ≡ bucket + 1 → last_within Hash b (below_bucket h.p end (replay Hash groups []))
      ≡ or_else (last_within Hash b (in_bucket h.p bucket (replay Hash groups []))) (last_within Hash b (below_bucket h.p bucket (replay Hash groups [])))
  split_down bucket end is =
      let m = replay Hash groups [] in
      ap (λ (n : ℕ). last_within Hash b (below_bucket h.p n m)) is ∙ ap (last_within Hash b) (below_split h.p bucket m rising) ∙ last-append b (below_bucket h.p bucket m) (in_bucket h.p bucket m)

  -- the record is in this bucket
  pub here_up : (o : Option (List ℕ)) (before mid : Option Shelf) (bucket : ℕ) (found : Option Pair) → is_some found ≡ true → ShelfKept o h groups before mid → ToldUp o h groups before b bucket
      → Told o h groups mid (λ m. found ≡ first_within Hash b (in_bucket h.p bucket m)) → Told o h groups before (λ m. found ≡ first_within Hash b m)
  here_up None before mid bucket found some kept up is = tt
  here_up (Some f) before mid bucket found some kept up is = λ file held.
      let m = replay Hash groups [] in
      let rest = first_within Hash b (from_bucket h.p (bucket + 1) m) in
      sym (sym (up file held) ∙ split_up bucket ∙ ap (λ (a : Option Pair). or_else a rest) (sym (is file (kept file held))) ∙ some_else found rest some)

  pub here_down : (o : Option (List ℕ)) (before mid : Option Shelf) (bucket end : ℕ) (found : Option Pair) → end ≡ bucket + 1 → is_some found ≡ true → ShelfKept o h groups before mid → ToldDown o h groups before b end
      → Told o h groups mid (λ m. found ≡ last_within Hash b (in_bucket h.p bucket m)) → Told o h groups before (λ m. found ≡ last_within Hash b m)
  here_down None before mid bucket end found next some kept down is = tt
  here_down (Some f) before mid bucket end found next some kept down is = λ file held.
      let m = replay Hash groups [] in
      let rest = last_within Hash b (below_bucket h.p bucket m) in
      sym (sym (down file held) ∙ split_down bucket end next ∙ ap (λ (a : Option Pair). or_else a rest) (sym (is file (kept file held))) ∙ some_else found rest some)

  -- the buckets with these heads have no records
  none_between : (f heads : List ℕ) (from end : ℕ) → KnowsHeads (Some f) h heads → IsFile h f groups → end ≤ 2 ^ h.p → AreEmpty heads from end → (j : ℕ) → from ≤ j → j < end → in_bucket h.p j (replay Hash groups []) ≡ []
  none_between f heads from end know file within empty j least below =
      none_at h f groups j (omega arith) file (sym ((heads_in (Some f) h heads groups know file).newest_each j (omega arith)) ∙ empty j least below)

  -- the record is in a later bucket
  pub later_up : (o : Option (List ℕ)) (before mid : Option Shelf) (bucket next : ℕ) (heads : List ℕ) (found : Option Pair) → is_some found ≡ false → bucket + 1 ≤ next → next ≤ 2 ^ h.p → KnowsHeads o h heads → ShelfKept o h groups before mid
      → ToldUp o h groups before b bucket → Told o h groups mid (λ m. found ≡ first_within Hash b (in_bucket h.p bucket m)) → AreEmpty heads (bucket + 1) next → ToldUp o h groups before b next
  later_up None before mid bucket next heads found none least most know kept up is empty = tt
  later_up (Some f) before mid bucket next heads found none least most know kept up is empty = λ file held.
      let m = replay Hash groups [] in
      let rest = first_within Hash b (from_bucket h.p (bucket + 1) m) in
      let passed : from_bucket h.p (bucket + 1) m ≡ from_bucket h.p next m =
      from_later h.p (bucket + 1) (next - (bucket + 1)) next m rising (omega arith) (none_between f heads (bucket + 1) next know file most empty) in
      sym (ap (first_within Hash b) passed) ∙ sym (split_up bucket ∙ ap (λ (a : Option Pair). or_else a rest) (sym (is file (kept file held))) ∙ none_else found rest none) ∙ up file held

  pub later_down : (o : Option (List ℕ)) (before mid : Option Shelf) (bucket end next : ℕ) (heads : List ℕ) (found : Option Pair) → end ≡ bucket + 1 → is_some found ≡ false → bucket ≤ 2 ^ h.p → next ≤ bucket → KnowsHeads o h heads → ShelfKept o h groups before mid
      → ToldDown o h groups before b end → Told o h groups mid (λ m. found ≡ last_within Hash b (in_bucket h.p bucket m)) → AreEmpty heads next bucket → ToldDown o h groups before b next
  later_down None before mid bucket end next heads found follows none most low know kept down is empty = tt
  later_down (Some f) before mid bucket end next heads found follows none most low know kept down is empty = λ file held.
      let m = replay Hash groups [] in
      let rest = last_within Hash b (below_bucket h.p bucket m) in
      let passed : below_bucket h.p bucket m ≡ below_bucket h.p next m =
      below_earlier h.p next (bucket - next) bucket m rising (omega arith) (none_between f heads next bucket know file most empty) in
      sym (ap (last_within Hash b) passed) ∙ sym (split_down bucket end follows ∙ ap (λ (a : Option Pair). or_else a rest) (sym (is file (kept file held))) ∙ none_else found rest none) ∙ down file held

  -- there is no bucket more
  pub none_up : (o : Option (List ℕ)) (shelf : Option Shelf) (bucket : ℕ) → h.p ≤ 24 → bucket ≡ 2 ^ h.p → ToldUp o h groups shelf b bucket → Told o h groups shelf (λ m. None ≡ first_within Hash b m)
  none_up None shelf bucket small over up = tt
  none_up (Some f) shelf bucket small over up = λ file held.
      let m = replay Hash groups [] in
      sym (ap (first_within Hash b) (ap (λ (n : ℕ). from_bucket h.p n m) over ∙ from_all h.p m (λ k. bucket_small h.p k small))) ∙ up file held

  pub none_down : (o : Option (List ℕ)) (shelf : Option Shelf) (end : ℕ) → end ≡ 0 → ToldDown o h groups shelf b end → Told o h groups shelf (λ m. None ≡ last_within Hash b m)
  none_down None shelf end over down = tt
  none_down (Some f) shelf end over down = λ file held.
      let m = replay Hash groups [] in
      sym (ap (last_within Hash b) (ap (λ (n : ℕ). below_bucket h.p n m) over ∙ below_all h.p m)) ∙ down file held
