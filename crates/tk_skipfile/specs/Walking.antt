-- What is known while a file is read from its front.
use Rattle.std.specs.Prelude.{◌≡◌, ◌⊎◌, ℕ, zero, suc, ◌+◌, ◌%◌, ◌^◌, ◌<◌, ◌≤◌, List, [], ◌∷◌, ◌++◌, length, drop, slice_index, slice_get, Option, Some, None, IfSome, IsSomeAnd, min}
use Rattle.std.specs.declared.cmp.Ordering.TheVariants.{Less}
use Rattle.tk_model.specs.Orders.{key_cmp}
use Rattle.tk_model.specs.declared.record.Order.TheVariants.{Bytes}
use Rattle.tk_model.specs.declared.record.Pair.{Pair}
use Rattle.tk_block.specs.Number.{u64_in}
use Rattle.tk_skipfile.specs.SkipText.{header_size, header_text, levels_of}
use Rattle.tk_skipfile.specs.Opening.{Linked, spelled, spelled_from, spelled_end, known_places, pairs_in, rows_in, row, AreWords, Stand, AnyFails}
use Rattle.tk_skipfile.specs.declared.here.LinkedHere.{LinkedHere}
use Rattle.tk_skipfile.specs.declared.links.Expected.{Expected}
use Rattle.tk_skipfile.specs.declared.links.Links.{Links}
use Rattle.tk_skipfile.specs.declared.walker.Walker.{Walker}

-- so many numbers of eight bytes, from a place on
abbrev pub words_in : (n at : ℕ) → List ℕ → List ℕ
words_in zero at bytes = []
words_in (suc n) at bytes = u64_in bytes at ∷ words_in n (at + 8) bytes

-- a record that was found
abbrev pub linked_of : LinkedHere → Linked
linked_of r = record { links = words_in r.height 0 r.links.now; pair = record { key = r.key.now; value = r.value.now } }

-- a record with so many links stands at the front of bytes at a place
pub record BeginsLinked (height place : ℕ) (bytes : List ℕ) (x : Linked) (rest : List ℕ) : Type 0 where
  pub count : length x.links ≡ height
  pub words : AreWords x.links
  pub key : length x.pair.key ≤ 65535
  pub value : length x.pair.value ≤ 33554431
  pub text : bytes ≡ spelled x place ++ rest

-- ---- the links that are still to be judged

-- the lowest place of those that fail
pub record Lowest (Fails : ℕ → Type 0) (places : List ℕ) (fault : Option ℕ) : Type 0 where
  pub some : IfSome fault (λ p. (i : ℕ) × Fails i × (p ≡ slice_index places i))
  pub least : (i : ℕ) → Fails i → IsSomeAnd fault (λ p. p ≤ slice_index places i)

-- where link j of record i leads, and what it says
abbrev pub expected_of : (rows : List (List ℕ)) → (places : List ℕ) → (i j : ℕ) → Expected
expected_of rows places i j = record { target = i + 4 ^ (1 + j); owner = slice_index places i; link = slice_index (row rows i) j }

-- nothing is expected, or what a record's link says
abbrev pub IsOfSome : (rows : List (List ℕ)) → (places : List ℕ) → (j : ℕ) → Expected → Type 0
IsOfSome rows places j e = (e.target ≡ 0) ⊎ ((i : ℕ) × (j < length (row rows i)) × (e ≡ expected_of rows places i j))

-- of each level, the last link that was met; and the lowest record with a wrong link
pub record Follows (rows : List (List ℕ)) (places : List ℕ) (l : Links) : Type 0 where
  pub spaced : (i j : ℕ) → j < length (row rows i) → i % 4 ^ (1 + j) ≡ 0
  pub room : (i j : ℕ) → j < length (row rows i) → j < length l.expected.items
  pub sound : (j : ℕ) → IfSome (slice_get l.expected.items j) (IsOfSome rows places j)
  pub complete : (i j : ℕ) → j < length (row rows i) → length places ≤ i + 4 ^ (1 + j) → slice_get l.expected.items j ≡ Some (expected_of rows places i j)
  pub lowest : Lowest (AnyFails l.count rows places) places l.fault

-- the lower of a fault's place and this one
abbrev pub lower_of : Option ℕ → ℕ → ℕ
lower_of None place = place
lower_of (Some low) place = min low place

-- record `index` at `owner`, whose place is the last that is known, gets one link behind so many
pub record Meets (rows : List (List ℕ)) (places row : List ℕ) (level index owner : ℕ) : Type 0 where
  pub before : length rows ≡ index
  pub known : length places ≡ index + 1
  pub here : slice_index places index ≡ owner
  pub so_far : length row ≡ level
  pub divides : index % 4 ^ (1 + level) ≡ 0

-- the same for all of its links
pub record MeetsAll (rows : List (List ℕ)) (places : List ℕ) (height index owner : ℕ) : Type 0 where
  pub before : length rows ≡ index
  pub known : length places ≡ index + 1
  pub here : slice_index places index ≡ owner
  pub divides : (level : ℕ) → level < height → index % 4 ^ (1 + level) ≡ 0

-- ---- the records

-- the last record has this key, where there is one
abbrev pub EndsWith : List Pair → (key : List ℕ) → Type 0
EndsWith [] key = Unit {0}
EndsWith (p ∷ []) key = p.key ≡ key
EndsWith (p ∷ q ∷ ps) key = EndsWith (q ∷ ps) key

-- this key comes behind those of the records
abbrev pub ComesNext : Walker → (key : List ℕ) → Type 0
ComesNext w key = (w.index ≡ 0) ⊎ (key_cmp Bytes w.last key ≡ Less)

-- these records were walked over
pub record IsAt (xs : List Linked) (w : Walker) : Type 0 where
  pub levels : w.levels ≡ levels_of w.links.count
  pub stand : Stand (levels_of w.links.count) xs
  pub within : length xs ≤ w.links.count
  pub index : w.index ≡ length xs
  pub place : w.place ≡ spelled_end header_size xs
  pub ends : EndsWith (pairs_in xs) w.last
  pub links : Follows (rows_in xs) (known_places header_size xs) w.links

-- more records were taken from the front of these bytes, and the rest follows
pub record Takes (xs : List Linked) (old new : Walker) (bytes rest : List ℕ) : Type 0 where
  pub more : List Linked
  pub at : IsAt (xs ++ more) new
  pub text : bytes ≡ spelled_from old.place more ++ rest

-- a file was read up to the walker's place
pub record IsReadTo (image : Option (List ℕ)) (generation : ℕ) (w : Walker) : Type 0 where
  pub xs : List Linked
  pub at : IsAt xs w
  pub text : IfSome image (λ f. f ≡ header_text w.links.count generation ++ (spelled_from header_size xs ++ drop w.place f))
