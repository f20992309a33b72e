-- Which files are opened, and what fails first in another.
use Rattle.std.specs.Prelude.{◌≡◌, ◌≢◌, ◌⊎◌, ℕ, zero, suc, ◌+◌, ◌*◌, ◌^◌, ◌<◌, ◌≤◌, List, [], ◌∷◌, ◌++◌, length, slice_index, Result, Ok, Err}
use Rattle.tk_model.specs.Records.{AllHeld, Rising}
use Rattle.tk_model.specs.RecordText.{record_text, record_size}
use Rattle.tk_model.specs.declared.record.Order.TheVariants.{Bytes}
use Rattle.tk_model.specs.declared.record.Pair.{Pair}
use Rattle.tk_model.specs.declared.error.OpenError.{OpenError}
use Rattle.tk_model.specs.declared.error.OpenError.TheVariants as errors
use Rattle.tk_model.specs.declared.error.Unopened.{Unopened}
use Rattle.tk_block.specs.Text.{checked}
use Rattle.tk_append.specs.Pieces.{words_text}
use Rattle.tk_append.specs.Read.{IsOutside}
use Rattle.tk_skipfile.specs.SkipText.{header_size, header_text, levels_of, height, skip_text}

-- the file of these records
pub record IsSkipFile (f : List ℕ) (generation : ℕ) (pairs : List Pair) : Type 0 where
  pub held : AllHeld pairs
  pub rising : Rising Bytes pairs
  pub count : length pairs < 2 ^ 64
  pub numbered : generation < 2 ^ 64
  pub text : f ≡ skip_text generation pairs

-- no header stands at the front
abbrev pub HasNoHeader : List ℕ → Type 0
HasNoHeader f = (count generation : ℕ) (rest : List ℕ) → count < 2 ^ 64 → generation < 2 ^ 64 → f ≢ header_text count generation ++ rest

-- a record, and the links that stand before it, whatever they lead to
pub record Linked : Type 0 where
  pub links : List ℕ
  pub pair : Pair

-- its bytes
abbrev pub linked_size : Linked → ℕ
linked_size x = 8 * length x.links + (record_size x.pair + 4)

-- its text at a place: the links, the record, and the check of both and of the place
abbrev pub spelled : Linked → (place : ℕ) → List ℕ
spelled x place = checked (words_text x.links ++ record_text x.pair) place

-- records from a place on, one behind the other
abbrev pub spelled_from : (place : ℕ) → List Linked → List ℕ
spelled_from place [] = []
spelled_from place (x ∷ xs) = spelled x place ++ spelled_from (place + linked_size x) xs

-- where they end
abbrev pub spelled_end : (place : ℕ) → List Linked → ℕ
spelled_end place [] = place
spelled_end place (x ∷ xs) = spelled_end (place + linked_size x) xs

-- where each of them stands, and where they end
abbrev pub known_places : (place : ℕ) → List Linked → List ℕ
known_places place [] = place ∷ []
known_places place (x ∷ xs) = place ∷ known_places (place + linked_size x) xs

abbrev pub pairs_in : List Linked → List Pair
pairs_in [] = []
pairs_in (x ∷ xs) = x.pair ∷ pairs_in xs

abbrev pub rows_in : List Linked → List (List ℕ)
rows_in [] = []
rows_in (x ∷ xs) = x.links ∷ rows_in xs

abbrev pub AreWords : List ℕ → Type 0
AreWords [] = Unit {0}
AreWords (x ∷ xs) = (x < 2 ^ 64) × AreWords xs

-- each record from i on has as many links as its height says
abbrev pub HaveLinks : (levels i : ℕ) → List Linked → Type 0
HaveLinks levels i [] = Unit {0}
HaveLinks levels i (x ∷ xs) = (length x.links ≡ height levels i) × AreWords x.links × HaveLinks levels (i + 1) xs

-- records that may stand one behind the other, but for what the links lead to
pub record Stand (levels : ℕ) (xs : List Linked) : Type 0 where
  pub links : HaveLinks levels 0 xs
  pub held : AllHeld (pairs_in xs)
  pub rising : Rising Bytes (pairs_in xs)

-- no record that may follow these stands at the front
abbrev pub NoneFollows : (levels : ℕ) → List Linked → List ℕ → Type 0
NoneFollows levels xs rest = (x : Linked) (behind : List ℕ) → rest ≡ spelled x (spelled_end header_size xs) ++ behind → Stand levels (xs ++ x ∷ []) → ⊥

-- so many records as the header says stand there, or none follows
abbrev pub Stops : (count : ℕ) → List Linked → List ℕ → Type 0
Stops count xs rest = (length xs ≡ count) ⊎ NoneFollows (levels_of count) xs rest

-- the records at the front of a file, up to the first that may not stand there
pub record Walk (f : List ℕ) : Type 0 where
  pub count : ℕ
  pub generation : ℕ
  pub xs : List Linked
  pub rest : List ℕ
  pub counted : count < 2 ^ 64
  pub numbered : generation < 2 ^ 64
  pub text : f ≡ header_text count generation ++ (spelled_from header_size xs ++ rest)
  pub stand : Stand (levels_of count) xs
  pub within : length xs ≤ count
  pub stops : Stops count xs rest

-- the links of record i
abbrev pub row : List (List ℕ) → ℕ → List ℕ
row [] i = []
row (r ∷ rs) zero = r
row (r ∷ rs) (suc i) = row rs i

-- A link is wrong that leads elsewhere than to its target's place, where that is known. Where there is no target it is to be 0.
abbrev pub IsWrong : (count : ℕ) → (places : List ℕ) → (target link : ℕ) → Type 0
IsWrong count places target link = ((target < count) × (target < length places) × (link ≢ slice_index places target)) ⊎ ((count ≤ target) × (link ≢ 0))

-- link j of record i is wrong
pub record LinkFails (count : ℕ) (rows : List (List ℕ)) (places : List ℕ) (i j : ℕ) : Type 0 where
  pub there : j < length (row rows i)
  pub wrong : IsWrong count places (i + 4 ^ (1 + j)) (slice_index (row rows i) j)

-- a link of record i is wrong
abbrev pub AnyFails : (count : ℕ) → (rows : List (List ℕ)) → (places : List ℕ) → (i : ℕ) → Type 0
AnyFails count rows places i = (j : ℕ) × LinkFails count rows places i j

-- a record is missing, or bytes follow the last
abbrev pub EndFails : {f : List ℕ} → Walk f → Type 0
EndFails w = (length w.xs < w.count) ⊎ (w.rest ≢ [])

-- record i is at fault, or the end is, which counts as the record behind the last
abbrev pub RecordFails : {f : List ℕ} → Walk f → ℕ → Type 0
RecordFails w i = AnyFails w.count (rows_in w.xs) (known_places header_size w.xs) i ⊎ ((i ≡ length w.xs) × EndFails w)

-- the lowest record at fault stands at this place
pub record FailsAt (f : List ℕ) (place : ℕ) : Type 0 where
  pub walk : Walk f
  pub index : ℕ
  pub here : place ≡ slice_index (known_places header_size walk.xs) index
  pub fails : RecordFails walk index
  pub lowest : (k : ℕ) → k < index → RecordFails walk k → ⊥

-- a cause that speaks of the file is right
abbrev pub IsCause : List ℕ → OpenError → Type 0
IsCause f errors.NotADatabase = HasNoHeader f
IsCause f (errors.BrokenAt place) = FailsAt f place
IsCause f errors.Fault = Unit {0}
IsCause f errors.NoMemory = Unit {0}

-- refused for this cause, or for one outside the file
abbrev pub Refuses : {T D : Type 0} → OpenError → Result T (Unopened D) → Type 0
Refuses cause (Ok s) = ⊥
Refuses cause (Err u) = (u.cause ≡ cause) ⊎ IsOutside u.cause

-- opened, or refused for a cause outside the file
abbrev pub Opens : {T D : Type 0} → Result T (Unopened D) → Type 0
Opens (Ok s) = Unit {0}
Opens (Err u) = IsOutside u.cause
