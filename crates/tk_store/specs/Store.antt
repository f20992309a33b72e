-- What a sequential store is, and what its calls do.
use Rattle.std.specs.Prelude.{◌≡◌, ℕ, ◌+◌, ◌*◌, ◌/◌, ◌≤◌, ◌^◌, min, max, Bool, true, false, not, ◌&&◌, ◌==◌, nat_lt, List, [], ◌∷◌, ◌++◌, length, take, drop, Option, Some, None, IfSome, Result, Ok, Err, ◌⊎◌, sum_by, if◌then◌else◌}
use Rattle.std.specs.Option.{is_some}
use Rattle.tk_store.specs.declared.error.StoreError.{StoreError}
use Rattle.tk_store.specs.declared.error.StoreError.TheVariants as errors
use Rattle.tk_model.specs.Counts.{HasCause as FaultHasCause}
use Rattle.tk_model.specs.declared.record.Order.{Order}
use Rattle.tk_model.specs.declared.record.Pair.{Pair}
use Rattle.tk_model.specs.declared.record.Group.{Group}
use Rattle.tk_model.specs.declared.record.Change.{Change}
use Rattle.tk_model.specs.declared.record.Change.TheVariants as changes

-- what never changes from the opening on
pub record StoreConstants : Type 0 where
  pub order : Order
  -- the limit that counts
  pub limit : ℕ
  -- the next number of the closing part at the opening
  pub next : ℕ
  -- the longest value that the store takes
  pub longest_value : ℕ
  -- opened for writing; a created store was
  pub writable : Bool
  -- a group without changes is a mark
  pub marks : Bool
  -- the file's version, where the store counts by extents
  pub extents : Option ℕ
  -- the bytes at the front of the store's file that no call changes, where it has any
  pub header : List ℕ
  -- the bytes that a list of changes takes in the store's log, where it has one
  pub log : Option (List Change → ℕ)

-- what calls change
pub record StoreView : Type 0 where
  -- the records in order, where the store tells them
  pub map : Option (List Pair)
  pub size : ℕ
  -- the least number that the next group may have
  pub floor : ℕ
  -- pages are held back in memory
  pub held_back : Bool
  -- close was called since the opening
  pub closed : Bool
  -- the next number that the file was ended with, where it was
  pub ended : Option ℕ
  -- the most bytes that a look-up of the key takes, where told
  pub cost : List ℕ → Option ℕ
  -- the bytes that a list of changes needs, where told
  pub needs : List Change → Option ℕ
  -- the size of the store's log, where it has one
  pub log_size : ℕ

-- a block of a file, by what it holds
pub record Block : Type 0 where
  pub place : ℕ
  pub extent : ℕ
  pub kind : ℕ
  pub last : Bool
  pub key : List ℕ
  pub value : List ℕ
  pub number : ℕ

-- a page of a tree
pub record Page : Type 0 where
  pub page_number : ℕ
  pub text : List ℕ

-- what a file held at the opening, in the words of its kind
pub data Held : Type 0 where
  Groups : List Group → Held
  Blocks : List Block → Held
  Pages : List Page → Held
  Records : Held

-- the opening
pub record First : Type 0 where
  pub records : List Pair
  pub held : Held

-- the groups that a list of changes makes: one, or a mark, or none
abbrev pub groups_made_by : StoreConstants → (number : ℕ) → List Change → List Group
groups_made_by n number [] = if n.marks && n.writable then record { number = number; changes = [] } ∷ [] else []
groups_made_by n number (c ∷ cs) = record { number = number; changes = c ∷ cs } ∷ []

-- the least number that the next group may have
abbrev pub floor_after : ℕ → List Group → ℕ
floor_after n [] = n
floor_after n (g ∷ gs) = floor_after (g.number + 1) gs

-- a file opened for writing is ended with the next number; one that is only read stays as it is
abbrev pub ended_by : StoreConstants → (next : ℕ) → Option ℕ
ended_by n next = if n.writable then Some next else None

-- no key is too long for a file, and no value longer than this
abbrev pub AllFitWithin : (longest : ℕ) → List Change → Type 0
AllFitWithin n [] = Unit {0}
AllFitWithin n (changes.Put p ∷ cs) = (length p.key ≤ 65535) × (length p.value ≤ n) × AllFitWithin n cs
AllFitWithin n (changes.Drop k ∷ cs) = (length k ≤ 65535) × AllFitWithin n cs
AllFitWithin n (changes.Clear ∷ cs) = AllFitWithin n cs

abbrev pub length_of : Change → ℕ
length_of (changes.Put p) = length p.key + length p.value
length_of (changes.Drop k) = length k
length_of changes.Clear = 0

-- the bytes of a block beside its key and value, by the file's version
abbrev pub overhead : ℕ → ℕ
overhead version = if version == 1 then 44 else 52

-- the least multiple of 8 that holds so many bytes, at least 48
abbrev pub extent_for : ℕ → ℕ
extent_for room = max 48 ((room + 7) / 8 * 8)

-- the extent of a change by the file's version
abbrev pub extent_of : (version : ℕ) → Change → ℕ
extent_of version c = extent_for (overhead version + length_of c)

-- what a list of changes needs where extents count: their sum; without changes the extent of a mark, or nothing
abbrev pub extents_need : StoreConstants → (version : ℕ) → List Change → ℕ
extents_need n version [] = if n.marks && n.writable then extent_for (overhead version) else 0
extents_need n version (c ∷ cs) = sum_by (extent_of version) (c ∷ cs)

abbrev pub is_empty : List Change → Bool
is_empty [] = true
is_empty (c ∷ cs) = false

-- the group would pass the limit; a list without changes that needs nothing never does
abbrev pub is_over : (size need limit : ℕ) → List Change → Bool
is_over size need limit cs = nat_lt limit (size + need) && not (is_empty cs && (need == 0))

-- a fault comes only where the count rose
abbrev pub HasCause : {T : Type 0} → (before now : ℕ) → Result T StoreError → Type 0
HasCause before now result = FaultHasCause errors.Fault before now result

abbrev pub NeverFull : {T : Type 0} → Result T StoreError → Type 0
NeverFull (Ok v) = Unit {0}
NeverFull (Err errors.Fault) = Unit {0}
NeverFull (Err (errors.Full size need limit)) = ⊥
NeverFull (Err errors.NoMemory) = Unit {0}

abbrev pub OkOrFault : {T : Type 0} → Result T StoreError → Type 0
OkOrFault (Ok v) = Unit {0}
OkOrFault (Err errors.Fault) = Unit {0}
OkOrFault (Err (errors.Full size need limit)) = ⊥
OkOrFault (Err errors.NoMemory) = ⊥

abbrev pub UnlessFault : {T : Type 0} → Result T StoreError → Type 0 → Type 0
UnlessFault (Ok v) P = P
UnlessFault (Err errors.Fault) P = Unit {0}
UnlessFault (Err (errors.Full size need limit)) P = P
UnlessFault (Err errors.NoMemory) P = P

abbrev pub OnFull : {T : Type 0} → Result T StoreError → Type 0 → Type 0
OnFull (Ok v) P = Unit {0}
OnFull (Err errors.Fault) P = Unit {0}
OnFull (Err (errors.Full size need limit)) P = P
OnFull (Err errors.NoMemory) P = Unit {0}

abbrev pub OnNoMemory : {T : Type 0} → Result T StoreError → Type 0 → Type 0
OnNoMemory (Ok v) P = Unit {0}
OnNoMemory (Err errors.Fault) P = Unit {0}
OnNoMemory (Err (errors.Full size need limit)) P = Unit {0}
OnNoMemory (Err errors.NoMemory) P = P

-- the store's own size and what the list needs pass its limit
pub record PassesLimit (n : StoreConstants) (s : StoreView) (cs : List Change) (size need limit : ℕ) : Type 0 where
  pub size_is : size ≡ s.size
  pub need_is : IfSome (s.needs cs) (λ m. need ≡ m)
  pub limit_is : limit ≡ n.limit
  pub over : is_over size need limit cs ≡ true

-- the size of the store's log and the bytes of the list there pass the log's limit
abbrev pub PassesLog : Option (List Change → ℕ) → (log_size : ℕ) → List Change → (size need limit : ℕ) → Type 0
PassesLog None log_size cs size need limit = ⊥
PassesLog (Some bytes) log_size cs size need limit = (size ≡ log_size) × (need ≡ bytes cs) × (limit ≡ 2 ^ 40) × (is_over size need limit cs ≡ true)

-- there is room for the group, in the store and in its log
pub record HasRoom (n : StoreConstants) (s : StoreView) (cs : List Change) : Type 0 where
  pub store : IfSome (s.needs cs) (λ need. is_over s.size need n.limit cs ≡ false)
  pub log : IfSome n.log (λ bytes. is_over s.log_size (bytes cs) (2 ^ 40) cs ≡ false)

-- full exactly where there is no room, with the numbers of the store or of its log
abbrev pub TellsFull : {T : Type 0} → StoreConstants → StoreView → List Change → Result T StoreError → Type 0
TellsFull n s cs (Ok v) = HasRoom n s cs
TellsFull n s cs (Err errors.Fault) = Unit {0}
TellsFull n s cs (Err (errors.Full size need limit)) = PassesLimit n s cs size need limit ⊎ PassesLog n.log s.log_size cs size need limit
TellsFull n s cs (Err errors.NoMemory) = Unit {0}

-- what a look-up does with the caller's bytes
abbrev pub Gives : Option (List ℕ) → (old new : List ℕ) → Bool → Type 0
Gives None old new found = (found ≡ false) × (new ≡ old)
Gives (Some v) old new found = (found ≡ true) × (new ≡ v)

-- as many bytes as fit, over those that stood there
abbrev pub copied : (value old : List ℕ) → List ℕ
copied v old = take (min (length old) (length v)) v ++ drop (min (length old) (length v)) old

abbrev pub GivesInto : Option (List ℕ) → (old new : List ℕ) → Option ℕ → Type 0
GivesInto None old new answer = (answer ≡ None) × (new ≡ old)
GivesInto (Some v) old new answer = (answer ≡ Some (length v)) × (new ≡ copied v old)

-- records, the least next number and closing stay; what it was ended with, size, costs, needs and held pages may change
pub record SameContents (old new : StoreView) : Type 0 where
  pub map : new.map ≡ old.map
  pub floor : new.floor ≡ old.floor
  pub closed : new.closed ≡ old.closed

module _ {S : Type 0} where
  -- the store stands for something: it wasn't given up
  abbrev pub IsWhole : (S → First → List Group → ℕ → Type 0) → S → Type 0
  IsWhole stands s = (first : First) × (since : List Group) × (hard : ℕ) × stands s first since hard

  -- it stands for all that it stood for
  abbrev pub Keeps : (S → First → List Group → ℕ → Type 0) → S → S → Type 0
  Keeps stands old new = (first : First) (since : List Group) (hard : ℕ) → stands old first since hard → stands new first since hard

  -- it stands for all that it stood for, and so since each time
  abbrev pub KeepsSince : (S → ℕ → ℕ → First → List Group → ℕ → Type 0) → S → S → Type 0
  KeepsSince kept_since old new = (t n : ℕ) (first : First) (since : List Group) (hard : ℕ) → kept_since old t n first since hard → kept_since new t n first since hard

  -- whatever the call answered, an untorn image restores to a front of the groups and of these more
  abbrev pub LeavesSafe : (S → ℕ → ℕ → First → List Group → ℕ → Type 0) → (S → ℕ → First → List Group → ℕ → Type 0) → List Group → S → S → Type 0
  LeavesSafe kept_since safe more old new = (t n : ℕ) (first : First) (since : List Group) (hard : ℕ) → kept_since old t n first since hard → safe new t first (since ++ more) n

  -- from before a look-up to after it: nothing was written, and what the store shows and stands for is as it was
  pub record OnlyLooks (constants : S → StoreConstants) (store_view : S → StoreView) (stands : S → First → List Group → ℕ → Type 0) (kept_since : S → ℕ → ℕ → First → List Group → ℕ → Type 0)
      (untouched : S → S → Type 0) (moment taken : S → ℕ) (old new : S) : Type 0 where
    pub same_nature : constants new ≡ constants old
    pub same_shown : store_view new ≡ store_view old
    pub keeps : Keeps stands old new
    pub keeps_since : KeepsSince kept_since old new
    pub writes_nothing : untouched old new
    pub later : moment old ≤ moment new
    pub more_taken : taken old ≤ taken new

  -- from before a call to after it, whatever it answered
  pub record GoesOn (constants : S → StoreConstants) (store_view : S → StoreView) (moment taken : S → ℕ) (old new : S) : Type 0 where
    pub same_nature : constants new ≡ constants old
    pub tells : is_some (store_view new).map ≡ is_some (store_view old).map
    pub later : moment old ≤ moment new
    pub more_taken : taken old ≤ taken new
