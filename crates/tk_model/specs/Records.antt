-- Records in order, and what changes make of them.
use Rattle.std.specs.Prelude.{◌≡◌, ℕ, ◌≤◌, Bool, true, List, [], ◌∷◌, length, Option, Some, None, if◌then◌else◌}
use Rattle.std.specs.Ordering.{is_lt, is_le, is_gt, is_ge}
use Rattle.std.specs.declared.cmp.Ordering.{Ordering}
use Rattle.std.specs.declared.cmp.Ordering.TheVariants.{Less, Equal, Greater}
use Rattle.tk_model.specs.Orders.{same_bytes, key_cmp}
use Rattle.tk_model.specs.declared.record.Order.{Order}
use Rattle.tk_model.specs.declared.record.Way.{Way}
use Rattle.tk_model.specs.declared.record.Way.TheVariants.{Up, Down}
use Rattle.tk_model.specs.declared.record.Bound.{Bound}
use Rattle.tk_model.specs.declared.record.Bound.TheVariants.{Edge, Over, From}
use Rattle.tk_model.specs.declared.record.Pair.{Pair}
use Rattle.tk_model.specs.declared.record.Group.{Group}
use Rattle.tk_model.specs.declared.record.Change.{Change}
use Rattle.tk_model.specs.declared.record.Change.TheVariants as changes

-- the value at a key
abbrev pub find : List ℕ → List Pair → Option (List ℕ)
find k [] = None
find k (p ∷ ps) = if same_bytes k p.key then Some p.value else find k ps

abbrev pub put_by : Ordering → Pair → Pair → List Pair → List Pair → List Pair
put_by Less new p ps deeper = new ∷ p ∷ ps
put_by Equal new p ps deeper = new ∷ ps
put_by Greater new p ps deeper = p ∷ deeper

-- the records with this one at its key
abbrev pub put : Order → Pair → List Pair → List Pair
put o new [] = new ∷ []
put o new (p ∷ ps) = put_by (key_cmp o new.key p.key) new p ps (put o new ps)

-- the records without this key
abbrev pub without : List ℕ → List Pair → List Pair
without k [] = []
without k (p ∷ ps) = if same_bytes k p.key then ps else p ∷ without k ps

abbrev pub after_one : Order → Change → List Pair → List Pair
after_one o (changes.Put p) m = put o p m
after_one o (changes.Drop k) m = without k m
after_one o changes.Clear m = []

-- the records after a list of changes
abbrev pub after : Order → List Change → List Pair → List Pair
after o [] m = m
after o (c ∷ cs) m = after o cs (after_one o c m)

-- the records after these groups
abbrev pub replay : Order → List Group → List Pair → List Pair
replay o [] m = m
replay o (g ∷ gs) m = replay o gs (after o g.changes m)

-- a key is within a bound: at or past its key, or strictly past it, in the way's direction
abbrev pub reaches : Order → Way → Bound → List ℕ → Bool
reaches o w Edge k = true
reaches o Up (Over b) k = is_lt (key_cmp o b k)
reaches o Up (From b) k = is_le (key_cmp o b k)
reaches o Down (Over b) k = is_gt (key_cmp o b k)
reaches o Down (From b) k = is_ge (key_cmp o b k)

abbrev pub first_within : Order → Bound → List Pair → Option Pair
first_within o b [] = None
first_within o b (p ∷ ps) = if reaches o Up b p.key then Some p else first_within o b ps

abbrev pub or_else : Option Pair → Option Pair → Option Pair
or_else (Some p) q = Some p
or_else None q = q

abbrev pub last_within : Order → Bound → List Pair → Option Pair
last_within o b [] = None
last_within o b (p ∷ ps) = or_else (last_within o b ps) (if reaches o Down b p.key then Some p else None)

-- the record that a bound names: the first within it, in the way's direction
abbrev pub named : Order → Way → Bound → List Pair → Option Pair
named o Up b m = first_within o b m
named o Down b m = last_within o b m

-- each key comes before those that follow
abbrev pub AllBehind : Order → List ℕ → List Pair → Type 0
AllBehind o k [] = Unit {0}
AllBehind o k (p ∷ ps) = (key_cmp o k p.key ≡ Less) × AllBehind o k ps

abbrev pub Rising : Order → List Pair → Type 0
Rising o [] = Unit {0}
Rising o (p ∷ ps) = AllBehind o p.key ps × Rising o ps

-- a clear is alone in its group
abbrev pub HasNoClear : List Change → Type 0
HasNoClear [] = Unit {0}
HasNoClear (changes.Clear ∷ cs) = ⊥
HasNoClear (changes.Put p ∷ cs) = HasNoClear cs
HasNoClear (changes.Drop k ∷ cs) = HasNoClear cs

abbrev pub IsClearAlone : List Change → Type 0
IsClearAlone (changes.Clear ∷ []) = Unit {0}
IsClearAlone cs = HasNoClear cs

-- keys and values that a file can hold
abbrev pub AllFit : List Change → Type 0
AllFit [] = Unit {0}
AllFit (changes.Put p ∷ cs) = (length p.key ≤ 65535) × (length p.value ≤ 33554431) × AllFit cs
AllFit (changes.Drop k ∷ cs) = (length k ≤ 65535) × AllFit cs
AllFit (changes.Clear ∷ cs) = AllFit cs

-- keys and values are no longer than a file can hold
abbrev pub AllHeld : List Pair → Type 0
AllHeld [] = Unit {0}
AllHeld (p ∷ ps) = (length p.key ≤ 65535) × (length p.value ≤ 33554431) × AllHeld ps
