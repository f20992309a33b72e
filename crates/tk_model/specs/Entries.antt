-- Calls as plain data: when they are legal, and what they do to the records.
use Rattle.std.specs.Prelude.{ℕ, ◌+◌, ◌==◌, nat_le, Bool, true, false, not, ◌&&◌, ◌||◌, List, [], ◌∷◌, length, filter, ◌++◌, Option, Some, None, is_some, if◌then◌else◌}
use Rattle.std.specs.List.{list_all, flat_map}
use Rattle.tk_model.specs.Hashes.{mix_of, shard_of}
use Rattle.tk_model.specs.Orders.{same_bytes}
use Rattle.tk_model.specs.Records.{find, put, without, named}
use Rattle.tk_model.specs.declared.record.Order.{Order}
use Rattle.tk_model.specs.declared.record.Pair.{Pair}
use Rattle.tk_model.specs.declared.record.Group.{Group}
use Rattle.tk_model.specs.declared.record.Touch.{Touch}
use Rattle.tk_model.specs.declared.record.Action.{Action}
use Rattle.tk_model.specs.declared.record.Action.TheVariants as actions
use Rattle.tk_model.specs.declared.record.Entry.{Entry}
use Rattle.tk_model.specs.declared.record.Entry.TheVariants as entries
use Rattle.tk_model.specs.declared.record.Change.{Change}
use Rattle.tk_model.specs.declared.record.Change.TheVariants as changes
use Rattle.tk_model.specs.declared.record.ShardOf.{ShardOf}

-- the records after an action at a key
abbrev pub touched : Order → List ℕ → Action → List Pair → List Pair
touched o k actions.Keep m = m
touched o k (actions.Put v) m = put o (record { key = k; value = v }) m
touched o k actions.Drop m = without k m

-- the records after the actions in turn
abbrev pub all_touched : Order → List Touch → List Pair → List Pair
all_touched o [] m = m
all_touched o (t ∷ ts) m = all_touched o ts (touched o t.key t.action m)

-- the same value, or none at both
abbrev pub same_value : Option (List ℕ) → Option (List ℕ) → Bool
same_value None None = true
same_value None (Some w) = false
same_value (Some v) None = false
same_value (Some v) (Some w) = same_bytes v w

abbrev pub same_record : Option Pair → Option Pair → Bool
same_record None None = true
same_record None (Some q) = false
same_record (Some p) None = false
same_record (Some p) (Some q) = same_bytes p.key q.key && same_bytes p.value q.value

-- what each touch says was there is the value in the map so far
abbrev pub all_were : Order → List Touch → List Pair → Bool
all_were o [] m = true
all_were o (t ∷ ts) m = same_value t.was (find t.key m) && all_were o ts (touched o t.key t.action m)

-- the touches are at all records in order, and say their values
abbrev pub are_all : List Touch → List Pair → Bool
are_all [] [] = true
are_all [] (p ∷ ps) = false
are_all (t ∷ ts) [] = false
are_all (t ∷ ts) (p ∷ ps) = same_bytes t.key p.key && same_value t.was (Some p.value) && are_all ts ps

abbrev pub is_keep : Action → Bool
is_keep actions.Keep = true
is_keep (actions.Put v) = false
is_keep actions.Drop = false

-- the bytes that an action stores
abbrev pub stored : Action → ℕ
stored actions.Keep = 0
stored (actions.Put v) = length v
stored actions.Drop = 0

-- a file can hold the key and what is stored there
abbrev pub fits : Touch → Bool
fits t = nat_le (length t.key) 65535 && nat_le (stored t.action) 33554431

-- the touches of an entry, in turn
abbrev pub touches : Entry → List Touch
touches (entries.Proc ts) = ts
touches (entries.Next w b None a) = []
touches (entries.Next w b (Some p) a) = record { key = p.key; was = Some p.value; action = a } ∷ []
touches (entries.Each ts) = ts
touches (entries.Count n) = []
touches entries.Clear = []
touches (entries.Sync hard) = []

-- what the entry tells of the map is true
abbrev pub tells : Order → Entry → List Pair → Bool
tells o (entries.Proc ts) m = all_were o ts m
tells o (entries.Next w b found a) m = same_record found (named o w b m) && (is_some found || is_keep a)
tells o (entries.Each ts) m = are_all ts m
tells o (entries.Count n) m = n == length m
tells o entries.Clear m = true
tells o (entries.Sync hard) m = true

-- the entry may be made on this map
abbrev pub is_legal : Order → List Pair → Entry → Bool
is_legal o m e = tells o e m && list_all fits (touches e)

-- the records after an entry
abbrev pub after_entry : Order → Entry → List Pair → List Pair
after_entry o (entries.Proc ts) m = all_touched o ts m
after_entry o (entries.Next w b found a) m = all_touched o (touches (entries.Next w b found a)) m
after_entry o (entries.Each ts) m = all_touched o ts m
after_entry o (entries.Count n) m = m
after_entry o entries.Clear m = []
after_entry o (entries.Sync hard) m = m

-- the records after an entry where it is legal, and none elsewhere
abbrev pub step : Order → List Pair → Entry → Option (List Pair)
step o m e = if is_legal o m e then Some (after_entry o e m) else None

-- each entry is legal in turn
abbrev pub legal : Order → List Pair → List Entry → Bool
legal o m [] = true
legal o m (e ∷ es) = is_legal o m e && legal o (after_entry o e m) es

-- the records after these entries
abbrev pub replay_entries : Order → List Entry → List Pair → List Pair
replay_entries o [] m = m
replay_entries o (e ∷ es) m = replay_entries o es (after_entry o e m)

-- the keys with a put or a drop, in the order of their first such touch
abbrev pub written_keys : List Touch → List (List ℕ)
written_keys [] = []
written_keys (t ∷ ts) =
    if is_keep t.action then written_keys ts
    else t.key ∷ filter (λ k. not (same_bytes t.key k)) (written_keys ts)

-- the change at a key, from the value before to the value after
abbrev pub net_change : List ℕ → Option (List ℕ) → Option (List ℕ) → List Change
net_change k before (Some v) = changes.Put (record { key = k; value = v }) ∷ []
net_change k (Some u) None = changes.Drop k ∷ []
net_change k None None = []

-- the net changes of touches, from the records before to those after
abbrev pub net_changes : List (List ℕ) → List Pair → List Pair → List Change
net_changes ks before after = flat_map (λ k. net_change k (find k before) (find k after)) ks

abbrev pub changes_of : Order → List Pair → Entry → List Change
changes_of o m entries.Clear = changes.Clear ∷ []
changes_of o m e = net_changes (written_keys (touches e)) m (after_entry o e m)

-- the key belongs to this shard
abbrev pub holds_key : ShardOf → List ℕ → Bool
holds_key s k = shard_of (mix_of k) s.of == s.index

-- the records of this shard
abbrev pub shard_records : ShardOf → List Pair → List Pair
shard_records s m = filter (λ p. holds_key s p.key) m

-- the change concerns this shard
abbrev pub is_in_shard : ShardOf → Change → Bool
is_in_shard s (changes.Put p) = holds_key s p.key
is_in_shard s (changes.Drop k) = holds_key s k
is_in_shard s changes.Clear = true

abbrev pub group_of : ℕ → List Change → List Group
group_of n [] = []
group_of n (c ∷ cs) = record { number = n; changes = c ∷ cs } ∷ []

-- the groups of a shard, where the first of these entries has this number
abbrev pub parts : Order → ShardOf → ℕ → List Pair → List Entry → List Group
parts o s n m [] = []
parts o s n m (e ∷ es) = group_of n (filter (is_in_shard s) (changes_of o m e)) ++ parts o s (n + 1) (after_entry o e m) es
