-- Records in hash order, kept by bucket.
use Rattle.std.specs.Prelude.{◌≡◌, ℕ, ◌+◌, ◌-◌, ◌≤◌, ◌^◌, min, List, [], ◌∷◌, ◌++◌, length}
use Rattle.tk_model.specs.Hashes.{mix_of, bucket_of}
use Rattle.tk_model.specs.Records.{Rising}
use Rattle.tk_model.specs.declared.record.Order.TheVariants.{Hash}
use Rattle.tk_model.specs.declared.record.Bound.{Bound}
use Rattle.tk_model.specs.declared.record.Bound.TheVariants.{Edge, Over, From}
use Rattle.tk_model.specs.declared.record.Pair.{Pair}
use Rattle.tk_store.specs.declared.parting.Parting.{Parting}

-- the buckets one after the other
abbrev pub joined : List (List Pair) → List Pair
joined [] = []
joined (b ∷ bs) = b ++ joined bs

-- the bucket of a hash: 2 ^ p follow the start, and what is outside goes to the nearest
abbrev pub bucket_in : Parting → (mix : ℕ) → ℕ
bucket_in s mix = min (2 ^ s.p - 1) (bucket_of mix s.depth - s.start)

-- the hash of each key puts it into this bucket
abbrev pub AllOf : (s : Parting) (i : ℕ) → List Pair → Type 0
AllOf s i [] = Unit {0}
AllOf s i (q ∷ qs) = (bucket_in s (mix_of q.key) ≡ i) × AllOf s i qs

-- the buckets from this number on, each in order
abbrev pub Placed : (s : Parting) (i : ℕ) → List (List Pair) → Type 0
Placed p i [] = Unit {0}
Placed p i (b ∷ bs) = AllOf p i b × Rising Hash b × Placed p (i + 1) bs

-- all buckets, and the number of their records
pub record AreBuckets (s : Parting) (bs : List (List Pair)) (count : ℕ) : Type 0 where
  pub power : s.p ≤ 24
  pub depth : s.depth ≤ 48
  pub number : length bs ≡ 2 ^ s.p
  pub placed : Placed s 0 bs
  pub counted : count ≡ length (joined bs)

-- the first bucket that can have a record within a bound, on the way up
abbrev pub start_of : (p : ℕ) → Bound → ℕ
start_of p Edge = 0
start_of p (Over k) = bucket_of (mix_of k) p
start_of p (From k) = bucket_of (mix_of k) p

-- behind the last bucket that can have a record within a bound, on the way down
abbrev pub end_of : (p : ℕ) → Bound → ℕ
end_of p Edge = 2 ^ p
end_of p (Over k) = bucket_of (mix_of k) p + 1
end_of p (From k) = bucket_of (mix_of k) p + 1

-- the same of records in buckets
abbrev pub start_in : Parting → Bound → ℕ
start_in s Edge = 0
start_in s (Over k) = bucket_in s (mix_of k)
start_in s (From k) = bucket_in s (mix_of k)

abbrev pub end_in : Parting → Bound → ℕ
end_in s Edge = 2 ^ s.p
end_in s (Over k) = bucket_in s (mix_of k) + 1
end_in s (From k) = bucket_in s (mix_of k) + 1
