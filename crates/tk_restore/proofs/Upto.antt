-- Records whose hashes rise, one after the other.
use Rattle.std.proofs.Common.{◌≡◌, ◌⊎◌, ℕ, ◌<◌, ◌≤◌, Bool, true, false, List, [], ◌∷◌, ◌++◌, refl, sym, ap, subst, ◌∙◌, arith}
use Rattle.std.specs.Prelude.{Option, Some, None, nat_lt, if◌then◌else◌, slice_set, insert, remove}
use Rattle.std.proofs.lemmas.Bool.Decides.{nat_tests}
use Rattle.std.proofs.lemmas.List.{append-nil}
use Rattle.std.specs.Cmp.{nat_cmp_is}
use Rattle.std.specs.Ordering.{nat_cmp, ordering_then}
use Rattle.std.specs.declared.cmp.Ordering.{Ordering}
use Rattle.std.specs.declared.cmp.Ordering.TheVariants.{Less, Equal, Greater}
use Rattle.tk_model.specs.Hashes.{mix_of}
use Rattle.tk_model.specs.Orders.{key_cmp, bytes_cmp, same_bytes}
use Rattle.tk_model.specs.Records.{put, put_by, without, Rising}
use Rattle.tk_model.specs.declared.record.Order.TheVariants.{Hash}
use Rattle.tk_model.specs.declared.record.Pair.{Pair}
use Rattle.tk_model.specs.Places.{GoesAt, GoesBefore}
use Rattle.tk_model.proofs.RecordLaws.{put_rising, without_rising}
use Rattle.tk_store.proofs.Joined.{AllBefore, put_past}
use Rattle.tk_restore.specs.Rising.{is_past, AllUpto, IsUpto}
use Rattle.tk_restore.proofs.Placing.{without_past}

lower_first : (a b : List ℕ) → mix_of a < mix_of b → key_cmp Hash a b ≡ Less
unfolding key_cmp
lower_first a b below =
    let e : Less ≡ nat_cmp (mix_of a) (mix_of b) = nat_cmp_is (mix_of a) (mix_of b) Less below in
    ap (λ o. ordering_then o (bytes_cmp a b)) (sym e)

before : (k : List ℕ) (hash : ℕ) (m : List Pair) → hash < mix_of k → AllUpto hash m → AllBefore k m
before k hash [] past all = tt
before k hash (p ∷ m) past all = (lower_first p.key k (omega (arith, all.0)), before k hash m past all.1)

below : (last hash : ℕ) → nat_lt last hash ≡ true → last < hash
below last hash is = grind (arith, nat_tests)

-- a hash that is past all is that of a key behind all
pub past_all : (last : Option ℕ) (k : List ℕ) (m : List Pair) → IsUpto last m → is_past last (mix_of k) ≡ true → AllBefore k m
past_all None k m none past = subst (AllBefore k) (sym none) tt
past_all (Some hash) k m all past = before k hash m (below hash (mix_of k) past) all

pub put_last : (new : Pair) (m : List Pair) → AllBefore new.key m → put Hash new m ≡ m ++ new ∷ []
put_last new m all = ap (put Hash new) (sym (append-nil m)) ∙ put_past new m [] all

pub without_last : (k : List ℕ) (m : List Pair) → AllBefore k m → without k m ≡ m
without_last k m all = ap (without k) (sym (append-nil m)) ∙ without_past k m [] all ∙ append-nil m

upto_wider : (last hash : ℕ) (m : List Pair) → last ≤ hash → AllUpto last m → AllUpto hash m
upto_wider last hash [] le all = tt
upto_wider last hash (p ∷ m) le all = (omega (arith, all.0), upto_wider last hash m le all.1)

-- it bounds them
pub past_bounds : (last : Option ℕ) (hash : ℕ) (m : List Pair) → IsUpto last m → is_past last hash ≡ true → IsUpto (Some hash) m
past_bounds None hash m none past = subst (AllUpto hash) (sym none) tt
past_bounds (Some last) hash m all past = let less = below last hash past in upto_wider last hash m (omega arith) all

upto_by : (o : Ordering) (hash : ℕ) (new p : Pair) (m deeper : List Pair) → mix_of new.key ≤ hash → AllUpto hash (p ∷ m) → AllUpto hash deeper → AllUpto hash (put_by o new p m deeper)
upto_by Less hash new p m deeper le all more = (le, all)
upto_by Equal hash new p m deeper le all more = (le, all.1)
upto_by Greater hash new p m deeper le all more = (all.0, more)

put_upto : (hash : ℕ) (new : Pair) (m : List Pair) → mix_of new.key ≤ hash → AllUpto hash m → AllUpto hash (put Hash new m)
put_upto hash new [] le all = (le, tt)
put_upto hash new (p ∷ m) le all = upto_by (key_cmp Hash new.key p.key) hash new p m (put Hash new m) le all (put_upto hash new m le all.1)

pick_upto : (so : Bool) (hash : ℕ) (p : Pair) (m deeper : List Pair) → AllUpto hash (p ∷ m) → AllUpto hash deeper → AllUpto hash (if so then m else p ∷ deeper)
pick_upto true hash p m deeper all more = all.1
pick_upto false hash p m deeper all more = (all.0, more)

without_upto : (hash : ℕ) (k : List ℕ) (m : List Pair) → AllUpto hash m → AllUpto hash (without k m)
without_upto hash k [] all = tt
without_upto hash k (p ∷ m) all = pick_upto (same_bytes k p.key) hash p m (without k m) all (without_upto hash k m all.1)

within : (last hash : ℕ) → nat_lt last hash ≡ false → hash ≤ last
within last hash is = grind (arith, nat_tests)

-- the bound stays where a hash isn't past it, and where a record goes
pub put_within : (last : Option ℕ) (hash : ℕ) (new : Pair) (m : List Pair) → hash ≡ mix_of new.key → is_past last hash ≡ false → IsUpto last m → IsUpto last (put Hash new m)
put_within None hash new m is past all = absurd (cc past)
put_within (Some last) hash new m is past all = put_upto last new m (omega (arith, is, within last hash past)) all

pub without_within : (last : Option ℕ) (k : List ℕ) (m : List Pair) → IsUpto last m → IsUpto last (without k m)
without_within None k m none = ap (without k) none
without_within (Some last) k m all = without_upto last k m all

-- ---- the records behind one change

last_upto : (new : Pair) (hash : ℕ) (m : List Pair) → mix_of new.key ≤ hash → AllUpto hash m → AllUpto hash (m ++ new ∷ [])
last_upto new hash [] le all = (le, tt)
last_upto new hash (p ∷ m) le all = (all.0, last_upto new hash m le all.1)

module _ (last : Option ℕ) (hash : ℕ) (new : Pair) (m : List Pair) (bound : Rising Hash m × IsUpto last m) (is : hash ≡ mix_of new.key) where
  pub pushed_put : is_past last hash ≡ true → m ++ new ∷ [] ≡ put Hash new m
  pushed_put past = sym (put_last new m (past_all last new.key m bound.1 (ap (is_past last) (sym is) ∙ past)))

  pub pushed_bound : is_past last hash ≡ true → Rising Hash (m ++ new ∷ []) × AllUpto hash (m ++ new ∷ [])
  pushed_bound past = (subst (Rising Hash) (sym (pushed_put past)) (put_rising Hash new m bound.0), last_upto new hash m (omega (arith, is)) (past_bounds last hash m bound.1 past))

  pub put_bound : (next : List Pair) → next ≡ put Hash new m → is_past last hash ≡ false → Rising Hash next × IsUpto last next
  put_bound next made past = subst (λ (l : List Pair). Rising Hash l × IsUpto last l) (sym made) (put_rising Hash new m bound.0, put_within last hash new m is past bound.1)

pub set_goes : (k : List ℕ) (m ps : List Pair) (i : ℕ) (new : Pair) → GoesAt Hash k m i → k ≡ new.key → m ≡ ps → slice_set ps i new ≡ put Hash new ps
set_goes k m ps i new goes key same = subst (λ (l : List Pair). slice_set l i new ≡ put Hash new l) same (sym (goes.replaced new (sym key)))

pub insert_goes : (k : List ℕ) (m ps : List Pair) (i : ℕ) (new : Pair) → GoesBefore Hash k m i → k ≡ new.key → m ≡ ps → insert ps i new ≡ put Hash new ps
insert_goes k m ps i new goes key same = subst (λ (l : List Pair). insert l i new ≡ put Hash new l) same (sym (goes.inserted new (sym key)))

pub removed_bound : (last : Option ℕ) (k : List ℕ) (m ps next : List Pair) (i : ℕ) → without k m ≡ remove m i → m ≡ ps → next ≡ remove ps i → Rising Hash ps × IsUpto last ps → Rising Hash next × IsUpto last next
removed_bound last k m ps next i stands same made bound =
    let is : next ≡ without k ps = made ∙ subst (λ (l : List Pair). remove l i ≡ without k l) same (sym stands) in
    subst (λ (l : List Pair). Rising Hash l × IsUpto last l) (sym is) (without_rising Hash k ps bound.0, without_within last k ps bound.1)
