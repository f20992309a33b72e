-- The number of records behind changes, one at a time.
use Rattle.std.proofs.Common.{◌≡◌, ℕ, zero, suc, ◌+◌, ◌-◌, ◌<◌, Bool, true, false, cond, Option, Some, None, List, [], ◌∷◌, ◌++◌, length, get_or, take, refl, sym, ◌∙◌, ap, subst, inl, inr, arith}
use Rattle.std.specs.Prelude.{IfSome, if◌then◌else◌}
use Rattle.std.specs.Option.{is_some}
use Rattle.std.specs.declared.cmp.Ordering.{Ordering}
use Rattle.std.specs.declared.cmp.Ordering.TheVariants.{Less, Equal, Greater}
use Rattle.std.proofs.lemmas.List.{take_more}
use Rattle.tk_model.specs.Orders.{same_bytes, key_cmp}
use Rattle.tk_model.specs.Records.{find, put, put_by, without, after, after_one, AllBehind, Rising, HasNoClear}
use Rattle.tk_model.specs.declared.record.Order.TheVariants.{Hash}
use Rattle.tk_model.specs.declared.record.Pair.{Pair}
use Rattle.tk_model.specs.declared.record.Change.{Change}
use Rattle.tk_model.specs.declared.record.Change.TheVariants as changes
use Rattle.tk_model.proofs.KeyOrders.{keys_apart, same_told, same_itself}
use Rattle.tk_model.proofs.RecordLaws.{so_or_not, apart_greater, behind_earlier, none_behind, found_head, found_deeper, find_put_same, find_put_other, find_without_same, find_without_other, one_rising, after_rising}
use Rattle.tk_model.proofs.NetChanges.{after_append}
use Rattle.tk_block.specs.Blocks.{key_of}
use Rattle.tk_hash.specs.Plan.{mark_in, told_there, TellThere}

grow : (b : Bool) (n : ℕ) → suc (cond b n (n + 1)) ≡ cond b (suc n) (suc n + 1)
grow true n = refl
grow false n = omega arith

length-put_by : (c : Ordering) (new p : Pair) (ps deeper : List Pair) → key_cmp Hash new.key p.key ≡ c → AllBehind Hash p.key ps
    → length deeper ≡ cond (is_some (find new.key ps)) (length ps) (length ps + 1)
    → length (put_by c new p ps deeper) ≡ cond (is_some (find new.key (p ∷ ps))) (suc (length ps)) (suc (length ps) + 1)
length-put_by Less new p ps deeper is behind more =
    let none : find new.key (p ∷ ps) ≡ None = none_behind Hash new.key (p ∷ ps) (is, behind_earlier Hash new.key p.key ps is behind) in
    let long : suc (suc (length ps)) ≡ suc (length ps) + 1 = omega arith in
    long ∙ sym (ap (λ (o : Option (List ℕ)). cond (is_some o) (suc (length ps)) (suc (length ps) + 1)) none)
length-put_by Equal new p ps deeper is behind more =
    let same : find new.key (p ∷ ps) ≡ Some p.value = found_head new.key p ps (subst (λ (k : List ℕ). same_bytes new.key k ≡ true) (keys_apart Hash new.key p.key is) (same_itself new.key)) in
    sym (ap (λ (o : Option (List ℕ)). cond (is_some o) (suc (length ps)) (suc (length ps) + 1)) same)
length-put_by Greater new p ps deeper is behind more =
    let deep : find new.key (p ∷ ps) ≡ find new.key ps = found_deeper new.key p ps (apart_greater Hash new.key p.key is) in
    ap suc more ∙ grow (is_some (find new.key ps)) (length ps) ∙ sym (ap (λ (o : Option (List ℕ)). cond (is_some o) (suc (length ps)) (suc (length ps) + 1)) deep)

-- a record that is put is one more, unless its key was there
length-put : (new : Pair) (m : List Pair) → Rising Hash m → length (put Hash new m) ≡ cond (is_some (find new.key m)) (length m) (length m + 1)
length-put new [] rising = refl
length-put new (p ∷ ps) rising = length-put_by (key_cmp Hash new.key p.key) new p ps (put Hash new ps) refl rising.0 (length-put new ps rising.1)

less : (b : Bool) (n m : ℕ) → n + cond b 1 0 ≡ m → n ≡ cond b (m - 1) m
less true n m is = omega (arith, is)
less false n m is = omega (arith, is)

picked : (b : Bool) (k : List ℕ) (p : Pair) (ps deeper : List Pair) → same_bytes k p.key ≡ b → length deeper + cond (is_some (find k ps)) 1 0 ≡ length ps
    → length (if b then ps else p ∷ deeper) + cond (is_some (find k (p ∷ ps))) 1 0 ≡ length (p ∷ ps)
picked true k p ps deeper is more =
    let one : length ps + 1 ≡ length (p ∷ ps) = omega arith in
    ap (λ (o : Option (List ℕ)). length ps + cond (is_some o) 1 0) (found_head k p ps is) ∙ one
picked false k p ps deeper is more =
    ap (λ (o : Option (List ℕ)). suc (length deeper) + cond (is_some o) 1 0) (found_deeper k p ps is) ∙ omega (arith, more)

with_dropped : (k : List ℕ) (m : List Pair) → length (without k m) + cond (is_some (find k m)) 1 0 ≡ length m
with_dropped k [] = refl
with_dropped k (p ∷ ps) = picked (same_bytes k p.key) k p ps (without k ps) refl (with_dropped k ps)

-- a key that is dropped is one less, if it was there
length-without : (k : List ℕ) (m : List Pair) → length (without k m) ≡ cond (is_some (find k m)) (length m - 1) (length m)
length-without k m = less (is_some (find k m)) (length (without k m)) (length m) (with_dropped k m)

-- what a change of a key makes of the number of records
module _ (m : List Pair) (count : ℕ) (there : Bool) (rising : Rising Hash m) (all : count ≡ length m) where
  pub put_there : (p : Pair) → there ≡ is_some (find p.key m) → there ≡ true → count ≡ length (put Hash p m)
  put_there p is told = all ∙ sym (length-put p m rising ∙ ap (λ (b : Bool). cond b (length m) (length m + 1)) (sym is ∙ told))

  pub put_new : (p : Pair) (n : ℕ) → there ≡ is_some (find p.key m) → there ≡ false → n ≡ count + 1 → n ≡ length (put Hash p m)
  put_new p n is told more = more ∙ ap (λ (k : ℕ). k + 1) all ∙ sym (length-put p m rising ∙ ap (λ (b : Bool). cond b (length m) (length m + 1)) (sym is ∙ told))

  pub drop_there : (k : List ℕ) (n : ℕ) → there ≡ is_some (find k m) → there ≡ true → n ≡ count - 1 → n ≡ length (without k m)
  drop_there k n is told fewer = fewer ∙ ap (λ (k : ℕ). k - 1) all ∙ sym (length-without k m ∙ ap (λ (b : Bool). cond b (length m - 1) (length m)) (sym is ∙ told))

  pub drop_none : (k : List ℕ) → there ≡ is_some (find k m) → there ≡ false → count ≡ length (without k m)
  drop_none k is told = all ∙ sym (length-without k m ∙ ap (λ (b : Bool). cond b (length m - 1) (length m)) (sym is ∙ told))

-- the marks tell of each key whether it is there
abbrev pub Tell : (marks first now : List Pair) → Type 0
Tell marks first now = (k : List ℕ) → told_there (find k marks) (is_some (find k first)) ≡ is_some (find k now)

tell_put : (p : Pair) (marks first now : List Pair) → Tell marks first now → Tell (put Hash (mark_in (changes.Put p)) marks) first (put Hash p now)
tell_put p marks first now tell k = elim (so_or_not (same_bytes k p.key)) [
  | inl same ↦
      let e : k ≡ p.key = same_told k p.key same in
      ap (λ (j : List ℕ). told_there (find j (put Hash (mark_in (changes.Put p)) marks)) (is_some (find j first))) e
      ∙ ap (λ (o : Option (List ℕ)). told_there o (is_some (find p.key first))) (find_put_same Hash (mark_in (changes.Put p)) marks)
      ∙ sym (ap (λ (j : List ℕ). is_some (find j (put Hash p now))) e ∙ ap is_some (find_put_same Hash p now))
  | inr other ↦
      ap (λ (o : Option (List ℕ)). told_there o (is_some (find k first))) (find_put_other Hash k (mark_in (changes.Put p)) marks other) ∙ tell k ∙ ap is_some (sym (find_put_other Hash k p now other))
]

tell_drop : (j : List ℕ) (marks first now : List Pair) → Rising Hash now → Tell marks first now → Tell (put Hash (mark_in (changes.Drop j)) marks) first (without j now)
tell_drop j marks first now rising tell k = elim (so_or_not (same_bytes k j)) [
  | inl same ↦
      let e : k ≡ j = same_told k j same in
      ap (λ (i : List ℕ). told_there (find i (put Hash (mark_in (changes.Drop j)) marks)) (is_some (find i first))) e
      ∙ ap (λ (o : Option (List ℕ)). told_there o (is_some (find j first))) (find_put_same Hash (mark_in (changes.Drop j)) marks)
      ∙ sym (ap (λ (i : List ℕ). is_some (find i (without j now))) e ∙ ap is_some (find_without_same Hash j now rising))
  | inr other ↦
      ap (λ (o : Option (List ℕ)). told_there o (is_some (find k first))) (find_put_other Hash k (mark_in (changes.Drop j)) marks other) ∙ tell k ∙ ap is_some (sym (find_without_other k j now other))
]

tell_one : (c : Change) (marks first now : List Pair) → HasNoClear (c ∷ []) → Rising Hash now → Tell marks first now → Tell (put Hash (mark_in c) marks) first (after_one Hash c now)
tell_one (changes.Put p) marks first now none rising tell = tell_put p marks first now tell
tell_one (changes.Drop k) marks first now none rising tell = tell_drop k marks first now rising tell
tell_one changes.Clear marks first now none rising tell = absurd none

no_clear_at : (i : ℕ) (cs : List Change) (d : Change) → i < length cs → HasNoClear cs → HasNoClear (get_or cs i d ∷ [])
no_clear_at i [] d within none = absurd (omega (arith, within))
no_clear_at zero (changes.Put p ∷ cs) d within none = tt
no_clear_at zero (changes.Drop k ∷ cs) d within none = tt
no_clear_at zero (changes.Clear ∷ cs) d within none = absurd none
no_clear_at (suc i) (changes.Put p ∷ cs) d within none = no_clear_at i cs d (omega (arith, within)) none
no_clear_at (suc i) (changes.Drop k ∷ cs) d within none = no_clear_at i cs d (omega (arith, within)) none
no_clear_at (suc i) (changes.Clear ∷ cs) d within none = absurd none

pub tell_none : (marks : List Pair) → marks ≡ [] → TellThere [] marks
tell_none marks is k m rising = ap (λ (l : List Pair). told_there (find k l) (is_some (find k m))) is

-- the mark of one change more
pub tell_more : (cs : List Change) (i j : ℕ) (d : Change) (marks : List Pair) → j ≡ i + 1 → i < length cs → HasNoClear cs → TellThere (take i cs) marks → TellThere (take j cs) (put Hash (mark_in (get_or cs i d)) marks)
tell_more cs i j d marks is within none tell k m rising =
    let c = get_or cs i d in
    let now : List Pair = after Hash (take i cs) m in
    let all : after Hash (take j cs) m ≡ after_one Hash c now =
    ap (λ (n : ℕ). after Hash (take n cs) m) is ∙ ap (λ (l : List Change). after Hash l m) (take_more cs i d within) ∙ after_append Hash (take i cs) (c ∷ []) m in
    tell_one c marks m now (no_clear_at i cs d within none) (after_rising Hash (take i cs) m rising) (λ q. tell q m rising) k ∙ ap (λ (l : List Pair). is_some (find k l)) (sym all)

-- the count behind one change more
pub counted_more : (cs : List Change) (i count n : ℕ) (c : Change) (there : Bool) (marks first : List Pair) → i < length cs → c ≡ get_or cs i c → Rising Hash first
    → count ≡ length (after Hash (take i cs) first) → TellThere (take i cs) marks → there ≡ told_there (find (key_of c) marks) (is_some (find (key_of c) first))
    → ((m : List Pair) → Rising Hash m → count ≡ length m → there ≡ is_some (find (key_of c) m) → n ≡ length (after_one Hash c m))
    → n ≡ length (after Hash (take (i + 1) cs) first)
counted_more cs i count n c there marks first within is rising so_far tell told counted =
    let now : List Pair = after Hash (take i cs) first in
    let all : after Hash (take (i + 1) cs) first ≡ after_one Hash c now =
    ap (λ (l : List Change). after Hash l first) (take_more cs i c within ∙ ap (λ (x : Change). take i cs ++ x ∷ []) (sym is)) ∙ after_append Hash (take i cs) (c ∷ []) first in
    counted now (after_rising Hash (take i cs) first rising) so_far (told ∙ tell (key_of c) first rising) ∙ ap length (sym all)

pub counted_first : (o : Option (List ℕ)) (P : List ℕ → Type 0) (Q : Type 0) → IfSome o (λ f. P f → Q → Q)
counted_first None P Q = tt
counted_first (Some f) P Q = λ file is. is
