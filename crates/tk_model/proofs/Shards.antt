-- The groups of a shard lead to the records of that shard.
use Rattle.std.proofs.Common.{◌≡◌, ℕ, suc, ◌+◌, Bool, true, false, ◌⊎◌, inl, inr, List, [], ◌∷◌, ◌++◌, length, filter, Option, None, refl, sym, ap, subst, ◌∙◌, arith, append_assoc, if◌then◌else◌}
use Rattle.std.proofs.lemmas.List.{append-nil}
use Rattle.std.specs.declared.cmp.Ordering.TheVariants.{Less}
use Rattle.tk_model.specs.Orders.{same_bytes, key_cmp}
use Rattle.tk_model.specs.Records.{find, put, without, after_one, after, replay, AllBehind, Rising}
use Rattle.tk_model.specs.Entries.{after_entry, replay_entries, changes_of, holds_key, shard_records, is_in_shard, group_of, parts}
use Rattle.tk_model.proofs.KeyOrders.{same_told}
use Rattle.tk_model.proofs.RecordLaws.{so_or_not, found_head, found_deeper, put_rising, without_rising, one_rising, entry_rising, find_put_same, find_put_other, find_without_same, find_without_other, same_records}
use Rattle.tk_model.proofs.NetChanges.{changes_reach}
use Rattle.tk_model.specs.declared.record.Order.{Order}
use Rattle.tk_model.specs.declared.record.Pair.{Pair}
use Rattle.tk_model.specs.declared.record.Group.{Group}
use Rattle.tk_model.specs.declared.record.Change.{Change}
use Rattle.tk_model.specs.declared.record.Change.TheVariants as changes
use Rattle.tk_model.specs.declared.record.Entry.{Entry}
use Rattle.tk_model.specs.declared.record.ShardOf.{ShardOf}

-- ---- the records of a shard

shard_behind_by : (o : Order) (s : ShardOf) (k : List ℕ) (p : Pair) (ps : List Pair) (b : Bool) → key_cmp o k p.key ≡ Less → AllBehind o k (shard_records s ps)
    → AllBehind o k (if b then p ∷ shard_records s ps else shard_records s ps)
shard_behind_by o s k p ps true e more = (e, more)
shard_behind_by o s k p ps false e more = more

shard_behind : (o : Order) (s : ShardOf) (k : List ℕ) (m : List Pair) → AllBehind o k m → AllBehind o k (shard_records s m)
shard_behind o s k [] all = tt
shard_behind o s k (p ∷ ps) all = shard_behind_by o s k p ps (holds_key s p.key) all.0 (shard_behind o s k ps all.1)

shard_rising_by : (o : Order) (s : ShardOf) (p : Pair) (ps : List Pair) (b : Bool) → AllBehind o p.key (shard_records s ps) → Rising o (shard_records s ps)
    → Rising o (if b then p ∷ shard_records s ps else shard_records s ps)
shard_rising_by o s p ps true behind more = (behind, more)
shard_rising_by o s p ps false behind more = more

pub shard_rising : (o : Order) (s : ShardOf) (m : List Pair) → Rising o m → Rising o (shard_records s m)
shard_rising o s [] rising = tt
shard_rising o s (p ∷ ps) rising = shard_rising_by o s p ps (holds_key s p.key) (shard_behind o s p.key ps rising.0) (shard_rising o s ps rising.1)

-- a value where the shard has the key
abbrev only : Bool → Option (List ℕ) → Option (List ℕ)
only b v = if b then v else None

shard_find_by : (s : ShardOf) (k : List ℕ) (p : Pair) (ps : List Pair) (b c : Bool) → holds_key s p.key ≡ b → same_bytes k p.key ≡ c
    → find k (shard_records s ps) ≡ only (holds_key s k) (find k ps)
    → find k (if b then p ∷ shard_records s ps else shard_records s ps) ≡ only (holds_key s k) (find k (p ∷ ps))
shard_find_by s k p ps true true held same more =
    let holds : holds_key s k ≡ true = ap (holds_key s) (same_told k p.key same) ∙ held in
    found_head k p (shard_records s ps) same ∙ sym (ap (λ b. only b (find k (p ∷ ps))) holds ∙ found_head k p ps same)
shard_find_by s k p ps true false held other more =
    found_deeper k p (shard_records s ps) other ∙ more ∙ sym (ap (only (holds_key s k)) (found_deeper k p ps other))
shard_find_by s k p ps false true held same more =
    let holds : holds_key s k ≡ false = ap (holds_key s) (same_told k p.key same) ∙ held in
    more ∙ ap (λ b. only b (find k ps)) holds ∙ sym (ap (λ b. only b (find k (p ∷ ps))) holds)
shard_find_by s k p ps false false held other more =
    more ∙ sym (ap (only (holds_key s k)) (found_deeper k p ps other))

only_none : (b : Bool) → None ≡ only b None
only_none true = refl
only_none false = refl

pub shard_find : (s : ShardOf) (k : List ℕ) (m : List Pair) → find k (shard_records s m) ≡ only (holds_key s k) (find k m)
shard_find s k [] = only_none (holds_key s k)
shard_find s k (p ∷ ps) = shard_find_by s k p ps (holds_key s p.key) (same_bytes k p.key) refl refl (shard_find s k ps)

-- ---- changes

put_held : (o : Order) (s : ShardOf) (p : Pair) (m : List Pair) (k : List ℕ) → holds_key s p.key ≡ true → (same_bytes k p.key ≡ true) ⊎ (same_bytes k p.key ≡ false)
    → find k (put o p (shard_records s m)) ≡ find k (shard_records s (put o p m))
put_held o s p m k held (inl same) =
    let at_p : k ≡ p.key = same_told k p.key same in
    subst (λ j. find j (put o p (shard_records s m)) ≡ find j (shard_records s (put o p m))) (sym at_p)
    (find_put_same o p (shard_records s m) ∙ sym (shard_find s p.key (put o p m) ∙ ap (λ b. only b (find p.key (put o p m))) held ∙ find_put_same o p m))
put_held o s p m k held (inr other) =
    find_put_other o k p (shard_records s m) other ∙ shard_find s k m
    ∙ sym (shard_find s k (put o p m) ∙ ap (only (holds_key s k)) (find_put_other o k p m other))

put_foreign : (o : Order) (s : ShardOf) (p : Pair) (m : List Pair) (k : List ℕ) → holds_key s p.key ≡ false → (same_bytes k p.key ≡ true) ⊎ (same_bytes k p.key ≡ false)
    → find k (shard_records s m) ≡ find k (shard_records s (put o p m))
put_foreign o s p m k foreign (inl same) =
    let holds : holds_key s k ≡ false = ap (holds_key s) (same_told k p.key same) ∙ foreign in
    shard_find s k m ∙ ap (λ b. only b (find k m)) holds ∙ sym (shard_find s k (put o p m) ∙ ap (λ b. only b (find k (put o p m))) holds)
put_foreign o s p m k foreign (inr other) =
    shard_find s k m ∙ sym (shard_find s k (put o p m) ∙ ap (only (holds_key s k)) (find_put_other o k p m other))

drop_held : (o : Order) (s : ShardOf) (j : List ℕ) (m : List Pair) (k : List ℕ) → Rising o m → (same_bytes k j ≡ true) ⊎ (same_bytes k j ≡ false)
    → find k (without j (shard_records s m)) ≡ find k (shard_records s (without j m))
drop_held o s j m k rising (inl same) =
    let at_j : k ≡ j = same_told k j same in
    subst (λ i. find i (without j (shard_records s m)) ≡ find i (shard_records s (without j m))) (sym at_j)
    (find_without_same o j (shard_records s m) (shard_rising o s m rising)
    ∙ sym (shard_find s j (without j m) ∙ ap (only (holds_key s j)) (find_without_same o j m rising) ∙ sym (only_none (holds_key s j))))
drop_held o s j m k rising (inr other) =
    find_without_other k j (shard_records s m) other ∙ shard_find s k m
    ∙ sym (shard_find s k (without j m) ∙ ap (only (holds_key s k)) (find_without_other k j m other))

drop_foreign : (o : Order) (s : ShardOf) (j : List ℕ) (m : List Pair) (k : List ℕ) → holds_key s j ≡ false → (same_bytes k j ≡ true) ⊎ (same_bytes k j ≡ false)
    → find k (shard_records s m) ≡ find k (shard_records s (without j m))
drop_foreign o s j m k foreign (inl same) =
    let holds : holds_key s k ≡ false = ap (holds_key s) (same_told k j same) ∙ foreign in
    shard_find s k m ∙ ap (λ b. only b (find k m)) holds ∙ sym (shard_find s k (without j m) ∙ ap (λ b. only b (find k (without j m))) holds)
drop_foreign o s j m k foreign (inr other) =
    shard_find s k m ∙ sym (shard_find s k (without j m) ∙ ap (only (holds_key s k)) (find_without_other k j m other))

one_in_shard : (o : Order) (s : ShardOf) (c : Change) (b : Bool) (m : List Pair) → Rising o m → is_in_shard s c ≡ b
    → (if b then after_one o c (shard_records s m) else shard_records s m) ≡ shard_records s (after_one o c m)
one_in_shard o s (changes.Put p) true m rising held =
    same_records o (put o p (shard_records s m)) (shard_records s (put o p m)) (put_rising o p (shard_records s m) (shard_rising o s m rising))
    (shard_rising o s (put o p m) (put_rising o p m rising)) (λ k. put_held o s p m k held (so_or_not (same_bytes k p.key)))
one_in_shard o s (changes.Put p) false m rising foreign =
    same_records o (shard_records s m) (shard_records s (put o p m)) (shard_rising o s m rising)
    (shard_rising o s (put o p m) (put_rising o p m rising)) (λ k. put_foreign o s p m k foreign (so_or_not (same_bytes k p.key)))
one_in_shard o s (changes.Drop j) true m rising held =
    same_records o (without j (shard_records s m)) (shard_records s (without j m)) (without_rising o j (shard_records s m) (shard_rising o s m rising))
    (shard_rising o s (without j m) (without_rising o j m rising)) (λ k. drop_held o s j m k rising (so_or_not (same_bytes k j)))
one_in_shard o s (changes.Drop j) false m rising foreign =
    same_records o (shard_records s m) (shard_records s (without j m)) (shard_rising o s m rising)
    (shard_rising o s (without j m) (without_rising o j m rising)) (λ k. drop_foreign o s j m k foreign (so_or_not (same_bytes k j)))
one_in_shard o s changes.Clear true m rising e = refl
one_in_shard o s changes.Clear false m rising e = absurd (cc)

pick_change : (o : Order) (b : Bool) (c : Change) (cs : List Change) (m : List Pair)
    → after o (if b then c ∷ cs else cs) m ≡ after o cs (if b then after_one o c m else m)
pick_change o true c cs m = refl
pick_change o false c cs m = refl

pub changes_in_shard : (o : Order) (s : ShardOf) (cs : List Change) (m : List Pair) → Rising o m
    → after o (filter (is_in_shard s) cs) (shard_records s m) ≡ shard_records s (after o cs m)
changes_in_shard o s [] m rising = refl
changes_in_shard o s (c ∷ cs) m rising =
    pick_change o (is_in_shard s c) c (filter (is_in_shard s) cs) (shard_records s m)
    ∙ ap (after o (filter (is_in_shard s) cs)) (one_in_shard o s c (is_in_shard s c) m rising refl)
    ∙ changes_in_shard o s cs (after_one o c m) (one_rising o c m rising)

-- ---- groups

pub replay_group : (o : Order) (n : ℕ) (cs : List Change) (gs : List Group) (m : List Pair) → replay o (group_of n cs ++ gs) m ≡ replay o gs (after o cs m)
replay_group o n [] gs m = refl
replay_group o n (c ∷ cs) gs m = refl

pub parts_reach : (o : Order) (s : ShardOf) (n : ℕ) (m : List Pair) (es : List Entry) → Rising o m
    → replay o (parts o s n m es) (shard_records s m) ≡ shard_records s (replay_entries o es m)
parts_reach o s n m [] rising = refl
parts_reach o s n m (e ∷ es) rising =
    replay_group o n (filter (is_in_shard s) (changes_of o m e)) (parts o s (n + 1) (after_entry o e m) es) (shard_records s m)
    ∙ ap (replay o (parts o s (n + 1) (after_entry o e m) es))
    (changes_in_shard o s (changes_of o m e) m rising ∙ ap (shard_records s) (changes_reach o e m rising))
    ∙ parts_reach o s (n + 1) (after_entry o e m) es (entry_rising o e m rising)

-- the groups of one more call
pub parts_more : (o : Order) (s : ShardOf) (n : ℕ) (m : List Pair) (es : List Entry) (e : Entry)
    → parts o s n m (es ++ e ∷ []) ≡ parts o s n m es ++ group_of (n + length es) (filter (is_in_shard s) (changes_of o (replay_entries o es m) e))
parts_more o s n m [] e =
    append-nil (group_of n (filter (is_in_shard s) (changes_of o m e)))
    ∙ ap (λ k. group_of k (filter (is_in_shard s) (changes_of o m e))) (omega arith)
parts_more o s n m (d ∷ es) e =
    let here : List Group = group_of n (filter (is_in_shard s) (changes_of o m d)) in
    let last : List Change = filter (is_in_shard s) (changes_of o (replay_entries o es (after_entry o d m)) e) in
    let numbers : n + 1 + length es ≡ n + suc (length es) = omega arith in
    ap (λ gs. here ++ gs) (parts_more o s (n + 1) (after_entry o d m) es e ∙ ap (λ k. parts o s (n + 1) (after_entry o d m) es ++ group_of k last) numbers)
    ∙ sym (append_assoc here (parts o s (n + 1) (after_entry o d m) es) (group_of (n + suc (length es)) last))
