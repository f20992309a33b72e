-- Changes in one buffer, and that their order tells only among those of one key.
use Rattle.std.proofs.Common.{◌≡◌, ◌⊎◌, inl, inr, ℕ, zero, suc, ◌+◌, ◌<◌, ◌≤◌, Bool, true, false, cond, List, [], ◌∷◌, ◌++◌, length, take, drop, true≢false, refl, sym, ap, subst, ◌∙◌, arith, length-append, append_assoc, get_or}
use Rattle.std.specs.Prelude.{map, Option, Some, None}
use Rattle.std.specs.List.{All, filter}
use Rattle.std.specs.List.Sorted.{ties, IsStableBy, IsPermutation}
use Rattle.std.proofs.lemmas.List.Sorted.{All-permutation}
use Rattle.std.specs.Ordering.{is_lt, nat_cmp}
use Rattle.std.proofs.lemmas.Cmp.{tied_itself, nat_cmp_total}
use Rattle.std.proofs.lemmas.List.{take-append-le, drop-append-le, take-append-drop, take_more, length-drop, append-nil}
use Rattle.std.proofs.Math.Seq.{take-append_seam, drop-append_seam, take-length, drop-length}
use Rattle.std.specs.declared.cmp.Ordering.{Ordering}
use Rattle.std.specs.declared.cmp.Ordering.TheVariants.{Equal}
use Rattle.tk_model.specs.Hashes.{mix_of}
use Rattle.tk_model.specs.Orders.{same_bytes}
use Rattle.tk_model.specs.Records.{find, after_one, after, Rising}
use Rattle.tk_model.specs.declared.record.Order.TheVariants.{Hash}
use Rattle.tk_model.specs.declared.record.Pair.{Pair}
use Rattle.tk_model.specs.declared.record.Change.{Change}
use Rattle.tk_model.specs.declared.record.Change.TheVariants.{Put, Drop, Clear}
use Rattle.tk_model.proofs.KeyOrders.{same_told}
use Rattle.tk_model.proofs.RecordLaws.{so_or_not, one_rising, after_rising, find_put_same, find_put_other, find_without_same, find_without_other, same_records}
use Rattle.tk_model.proofs.NetChanges.{after_append}
use Rattle.tk_block.specs.Blocks.{IsSmall, AllSmall, key_of, value_of}
use Rattle.tk_restore.specs.Changes.{change_by, key_in, value_in, change_at, changes_in, IsEntry, AllEntries, LiveAndBegun}
use Rattle.tk_restore.proofs.Fresh.{after_puts}
use Rattle.tk_restore.specs.declared.changes.Entry.{Entry}

-- ---- what changes leave, key by key

-- the last value that is set or none, or else what was there
abbrev told : List ℕ → List Change → Option (List ℕ) → Option (List ℕ)
told k [] was = was
told k (Put p ∷ cs) was = told k cs (cond (same_bytes k p.key) (Some p.value) was)
told k (Drop j ∷ cs) was = told k cs (cond (same_bytes k j) None was)
told k (Clear ∷ cs) was = told k cs None

found_put : (k : List ℕ) (p : Pair) (m : List Pair) → (same_bytes k p.key ≡ true) ⊎ (same_bytes k p.key ≡ false) → find k (after_one Hash (Put p) m) ≡ cond (same_bytes k p.key) (Some p.value) (find k m)
found_put k p m (inl same) =
    ap (λ i. find i (after_one Hash (Put p) m)) (same_told k p.key same) ∙ find_put_same Hash p m ∙ ap (λ b. cond b (Some p.value) (find k m)) (sym same)
found_put k p m (inr other) = find_put_other Hash k p m other ∙ ap (λ b. cond b (Some p.value) (find k m)) (sym other)

found_drop : (k j : List ℕ) (m : List Pair) → Rising Hash m → (same_bytes k j ≡ true) ⊎ (same_bytes k j ≡ false) → find k (after_one Hash (Drop j) m) ≡ cond (same_bytes k j) None (find k m)
found_drop k j m rising (inl same) =
    ap (λ i. find i (after_one Hash (Drop j) m)) (same_told k j same) ∙ find_without_same Hash j m rising ∙ ap (λ b. cond b None (find k m)) (sym same)
found_drop k j m rising (inr other) = find_without_other k j m other ∙ ap (λ b. cond b None (find k m)) (sym other)

found_told : (k : List ℕ) (cs : List Change) (m : List Pair) → Rising Hash m → find k (after Hash cs m) ≡ told k cs (find k m)
found_told k [] m rising = refl
found_told k (Put p ∷ cs) m rising = found_told k cs (after_one Hash (Put p) m) (one_rising Hash (Put p) m rising) ∙ ap (told k cs) (found_put k p m (so_or_not (same_bytes k p.key)))
found_told k (Drop j ∷ cs) m rising = found_told k cs (after_one Hash (Drop j) m) (one_rising Hash (Drop j) m rising) ∙ ap (told k cs) (found_drop k j m rising (so_or_not (same_bytes k j)))
found_told k (Clear ∷ cs) m rising = found_told k cs [] tt

-- ---- entries that are sorted

-- the order of entries
abbrev pub goes_first : Entry → Entry → Bool
goes_first d e = is_lt (nat_cmp d.hash e.hash)

abbrev asks : List ℕ → Entry
asks k = record { hash = mix_of k; start = 0; value_length = 0; key_length = 0; sets = false }

itself : (n : ℕ) (c : Ordering) (d e : Entry) → d.hash ≡ n → e.hash ≡ n → nat_cmp n n ≡ c → c ≡ Equal → ties goes_first d e ≡ true
itself n c d e first second is f = rw (first, second, is, f) refl

module _ (bytes : List ℕ) where
  tied : (k : List ℕ) (e : Entry) → IsEntry bytes e → same_bytes k (key_in bytes e) ≡ true → ties goes_first (asks k) e ≡ true
  tied k e entry same =
      itself (mix_of k) (nat_cmp (mix_of k) (mix_of k)) (asks k) e refl (entry.hashed ∙ ap mix_of (sym (same_told k (key_in bytes e) same))) refl (tied_itself nat_cmp_total (mix_of k))

  abbrev value_at : Entry → Option (List ℕ)
  value_at e = cond e.sets (Some (value_in bytes e)) None

  told_by : (k key value : List ℕ) (sets : Bool) (cs : List Change) (was : Option (List ℕ)) → told k (change_by sets key value ∷ cs) was ≡ told k cs (cond (same_bytes k key) (cond sets (Some value) None) was)
  told_by k key value true cs was = refl
  told_by k key value false cs was = refl

  told_kept : (k : List ℕ) (e : Entry) (es : List Entry) (was : Option (List ℕ)) (b c : Bool) → same_bytes k (key_in bytes e) ≡ b → ties goes_first (asks k) e ≡ c → (b ≡ true → c ≡ true)
      → told k (changes_in bytes (filter (ties goes_first (asks k)) es)) (cond b (value_at e) was) ≡ told k (changes_in bytes (filter (ties goes_first (asks k)) (e ∷ es))) was
  told_kept k e es was b true f tie keeps =
      ap (told k (changes_in bytes (filter (ties goes_first (asks k)) es))) (ap (λ t. cond t (value_at e) was) (sym f))
      ∙ sym (told_by k (key_in bytes e) (value_in bytes e) e.sets (changes_in bytes (filter (ties goes_first (asks k)) es)) was)
      ∙ ap (λ t. told k (changes_in bytes (cond t (e ∷ filter (ties goes_first (asks k)) es) (filter (ties goes_first (asks k)) es))) was) (sym tie)
  told_kept k e es was true false f tie keeps = absurd (true≢false (sym (keeps refl)))
  told_kept k e es was false false f tie keeps =
      ap (λ t. told k (changes_in bytes (cond t (e ∷ filter (ties goes_first (asks k)) es) (filter (ties goes_first (asks k)) es))) was) (sym tie)

  told_filter : (k : List ℕ) (es : List Entry) (was : Option (List ℕ)) → AllEntries bytes es → told k (changes_in bytes es) was ≡ told k (changes_in bytes (filter (ties goes_first (asks k)) es)) was
  told_filter k [] was all = refl
  told_filter k (e ∷ es) was all =
      told_by k (key_in bytes e) (value_in bytes e) e.sets (changes_in bytes es) was
      ∙ told_filter k es (cond (same_bytes k (key_in bytes e)) (value_at e) was) all.1
      ∙ told_kept k e es was (same_bytes k (key_in bytes e)) (ties goes_first (asks k) e) refl refl (tied k e all.0)

  -- entries of one key in the same order leave the same
  pub stable_same : (xs ys : List Entry) → IsStableBy goes_first xs ys → AllEntries bytes xs → AllEntries bytes ys → after Hash (changes_in bytes ys) [] ≡ after Hash (changes_in bytes xs) []
  stable_same xs ys stable first second =
      same_records Hash (after Hash (changes_in bytes ys) []) (after Hash (changes_in bytes xs) []) (after_rising Hash (changes_in bytes ys) [] tt) (after_rising Hash (changes_in bytes xs) [] tt) (λ k.
      found_told k (changes_in bytes ys) [] tt ∙ told_filter k ys None second
      ∙ ap (λ l. told k (changes_in bytes l) None) (stable (asks k))
      ∙ sym (told_filter k xs None first) ∙ sym (found_told k (changes_in bytes xs) [] tt))

pub as_all : (bytes : List ℕ) (es : List Entry) → AllEntries bytes es → All (IsEntry bytes) es
as_all bytes [] all k d inside = absurd (omega (arith, inside))
as_all bytes (e ∷ es) all zero d inside = all.0
as_all bytes (e ∷ es) all (suc k) d inside = as_all bytes es all.1 k d (omega (arith, inside))

pub by_all : (bytes : List ℕ) (es : List Entry) → All (IsEntry bytes) es → AllEntries bytes es
by_all bytes [] all = tt
by_all bytes (e ∷ es) all = (all 0 e (omega arith), by_all bytes es (λ k d inside. all (suc k) d (omega (arith, inside))))

-- entries in another order
pub moved_all : (bytes : List ℕ) (xs ys : List Entry) → IsPermutation xs ys → AllEntries bytes xs → AllEntries bytes ys
moved_all bytes xs ys moved all = by_all bytes ys (All-permutation (IsEntry bytes) xs ys moved (as_all bytes xs all))

-- ---- the buffer

part_grown : (n start : ℕ) (bytes more : List ℕ) → start + n ≤ length bytes → take n (drop start (bytes ++ more)) ≡ take n (drop start bytes)
part_grown n start bytes more within =
    ap (take n) (drop-append-le start bytes more (omega arith))
    ∙ take-append-le n (drop start bytes) more (omega (arith, length-drop start bytes))

part_last : (xs ys zs : List ℕ) → take (length ys) (drop (length xs) (xs ++ (ys ++ zs))) ≡ ys
part_last xs ys zs = ap (take (length ys)) (drop-append_seam xs (ys ++ zs)) ∙ take-append_seam ys zs

key_grown : (bytes more : List ℕ) (e : Entry) → IsEntry bytes e → key_in (bytes ++ more) e ≡ key_in bytes e
key_grown bytes more e entry = part_grown e.key_length e.start bytes more (omega (arith, entry.within))

value_grown : (bytes more : List ℕ) (e : Entry) → IsEntry bytes e → value_in (bytes ++ more) e ≡ value_in bytes e
value_grown bytes more e entry = part_grown e.value_length (e.start + e.key_length) bytes more entry.within

entry_grown : (bytes more : List ℕ) (e : Entry) → IsEntry bytes e → IsEntry (bytes ++ more) e
entry_grown bytes more e entry = record {
  within = omega (arith, entry.within, length-append bytes more);
  small =
      subst (λ (k : List ℕ). IsSmall k (value_in (bytes ++ more) e)) (sym (key_grown bytes more e entry))
      (subst (λ (v : List ℕ). IsSmall (key_in bytes e) v) (sym (value_grown bytes more e entry)) entry.small);
  hashed = entry.hashed ∙ ap mix_of (sym (key_grown bytes more e entry));
}

-- more bytes behind leave what stands
pub all_grown : (bytes more : List ℕ) (es : List Entry) → AllEntries bytes es → AllEntries (bytes ++ more) es
all_grown bytes more [] all = tt
all_grown bytes more (e ∷ es) all = (entry_grown bytes more e all.0, all_grown bytes more es all.1)

pub changes_grown : (bytes more : List ℕ) (es : List Entry) → AllEntries bytes es → changes_in (bytes ++ more) es ≡ changes_in bytes es
changes_grown bytes more [] all = refl
changes_grown bytes more (e ∷ es) all =
    ap (λ (k : List ℕ). change_by e.sets k (value_in (bytes ++ more) e) ∷ changes_in (bytes ++ more) es) (key_grown bytes more e all.0)
    ∙ ap (λ (v : List ℕ). change_by e.sets (key_in bytes e) v ∷ changes_in (bytes ++ more) es) (value_grown bytes more e all.0)
    ∙ ap (λ (cs : List Change). change_at bytes e ∷ cs) (changes_grown bytes more es all.1)

pub changes_more : (bytes : List ℕ) (es : List Entry) (e : Entry) → changes_in bytes (es ++ e ∷ []) ≡ changes_in bytes es ++ change_at bytes e ∷ []
changes_more bytes [] e = refl
changes_more bytes (d ∷ es) e = ap (λ (cs : List Change). change_at bytes d ∷ cs) (changes_more bytes es e)

pub all_more : (bytes : List ℕ) (es : List Entry) (e : Entry) → AllEntries bytes es → IsEntry bytes e → AllEntries bytes (es ++ e ∷ [])
all_more bytes [] e all one = (one, tt)
all_more bytes (d ∷ es) e all one = (all.0, all_more bytes es e all.1 one)

-- an entry of a key and a value that stand last
pub record IsLast (bytes key value : List ℕ) (sets : Bool) (e : Entry) : Type 0 where
  pub hashed : e.hash ≡ mix_of key
  pub start : e.start ≡ length bytes
  pub key_length : e.key_length ≡ length key
  pub value_length : e.value_length ≡ length value
  pub sets_is : e.sets ≡ sets

module _ (bytes key value : List ℕ) (sets : Bool) (e : Entry) (last : IsLast bytes key value sets e) where
  last_key : key_in ((bytes ++ key) ++ value) e ≡ key
  last_key =
      ap (λ (l : List ℕ). take e.key_length (drop e.start l)) (append_assoc bytes key value)
      ∙ ap (λ (n : ℕ). take n (drop e.start (bytes ++ (key ++ value)))) last.key_length
      ∙ ap (λ (n : ℕ). take (length key) (drop n (bytes ++ (key ++ value)))) last.start
      ∙ part_last bytes key value

  last_value : value_in ((bytes ++ key) ++ value) e ≡ value
  last_value =
      let at : e.start + e.key_length ≡ length (bytes ++ key) = omega (arith, last.start, last.key_length, length-append bytes key) in
      ap (λ (l : List ℕ). take e.value_length (drop (e.start + e.key_length) ((bytes ++ key) ++ l))) (sym (append-nil value))
      ∙ ap (λ (n : ℕ). take n (drop (e.start + e.key_length) ((bytes ++ key) ++ (value ++ [])))) last.value_length
      ∙ ap (λ (n : ℕ). take (length value) (drop n ((bytes ++ key) ++ (value ++ [])))) at
      ∙ part_last (bytes ++ key) value []

  last_change : change_at ((bytes ++ key) ++ value) e ≡ change_by sets key value
  last_change =
      ap (λ (b : Bool). change_by b (key_in ((bytes ++ key) ++ value) e) (value_in ((bytes ++ key) ++ value) e)) last.sets_is
      ∙ ap (λ (k : List ℕ). change_by sets k (value_in ((bytes ++ key) ++ value) e)) last_key
      ∙ ap (λ (v : List ℕ). change_by sets key v) last_value

  last_entry : IsSmall key value → IsEntry ((bytes ++ key) ++ value) e
  last_entry small = record {
    within = omega (arith, last.start, last.key_length, last.value_length, length-append bytes key, length-append (bytes ++ key) value);
    small = subst (λ (k : List ℕ). IsSmall k (value_in ((bytes ++ key) ++ value) e)) (sym last_key) (subst (λ (v : List ℕ). IsSmall key v) (sym last_value) small);
    hashed = last.hashed ∙ ap mix_of (sym last_key);
  }

  -- one change more
  pub pushed_all : (es : List Entry) → AllEntries bytes es → IsSmall key value → AllEntries ((bytes ++ key) ++ value) (es ++ e ∷ [])
  pushed_all es all small = all_more ((bytes ++ key) ++ value) es e (all_grown (bytes ++ key) value es (all_grown bytes key es all)) (last_entry small)

  pub pushed : (es : List Entry) → AllEntries bytes es → changes_in ((bytes ++ key) ++ value) (es ++ e ∷ []) ≡ changes_in bytes es ++ change_by sets key value ∷ []
  pushed es all =
      changes_more ((bytes ++ key) ++ value) es e
      ∙ ap (λ (cs : List Change). cs ++ change_at ((bytes ++ key) ++ value) e ∷ []) (changes_grown (bytes ++ key) value es (all_grown bytes key es all) ∙ changes_grown bytes key es all)
      ∙ ap (λ (c : Change). changes_in bytes es ++ c ∷ []) last_change

-- ---- a front of the changes, and their limits

pub changes_taken : (bytes : List ℕ) (n : ℕ) (es : List Entry) → changes_in bytes (take n es) ≡ take n (changes_in bytes es)
changes_taken bytes zero es = refl
changes_taken bytes (suc n) [] = refl
changes_taken bytes (suc n) (e ∷ es) = ap (λ (cs : List Change). change_at bytes e ∷ cs) (changes_taken bytes n es)

pub all_taken : (bytes : List ℕ) (n : ℕ) (es : List Entry) → AllEntries bytes es → AllEntries bytes (take n es)
all_taken bytes zero es all = tt
all_taken bytes (suc n) [] all = tt
all_taken bytes (suc n) (e ∷ es) all = (all.0, all_taken bytes n es all.1)

pub changes_count : (bytes : List ℕ) (es : List Entry) → length (changes_in bytes es) ≡ length es
changes_count bytes [] = refl
changes_count bytes (e ∷ es) = ap suc (changes_count bytes es)

by_small : (sets : Bool) (key value : List ℕ) → IsSmall key value → IsSmall (key_of (change_by sets key value)) (value_of (change_by sets key value))
by_small true key value small = small
by_small false key value small = record { key_fits = small.key_fits; value_fits = omega arith }

pub changes_small : (bytes : List ℕ) (es : List Entry) → AllEntries bytes es → AllSmall (changes_in bytes es)
changes_small bytes [] all = tt
changes_small bytes (e ∷ es) all = (by_small e.sets (key_in bytes e) (value_in bytes e) all.0.small, changes_small bytes es all.1)

-- ---- the records, one entry further

pub next_after : (bytes : List ℕ) (es : List Entry) (i : ℕ) (d : Entry) → i < length es
    → after Hash (changes_in bytes (take (i + 1) es)) [] ≡ after_one Hash (change_at bytes (get_or es i d)) (after Hash (changes_in bytes (take i es)) [])
next_after bytes es i d inside =
    ap (λ (l : List Entry). after Hash (changes_in bytes l) []) (take_more es i d inside)
    ∙ ap (λ (cs : List Change). after Hash cs []) (changes_more bytes (take i es) (get_or es i d))
    ∙ after_append Hash (changes_in bytes (take i es)) (change_at bytes (get_or es i d) ∷ []) []

-- ---- complete changes and those behind them

pub all_complete : (n : ℕ) (cs : List Change) → after Hash cs [] ≡ after Hash (drop n cs) (after Hash (take n cs) [])
all_complete n cs = ap (λ (l : List Change). after Hash l []) (sym (take-append-drop n cs)) ∙ after_append Hash (take n cs) (drop n cs) []

pub none_begun : (n : ℕ) (cs : List Change) → drop n cs ≡ [] → after Hash (take n cs) [] ≡ after Hash cs []
none_begun n cs none = ap (λ (l : List Change). after Hash l (after Hash (take n cs) [])) (sym none) ∙ sym (all_complete n cs)

abbrev pub view_of : (n : ℕ) → List Change → LiveAndBegun
view_of n cs = record { live = after Hash (take n cs) []; begun = drop n cs }

pub complete_live : (cs : List Change) (n count : ℕ) (now : LiveAndBegun) → view_of n cs ≡ now → count ≡ length cs → after Hash (take count cs) [] ≡ after Hash now.begun now.live
complete_live cs n count now is all =
    ap (λ (l : List Change). after Hash l []) (ap (λ (k : ℕ). take k cs) all ∙ take-length cs)
    ∙ all_complete n cs ∙ ap (λ (v : LiveAndBegun). after Hash v.begun v.live) is

same_view : (a b : List Pair) (c d : List Change) (v : LiveAndBegun) → a ≡ b → c ≡ d → v ≡ record { live = b; begun = d } → record { live = a; begun = c } ≡ v
same_view a b c d v live begun is = ap (λ (m : List Pair). record { live = m; begun = c }) live ∙ ap (λ (l : List Change). record { live = b; begun = l }) begun ∙ sym is

-- the records alone say what all changes said
pub settled_view : (cs sets : List Change) (pairs : List Pair) (n count : ℕ) (now : LiveAndBegun) → view_of n cs ≡ now → now.begun ≡ [] → pairs ≡ after Hash cs [] → sets ≡ map Put pairs → count ≡ length sets → view_of count sets ≡ now
settled_view cs sets pairs n count now is none left made all =
    let begun : drop n cs ≡ [] = ap (λ (v : LiveAndBegun). v.begun) is ∙ none in
    let live : after Hash sets [] ≡ after Hash (take n cs) [] =
    ap (λ (l : List Change). after Hash l []) made ∙ after_puts [] pairs (subst (Rising Hash) (sym left) (after_rising Hash cs [] tt)) ∙ left ∙ sym (none_begun n cs begun) in
    same_view (after Hash (take count sets) []) (after Hash (take n cs) []) (drop count sets) (drop n cs) now
    (ap (λ (l : List Change). after Hash l []) (ap (λ (k : ℕ). take k sets) all ∙ take-length sets) ∙ live) (ap (λ (k : ℕ). drop k sets) all ∙ drop-length sets ∙ sym begun) (sym is)
