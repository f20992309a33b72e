-- Records one behind the other in a file, and a file is read in one way.
use Rattle.std.proofs.Common.{◌≡◌, ◌⊎◌, inl, inr, ℕ, ◌+◌, true, List, [], ◌∷◌, ◌++◌, length, drop, refl, sym, ap, subst, ◌∙◌, append_assoc, length-append, arith}
use Rattle.std.specs.List.{flat_map}
use Rattle.std.specs.declared.cmp.Ordering.TheVariants.{Less}
use Rattle.std.proofs.lemmas.List.{append-nil, drop_at}
use Rattle.std.proofs.lemmas.Grind.{flat_map-append}
use Rattle.tk_model.specs.Orders.{key_cmp}
use Rattle.tk_model.specs.Entries.{holds_key}
use Rattle.tk_model.specs.Records.{AllBehind, Rising, AllHeld}
use Rattle.tk_model.specs.RecordText.{BeginsWith, FitsRecord, record_text}
use Rattle.tk_model.specs.declared.record.Order.TheVariants.{Hash}
use Rattle.tk_model.specs.declared.record.Pair.{Pair}
use Rattle.tk_model.specs.declared.record.ShardOf.{ShardOf}
use Rattle.tk_model.proofs.KeyOrders.{keys_total}
use Rattle.tk_model.proofs.RecordTexts.{length-record, record_same}
use Rattle.tk_flat.specs.Flat.{IsFlat, BeginsWithNone, flat_text, flat_word}
use Rattle.tk_mem.specs.TinyFile.{AllInShard, AreFiled, NoneFollows}
use Rattle.tk_mem.specs.Loading.{EndsWith}
use Rattle.tk_mem.specs.Undo.{records_size, text_size}

-- ---- one record more

held_more : (ps : List Pair) (p : Pair) → AllHeld ps → IsFlat p → AllHeld (ps ++ p ∷ [])
held_more [] p held flat = (flat.key_fits, flat.value_fits, tt)
held_more (q ∷ qs) p held flat = (held.0, held.1, held_more qs p held.2 flat)

pub held_last : (ps : List Pair) (p : Pair) → AllHeld (ps ++ p ∷ []) → IsFlat p
held_last [] p held = record { key_fits = held.0; value_fits = held.1 }
held_last (q ∷ qs) p held = held_last qs p held.2

held_front : (ps qs : List Pair) → AllHeld (ps ++ qs) → AllHeld ps
held_front [] qs held = tt
held_front (p ∷ ps) qs held = (held.0, held.1, held_front ps qs held.2)

behind_more : (k : List ℕ) (ps : List Pair) (p : Pair) → AllBehind Hash k ps → key_cmp Hash k p.key ≡ Less → AllBehind Hash k (ps ++ p ∷ [])
behind_more k [] p all last = (last, tt)
behind_more k (q ∷ qs) p all last = (all.0, behind_more k qs p all.1 last)

behind_last : (k : List ℕ) (ps : List Pair) (p : Pair) → AllBehind Hash k (ps ++ p ∷ []) → key_cmp Hash k p.key ≡ Less
behind_last k [] p all = all.0
behind_last k (q ∷ qs) p all = behind_last k qs p all.1

behind_front : (k : List ℕ) (ps qs : List Pair) → AllBehind Hash k (ps ++ qs) → AllBehind Hash k ps
behind_front k [] qs all = tt
behind_front k (p ∷ ps) qs all = (all.0, behind_front k ps qs all.1)

rising_front : (ps qs : List Pair) → Rising Hash (ps ++ qs) → Rising Hash ps
rising_front [] qs rising = tt
rising_front (p ∷ ps) qs rising = (behind_front p.key ps qs rising.0, rising_front ps qs rising.1)

-- all of them come before what comes behind the last
before_next : (k : List ℕ) (q : Pair) (qs : List Pair) (last : List ℕ) (p : Pair) → AllBehind Hash k (q ∷ qs) → EndsWith (q ∷ qs) last → key_cmp Hash last p.key ≡ Less → key_cmp Hash k p.key ≡ Less
before_next k q [] last p all ends less = (keys_total Hash).trans k q.key p.key all.0 (subst (λ (j : List ℕ). key_cmp Hash j p.key ≡ Less) (sym ends) less)
before_next k q (r ∷ rs) last p all ends less = before_next k r rs last p all.1 ends less

rising_more : (ps : List Pair) (last : List ℕ) (p : Pair) → Rising Hash ps → EndsWith ps last → (ps ≡ []) ⊎ (key_cmp Hash last p.key ≡ Less) → Rising Hash (ps ++ p ∷ [])
rising_more [] last p rising ends less = (tt, tt)
rising_more (q ∷ qs) last p rising ends (inl none) = absurd (cc)
rising_more (q ∷ []) last p rising ends (inr less) = ((subst (λ (j : List ℕ). key_cmp Hash j p.key ≡ Less) (sym ends) less, tt), (tt, tt))
rising_more (q ∷ r ∷ rs) last p rising ends (inr less) =
    (behind_more q.key (r ∷ rs) p rising.0 (before_next q.key r rs last p rising.0 ends less), rising_more (r ∷ rs) last p rising.1 ends (inr less))

rising_last : (ps : List Pair) (last : List ℕ) (p : Pair) → EndsWith ps last → Rising Hash (ps ++ p ∷ []) → (ps ≡ []) ⊎ (key_cmp Hash last p.key ≡ Less)
rising_last [] last p ends rising = inl refl
rising_last (q ∷ []) last p ends rising = inr (subst (λ (j : List ℕ). key_cmp Hash j p.key ≡ Less) ends rising.0.0)
rising_last (q ∷ r ∷ rs) last p ends rising = elim (rising_last (r ∷ rs) last p ends rising.1) [
  | inl none ↦ absurd (cc)
  | inr less ↦ inr less
]

pub ends_more : (ps : List Pair) (p : Pair) → EndsWith (ps ++ p ∷ []) p.key
ends_more [] p = refl
ends_more (q ∷ []) p = refl
ends_more (q ∷ r ∷ rs) p = ends_more (r ∷ rs) p

shard_more : (shard : ShardOf) (ps : List Pair) (p : Pair) → AllInShard shard ps → holds_key shard p.key ≡ true → AllInShard shard (ps ++ p ∷ [])
shard_more shard [] p all last = (last, tt)
shard_more shard (q ∷ qs) p all last = (all.0, shard_more shard qs p all.1 last)

shard_last : (shard : ShardOf) (ps : List Pair) (p : Pair) → AllInShard shard (ps ++ p ∷ []) → holds_key shard p.key ≡ true
shard_last shard [] p all = all.0
shard_last shard (q ∷ qs) p all = shard_last shard qs p all.1

shard_front : (shard : ShardOf) (ps qs : List Pair) → AllInShard shard (ps ++ qs) → AllInShard shard ps
shard_front shard [] qs all = tt
shard_front shard (p ∷ ps) qs all = (all.0, shard_front shard ps qs all.1)

pub filed_none : (shard : ShardOf) → AreFiled shard []
filed_none shard = record { held = tt; rising = tt; in_shard = tt }

filed_front : (shard : ShardOf) (ps qs : List Pair) → AreFiled shard (ps ++ qs) → AreFiled shard ps
filed_front shard ps qs filed = record { held = held_front ps qs filed.held; rising = rising_front ps qs filed.rising; in_shard = shard_front shard ps qs filed.in_shard }

pub filed_more : (shard : ShardOf) (ps : List Pair) (last : List ℕ) (p : Pair) → AreFiled shard ps → EndsWith ps last → (ps ≡ []) ⊎ (key_cmp Hash last p.key ≡ Less) → IsFlat p → holds_key shard p.key ≡ true
    → AreFiled shard (ps ++ p ∷ [])
filed_more shard ps last p filed ends less flat in_shard =
    record { held = held_more ps p filed.held flat; rising = rising_more ps last p filed.rising ends less; in_shard = shard_more shard ps p filed.in_shard in_shard }

-- what a record that may follow has
pub filed_last : (shard : ShardOf) (ps : List Pair) (last : List ℕ) (p : Pair) → EndsWith ps last → AreFiled shard (ps ++ p ∷ []) → ((ps ≡ []) ⊎ (key_cmp Hash last p.key ≡ Less)) × (holds_key shard p.key ≡ true)
filed_last shard ps last p ends filed = (rising_last ps last p ends filed.rising, shard_last shard ps p filed.in_shard)

-- ---- their text

pub length-records : (ps : List Pair) → length (flat_map record_text ps) ≡ records_size ps
length-records [] = refl
length-records (p ∷ ps) = omega (arith, length-append (record_text p) (flat_map record_text ps), length-record p, length-records ps)

pub length-flat_text : (ps : List Pair) → length (flat_text ps) ≡ text_size ps
unfolding flat_text
length-flat_text ps = omega (arith, length-append flat_word (flat_map record_text ps), length-records ps)

size_more : (ps qs : List Pair) → records_size (ps ++ qs) ≡ records_size ps + records_size qs
size_more [] qs = omega arith
size_more (p ∷ ps) qs = omega (arith, size_more ps qs)

pub text_size_more : (ps qs : List Pair) → text_size (ps ++ qs) ≡ text_size ps + records_size qs
text_size_more ps qs = omega (arith, size_more ps qs)

pub flat_text_more : (ps qs : List Pair) → flat_text (ps ++ qs) ≡ flat_text ps ++ flat_map record_text qs
unfolding flat_text
flat_text_more ps qs = ap (λ (l : List ℕ). flat_word ++ l) (flat_map-append record_text ps qs) ∙ sym (append_assoc flat_word (flat_map record_text ps) (flat_map record_text qs))

pub begins_word : (ps : List Pair) (rest : List ℕ) → flat_text ps ++ rest ≡ flat_word ++ (flat_map record_text ps ++ rest)
unfolding flat_text
begins_word ps rest = append_assoc flat_word (flat_map record_text ps) rest

pub flat_none : flat_text [] ≡ flat_word
unfolding flat_text
flat_none = append-nil flat_word

-- ---- it is read in one way

nothing_begins : (p : Pair) (behind : List ℕ) → BeginsWith [] p behind → ⊥
nothing_begins p behind begins = absurd (omega (arith, ap length begins.spelled, length-append (record_text p) behind, length-record p))

pub none_in_nothing : (shard : ShardOf) (ps : List Pair) → NoneFollows shard ps []
none_in_nothing shard ps p behind begins filed = nothing_begins p behind begins

fits : (ps : List Pair) (p : Pair) → AllHeld (ps ++ p ∷ []) → FitsRecord p
fits ps p held = let flat = held_last ps p held in record { key = flat.key_fits; value = omega (arith, flat.value_fits) }

module _ (shard : ShardOf) where
  next_filed : (front : List Pair) (q : Pair) (qs : List Pair) → AreFiled shard (front ++ q ∷ qs) → AreFiled shard (front ++ q ∷ [])
  next_filed front q qs filed = filed_front shard (front ++ q ∷ []) qs (subst (AreFiled shard) (sym (append_assoc front (q ∷ []) qs)) filed)

  none_here : (front : List Pair) (q : Pair) (qs : List Pair) (x y : List ℕ) → AreFiled shard (front ++ q ∷ qs) → NoneFollows shard front x → x ≡ flat_map record_text (q ∷ qs) ++ y → ⊥
  none_here front q qs x y filed none is =
      let one = next_filed front q qs filed in
      none q (flat_map record_text qs ++ y) (record { fits = fits front q one.held; spelled = is ∙ append_assoc (record_text q) (flat_map record_text qs) y }) one

  walk_same : (front ps qs : List Pair) (x y : List ℕ) → AreFiled shard (front ++ ps) → AreFiled shard (front ++ qs) → NoneFollows shard (front ++ ps) x → NoneFollows shard (front ++ qs) y
      → flat_map record_text ps ++ x ≡ flat_map record_text qs ++ y → (ps ≡ qs) × (x ≡ y)
  walk_same front [] [] x y fp fq nx ny same = (refl, same)
  walk_same front [] (q ∷ qs) x y fp fq nx ny same =
      absurd (none_here front q qs x y fq (subst (λ (l : List Pair). NoneFollows shard l x) (append-nil front) nx) same)
  walk_same front (p ∷ ps) [] x y fp fq nx ny same =
      absurd (none_here front p ps y x fp (subst (λ (l : List Pair). NoneFollows shard l y) (append-nil front) ny) (sym same))
  walk_same front (p ∷ ps) (q ∷ qs) x y fp fq nx ny same =
      let first = record_same p q (flat_map record_text ps ++ x) (flat_map record_text qs ++ y) (fits front p (next_filed front p ps fp).held) (fits front q (next_filed front q qs fq).held)
      (sym (append_assoc (record_text p) (flat_map record_text ps) x) ∙ same ∙ append_assoc (record_text q) (flat_map record_text qs) y) in
      let more_q : front ++ q ∷ qs ≡ (front ++ p ∷ []) ++ qs = ap (λ (r : Pair). front ++ r ∷ qs) (sym first.0) ∙ sym (append_assoc front (p ∷ []) qs) in
      let more_p : front ++ p ∷ ps ≡ (front ++ p ∷ []) ++ ps = sym (append_assoc front (p ∷ []) ps) in
      let others = walk_same (front ++ p ∷ []) ps qs x y (subst (AreFiled shard) more_p fp) (subst (AreFiled shard) more_q fq)
      (subst (λ (l : List Pair). NoneFollows shard l x) more_p nx) (subst (λ (l : List Pair). NoneFollows shard l y) more_q ny) first.1 in
      (ap (λ (r : Pair). r ∷ ps) first.0 ∙ ap (λ (rs : List Pair). q ∷ rs) others.0, others.1)

  pub text_same : (ps qs : List Pair) (x y : List ℕ) → AreFiled shard ps → AreFiled shard qs → NoneFollows shard ps x → NoneFollows shard qs y → flat_text ps ++ x ≡ flat_text qs ++ y → (ps ≡ qs) × (x ≡ y)
  text_same ps qs x y fp fq nx ny same =
      walk_same [] ps qs x y fp fq nx ny
      (sym (drop_at flat_word (flat_map record_text ps ++ x) 8 refl) ∙ ap (drop 8) (sym (begins_word ps x) ∙ same ∙ begins_word qs y) ∙ drop_at flat_word (flat_map record_text qs ++ y) 8 refl)

-- no record begins, so none follows
pub none_begins : (shard : ShardOf) (ps : List Pair) (text : List ℕ) → BeginsWithNone text → NoneFollows shard ps text
none_begins shard ps text none p behind begins filed = none p behind (held_last ps p filed.held) begins

-- the record that begins may not follow, and it is the only one there
pub none_other : (shard : ShardOf) (ps : List Pair) (last text : List ℕ) (q : Pair) (rest : List ℕ) → EndsWith ps last → BeginsWith text q rest
    → ((ps ≡ []) ⊎ (key_cmp Hash last q.key ≡ Less) → holds_key shard q.key ≡ true → ⊥) → NoneFollows shard ps text
none_other shard ps last text q rest ends here may p behind begins filed =
    let same : p ≡ q = (record_same p q behind rest begins.fits here.fits (sym begins.spelled ∙ here.spelled)).0 in
    let follows = filed_last shard ps last q ends (subst (λ (r : Pair). AreFiled shard (ps ++ r ∷ [])) same filed) in
    may follows.0 follows.1
