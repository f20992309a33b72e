-- How a file is read piece by piece.
use Rattle.std.proofs.Common.{◌≡◌, ◌⊎◌, inl, inr, ℕ, ◌+◌, ◌-◌, ◌≤◌, List, [], ◌∷◌, ◌++◌, length, take, drop, refl, sym, ap, subst, ◌∙◌, append_assoc, length-append, length-drop, arith}
use Rattle.std.specs.Prelude.{Bool, true, Option, Some, None, IfSome, Result, Ok, Err, IfOk, OnErr}
use Rattle.std.proofs.lemmas.Bool.{cases_lt}
use Rattle.std.specs.List.{flat_map}
use Rattle.std.proofs.lemmas.List.{append-nil, take_at, drop_at, drop-drop, drop_all, take-append-drop}
use Rattle.std.proofs.lemmas.Grind.{flat_map-append}
use Rattle.std.proofs.Math.Seq.{take-add}
use Rattle.tk_disk.specs.Disk.{ReadsFrom}
use Rattle.tk_disk.specs.declared.disk.DiskError.{DiskError}
use Rattle.tk_model.specs.declared.error.OpenError.{OpenError}
use Rattle.tk_model.specs.declared.error.OpenError.TheVariants as errors
use Rattle.tk_model.specs.RecordText.{BeginsWith, record_text}
use Rattle.tk_model.specs.declared.record.Pair.{Pair}
use Rattle.tk_model.specs.declared.record.ShardOf.{ShardOf}
use Rattle.tk_model.proofs.RecordTexts.{length-record}
use Rattle.tk_flat.specs.Flat.{flat_text, flat_word}
use Rattle.tk_mem.specs.TinyFile.{AreFiled, NoneFollows, IsAccepted}
use Rattle.tk_mem.specs.Loading.{Takes, IsReadTo}
use Rattle.tk_mem.specs.Undo.{text_size}
use Rattle.tk_mem.proofs.Filing.{held_last, length-records, text_size_more, flat_text_more, flat_none}

-- records were taken, and the rest follows
pub record Taken (old new : List Pair) (bytes rest : List ℕ) : Type 0 where
  pub more : List Pair
  pub grown : new ≡ old ++ more
  pub text : bytes ≡ flat_map record_text more ++ rest

pub taken_none : (ps : List Pair) (bytes : List ℕ) → Taken ps ps bytes bytes
taken_none ps bytes = record { more = []; grown = sym (append-nil ps); text = refl }

pub taken_more : (old new next : List Pair) (bytes rest behind : List ℕ) (p : Pair) → Taken old new bytes rest → BeginsWith rest p behind → next ≡ new ++ p ∷ [] → Taken old next bytes behind
taken_more old new next bytes rest behind p t begins is = record {
  more = t.more ++ p ∷ [];
  grown = is ∙ ap (λ (l : List Pair). l ++ p ∷ []) t.grown ∙ append_assoc old t.more (p ∷ []);
  text =
      let one : flat_map record_text (p ∷ []) ≡ record_text p = append-nil (record_text p) in
      let two : flat_map record_text (t.more ++ p ∷ []) ≡ flat_map record_text t.more ++ record_text p = flat_map-append record_text t.more (p ∷ []) ∙ ap (λ (l : List ℕ). flat_map record_text t.more ++ l) one in
      t.text ∙ ap (λ (l : List ℕ). flat_map record_text t.more ++ l) begins.spelled ∙ sym (append_assoc (flat_map record_text t.more) (record_text p) behind) ∙ ap (λ (l : List ℕ). l ++ behind) (sym two);
}

pub taken_rest : (old new : List Pair) (bytes rest : List ℕ) (n : ℕ) → Taken old new bytes rest → n + length rest ≡ length bytes → drop n bytes ≡ rest
taken_rest old new bytes rest n t is =
    let long : length (flat_map record_text t.more) ≡ n = omega (arith, ap length t.text, length-append (flat_map record_text t.more) rest, is) in
    ap (drop n) t.text ∙ drop_at (flat_map record_text t.more) rest n long

pub taken_all : (old new : List Pair) (bytes rest : List ℕ) (n : ℕ) → Taken old new bytes rest → n + length rest ≡ length bytes → Takes old new bytes n
taken_all old new bytes rest n t is = record {
  more = t.more;
  grown = t.grown;
  text = t.text ∙ ap (λ (l : List ℕ). flat_map record_text t.more ++ l) (sym (taken_rest old new bytes rest n t is));
  within = omega (arith, is);
}

-- so many bytes are those of the records
takes_long : (old new : List Pair) (bytes : List ℕ) (n : ℕ) (t : Takes old new bytes n) → length (flat_map record_text t.more) ≡ n
takes_long old new bytes n t = omega (arith, ap length t.text, length-append (flat_map record_text t.more) (drop n bytes), length-drop n bytes, t.within)

front_there : (m xs rest : List ℕ) (n : ℕ) → length m ≡ n → xs ≡ m ++ rest → xs ≡ m ++ drop n xs
front_there m xs rest n long is = is ∙ ap (λ (l : List ℕ). m ++ l) (sym (ap (drop n) is ∙ drop_at m rest n long))

read_front : (f bytes : List ℕ) (place n got : ℕ) (old new : List Pair) → f ≡ flat_text old ++ drop place f → bytes ≡ take got (drop place f) → Takes old new bytes n → f ≡ flat_text new ++ drop (place + n) f
read_front f bytes place n got old new front is t =
    let rest = drop place f in
    let m = flat_map record_text t.more in
    let there : rest ≡ m ++ drop n rest =
    front_there m rest (drop n bytes ++ drop got rest) n (takes_long old new bytes n t)
    (sym (take-append-drop got rest) ∙ ap (λ (l : List ℕ). l ++ drop got rest) (sym is ∙ t.text) ∙ append_assoc m (drop n bytes) (drop got rest)) in
    front ∙ ap (λ (l : List ℕ). flat_text old ++ l) (there ∙ ap (λ (l : List ℕ). m ++ l) (drop-drop n place f)) ∙ sym (append_assoc (flat_text old) m (drop (place + n) f))
    ∙ ap (λ (l : List ℕ). l ++ drop (place + n) f) (sym (flat_text_more old t.more) ∙ ap flat_text (sym t.grown))

read_size : (bytes : List ℕ) (place n : ℕ) (old new : List Pair) → place ≡ text_size old → Takes old new bytes n → place + n ≡ text_size new
read_size bytes place n old new size t = omega (arith, size, takes_long old new bytes n t, length-records t.more, text_size_more old t.more, ap text_size t.grown)

pub read_on : (image : Option (List ℕ)) (into bytes : List ℕ) (place n got : ℕ) (old new : List Pair) → IsReadTo image place old → IfSome image (λ f. ReadsFrom f place into got) → bytes ≡ take got into → Takes old new bytes n
    → IsReadTo image (place + n) new
read_on None into bytes place n got old new to reads is t = record { size = read_size bytes place n old new to.size t; front = tt }
read_on (Some f) into bytes place n got old new to reads is t =
    record { size = read_size bytes place n old new to.size t; front = read_front f bytes place n got old new to.front (is ∙ reads.bytes) t }

-- what begins with no record in so many bytes as the longest has, or as there are, begins with none
pub none_in_front : (shard : ShardOf) (ps : List Pair) (xs : List ℕ) (n : ℕ) → (length xs ≤ n) ⊎ (33619972 ≤ n) → NoneFollows shard ps (take n xs) → NoneFollows shard ps xs
none_in_front shard ps xs n (inl all) none p behind begins filed =
    none p behind (subst (λ (l : List ℕ). BeginsWith l p behind) (sym (take_whole xs n all)) begins) filed
  where
    take_whole : (xs : List ℕ) (n : ℕ) → length xs ≤ n → take n xs ≡ xs
    take_whole xs n all = sym (append-nil (take n xs)) ∙ ap (λ (l : List ℕ). take n xs ++ l) (sym (drop_all n xs all)) ∙ take-append-drop n xs
none_in_front shard ps xs n (inr long) none p behind begins filed =
    let flat = held_last ps p filed.held in
    let size : length (record_text p) + (n - length (record_text p)) ≡ n = omega (arith, flat.key_fits, flat.value_fits, length-record p, long) in
    none p (take (n - length (record_text p)) behind) (record { fits = begins.fits; spelled = ap (take n) begins.spelled ∙ ap (λ (k : ℕ). take k (record_text p ++ behind)) (sym size) ∙ take_past (record_text p) behind (n - length (record_text p)) }) filed
  where
    take_past : (m rest : List ℕ) (k : ℕ) → take (length m + k) (m ++ rest) ≡ m ++ take k rest
    take_past m rest k = take-add (length m) k (m ++ rest) ∙ (rw (take_at m rest (length m) refl, drop_at m rest (length m) refl) refl)

abbrev opened : {T : Type 0} → T → Result T OpenError
opened v = Ok v

abbrev SameOk : {T : Type 0} → T → T → Type 0
SameOk got v = opened got ≡ opened v

same_ok : {T : Type 0} (got v : T) → SameOk got v → got ≡ v
same_ok got v e = cc

-- what was read is what the disk's answer says
pub told : {T : Type 0} (image : Option (List ℕ)) (answer : Result T DiskError) (got : T) (P : List ℕ → T → Type 0) → IfOk answer (SameOk got) → OnErr answer (opened got ≡ Err errors.Fault)
    → IfSome image (λ f. IfOk answer (P f)) → IfSome image (λ f. P f got)
told None answer got P ok err holds = tt
told (Some f) (Ok v) got P ok err holds = subst (P f) (sym (same_ok got v ok)) holds
told (Some f) (Err e) got P ok err holds = absurd (cc)

none_piece : (shard : ShardOf) (ps : List Pair) (f into bytes : List ℕ) (place n got long : ℕ) → ReadsFrom f place into got → length into ≡ long → bytes ≡ take got into → NoneFollows shard ps (drop n bytes)
    → (length f ≤ place + long) ⊎ (33619972 ≤ long) → n ≡ 0 → NoneFollows shard ps (drop place f)
none_piece shard ps f into bytes place n got long reads kept is none far zero =
    let rest : length (drop place f) ≡ length f - place = length-drop place f in
    let here : drop n bytes ≡ take got (drop place f) = ap (λ (k : ℕ). drop k bytes) zero ∙ is ∙ reads.bytes in
    let enough : (length (drop place f) ≤ got) ⊎ (33619972 ≤ got) = elim (cases_lt (length f - place) long) [
      | inl short ↦ inl (omega (arith, reads.count, kept, rest, short))
      | inr full ↦ elim far [
        | inl all ↦ inl (omega (arith, reads.count, kept, rest, full, all))
        | inr most ↦ inr (omega (arith, reads.count, kept, full, most))
      ]
    ] in
    none_in_front shard ps (drop place f) got enough (subst (NoneFollows shard ps) here none)

pub none_on : (image : Option (List ℕ)) (shard : ShardOf) (ps : List Pair) (into bytes : List ℕ) (place n got long : ℕ) → IfSome image (λ f. ReadsFrom f place into got) → length into ≡ long → bytes ≡ take got into
    → NoneFollows shard ps (drop n bytes) → IfSome image (λ f. (length f ≤ place + long) ⊎ (33619972 ≤ long) → n ≡ 0 → NoneFollows shard ps (drop place f))
none_on None shard ps into bytes place n got long reads kept is none = tt
none_on (Some f) shard ps into bytes place n got long reads kept is none = none_piece shard ps f into bytes place n got long reads kept is none

-- the word alone was read
pub begin_read : (image : Option (List ℕ)) (ps : List Pair) (found : Bool) → IfSome image (λ f. found ≡ true → f ≡ flat_word ++ drop 8 f) → found ≡ true → ps ≡ [] → IsReadTo image 8 ps
begin_read None ps found word is none = record { size = ap text_size (sym none); front = tt }
begin_read (Some f) ps found word is none = record { size = ap text_size (sym none); front = word is ∙ ap (λ (l : List ℕ). l ++ drop 8 f) (sym (ap flat_text none ∙ flat_none)) }

-- the file was read to its end
pub end_read : (before image : Option (List ℕ)) (shard : ShardOf) (writable : Bool) (ps : List Pair) (place size : ℕ) → image ≡ before → AreFiled shard ps → IsReadTo image place ps → size ≤ place
    → IfSome before (λ f. size ≡ length f) → IfSome before (λ f. IsAccepted shard writable f ps)
end_read None image shard writable ps place size same filed read end long = tt
end_read (Some f) None shard writable ps place size same filed read end long = absurd (cc)
end_read (Some f) (Some g) shard writable ps place size same filed read end long =
    let is : f ≡ g = cc in
    inl (record {
      filed = filed;
      spelled = is ∙ read.front ∙ ap (λ (l : List ℕ). flat_text ps ++ l) (drop_all place g (omega (arith, long, end, ap length is))) ∙ append-nil (flat_text ps);
    })
