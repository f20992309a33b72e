-- A text is read in one way, so the answer of a reader is the only one.
use Rattle.std.proofs.Common.{◌≡◌, ◌≢◌, ℕ, List, [], ◌∷◌, ◌++◌, length, take, drop, Result, Ok, Err, IfOk, IfErr, All, refl, sym, ap, ◌∙◌, inl, inr, append_assoc, arith}
use Rattle.std.specs.List.{AllByRecursion, flat_map}
use Rattle.std.proofs.lemmas.List.{take_at, drop_at, append-nil}
use Rattle.std.proofs.lemmas.List.Elements.{recursion_from_All}
use Rattle.tk_model.specs.declared.record.Pair.{Pair}
use Rattle.tk_flat.specs.declared.error.TextError.{TextError}
use Rattle.tk_flat.specs.declared.error.TextError.TheVariants.{At, NoMemory}
use Rattle.tk_flat.specs.Errors.{Answers, Names}
use Rattle.tk_model.specs.RecordText.{record_text}
use Rattle.tk_model.proofs.RecordTexts.{record_same}
use Rattle.tk_flat.specs.Flat.{IsFlat, IsFlatText, IsFault, no_word, no_record, BeginsWithNone, flat_word, flat_text}
use Rattle.tk_flat.proofs.Records.{flat_fits, shorter}

-- two lists joined, by the length of the first
split_same : (a b x y : List ℕ) → length a ≡ length b → a ++ x ≡ b ++ y → (a ≡ b) × (x ≡ y)
split_same a b x y long same = (
  sym (take_at a x (length a) refl) ∙ ap (λ (l : List ℕ). take (length a) l) same ∙ take_at b y (length a) (sym long),
  sym (drop_at a x (length a) refl) ∙ ap (λ (l : List ℕ). drop (length a) l) same ∙ drop_at b y (length a) (sym long),
)

-- records, and then what begins with none, are read in one way
one_way : (ps qs : List Pair) (x y : List ℕ) → AllByRecursion IsFlat ps → AllByRecursion IsFlat qs → BeginsWithNone x → BeginsWithNone y → flat_map record_text ps ++ x ≡ flat_map record_text qs ++ y → (ps ≡ qs) × (x ≡ y)
one_way [] [] x y fp fq nx ny same = (refl, same)
one_way [] (q ∷ qs) x y fp fq nx ny same =
    absurd (nx q (flat_map record_text qs ++ y) fq.0 (record { fits = flat_fits q fq.0; spelled = same ∙ append_assoc (record_text q) (flat_map record_text qs) y }))
one_way (p ∷ ps) [] x y fp fq nx ny same =
    absurd (ny p (flat_map record_text ps ++ x) fp.0 (record { fits = flat_fits p fp.0; spelled = sym same ∙ append_assoc (record_text p) (flat_map record_text ps) x }))
one_way (p ∷ ps) (q ∷ qs) x y fp fq nx ny same =
    let first = record_same p q (flat_map record_text ps ++ x) (flat_map record_text qs ++ y) (flat_fits p fp.0) (flat_fits q fq.0) (sym (append_assoc (record_text p) (flat_map record_text ps) x) ∙ same ∙ append_assoc (record_text q) (flat_map record_text qs) y) in
    let others = one_way ps qs x y fp.1 fq.1 nx ny first.1 in
    (ap (λ (r : Pair). r ∷ ps) first.0 ∙ ap (λ (rs : List Pair). q ∷ rs) others.0, others.1)

none_in_nothing : BeginsWithNone []
none_in_nothing pair rest flat begins = absurd (omega (arith, shorter [] rest pair begins))

texts_same : (ps qs : List Pair) (x y : List ℕ) → All IsFlat ps → All IsFlat qs → BeginsWithNone x → BeginsWithNone y → flat_text ps ++ x ≡ flat_text qs ++ y → (ps ≡ qs) × (x ≡ y)
unfolding flat_text
texts_same ps qs x y fp fq nx ny same =
    one_way ps qs x y (recursion_from_All IsFlat ps fp) (recursion_from_All IsFlat qs fq) nx ny
    (split_same flat_word flat_word (flat_map record_text ps ++ x) (flat_map record_text qs ++ y) refl
    (sym (append_assoc flat_word (flat_map record_text ps) x) ∙ same ∙ append_assoc flat_word (flat_map record_text qs) y)).1

flat_same : (text : List ℕ) (ps qs : List Pair) → IsFlatText text ps → IsFlatText text qs → ps ≡ qs
flat_same text ps qs p q =
    (texts_same ps qs [] [] p.fit q.fit none_in_nothing none_in_nothing (append-nil (flat_text ps) ∙ sym p.spelled ∙ q.spelled ∙ sym (append-nil (flat_text qs)))).0

flat_begins : (text : List ℕ) (ps : List Pair) (x : List ℕ) → text ≡ flat_text ps ++ x → ((rest : List ℕ) → text ≢ flat_word ++ rest) → ⊥
unfolding flat_text
flat_begins text ps x is lacks = lacks (flat_map record_text ps ++ x) (is ∙ append_assoc flat_word (flat_map record_text ps) x)

whole : (text : List ℕ) (ps : List Pair) → IsFlatText text ps → text ≡ flat_text ps ++ []
whole text ps p = p.spelled ∙ sym (append-nil (flat_text ps))

-- a text in the grammar has no fault
flat_sound : (text : List ℕ) (place : ℕ) (ps : List Pair) → IsFlatText text ps → IsFault text place → ⊥
flat_sound text place ps p (no_word _ lacks) = flat_begins text ps [] (whole text ps p) lacks
flat_sound text place ps p (no_record _ _ qs rest breaks) =
    breaks.more (sym (texts_same ps qs [] rest p.fit breaks.fit none_in_nothing breaks.none (sym (whole text ps p) ∙ breaks.spelled)).1)

-- a text has one first fault
fault_same : (text : List ℕ) (a b : ℕ) → IsFault text a → IsFault text b → a ≡ b
fault_same text a b (no_word _ lacks) (no_word _ also) = refl
fault_same text a b (no_word _ lacks) (no_record _ _ qs y q) = absurd (flat_begins text qs y q.spelled lacks)
fault_same text a b (no_record _ _ ps x p) (no_word _ lacks) = absurd (flat_begins text ps x p.spelled lacks)
fault_same text a b (no_record _ _ ps x p) (no_record _ _ qs y q) =
    p.here ∙ ap (λ (rs : List Pair). length (flat_text rs)) (texts_same ps qs x y p.fit q.fit p.none q.none (sym p.spelled ∙ q.spelled)).0 ∙ sym q.here

pub flat_accepted : (text : List ℕ) (result : Result (List Pair) TextError) → IfOk result (λ pairs. IsFlatText text pairs) → IfErr result (Names (IsFault text)) → (pairs : List Pair) → IsFlatText text pairs → Answers (Ok pairs) result
flat_accepted text (Ok got) read place pairs is = inl (ap (λ (ps : List Pair). Ok ps) (flat_same text got pairs read is))
flat_accepted text (Err (At at)) read place pairs is = absurd (flat_sound text at pairs is place)
flat_accepted text (Err NoMemory) read place pairs is = inr refl

pub flat_refused : (text : List ℕ) (result : Result (List Pair) TextError) → IfOk result (λ pairs. IsFlatText text pairs) → IfErr result (Names (IsFault text)) → (place : ℕ) → IsFault text place → Answers (Err (At place)) result
flat_refused text (Ok got) read place at is = absurd (flat_sound text at got read is)
flat_refused text (Err (At found)) read place at is = inl (ap (λ (n : ℕ). Err (At n)) (fault_same text found at place is))
flat_refused text (Err NoMemory) read place at is = inr refl
