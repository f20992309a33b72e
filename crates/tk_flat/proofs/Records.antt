-- Records in a flat text.
use Rattle.std.proofs.Common.{◌≡◌, ℕ, ◌<◌, ◌-◌, List, [], ◌∷◌, ◌++◌, length, drop, sym, ap, ◌∙◌, append_assoc, length-append, arith, All}
use Rattle.std.proofs.lemmas.List.{append-nil, flat_map_more}
use Rattle.std.proofs.lemmas.List.Elements.{All-nil, All-push}
use Rattle.tk_model.specs.declared.record.Pair.{Pair}
use Rattle.tk_model.specs.RecordText.{record_text, BeginsWith, FitsRecord}
use Rattle.tk_model.proofs.RecordTexts.{length-record}
use Rattle.tk_flat.specs.Flat.{IsFlat, IsFlatText, IsFault, no_record, BeginsWithNone, flat_word, flat_text}

-- a record of a flat text has a text
pub flat_fits : (pair : Pair) → IsFlat pair → FitsRecord pair
flat_fits pair flat = record { key = flat.key_fits; value = omega (arith, flat.value_fits) }

pub shorter : (text rest : List ℕ) (pair : Pair) → BeginsWith text pair rest → length rest < length text
shorter text rest pair begins = omega (arith, ap length begins.spelled, length-append (record_text pair) rest, length-record pair)

-- these records were read, and the rest follows
pub record ReadSoFar (text rest : List ℕ) (pairs : List Pair) : Type 0 where
  pub fit : All IsFlat pairs
  pub spelled : text ≡ flat_text pairs ++ rest

pub read_none : (text : List ℕ) → text ≡ flat_word ++ drop 8 text → ReadSoFar text (drop 8 text) []
unfolding flat_text
read_none text is = record { fit = All-nil IsFlat; spelled = is }

flat_text-push : (pairs : List Pair) (pair : Pair) → flat_text (pairs ++ pair ∷ []) ≡ flat_text pairs ++ record_text pair
unfolding flat_text
flat_text-push pairs pair = sym (flat_map_more record_text flat_word pairs pair)

pub read_more : (text rest behind : List ℕ) (pairs : List Pair) (pair : Pair) → ReadSoFar text rest pairs → IsFlat pair → BeginsWith rest pair behind → ReadSoFar text behind (pairs ++ pair ∷ [])
read_more text rest behind pairs pair so_far flat begins =
    record {
      fit = All-push IsFlat pairs pair so_far.fit flat;
      spelled = so_far.spelled ∙ ap (λ (l : List ℕ). flat_text pairs ++ l) begins.spelled ∙ sym (append_assoc (flat_text pairs) (record_text pair) behind) ∙ ap (λ (l : List ℕ). l ++ behind) (sym (flat_text-push pairs pair));
    }

pub read_all : (text rest : List ℕ) (pairs : List Pair) → ReadSoFar text rest pairs → rest ≡ [] → IsFlatText text pairs
read_all text rest pairs so_far end =
    record {
      fit = so_far.fit;
      spelled = so_far.spelled ∙ ap (λ (l : List ℕ). flat_text pairs ++ l) end ∙ append-nil (flat_text pairs);
    }

pub read_until : (text rest : List ℕ) (pairs : List Pair) → ReadSoFar text rest pairs → 0 < length rest → BeginsWithNone rest → IsFault text (length text - length rest)
read_until text rest pairs so_far some none =
    no_record text (length text - length rest) pairs rest (record {
      fit = so_far.fit;
      spelled = so_far.spelled;
      here = omega (arith, ap length so_far.spelled, length-append (flat_text pairs) rest);
      more = λ e. absurd (omega (arith, ap length e, some));
      none = none;
    })
