-- What an opening accepts it never refuses, and a file fails at one place.
use Rattle.std.proofs.Common.{◌≡◌, ◌≢◌, ◌⊎◌, inl, inr, ℕ, Bool, List, [], ◌++◌, length, refl, sym, ap, ◌∙◌, length-append, arith}
use Rattle.std.specs.List.{flat_map}
use Rattle.std.proofs.lemmas.List.{append-nil}
use Rattle.tk_model.specs.RecordText.{record_text}
use Rattle.tk_model.specs.declared.record.Pair.{Pair}
use Rattle.tk_model.specs.declared.record.ShardOf.{ShardOf}
use Rattle.tk_model.specs.declared.error.OpenError.{OpenError}
use Rattle.tk_model.specs.declared.error.OpenError.TheVariants as errors
use Rattle.tk_flat.specs.Flat.{flat_text}
use Rattle.tk_mem.specs.TinyFile.{IsFileOf, FailsAt, IsAccepted, IsNoText, IsCause, IsOutside}
use Rattle.tk_mem.proofs.Filing.{begins_word, length-flat_text, none_in_nothing, text_same}

module _ (shard : ShardOf) (writable : Bool) (f : List ℕ) where
  whole : (ps : List Pair) → f ≡ flat_text ps → f ≡ flat_text ps ++ []
  whole ps is = is ∙ sym (append-nil (flat_text ps))

  some_text : (ps : List Pair) (rest : List ℕ) → f ≡ flat_text ps ++ rest → f ≢ []
  some_text ps rest is none = absurd (omega (arith, ap length (sym is ∙ none), length-append (flat_text ps) rest, length-flat_text ps))

  has_word : (ps : List Pair) (rest : List ℕ) → f ≡ flat_text ps ++ rest → IsNoText writable f → ⊥
  has_word ps rest is none = none.no_word (flat_map record_text ps ++ rest) (is ∙ begins_word ps rest)

  file_fails : (ps : List Pair) (place : ℕ) → IsFileOf shard f ps → FailsAt shard f place → ⊥
  file_fails ps place file (qs, rest, fails) =
      fails.more (sym (text_same shard ps qs [] rest file.filed fails.filed (none_in_nothing shard ps) fails.none (sym (whole ps file.spelled) ∙ fails.spelled)).1)

  pub fails_once : (a b : ℕ) → FailsAt shard f a → FailsAt shard f b → a ≡ b
  fails_once a b (ps, x, p) (qs, y, q) =
      p.here ∙ ap (λ (rs : List Pair). length (flat_text rs)) (text_same shard ps qs x y p.filed q.filed p.none q.none (sym p.spelled ∙ q.spelled)).0 ∙ sym q.here

  no_text_accepted : (ps : List Pair) → IsAccepted shard writable f ps → IsNoText writable f → ⊥
  no_text_accepted ps (inl file) none = has_word ps [] (whole ps file.spelled) none
  no_text_accepted ps (inr new) none = none.old new.0

  fails_accepted : (ps : List Pair) (place : ℕ) → IsAccepted shard writable f ps → FailsAt shard f place → ⊥
  fails_accepted ps place (inl file) fails = file_fails ps place file fails
  fails_accepted ps place (inr new) (qs, rest, fails) = some_text qs rest fails.spelled new.0.0

  no_text_fails : (place : ℕ) → FailsAt shard f place → IsNoText writable f → ⊥
  no_text_fails place (qs, rest, fails) none = has_word qs rest fails.spelled none

  pub accepts : (ps : List Pair) (e : OpenError) → IsAccepted shard writable f ps → IsCause shard writable f e → IsOutside e
  accepts ps errors.NotADatabase accepted cause = absurd (no_text_accepted ps accepted cause)
  accepts ps (errors.BrokenAt place) accepted cause = absurd (fails_accepted ps place accepted cause)
  accepts ps errors.Fault accepted cause = inl refl
  accepts ps errors.NoMemory accepted cause = inr refl

  pub breaks : (place : ℕ) (e : OpenError) → FailsAt shard f place → IsCause shard writable f e → (e ≡ errors.BrokenAt place) ⊎ IsOutside e
  breaks place errors.NotADatabase fails cause = absurd (no_text_fails place fails cause)
  breaks place (errors.BrokenAt at) fails cause = inl (ap errors.BrokenAt (fails_once at place cause fails))
  breaks place errors.Fault fails cause = inr (inl refl)
  breaks place errors.NoMemory fails cause = inr (inr refl)

  pub is_no_text : (e : OpenError) → IsNoText writable f → IsCause shard writable f e → (e ≡ errors.NotADatabase) ⊎ IsOutside e
  is_no_text errors.NotADatabase none cause = inl refl
  is_no_text (errors.BrokenAt at) none cause = absurd (no_text_fails at cause none)
  is_no_text errors.Fault none cause = inr (inl refl)
  is_no_text errors.NoMemory none cause = inr (inr refl)

  pub broken_never : (ps : List Pair) (place : ℕ) → IsAccepted shard writable f ps → FailsAt shard f place → ⊥
  broken_never ps place accepted fails = fails_accepted ps place accepted fails

  pub no_text_never : (ps : List Pair) → IsAccepted shard writable f ps → IsNoText writable f → ⊥
  no_text_never ps accepted none = no_text_accepted ps accepted none
