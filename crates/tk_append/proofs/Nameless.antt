-- What is written behind the front makes no header known.
use Rattle.std.proofs.Common.{◌≡◌, ◌⊎◌, inl, inr, ⊎_elim, ℕ, ◌<◌, ◌++◌, List, [], ◌∷◌, refl, subst, arith}
use Rattle.std.specs.Prelude.{slice_index, Some}
use Rattle.tk_disk.specs.Crash.{Elapses}
use Rattle.tk_disk.specs.Past.{Write, Past, with_write, Writes, Cuts}
use Rattle.tk_block.specs.declared.head.StaticHead.{StaticHead}
use Rattle.tk_block.specs.Text.{static_at, static_text, static_front}
use Rattle.tk_block.proofs.Grammar.{static_found, byte_in}
use Rattle.tk_append.specs.Untorn.{AnyWrite, WritesHeader, IsKnownHeader, NoNewHeader, WritesNoHeader}
use Rattle.tk_append.proofs.PastSteps.{past_held, past_then}

pub any_and : (P : Write → Type 0) (ws : List Write) (w : Write) → AnyWrite P (ws ++ w ∷ []) → AnyWrite P ws ⊎ P w
any_and P [] w (inl one) = inr one
any_and P [] w (inr none) = absurd none
any_and P (x ∷ ws) w (inl first) = inl (inl first)
any_and P (x ∷ ws) w (inr more) = ⊎_elim (λ there. inl (inr there)) (λ last. inr last) (any_and P ws w more)

pub none_new : (old new : Past) → new ≡ old → NoNewHeader old new
none_new old new same k known = subst (λ (p : Past). IsKnownHeader p k) same known

-- a header is known of a past with a write more
pub known_more : (p : Past) (at : ℕ) (bytes : List ℕ) (k : StaticHead) → IsKnownHeader (with_write at bytes p) k → IsKnownHeader p k ⊎ WritesHeader k (record { at = at; bytes = bytes })
known_more p at bytes k (inl fixed) = inl (inl fixed)
known_more p at bytes k (inr any) = ⊎_elim (λ there. inl (inr there)) (λ last. inr last) (any_and (WritesHeader k) p.writes _ any)

pub none_behind : (at : ℕ) (bytes : List ℕ) (old new : Past) → 0 < at → Writes at bytes old new → NoNewHeader old new
none_behind at bytes old new behind (inl same) = none_new old new same
none_behind at bytes old new behind (inr written) = λ k known.
    ⊎_elim (λ there. there) (λ (here : WritesHeader k (record { at = at; bytes = bytes })). absurd (omega (arith, behind, here.0)))
    (known_more old at bytes k (subst (λ (p : Past). IsKnownHeader p k) written known))

-- a cut writes nothing
pub none_cut : (n : ℕ) (old new : Past) → Cuts n old new → NoNewHeader old new
none_cut n old new (inl same) = none_new old new same
none_cut n old new (inr cut) = λ k known. subst (λ (p : Past). IsKnownHeader p k) cut known

module _ {D : Type 0} (past_of : D → Past) (moment : D → ℕ) (left_with : D → ℕ → Past × List ℕ → Type 0) where
  pub nameless_joined : (old mid new : D) → WritesNoHeader past_of moment left_with old mid → WritesNoHeader past_of moment left_with mid new → WritesNoHeader past_of moment left_with old new
  nameless_joined old mid new first second = record {
    now = λ k known. first.now k (second.now k known);
    each = past_then moment left_with old mid new (NoNewHeader (past_of old)) (NoNewHeader (past_of mid)) first.each second.each (λ p more k known. first.now k (more k known));
  }

module _ {D : Type 0} (may_leave : D → List ℕ → Type 0) (past_of : D → Past) (moment : D → ℕ) (left_with : D → ℕ → Past × List ℕ → Type 0)
    (only_with : (disk : D) (x : Past × List ℕ) → left_with disk (moment disk) x → (x.0 ≡ past_of disk) × may_leave disk x.1) where
  pub nameless_start : (disk : D) → WritesNoHeader past_of moment left_with disk disk
  nameless_start disk = record {
    now = λ k known. known;
    each = record { later = omega arith; each = λ x left. none_new (past_of disk) x.0 (only_with disk x left).0; before = λ t x le left. inl left };
  }

  pub nameless_called : (old new : D) → Elapses (moment old) (moment new) (left_with old) (left_with new) (λ x. (x.0 ≡ past_of new) × may_leave new x.1) → NoNewHeader (past_of old) (past_of new)
      → WritesNoHeader past_of moment left_with old new
  nameless_called old new pasts none = record { now = none; each = past_held may_leave moment past_of left_with only_with old new (NoNewHeader (past_of old)) pasts (λ k known. known) none }

-- zero bytes in front are no static header
pub no_static : (f : List ℕ) (k : StaticHead) → slice_index f 0 ≡ 0 → static_at f ≡ Some k → ⊥
unfolding static_text static_front
no_static f k zero found =
    let spelled : slice_index f 0 ≡ slice_index (static_text k) 0 = byte_in 0 32 f (static_text k) (omega arith) (static_found f k found).1 in
    let first : slice_index (static_text k) 0 ≡ 84 = refl in
    omega (arith, zero, spelled, first)

pub none_zero : (at : ℕ) (bytes : List ℕ) (old new : Past) → slice_index bytes 0 ≡ 0 → Writes at bytes old new → NoNewHeader old new
none_zero at bytes old new zero (inl same) = none_new old new same
none_zero at bytes old new zero (inr written) = λ k known.
    ⊎_elim (λ there. there) (λ (here : WritesHeader k (record { at = at; bytes = bytes })). absurd (no_static bytes k zero here.1))
    (known_more old at bytes k (subst (λ (p : Past). IsKnownHeader p k) written known))
