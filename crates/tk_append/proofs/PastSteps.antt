-- What the pasts were at each moment of a call.
use Rattle.std.proofs.Common.{◌≡◌, ◌⊎◌, inl, inr, ⊎_elim, ℕ, ◌≤◌, List, ap, sym, ◌∙◌, subst, arith}
use Rattle.std.specs.Prelude.{Option, Some, None, IfSome}
use Rattle.std.specs.Option.{option_map}
use Rattle.tk_disk.specs.Crash.{Elapses, LeavesOnly, PastOnly}
use Rattle.tk_disk.specs.Past.{Past, settled_on, Writes}
use Rattle.tk_block.specs.Text.{closing_text}
use Rattle.tk_block.specs.declared.closing.Closing.{Closing}
use Rattle.tk_append.specs.LogParts.{with_closing}
use Rattle.tk_append.specs.LogPasts.{Settles, Closes}
use Rattle.tk_disk.proofs.Moments.{past_called, leaves_weaker, leaves_joined}

module _ {D : Type 0} (may_leave : D → List ℕ → Type 0) (moment : D → ℕ) (past_of : D → Past) (left_with : D → ℕ → Past × List ℕ → Type 0) where
  -- what holds of the pasts before and behind a call of the disk held at each moment of it
  pub past_held : ((disk : D) (x : Past × List ℕ) → left_with disk (moment disk) x → (x.0 ≡ past_of disk) × may_leave disk x.1)
      → (old new : D) (P : Past → Type 0) → Elapses (moment old) (moment new) (left_with old) (left_with new) (λ x. (x.0 ≡ past_of new) × may_leave new x.1) → P (past_of old) → P (past_of new)
      → PastOnly moment left_with old new P
  past_held only_with old new P pasts was now =
      leaves_weaker moment left_with old new (λ x. (x.0 ≡ past_of old) ⊎ (x.0 ≡ past_of new)) (λ x. P x.0)
      (past_called may_leave moment past_of left_with only_with old new pasts)
      (λ x either. ⊎_elim (λ is. subst P (sym is) was) (λ is. subst P (sym is) now) either)

module _ {D : Type 0} (may_leave : D → List ℕ → Type 0) (past_of : D → Past) (moment : D → ℕ) (left_with : D → ℕ → Past × List ℕ → Type 0) where
  -- the same of pasts beside images
  pub moments_held : ((disk : D) (x : Past × List ℕ) → left_with disk (moment disk) x → (x.0 ≡ past_of disk) × may_leave disk x.1)
      → (old new : D) (P : Past × List ℕ → Type 0) → Elapses (moment old) (moment new) (left_with old) (left_with new) (λ x. (x.0 ≡ past_of new) × may_leave new x.1)
      → ((c : List ℕ) → may_leave old c → P (past_of old, c)) → ((c : List ℕ) → may_leave new c → P (past_of new, c)) → LeavesOnly moment left_with old new P
  moments_held only_with old new P pasts was now =
      let at_new : (x : Past × List ℕ) → (x.0 ≡ past_of new) × may_leave new x.1 → P x = λ x left. subst (λ (p : Past). P (p, x.1)) (sym left.0) (now x.1 left.1) in
      record {
        later = pasts.later;
        each = λ x left. ⊎_elim (λ there. let old_one = only_with old x there in subst (λ (p : Past). P (p, x.1)) (sym old_one.0) (was x.1 old_one.1)) (at_new x) (pasts.nothing_else (moment old) x (omega arith) left);
        before = λ t x le left. ⊎_elim (λ there. inl there) (λ here. inr (at_new x here)) (pasts.nothing_else t x le left);
      }

  -- what held at each moment holds now
  pub moments_now : ((disk : D) (t : ℕ) (c : List ℕ) → t ≤ moment disk → may_leave disk c → left_with disk t (past_of disk, c))
      → (old new : D) (P : Past × List ℕ → Type 0) → LeavesOnly moment left_with old new P → (c : List ℕ) → may_leave new c → P (past_of new, c)
  moments_now counts_with old new P moments c left = moments.each (past_of new, c) (counts_with new (moment old) c moments.later left)

module _ {D : Type 0} (moment : D → ℕ) (left_with : D → ℕ → Past × List ℕ → Type 0) where
  pub past_weaker : (old new : D) (P Q : Past → Type 0) → PastOnly moment left_with old new Q → ((p : Past) → Q p → P p) → PastOnly moment left_with old new P
  past_weaker old new P Q pasts more = leaves_weaker moment left_with old new (λ x. Q x.0) (λ x. P x.0) pasts (λ x. more x.0)

  -- a call behind another
  pub past_then : (old mid new : D) (P Q : Past → Type 0) → PastOnly moment left_with old mid P → PastOnly moment left_with mid new Q → ((p : Past) → Q p → P p) → PastOnly moment left_with old new P
  past_then old mid new P Q first second more = leaves_joined moment left_with old mid new (λ x. P x.0) first (past_weaker mid new P Q second more)

-- the three calls of a closing
pub settles_closes : (c : Closing) (image : Option (List ℕ)) (old p : Past) → Settles image old p → Closes c image old p
settles_closes c image old p (inl same) = inl same
settles_closes c None old p (inr settled) = inr tt
settles_closes c (Some f) old p (inr settled) = inr (inl (inl settled))

pub writes_closes : (c : Closing) (image : Option (List ℕ)) (old mid p : Past) → IfSome image (λ f. mid ≡ settled_on f) → Writes 32 (closing_text c) mid p → Closes c image old p
writes_closes c None old mid p settled written = inr tt
writes_closes c (Some f) old mid p settled written = inr (inl (subst (λ (q : Past). Writes 32 (closing_text c) q p) settled written))

pub last_closes : (c : Closing) (image synced marked : Option (List ℕ)) (old mid now p : Past) → IfSome image (λ f. mid ≡ settled_on f) → Writes 32 (closing_text c) mid now
    → synced ≡ image → marked ≡ option_map (with_closing c) synced → Settles marked now p → Closes c image old p
last_closes c image synced marked old mid now p settled written same is (inl still) = writes_closes c image old mid p settled (subst (λ (q : Past). Writes 32 (closing_text c) mid q) (sym still) written)
last_closes c None synced marked old mid now p settled written same is (inr last) = inr tt
last_closes c (Some f) synced marked old mid now p settled written same is (inr last) =
    inr (inr (subst (λ (o : Option (List ℕ)). IfSome o (λ g. p ≡ settled_on g)) (is ∙ ap (λ (o : Option (List ℕ)). option_map (with_closing c) o) same) last))
