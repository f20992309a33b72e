-- What calls of a disk leave of a fair past.
use Rattle.std.proofs.Common.{◌≡◌, ◌⊎◌, inl, inr, ⊎_elim, ℕ, ◌+◌, ◌≤◌, List, [], ◌∷◌, ◌++◌, length, drop, refl, sym, ◌∙◌, ap, subst, arith}
use Rattle.std.specs.Prelude.{Option, Some, None, IfSome}
use Rattle.std.proofs.lemmas.List.{append-nil}
use Rattle.tk_disk.specs.Crash.{OnlyReads, PastOnly}
use Rattle.tk_disk.specs.Past.{Past, settled_on, Writes}
use Rattle.tk_model.specs.declared.record.Group.{Group}
use Rattle.tk_model.specs.declared.record.Change.{Change}
use Rattle.tk_block.specs.Text.{base_of}
use Rattle.tk_block.specs.Layout.{end_of, bodies_of, group_text}
use Rattle.tk_block.specs.declared.head.StaticHead.{StaticHead}
use Rattle.tk_append.specs.FairPast.{IsFairPast, IsFairWrite}
use Rattle.tk_append.specs.FileText.{text_of, IsFile}
use Rattle.tk_append.specs.LogParts.{with_closing}
use Rattle.tk_append.specs.LogPasts.{Settles, Closes}
use Rattle.tk_block.specs.Text.{closing_text}
use Rattle.tk_block.specs.declared.closing.Closing.{Closing}
use Rattle.tk_block.proofs.Grammar.{length-closing_text}
use Rattle.tk_hash.proofs.HashTexts.{closing_over}
use Rattle.tk_append.specs.Log.{HasGroups}
use Rattle.tk_append.proofs.Restoring.{text_blocks}
use Rattle.tk_hash.specs.HashLaws.{length-text_of}
use Rattle.tk_append.proofs.FairPasts.{fair_more, fair_written, fair_settled}
use Rattle.tk_hash.specs.Fair.{KeepsFair}

fair_nil : (h : StaticHead) (groups : List Group) (p : Past) → IsFairPast h groups p → IsFairPast h (groups ++ []) p
fair_nil h groups p fair = subst (λ (gs : List Group). IsFairPast h gs p) (sym (append-nil groups)) fair

-- a file of groups has them
pub has_groups : (h : StaticHead) (f : List ℕ) (groups : List Group) → IsFile h f groups → HasGroups h groups f
has_groups h f groups file = record {
  size = ap length file.text ∙ length-text_of h file.closing groups;
  blocks = ap (λ (l : List ℕ). drop (base_of h.p) l) file.text ∙ text_blocks h file.closing groups;
}

-- and has them with another closing part
has_closed : (h : StaticHead) (groups : List Group) (f : List ℕ) (c : Closing) → IsFile h f groups → HasGroups h groups (with_closing c f)
has_closed h groups f c file =
    let text : with_closing c f ≡ text_of h c groups = ap (λ (l : List ℕ). with_closing c l) file.text ∙ closing_over h file.closing c groups in
    record {
      size = ap length text ∙ length-text_of h c groups;
      blocks = ap (λ (l : List ℕ). drop (base_of h.p) l) text ∙ text_blocks h c groups;
    }

-- a group at the end of the others is a fair write
pub group_fair : (h : StaticHead) (groups : List Group) (n end : ℕ) (cs : List Change) (links : List ℕ) → end ≡ end_of (base_of h.p) (bodies_of groups)
    → IsFairWrite h (groups ++ record { number = n; changes = cs } ∷ []) (record { at = end; bytes = group_text (record { number = n; changes = cs }) end links })
group_fair h groups n end cs links is = inr (record { front = groups; group = record { number = n; changes = cs }; rest = []; links = links; is = refl; at = is; text = refl })

written_fair : (h : StaticHead) (groups more : List Group) (old p : Past) (at : ℕ) (bytes : List ℕ) → IsFairPast h groups old → IsFairWrite h (groups ++ more) (record { at = at; bytes = bytes }) → Writes at bytes old p → IsFairPast h (groups ++ more) p
written_fair h groups more old p at bytes was fair (inl same) = subst (λ (q : Past). IsFairPast h (groups ++ more) q) (sym same) (fair_more h groups more old was)
written_fair h groups more old p at bytes was fair (inr is) = subst (λ (q : Past). IsFairPast h (groups ++ more) q) (sym is) (fair_written h (groups ++ more) old at bytes (fair_more h groups more old was) fair)

settled_fair : (h : StaticHead) (groups : List Group) (f : List ℕ) (p : Past) → HasGroups h groups f → p ≡ settled_on f → IsFairPast h (groups ++ []) p
settled_fair h groups f p has is = subst (λ (q : Past). IsFairPast h (groups ++ []) q) (sym is) (fair_nil h groups (settled_on f) (fair_settled h groups f has))

settles_fair : (h : StaticHead) (groups : List Group) (f : List ℕ) (old p : Past) → IsFile h f groups → IsFairPast h groups old → Settles (Some f) old p → IsFairPast h (groups ++ []) p
settles_fair h groups f old p file was (inl same) = fair_nil h groups p (subst (λ (q : Past). IsFairPast h groups q) (sym same) was)
settles_fair h groups f old p file was (inr is) = settled_fair h groups f p (has_groups h f groups file) is

-- the closing part lies in front of the blocks
closing_fair : (h : StaticHead) (groups : List Group) (c : Closing) → IsFairWrite h groups (record { at = 32; bytes = closing_text c })
closing_fair h groups c = inl (omega (arith, length-closing_text c))

closes_fair : (h : StaticHead) (groups : List Group) (f : List ℕ) (c : Closing) (old p : Past) → IsFile h f groups → IsFairPast h groups old → Closes c (Some f) old p → IsFairPast h (groups ++ []) p
closes_fair h groups f c old p file was (inl same) = fair_nil h groups p (subst (λ (q : Past). IsFairPast h groups q) (sym same) was)
closes_fair h groups f c old p file was (inr (inl writes)) =
    written_fair h groups [] (settled_on f) p 32 (closing_text c) (fair_settled h groups f (has_groups h f groups file)) (closing_fair h (groups ++ []) c) writes
closes_fair h groups f c old p file was (inr (inr is)) = settled_fair h groups (with_closing c f) p (has_closed h groups f c file) is

module _ {D : Type 0} (past : D → Past) (moment : D → ℕ) (left_with : D → ℕ → Past × List ℕ → Type 0) (h : StaticHead) where
  -- a call after which, and at each moment of which, the past was one of these
  pub fair_by : (groups more : List Group) (old new : D) (P : Past → Type 0) → PastOnly moment left_with old new P → P (past new) → (IsFairPast h groups (past old) → (p : Past) → P p → IsFairPast h (groups ++ more) p)
      → KeepsFair past moment left_with h groups more old new
  fair_by groups more old new P only now go = record {
    later = only.later;
    now = λ fair. go fair (past new) now;
    since = λ fair t x le left. ⊎_elim (λ was. inl was) (λ is. inr (go fair x.0 is)) (only.before t x le left);
  }

  pub fair_read : (may_leave : D → List ℕ → Type 0) (left_since : D → ℕ → List ℕ → Type 0) (groups : List Group) (old new : D) → OnlyReads may_leave moment left_since past left_with old new → KeepsFair past moment left_with h groups [] old new
  fair_read may_leave left_since groups old new still =
      let same : (p : Past) → p ≡ past old → IsFairPast h groups (past old) → IsFairPast h (groups ++ []) p = λ p is fair. fair_nil h groups p (subst (λ (q : Past). IsFairPast h groups q) (sym is) fair) in
      record {
        later = still.pasts.later;
        now = λ fair. same (past new) still.past fair;
        since = λ fair t x le left. ⊎_elim (λ was. inl was) (λ is. inr (same x.0 (is.0 ∙ still.past) fair)) (still.pasts.nothing_else t x le left);
      }

  -- one call behind another
  pub fair_joined : (groups more : List Group) (old mid new : D) → KeepsFair past moment left_with h groups more old mid → KeepsFair past moment left_with h (groups ++ more) [] mid new → KeepsFair past moment left_with h groups more old new
  fair_joined groups more old mid new first second =
      let all : List Group = groups ++ more in
      let less : (p : Past) → IsFairPast h (all ++ []) p → IsFairPast h all p = λ p fair. subst (λ (gs : List Group). IsFairPast h gs p) (append-nil all) fair in
      record {
        later = omega (arith, first.later, second.later);
        now = λ fair. less (past new) (second.now (first.now fair));
        since = λ fair t x le left.
            ⊎_elim (λ was. first.since fair t x le was) (λ is. inr (less x.0 is)) (second.since (first.now fair) t x (omega (arith, le, first.later)) left);
      }

  -- one write that is fair
  pub fair_write : (groups more : List Group) (old new : D) (at : ℕ) (bytes : List ℕ) → Writes at bytes (past old) (past new) → PastOnly moment left_with old new (Writes at bytes (past old))
      → IsFairWrite h (groups ++ more) (record { at = at; bytes = bytes }) → KeepsFair past moment left_with h groups more old new
  fair_write groups more old new at bytes now only fair = fair_by groups more old new (Writes at bytes (past old)) only now (λ was p is. written_fair h groups more (past old) p at bytes was fair is)

  -- a synchronisation
  pub fair_settles : (o : Option (List ℕ)) (groups : List Group) (old new : D) → IfSome o (λ f. IsFile h f groups) → Settles o (past old) (past new) → PastOnly moment left_with old new (Settles o (past old))
      → IfSome o (λ f. KeepsFair past moment left_with h groups [] old new)
  fair_settles None groups old new file now only = tt
  fair_settles (Some f) groups old new file now only = fair_by groups [] old new (Settles (Some f) (past old)) only now (λ was p is. settles_fair h groups f (past old) p file was is)

  -- the end of a file
  pub fair_closes : (o : Option (List ℕ)) (groups : List Group) (c : Closing) (old new : D) → IfSome o (λ f. IsFile h f groups) → Closes c o (past old) (past new) → PastOnly moment left_with old new (Closes c o (past old))
      → IfSome o (λ f. KeepsFair past moment left_with h groups [] old new)
  fair_closes None groups c old new file now only = tt
  fair_closes (Some f) groups c old new file now only = fair_by groups [] old new (Closes c (Some f) (past old)) only now (λ was p is. closes_fair h groups f c (past old) p file was is)
