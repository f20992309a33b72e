-- What a crash at any moment of a call on a bucket leaves.
use Rattle.std.proofs.Common.{◌≡◌, inl, ⊎_elim, ℕ, true, List, subst, sym}
use Rattle.std.specs.Int.{w64, to_be_bytes}
use Rattle.std.specs.Prelude.{◌⊎◌, Option, Some, None, IfSome, Result, OnOk}
use Rattle.tk_disk.specs.Crash.{Torn, Follows, Elapses, LeavesOnly, PastOnly}
use Rattle.tk_disk.specs.Past.{Past, Writes, with_write}
use Rattle.tk_disk.proofs.Moments.{TornOf, leaves_torn, leaves_weaker, past_called}
use Rattle.tk_block.specs.declared.head.StaticHead.{StaticHead}
use Rattle.tk_buckets.specs.Chain.{IsChain, link_in, head_cell, has_block, cell_to}
use Rattle.tk_buckets.proofs.Cuts.{IsCut}

module _ {D : Type 0} (may_leave : D → List ℕ → Type 0) (moment : D → ℕ) (left_since : D → ℕ → List ℕ → Type 0) where
  -- a crash at any moment since the start has torn the cell that leads to the block
  pub cell_only : ((disk : D) (c : List ℕ) → left_since disk (moment disk) c → may_leave disk c)
      → (o : Option (List ℕ)) (h : StaticHead) (bucket place : ℕ) (places : List ℕ) (old new : D) → Elapses (moment old) (moment new) (left_since old) (left_since new) (may_leave new)
      → IfSome o (λ f. IsChain h f bucket places → has_block place places ≡ true → Follows (Torn (cell_to (head_cell bucket) place places) 8) (may_leave old) (may_leave new))
      → IfSome o (λ f. IsChain h f bucket places → has_block place places ≡ true → LeavesOnly moment left_since old new (TornOf may_leave moment left_since old (cell_to (head_cell bucket) place places) 8))
  cell_only only_now None h bucket place places old new time torn = tt
  cell_only only_now (Some f) h bucket place places old new time torn = λ chain has. leaves_torn may_leave moment left_since only_now old new (cell_to (head_cell bucket) place places) 8 (torn chain has) time

-- a fact of the cell that leads to a block of the bucket, and of the bytes of the block's link
abbrev pub OfCell : Option (List ℕ) → StaticHead → (bucket place : ℕ) → (places : List ℕ) → (List ℕ → (at : ℕ) → (bytes : List ℕ) → Type 0) → Type 0
OfCell o h bucket place places P = IfSome o (λ f. IsChain h f bucket places → has_block place places ≡ true → P f (cell_to (head_cell bucket) place places) (to_be_bytes w64 (link_in f place)))

pub of_cut : (o : Option (List ℕ)) (h : StaticHead) (bucket place cell link : ℕ) (places : List ℕ) (P : (at : ℕ) → (bytes : List ℕ) → Type 0)
    → IfSome o (λ f. IsChain h f bucket places → has_block place places ≡ true → IsCut h f bucket place cell link places) → P cell (to_be_bytes w64 link) → OfCell o h bucket place places (λ f. P)
of_cut None h bucket place cell link places P cut known = tt
of_cut (Some f) h bucket place cell link places P cut known = λ chain has.
    let c = cut chain has in
    subst (λ (n : ℕ). P n (to_be_bytes w64 (link_in f place))) c.cell_is (subst (λ (n : ℕ). P cell (to_be_bytes w64 n)) c.link_is known)

-- the past after the write, where the disk tells the file
pub told_cell : {T E : Type 0} (o mid : Option (List ℕ)) (r : Result T E) (h : StaticHead) (bucket place cell link : ℕ) (places : List ℕ) (old before new : Past) (bytes : List ℕ)
    → mid ≡ o → bytes ≡ to_be_bytes w64 link → before ≡ old → IfSome mid (λ _. OnOk r (new ≡ with_write cell bytes before))
    → IfSome o (λ f. IsChain h f bucket places → has_block place places ≡ true → IsCut h f bucket place cell link places)
    → OfCell o h bucket place places (λ f at bytes. OnOk r (new ≡ with_write at bytes old))
told_cell None mid r h bucket place cell link places old before new bytes same spelled was told cut = tt
told_cell (Some f) mid r h bucket place cell link places old before new bytes same spelled was told cut =
    of_cut (Some f) h bucket place cell link places (λ at bytes. OnOk r (new ≡ with_write at bytes old)) cut
    (subst (λ (l : List ℕ). OnOk r (new ≡ with_write cell l old)) spelled
    (subst (λ (p : Past). OnOk r (new ≡ with_write cell bytes p)) was
    (subst (λ (o : Option (List ℕ)). IfSome o (λ _. OnOk r (new ≡ with_write cell bytes before))) same told)))

module _ {D : Type 0} (may_leave : D → List ℕ → Type 0) (moment : D → ℕ) (past : D → Past) (left_with : D → ℕ → Past × List ℕ → Type 0) where
  -- one write at most
  pub writes_only : ((disk : D) (x : Past × List ℕ) → left_with disk (moment disk) x → (x.0 ≡ past disk) × may_leave disk x.1)
      → (old new : D) → Elapses (moment old) (moment new) (left_with old) (left_with new) (λ x. (x.0 ≡ past new) × may_leave new x.1)
      → (at : ℕ) (bytes : List ℕ) → Writes at bytes (past old) (past new) → PastOnly moment left_with old new (Writes at bytes (past old))
  writes_only only_with old new pasts at bytes writes =
      leaves_weaker moment left_with old new (λ x. (x.0 ≡ past old) ⊎ (x.0 ≡ past new)) (λ x. Writes at bytes (past old) x.0)
      (past_called may_leave moment past left_with only_with old new pasts)
      (λ x either. ⊎_elim (λ was. inl was) (λ now. subst (λ (p : Past). Writes at bytes (past old) p) (sym now) writes) either)
