-- What calls of a disk keep of the groups in its images.
use Rattle.std.proofs.Common.{◌≡◌, ◌⊎◌, inl, inr, ℕ, ◌+◌, ◌≤◌, List, [], ◌++◌, length, take, drop, sym, ◌∙◌, ap, arith, append_assoc}
use Rattle.std.proofs.lemmas.List.{take-append-drop}
use Rattle.tk_disk.specs.Past.{Past}
use Rattle.tk_disk.specs.Crash.{Torn, Follows, Within, LeavesOnly, OnlyReads}
use Rattle.tk_model.specs.declared.record.Group.{Group}
use Rattle.tk_block.specs.declared.head.StaticHead.{StaticHead}
use Rattle.tk_block.specs.declared.block.Body.{Body}
use Rattle.tk_block.specs.Text.{base_of}
use Rattle.tk_block.specs.Layout.{end_of, bodies_of, links_of}
use Rattle.tk_block.proofs.Lengths.{length-texts}
use Rattle.tk_block.proofs.Layouts.{end_of-append, bodies_of-append}
use Rattle.tk_block.proofs.Groups.{end_behind}
use Rattle.tk_append.specs.Log.{blocks_of}
use Rattle.tk_append.specs.Restored.{groups_text}
use Rattle.tk_append.proofs.Restoring.{torn_kept}
use Rattle.tk_hash.specs.Hash.{KeepsGroups}

-- a front of groups ends no later than all of them
pub front_ends : (h : StaticHead) (first since : List Group) (hard end : ℕ) → end ≡ end_of (base_of h.p) (bodies_of (first ++ since)) → base_of h.p + length (groups_text h (first ++ take hard since)) ≤ end
front_ends h first since hard end is =
    let kept = first ++ take hard since in
    let whole : kept ++ drop hard since ≡ first ++ since = append_assoc first (take hard since) (drop hard since) ∙ ap (λ (l : List Group). first ++ l) (take-append-drop hard since) in
    let ends : end ≡ end_of (end_of (base_of h.p) (bodies_of kept)) (bodies_of (drop hard since)) =
    is ∙ ap (λ (l : List Group). end_of (base_of h.p) (bodies_of l)) (sym whole) ∙ ap (λ (l : List Body). end_of (base_of h.p) l) (bodies_of-append kept (drop hard since))
    ∙ end_of-append (base_of h.p) (bodies_of kept) (bodies_of (drop hard since)) in
    omega (arith, ends, end_behind (end_of (base_of h.p) (bodies_of kept)) (bodies_of (drop hard since)), length-texts (base_of h.p) (bodies_of kept) (links_of h.p [] (blocks_of h kept)))

module _ {D : Type 0} (may_leave : D → List ℕ → Type 0) (moment : D → ℕ) (left_since : D → ℕ → List ℕ → Type 0) (h : StaticHead) (groups : List Group) where
  abbrev Keeps : D → D → Type 0
  Keeps old new = KeepsGroups may_leave moment left_since h groups old new

  pub keeps_joined : (old mid new : D) → Keeps old mid → Keeps mid new → Keeps old new
  keeps_joined old mid new first second = record {
    later = omega (arith, first.later, second.later);
    now = λ kept c left. second.now (first.now kept) c left;
    since = λ kept t c earlier left. elim (second.since (first.now kept) t c (omega (arith, earlier, first.later)) left) [ inl past ↦ first.since kept t c earlier past | inr is ↦ inr is ];
  }

  pub keeps_read : (past : D → Past) (left_with : D → ℕ → Past × List ℕ → Type 0) (old new : D) → OnlyReads may_leave moment left_since past left_with old new → Keeps old new
  keeps_read past left_with old new still = record {
    later = still.time.later;
    now = λ kept c left. kept c (still.crash c left);
    since = λ kept t c earlier left. elim (still.time.nothing_else t c earlier left) [ inl past ↦ inl past | inr is ↦ inr (kept c (still.crash c is)) ];
  }

  pub keeps_within : (old new : D) → Within (may_leave old) (may_leave new) → LeavesOnly moment left_since old new (may_leave old) → Keeps old new
  keeps_within old new within time = record {
    later = time.later;
    now = λ kept c left. kept c (within c left);
    since = λ kept t c earlier left. elim (time.before t c earlier left) [ inl past ↦ inl past | inr is ↦ inr (kept c is) ];
  }

  -- a write in the closing part or the heads, or behind the groups
  pub keeps_torn : (old new : D) (at n : ℕ) → ((32 ≤ at) × (at + n ≤ base_of h.p)) ⊎ (base_of h.p + length (groups_text h groups) ≤ at) → Follows (Torn at n) (may_leave old) (may_leave new)
      → LeavesOnly moment left_since old new (λ c. (d : List ℕ) × may_leave old d × Torn at n d c) → Keeps old new
  keeps_torn old new at n place follows time = record {
    later = time.later;
    now = λ kept c left. let torn = follows c left in torn_kept h groups torn.0 c at n (kept torn.0 torn.1) torn.2 place;
    since = λ kept t c earlier left. elim (time.before t c earlier left) [ inl past ↦ inl past | inr torn ↦ inr (torn_kept h groups torn.0 c at n (kept torn.0 torn.1) torn.2 place) ];
  }
