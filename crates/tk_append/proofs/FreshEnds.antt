-- A fresh file in which nothing fails is whole.
use Rattle.std.proofs.Common.{◌≡◌, ⊎_elim, ℕ, ◌<◌, ◌≤◌, ◌^◌, Bool, true, false, List, [], ◌++◌, length, drop, refl, sym, ◌∙◌, ap, arith, append_assoc, inl, inr}
use Rattle.std.specs.Prelude.{Option, Some, None, ◌==◌}
use Rattle.std.specs.Io.{StartsWith}
use Rattle.std.specs.List.{list_any}
use Rattle.std.proofs.lemmas.Bool.{cases_lt}
use Rattle.std.proofs.lemmas.List.{drop_at, take_all}
use Rattle.tk_model.specs.declared.error.OpenError.{OpenError}
use Rattle.tk_model.specs.declared.record.ShardOf.{ShardOf}
use Rattle.tk_model.specs.declared.record.Group.{Group}
use Rattle.tk_block.specs.declared.closing.Closing.{Closing}
use Rattle.tk_block.specs.declared.head.StaticHead.{StaticHead}
use Rattle.tk_block.specs.Text.{static_at, closing_at, static_text, closing_text, base_of}
use Rattle.tk_block.specs.Layout.{file_text, heads_text, texts, links_of, bodies_of, end_of}
use Rattle.tk_block.proofs.Grammar.{closings, length-static_text}
use Rattle.tk_block.proofs.Lengths.{length-file_text}
use Rattle.tk_append.specs.Log.{blocks_of}
use Rattle.tk_append.specs.Opening.{closing_fault, first_fault}
use Rattle.tk_append.specs.FreshLaws.{FreshAccepted}
use Rattle.tk_append.proofs.Checked.{short_file, no_static, other_kind, head_found, no_closing, other_size}
use Rattle.tk_append.proofs.Windows.{cut}

fails : (o : Option OpenError) (e : OpenError) → o ≡ Some e → o ≡ None → ⊥
fails o e some none = cc

-- what an opening finds in a file that it accepts
record Accepted (f : List ℕ) : Type 0 where
  head : StaticHead
  found : static_at f ≡ Some head
  closing : Closing
  says : closing_at (drop 32 f) ≡ Some closing
  size : closing.size ≡ length f

module _ (kinds : List ℕ) (writable : Bool) (shard : ShardOf) (f : List ℕ) where
  size_is : (h : StaticHead) (c : Closing) → closing_at (drop 32 f) ≡ Some c → closing_fault writable h shard f (closing_at (drop 32 f)) ≡ None → c.size ≡ length f
  size_is h c says none = elim (cases_lt c.size (length f)) [
    | inl below ↦ absurd (fails _ _ (other_size writable h shard f c says (λ is. omega (arith, below, is))) none)
    | inr past ↦ elim (cases_lt (length f) c.size) [
      | inl above ↦ absurd (fails _ _ (other_size writable h shard f c says (λ is. omega (arith, above, is))) none)
      | inr upto ↦ omega (arith, past, upto)
    ]
  ]

  by_closing : (h : StaticHead) (o : Option Closing) → static_at f ≡ Some h → closing_at (drop 32 f) ≡ o → closing_fault writable h shard f (closing_at (drop 32 f)) ≡ None → Accepted f
  by_closing h None found is none = absurd (fails _ _ (no_closing writable h shard f is) none)
  by_closing h (Some c) found is none = record { head = h; found = found; closing = c; says = is; size = size_is h c is none }

  by_kind : (h : StaticHead) (t : Bool) → 64 ≤ length f → static_at f ≡ Some h → list_any (λ k. k == h.kind) kinds ≡ t → first_fault kinds writable shard f ≡ None → Accepted f
  by_kind h false long found other none = absurd (fails _ _ (other_kind kinds writable shard f h long found other) none)
  by_kind h true long found fits none = by_closing h (closing_at (drop 32 f)) found refl (sym ((head_found kinds f h long found fits).rest writable shard) ∙ none)

  by_static : (o : Option StaticHead) → 64 ≤ length f → static_at f ≡ o → first_fault kinds writable shard f ≡ None → Accepted f
  by_static None long is none = absurd (fails _ _ (no_static kinds writable shard f long is) none)
  by_static (Some h) long is none = by_kind h (list_any (λ k. k == h.kind) kinds) long is refl none

  accepted : first_fault kinds writable shard f ≡ None → Accepted f
  accepted none = elim (cases_lt (length f) 64) [
    | inl short ↦ absurd (fails _ _ (short_file kinds writable shard f short) none)
    | inr long ↦ by_static (static_at f) long refl none
  ]

-- the closing part of what begins with a file
closing_front : (h : StaticHead) (groups : List Group) (count next : ℕ) (after : List ℕ) → end_of (base_of h.p) (bodies_of groups) < 2 ^ 64 → count < 2 ^ 64 → next < 2 ^ 64
    → closing_at (drop 32 (file_text h groups count next ++ after)) ≡ Some (record { size = end_of (base_of h.p) (bodies_of groups); count = count; next = next })
unfolding file_text
closing_front h groups count next after size small low =
    let closing : Closing = record { size = end_of (base_of h.p) (bodies_of groups); count = count; next = next } in
    let blocks = heads_text h.p (blocks_of h groups) ++ texts (blocks_of h groups) (links_of h.p [] (blocks_of h groups)) in
    let split : file_text h groups count next ++ after ≡ static_text h ++ (closing_text closing ++ (blocks ++ after)) =
    append_assoc (static_text h ++ closing_text closing) blocks after ∙ append_assoc (static_text h) (closing_text closing) (blocks ++ after) in
    ap (λ (l : List ℕ). closing_at (drop 32 l)) split
    ∙ ap closing_at (drop_at (static_text h) (closing_text closing ++ (blocks ++ after)) 32 (length-static_text h))
    ∙ closings.again closing (blocks ++ after) (size, small, low)

same_closing : (c d : Closing) → Some c ≡ Some d → c ≡ d
same_closing c d is = cc

whole_file : (h : StaticHead) (groups : List Group) (count next : ℕ) (f : List ℕ) → end_of (base_of h.p) (bodies_of groups) < 2 ^ 64 → count < 2 ^ 64 → next < 2 ^ 64 → Accepted f
    → StartsWith f (file_text h groups count next) → f ≡ file_text h groups count next
whole_file h groups count next f size small low a whole =
    let text = file_text h groups count next in
    let is : f ≡ text ++ drop (length text) f = cut f text whole in
    let same : a.closing ≡ record { size = end_of (base_of h.p) (bodies_of groups); count = count; next = next } =
    same_closing a.closing _ (sym a.says ∙ ap (λ (l : List ℕ). closing_at (drop 32 l)) is ∙ closing_front h groups count next (drop (length text) f) size small low) in
    let long : length f ≡ length text = sym a.size ∙ ap (λ (c : Closing). c.size) same ∙ sym (length-file_text h groups count next) in
    sym (take_all (length text) f (omega (arith, long))) ∙ whole

pub fresh_accepted : FreshAccepted
fresh_accepted kinds writable shard h groups count next before p f size small low moment none known accepts =
    let a = accepted kinds writable shard f accepts in
    ⊎_elim (λ was. absurd (none a.head was)) (λ here. whole_file h groups count next f size small low a here.0) (moment a.head a.found (known a.head a.found))
