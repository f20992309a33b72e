-- The pasts and images while a fresh file is written.
use Rattle.std.proofs.Common.{◌≡◌, inl, inr, ⊎_elim, ℕ, ◌+◌, ◌-◌, ◌≤◌, ◌^◌, ◌++◌, List, [], length, take, drop, refl, sym, ◌∙◌, ap, subst, arith, append_assoc, length-append}
use Rattle.std.specs.Prelude.{slice_index, replicate, Option, Some, None, IfSome, Result, Ok, Err, OnOk, OnErr}
use Rattle.std.proofs.lemmas.List.{append-nil, drop_at, take_at, take_all, take-append-le, drop-append-le, take-append-drop, drop-drop, length-drop}
use Rattle.std.proofs.Math.Seq.{take-add}
use Rattle.std.specs.Option.{option_map}
use Rattle.std.specs.Io.{StartsWith}
use Rattle.tk_disk.specs.Crash.{Torn, Follows, Within, Only, Elapses, LeavesOnly, PastOnly}
use Rattle.tk_disk.specs.Past.{Past, with_write, settled_on, Writes, Cuts}
use Rattle.tk_disk.specs.Disk.{put_at}
use Rattle.tk_disk.specs.declared.disk.DiskError.{DiskError}
use Rattle.tk_disk.proofs.Moments.{leaves_weaker, leaves_joined}
use Rattle.tk_model.specs.declared.record.Group.{Group}
use Rattle.tk_block.specs.declared.head.StaticHead.{StaticHead}
use Rattle.tk_block.specs.declared.closing.Closing.{Closing}
use Rattle.tk_block.specs.Text.{static_text, closing_text, base_of}
use Rattle.tk_block.specs.Layout.{file_text, heads_text, texts, links_of, bodies_of, end_of}
use Rattle.tk_block.proofs.Grammar.{static_found, length-static_text}
use Rattle.tk_block.proofs.Lengths.{length-file_text}
use Rattle.tk_append.specs.Log.{AreGroups, HasGroups, blocks_of}
use Rattle.tk_append.specs.Untorn.{WritesHeader, IsKnownHeader, NoNewHeader}
use Rattle.tk_append.specs.FairPast.{IsFairPast, WholeRestores}
use Rattle.tk_append.specs.Restored.{groups_text, IsKept}
use Rattle.tk_append.specs.Fresh.{IsFreshMoment}
use Rattle.tk_append.proofs.Layouts.{end_of-least}
use Rattle.tk_append.proofs.Readings.{file_blocks}
use Rattle.tk_append.proofs.Restoring.{same_part}
use Rattle.tk_append.proofs.Windows.{cut}
use Rattle.tk_append.proofs.Fair.{fair_restores}
use Rattle.tk_append.proofs.FairPasts.{fair_written, fair_settled}
use Rattle.tk_append.proofs.PastSteps.{moments_held}
use Rattle.tk_append.proofs.Nameless.{no_static, none_new, none_cut, known_more}

-- a file with zero bytes in front makes no header known
pub none_settled : (f : List ℕ) (p : Past) (k : StaticHead) → slice_index f 0 ≡ 0 → p ≡ settled_on f → IsKnownHeader p k → ⊥
none_settled f p k zero is known = ⊎_elim (λ fixed. no_static f k zero fixed) (λ none. none) (subst (λ (q : Past). IsKnownHeader q k) is known)

-- nor does its hard synchronisation
pub synced_none : {T : Type 0} (r : Result T DiskError) (old synced : Option (List ℕ)) (rest : List ℕ) (was now : Past) → IfSome old (λ _. synced ≡ Some (replicate 32 0 ++ rest))
    → IfSome synced (λ f. OnOk r (now ≡ settled_on f)) → OnErr r (now ≡ was) → IfSome old (λ _. NoNewHeader was now)
synced_none r None synced rest was now written settled failed = tt
synced_none (Ok u) (Some x) synced rest was now written settled failed = λ k known.
    absurd (none_settled (replicate 32 0 ++ rest) now k refl (subst (λ (o : Option (List ℕ)). IfSome o (λ f. now ≡ settled_on f)) written settled) known)
synced_none (Err e) (Some x) synced rest was now written settled failed = none_new was now failed

file_groups : (h : StaticHead) (groups : List Group) (count next : ℕ) → HasGroups h groups (file_text h groups count next)
file_groups h groups count next = record { size = length-file_text h groups count next; blocks = file_blocks h groups count next }

-- behind 32 bytes other bytes in front change nothing
same_behind : (front text : List ℕ) (n : ℕ) → length front ≡ 32 → 32 ≤ n → drop n (front ++ drop 32 text) ≡ drop n text
same_behind front text n long past =
    ap (λ (k : ℕ). drop k (front ++ drop 32 text)) (omega (arith, past)) ∙ sym (drop-drop (n - 32) 32 (front ++ drop 32 text))
    ∙ ap (λ (l : List ℕ). drop (n - 32) l) (drop_at front (drop 32 text) 32 long)
    ∙ drop-drop (n - 32) 32 text ∙ ap (λ (k : ℕ). drop k text) (omega (arith, past))

-- a file as it stands before its static header is written
abbrev pub rest_of : (h : StaticHead) (groups : List Group) (count next : ℕ) → List ℕ
rest_of h groups count next = replicate 32 0 ++ drop 32 (file_text h groups count next)

pub some_both : {X : Type 0} (o : Option X) (A B : Type 0) → IfSome o (λ _. A) → IfSome o (λ _. B) → IfSome o (λ _. A × B)
some_both None A B a b = tt
some_both (Some x) A B a b = (a, b)

text_front : (h : StaticHead) (groups : List Group) (count next : ℕ) → take 32 (file_text h groups count next) ≡ static_text h
unfolding file_text
text_front h groups count next =
    let closing : Closing = record { size = end_of (base_of h.p) (bodies_of groups); count = count; next = next } in
    let blocks = heads_text h.p (blocks_of h groups) ++ texts (blocks_of h groups) (links_of h.p [] (blocks_of h groups)) in
    ap (λ (l : List ℕ). take 32 l) (append_assoc (static_text h) (closing_text closing) blocks) ∙ take_at (static_text h) (closing_text closing ++ blocks) 32 (length-static_text h)

module _ (h : StaticHead) (groups : List Group) (count next : ℕ) (before : Past) where
  abbrev text : List ℕ
  text = file_text h groups count next

  abbrev rest : List ℕ
  rest = rest_of h groups count next

  length_rest : length rest ≡ length text
  length_rest = omega (arith, length-append (replicate 32 0) (drop 32 text), length-drop 32 text, length-file_text h groups count next, end_of-least (base_of h.p) (bodies_of groups))

  rest_groups : HasGroups h groups rest
  rest_groups = record {
    size = length_rest ∙ (file_groups h groups count next).size;
    blocks = same_behind (replicate 32 0) text (base_of h.p) refl (omega arith) ∙ (file_groups h groups count next).blocks;
  }

  abbrev IsMoment : Past × List ℕ → Type 0
  IsMoment = IsFreshMoment h groups text before

  -- before the header is written
  pub unwritten : (p : Past) (c : List ℕ) → p ≡ settled_on rest → IsMoment (p, c)
  unwritten p c is k found known = absurd (none_settled rest p k refl is known)

  -- while it is written
  pub in_flight : (p : Past) (c : List ℕ) → p ≡ with_write 0 (static_text h) (settled_on rest) → Torn 0 32 rest c → IsMoment (p, c)
  in_flight p c is torn k found known = ⊎_elim
      (λ there. absurd (none_settled rest (settled_on rest) k refl refl there))
      (λ (here : WritesHeader k (record { at = 0; bytes = static_text h })).
      let spelled : static_text h ≡ static_text k = sym (take_all 32 (static_text h) (omega (arith, length-static_text h))) ∙ (static_found (static_text h) k here.1).1 in
      let front : take 32 c ≡ take 32 text = (static_found c k found).1 ∙ sym spelled ∙ sym (text_front h groups count next) in
      let long : base_of h.p ≤ length text = omega (arith, length-file_text h groups count next, end_of-least (base_of h.p) (bodies_of groups)) in
      let behind : take (length text - 32) (drop 32 c) ≡ take (length text - 32) (drop 32 rest) =
      same_part rest c 32 (length text - 32) (omega (arith, length_rest, long)) torn.no_shorter (λ i least below. torn.same i (omega (arith, below, length_rest, long)) (inr (omega (arith, least)))) in
      let whole : take (length text) c ≡ text =
      ap (λ (n : ℕ). take n c) (omega (arith, long)) ∙ take-add 32 (length text - 32) c ∙ ap (λ (l : List ℕ). l ++ take (length text - 32) (drop 32 c)) front
      ∙ ap (λ (l : List ℕ). take 32 text ++ l) (behind ∙ ap (λ (l : List ℕ). take (length text - 32) l) (drop_at (replicate 32 0) (drop 32 text) 32 refl))
      ∙ sym (take-add 32 (length text - 32) text) ∙ take_all (32 + (length text - 32)) text (omega (arith, long)) in
      inr (
        whole,
        subst (λ (q : Past). IsFairPast h groups q) (sym is)
            (fair_written h groups (settled_on rest) 0 (static_text h) (fair_settled h groups rest rest_groups) (inl (omega (arith, length-static_text h)))),
      ))
      (known_more (settled_on rest) 0 (static_text h) k (subst (λ (q : Past). IsKnownHeader q k) is known))

  -- when it is durable
  pub durable : (p : Past) (c : List ℕ) → p ≡ settled_on text → c ≡ text → IsMoment (p, c)
  durable p c is same k found known =
      inr (ap (λ (l : List ℕ). take (length text) l) same ∙ take_all (length text) text (omega arith), subst (λ (q : Past). IsFairPast h groups q) (sym is) (fair_settled h groups text (file_groups h groups count next)))

  module _ {D : Type 0} (may_leave : D → List ℕ → Type 0) (past_of : D → Past) (moment : D → ℕ) (left_with : D → ℕ → Past × List ℕ → Type 0)
      (only_with : (disk : D) (x : Past × List ℕ) → left_with disk (moment disk) x → (x.0 ≡ past_of disk) × may_leave disk x.1) where
    abbrev Moments : (old new : D) → Type 0
    Moments old new = LeavesOnly moment left_with old new IsMoment

    abbrev Passes : (old new : D) → Type 0
    Passes old new = Elapses (moment old) (moment new) (left_with old) (left_with new) (λ x. (x.0 ≡ past_of new) × may_leave new x.1)

    pub before_header : (start rest_on : D) → before ≡ past_of start → PastOnly moment left_with start rest_on (NoNewHeader (past_of start)) → Moments start rest_on
    before_header start rest_on is pasts =
        leaves_weaker moment left_with start rest_on (λ x. NoNewHeader (past_of start) x.0) IsMoment pasts
        (λ x none k found known. inl (subst (λ (p : Past). IsKnownHeader p k) (sym is) (none k known)))

    -- a moment with the header in flight
    flies : (old new : D) (bytes : List ℕ) → bytes ≡ static_text h → past_of old ≡ settled_on rest → Only rest (may_leave old) → past_of new ≡ with_write 0 bytes (past_of old)
        → Follows (Torn 0 (length bytes)) (may_leave old) (may_leave new) → (c : List ℕ) → may_leave new c → IsMoment (past_of new, c)
    flies old new bytes is settled only written torn c left =
        let d = torn c left in
        in_flight (past_of new) c (written ∙ ap (λ (p : Past). with_write 0 bytes p) settled ∙ ap (λ (l : List ℕ). with_write 0 l (settled_on rest)) is)
        (subst (λ (n : ℕ). Torn 0 n rest c) (ap length is ∙ length-static_text h) (subst (λ (l : List ℕ). Torn 0 (length bytes) l c) (only d.0 d.1) d.2))

    pub header_moments : (old new : D) (bytes : List ℕ) → bytes ≡ static_text h → past_of old ≡ settled_on rest → Only rest (may_leave old) → Writes 0 bytes (past_of old) (past_of new)
        → Follows (Torn 0 (length bytes)) (may_leave old) (may_leave new) → Passes old new → Moments old new
    header_moments old new bytes is settled only written torn pasts =
        moments_held may_leave past_of moment left_with only_with old new IsMoment pasts (λ c left. unwritten (past_of old) c settled)
        (λ c left. ⊎_elim (λ same. unwritten (past_of new) c (same ∙ settled)) (λ more. flies old new bytes is settled only more torn c left) written)

    pub synced_moments : {T : Type 0} (r : Result T DiskError) (old mid new : D) (bytes : List ℕ) → bytes ≡ static_text h → past_of old ≡ settled_on rest → Only rest (may_leave old)
        → past_of mid ≡ with_write 0 bytes (past_of old) → Follows (Torn 0 (length bytes)) (may_leave old) (may_leave mid)
        → Within (may_leave mid) (may_leave new) → OnOk r (Only text (may_leave new)) → OnOk r (past_of new ≡ settled_on text) → OnErr r (past_of new ≡ past_of mid) → Passes mid new → Moments mid new
    synced_moments (Ok u) old mid new bytes is settled only written torn within all stays failed pasts =
        moments_held may_leave past_of moment left_with only_with mid new IsMoment pasts (λ c left. flies old mid bytes is settled only written torn c left) (λ c left. durable (past_of new) c stays (all c left))
    synced_moments (Err e) old mid new bytes is settled only written torn within all stays failed pasts =
        moments_held may_leave past_of moment left_with only_with mid new IsMoment pasts (λ c left. flies old mid bytes is settled only written torn c left)
        (λ c left. subst (λ (p : Past). IsMoment (p, c)) (sym failed) (flies old mid bytes is settled only written torn c (within c left)))

    -- a cut behind what made no header known
    pub cut_moments : (start mid new : D) (n : ℕ) → before ≡ past_of start → NoNewHeader (past_of start) (past_of mid) → Cuts n (past_of mid) (past_of new) → Passes mid new → Moments start mid → Moments start new
    cut_moments start mid new n is none cut pasts moments =
        leaves_joined moment left_with start mid new IsMoment moments
        (moments_held may_leave past_of moment left_with only_with mid new IsMoment pasts (λ c left k found known. inl (subst (λ (p : Past). IsKnownHeader p k) (sym is) (none k known)))
        (λ c left k found known. inl (subst (λ (p : Past). IsKnownHeader p k) (sym is) (none k (none_cut n (past_of mid) (past_of new) cut k known)))))

module _ (h : StaticHead) (groups : List Group) (count next : ℕ) where
  -- the static header is written over the zero bytes
  pub header_written : (old new : Option (List ℕ)) (bytes : List ℕ) → bytes ≡ static_text h → old ≡ Some (rest_of h groups count next) → new ≡ option_map (put_at 0 bytes) old → new ≡ Some (file_text h groups count next)
  header_written old new bytes is there put =
      let text = file_text h groups count next in
      put ∙ ap (λ (o : Option (List ℕ)). option_map (put_at 0 bytes) o) there
      ∙ ap (λ (l : List ℕ). Some (put_at 0 l (rest_of h groups count next))) is
      ∙ ap (λ (n : ℕ). Some (static_text h ++ drop (0 + n) (rest_of h groups count next))) (length-static_text h)
      ∙ ap (λ (l : List ℕ). Some (static_text h ++ l)) (drop_at (replicate 32 0) (drop 32 text) 32 refl)
      ∙ ap (λ (l : List ℕ). Some (l ++ drop 32 text)) (sym (text_front h groups count next))
      ∙ ap (λ (l : List ℕ). Some l) (take-append-drop 32 text)

-- what begins with a file keeps its groups
whole_kept : (h : StaticHead) (groups : List Group) (count next : ℕ) (c : List ℕ) → StartsWith c (file_text h groups count next) → IsKept h groups c
whole_kept h groups count next c whole =
    let text = file_text h groups count next in
    let after = drop (length text) c in
    let long = length-file_text h groups count next in
    let least = end_of-least (base_of h.p) (bodies_of groups) in
    let is : c ≡ text ++ after = cut c text whole in
    record {
      header = ap (λ (l : List ℕ). take 32 l) is ∙ take-append-le 32 text after (omega (arith, long, least)) ∙ text_front h groups count next;
      heads = omega (arith, ap length is, length-append text after, long, least);
      blocks =
          ap (λ (l : List ℕ). take (length (groups_text h groups)) (drop (base_of h.p) l)) is
          ∙ ap (λ (l : List ℕ). take (length (groups_text h groups)) l) (drop-append-le (base_of h.p) text after (omega (arith, long, least)) ∙ ap (λ (l : List ℕ). l ++ after) (file_blocks h groups count next))
          ∙ take_at (groups_text h groups) after (length (groups_text h groups)) refl;
    }

pub whole_restores : WholeRestores
whole_restores h groups count next p c static small legal whole fair untorn =
    let none : groups ++ [] ≡ groups = append-nil groups in
    let r = fair_restores h groups [] (2 ^ 64) p c static small (subst (λ (l : List Group). AreGroups 0 (2 ^ 64) l) (sym none) legal) (omega arith) (whole_kept h groups count next c whole)
    (subst (λ (l : List Group). IsFairPast h l p) (sym none) fair) untorn in
    r.2 ∙ ap (λ (l : List Group). groups ++ l) (take_all r.0 [] (omega arith)) ∙ none
