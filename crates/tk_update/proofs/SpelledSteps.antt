-- What a write inside a block makes of the blocks that a file spells.
use Rattle.std.proofs.Common.{◌≡◌, inl, inr, ℕ, zero, suc, ◌+◌, ◌≤◌, Bool, true, false, List, [], ◌∷◌, ◌++◌, length, take, drop, refl, sym, ◌∙◌, ap, subst, arith, append_assoc, replicate, if◌then◌else◌}
use Rattle.std.specs.Prelude.{Option, Some, None, ◌==◌, nat_le}
use Rattle.std.specs.Option.{is_some}
use Rattle.std.proofs.lemmas.List.{drop_all, drop_at, drop-drop, append-nil, get_or_append_left, length-replicate, length-append}
use Rattle.std.proofs.lemmas.Bool.Decides.{nat_tests}
use Rattle.tk_disk.specs.Crash.{Torn}
use Rattle.tk_model.specs.declared.record.Change.{Change}
use Rattle.tk_model.specs.declared.record.Group.{Group}
use Rattle.tk_block.specs.Text.{head_at, base_of}
use Rattle.tk_block.specs.Blocks.{body_at, block_text, room_of, extent_of}
use Rattle.tk_block.specs.declared.block.Body.{Body}
use Rattle.tk_block.specs.declared.head.StaticHead.{StaticHead}
use Rattle.tk_block.specs.Grammar.{FitsBody}
use Rattle.tk_block.proofs.BlockReads.{block_head, block_body}
use Rattle.tk_block.proofs.Lengths.{room_fits, length-block_text}
use Rattle.tk_update.proofs.BlockSteps.{with_body, void_if, key_is, same_place, below, of_stands}
use Rattle.tk_block.specs.Layout.{Placed}
use Rattle.tk_disk.specs.Past.{Past, with_write, settled_on}
use Rattle.tk_update.specs.Blocks.{written_at, appended, voided, void_body, is_of, block_of, KeyIsOnce, KeysAreOnce, AreInLine, replay_blocks}
use Rattle.tk_update.specs.FairPast.{IsLeftBy, Spares}
use Rattle.tk_update.specs.KeptKeys.{KeepsKeys, changes_in}
use Rattle.tk_update.specs.Laws.{WritesBlocks, PastsKeep, SafeLess}
use Rattle.tk_update.specs.Restored.{inside, seen_here, seen_from, seen_in, valid_here, valid_blocks, blocks_in}
use Rattle.tk_update.specs.Spelled.{placed_at, Spells}
use Rattle.tk_update.proofs.KeptKeys.{head_stays, body_stays, keeps_keys}
use Rattle.tk_update.proofs.LeftPasts.{left_by_past}
use Rattle.tk_update.proofs.FairSteps.{head_long, extent_least, put_more, unchanged_less}
use Rattle.tk_update.proofs.Told.{not_both, no_some, same_some}

-- ---- what is spelled is read

nothing : (q : ℕ) (o : Option ℕ) → head_at [] q ≡ o → o ≡ None
nothing q None is = refl
nothing q (Some e) is = absurd (omega (arith, head_long [] q e is))

pub read_end : (n q : ℕ) (f : List ℕ) → length f ≤ q → valid_blocks (seen_from n q f) ≡ []
read_end zero q f short = refl
read_end (suc n) q f short =
    let none : head_at (drop q f) q ≡ None = ap (λ (l : List ℕ). head_at l q) (drop_all q f short) ∙ nothing q (head_at [] q) refl in
    ap (λ (o : Option ℕ). valid_blocks (seen_here o q (body_at (drop (q + 24) f) q) (λ e. seen_from n (q + e) f))) none

read_one : (n q e : ℕ) (b : Body) (f : List ℕ) → head_at (drop q f) q ≡ Some e → body_at (drop (q + 24) f) q ≡ Some b → nat_le (room_of b) e ≡ true
    → valid_blocks (seen_from (suc n) q f) ≡ record { place = q; extent = e; body = b } ∷ valid_blocks (seen_from n (q + e) f)
read_one n q e b f head says fits =
    ap (λ (o : Option ℕ). valid_blocks (seen_here o q (body_at (drop (q + 24) f) q) (λ e. seen_from n (q + e) f))) head
    ∙ ap (λ (o : Option Body). valid_here (inside e o) q e (valid_blocks (seen_from n (q + e) f))) says
    ∙ ap (λ (t : Bool). valid_here (if t then Some b else None) q e (valid_blocks (seen_from n (q + e) f))) fits

read_all : (n q : ℕ) (f : List ℕ) (xs : List Placed) → length xs ≤ n → Spells f q xs → valid_blocks (seen_from n q f) ≡ xs
read_all n q f [] le spells = read_end n q f (omega (arith, spells))
read_all zero q f (x ∷ xs) le spells = absurd (omega (arith, le))
read_all (suc n) q f (x ∷ xs) le spells =
    let fits : nat_le (room_of x.body) x.extent ≡ true = grind (arith, nat_tests, spells.3) in
    ap (λ (k : ℕ). valid_blocks (seen_from (suc n) k f)) (sym spells.0) ∙ read_one n x.place x.extent x.body f spells.1 spells.2 fits
    ∙ ap (λ (l : List Placed). x ∷ l) (ap (λ (k : ℕ). valid_blocks (seen_from n (k + x.extent) f)) spells.0 ∙ read_all n (q + x.extent) f xs (omega (arith, le)) spells.4)

few : (q : ℕ) (f : List ℕ) (xs : List Placed) → Spells f q xs → q + length xs ≤ length f
few q f [] spells = omega (arith, spells)
few q f (x ∷ xs) spells = omega (arith, few (q + x.extent) f xs spells.4, extent_least (drop x.place f) x.place x.extent spells.1)

read_file : (h : StaticHead) (f : List ℕ) (xs : List Placed) → Spells f (base_of h.p) xs → blocks_in h f ≡ xs
unfolding seen_in
read_file h f xs spells = read_all (length f) (base_of h.p) f xs (omega (arith, few (base_of h.p) f xs spells)) spells

-- ---- a write inside a block

module _ (f c bytes : List ℕ) (from : ℕ) (torn : Torn from (length bytes) f c) (long : length c ≡ length f) where
  abbrev past : Past
  past = with_write from bytes (settled_on f)

  left : IsLeftBy past c
  left = left_by_past.written from bytes (settled_on f) f c (left_by_past.settled f) torn

  stays : (x : Placed) → Spares x.place (x.place + 16) (record { at = from; bytes = bytes }) → Spares (x.place + 24) (x.place + room_of x.body) (record { at = from; bytes = bytes })
      → head_at (drop x.place f) x.place ≡ Some x.extent → body_at (drop (x.place + 24) f) x.place ≡ Some x.body
      → (head_at (drop x.place c) x.place ≡ Some x.extent) × (body_at (drop (x.place + 24) c) x.place ≡ Some x.body)
  stays x one two head says = (head_stays past c x.place x.extent left refl (one, tt) head, body_stays past c x.place x.body left refl (two, tt) says)

  behind_stays : (at : ℕ) (xs : List Placed) → from + length bytes ≤ at → Spells f at xs → Spells c at xs
  behind_stays at [] le spells = spells ∙ sym long
  behind_stays at (x ∷ xs) le spells =
      let same = stays x (inl (omega (arith, le, spells.0))) (inl (omega (arith, le, spells.0))) spells.1 spells.2 in
      (spells.0, same.0, same.1, spells.3, behind_stays (at + x.extent) xs (omega (arith, le)) spells.4)

  least : (at : ℕ) (xs : List Placed) (x : Placed) → Spells f at xs → placed_at x.place xs ≡ Some x → at ≤ x.place
  least at [] x spells found = absurd (no_some x found)
  least at (y ∷ ys) x spells found = step (y.place == x.place) found (λ more. least (at + y.extent) ys x spells.4 more)
    where
      step : (t : Bool) → (if t then Some y else placed_at x.place ys) ≡ Some x → (placed_at x.place ys ≡ Some x → at + y.extent ≤ x.place) → at ≤ x.place
      step true found go = omega (arith, spells.0, ap (λ (z : Placed). z.place) (same_some y x found))
      step false found go = omega (arith, go found)

  module _ (x : Placed) (b : Body) (inner : x.place + 16 ≤ from) (outer : from + length bytes ≤ x.place + x.extent) (says : body_at (drop (x.place + 24) c) x.place ≡ Some b) (fits : room_of b ≤ x.extent) where
    spells_if : (t : Bool) (at : ℕ) (y : Placed) (ys : List Placed) → (placed_at x.place ys ≡ Some x → Spells c (at + y.extent) (written_at x.place b ys)) → Spells f at (y ∷ ys) → (if t then Some y else placed_at x.place ys) ≡ Some x
        → Spells c at (if t then record { place = y.place; extent = y.extent; body = b } ∷ ys else y ∷ written_at x.place b ys)
    spells_if true at y ys go spells found =
        let same = same_some y x found in
        let place = ap (λ (z : Placed). z.place) same in
        let extent = ap (λ (z : Placed). z.extent) same in (
          spells.0,
          head_stays past c y.place y.extent left refl (inr (omega (arith, inner, place)), tt) spells.1,
          subst (λ (k : ℕ). body_at (drop (k + 24) c) k ≡ Some b) (sym place) says,
          omega (arith, fits, extent),
          behind_stays (at + y.extent) ys (omega (arith, outer, place, extent, spells.0)) spells.4,
        )
    spells_if false at y ys go spells found =
        let le = least (at + y.extent) ys x spells.4 found in
        let long_enough = extent_least (drop y.place f) y.place y.extent spells.1 in
        let same = stays y (inr (omega (arith, le, inner, spells.0, long_enough))) (inr (omega (arith, le, inner, spells.0, spells.3))) spells.1 spells.2 in
        (spells.0, same.0, same.1, spells.3, go found)

    spells_written : (at : ℕ) (xs : List Placed) → Spells f at xs → placed_at x.place xs ≡ Some x → Spells c at (written_at x.place b xs)
    spells_written at [] spells found = absurd (no_some x found)
    spells_written at (y ∷ ys) spells found = spells_if (y.place == x.place) at y ys (λ more. spells_written (at + y.extent) ys spells.4 more) spells found

-- ---- a block at the end

spells_end : (at : ℕ) (f text : List ℕ) (b : Body) (link : ℕ) (xs : List Placed) → text ≡ block_text b (length f) link → FitsBody b → Spells f at xs → Spells (f ++ text) at (appended at b xs)
spells_end at f text b link [] is fits spells =
    let head : drop at (f ++ text) ≡ text = drop_at f text at (sym spells) in
    let whole : text ++ [] ≡ text = append-nil text in
    let one : head_at text at ≡ Some (extent_of b) = ap (λ (l : List ℕ). head_at l at) (sym whole ∙ ap (λ (l : List ℕ). l ++ []) is) ∙ ap (λ (k : ℕ). head_at (block_text b (length f) link ++ []) k) spells ∙ block_head b (length f) link [] fits in
    let two : body_at (drop 24 text) at ≡ Some b = ap (λ (l : List ℕ). body_at (drop 24 l) at) (sym whole ∙ ap (λ (l : List ℕ). l ++ []) is) ∙ ap (λ (k : ℕ). body_at (drop 24 (block_text b (length f) link ++ [])) k) spells ∙ block_body b (length f) link [] fits in (
      refl,
      ap (λ (l : List ℕ). head_at l at) head ∙ one,
      ap (λ (l : List ℕ). body_at l at) (sym (drop-drop 24 at (f ++ text)) ∙ ap (λ (l : List ℕ). drop 24 l) head) ∙ two,
      room_fits (room_of b),
      omega (arith, spells, length-append f text, ap length is, length-block_text b (length f) link),
    )
spells_end at f text b link (x ∷ xs) is fits spells =
    let left : IsLeftBy (settled_on f) (f ++ text) = record { long = omega (arith, length-append f text); same = λ i below apart. get_or_append_left f text 0 i below } in (
      spells.0,
      head_stays (settled_on f) (f ++ text) x.place x.extent left refl tt spells.1,
      body_stays (settled_on f) (f ++ text) x.place x.body left refl tt spells.2,
      spells.3,
      subst (λ (k : ℕ). Spells (f ++ text) (at + x.extent) (appended (k + x.extent) b xs)) (sym spells.0) (spells_end (at + x.extent) f text b link xs is fits spells.4),
    )

-- ---- a block made void

none_voided_if : (t : Bool) (k : List ℕ) (n : ℕ) (y : Placed) (ys : List Placed) → (if t then Some y else block_of k ys) ≡ None → (block_of k ys ≡ None → voided k n ys ≡ ys) → void_if t n y ∷ voided k n ys ≡ y ∷ ys
none_voided_if true k n y ys none go = absurd (no_some y (sym none))
none_voided_if false k n y ys none go = ap (λ (l : List Placed). y ∷ l) (go none)

none_voided : (k : List ℕ) (n : ℕ) (xs : List Placed) → block_of k xs ≡ None → voided k n xs ≡ xs
none_voided k n [] none = refl
none_voided k n (y ∷ ys) none = none_voided_if (is_of k y.body) k n y ys none (λ more. none_voided k n ys more)

void_first : (t s : Bool) (k : List ℕ) (n : ℕ) (x y : Placed) (ys : List Placed) → is_of k y.body ≡ t → (y.place == x.place) ≡ s → KeyIsOnce y ys → (block_of k ys ≡ Some x → (y.place == x.place) ≡ false)
    → (block_of k ys ≡ Some x → voided k n ys ≡ written_at x.place (void_body n) ys) → (if t then Some y else block_of k ys) ≡ Some x
    → void_if t n y ∷ voided k n ys ≡ (if s then with_body (void_body n) y ∷ ys else y ∷ written_at x.place (void_body n) ys)
void_first true true k n x y ys its at once apart go found =
    let key = key_is k y.body its in
    ap (λ (l : List Placed). with_body (void_body n) y ∷ l) (none_voided k n ys (subst (λ (j : List ℕ). block_of j ys ≡ None) (sym key.1) (once key.0)))
void_first true false k n x y ys its at once apart go found = absurd (not_both (y.place == x.place) (subst (λ (z : Placed). (y.place == z.place) ≡ true) (same_some y x found) (same_place y.place)) at)
void_first false true k n x y ys its at once apart go found = absurd (not_both (y.place == x.place) at (apart found))
void_first false false k n x y ys its at once apart go found = ap (λ (l : List Placed). y ∷ l) (go found)

void_written : (at : ℕ) (k : List ℕ) (n : ℕ) (xs : List Placed) (x : Placed) → AreInLine at xs → KeysAreOnce xs → block_of k xs ≡ Some x → voided k n xs ≡ written_at x.place (void_body n) xs
void_written at k n [] x laid once found = absurd (no_some x found)
void_written at k n (y ∷ ys) x laid once found =
    void_first (is_of k y.body) (y.place == x.place) k n x y ys refl refl once.0 (λ more. below y.place x.place (omega (arith, laid.0, laid.1, (of_stands k (at + y.extent) ys x laid.3 more).0.least)))
    (λ more. void_written (at + y.extent) k n ys x laid.3 once.1 more) found

pub pasts_keep : PastsKeep
pasts_keep h first groups n p c past untorn = record {
  count = past.count;
  least = past.least;
  most = past.most;
  keys = subst (λ (l : List Placed). KeepsKeys l (changes_in (drop past.count groups)) c) past.stood (keeps_keys h (changes_in (drop past.count groups)) p c past.fair past.left untorn);
}

pub writes_blocks : (h : StaticHead) → WritesBlocks h
writes_blocks h = record {
  read = read_file h;
  body = λ f c xs x b at n spells found inner outer torn long says fits.
      let bytes = replicate n 0 in
      let many : length bytes ≡ n = length-replicate {A = ℕ} n 0 in
      spells_written f c bytes at (subst (λ (k : ℕ). Torn at k f c) (sym many) torn) long x b inner (omega (arith, outer, many)) says fits (base_of h.p) xs spells found;
  append = λ f xs b link spells fits. spells_end (base_of h.p) f (block_text b (length f) link) b link xs refl fits spells;
  voided = λ xs k n x laid once found. void_written (base_of h.p) k n xs x laid once found;
}

-- ---- more groups, fewer synced

drop_front : {A : Type 0} (n : ℕ) (xs ys : List A) → n ≤ length xs → drop n (xs ++ ys) ≡ drop n xs ++ ys
drop_front zero xs ys le = refl
drop_front (suc n) [] ys le = absurd (omega (arith, le))
drop_front (suc n) (x ∷ xs) ys le = drop_front n xs ys (omega (arith, le))

take_front : {A : Type 0} (n : ℕ) (xs ys : List A) → n ≤ length xs → take n (xs ++ ys) ≡ take n xs
take_front zero xs ys le = refl
take_front (suc n) [] ys le = absurd (omega (arith, le))
take_front (suc n) (x ∷ xs) ys le = ap (λ (l : List _). x ∷ l) (take_front n xs ys (omega (arith, le)))

changes_join : (xs ys : List Group) → changes_in (xs ++ ys) ≡ changes_in xs ++ changes_in ys
changes_join [] ys = refl
changes_join (g ∷ gs) ys = ap (λ (l : List Change). g.changes ++ l) (changes_join gs ys) ∙ sym (append_assoc g.changes (changes_in gs) (changes_in ys))

keeps_more : (before : List Placed) (since new : List Change) (c : List ℕ) → KeepsKeys before since c → KeepsKeys before (since ++ new) c
keeps_more before since new c keeps = record {
  unchanged = λ k un. keeps.unchanged k (unchanged_less (is_some (block_of k before)) k since new un);
  changed = λ k v found. elim (keeps.changed k v found) [ inl a ↦ inl a | inr put ↦ inr (put_more k v since new put) ];
}

pub safe_less : SafeLess
safe_less h first groups more m n c le after = record {
  count = after.count;
  least = omega (arith, le, after.least);
  most = omega (arith, after.most, length-append groups more);
  keys =
      subst (λ (l : List Group). KeepsKeys (replay_blocks (base_of h.p) l first) (changes_in (drop after.count (groups ++ more))) c) (sym (take_front after.count groups more after.most))
      (subst (λ (l : List Change). KeepsKeys (replay_blocks (base_of h.p) (take after.count groups) first) l c) (sym (ap changes_in (drop_front after.count groups more after.most) ∙ changes_join (drop after.count groups) more))
      (keeps_more (replay_blocks (base_of h.p) (take after.count groups) first) (changes_in (drop after.count groups)) (changes_in more) c after.keys));
}
