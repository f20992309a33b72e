-- An untorn image keeps the keys.
use Rattle.std.proofs.Common.{◌≡◌, ◌⊎◌, inl, inr, ℕ, zero, suc, ◌+◌, ◌<◌, ◌≤◌, Bool, true, false, List, [], ◌∷◌, ◌++◌, length, take, drop, get_or, refl, sym, ◌∙◌, ap, subst, arith, if◌then◌else◌}
use Rattle.std.specs.Prelude.{Option, Some, None, ◌&&◌, ◌||◌, nat_le}
use Rattle.std.proofs.lemmas.List.{take-append-drop, length-take, length-drop, get_or-drop, get_or-take}
use Rattle.std.proofs.lemmas.Grind.{same_number_lists}
use Rattle.std.specs.Option.{is_some}
use Rattle.tk_model.specs.Orders.{same_bytes}
use Rattle.tk_model.specs.declared.record.Change.{Change}
use Rattle.tk_model.specs.declared.record.Change.TheVariants as changes
use Rattle.tk_block.specs.Sizes.{static_size, head_size}
use Rattle.tk_block.specs.Text.{head_at, head_text, static_at, static_text, base_of}
use Rattle.tk_block.specs.Blocks.{body_at, body_text, room_of}
use Rattle.tk_block.specs.declared.block.Body.{Body}
use Rattle.tk_block.specs.declared.head.StaticHead.{StaticHead}
use Rattle.tk_block.proofs.Grammar.{heads, statics, length-static_text}
use Rattle.tk_block.proofs.Heads.{length-head_text}
use Rattle.tk_block.proofs.BodyGrammar.{bodies, length-body_text}
use Rattle.tk_append.specs.Untorn.{AllWrites, AnyWrite}
use Rattle.tk_block.specs.Layout.{Placed}
use Rattle.tk_disk.specs.Past.{Write, Past}
use Rattle.tk_update.specs.Blocks.{is_of, block_of, value_in, KeysAreOnce, KeyIsOnce}
use Rattle.tk_update.specs.FairPast.{Spares, SparesBlock, IsLeftBy, IsFairPast, was_put, was_changed, has_clear}
use Rattle.tk_update.specs.Laws.{FairKeepsKeys}
use Rattle.tk_update.specs.Restored.{Seen, inside, seen_here, seen_from, valid_here, valid_blocks, seen_in, blocks_in, blocks_by, newer, newest_of, restored_value}
use Rattle.tk_update.specs.Untorn.{AnySeen, AllSeen, IsKnownBody, UntornFrom, IsUntornBy, body_written}
use Rattle.tk_update.proofs.BlockSteps.{key_is}
use Rattle.tk_update.proofs.Told.{two_false, not_both, no_some, same_some, within}

-- the value that a key is restored with under this header
abbrev value_by : StaticHead → List ℕ → (key : List ℕ) → Option (List ℕ)
value_by h c k = value_in (newest_of k (blocks_in h c))

-- ---- tests

abbrev AllPlaced : (Placed → Type 0) → List Placed → Type 0
AllPlaced P [] = Unit {0}
AllPlaced P (x ∷ xs) = P x × AllPlaced P xs

-- ---- changes

unput : (t : Bool) (k v : List ℕ) (cs : List Change) → was_changed t k cs ≡ false → was_put k v cs ≡ false
unput t k v [] un = refl
unput t k v (changes.Put new ∷ cs) un =
    let two = two_false (same_bytes k new.key) (was_changed t k cs) un in
    ap (λ (b : Bool). (b && same_bytes v new.value) || was_put k v cs) two.0 ∙ unput t k v cs two.1
unput t k v (changes.Drop j ∷ cs) un = unput t k v cs (two_false (same_bytes k j) (was_changed t k cs) un).1
unput t k v (changes.Clear ∷ cs) un = unput t k v cs (two_false t (was_changed t k cs) un).1

unclear : (k : List ℕ) (cs : List Change) → was_changed true k cs ≡ false → has_clear cs ≡ false
unclear k [] un = refl
unclear k (changes.Put new ∷ cs) un = unclear k cs (two_false (same_bytes k new.key) (was_changed true k cs) un).1
unclear k (changes.Drop j ∷ cs) un = unclear k cs (two_false (same_bytes k j) (was_changed true k cs) un).1
unclear k (changes.Clear ∷ cs) un = absurd (cc)

-- ---- the newest block of a key

newest_if : (k : List ℕ) (P : Placed → Type 0) (t : Bool) (x : Placed) (o : Option Placed) → is_of k x.body ≡ t → P x → ((y : Placed) → o ≡ Some y → P y × (is_of k y.body ≡ true))
    → (y : Placed) → (if t then newer x o else o) ≡ Some y → P y × (is_of k y.body ≡ true)
newest_if k P false x o test holds go y is = go y is
newest_if k P true x None test holds go y is = subst (λ (z : Placed). P z × (is_of k z.body ≡ true)) (same_some x y is) (holds, test)
newest_if k P true x (Some z) test holds go y is = newest_or k P (nat_le z.body.number x.body.number) x z (holds, test) (go z refl) y is
  where
    newest_or : (k : List ℕ) (P : Placed → Type 0) (t : Bool) (x z : Placed) → P x × (is_of k x.body ≡ true) → P z × (is_of k z.body ≡ true) → (y : Placed) → (if t then Some x else Some z) ≡ Some y → P y × (is_of k y.body ≡ true)
    newest_or k P true x z one two y is = subst (λ (w : Placed). P w × (is_of k w.body ≡ true)) (same_some x y is) one
    newest_or k P false x z one two y is = subst (λ (w : Placed). P w × (is_of k w.body ≡ true)) (same_some z y is) two

newest_in : (k : List ℕ) (P : Placed → Type 0) (xs : List Placed) → AllPlaced P xs → (y : Placed) → newest_of k xs ≡ Some y → P y × (is_of k y.body ≡ true)
newest_in k P [] all y is = absurd (no_some y is)
newest_in k P (x ∷ xs) all y is = newest_if k P (is_of k x.body) x (newest_of k xs) refl all.0 (λ z found. newest_in k P xs all.1 z found) y is

-- ---- each block that is read is known

module _ (h : StaticHead) (p : Past) where
  abbrev Known : Placed → Type 0
  Known x = (base_of h.p ≤ x.place) × IsKnownBody h p x.place x.body

  known_fit : (t : Bool) (d : Body) (q e : ℕ) (more : List Placed) → base_of h.p ≤ q → IsKnownBody h p q d → AllPlaced Known more → AllPlaced Known (valid_here (if t then Some d else None) q e more)
  known_fit true d q e more le one all = ((le, one), all)
  known_fit false d q e more le one all = all

  known_here : (o : Option ℕ) (b : Option Body) (n q : ℕ) (c : List ℕ) → base_of h.p ≤ q → head_at (drop q c) q ≡ o → ((d : Body) → b ≡ Some d → IsKnownBody h p q d)
      → ((e : ℕ) → head_at (drop q c) q ≡ Some e → AllPlaced Known (valid_blocks (seen_from n (q + e) c))) → AllPlaced Known (valid_blocks (seen_here o q b (λ e. seen_from n (q + e) c)))
  known_here None b n q c le is one go = tt
  known_here (Some e) None n q c le is one go = go e is
  known_here (Some e) (Some d) n q c le is one go = known_fit (nat_le (room_of d) e) d q e (valid_blocks (seen_from n (q + e) c)) le (one d refl) (go e is)

  known_from : (n q : ℕ) (c : List ℕ) → base_of h.p ≤ q → UntornFrom n h p q c → AllPlaced Known (valid_blocks (seen_from n q c))
  known_from zero q c le u = tt
  known_from (suc n) q c le u = known_here (head_at (drop q c) q) (body_at (drop (q + 24) c) q) n q c le refl u.1 (λ e is. known_from n (q + e) c (omega (arith, le)) (u.0 e is).1)

-- ---- the one block of a key

block_if : (k v : List ℕ) (t : Bool) (x : Placed) (xs : List Placed) → is_of k x.body ≡ t → KeyIsOnce x xs → value_in (block_of k xs) ≡ Some v → value_in (if t then Some x else block_of k xs) ≡ Some v
block_if k v false x xs is once found = found
block_if k v true x xs is once found =
    let key = key_is k x.body is in
    absurd (no_some v (ap value_in (sym (once key.0)) ∙ ap (λ (j : List ℕ). value_in (block_of j xs)) (sym key.1) ∙ found))

block_first : (k : List ℕ) (x : Placed) (xs : List Placed) → is_of k x.body ≡ true → value_in (block_of k (x ∷ xs)) ≡ Some x.body.value
block_first k x xs is = ap (λ (t : Bool). value_in (if t then Some x else block_of k xs)) is

once_here : (k : List ℕ) (b : Body) (o : Option Body) (q e : ℕ) (more : List Placed) → is_of k b ≡ true → KeysAreOnce (valid_here o q e more)
    → (o ≡ Some b) ⊎ (value_in (block_of k more) ≡ Some b.value) → value_in (block_of k (valid_here o q e more)) ≡ Some b.value
once_here k b None q e more is once (inl same) = absurd (no_some b same)
once_here k b None q e more is once (inr found) = found
once_here k b (Some d) q e more is once (inl same) =
    let one = same_some d b same in
    block_first k (record { place = q; extent = e; body = d }) more (ap (is_of k) one ∙ is) ∙ ap (λ (z : Body). Some z.value) one
once_here k b (Some d) q e more is once (inr found) =
    let x : Placed = record { place = q; extent = e; body = d } in
    block_if k b.value (is_of k d) x more refl once.0 found

once_later : (o : Option Body) (q e : ℕ) (more : List Placed) → KeysAreOnce (valid_here o q e more) → KeysAreOnce more
once_later None q e more once = once
once_later (Some d) q e more once = once.1

once_value : (k : List ℕ) (b : Body) (q : ℕ) (ss : List Seen) → is_of k b ≡ true → KeysAreOnce (valid_blocks ss) → AnySeen (λ s. (s.place ≡ q) × (s.body ≡ Some b)) ss → value_in (block_of k (valid_blocks ss)) ≡ Some b.value
once_value k b q [] is once any = absurd any
once_value k b q (s ∷ ss) is once (inl here) = once_here k b s.body s.place s.extent (valid_blocks ss) is once (inl here.1)
once_value k b q (s ∷ ss) is once (inr more) =
    once_here k b s.body s.place s.extent (valid_blocks ss) is once (inr (once_value k b q ss is (once_later s.body s.place s.extent (valid_blocks ss) once) more))

-- ---- a write's body is a put

put_said : (k : List ℕ) (b : Body) (base q : ℕ) (since : List Change) (ws : List Write) → base ≤ q → is_of k b ≡ true → AllWrites (λ w. (q : ℕ) (b : Body) → base ≤ q → body_written q w ≡ Some b → b.kind ≡ 1 → was_put b.key b.value since ≡ true) ws
    → AnyWrite (λ w. body_written q w ≡ Some b) ws → was_put k b.value since ≡ true
put_said k b base q since [] le is all any = absurd any
put_said k b base q since (w ∷ ws) le is all (inl one) =
    let key = key_is k b is in
    subst (λ (j : List ℕ). was_put j b.value since ≡ true) (sym key.1) (all.0 q b le one key.0)
put_said k b base q since (w ∷ ws) le is all (inr more) = put_said k b base q since ws le is all.1 more

-- ---- what a key may have

had_from : (h : StaticHead) (since : List Change) (p : Past) (k : List ℕ) (x : Placed) → IsFairPast h since p → base_of h.p ≤ x.place → IsKnownBody h p x.place x.body → is_of k x.body ≡ true
    → (value_in (block_of k (blocks_in h p.fixed)) ≡ Some x.body.value) ⊎ (was_put k x.body.value since ≡ true)
had_from h since p k x fair le (inl stood) is = inl (once_value k x.body x.place (seen_in h p.fixed) is fair.once stood)
had_from h since p k x fair le (inr said) is = inr (put_said k x.body (base_of h.p) x.place since p.writes le is fair.puts said)

had_of : (h : StaticHead) (since : List Change) (p : Past) (c k v : List ℕ) (o : Option Placed) → IsFairPast h since p → newest_of k (blocks_in h c) ≡ o → AllPlaced (λ x. (base_of h.p ≤ x.place) × IsKnownBody h p x.place x.body) (blocks_in h c) → value_in o ≡ Some v
    → (value_in (block_of k (blocks_in h p.fixed)) ≡ Some v) ⊎ (was_put k v since ≡ true)
had_of h since p c k v None fair is all found = absurd (no_some v found)
had_of h since p c k v (Some x) fair is all found =
    let one = newest_in k (λ (y : Placed). (base_of h.p ≤ y.place) × IsKnownBody h p y.place y.body) (blocks_in h c) all x is in
    subst (λ (u : List ℕ). (value_in (block_of k (blocks_in h p.fixed)) ≡ Some u) ⊎ (was_put k u since ≡ true)) (same_some x.body.value v found) (had_from h since p k x fair one.0.0 one.0.1 one.1)

all_known : (h : StaticHead) (p : Past) (c : List ℕ) → IsUntornBy h p c → AllPlaced (λ x. (base_of h.p ≤ x.place) × IsKnownBody h p x.place x.body) (blocks_in h c)
unfolding seen_in
all_known h p c untorn = known_from h p (length c) (base_of h.p) c (omega arith) untorn

had : (h : StaticHead) (since : List Change) (p : Past) (c : List ℕ) → IsFairPast h since p → IsUntornBy h p c → (k v : List ℕ) → value_by h c k ≡ Some v
    → (value_in (block_of k (blocks_in h p.fixed)) ≡ Some v) ⊎ (was_put k v since ≡ true)
had h since p c fair untorn k v found = had_of h since p c k v (newest_of k (blocks_in h c)) fair refl (all_known h p c untorn) found

-- ---- a key that is there is found

abbrev pub has : (key : List ℕ) → List Placed → Bool
has k [] = false
has k (x ∷ xs) = is_of k x.body || has k xs

has_if : (k : List ℕ) (t : Bool) (x y : Placed) (xs : List Placed) → ((y : Placed) → block_of k xs ≡ Some y → has k xs ≡ true) → (if t then Some x else block_of k xs) ≡ Some y → (t || has k xs) ≡ true
has_if k true x y xs go found = refl
has_if k false x y xs go found = go y found

has_block : (k : List ℕ) (xs : List Placed) (y : Placed) → block_of k xs ≡ Some y → has k xs ≡ true
has_block k [] y found = absurd (no_some y found)
has_block k (x ∷ xs) y found = has_if k (is_of k x.body) x y xs (λ z is. has_block k xs z is) found

newer_some : (x : Placed) (o : Option Placed) → (y : Placed) × (newer x o ≡ Some y)
newer_some x None = (x, refl)
newer_some x (Some z) = one (nat_le z.body.number x.body.number) x z
  where
    one : (t : Bool) (x z : Placed) → (y : Placed) × ((if t then Some x else Some z) ≡ Some y)
    one true x z = (x, refl)
    one false x z = (z, refl)

newest_some_if : (t : Bool) (x : Placed) (b : Bool) (o : Option Placed) → (b ≡ true → (y : Placed) × (o ≡ Some y)) → (t || b) ≡ true → (y : Placed) × ((if t then newer x o else o) ≡ Some y)
newest_some_if true x b o go is = newer_some x o
newest_some_if false x b o go is = go is

newest_some : (k : List ℕ) (xs : List Placed) → has k xs ≡ true → (y : Placed) × (newest_of k xs ≡ Some y)
newest_some k [] is = absurd (not_both true refl (sym is))
newest_some k (x ∷ xs) is = newest_some_if (is_of k x.body) x (has k xs) (newest_of k xs) (λ more. newest_some k xs more) is

-- ---- blocks whose heads stay are reached

or_more : (a b : Bool) → b ≡ true → (a || b) ≡ true
or_more true b is = refl
or_more false b is = is

has_later : (k : List ℕ) (o : Option Body) (q e : ℕ) (more : List Placed) → has k more ≡ true → has k (valid_here o q e more) ≡ true
has_later k None q e more is = is
has_later k (Some d) q e more is = or_more (is_of k d) (has k more) is

module _ (k f c : List ℕ) where
  -- the head is the same, and so is the body where it is the key's
  record Kept (s : Seen) : Type 0 where
    head : (e : ℕ) → head_at (drop s.place f) s.place ≡ Some e → head_at (drop s.place c) s.place ≡ Some e
    says : (b : Body) → s.body ≡ Some b → is_of k b ≡ true → body_at (drop (s.place + 24) f) s.place ≡ Some b → body_at (drop (s.place + 24) c) s.place ≡ Some b

  abbrev Rest : (n m q : ℕ) → Type 0
  Rest n m q = AllSeen Kept (seen_from n q f) → has k (valid_blocks (seen_from n q f)) ≡ true → has k (valid_blocks (seen_from m q c)) ≡ true

  reach_if : (t : Bool) (d : Body) (q e : ℕ) (more new : List Placed) (o : Option Body) → nat_le (room_of d) e ≡ t → (is_of k d ≡ true → t ≡ true → o ≡ Some d) → (has k more ≡ true → has k new ≡ true)
      → has k (valid_here (if t then Some d else None) q e more) ≡ true → has k (valid_here (inside e o) q e new) ≡ true
  reach_if false d q e more new o fits same go is = has_later k (inside e o) q e new (go is)
  reach_if true d q e more new o fits same go is = by_key (is_of k d) refl is
    where
      by_key : (t : Bool) → is_of k d ≡ t → (t || has k more) ≡ true → has k (valid_here (inside e o) q e new) ≡ true
      by_key false its all = has_later k (inside e o) q e new (go all)
      by_key true its all =
          ap (λ (z : Option Body). has k (valid_here (inside e z) q e new)) (same its refl)
          ∙ ap (λ (t : Bool). has k (valid_here (if t then Some d else None) q e new)) fits
          ∙ ap (λ (t : Bool). t || has k new) its

  reach_body : (b : Option Body) (q e : ℕ) (more new : List Placed) (o : Option Body) → ((d : Body) → b ≡ Some d → inside e b ≡ Some d → is_of k d ≡ true → o ≡ Some d) → (has k more ≡ true → has k new ≡ true)
      → has k (valid_here (inside e b) q e more) ≡ true → has k (valid_here (inside e o) q e new) ≡ true
  reach_body None q e more new o same go is = has_later k (inside e o) q e new (go is)
  reach_body (Some d) q e more new o same go is =
      reach_if (nat_le (room_of d) e) d q e more new o refl (λ its fits. same d refl (ap (λ (t : Bool). if t then Some d else None) fits) its) go is

  reach_here : (o : Option ℕ) (b : Option Body) (n m q : ℕ) → head_at (drop q f) q ≡ o → body_at (drop (q + 24) f) q ≡ b → ((e : ℕ) → Rest n m (q + e))
      → AllSeen Kept (seen_here o q b (λ e. seen_from n (q + e) f)) → has k (valid_blocks (seen_here o q b (λ e. seen_from n (q + e) f))) ≡ true
      → has k (valid_blocks (seen_here (head_at (drop q c) q) q (body_at (drop (q + 24) c) q) (λ e. seen_from m (q + e) c))) ≡ true
  reach_here None b n m q head says go kept is = absurd (not_both true refl (sym is))
  reach_here (Some e) b n m q head says go kept is =
      ap (λ (o : Option ℕ). has k (valid_blocks (seen_here o q (body_at (drop (q + 24) c) q) (λ e. seen_from m (q + e) c)))) (kept.0.head e head)
      ∙ reach_body b q e (valid_blocks (seen_from n (q + e) f)) (valid_blocks (seen_from m (q + e) c)) (body_at (drop (q + 24) c) q)
      (λ d one fits its. kept.0.says d fits its (says ∙ one)) (λ all. go e kept.1 all) is

  reached : (n m q : ℕ) → n ≤ m → Rest n m q
  reached zero m q le kept is = absurd (not_both true refl (sym is))
  reached (suc n) zero q le kept is = absurd (omega (arith, le))
  reached (suc n) (suc m) q le kept is =
      reach_here (head_at (drop q f) q) (body_at (drop (q + 24) f) q) n m q refl refl (λ e. reached n m (q + e) (omega (arith, le))) kept is

-- ---- bytes that no write covers stay

pub all_writes : (P Q : Write → Type 0) (ws : List Write) → ((w : Write) → P w → Q w) → AllWrites P ws → AllWrites Q ws
all_writes P Q [] go all = tt
all_writes P Q (w ∷ ws) go all = (go w all.0, all_writes P Q ws go all.1)

-- a row for each write is a row for each block
swapped : (P : Write → Seen → Type 0) (ws : List Write) (ss : List Seen) → AllWrites (λ w. AllSeen (P w) ss) ws → AllSeen (λ s. AllWrites (λ w. P w s) ws) ss
swapped P ws [] all = tt
swapped P ws (s ∷ ss) all = (all_writes (λ w. AllSeen (P w) (s ∷ ss)) (λ w. P w s) ws (λ w a. a.0) all, swapped P ws ss (all_writes (λ w. AllSeen (P w) (s ∷ ss)) (λ w. AllSeen (P w) ss) ws (λ w a. a.1) all))

pub all_seen : (P Q : Seen → Type 0) (ss : List Seen) → ((s : Seen) → P s → Q s) → AllSeen P ss → AllSeen Q ss
all_seen P Q [] go all = tt
all_seen P Q (s ∷ ss) go all = (go s all.0, all_seen P Q ss go all.1)

same_part : (d c : List ℕ) (k m : ℕ) → k + m ≤ length d → k + m ≤ length c → ((i : ℕ) → k ≤ i → i < k + m → get_or c i 0 ≡ get_or d i 0) → take m (drop k c) ≡ take m (drop k d)
same_part d c k m fits longer each =
    same_number_lists _ _ (omega (arith, fits, longer, length-take m (drop k c), length-take m (drop k d), length-drop k c, length-drop k d)) (λ j below.
    let within : j < m = omega (arith, below, length-take m (drop k c)) in
    get_or-take m (drop k c) j 0 within ∙ get_or-drop k c j 0 ∙ each (k + j) (omega arith) (omega (arith, within)) ∙ sym (get_or-drop k d j 0) ∙ sym (get_or-take m (drop k d) j 0 within))

text_fits : (f text : List ℕ) (k : ℕ) → 0 < length text → take (length text) (drop k f) ≡ text → k + length text ≤ length f
text_fits f text k some there = omega (arith, some, ap length there, length-take (length text) (drop k f), length-drop k f)

-- a text that no write covers stands
text_stays : (p : Past) (c text : List ℕ) (k : ℕ) → IsLeftBy p c → k + length text ≤ p.least → 0 < length text → take (length text) (drop k p.fixed) ≡ text → AllWrites (Spares k (k + length text)) p.writes → drop k c ≡ text ++ drop (length text) (drop k c)
text_stays p c text k left within some there spared =
    let n = length text in
    let part : take n (drop k c) ≡ take n (drop k p.fixed) = same_part p.fixed c k n (text_fits p.fixed text k some there) (omega (arith, left.long, within)) (λ i from below.
    left.same i (omega (arith, below, within)) (all_writes (Spares k (k + n)) (Spares i (i + 1)) p.writes (λ w apart. elim apart [ inl a ↦ inl (omega (arith, a, from)) | inr b ↦ inr (omega (arith, b, below)) ]) spared)) in
    sym (take-append-drop n (drop k c)) ∙ ap (λ (l : List ℕ). l ++ drop n (drop k c)) (part ∙ there)

pub head_stays : (p : Past) (c : List ℕ) (q e : ℕ) → IsLeftBy p c → p.least ≡ length p.fixed → AllWrites (Spares q (q + 16)) p.writes → head_at (drop q p.fixed) q ≡ Some e → head_at (drop q c) q ≡ Some e
head_stays p c q e left least spared is =
    let found = (heads q).found (drop q p.fixed) e is in
    let long = length-head_text e q in
    let some : 0 < length (head_text e q) = omega (arith, long) in
    ap (λ (l : List ℕ). head_at l q)
    (text_stays p c (head_text e q) q left (omega (arith, least, text_fits p.fixed (head_text e q) q some found.1)) some found.1 (subst (λ (n : ℕ). AllWrites (Spares q (q + n)) p.writes) (sym long) spared))
    ∙ (heads q).again e _ found.0

pub body_stays : (p : Past) (c : List ℕ) (q : ℕ) (b : Body) → IsLeftBy p c → p.least ≡ length p.fixed → AllWrites (Spares (q + 24) (q + room_of b)) p.writes → body_at (drop (q + 24) p.fixed) q ≡ Some b → body_at (drop (q + 24) c) q ≡ Some b
body_stays p c q b left least spared is =
    let found = (bodies q).found (drop (q + 24) p.fixed) b is in
    let long = length-body_text b q in
    let some : 0 < length (body_text b q) = omega (arith, long) in
    let end : q + room_of b ≡ q + 24 + length (body_text b q) = omega (arith, long) in
    ap (λ (l : List ℕ). body_at l q)
    (text_stays p c (body_text b q) (q + 24) left (omega (arith, least, text_fits p.fixed (body_text b q) (q + 24) some found.1)) some found.1 (subst (λ (n : ℕ). AllWrites (Spares (q + 24) n) p.writes) end spared))
    ∙ (bodies q).again b _ found.0

-- the static header stands
header_stays : (h : StaticHead) (since : List Change) (p : Past) (c : List ℕ) → IsFairPast h since p → IsLeftBy p c → static_at c ≡ Some h
header_stays h since p c fair left =
    let found = statics.found p.fixed h fair.header in
    let long = length-static_text h in
    let some : 0 < length (static_text h) = omega (arith, long) in
    let whole : 0 + length (static_text h) ≤ p.least = omega (arith, long, fair.long) in
    ap static_at
    (text_stays p c (static_text h) 0 left whole some found.1 (all_writes (λ w. static_size ≤ w.at) (Spares 0 (0 + length (static_text h))) p.writes (λ w past. inr (omega (arith, long, past))) fair.behind))
    ∙ statics.again h _ found.0

-- ---- a key that no call changed

kept_all : (h : StaticHead) (since : List Change) (p : Past) (c k : List ℕ) → IsFairPast h since p → IsLeftBy p c → was_changed true k since ≡ false → AllSeen (Kept k p.fixed c) (seen_in h p.fixed)
kept_all h since p c k fair left un =
    let clear = unclear k since un in
    let least = fair.length_kept clear in
    all_seen (λ s. AllWrites (λ w. SparesBlock since w s) p.writes) (Kept k p.fixed c) (seen_in h p.fixed) (λ s all. record {
      head = λ e is. head_stays p c s.place e left least (all_writes (λ w. SparesBlock since w s) (Spares s.place (s.place + head_size)) p.writes (λ w a. a.head) all) is;
      says = λ b same its is.
          let key = key_is k b its in
          let unchanged : was_changed true b.key since ≡ false = subst (λ (j : List ℕ). was_changed true j since ≡ false) key.1 un in
          body_stays p c s.place b left least (all_writes (λ w. SparesBlock since w s) (Spares (s.place + 24) (s.place + room_of b)) p.writes (λ w a. a.says b same key.0 unchanged) all) is;
    }) (swapped (λ w s. SparesBlock since w s) p.writes (seen_in h p.fixed) (fair.spared clear))

still_has : (h : StaticHead) (since : List Change) (p : Past) (c k : List ℕ) → IsFairPast h since p → IsLeftBy p c → was_changed true k since ≡ false → has k (blocks_in h p.fixed) ≡ true → has k (blocks_in h c) ≡ true
unfolding seen_in
still_has h since p c k fair left un is =
    let longer : length p.fixed ≤ length c = omega (arith, left.long, fair.length_kept (unclear k since un)) in
    reached k p.fixed c (length p.fixed) (length c) (base_of h.p) longer (kept_all h since p c k fair left un) is

settle : (t : Bool) (k v : List ℕ) (since : List Change) (o : Option (List ℕ)) → was_changed t k since ≡ false → (o ≡ Some v) ⊎ (was_put k v since ≡ true) → Some v ≡ o
settle t k v since o un (inl is) = sym is
settle t k v since o un (inr put) = absurd (not_both (was_put k v since) put (unput t k v since un))

value_none : (t : Bool) (k : List ℕ) (since : List Change) (o : Option (List ℕ)) → was_changed t k since ≡ false → ((v : List ℕ) → o ≡ Some v → (None ≡ Some v) ⊎ (was_put k v since ≡ true)) → o ≡ None
value_none t k since None un all = refl
value_none t k since (Some v) un all = settle t k v since None un (all v refl)

unchanged_by : (h : StaticHead) (since : List Change) (p : Past) (c k : List ℕ) (o : Option Placed) → IsFairPast h since p → IsLeftBy p c → IsUntornBy h p c → was_changed (is_some o) k since ≡ false → block_of k (blocks_in h p.fixed) ≡ o → value_by h c k ≡ value_in o
unchanged_by h since p c k None fair left untorn un is =
    value_none false k since (value_by h c k) un (λ v found. subst (λ (o : Option Placed). (value_in o ≡ Some v) ⊎ (was_put k v since ≡ true)) is (had h since p c fair untorn k v found))
unchanged_by h since p c k (Some x) fair left untorn un is =
    let there = newest_some k (blocks_in h c) (still_has h since p c k fair left un (has_block k (blocks_in h p.fixed) x is)) in
    let found : value_by h c k ≡ Some there.0.body.value = ap value_in there.1 in
    found ∙ settle true k there.0.body.value since (value_in (Some x)) un (subst (λ (o : Option Placed). (value_in o ≡ Some there.0.body.value) ⊎ (was_put k there.0.body.value since ≡ true)) is (had h since p c fair untorn k there.0.body.value found))

own_header : (h : StaticHead) (since : List Change) (p : Past) (c : List ℕ) → IsFairPast h since p → IsLeftBy p c → (k : List ℕ) → restored_value c k ≡ value_by h c k
own_header h since p c fair left k = ap (λ (o : Option StaticHead). value_in (newest_of k (blocks_by o c))) (header_stays h since p c fair left)

pub keeps_keys : FairKeepsKeys
keeps_keys h since p c fair left untorn = record {
  unchanged = λ k un. own_header h since p c fair left k ∙ unchanged_by h since p c k (block_of k (blocks_in h p.fixed)) fair left untorn un refl;
  changed = λ k v found. had h since p c fair untorn k v (sym (own_header h since p c fair left k) ∙ found);
}
