-- What the images of a file keep through a call.
use Rattle.std.proofs.Common.{◌≡◌, ◌≢◌, inl, inr, ℕ, ◌≤◌, true, List, [], ◌∷◌, ◌++◌, length, take, drop, refl, sym, ◌∙◌, ap, subst, arith, append_assoc, length-append}
use Rattle.std.specs.Prelude.{Option, Some, None, IfSome}
use Rattle.std.specs.Option.{is_some, option_map}
use Rattle.std.proofs.lemmas.List.{append-nil, take_at, drop_at}
use Rattle.tk_model.specs.declared.error.OpenError.TheVariants.{NotADatabase}
use Rattle.tk_model.specs.declared.record.Order.TheVariants.{Hash}
use Rattle.tk_model.specs.declared.record.Pair.{Pair}
use Rattle.tk_model.specs.declared.record.Group.{Group}
use Rattle.tk_model.specs.declared.record.Change.{Change}
use Rattle.tk_model.specs.Entries.{group_of}
use Rattle.tk_model.specs.Records.{replay}
use Rattle.tk_disk.specs.Past.{Past}
use Rattle.tk_disk.specs.Crash.{Torn, Within, LeavesOnly}
use Rattle.tk_disk.specs.Folder.{SameHistory}
use Rattle.tk_block.specs.declared.head.StaticHead.{StaticHead}
use Rattle.tk_block.specs.declared.closing.Closing.{Closing}
use Rattle.tk_block.specs.Text.{static_text, closing_text, base_of}
use Rattle.tk_block.specs.Layout.{laid, links_of, end_of, texts, bodies_of, heads_text}
use Rattle.tk_block.proofs.Grammar.{length-static_text, length-closing_text}
use Rattle.tk_block.proofs.Lengths.{length-heads_text}
use Rattle.tk_store.specs.Store.{StoreConstants, First, LeavesSafe}
use Rattle.tk_append.specs.Log.{closed_text, blocks_of}
use Rattle.tk_append.specs.Opening.{first_fault}
use Rattle.tk_append.specs.Restored.{groups_text, IsKept}
use Rattle.tk_append.proofs.Restoring.{torn_kept}
use Rattle.tk_hash.specs.declared.store.HashStore.{HashStore}
use Rattle.tk_hash.specs.Hash.{HashStands, HashSafe, HashKeptSince, opening, map_in, hash_disk, hash_head, hash_constants}
use Rattle.tk_hash.specs.HashLaws.{hash_stood_now}
use Rattle.tk_util.specs.Calls.{alone, HoldsDatabase, Spares}
use Rattle.tk_util.specs.Interrupted.{MayAdd}
use Rattle.tk_util.proofs.CallSteps.{same_p, by_text, known, map_is, told_map, Opened}

-- a closed file begins with its header
closed_front : (h : StaticHead) (groups : List Group) (next : ℕ) → take 32 (closed_text h groups next) ≡ static_text h
closed_front h groups next =
    let closing = closing_text (record { size = end_of (base_of h.p) (bodies_of groups); count = length (replay Hash groups []); next = next }) in
    let rest = heads_text h.p (blocks_of h groups) ++ groups_text h groups in
    ap (λ (l : List ℕ). take 32 l) (by_text h groups next ∙ append_assoc (static_text h) closing rest) ∙ take_at (static_text h) (closing ++ rest) 32 (length-static_text h)

-- and ends with its blocks
closed_blocks : (h : StaticHead) (groups : List Group) (next : ℕ) → drop (base_of h.p) (closed_text h groups next) ≡ groups_text h groups
closed_blocks h groups next =
    let last : Closing = record { size = end_of (base_of h.p) (bodies_of groups); count = length (replay Hash groups []); next = next } in
    let front = static_text h ++ closing_text last in
    let heads = heads_text h.p (blocks_of h groups) in
    ap (λ (l : List ℕ). drop (base_of h.p) l) (by_text h groups next ∙ sym (append_assoc front heads (groups_text h groups)))
    ∙ drop_at (front ++ heads) (groups_text h groups) (base_of h.p)
    (omega (arith, length-append front heads, length-append (static_text h) (closing_text last), length-static_text h, length-closing_text last, length-heads_text h.p (blocks_of h groups)))

-- what is kept is kept by its bytes
kept_same : (a b : StaticHead) (gs hs : List Group) (c : List ℕ) → static_text a ≡ static_text b → groups_text a gs ≡ groups_text b hs → IsKept a gs c → IsKept b hs c
kept_same a b gs hs c head blocks kept = record {
  header = kept.header ∙ head;
  heads = subst (λ (p : ℕ). base_of p ≤ length c) (same_p a b head) kept.heads;
  blocks = subst (λ (t : List ℕ). take (length t) (drop (base_of b.p) c) ≡ t) blocks
      (subst (λ (p : ℕ). take (length (groups_text a gs)) (drop (base_of p) c) ≡ groups_text a gs) (same_p a b head) kept.blocks);
}

-- two readings of one closed file keep the same
closed_kept : (a b : StaticHead) (gs hs : List Group) (n m : ℕ) (c : List ℕ) → closed_text a gs n ≡ closed_text b hs m → IsKept a gs c → IsKept b hs c
closed_kept a b gs hs n m c same kept =
    let head : static_text a ≡ static_text b = sym (closed_front a gs n) ∙ (ap (λ (l : List ℕ). take 32 l) same ∙ closed_front b hs m) in
    let blocks : groups_text a gs ≡ groups_text b hs =
    sym (closed_blocks a gs n) ∙ (ap (λ (l : List ℕ). drop (base_of a.p) l) same ∙ (ap (λ (p : ℕ). drop (base_of p) (closed_text b hs m)) (same_p a b head) ∙ closed_blocks b hs m)) in
    kept_same a b gs hs c head blocks kept

abbrev text_by : (p : ℕ) → List Group → List ℕ
text_by p groups = texts (laid (base_of p) (bodies_of groups)) (links_of p [] (laid (base_of p) (bodies_of groups)))

-- headers of one text keep the same
head_kept : (a b : StaticHead) (groups : List Group) (c : List ℕ) → static_text a ≡ static_text b → IsKept a (groups ++ []) c → IsKept b groups c
head_kept a b groups c same kept =
    kept_same a b (groups ++ []) groups c same (ap (λ (l : List Group). text_by a.p l) (append-nil groups) ∙ ap (λ (p : ℕ). text_by p groups) (same_p a b same)) kept

pub unmapped : {A B C : Type 0} (f : A → B) (g : A → C) (o n : Option A) → is_some (option_map f n) ≡ is_some (option_map g o) → is_some n ≡ is_some o
unmapped f g None None told = told
unmapped f g None (Some y) told = told
unmapped f g (Some x) None told = told
unmapped f g (Some x) (Some y) told = told

pub always : (o : Option (List ℕ)) (A : Type 0) → A → IfSome o (λ f. A)
always None A a = tt
always (Some f) A a = a

empty_fault : first_fault (1 ∷ []) true alone [] ≡ Some NotADatabase
unfolding first_fault
empty_fault = refl

-- a hash file has bytes
pub has_header : (f : List ℕ) → HoldsDatabase true f → f ≢ []
has_header f holds e = absurd (cc (subst (λ (x : List ℕ). first_fault (1 ∷ []) true alone x ≡ None) e holds.accepted, empty_fault))

module _ {D : Type 0} (image : D → Option (List ℕ)) (may_leave : D → List ℕ → Type 0) (past : D → Past) (moment : D → ℕ) (left_since : D → ℕ → List ℕ → Type 0) (left_with : D → ℕ → Past × List ℕ → Type 0) where
  -- a store is safe since a time before the call, with the groups that it may add
  abbrev pub SafeSince : (s u : HashStore D) → (t : ℕ) → List Group → List Change → Type 0
  SafeSince s u t groups changes = (since : List Group) × MayAdd s.next changes since × HashSafe image left_since left_with u t (opening groups) since 0

  module _ (s : HashStore D) (t : ℕ) (groups : List Group) (since_then : HashKeptSince image may_leave past moment left_since left_with s t 0 (opening groups) [] 0)
      (changes : List Pair → List Change) (number : ℕ) (numbered : number ≡ s.next) where
    -- the records before it
    map_before : IfSome (image (hash_disk s)) (λ f. map_in image s ≡ Some (replay Hash groups []))
    map_before = map_is image may_leave past s groups since_then.stands

    -- those of the call
    added : group_of number (changes (replay Hash groups [])) ≡ group_of s.next (changes (replay Hash groups []))
    added = ap (λ (n : ℕ). group_of n (changes (replay Hash groups []))) numbered

    -- after a call that failed
    pub safe_failed : (u : HashStore D) → IfSome (map_in image s) (λ m. LeavesSafe (HashKeptSince image may_leave past moment left_since left_with) (HashSafe image left_since left_with) (group_of number (changes m)) s u)
        → IfSome (image (hash_disk s)) (λ f. SafeSince s u t groups (changes (replay Hash groups [])))
    safe_failed u leaves =
        told_map (image (hash_disk s)) (map_in image s) (replay Hash groups []) (λ m. LeavesSafe (HashKeptSince image may_leave past moment left_since left_with) (HashSafe image left_since left_with) (group_of number (changes m)) s u)
        (SafeSince s u t groups (changes (replay Hash groups [])))
        map_before leaves (λ safe. (group_of number (changes (replay Hash groups [])), inr added, safe t 0 (opening groups) [] 0 since_then))

    -- after one that was made, and the end
    pub safe_made : (v u : HashStore D)
        → IfSome (map_in image s) (λ m. (at n : ℕ) (first : First) (since : List Group) (hard : ℕ) → HashKeptSince image may_leave past moment left_since left_with s at n first since hard
        → HashKeptSince image may_leave past moment left_since left_with v at n first (since ++ group_of number (changes m)) hard)
        → LeavesSafe (HashKeptSince image may_leave past moment left_since left_with) (HashSafe image left_since left_with) [] v u → IfSome (image (hash_disk s)) (λ f. SafeSince s u t groups (changes (replay Hash groups [])))
    safe_made v u grown leaves =
        told_map (image (hash_disk s)) (map_in image s) (replay Hash groups [])
        (λ m. (at n : ℕ) (first : First) (since : List Group) (hard : ℕ) → HashKeptSince image may_leave past moment left_since left_with s at n first since hard
        → HashKeptSince image may_leave past moment left_since left_with v at n first (since ++ group_of number (changes m)) hard) (SafeSince s u t groups (changes (replay Hash groups [])))
        map_before grown
        (λ on. (
          group_of number (changes (replay Hash groups [])) ++ [],
          inr (append-nil (group_of number (changes (replay Hash groups []))) ∙ added),
          leaves t 0 (opening groups) (group_of number (changes (replay Hash groups []))) 0 (on t 0 (opening groups) [] 0 since_then),
        ))

    -- after one that was refused, and the end
    pub safe_refused : (v u : HashStore D) → ((at n : ℕ) (first : First) (since : List Group) (hard : ℕ) → HashKeptSince image may_leave past moment left_since left_with s at n first since hard
        → HashKeptSince image may_leave past moment left_since left_with v at n first since hard)
        → LeavesSafe (HashKeptSince image may_leave past moment left_since left_with) (HashSafe image left_since left_with) [] v u → IfSome (image (hash_disk s)) (λ f. SafeSince s u t groups (changes (replay Hash groups [])))
    safe_refused v u kept leaves = always (image (hash_disk s)) (SafeSince s u t groups (changes (replay Hash groups [])))
        ([], inl refl, leaves t 0 (opening groups) [] 0 (kept t 0 (opening groups) [] 0 since_then))

  -- at the opening, where it is safe since any time since when it was kept
  pub safe_opened : ((d : D) (c : List ℕ) → left_since d (moment d) c → may_leave d c) → ((d : D) (x : Past × List ℕ) → left_with d (moment d) x → (x.0 ≡ past d) × may_leave d x.1)
      → ((d : D) (t : ℕ) (x : Past × List ℕ) → left_with d t x → left_since d t x.1) → (s u : HashStore D) (changes : List Pair → List Change)
      → ((groups : List Group) (t : ℕ) → HashKeptSince image may_leave past moment left_since left_with s t 0 (opening groups) [] 0 → IfSome (image (hash_disk s)) (λ f. SafeSince s u t groups (changes (replay Hash groups []))))
      → (groups : List Group) → HashStands image may_leave past s (opening groups) [] 0 → IfSome (image (hash_disk s)) (λ f. SafeSince s u (moment (hash_disk s)) groups (changes (replay Hash groups [])))
  safe_opened only with back s u changes safe groups st = safe groups (moment (hash_disk s)) (hash_stood_now image may_leave past moment left_since left_with only with back s (opening groups) [] 0 st)

  module _ (counts : (d : D) (t : ℕ) (c : List ℕ) → t ≤ moment d → may_leave d c → left_since d t c) where
    -- a file that was opened is spared
    pub spared_at : (a : Option (List ℕ)) (s u : HashStore D) (v : D) (left : List ℕ → Type 0) → Opened image may_leave past s a → s.writable ≡ true → is_some (image (hash_disk s)) ≡ is_some a → v ≡ hash_disk u
        → is_some (map_in image u) ≡ is_some (map_in image s) → hash_constants u ≡ hash_constants s → moment (hash_disk s) ≤ moment (hash_disk u)
        → (changes : List Pair → List Change) → ((groups : List Group) → HashStands image may_leave past s (opening groups) [] 0 → IfSome (image (hash_disk s)) (λ f. SafeSince s u (moment (hash_disk s)) groups (changes (replay Hash groups [])))) → IfSome a (λ f. Spares f left (may_leave v))
    spared_at None s u v left opened may told same still constants later changes safe = tt
    spared_at (Some f) s u v left opened may told same still constants later changes safe = λ holds before c leaves.
        let groups : List Group = opened.0 in
        let all : SafeSince s u (moment (hash_disk s)) groups (changes (replay Hash groups [])) = known (image (hash_disk s)) _ told (safe groups opened.1) in
        let there : is_some (image (hash_disk u)) ≡ true = unmapped _ _ (image (hash_disk s)) (image (hash_disk u)) still ∙ told in
        let kept : (c : List ℕ) → left_since (hash_disk u) (moment (hash_disk s)) c → IsKept (hash_head u) (groups ++ []) c = known (image (hash_disk u)) _ there (all.2.kept (ap (λ (n : StoreConstants). n.writable) constants ∙ may)) in
        let now : may_leave (hash_disk u) c = subst (λ (d : D). may_leave d c) same leaves in
        closed_kept (hash_head s) holds.head groups holds.groups s.next holds.next c (sym opened.2 ∙ holds.file)
        (head_kept (hash_head u) (hash_head s) groups c (ap (λ (n : StoreConstants). n.header) constants) (kept c (counts (hash_disk u) (moment (hash_disk s)) c later now)))

    -- and one that was not
    pub spared_back : (a : Option (List ℕ)) (old new : D) → LeavesOnly moment left_since old new (λ c. (d : List ℕ) × may_leave old d × Torn 32 32 d c) → IfSome a (λ f. Spares f (may_leave old) (may_leave new))
    spared_back None old new only = tt
    spared_back (Some f) old new only = λ holds before c leaves.
        let torn = only.each c (counts new (moment old) c only.later leaves) in
        torn_kept holds.head holds.groups torn.0 c 32 32 (before torn.0 torn.1) torn.2 (inl (omega arith, omega arith))

-- what leaves nothing that it didn't before of a file of bytes spares it
pub spares_left : (o : Option (List ℕ)) (left leaves : List ℕ → Type 0) → IfSome o (λ f. f ≢ [] → Within left leaves) → IfSome o (λ f. Spares f left leaves)
spares_left None left leaves within = tt
spares_left (Some f) left leaves within = λ holds before c l. before c (within (has_header f holds) c l)

pub spares_moved : (o m : Option (List ℕ)) (left mid leaves : List ℕ → Type 0) → IfSome o (λ f. f ≢ [] → m ≡ o) → IfSome o (λ f. f ≢ [] → Within left mid) → IfSome m (λ f. Spares f mid leaves) → IfSome o (λ f. Spares f left leaves)
spares_moved None m left mid leaves same within spares = tt
spares_moved (Some f) m left mid leaves same within spares = λ holds before c l.
    let some = has_header f holds in
    subst (λ (x : Option (List ℕ)). IfSome x (λ f. Spares f mid leaves)) (same some) spares holds (λ d was. before d (within some d was)) c l

-- a file whose disk was not taken is spared
pub spares_history : (f : List ℕ) (m n : ℕ) (left leaves : List ℕ → Type 0) (was since : ℕ → List ℕ → Type 0) (p q : Past) (was_with since_with : ℕ → Past × List ℕ → Type 0) → SameHistory m n left leaves was since p q was_with since_with → Spares f left leaves
spares_history f m n left leaves was since p q was_with since_with same = λ holds before c l. before c (same.crash c l)

-- and so is one whose disk was spared
pub spares_through : (f : List ℕ) (o : Option (List ℕ)) (left mid last leaves : List ℕ → Type 0) → o ≡ Some f → IfSome o (λ f. Spares f mid last) → Within left mid → Within last leaves → Spares f left leaves
spares_through f None left mid last leaves is spares taken given = absurd (cc)
spares_through f (Some g) left mid last leaves is spares taken given = λ holds before c l. (subst (λ (x : List ℕ). Spares x mid last) (cc is) spares) holds (λ d was. before d (taken d was)) c (given c l)
