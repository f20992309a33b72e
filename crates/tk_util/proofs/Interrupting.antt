-- What a crash leaves of a call that was interrupted.
use Rattle.std.proofs.Common.{◌≡◌, ◌≢◌, ℕ, zero, suc, ◌+◌, ◌≤◌, Bool, true, false, inl, inr, List, [], ◌∷◌, ◌++◌, length, take, drop, refl, sym, ◌∙◌, ap, subst, arith}
use Rattle.std.specs.Prelude.{Option, Some, None, IfSome, ◌⊎◌, ◌==◌}
use Rattle.std.specs.Option.{is_some}
use Rattle.std.specs.List.{list_any}
use Rattle.std.proofs.lemmas.List.{append-nil}
use Rattle.tk_model.specs.Records.{replay}
use Rattle.tk_model.specs.Entries.{group_of}
use Rattle.tk_model.specs.declared.record.Order.TheVariants.{Hash}
use Rattle.tk_model.specs.declared.record.Pair.{Pair}
use Rattle.tk_model.specs.declared.record.Group.{Group}
use Rattle.tk_model.specs.declared.record.Change.{Change}
use Rattle.tk_model.specs.declared.record.Action.{Action}
use Rattle.tk_proc.specs.Replies.{Reply}
use Rattle.tk_proc.specs.Runs.{is_long}
use Rattle.tk_disk.specs.Past.{Past}
use Rattle.tk_disk.specs.Crash.{Torn, LeavesOnly, OnlyReads}
use Rattle.tk_disk.specs.Folder.{SameHistory}
use Rattle.tk_block.specs.Text.{head_at, base_of}
use Rattle.tk_block.specs.Blocks.{body_at}
use Rattle.tk_block.specs.declared.block.Body.{Body}
use Rattle.tk_block.specs.declared.head.StaticHead.{StaticHead}
use Rattle.tk_store.specs.Store.{StoreConstants}
use Rattle.tk_store.specs.OneRecord.{call_changes}
use Rattle.tk_append.specs.Opening.{first_fault}
use Rattle.tk_append.specs.Untorn.{IsUntornBy, UntornFrom, IsKnownHead, IsKnownBody, AnyWrite, WritesHead, WritesBody, places_on}
use Rattle.tk_hash.specs.declared.store.HashStore.{HashStore}
use Rattle.tk_hash.specs.Hash.{HashStands, RestoresTo, opening, map_in, hash_disk, hash_head, hash_constants}
use Rattle.tk_util.specs.Calls.{alone}
use Rattle.tk_util.specs.Interrupted.{MayAdd, RestoresEither, IsInterrupted, IsUnopened, Interrupts, InterruptsCommand}
use Rattle.tk_util.specs.Ran.{reply_changes}
use Rattle.tk_util.specs.Words.{Command, Get, Set, Remove, Restore}
use Rattle.tk_util.proofs.CallSteps.{same_p, known, Opened}
use Rattle.tk_util.proofs.Endings.{told_call}
use Rattle.tk_util.proofs.Replies.{changes_same}
use Rattle.tk_util.proofs.Sparing.{SafeSince, unmapped}

-- headers of one p know the same heads and bodies
known_head : (a b : StaticHead) (p : Past) (q e : ℕ) → a.p ≡ b.p → IsKnownHead a p q e → IsKnownHead b p q e
known_head a b p q e same k =
    subst (λ (m : ℕ). ((list_any (λ (j : ℕ). j == q) (places_on (length p.fixed) (base_of m) p.fixed) ≡ true) × (head_at (drop q p.fixed) q ≡ Some e)) ⊎ AnyWrite (WritesHead q e) p.writes) same k

known_body : (a b : StaticHead) (p : Past) (q : ℕ) (d : Body) → a.p ≡ b.p → IsKnownBody a p q d → IsKnownBody b p q d
known_body a b p q d same k =
    subst (λ (m : ℕ). ((list_any (λ (j : ℕ). j == q) (places_on (length p.fixed) (base_of m) p.fixed) ≡ true) × (body_at (drop (q + 24) p.fixed) q ≡ Some d)) ⊎ AnyWrite (WritesBody q d) p.writes) same k

untorn_from : (a b : StaticHead) (p : Past) (c : List ℕ) → a.p ≡ b.p → (n q : ℕ) → UntornFrom n a p q c → UntornFrom n b p q c
untorn_from a b p c same zero q u = tt
untorn_from a b p c same (suc n) q u = ((λ e is. let k = u.0 e is in (known_head a b p q e same k.0, untorn_from a b p c same n (q + e) k.1)), (λ d is. known_body a b p q d same (u.1 d is)))

pub untorn_by : (a b : StaticHead) (p : Past) (c : List ℕ) → a.p ≡ b.p → IsUntornBy a p c → IsUntornBy b p c
untorn_by a b p c same u = record { header = u.header; blocks = subst (λ (m : ℕ). UntornFrom (length c) b p (base_of m) c) same (untorn_from a b p c same (length c) (base_of a.p) u.blocks) }

pub take_none : (n : ℕ) → take {A = Group} n [] ≡ []
take_none zero = refl
take_none (suc n) = refl

take_one : (n : ℕ) (g : Group) → (take n (g ∷ []) ≡ []) ⊎ (take n (g ∷ []) ≡ g ∷ [])
take_one zero g = inl refl
take_one (suc n) g = inr (ap (λ (l : List Group). g ∷ l) (take_none n))

take_group : (n next : ℕ) (changes : List Change) → (take n (group_of next changes) ≡ []) ⊎ (take n (group_of next changes) ≡ group_of next changes)
take_group n next [] = inl (take_none n)
take_group n next (c ∷ cs) = take_one n (record { number = next; changes = c ∷ cs })

-- a front of what a call may add is nothing or all
front_added : (n next : ℕ) (changes : List Change) (since : List Group) → MayAdd next changes since → (take n since ≡ []) ⊎ (take n since ≡ group_of next changes)
front_added n next changes since (inl e) = inl (ap (λ (l : List Group). take n l) e ∙ take_none n)
front_added n next changes since (inr e) = subst (λ (l : List Group). (take n l ≡ []) ⊎ (take n l ≡ group_of next changes)) (sym e) (take_group n next changes)

-- so the records are those before the call, or those after it
pub restores_either : (next : ℕ) (changes : List Change) (groups since : List Group) (c : List ℕ) → MayAdd next changes since → RestoresTo groups since 0 c → RestoresEither groups (group_of next changes) c
restores_either next changes groups since c may r =
    elim (front_added r.count next changes since may) [
      | inl e ↦ inl (ap (λ (l : List Group). replay Hash l []) (r.front ∙ (ap (λ (l : List Group). groups ++ l) e ∙ append-nil groups)))
      | inr e ↦ inr (ap (λ (l : List Group). replay Hash l []) (r.front ∙ ap (λ (l : List Group). groups ++ l) e))
    ]

module _ {D : Type 0} (image : D → Option (List ℕ)) (may_leave : D → List ℕ → Type 0) (past : D → Past) (moment : D → ℕ) (left_since : D → ℕ → List ℕ → Type 0) (left_with : D → ℕ → Past × List ℕ → Type 0) where
  -- of a file that was opened
  pub interrupted_at : (a : Option (List ℕ)) (disk : D) (s u : HashStore D) (v : D) (w : Bool) (changes : List Pair → List Change)
      → IfSome a (λ f. first_fault (1 ∷ []) w alone f ≡ None) → Opened image may_leave past s a → s.writable ≡ w → w ≡ true → is_some (image (hash_disk s)) ≡ is_some a → v ≡ hash_disk u
      → is_some (map_in image u) ≡ is_some (map_in image s) → hash_constants u ≡ hash_constants s → moment disk ≤ moment (hash_disk s) → moment (hash_disk s) ≤ moment (hash_disk u)
      → ((groups : List Group) → HashStands image may_leave past s (opening groups) [] 0 → IfSome (image (hash_disk s)) (λ f. SafeSince image may_leave past moment left_since left_with s u (moment (hash_disk s)) groups (changes (replay Hash groups []))))
      → IfSome a (λ f. Interrupts (λ groups. changes (replay Hash groups [])) f (moment disk) (moment v) (may_leave disk) (left_since disk) (left_since v) (left_with v))
  interrupted_at None disk s u v w changes accepted opened mode may told same still constants first last safe = tt
  interrupted_at (Some f) disk s u v w changes accepted opened mode may told same still constants first last safe =
      let groups : List Group = opened.0 in
      let all : SafeSince image may_leave past moment left_since left_with s u (moment (hash_disk s)) groups (changes (replay Hash groups [])) = known (image (hash_disk s)) _ told (safe groups opened.1) in
      let there : is_some (image (hash_disk u)) ≡ true = unmapped _ _ (image (hash_disk s)) (image (hash_disk u)) still ∙ told in
      let restores : (x : Past × List ℕ) → left_with (hash_disk u) (moment (hash_disk s)) x → IsUntornBy (hash_head s) x.0 x.1 → RestoresTo groups all.0 0 x.1 =
      λ x l untorn. known (image (hash_disk u)) _ there (all.2.each (ap (λ (n : StoreConstants). n.writable) constants ∙ (mode ∙ may))) x l
      (untorn_by (hash_head s) (hash_head u) x.0 x.1 (same_p (hash_head s) (hash_head u) (ap (λ (n : StoreConstants). n.header) (sym constants))) untorn) in
      inl (subst (λ (d : D). IsInterrupted (λ groups. changes (replay Hash groups [])) f (moment disk) (moment d) (left_with d)) (sym same) (record {
        holds = record { accepted = subst (λ (b : Bool). first_fault (1 ∷ []) b alone f ≡ None) may accepted; head = hash_head s; groups = groups; next = s.next; file = opened.2 };
        since = all.0;
        added = all.1;
        opened = moment (hash_disk s);
        later = first;
        earlier = last;
        groups = restores;
        records = λ x l untorn. restores_either s.next (changes (replay Hash groups [])) groups all.0 x.1 all.1 (restores x l untorn);
      }))

  -- and of one that was not
  pub unopened_at : (a : Option (List ℕ)) (changes : List Group → List Change) (old new : D) → LeavesOnly moment left_since old new (λ c. (d : List ℕ) × may_leave old d × Torn 32 32 d c)
      → IfSome a (λ f. Interrupts changes f (moment old) (moment new) (may_leave old) (left_since old) (left_since new) (left_with new))
  unopened_at None changes old new only = tt
  unopened_at (Some f) changes old new only = inr only.before

module _ (f : List ℕ) (before now : ℕ) (left : List ℕ → Type 0) (was since : ℕ → List ℕ → Type 0) (with : ℕ → Past × List ℕ → Type 0) where
  -- of a call whose changes are the same
  changed : (a b : List Group → List Change) → ((groups : List Group) → a groups ≡ b groups) → Interrupts a f before now left was since with → Interrupts b f before now left was since with
  changed a b same (inl i) = inl (record {
    holds = i.holds;
    since = i.since;
    added = subst (λ (cs : List Change). MayAdd i.holds.next cs i.since) (same i.holds.groups) i.added;
    opened = i.opened;
    later = i.later;
    earlier = i.earlier;
    groups = i.groups;
    records = λ x l untorn. subst (λ (cs : List Change). RestoresEither i.holds.groups (group_of i.holds.next cs) x.1) (same i.holds.groups) (i.records x l untorn);
  })
  changed a b same (inr u) = inr u

module _ {P : Type 0} (acts : P → List ℕ → Option (List ℕ) → Action) (reply : Option (List ℕ) → Reply) (key : List ℕ) (old : P) (agree : (was : Option (List ℕ)) → acts old key was ≡ (reply was).action)
    (fits : (was : Option (List ℕ)) → is_long (reply was).action ≡ false) where
  -- of the call of a ready processor
  pub reply_interrupted : (o : Option (List ℕ)) (before now : ℕ) (left : List ℕ → Type 0) (was since : ℕ → List ℕ → Type 0) (with : ℕ → Past × List ℕ → Type 0)
      → IfSome o (λ f. Interrupts (λ groups. call_changes acts old key (replay Hash groups [])) f before now left was since with) → IfSome o (λ f. Interrupts (λ groups. reply_changes reply groups key) f before now left was since with)
  reply_interrupted None before now left was since with done = tt
  reply_interrupted (Some f) before now left was since with done =
      changed f before now left was since with _ _ (changes_same acts (λ p k w. p) reply key old agree fits) done

torn_none : (c : List ℕ) → Torn 32 32 c c
torn_none c = record { no_shorter = omega arith; same = λ i below outside. refl }

module _ {D : Type 0} (image : D → Option (List ℕ)) (may_leave : D → List ℕ → Type 0) (past : D → Past) (moment : D → ℕ) (left_since : D → ℕ → List ℕ → Type 0) (left_with : D → ℕ → Past × List ℕ → Type 0) where
  -- a disk that was read at most
  looked : (old new : D) → OnlyReads may_leave moment left_since past left_with old new → IsUnopened (moment old) (may_leave old) (left_since old) (left_since new)
  looked old new reads t c le l = elim (reads.time.nothing_else t c le l) [ inl was ↦ inl was | inr now ↦ inr (c, reads.crash c now, torn_none c) ]

  -- a call behind a reading
  behind : (changes : List Group → List Change) (f : List ℕ) (old mid new : D) → OnlyReads may_leave moment left_since past left_with old mid → Interrupts changes f (moment mid) (moment new) (may_leave mid) (left_since mid) (left_since new) (left_with new)
      → Interrupts changes f (moment old) (moment new) (may_leave old) (left_since old) (left_since new) (left_with new)
  behind changes f old mid new reads (inl i) = inl (record {
    holds = i.holds;
    since = i.since;
    added = i.added;
    opened = i.opened;
    later = omega (arith, reads.time.later, i.later);
    earlier = i.earlier;
    groups = i.groups;
    records = i.records;
  })
  behind changes f old mid new reads (inr u) = inr (λ t c le l. elim (u t c (omega (arith, le, reads.time.later)) l) [ inl was ↦ looked old mid reads t c le was | inr x ↦ inr (x.0, reads.crash x.0 x.1, x.2) ])

  -- the same disk
  pub same_unopened : (o : Option (List ℕ)) (changes : List Group → List Change) (disk : D) → IfSome o (λ f. Interrupts changes f (moment disk) (moment disk) (may_leave disk) (left_since disk) (left_since disk) (left_with disk))
  same_unopened None changes disk = tt
  same_unopened (Some f) changes disk = inr (λ t c le l. inl l)

  pub looked_at : (o : Option (List ℕ)) (changes : List Group → List Change) (old new : D) → IfSome o (λ f. f ≢ [] → OnlyReads may_leave moment left_since past left_with old new)
      → IfSome o (λ f. f ≢ [] → Interrupts changes f (moment old) (moment new) (may_leave old) (left_since old) (left_since new) (left_with new))
  looked_at None changes old new reads = tt
  looked_at (Some f) changes old new reads = λ bytes. inr (looked old new (reads bytes))

  pub behind_at : (o : Option (List ℕ)) (changes : List Group → List Change) (old mid new : D) → IfSome o (λ f. f ≢ [] → OnlyReads may_leave moment left_since past left_with old mid) → IfSome o (λ f. f ≢ [] → image mid ≡ o)
      → IfSome (image mid) (λ f. Interrupts changes f (moment mid) (moment new) (may_leave mid) (left_since mid) (left_since new) (left_with new))
      → IfSome o (λ f. f ≢ [] → Interrupts changes f (moment old) (moment new) (may_leave old) (left_since old) (left_since new) (left_with new))
  behind_at None changes old mid new reads same done = tt
  behind_at (Some f) changes old mid new reads same done = λ bytes.
      behind changes f old mid new (reads bytes)
      (subst (λ (x : Option (List ℕ)). IfSome x (λ f. Interrupts changes f (moment mid) (moment new) (may_leave mid) (left_since mid) (left_since new) (left_with new))) (same bytes) done)

module _ (m0 m1 m2 m3 : ℕ) (left first last leaves : List ℕ → Type 0) (was was1 since since1 : ℕ → List ℕ → Type 0) (p p1 q q1 : Past) (was_with was_with1 with with1 : ℕ → Past × List ℕ → Type 0)
    (taken : SameHistory m0 m1 left first was was1 p p1 was_with was_with1) (given : SameHistory m2 m3 last leaves since since1 q q1 with with1) where
  -- a call on a disk that was taken out of its folder and given back
  through : (changes : List Group → List Change) (f : List ℕ) → Interrupts changes f m1 m2 first was1 since with → Interrupts changes f m0 m3 left was since1 with1
  through changes f (inl i) = inl (record {
    holds = i.holds;
    since = i.since;
    added = i.added;
    opened = i.opened;
    later = omega (arith, taken.moment, i.later);
    earlier = omega (arith, given.moment, i.earlier);
    groups = λ x l untorn. i.groups x (given.pasts i.opened x l) untorn;
    records = λ x l untorn. i.records x (given.pasts i.opened x l) untorn;
  })
  through changes f (inr u) = inr (λ t c le l. elim (u t c (omega (arith, le, taken.moment)) (given.time t c l)) [ inl x ↦ inl (taken.time t c x) | inr x ↦ inr (x.0, taken.crash x.0 x.1, x.2) ])

  command_through : (command : Command) (f : List ℕ) → InterruptsCommand command f m1 m2 first was1 since with → InterruptsCommand command f m0 m3 left was since1 with1
  command_through (Get c) f done = tt
  command_through (Set c) f done = λ bytes. through _ f (done bytes)
  command_through (Remove c) f done = through _ f done
  command_through (Restore c) f done = tt

  pub taken_through : (command : Command) (f : List ℕ) (o : Option (List ℕ)) → o ≡ Some f → IfSome o (λ g. InterruptsCommand command g m1 m2 first was1 since with) → InterruptsCommand command f m0 m3 left was since1 with1
  taken_through command f o is done = command_through command f (told_call o f (λ g. InterruptsCommand command g m1 m2 first was1 since with) is done)

-- a disk that was not taken
pub not_taken_through : (command : Command) (f : List ℕ) (m0 m1 : ℕ) (left leaves : List ℕ → Type 0) (was since : ℕ → List ℕ → Type 0) (p q : Past) (was_with with : ℕ → Past × List ℕ → Type 0)
    → SameHistory m0 m1 left leaves was since p q was_with with → InterruptsCommand command f m0 m1 left was since with
not_taken_through (Get c) f m0 m1 left leaves was since p q was_with with same = tt
not_taken_through (Set c) f m0 m1 left leaves was since p q was_with with same = λ bytes. inr (λ t c le l. inl (same.time t c l))
not_taken_through (Remove c) f m0 m1 left leaves was since p q was_with with same = inr (λ t c le l. inl (same.time t c l))
not_taken_through (Restore c) f m0 m1 left leaves was since p q was_with with same = tt
