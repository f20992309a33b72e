-- One call on a file: the file that it leaves, and the room for it.
use Rattle.tk_disk.specs.Past.{Past}
use Rattle.std.proofs.Common.{◌≡◌, ℕ, ◌+◌, ◌-◌, ◌≤◌, ◌^◌, Bool, true, false, inl, inr, List, [], ◌∷◌, ◌++◌, length, refl, sym, ◌∙◌, ap, subst, arith, if◌then◌else◌}
use Rattle.std.specs.Prelude.{Option, Some, None, IfSome, slice_index, sum_by, nat_lt, Result, Ok, Err, IfOk, IsErrOf, min}
use Rattle.std.specs.Option.{is_some, option_map}
use Rattle.std.proofs.Math.Bool.{and-false}
use Rattle.std.proofs.lemmas.List.{append-nil}
use Rattle.tk_status.specs.declared.Status.{Status}
use Rattle.tk_model.specs.declared.record.Action.{Action}
use Rattle.tk_model.specs.declared.record.Pair.{Pair}
use Rattle.tk_model.specs.declared.record.Group.{Group}
use Rattle.tk_model.specs.declared.record.Change.{Change}
use Rattle.tk_model.specs.declared.record.Order.TheVariants.{Hash}
use Rattle.tk_model.specs.Records.{find, replay}
use Rattle.tk_model.specs.Entries.{group_of, touched}
use Rattle.tk_proc.specs.Runs.{unless_long, status_unless_long}
use Rattle.tk_block.specs.declared.head.StaticHead.{StaticHead}
use Rattle.tk_block.specs.Text.{static_text, static_front, closing_text, base_of}
use Rattle.tk_block.specs.Layout.{laid, links_of, end_of, texts, bodies_of, heads_text, file_text}
use Rattle.tk_block.proofs.Lengths.{length-file_text}
use Rattle.tk_store.specs.Store.{First, StoreConstants, OkOrFault, UnlessFault, is_over, extent_of}
use Rattle.tk_store.specs.OneRecord.{call_changes, TellsFullOfChanges}
use Rattle.tk_store.specs.declared.error.StoreError.{StoreError}
use Rattle.tk_store.specs.declared.error.StoreError.TheVariants as errors
use Rattle.tk_append.specs.Log.{closed_text}
use Rattle.tk_append.specs.LogParts.{log_end}
use Rattle.tk_append.specs.Opening.{first_fault}
use Rattle.tk_hash.specs.declared.store.HashStore.{HashStore}
use Rattle.tk_util.specs.declared.call.Stop.{Stop}
use Rattle.tk_util.specs.declared.call.Stop.TheVariants.{Full, NoMemory, Refused}
use Rattle.tk_append.specs.Restored.{groups_in}
use Rattle.tk_hash.specs.HashLaws.{hash_replays}
use Rattle.tk_hash.specs.Hash.{HashStands, opening, groups_held, map_in, hash_disk, hash_head, hash_constants, hash_view}
use Rattle.tk_util.specs.Calls.{alone, Made, MadeOn, NoRoom, NoRoomOn}

-- the file of a header by its text and its p
abbrev pub file_by : (text : List ℕ) (p : ℕ) → List Group → (count next : ℕ) → List ℕ
file_by text p groups count next =
    (text ++ closing_text (record { size = end_of (base_of p) (bodies_of groups); count = count; next = next }))
    ++ (heads_text p (laid (base_of p) (bodies_of groups)) ++ texts (laid (base_of p) (bodies_of groups)) (links_of p [] (laid (base_of p) (bodies_of groups))))

pub same_p : (a b : StaticHead) → static_text a ≡ static_text b → a.p ≡ b.p
unfolding static_text static_front
same_p a b e = ap (λ (l : List ℕ). slice_index l 10) e

pub by_text : (h : StaticHead) (groups : List Group) (next : ℕ) → closed_text h groups next ≡ file_by (static_text h) h.p groups (length (replay Hash groups [])) next
unfolding file_text static_text
by_text h groups next = refl

-- headers of one text have one file
pub same_closed : (a b : StaticHead) (groups : List Group) (next : ℕ) → static_text a ≡ static_text b → closed_text a groups next ≡ closed_text b groups next
same_closed a b groups next e =
    by_text a groups next
    ∙ (ap (λ (t : List ℕ). file_by t a.p groups (length (replay Hash groups [])) next) e
    ∙ (ap (λ (p : ℕ). file_by (static_text b) p groups (length (replay Hash groups [])) next) (same_p a b e)
    ∙ sym (by_text b groups next)))

-- the file that a call leaves
pub file_after : (v w : Bool) (g h : StaticHead) (groups since more : List Group) (n next closes : ℕ) → v ≡ w → static_text g ≡ static_text h → n ≡ next → (w ≡ true → closes ≡ next + 1) → since ≡ more
    → (if v then closed_text g (groups ++ since) closes else closed_text g groups n) ≡ (if w then closed_text h (groups ++ more) (next + 1) else closed_text h groups next)
file_after v true g h groups since more n next closes a b c d e =
    ap (λ (x : Bool). if x then closed_text g (groups ++ since) closes else closed_text g groups n) a
    ∙ (ap (λ (k : ℕ). closed_text g (groups ++ since) k) (d refl)
    ∙ (ap (λ (l : List Group). closed_text g (groups ++ l) (next + 1)) e ∙ same_closed g h (groups ++ more) (next + 1) b))
file_after v false g h groups since more n next closes a b c d e =
    ap (λ (x : Bool). if x then closed_text g (groups ++ since) closes else closed_text g groups n) a ∙ (ap (λ (k : ℕ). closed_text g groups k) c ∙ same_closed g h groups next b)

-- the file that a call leaves that was not made
pub file_kept : (v : Bool) (g h : StaticHead) (groups : List Group) (n next closes : ℕ) → static_text g ≡ static_text h → n ≡ next → closes ≡ next
    → (if v then closed_text g (groups ++ []) closes else closed_text g groups n) ≡ closed_text h groups next
file_kept true g h groups n next closes b c d =
    ap (λ (l : List Group). closed_text g l closes) (append-nil groups) ∙ (ap (λ (k : ℕ). closed_text g groups k) d ∙ same_closed g h groups next b)
file_kept false g h groups n next closes b c d = ap (λ (k : ℕ). closed_text g groups k) c ∙ same_closed g h groups next b

map_told : {A B : Type 0} (o : Option A) (g : A → B) (y : B) → IfSome (option_map g o) (λ m. m ≡ y) → IfSome o (λ f. option_map g o ≡ Some y)
map_told None g y is = tt
map_told (Some f) g y is = ap Some is

-- the records of a store that was opened
pub map_is : {D : Type 0} (image : D → Option (List ℕ)) (may_leave : D → List ℕ → Type 0) (past : D → Past) (s : HashStore D) (groups : List Group) → HashStands image may_leave past s (opening groups) [] 0 → IfSome (image (hash_disk s)) (λ f. map_in image s ≡ Some (replay Hash groups []))
map_is image may_leave past s groups st = map_told (image (hash_disk s)) (λ f. replay Hash (groups_in (hash_head s) f) []) (replay Hash groups []) (hash_replays image may_leave past s (opening groups) [] 0 st)

-- what is known of the records, where a disk tells them
pub told_map : (o : Option (List ℕ)) (M : Option (List Pair)) (m : List Pair) (P : List Pair → Type 0) (R : Type 0) → IfSome o (λ f. M ≡ Some m) → IfSome M P → (P m → R) → IfSome o (λ f. R)
told_map None M m P R is holds go = tt
told_map (Some f) M m P R is holds go = go (subst (λ (x : Option (List Pair)). IfSome x P) is holds)

both_told : (o : Option (List ℕ)) (A B R : Type 0) → IfSome o (λ f. A) → IfSome o (λ f. B) → (A → B → R) → IfSome o (λ f. R)
both_told None A B R a b go = tt
both_told (Some f) A B R a b go = go a b

-- a disk whose records are told tells its bytes
known_map : (G : List ℕ → List Pair) (b : Option (List ℕ)) (m : List Pair) (X : Type 0) → option_map G b ≡ Some m → IfSome b (λ f. X) → X
known_map G (Some g) m X e x = x
known_map G None m X e x = absurd (cc e)

-- where the records are told as before the bytes are too
still_told : (F G : List ℕ → List Pair) (a b : Option (List ℕ)) (A B : Type 0) → option_map G b ≡ option_map F a → (A → B) → IfSome b (λ f. A) → IfSome a (λ f. B)
still_told F G None b A B same go x = tt
still_told F G (Some f) (Some g) A B same go x = go x
still_told F G (Some f) None A B same go x = absurd (cc same)

-- there was room for what was made
room_is : {D T : Type 0} (image : D → Option (List ℕ)) (s : HashStore D) (cs : List Change) (v : T) (size : ℕ) → size ≡ log_end s.log → (hash_constants s).limit ≡ 2 ^ 40
    → TellsFullOfChanges {T = T} (hash_constants s) (hash_view image s) cs (Ok v) → is_over size (sum_by (extent_of 1) cs) (2 ^ 40) cs ≡ false
room_is image s [] v size e limit told = and-false (nat_lt (2 ^ 40) (size + 0))
room_is image s (c ∷ cs) v size e limit told =
    ap (λ (n : ℕ). is_over n (sum_by (extent_of 1) (c ∷ cs)) (2 ^ 40) (c ∷ cs)) e
    ∙ (ap (λ (l : ℕ). is_over (log_end s.log) (sum_by (extent_of 1) (c ∷ cs)) l (c ∷ cs)) (sym limit) ∙ told.store)

-- there was none where the store was full
over_is : {D : Type 0} (T : Type 0) (image : D → Option (List ℕ)) (s : HashStore D) (cs : List Change) (a n l size : ℕ) → size ≡ log_end s.log → (hash_constants s).limit ≡ 2 ^ 40
    → TellsFullOfChanges {T = T} (hash_constants s) (hash_view image s) cs (Err (errors.Full a n l)) → is_over size (sum_by (extent_of 1) cs) (2 ^ 40) cs ≡ true
over_is T image s [] a n l size e limit told = absurd told
over_is T image s (c ∷ cs) a n l size e limit (inl x) =
    ap (λ (k : ℕ). is_over k (sum_by (extent_of 1) (c ∷ cs)) (2 ^ 40) (c ∷ cs)) (e ∙ sym x.size_is)
    ∙ (ap (λ (k : ℕ). is_over a k (2 ^ 40) (c ∷ cs)) (sym x.need_is) ∙ (ap (λ (k : ℕ). is_over a n k (c ∷ cs)) (sym (x.limit_is ∙ limit)) ∙ x.over))
over_is T image s (c ∷ cs) a n l size e limit (inr x) = absurd x

-- the file is as long as the store says
size_is : {D : Type 0} (image : D → Option (List ℕ)) (may_leave : D → List ℕ → Type 0) (past : D → Past) (s : HashStore D) (groups : List Group) → HashStands image may_leave past s (opening groups) [] 0 → length (closed_text (hash_head s) groups s.next) ≡ log_end s.log
size_is image may_leave past s groups st =
    length-file_text (hash_head s) groups (length (replay Hash groups [])) s.next
    ∙ (ap (λ (l : List Group). end_of (base_of (hash_head s).p) (bodies_of l)) (ap groups_held st.held ∙ sym (append-nil st.groups)) ∙ sym st.end_is)

-- a call was not made, and the store then closed
pub kept_on : {D : Type 0} (image : D → Option (List ℕ)) (s t u : HashStore D) (groups : List Group) (number : ℕ) (R : Type 0) → hash_constants t ≡ hash_constants s → number ≡ s.next
    → map_in image t ≡ map_in image s
    → IfSome (image (hash_disk t)) (λ f. image (hash_disk u) ≡ Some (if t.writable then closed_text (hash_head t) (groups ++ []) number else closed_text (hash_head t) groups t.next))
    → (image (hash_disk u) ≡ Some (closed_text (hash_head s) groups s.next) → R)
    → IfSome (image (hash_disk s)) (λ f. R)
kept_on image s t u groups number R same numbered told file go =
    still_told _ _ _ _ _ _ told (λ after. go (after ∙ ap Some (file_kept t.writable (hash_head t) (hash_head s) groups t.next s.next number
    (ap (λ (n : StoreConstants). n.header) same) (ap (λ (n : StoreConstants). n.next) same) numbered))) file

-- what a call that was made says of the records before it
abbrev pub Told : {D P : Type 0} (image : D → Option (List ℕ)) (may_leave : D → List ℕ → Type 0) (past : D → Past) (acts : P → List ℕ → Option (List ℕ) → Action) (turns : P → List ℕ → Option (List ℕ) → P) (s t : HashStore D) (key : List ℕ) (p q : P) (number : ℕ) (status : Status) → List Pair → Type 0
Told image may_leave past acts turns s t key p q number status m =
    (status ≡ status_unless_long (acts p key (find key m))) × (q ≡ turns p key (find key m))
    × TellsFullOfChanges {T = Status} (hash_constants s) (hash_view image s) (call_changes acts p key m) (Ok status)
    × (map_in image t ≡ Some (touched Hash key (unless_long (acts p key (find key m))) m))
    × ((first : First) (since : List Group) (hard : ℕ) → HashStands image may_leave past s first since hard → HashStands image may_leave past t first (since ++ group_of number (call_changes acts p key m)) hard)

-- a call was made, and the store then closed
pub made_on : {D P : Type 0} (image : D → Option (List ℕ)) (may_leave : D → List ℕ → Type 0) (past : D → Past) (acts : P → List ℕ → Option (List ℕ) → Action) (turns : P → List ℕ → Option (List ℕ) → P) (s t u : HashStore D) (key : List ℕ) (p q : P) (groups : List Group) (number closes : ℕ) (status : Status)
    → HashStands image may_leave past s (opening groups) [] 0 → IfSome (map_in image s) (Told image may_leave past acts turns s t key p q number status)
    → hash_constants t ≡ hash_constants s → number ≡ s.next → (hash_constants s).limit ≡ 2 ^ 40 → (s.writable ≡ true → closes ≡ s.next + 1)
    → ((since : List Group) → HashStands image may_leave past t (opening groups) since 0 → IfSome (image (hash_disk t)) (λ f. image (hash_disk u) ≡ Some (if t.writable then closed_text (hash_head t) (groups ++ since) closes else closed_text (hash_head t) groups t.next)))
    → IfSome (image (hash_disk s)) (λ f. MadeOn acts turns (hash_head s) groups s.next s.writable key p q (image (hash_disk u)) status)
made_on image may_leave past acts turns s t u key p q groups number closes status st said same numbered limit closed file =
    let m : List Pair = replay Hash groups [] in
    told_map (image (hash_disk s)) (map_in image s) m (Told image may_leave past acts turns s t key p q number status) _ (map_is image may_leave past s groups st) said (λ x.
    let after = known_map _ _ _ _ x.3 (file _ (x.4 (opening groups) [] 0 st)) in
    record {
      status_is = x.0;
      turned = x.1;
      room = room_is image s (call_changes acts p key m) status (length (closed_text (hash_head s) groups s.next)) (size_is image may_leave past s groups st) limit x.2;
      after_is = after ∙ ap Some (file_after t.writable s.writable (hash_head t) (hash_head s) groups
          (group_of number (call_changes acts p key m)) (group_of s.next (call_changes acts p key m)) t.next s.next closes
          (ap (λ (n : StoreConstants). n.writable) same) (ap (λ (n : StoreConstants). n.header) same) (ap (λ (n : StoreConstants). n.next) same) closed
          (ap (λ (n : ℕ). group_of n (call_changes acts p key m)) numbered));
    })

-- there was no room for a call
pub no_room_on : {D P : Type 0} (image : D → Option (List ℕ)) (may_leave : D → List ℕ → Type 0) (past : D → Past) (acts : P → List ℕ → Option (List ℕ) → Action) (s u : HashStore D) (key : List ℕ) (p : P) (groups : List Group) (e : StoreError) (a n l : ℕ) → e ≡ errors.Full a n l
    → HashStands image may_leave past s (opening groups) [] 0 → (hash_constants s).limit ≡ 2 ^ 40
    → IfSome (map_in image s) (λ m. TellsFullOfChanges {T = Status} (hash_constants s) (hash_view image s) (call_changes acts p key m) (Err e))
    → IfSome (image (hash_disk s)) (λ f. image (hash_disk u) ≡ Some (closed_text (hash_head s) groups s.next))
    → IfSome (image (hash_disk s)) (λ f. NoRoomOn acts (hash_head s) groups s.next key p (image (hash_disk u)))
no_room_on image may_leave past acts s u key p groups e a n l is st limit full after =
    let m : List Pair = replay Hash groups [] in
    both_told (image (hash_disk s)) _ _ _ after
    (told_map (image (hash_disk s)) (map_in image s) m (λ x. TellsFullOfChanges {T = Status} (hash_constants s) (hash_view image s) (call_changes acts p key x) (Err e)) _ (map_is image may_leave past s groups st) full (λ x. x))
    (λ kept x. record {
      full = over_is Status image s (call_changes acts p key m) a n l (length (closed_text (hash_head s) groups s.next)) (size_is image may_leave past s groups st) limit
          (subst (λ (y : StoreError). TellsFullOfChanges {T = Status} (hash_constants s) (hash_view image s) (call_changes acts p key m) (Err y)) is x);
      after_is = kept;
    })

-- what is said of the records, in one
pub said_of : (M : Option (List Pair)) (P Q R S T : List Pair → Type 0) → IfSome M P → IfSome M Q → IfSome M R → IfSome M S → IfSome M T → IfSome M (λ m. P m × Q m × R m × S m × T m)
said_of None P Q R S T p q r s t = tt
said_of (Some m) P Q R S T p q r s t = (p, q, r, s, t)

-- what is no want of memory and not full is a fault
pub fault_only : (T R : Type 0) (e : StoreError) → OkOrFault {T = T} (Err e) → (IsErrOf {T = T} (Err e) errors.Fault → R) → R
fault_only T R errors.Fault only go = go refl
fault_only T R (errors.Full a n l) only go = absurd only
fault_only T R errors.NoMemory only go = absurd only

-- a full store answers no fault, and so does one that wants memory
pub full_tells : (T R : Type 0) (e : StoreError) (a n l : ℕ) → e ≡ errors.Full a n l → UnlessFault {T = T} (Err e) R → R
full_tells T R e a n l is x = subst (λ (y : StoreError). UnlessFault {T = T} (Err y) R) is x

pub memory_tells : (T R : Type 0) (e : StoreError) → e ≡ errors.NoMemory → UnlessFault {T = T} (Err e) R → R
memory_tells T R e is x = subst (λ (y : StoreError). UnlessFault {T = T} (Err y) R) is x

-- the next number is one more
pub one_more : (next number closes : ℕ) → number ≡ next → next ≤ 2 ^ 62 → closes ≡ min (number + 1) (2 ^ 64 - 1) → closes ≡ next + 1
one_more next number closes is low e = omega (arith, is, low, e)

pub known : (o : Option (List ℕ)) (R : Type 0) → is_some o ≡ true → IfSome o (λ f. R) → R
known (Some f) R same x = x
known None R same x = absurd (cc same)

-- a call on a file that was opened refuses no place
pub no_place : (o : Option (List ℕ)) (answer : Result Status Stop) (P : List ℕ → ℕ → Type 0) → ((place : ℕ) → answer ≡ Err (Refused place) → ⊥) → IfSome o (λ f. (place : ℕ) → answer ≡ Err (Refused place) → P f place)
no_place None answer P taken = tt
no_place (Some f) answer P taken = λ place is. absurd (taken place is)

-- the groups of a store that was opened, with the file that it was opened on
abbrev pub Opened : {D : Type 0} (image : D → Option (List ℕ)) (may_leave : D → List ℕ → Type 0) (past : D → Past) → HashStore D → Option (List ℕ) → Type 0
Opened image may_leave past s a = (groups : List Group) × HashStands image may_leave past s (opening groups) [] 0 × IfSome a (λ f. f ≡ closed_text (hash_head s) groups s.next)

-- a call on the file that was opened
pub made_at : {D P : Type 0} (image : D → Option (List ℕ)) (may_leave : D → List ℕ → Type 0) (past : D → Past) (acts : P → List ℕ → Option (List ℕ) → Action) (turns : P → List ℕ → Option (List ℕ) → P) (a : Option (List ℕ)) (s : HashStore D) (u v : D) (w : Bool) (key : List ℕ) (p q : P) (answer : Result Status Stop)
    → IfSome a (λ f. first_fault (1 ∷ []) w alone f ≡ None) → Opened image may_leave past s a → s.writable ≡ w → is_some (image (hash_disk s)) ≡ is_some a → v ≡ u
    → ((groups : List Group) → HashStands image may_leave past s (opening groups) [] 0 → IfSome (image (hash_disk s)) (λ f. IfOk answer (MadeOn acts turns (hash_head s) groups s.next s.writable key p q (image u))))
    → IfSome a (λ f. IfOk answer (Made acts turns w f key p q (image v)))
made_at image may_leave past acts turns None s u v w key p q answer accepted opened mode told same made = tt
made_at image may_leave past acts turns (Some f) s u v w key p q (Err stop) accepted opened mode told same made = tt
made_at {D = D} image may_leave past acts turns (Some f) s u v w key p q (Ok status) accepted opened mode told same made = record {
  holds = record { accepted = accepted; head = hash_head s; groups = opened.0; next = s.next; file = opened.2 };
  made = subst (λ (x : D). MadeOn acts turns (hash_head s) opened.0 s.next w key p q (image x) status) (sym same)
      (subst (λ (b : Bool). MadeOn acts turns (hash_head s) opened.0 s.next b key p q (image u) status) mode (known (image (hash_disk s)) _ told (made opened.0 opened.1)));
}

pub no_room_at : {D P : Type 0} (image : D → Option (List ℕ)) (may_leave : D → List ℕ → Type 0) (past : D → Past) (acts : P → List ℕ → Option (List ℕ) → Action) (a : Option (List ℕ)) (s : HashStore D) (u v : D) (w : Bool) (key : List ℕ) (p : P) (answer : Result Status Stop)
    → IfSome a (λ f. first_fault (1 ∷ []) w alone f ≡ None) → Opened image may_leave past s a → is_some (image (hash_disk s)) ≡ is_some a → v ≡ u
    → ((groups : List Group) → HashStands image may_leave past s (opening groups) [] 0 → IfSome (image (hash_disk s)) (λ f. answer ≡ Err Full → NoRoomOn acts (hash_head s) groups s.next key p (image u)))
    → IfSome a (λ f. answer ≡ Err Full → NoRoom acts w f key p (image v))
no_room_at image may_leave past acts None s u v w key p answer accepted opened told same full = tt
no_room_at {D = D} image may_leave past acts (Some f) s u v w key p answer accepted opened told same full = λ is. record {
  holds = record { accepted = accepted; head = hash_head s; groups = opened.0; next = s.next; file = opened.2 };
  full = subst (λ (x : D). NoRoomOn acts (hash_head s) opened.0 s.next key p (image x)) (sym same) (known (image (hash_disk s)) _ told (full opened.0 opened.1) is);
}

pub memory_at : {D : Type 0} (image : D → Option (List ℕ)) (may_leave : D → List ℕ → Type 0) (past : D → Past) (a : Option (List ℕ)) (s : HashStore D) (u v : D) (answer : Result Status Stop)
    → Opened image may_leave past s a → is_some (image (hash_disk s)) ≡ is_some a → v ≡ u
    → ((groups : List Group) → HashStands image may_leave past s (opening groups) [] 0 → IfSome (image (hash_disk s)) (λ f. answer ≡ Err NoMemory → image u ≡ Some (closed_text (hash_head s) groups s.next)))
    → IfSome a (λ f. answer ≡ Err NoMemory → image v ≡ Some f)
memory_at image may_leave past None s u v answer opened told same left = tt
memory_at image may_leave past (Some f) s u v answer opened told same left = λ is. ap image same ∙ (known (image (hash_disk s)) _ told (left opened.0 opened.1) is ∙ ap Some (sym opened.2))
