-- The laws of hash files as stores.
use Rattle.std.proofs.Common.{◌≡◌, ℕ, ◌+◌, ◌-◌, ◌<◌, ◌≤◌, ◌^◌, List, [], ◌∷◌, ◌++◌, length, take, drop, true, false, refl, sym, ◌∙◌, ap, subst, arith, length-append, length-take, length-drop, append_assoc}
use Rattle.std.specs.Prelude.{Bool, Option, Some, None, IfSome, ◌==◌, ◌&&◌, if◌then◌else◌}
use Rattle.std.specs.Option.{option_map}
use Rattle.std.proofs.lemmas.List.{take-append-drop, take-append-le, append-nil}
use Rattle.std.proofs.lemmas.Option.{IfSome_then}
use Rattle.std.proofs.Math.Seq.{take-append-add}
use Rattle.tk_model.specs.declared.record.Order.{Order}
use Rattle.tk_model.specs.declared.record.Order.TheVariants.{Hash}
use Rattle.tk_model.specs.declared.record.Pair.{Pair}
use Rattle.tk_model.specs.declared.record.Group.{Group}
use Rattle.tk_model.specs.declared.record.Change.{Change}
use Rattle.tk_model.specs.Records.{after, replay, Rising, AllHeld}
use Rattle.tk_model.proofs.RecordLaws.{replay_rising}
use Rattle.tk_model.proofs.Limits.{after_held}
use Rattle.tk_store.specs.Store.{First, extents_need}
use Rattle.tk_block.specs.declared.head.StaticHead.{StaticHead}
use Rattle.tk_block.specs.declared.closing.Closing.{Closing}
use Rattle.tk_block.specs.Text.{static_text, closing_text, base_of, is_static}
use Rattle.tk_block.specs.Layout.{end_of, bodies_of, heads_text, links_of}
use Rattle.tk_block.proofs.Lengths.{length-heads_text, length-texts}
use Rattle.tk_block.proofs.Grammar.{length-static_text, length-closing_text}
use Rattle.tk_append.specs.Log.{AreGroups, blocks_of}
use Rattle.tk_append.specs.LogParts.{log_disk, log_head, log_end}
use Rattle.tk_append.specs.FileText.{text_of, IsFile}
use Rattle.tk_append.specs.Restored.{groups_in, groups_text, IsKept}
use Rattle.tk_append.specs.Untorn.{IsUntornBy}
use Rattle.tk_append.specs.FairPast.{IsFairPast}
use Rattle.tk_append.proofs.Fair.{fair_restores}
use Rattle.tk_append.proofs.FairPasts.{fair_more}
use Rattle.tk_append.proofs.Groupings.{groups_upto}
use Rattle.tk_append.proofs.Restoring.{reads_back, kept_less}
use Rattle.tk_hash.specs.declared.store.HashStore.{HashStore}
use Rattle.tk_disk.specs.Past.{Past}
use Rattle.tk_disk.proofs.Moments.{nothing_read, reads_joined}
use Rattle.tk_hash.specs.Hash.{hash_disk, HashUntouched, ended_with, groups_held, floor_of, RestoresTo, hash_constants, hash_view, map_in, HashStands, HashSafe, HashKeptSince}

groups_from : (low least next : ℕ) (gs : List Group) → low ≤ least → AreGroups least next gs → AreGroups low next gs
groups_from low least next [] le legal = omega (arith, le, legal)
groups_from low least next (g ∷ gs) le legal = (omega (arith, le, legal.0), legal.1, legal.2, legal.3, legal.4)

-- groups behind groups
pub groups_joined : (least mid next : ℕ) (gs hs : List Group) → AreGroups least mid gs → AreGroups mid next hs → AreGroups least next (gs ++ hs)
groups_joined least mid next [] hs first second = groups_from least mid next hs first second
groups_joined least mid next (g ∷ gs) hs first second = (first.0, first.1, first.2, first.3, groups_joined (g.number + 1) mid next gs hs first.4 second)

pub replay-append : (o : Order) (gs hs : List Group) (m : List Pair) → replay o (gs ++ hs) m ≡ replay o hs (replay o gs m)
replay-append o [] hs m = refl
replay-append o (g ∷ gs) hs m = replay-append o gs hs (after o g.changes m)

replay_held : (o : Order) (least next : ℕ) (gs : List Group) (m : List Pair) → AreGroups least next gs → AllHeld m → AllHeld (replay o gs m)
replay_held o least next [] m legal fit = fit
replay_held o least next (g ∷ gs) m legal fit = replay_held o (g.number + 1) next gs (after o g.changes m) legal.4 (after_held o g.changes m legal.2 fit)

pub length-front : (h : StaticHead) (c : Closing) → length (static_text h ++ closing_text c) ≡ 64
length-front h c = omega (arith, length-append (static_text h) (closing_text c), length-static_text h, length-closing_text c)

pub length-text_of : (h : StaticHead) (c : Closing) (groups : List Group) → length (text_of h c groups) ≡ end_of (base_of h.p) (bodies_of groups)
length-text_of h c groups =
    omega (arith, length-append (static_text h ++ closing_text c) (heads_text h.p (blocks_of h groups) ++ groups_text h groups), length-append (heads_text h.p (blocks_of h groups)) (groups_text h groups), length-front h c, length-heads_text h.p (blocks_of h groups), length-texts (base_of h.p) (bodies_of groups) (links_of h.p [] (blocks_of h groups)))

-- the file with this closing part
pub file_of : (h : StaticHead) (c : Closing) (groups : List Group) (next end : ℕ) (f : List ℕ) → is_static h ≡ true → h.generation < 2 ^ 64 → AreGroups 0 next groups → next ≤ 2 ^ 64 → end ≡ end_of (base_of h.p) (bodies_of groups) → end < 2 ^ 64
    → f ≡ text_of h c groups → IsFile h f groups
file_of h c groups next end f header generation legal top is fits there = record {
  header = header;
  generation = generation;
  legal = groups_upto 0 next (2 ^ 64) groups legal top;
  size = omega (arith, ap length there, length-text_of h c groups, is, fits);
  closing = c;
  text = there;
}

pub mapped : {A B : Type 0} (o : Option A) (g : A → B) (P : B → Type 0) → IfSome o (λ x. P (g x)) → IfSome (option_map g o) P
mapped None g P holds = tt
mapped (Some x) g P holds = holds

-- at least fewer of them
pub weaker : (first groups : List Group) (m n : ℕ) (c : List ℕ) → m ≤ n → RestoresTo first groups n c → RestoresTo first groups m c
weaker first groups m n c le r = record { count = r.count; least = omega (arith, le, r.least); most = r.most; front = r.front }

take_both : (n k : ℕ) (gs : List Group) → n ≤ length gs → take n gs ++ take k (drop n gs) ≡ take (n + k) gs
take_both n k gs le =
    let len : length (take n gs) ≡ n = omega (arith, length-take n gs) in
    sym (take-append-add (take n gs) (drop n gs) k) ∙ ap (λ (m : ℕ). take (m + k) (take n gs ++ drop n gs)) len ∙ ap (λ (l : List Group). take (n + k) l) (take-append-drop n gs)

-- an image that kept some of the groups and is untorn by a fair past restores to at least these
pub front_of : (h : StaticHead) (first gs : List Group) (n : ℕ) (p : Past) (c : List ℕ) → is_static h ≡ true → h.generation < 2 ^ 64 → n ≤ length gs → AreGroups 0 (2 ^ 64) (first ++ gs) → IsKept h (first ++ take n gs) c → IsFairPast h (first ++ gs) p → IsUntornBy h p c → RestoresTo first gs n c
front_of h first gs n p c header generation le legal kept fair untorn =
    let whole : (first ++ take n gs) ++ drop n gs ≡ first ++ gs = append_assoc first (take n gs) (drop n gs) ∙ ap (λ (l : List Group). first ++ l) (take-append-drop n gs) in
    let r = fair_restores h (first ++ take n gs) (drop n gs) (2 ^ 64) p c header generation (subst (λ (l : List Group). AreGroups 0 (2 ^ 64) l) (sym whole) legal) (omega arith) kept
    (subst (λ (l : List Group). IsFairPast h l p) (sym whole) fair) untorn in
    let len : length (take n gs) ≡ n = omega (arith, length-take n gs) in
    record {
      count = n + r.0;
      least = omega arith;
      most = omega (arith, r.1, length-drop n gs, le);
      front = r.2 ∙ append_assoc first (take n gs) (take r.0 (drop n gs)) ∙ ap (λ (l : List Group). first ++ l) (take_both n r.0 gs le);
    }

-- what restores to a front of some groups restores to a front of them and more
restores_more : (first since more : List Group) (n : ℕ) (c : List ℕ) → RestoresTo first since n c → RestoresTo first (since ++ more) n c
restores_more first since more n c r = record {
  count = r.count;
  least = r.least;
  most = omega (arith, r.most, length-append since more);
  front = r.front ∙ ap (λ (l : List Group). first ++ l) (sym (take-append-le r.count since more r.most));
}

-- what kept so many groups kept fewer of them
pub kept_front : (h : StaticHead) (first since : List Group) (m n : ℕ) (c : List ℕ) → m ≤ n → n ≤ length since → IsKept h (first ++ take n since) c → IsKept h (first ++ take m since) c
kept_front h first since m n c le within kept =
    let rest : List Group = take (n - m) (drop m since) in
    let sum : n ≡ m + (n - m) = omega (arith, le) in
    let front : take n since ≡ take m since ++ rest = ap (λ (k : ℕ). take k since) sum ∙ sym (take_both m (n - m) since (omega (arith, le, within))) in
    kept_less h (first ++ take m since) rest c (subst (λ (l : List Group). IsKept h l c) (ap (λ (l : List Group). first ++ l) front ∙ sym (append_assoc first (take m since) rest)) kept)

-- the same with more behind them
less_kept : (o : Option (List ℕ)) (left : List ℕ → Type 0) (h : StaticHead) (first since more : List Group) (m n : ℕ) → m ≤ n → n ≤ length since → IfSome o (λ f. (c : List ℕ) → left c → IsKept h (first ++ take n since) c)
    → IfSome o (λ f. (c : List ℕ) → left c → IsKept h (first ++ take m (since ++ more)) c)
less_kept o left h first since more m n le within kept = IfSome_then o kept (λ f kept c l.
    subst (λ (gs : List Group). IsKept h (first ++ gs) c) (sym (take-append-le m since more (omega (arith, le, within)))) (kept_front h first since m n c le within (kept c l)))

-- images that kept the groups restore to them, where they are untorn by fair pasts
pub fair_each : (o : Option (List ℕ)) (left : List ℕ → Type 0) (with : Past × List ℕ → Type 0) (h : StaticHead) (first since : List Group) (n : ℕ) → is_static h ≡ true → h.generation < 2 ^ 64 → n ≤ length since → AreGroups 0 (2 ^ 64) (first ++ since)
    → ((x : Past × List ℕ) → with x → left x.1) → IfSome o (λ f. (c : List ℕ) → left c → IsKept h (first ++ take n since) c) → IfSome o (λ f. (x : Past × List ℕ) → with x → IsFairPast h (first ++ since) x.0)
    → IfSome o (λ f. (x : Past × List ℕ) → with x → IsUntornBy h x.0 x.1 → RestoresTo first since n x.1)
fair_each None left with h first since n header generation within legal back kept fair = tt
fair_each (Some f) left with h first since n header generation within legal back kept fair = λ x l untorn. front_of h first since n x.0 x.1 header generation within legal (kept x.1 (back x l)) (fair x l) untorn

less_each : (o : Option (List ℕ)) (with : Past × List ℕ → Type 0) (h : StaticHead) (first since more : List Group) (m n : ℕ) → m ≤ n → IfSome o (λ f. (x : Past × List ℕ) → with x → IsUntornBy h x.0 x.1 → RestoresTo first since n x.1)
    → IfSome o (λ f. (x : Past × List ℕ) → with x → IsUntornBy h x.0 x.1 → RestoresTo first (since ++ more) m x.1)
less_each o with h first since more m n le each = IfSome_then o each (λ f each x l u. weaker first (since ++ more) m n x.1 le (restores_more first since more n x.1 (each x l u)))

more_fair : (o : Option (List ℕ)) (with : Past × List ℕ → Type 0) (h : StaticHead) (first since more : List Group) → IfSome o (λ f. (x : Past × List ℕ) → with x → IsFairPast h (first ++ since) x.0)
    → IfSome o (λ f. (x : Past × List ℕ) → with x → IsFairPast h (first ++ (since ++ more)) x.0)
more_fair o with h first since more fair =
    IfSome_then o fair (λ f fair x l. subst (λ (gs : List Group). IsFairPast h gs x.0) (append_assoc first since more) (fair_more h (first ++ since) more x.0 (fair x l)))

module _ {D : Type 0} (image : D → Option (List ℕ)) where
  module _ (may_leave : D → List ℕ → Type 0) (past : D → Past) where
    module _ (s : HashStore D) (first : First) (since : List Group) (hard : ℕ) (st : HashStands image may_leave past s first since hard) where
      pub all_legal : AreGroups 0 (floor_of s.next s.last) (st.groups ++ since)
      all_legal = groups_joined 0 s.next (floor_of s.next s.last) st.groups since st.legal st.later

      pub is_file : IfSome (image (log_disk s.log)) (λ f. IsFile (log_head s.log) f (st.groups ++ since))
      is_file = IfSome_then (image (log_disk s.log)) st.there (λ f there. file_of (log_head s.log) s.closing (st.groups ++ since) (floor_of s.next s.last) (log_end s.log) f st.header st.generation all_legal st.top st.end_is st.end_fits there)

      pub records_are : replay Hash (st.groups ++ since) [] ≡ replay Hash since first.records
      records_are = replay-append Hash st.groups since [] ∙ ap (λ (m : List Pair). replay Hash since m) (sym st.records_first)

      pub kept_held : s.writable ≡ true → IfSome (image (log_disk s.log)) (λ f. (c : List ℕ) → may_leave (log_disk s.log) c → IsKept (log_head s.log) (groups_held first.held ++ take hard since) c)
      kept_held may = subst (λ (gs : List Group). IfSome (image (log_disk s.log)) (λ f. (c : List ℕ) → may_leave (log_disk s.log) c → IsKept (log_head s.log) (gs ++ take hard since) c)) (sym (ap groups_held st.held)) (st.kept may)

      pub fair_held : s.writable ≡ true → IfSome (image (log_disk s.log)) (λ f. IsFairPast (log_head s.log) (groups_held first.held ++ since) (past (log_disk s.log)))
      fair_held may = subst (λ (gs : List Group). IfSome (image (log_disk s.log)) (λ f. IsFairPast (log_head s.log) (gs ++ since) (past (log_disk s.log)))) (sym (ap groups_held st.held)) (st.fair may)

      pub legal_held : AreGroups 0 (2 ^ 64) (groups_held first.held ++ since)
      legal_held = subst (λ (gs : List Group). AreGroups 0 (2 ^ 64) (gs ++ since)) (sym (ap groups_held st.held)) (groups_upto 0 (floor_of s.next s.last) (2 ^ 64) (st.groups ++ since) all_legal st.top)

    pub hash_replays : (s : HashStore D) (first : First) (since : List Group) (hard : ℕ) → HashStands image may_leave past s first since hard → IfSome (map_in image s) (λ m. m ≡ replay Hash since first.records)
    hash_replays s first since hard st = mapped (image (log_disk s.log)) (λ f. replay Hash (groups_in (log_head s.log) f) []) (λ m. m ≡ replay Hash since first.records)
        (IfSome_then (image (log_disk s.log)) (is_file s first since hard st) (λ f file. ap (λ (gs : List Group). replay Hash gs []) (reads_back (log_head s.log) f (st.groups ++ since) file) ∙ records_are s first since hard st))

    pub hash_rising : (s : HashStore D) (first : First) (since : List Group) (hard : ℕ) → HashStands image may_leave past s first since hard → Rising Hash first.records
    hash_rising s first since hard st = subst (λ (m : List Pair). Rising Hash m) (sym st.records_first) (replay_rising Hash st.groups [] tt)

    pub hash_held : (s : HashStore D) (first : First) (since : List Group) (hard : ℕ) → HashStands image may_leave past s first since hard → IfSome (map_in image s) AllHeld
    hash_held s first since hard st = IfSome_then (map_in image s) (hash_replays s first since hard st)
        (λ m is. subst AllHeld (sym (is ∙ sym (records_are s first since hard st))) (replay_held Hash 0 (floor_of s.next s.last) (st.groups ++ since) [] (all_legal s first since hard st) tt))

    module _ (moment : D → ℕ) (left_since : D → ℕ → List ℕ → Type 0) (left_with : D → ℕ → Past × List ℕ → Type 0) where
      pub hash_stood_now : ((d : D) (c : List ℕ) → left_since d (moment d) c → may_leave d c) → ((d : D) (x : Past × List ℕ) → left_with d (moment d) x → (x.0 ≡ past d) × may_leave d x.1)
          → ((d : D) (t : ℕ) (x : Past × List ℕ) → left_with d t x → left_since d t x.1) → (s : HashStore D) (first : First) (since : List Group) (hard : ℕ) → HashStands image may_leave past s first since hard
          → HashKeptSince image may_leave past moment left_since left_with s (moment (log_disk s.log)) hard first since hard
      hash_stood_now only with back s first since hard st =
          let kept : s.writable ≡ true → IfSome (image (log_disk s.log)) (λ f. (c : List ℕ) → left_since (log_disk s.log) (moment (log_disk s.log)) c → IsKept (log_head s.log) (groups_held first.held ++ take hard since) c) = λ may.
          IfSome_then (image (log_disk s.log)) (kept_held s first since hard st may) (λ f kept c left. kept c (only (log_disk s.log) c left)) in
          let fair : s.writable ≡ true → IfSome (image (log_disk s.log)) (λ f. (x : Past × List ℕ) → left_with (log_disk s.log) (moment (log_disk s.log)) x → IsFairPast (log_head s.log) (groups_held first.held ++ since) x.0) = λ may.
          IfSome_then (image (log_disk s.log)) (fair_held s first since hard st may) (λ f fair x left. subst (λ (p : Past). IsFairPast (log_head s.log) (groups_held first.held ++ since) p) (sym (with (log_disk s.log) x left).0) fair) in
          record {
            stands = st;
            safe = record {
              within = st.synced;
              each = λ may. fair_each (image (log_disk s.log)) (left_since (log_disk s.log) (moment (log_disk s.log))) (left_with (log_disk s.log) (moment (log_disk s.log))) (log_head s.log) (groups_held first.held) since hard st.header st.generation st.synced
                  (legal_held s first since hard st) (back (log_disk s.log) (moment (log_disk s.log))) (kept may) (fair may);
              fair = fair;
              kept = kept;
            };
            least = omega arith;
            before = omega arith;
          }

  module _ (left_since : D → ℕ → List ℕ → Type 0) (left_with : D → ℕ → Past × List ℕ → Type 0) where
    pub hash_safe_less : (s : HashStore D) (t : ℕ) (first : First) (since more : List Group) (m n : ℕ) → m ≤ n → HashSafe image left_since left_with s t first since n → HashSafe image left_since left_with s t first (since ++ more) m
    hash_safe_less s t first since more m n le safe = record {
      within = omega (arith, le, safe.within, length-append since more);
      each = λ may. less_each (image (log_disk s.log)) (left_with (log_disk s.log) t) (log_head s.log) (groups_held first.held) since more m n le (safe.each may);
      fair = λ may. more_fair (image (log_disk s.log)) (left_with (log_disk s.log) t) (log_head s.log) (groups_held first.held) since more (safe.fair may);
      kept = λ may. less_kept (image (log_disk s.log)) (left_since (log_disk s.log) t) (log_head s.log) (groups_held first.held) since more m n le safe.within (safe.kept may);
    }

    pub hash_same_safe : (s : HashStore D) (t : ℕ) (first : First) (since : List Group) (m n : ℕ) → m ≤ n → HashSafe image left_since left_with s t first since n → HashSafe image left_since left_with s t first since m
    hash_same_safe s t first since m n le safe = subst (λ (l : List Group). HashSafe image left_since left_with s t first l m) (append-nil since) (hash_safe_less s t first since [] m n le safe)

    pub hash_stood_less : (may_leave : D → List ℕ → Type 0) (past : D → Past) (moment : D → ℕ) (s : HashStore D) (t m n : ℕ) (first : First) (since : List Group) (hard : ℕ) → m ≤ n → HashKeptSince image may_leave past moment left_since left_with s t n first since hard
        → HashKeptSince image may_leave past moment left_since left_with s t m first since hard
    hash_stood_less may_leave past moment s t m n first since hard le st = record {
      stands = st.stands;
      safe = hash_same_safe s t first since m n le st.safe;
      least = omega (arith, le, st.least);
      before = st.before;
    }

  pub hash_by_extents : (s : HashStore D) (v : ℕ) (changes : List Change) → (hash_constants s).extents ≡ Some v → (hash_view image s).needs changes ≡ Some (extents_need (hash_constants s) v changes)
  hash_by_extents s v changes is = let one : 1 ≡ v = cc in ap (λ (n : ℕ). Some (extents_need (hash_constants s) n changes)) one

  pub hash_unended : (s : HashStore D) → (hash_view image s).closed ≡ false → (hash_view image s).ended ≡ None
  hash_unended s unclosed = rw unclosed refl

  chosen : (b : Bool) (o : Option ℕ) (n : ℕ) → (if b then o else None) ≡ Some n → o ≡ Some n
  chosen true o n is = is
  chosen false o n is = absurd (cc)

  sized : (b : Bool) (m n : ℕ) → (if b then None else Some m) ≡ Some n → m ≡ n
  sized true m n is = absurd (cc)
  sized false m n is = cc

  -- a store that was ended with a number has it in the closing part that stands in the file
  pub hash_ended : (may_leave : D → List ℕ → Type 0) (past : D → Past) (s : HashStore D) (first : First) (since : List Group) (hard n : ℕ) → HashStands image may_leave past s first since hard → (hash_view image s).ended ≡ Some n
      → IfSome (image (hash_disk s)) (λ f. (c : Closing) × (c.next ≡ n) × (f ≡ text_of (log_head s.log) c (groups_held first.held ++ since)))
  hash_ended may_leave past s first since hard n st ended =
      let next : s.closing.next ≡ n = sized (s.closing.size == 0) s.closing.next n (chosen (s.closed && s.writable) (ended_with s.closing) n ended) in
      IfSome_then (image (log_disk s.log)) st.there (λ f there. (s.closing, next, subst (λ (gs : List Group). f ≡ text_of (log_head s.log) s.closing (gs ++ since)) (sym (ap groups_held st.held)) there))

pub hash_values : {D : Type 0} (s : HashStore D) → (16777215 ≤ (hash_constants s).longest_value) × ((hash_constants s).longest_value ≤ 33554431)
hash_values s = (omega arith, omega arith)

module _ {D : Type 0} (image : D → Option (List ℕ)) (may_leave : D → List ℕ → Type 0) (past : D → Past) (moment : D → ℕ) (left_since : D → ℕ → List ℕ → Type 0) (left_with : D → ℕ → Past × List ℕ → Type 0) where
  pub hash_untouched_same : (s : HashStore D) → HashUntouched image may_leave past moment left_since left_with s s
  hash_untouched_same s = record { same = refl; still = nothing_read may_leave moment left_since past left_with (hash_disk s) }

  pub hash_untouched_then : ((disk : D) (t : ℕ) (c : List ℕ) → t ≤ moment disk → may_leave disk c → left_since disk t c)
      → ((disk : D) (t : ℕ) (c : List ℕ) → t ≤ moment disk → may_leave disk c → left_with disk t (past disk, c)) → (a b c : HashStore D)
      → HashUntouched image may_leave past moment left_since left_with a b → HashUntouched image may_leave past moment left_since left_with b c → HashUntouched image may_leave past moment left_since left_with a c
  hash_untouched_then counts_now counts_with a b c first second = record {
    same = second.same ∙ first.same;
    still = reads_joined may_leave moment left_since past left_with counts_now counts_with (hash_disk a) (hash_disk b) (hash_disk c) first.still second.still;
  }
