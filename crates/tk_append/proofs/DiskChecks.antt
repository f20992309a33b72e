-- The check of a whole file, from the parts that were read of it.
use Rattle.std.proofs.Common.{◌≡◌, ℕ, ◌+◌, ◌<◌, ◌≤◌, List, ◌++◌, length, get_or, drop, refl, sym, ◌∙◌, ap, subst, arith, append_assoc}
use Rattle.std.specs.Prelude.{Bool, Option, Some, None, IfSome, Result, Ok, Err, OnOk, IfErr}
use Rattle.std.specs.Result.{IsErrAnd}
use Rattle.std.specs.Io.{StartsWith}
use Rattle.std.proofs.lemmas.List.{drop_at, take_all, length-append, length-drop}
use Rattle.tk_model.specs.declared.record.ShardOf.{ShardOf}
use Rattle.tk_model.specs.declared.error.OpenError.{OpenError}
use Rattle.tk_model.specs.declared.error.OpenError.TheVariants.{NotADatabase, BrokenAt, Fault, NoMemory}
use Rattle.tk_block.specs.Text.{base_of, closing_at}
use Rattle.tk_block.specs.declared.head.StaticHead.{StaticHead}
use Rattle.tk_block.specs.declared.closing.Closing.{Closing}
use Rattle.tk_append.specs.Chains.{HeadsAre}
use Rattle.tk_append.specs.Opening.{Walk, Outcome, FailsAt, Ends, walk, first_fault, closing_fault, end_fault}
use Rattle.tk_append.specs.Log.{TellsCause}
use Rattle.tk_append.specs.Read.{IsClosedOn, TellsResult}
use Rattle.tk_append.specs.Walked.{Shows, WalkedAll, WalkFails}
use Rattle.tk_append.specs.Checked.{Finds, FindsCause, HeadIn, IsFront, IsFound, HasHeads, HeadFails}
use Rattle.tk_append.specs.declared.check.Found.{Found}
use Rattle.tk_append.specs.declared.walker.Walker.{Walker}
use Rattle.tk_append.proofs.Windows.{starts, shows_both}
use Rattle.tk_append.proofs.Scans.{small_both}
use Rattle.tk_append.proofs.Checked.{to_the_end, end_told, short_file}
use Rattle.tk_append.proofs.ClosedFiles.{closed_is, closed_blocks}

if_some : (o : Option (List ℕ)) (P Q : List ℕ → Type 0) → IfSome o P → ((f : List ℕ) → P f → Q f) → IfSome o Q
if_some None P Q holds more = tt
if_some (Some f) P Q holds more = more f holds

if_both : (o : Option (List ℕ)) (P Q R : List ℕ → Type 0) → IfSome o P → IfSome o Q → ((f : List ℕ) → P f → Q f → R f) → IfSome o R
if_both None P Q R p q more = tt
if_both (Some f) P Q R p q more = more f p q

-- ---- behind the blocks

pub has_heads : {T : Type 0} (r : Result T OpenError) (image : Option (List ℕ)) (h : StaticHead) (w : Walk) (c : Closing) (writable : Bool) (heads : List ℕ) → 64 + length heads ≡ base_of h.p → Shows image 64 heads → ((i : ℕ) → get_or heads i 0 < 256)
    → w.open_group ≡ None → ((f : List ℕ) → StartsWith (drop 64 f) heads → Finds r (end_fault writable h c f (Ends w))) → OnOk r (HasHeads image h w c writable)
has_heads (Err e) image h w c writable heads len shown small whole ends = tt
has_heads (Ok x) image h w c writable heads len shown small whole ends = record { heads = heads; len = len; shown = shown; small = small; whole = whole; ends = ends }

pub tells : (e : OpenError) (fault : Option OpenError) → FindsCause e fault → TellsCause e fault
tells NotADatabase fault is = is
tells (BrokenAt q) fault is = is
tells Fault fault is = absurd is
tells NoMemory fault is = tt

err_tells : {T : Type 0} (r : Result T OpenError) (fault : Option OpenError) → Finds r fault → IfErr r (λ e. TellsCause e fault)
err_tells (Ok x) fault is = tt
err_tells (Err e) fault is = tells e fault is

pub heads_fail : {T : Type 0} (r : Result T OpenError) (image : Option (List ℕ)) (h : StaticHead) (w : Walk) (c : Closing) (writable : Bool) (heads : List ℕ) (least : ℕ) → Shows image 64 heads
    → ((f : List ℕ) → StartsWith (drop 64 f) heads → Finds r (end_fault writable h c f (Ends w))) → IfSome image (λ f. least ≤ length f → IfErr r (λ e. TellsCause e (end_fault writable h c f (Ends w))))
heads_fail r image h w c writable heads least shown ends =
    if_some image (λ f. StartsWith (drop 64 f) heads) (λ f. least ≤ length f → IfErr r (λ e. TellsCause e (end_fault writable h c f (Ends w)))) shown
    (λ f is long. err_tells r (end_fault writable h c f (Ends w)) (ends f is))

pub head_cause : (image : Option (List ℕ)) (h : StaticHead) (w : Walk) (c : Closing) (writable : Bool) (heads : List ℕ) (place least : ℕ) → HeadFails image heads place → HeadsAre h.p heads w.blocks → w.open_group ≡ None
    → IfSome image (λ f. least ≤ length f → end_fault writable h c f (Ends w) ≡ Some (BrokenAt place))
head_cause None h w c writable heads place least fails are whole = tt
head_cause (Some f) h w c writable heads place least fails are whole = λ long. end_told writable h c f w (Some place) whole (sym (fails h.p w.blocks are))

-- ---- the parts together

module _ (image : Option (List ℕ)) (kinds : List ℕ) (writable : Bool) (shard : ShardOf) (found : Found) where
  -- behind the header
  first_behind : (fr : IsFront image kinds found) (f : List ℕ) (o : Outcome) → StartsWith f fr.front → length f ≡ found.closing.size → walk found.head shard f ≡ o → end_fault writable found.head found.closing f o ≡ first_fault kinds writable shard f
  first_behind fr f o is long ends = to_the_end kinds f writable shard found.head found.closing o (fr.head f is) (fr.closing f is long) ends

  walk_tells : (fr : IsFront image kinds found) (f : List ℕ) (e : OpenError) → StartsWith f fr.front → length f ≡ found.closing.size → WalkFails found.head shard f e → TellsCause e (first_fault kinds writable shard f)
  walk_tells fr f (BrokenAt q) is long fails = sym (first_behind fr f (FailsAt q) is long fails)
  walk_tells fr f NotADatabase is long fails = absurd fails
  walk_tells fr f Fault is long fails = tt
  walk_tells fr f NoMemory is long fails = tt

  -- a walk that fails
  pub walk_cause : (fr : IsFront image kinds found) (e : OpenError) → IfSome image (λ f. length f ≡ found.closing.size → WalkFails found.head shard f e) → IfSome image (λ f. TellsCause e (first_fault kinds writable shard f))
  walk_cause fr e fails =
      if_both image (λ f. StartsWith f fr.front) (λ f. (length f ≡ found.closing.size) × (length f ≡ found.closing.size → WalkFails found.head shard f e)) (λ f. TellsCause e (first_fault kinds writable shard f)) fr.shown
      (if_both image (λ f. length f ≡ found.closing.size) (λ f. length f ≡ found.closing.size → WalkFails found.head shard f e) (λ f. (length f ≡ found.closing.size) × (length f ≡ found.closing.size → WalkFails found.head shard f e)) fr.size fails (λ f a b. (a, b)))
      (λ f is both. walk_tells fr f e is both.0 (both.1 both.0))

module _ (image : Option (List ℕ)) (kinds : List ℕ) (writable : Bool) (shard : ShardOf) (found : Found) (walker : Walker) where
  abbrev whole_of : (front heads blocks : List ℕ) → List ℕ
  whole_of front heads blocks = front ++ (heads ++ blocks)

  behind_front : (fr : IsFront image kinds found) (heads blocks : List ℕ) → drop 64 (whole_of fr.front heads blocks) ≡ heads ++ blocks
  behind_front fr heads blocks = drop_at fr.front (heads ++ blocks) 64 fr.len

  behind_heads : (fr : IsFront image kinds found) (heads blocks : List ℕ) (base : ℕ) → 64 + length heads ≡ base → drop base (whole_of fr.front heads blocks) ≡ blocks
  behind_heads fr heads blocks base is =
      ap (λ (l : List ℕ). drop base l) (sym (append_assoc fr.front heads blocks)) ∙ drop_at (fr.front ++ heads) blocks base (omega (arith, length-append fr.front heads, fr.len, is))

  length_whole : (fr : IsFront image kinds found) (heads blocks : List ℕ) (base : ℕ) → 64 + length heads ≡ base → base + length blocks ≡ found.closing.size → length (whole_of fr.front heads blocks) ≡ found.closing.size
  length_whole fr heads blocks base is all = omega (arith, length-append fr.front (heads ++ blocks), length-append heads blocks, fr.len, is, all)

  -- nothing fails in what was read
  sound_bytes : (fr : IsFront image kinds found) (all : WalkedAll image found.head shard found.closing.size walker) (e : HasHeads image found.head all.w found.closing writable)
      → first_fault kinds writable shard (whole_of fr.front e.heads all.blocks) ≡ None
  sound_bytes fr all e =
      let f = whole_of fr.front e.heads all.blocks in
      let front : StartsWith f fr.front = starts f fr.front (e.heads ++ all.blocks) refl in
      let size = length_whole fr e.heads all.blocks (base_of found.head.p) e.len all.whole in
      sym (to_the_end kinds f writable shard found.head found.closing (Ends all.w) (fr.head f front) (fr.closing f front size) (all.ends f (behind_heads fr e.heads all.blocks (base_of found.head.p) e.len)))
      ∙ e.ends f (starts (drop 64 f) e.heads all.blocks (behind_front fr e.heads all.blocks))

  -- which is what the disk has
  told_bytes : (fr : IsFront image kinds found) (all : WalkedAll image found.head shard found.closing.size walker) (e : HasHeads image found.head all.w found.closing writable)
      → IfSome image (λ f. f ≡ whole_of fr.front e.heads all.blocks)
  told_bytes fr all e =
      let bytes = whole_of fr.front e.heads all.blocks in
      if_both image (λ f. StartsWith f bytes) (λ f. length f ≡ found.closing.size) (λ f. f ≡ bytes)
      (shows_both image 0 64 fr.front (e.heads ++ all.blocks) (omega (arith, fr.len)) fr.shown
      (shows_both image 64 (base_of found.head.p) e.heads all.blocks (omega (arith, e.len)) e.shown all.shown))
      fr.size
      (λ f is long.
      sym (take_all (length bytes) f (omega (arith, long, length_whole fr e.heads all.blocks (base_of found.head.p) e.len all.whole))) ∙ is)

  pub closed_on : (heads : List ℕ) (fr : IsFront image kinds found) (all : WalkedAll image found.head shard found.closing.size walker) → HasHeads image found.head all.w found.closing writable → HeadsAre found.head.p heads all.w.blocks
      → IsClosedOn image kinds writable shard found heads
  closed_on heads fr all e newest =
      let f = whole_of fr.front e.heads all.blocks in
      let front : StartsWith f fr.front = starts f fr.front (e.heads ++ all.blocks) refl in
      let size = length_whole fr e.heads all.blocks (base_of found.head.p) e.len all.whole in
      let small = small_both fr.front (e.heads ++ all.blocks) fr.small (small_both e.heads all.blocks e.small all.small) in
      let is : IsFound shard f found = record {
        head = (fr.head f front).head;
        closing = (fr.closing f front size).closing;
        w = all.w;
        ends = all.ends f (behind_heads fr e.heads all.blocks (base_of found.head.p) e.len);
        whole = e.whole;
      } in
      record {
        bytes = f;
        closed = closed_is kinds writable shard f found small (sound_bytes fr all e) is;
        heads_are = subst (HeadsAre found.head.p heads) (closed_blocks kinds writable shard f found small (sound_bytes fr all e) is) newest;
        told = told_bytes fr all e;
      }

  pub none_fails : (fr : IsFront image kinds found) (all : WalkedAll image found.head shard found.closing.size walker) → HasHeads image found.head all.w found.closing writable → IfSome image (λ f. first_fault kinds writable shard f ≡ None)
  none_fails fr all e =
      if_some image (λ f. f ≡ whole_of fr.front e.heads all.blocks) (λ f. first_fault kinds writable shard f ≡ None) (told_bytes fr all e)
      (λ f is. ap (λ (l : List ℕ). first_fault kinds writable shard l) is ∙ sound_bytes fr all e)

  blocks_there : (all : WalkedAll image found.head shard found.closing.size walker) (f : List ℕ) → StartsWith (drop (base_of found.head.p) f) all.blocks → length f ≡ found.closing.size → drop (base_of found.head.p) f ≡ all.blocks
  blocks_there all f is long =
      sym (take_all (length all.blocks) (drop (base_of found.head.p) f) (omega (arith, long, all.whole, length-drop (base_of found.head.p) f))) ∙ is

  -- an end that fails
  pub end_cause : (fr : IsFront image kinds found) (all : WalkedAll image found.head shard found.closing.size walker) (e : OpenError) (least : ℕ) → least ≤ found.closing.size
      → IfSome image (λ f. least ≤ length f → TellsCause e (end_fault writable found.head found.closing f (Ends all.w))) → IfSome image (λ f. TellsCause e (first_fault kinds writable shard f))
  end_cause fr all e least low fails =
      if_both image (λ f. StartsWith f fr.front × (length f ≡ found.closing.size)) (λ f. StartsWith (drop (base_of found.head.p) f) all.blocks × (least ≤ length f → TellsCause e (end_fault writable found.head found.closing f (Ends all.w)))) (λ f. TellsCause e (first_fault kinds writable shard f))
      (if_both image (λ f. StartsWith f fr.front) (λ f. length f ≡ found.closing.size) (λ f. StartsWith f fr.front × (length f ≡ found.closing.size)) fr.shown fr.size (λ f a b. (a, b)))
      (if_both image (λ f. StartsWith (drop (base_of found.head.p) f) all.blocks) (λ f. least ≤ length f → TellsCause e (end_fault writable found.head found.closing f (Ends all.w))) (λ f. StartsWith (drop (base_of found.head.p) f) all.blocks × (least ≤ length f → TellsCause e (end_fault writable found.head found.closing f (Ends all.w)))) all.shown fails (λ f a b. (a, b)))
      (λ f a b.
      subst (λ (x : Option OpenError). TellsCause e x) (first_behind image kinds writable shard found fr f (Ends all.w) a.0 a.1 (all.ends f (blocks_there all f b.0 a.1))) (b.1 (omega (arith, low, a.1))))

-- an error that is handed on
pub tells_on : {T : Type 0} (r : Result T OpenError) (e : OpenError) (P : List ℕ → Option OpenError) (image : Option (List ℕ)) → IsErrAnd r (λ x. x ≡ e) → IfSome image (λ f. TellsCause e (P f)) → IfSome image (λ f. TellsResult r (P f))
tells_on (Ok x) e P None is holds = tt
tells_on (Ok x) e P (Some f) is holds = absurd is
tells_on (Err y) e P None is holds = tt
tells_on (Err y) e P (Some f) is holds = subst (λ (x : OpenError). TellsCause x (P f)) (sym is) holds

-- ---- the header

pub too_short : (image : Option (List ℕ)) (kinds : List ℕ) (size : ℕ) → IfSome image (λ f. size ≡ length f) → size < 64 → IfSome image (λ f. (writable : Bool) (shard : ShardOf) → first_fault kinds writable shard f ≡ Some NotADatabase)
too_short None kinds size is low = tt
too_short (Some f) kinds size is low = λ writable shard. short_file kinds writable shard f (omega (arith, is))

err_on : {T : Type 0} (r : Result T OpenError) (e : OpenError) (P : OpenError → Type 0) → IsErrAnd r (λ x. x ≡ e) → P e → IfErr r P
err_on (Ok x) e P is holds = tt
err_on (Err y) e P is holds = subst P (sym is) holds

pub closing_cause : {T : Type 0} (r : Result T OpenError) (image : Option (List ℕ)) (kinds front : List ℕ) (size : ℕ) (h : StaticHead) (e : OpenError) → IsErrAnd r (λ x. x ≡ e) → Shows image 0 front → IfSome image (λ f. size ≡ length f)
    → ((f : List ℕ) → StartsWith f front → HeadIn kinds f h)
    → ((writable : Bool) (g : StaticHead) (shard : ShardOf) (f : List ℕ) → StartsWith f front → length f ≡ size → g.p ≡ h.p → FindsCause e (closing_fault writable g shard f (closing_at (drop 32 f))))
    → IfSome image (λ f. (writable : Bool) (shard : ShardOf) → IfErr r (λ x. TellsCause x (first_fault kinds writable shard f)))
closing_cause r None kinds front size h e is shown long head fails = tt
closing_cause r (Some f) kinds front size h e is shown long head fails = λ writable shard.
    err_on r e (λ x. TellsCause x (first_fault kinds writable shard f)) is
    (subst (λ (o : Option OpenError). TellsCause e o) (sym ((head f shown).rest writable shard)) (tells e (closing_fault writable h shard f (closing_at (drop 32 f))) (fails writable h shard f shown (sym long) refl)))

pub sizes : (image : Option (List ℕ)) (size all : ℕ) → IfSome image (λ f. size ≡ length f) → all ≡ size → IfSome image (λ f. length f ≡ all)
sizes None size all is same = tt
sizes (Some f) size all is same = sym is ∙ sym same
