-- What a reading knows behind one block more.
use Rattle.std.proofs.Common.{◌≡◌, ℕ, ◌<◌, Bool, true, false, cond, List, [], ◌∷◌, ◌++◌, length, drop, refl, sym, ◌∙◌, ap, subst, arith}
use Rattle.std.specs.Prelude.{◌==◌, Some, None, option_map}
use Rattle.std.specs.Option.{is_some}
use Rattle.std.proofs.lemmas.List.{append-nil, drop_all}
use Rattle.tk_model.specs.declared.record.Change.{Change}
use Rattle.tk_model.specs.declared.record.Change.TheVariants.{Put, Drop, Clear}
use Rattle.tk_model.specs.declared.record.Group.{Group}
use Rattle.tk_model.specs.declared.record.Pair.{Pair}
use Rattle.tk_model.specs.declared.record.Order.TheVariants.{Hash}
use Rattle.tk_model.specs.Records.{after_one, after, replay}
use Rattle.tk_model.proofs.NetChanges.{after_append}
use Rattle.tk_block.specs.declared.block.Body.{Body}
use Rattle.tk_block.specs.Blocks.{IsSmall, key_of, value_of, body_at}
use Rattle.tk_block.specs.Layout.{Placed}
use Rattle.tk_append.specs.Opening.{Walk, walked, opened_by, change_in}
use Rattle.tk_append.specs.Walked.{as_open}
use Rattle.tk_append.specs.Restored.{complete_groups, may_be_read}
use Rattle.tk_append.specs.Reread.{left_over}
use Rattle.tk_append.proofs.Restoring.{group_of, no_body_there}
use Rattle.tk_append.proofs.Rereading.{groups_more, left_more, opened_last, opened_first, opened_on}
use Rattle.tk_restore.specs.Readings.{Knows, NotRead}
use Rattle.tk_restore.specs.declared.reading.Reading.{Reading}

-- the records that blocks' complete groups leave
abbrev pub records_of : List Placed → List Pair
records_of blocks = replay Hash (complete_groups [] blocks) []

replay_more : (gs : List Group) (g : Group) (m : List Pair) → replay Hash (gs ++ g ∷ []) m ≡ after Hash g.changes (replay Hash gs m)
replay_more [] g m = refl
replay_more (x ∷ gs) g m = replay_more gs g (after Hash x.changes m)

records_more : (t : Bool) (blocks : List Placed) (x : Placed) → x.body.last ≡ t
    → records_of (blocks ++ x ∷ []) ≡ cond t (after_one Hash (change_in x.body) (after Hash (left_over [] blocks) (records_of blocks))) (records_of blocks)
records_more t blocks x is =
    ap (λ (gs : List Group). replay Hash gs []) (groups_more [] blocks x
    ∙ ap (λ (b : Bool). complete_groups [] blocks ++ cond b (group_of x.body.number (left_over [] blocks ++ change_in x.body ∷ []) ∷ []) []) is)
    ∙ by_flag t
  where
    by_flag : (b : Bool) → replay Hash (complete_groups [] blocks ++ cond b (group_of x.body.number (left_over [] blocks ++ change_in x.body ∷ []) ∷ []) []) []
        ≡ cond b (after_one Hash (change_in x.body) (after Hash (left_over [] blocks) (records_of blocks))) (records_of blocks)
    by_flag true =
        replay_more (complete_groups [] blocks) (group_of x.body.number (left_over [] blocks ++ change_in x.body ∷ [])) []
        ∙ after_append Hash (left_over [] blocks) (change_in x.body ∷ []) (records_of blocks)
    by_flag false = ap (λ (gs : List Group). replay Hash gs []) (append-nil (complete_groups [] blocks))

-- a block that ends its group
pub knows_ended : (old new : Reading) (w : Walk) (x : Placed) (change : Change) → Knows old w → x.body.last ≡ true → change ≡ change_in x.body
    → new.records.live ≡ after_one Hash change (after Hash old.records.begun old.records.live) → new.records.begun ≡ [] → new.before ≡ Some x.body.number → new.open_group ≡ None → Knows new (walked w x)
knows_ended old new w x change knows last is records begun before open_group = record {
  records =
      records
      ∙ ap (λ (c : Change). after_one Hash c (after Hash old.records.begun old.records.live)) is
      ∙ ap (λ (l : List Change). after_one Hash (change_in x.body) (after Hash l old.records.live)) knows.begun
      ∙ ap (λ (m : List Pair). after_one Hash (change_in x.body) (after Hash (left_over [] w.blocks) m)) knows.records
      ∙ sym (records_more true w.blocks x last);
  begun = begun ∙ ap (λ (t : Bool). cond t [] (left_over [] w.blocks ++ change_in x.body ∷ [])) (sym last) ∙ sym (left_more [] w.blocks x);
  least = rw (last, before) refl;
  open_group = open_group ∙ ap (option_map as_open) (sym (opened_last w.open_group x last));
}

-- a block that doesn't
knows_more : (old new : Reading) (w : Walk) (x : Placed) (change : Change) → Knows old w → x.body.last ≡ false → change ≡ change_in x.body → new.records.begun ≡ old.records.begun ++ change ∷ [] → new.records.live ≡ old.records.live → new.before ≡ old.before
    → new.open_group ≡ option_map as_open (opened_by w.open_group x) → Knows new (walked w x)
knows_more old new w x change knows more is begun records before open_group = record {
  records = records ∙ knows.records ∙ sym (records_more false w.blocks x more);
  begun =
      begun ∙ ap (λ (c : Change). old.records.begun ++ c ∷ []) is ∙ ap (λ (l : List Change). l ++ change_in x.body ∷ []) knows.begun
      ∙ ap (λ (t : Bool). cond t [] (left_over [] w.blocks ++ change_in x.body ∷ [])) (sym more)
      ∙ sym (left_more [] w.blocks x);
  least = rw (more, before) knows.least;
  open_group = open_group;
}

-- the first block of a group
pub knows_first : (old new : Reading) (w : Walk) (x : Placed) (change : Change) → Knows old w → x.body.last ≡ false → change ≡ change_in x.body → new.records.begun ≡ old.records.begun ++ change ∷ [] → new.records.live ≡ old.records.live → new.before ≡ old.before
    → is_some old.open_group ≡ false → new.open_group ≡ Some (as_open x) → Knows new (walked w x)
knows_first old new w x change knows more is begun records before none open_group =
    knows_more old new w x change knows more is begun records before (open_group ∙ opened_first w.open_group x more (ap is_some (sym knows.open_group) ∙ none))

-- another block of a group
pub knows_on : (old new : Reading) (w : Walk) (x : Placed) (change : Change) → Knows old w → x.body.last ≡ false → change ≡ change_in x.body → new.records.begun ≡ old.records.begun ++ change ∷ [] → new.records.live ≡ old.records.live → new.before ≡ old.before
    → is_some old.open_group ≡ true → new.open_group ≡ old.open_group → Knows new (walked w x)
knows_on old new w x change knows more is begun records before some open_group =
    knows_more old new w x change knows more is begun records before (open_group ∙ knows.open_group ∙ opened_on w.open_group x more (ap is_some (sym knows.open_group) ∙ some))

small_by : (s t : Bool) (b : Body) → IsSmall b.key b.value
    → IsSmall (key_of (cond s (Put (record { key = b.key; value = b.value })) (cond t (Drop b.key) Clear))) (value_of (cond s (Put (record { key = b.key; value = b.value })) (cond t (Drop b.key) Clear)))
small_by true t b small = small
small_by false true b small = record { key_fits = small.key_fits; value_fits = omega arith }
small_by false false b small = record { key_fits = omega arith; value_fits = omega arith }

-- what a block does is within its limits
pub change_small : (b : Body) (c : Change) → c ≡ change_in b → IsSmall b.key b.value → IsSmall (key_of c) (value_of c)
change_small b c is small = subst (λ (d : Change). IsSmall (key_of d) (value_of d)) (sym is) (small_by (b.kind == 1) (b.kind == 2) b small)

-- no body is there
pub none_not : (w : Walk) (place e : ℕ) (bytes : List ℕ) → body_at (drop 24 bytes) place ≡ None → NotRead w place e bytes
none_not w place e bytes none b is = absurd (let no : Some b ≡ None = sym is ∙ none in cc)

pub short_not : (w : Walk) (place e : ℕ) (bytes : List ℕ) → length bytes < 24 → NotRead w place e bytes
short_not w place e bytes short = none_not w place e bytes (ap (λ (l : List ℕ). body_at l place) (drop_all 24 bytes (omega arith)) ∙ no_body_there place)

-- another block than one that may be read is there
pub other_not : (w : Walk) (place e : ℕ) (bytes : List ℕ) (b : Body) → body_at (drop 24 bytes) place ≡ Some b → may_be_read w e b ≡ false → NotRead w place e bytes
other_not w place e bytes b is may c there =
    let one : Some b ≡ Some c = sym is ∙ there in
    let same : b ≡ c = cc in
    subst (λ (d : Body). may_be_read w e d ≡ false) same may
