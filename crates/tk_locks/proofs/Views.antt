-- What passes learn from steps that follow one another.
use Rattle.std.proofs.Common.{◌≡◌, ◌||◌, ◌<◌, ◌≤◌, not, ℕ, Bool, true, false, cond, List, [], ◌∷◌, Option, Some, MatchOption, is_some, refl, sym, ap, ◌∙◌, subst}
use Rattle.atomic_table.specs.Table.{Me, rest}
use Rattle.tk_model.specs.declared.record.Pair.{Pair}
use Rattle.tk_model.specs.declared.record.Group.{Group}
use Rattle.tk_model.specs.declared.record.Entry.{Entry}
use Rattle.tk_core.specs.declared.frame.Frame.{Frame}
use Rattle.tk_core.specs.Caller.{Caller, knows_broken}
use Rattle.tk_core.specs.Covers.{store_lock}
use Rattle.tk_core.specs.Lists.{has}
use Rattle.tk_core.specs.Moves.{missed, took_stripe, took_store, took_out, put_back, gave_store, gave_stripe}
use Rattle.tk_core.specs.Needs.{MayTakeOut, MayGiveStore}
use Rattle.tk_core.proofs.Facts.{by_bool, false_unless, has_head, hasnt_without, has_without, has_other}
use Rattle.tk_locks.specs.declared.home.Home.{Home}
use Rattle.tk_locks.specs.View.{View, noted, with_caller, with_count, with_mark}
use Rattle.tk_locks.specs.Calls.{view, AllOut, IsPass}
use Rattle.tk_locks.specs.declared.pass.Pass.{Pass}
use Rattle.tk_locks.specs.Steps.{Meets, MayWant, Missed, TookStripe, TookStore, GotStore, Fits, Waits}

module _ (T : Type 0) (f : Frame) (law : List Pair → Type 0) (m : List Pair) (good : ℕ → T → List Group → ℕ → Type 0) (next : T → ℕ → Type 0) (faults : T → ℕ) (begun : ℕ → ℕ) where
  abbrev S : Type 0
  S = Option (Home T)

  pub same_value : (i : ℕ) (c a b : List (ℕ × S)) (x y : S) → c ≡ (i, x) ∷ a → c ≡ (i, y) ∷ b → x ≡ y
  same_value i c a b x y p q = let e : (i, x) ≡ (i, y) = cc (p, q) in ap (λ (z : ℕ × S). z.1) e

  pub may_park : (i : ℕ) (v w u : View) (h : Home T) → i < f.stores → MayWant f (store_lock f i) v.caller → TookStore f law m good next faults begun i v h w → u ≡ w → MayTakeOut f i u.caller
  may_park i v w u h low may t same = subst (λ (y : View). MayTakeOut f i y.caller) (sym (same ∙ t.2))
      (record { live = may.live; store = low; holds = has_head (store_lock f i) v.caller.held; home = t.5 })

  pub got_store : (i : ℕ) (v : View) (me u z : Me S View) (out : S) (h : Home T) (rest_of : List (ℕ × S)) → TookStore f law m good next faults begun i v h me.0 → me.1 ≡ (i, Some h) ∷ rest_of → me.1 ≡ (i, out) ∷ rest me.1 → u.0 ≡ me.0
      → z.0 ≡ with_caller (took_out i u.0.caller) u.0 → MatchOption out (Missed f law m (store_lock f i) v z.0) (λ d. GotStore f law m good next faults begun i v d z.0)
  got_store i v me u z out h rest_of t carries was same moves =
      let now : z.0 ≡ with_caller (took_out i me.0.caller) me.0 = moves ∙ ap (λ (y : View). with_caller (took_out i y.caller) y) same in
      subst (λ (y : S). MatchOption y (Missed f law m (store_lock f i) v z.0) (λ d. GotStore f law m good next faults begun i v d z.0)) (same_value i me.1 rest_of (rest me.1) (Some h) out carries was)
      (t.0, t.1, now ∙ ap (λ (y : View). with_caller (took_out i y.caller) y) t.2, subst (λ (y : View). Fits f law m good next faults begun i y.caller h) (sym now) t.3, t.4, t.6, t.7, ap (λ (y : View). knows_broken y.caller i) now ∙ t.8, t.9)

-- a store that is put back is known as it was given
pub known_back : (i : ℕ) (b : Bool) (v : Caller) → (knows_broken v i ≡ true → b ≡ true) → b ≡ knows_broken (put_back i b v) i
known_back i true v stays = by_bool (knows_broken v i)
    (λ k. sym (ap (λ (z : Bool). has i v.met || has i (cond (not z) (i ∷ v.breaking) v.breaking)) k ∙ k))
    (λ k. sym (ap (λ (z : Bool). has i v.met || has i (cond (not z) (i ∷ v.breaking) v.breaking)) k ∙ ap (λ (z : Bool). has i v.met || z) (has_head i v.breaking) ∙ or_true (has i v.met)))
  where
    or_true : (a : Bool) → (a || true) ≡ true
    or_true true = refl
    or_true false = refl
known_back i false v stays = sym (false_unless (knows_broken v i) (λ k. absurd (cc (stays k))))

-- a store that is put back is at home, and its lock still held
pub may_give : (f : Frame) (i : ℕ) (o : Option ℕ) (v u : View) → v.caller.live ≡ true → i < f.stores → has (store_lock f i) v.caller.held ≡ true → u ≡ with_mark i o (with_caller (put_back i (is_some o) v.caller) v) → MayGiveStore f i u.caller
may_give f i o v u live low holds same = subst (λ (y : View). MayGiveStore f i y.caller) (sym same) (record { live = live; store = low; holds = holds; home = hasnt_without i v.caller.out })

pub gave_as : (f : Frame) (i : ℕ) (b b' : Option ℕ) (n n' : ℕ) (v u z : View) → b ≡ b' → n ≡ n' → u ≡ with_mark i b (with_caller (put_back i (is_some b) v.caller) v) → z ≡ with_count i n (with_caller (gave_store f i u.caller) u)
    → z ≡ with_count i n' (with_mark i b' (with_caller (gave_store f i (put_back i (is_some b') v.caller)) v))
gave_as f i b b' n n' v u z broken counted same gave = gave ∙ ap (λ (y : View). with_count i n (with_caller (gave_store f i y.caller) y)) same
    ∙ ap (λ (a : Option ℕ). with_count i n (with_mark i a (with_caller (gave_store f i (put_back i (is_some a) v.caller)) v))) broken
    ∙ ap (λ (k : ℕ). with_count i k (with_mark i b' (with_caller (gave_store f i (put_back i (is_some b') v.caller)) v))) counted

-- a caller that waited knows what it knew
module _ (f : Frame) (law : List Pair → Type 0) (m : List Pair) where
  abbrev waiting : View → Option ℕ → View
  waiting v x = with_caller (record v.caller { want = x }) v

  pub wants_still : (l : ℕ) (v w : View) → Waits v w → MayWant f l v.caller → MayWant f l w.caller
  wants_still l v w waits may = subst (λ (z : View). MayWant f l z.caller) (sym waits) (record { live = may.live; lock = may.lock; rising = may.rising; weighs = may.weighs })

  pub waits_more : (l : ℕ) (v w z : View) → Waits v w → Missed f law m l w z → Waits v z
  waits_more l v w z waits missed_now = let e : z ≡ waiting v (Some l) = missed_now ∙ ap (λ (y : View). with_caller (missed l y.caller) y) waits in
      e ∙ ap (λ (y : View). waiting v y.caller.want) (sym e)

  meets_still : (v w : View) (log : List Entry) → Waits v w → Meets f law m w.caller log → Meets f law m v.caller log
  meets_still v w log waits met = let t : Meets f law m (waiting v w.caller.want).caller log = subst (λ (z : View). Meets f law m z.caller log) waits met in
      record { seen = t.seen; base = t.base; lawful = t.lawful; still = record { records = t.still.records; groups = t.still.groups; hard = t.still.hard } }

  pub took_after : (l : ℕ) (v w z : View) → Waits v w → TookStripe f law m l w z → TookStripe f law m l v z
  took_after l v w z waits t = (t.0, meets_still v w t.0 waits t.1, t.2 ∙ ap (λ (y : View). with_caller (took_stripe l t.0 y.caller) y) waits)

  pub got_after : {T : Type 0} (good : ℕ → T → List Group → ℕ → Type 0) (next : T → ℕ → Type 0) (faults : T → ℕ) (begun : ℕ → ℕ) (i : ℕ) (v w z : View) (h : Home T) → Waits v w → GotStore f law m good next faults begun i w h z → GotStore f law m good next faults begun i v h z
  got_after good next faults begun i v w z h waits t = (
    t.0,
    meets_still v w t.0 waits t.1,
    t.2 ∙ ap (λ (y : View). with_mark i h.broken (with_count i (faults h.store) (with_caller (took_out i (took_store f i (is_some h.broken) t.0 y.caller)) y))) waits,
    t.3,
    subst (λ (y : View). noted i y.counts ≤ faults h.store) waits t.4,
    t.5,
    t.6,
    t.7,
    t.8,
  )

-- a store that was given back is neither held nor out
pub all_out_less : (f : Frame) (i : ℕ) (b : Bool) (v : Caller) → AllOut f v → AllOut f (gave_store f i (put_back i b v))
all_out_less f i b v all q h = let t = has_without (store_lock f q) (store_lock f i) v.held h in has_other q i v.out (λ e. t.0 (ap (store_lock f) e)) (all q t.1)

pub own_given : (f : Frame) (i : ℕ) (b : Option ℕ) (n : ℕ) (p q : Pass) (v w : View) → IsPass f p → v ≡ view p → w ≡ with_count i n (with_mark i b (with_caller (gave_store f i (put_back i (is_some b) v.caller)) v)) → q.badge.views ≡ w ∷ [] → view q ≡ w → q.left ≡ p.left → IsPass f q
own_given f i b n p q v w own was gave views seen left =
    let now : view q ≡ with_count i n (with_mark i b (with_caller (gave_store f i (put_back i (is_some b) (view p).caller)) (view p))) = seen ∙ gave ∙ ap (λ (z : View). with_count i n (with_mark i b (with_caller (gave_store f i (put_back i (is_some b) z.caller)) z))) was in
    record {
      one = views ∙ ap (λ (z : View). z ∷ []) (sym seen);
      left = left ∙ own.left ∙ sym (ap (λ (z : View). z.caller.allowance) now);
      live = ap (λ (z : View). z.caller.live) now ∙ own.live;
      all_out = subst (λ (z : View). AllOut f z.caller) (sym now) (all_out_less f i (is_some b) (view p).caller own.all_out);
    }

pub own_given_stripe : (f : Frame) (l : ℕ) (p q : Pass) (v w : View) → IsPass f p → v ≡ view p → w ≡ with_caller (gave_stripe l v.caller) v → q.badge.views ≡ w ∷ [] → view q ≡ w → q.left ≡ p.left → IsPass f q
own_given_stripe f l p q v w own was gave views seen left =
    let now : view q ≡ with_caller (gave_stripe l (view p).caller) (view p) = seen ∙ gave ∙ ap (λ (z : View). with_caller (gave_stripe l z.caller) z) was in
    record {
      one = views ∙ ap (λ (z : View). z ∷ []) (sym seen);
      left = left ∙ own.left ∙ sym (ap (λ (z : View). z.caller.allowance) now);
      live = ap (λ (z : View). z.caller.live) now ∙ own.live;
      all_out = subst (λ (z : View). AllOut f z.caller) (sym now) (λ i h. own.all_out i (has_without (store_lock f i) l (view p).caller.held h).1);
    }
