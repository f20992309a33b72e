-- What the rows of the program show where locks and stores pass, and callers are joined.
use Rattle.std.proofs.Common.{◌≡◌, ℕ, zero, suc, ◌+◌, ◌-◌, ◌≢◌, ◌^◌, ◌<◌, ◌==◌, Bool, true, false, List, [], ◌∷◌, ◌++◌, Option, None, map, length, reverse, set, get_or, refl, sym, ap, ◌∙◌, subst, arith, cond, filter, not, max, eq-eqb, ne_eqb, length-set}
use mathlib.Core.Logic.{dite}
use native.Mathlib.Decide.{dec_le}
use Rattle.std.specs.Bool.{then_some}
use Rattle.std.specs.Option.{option_to_list}
use Rattle.tk_model.specs.declared.record.Entry.{Entry}
use Rattle.std.proofs.Math.Nat.{max-eq_left, max-eq_right}
use Rattle.std.proofs.lemmas.Bool.{le-ltb, lt-ltb}
use Rattle.std.proofs.lemmas.List.{length-reverse}
use mathlib.Core.Option.{some}
use lib.ListN.{get_elem?}
use Rattle.tk_model.specs.declared.record.Entry.TheVariants as entries
use Rattle.tk_model.specs.declared.record.Group.{Group}
use Rattle.tk_core.specs.declared.machine.Row.{Row}
use Rattle.tk_core.specs.declared.moves.Move.TheVariants as moves
use Rattle.tk_core.specs.declared.frame.Frame.{Frame}
use Rattle.tk_core.specs.Moves.{took_stripe, took_store, gave_stripe, gave_store, put_back, longer, joined, spent}
use Rattle.tk_core.specs.Needs.{MayTake, MayGive, MayPutBack, IsIdle}
use Rattle.tk_core.specs.Caller.{Caller, weight}
use Rattle.tk_core.specs.Covers.{store_lock}
use Rattle.tk_core.specs.Program.{CoreState, AnyCaller, owner_of, IsCore, caller_of, firsts, numbered}
use Rattle.tk_core.specs.Lists.{has, put, without}
use Rattle.tk_core.proofs.Facts.{by_test, total_two}
use Rattle.tk_core.proofs.Histories.{longer_firsts}
use Rattle.tk_core.proofs.Rows.{IsDone, core, at_row, need, from_view, one_done, done, one_map, put_set, AnyRow, in_map, there, of_row, set_miss, set_again}

length_numbered : (log : List Entry) (ns : List ℕ) → length (numbered log ns) ≡ length ns
length_numbered log [] = refl
length_numbered log (n ∷ ns) = ap suc (length_numbered log ns)

pub length_mine : (log : List Entry) (ns : List ℕ) → length (numbered log (reverse ns)) ≡ length ns
length_mine log ns = length_numbered log (reverse ns) ∙ length-reverse ns

pub filter_without : (x : ℕ) (xs : List ℕ) → filter (λ y. not (y == x)) xs ≡ without x xs
filter_without x [] = refl
filter_without x (y ∷ ys) = by_test x y (λ b. cond (not (y == x)) (y ∷ filter (λ z. not (z == x)) ys) (filter (λ z. not (z == x)) ys) ≡ cond b (without x ys) (y ∷ without x ys))
    (λ e. ap (λ b. cond (not b) (y ∷ filter (λ z. not (z == x)) ys) (filter (λ z. not (z == x)) ys)) (eq-eqb y x (sym e)) ∙ filter_without x ys)
    (λ ne. ap (λ b. cond (not b) (y ∷ filter (λ z. not (z == x)) ys) (filter (λ z. not (z == x)) ys)) (ne_eqb y x (λ e. ne (sym e))) ∙ ap (λ zs. y ∷ zs) (filter_without x ys))

module _ (f : Frame) (l : ℕ) (v : Caller) (m : MayGive f l v) where
  -- the lock is that of a stripe or of a store
  by_lock : (P : Type 0) → (l < f.stripes → P) → ((q : ℕ) → l ≡ store_lock f q → P) → P
  by_lock P stripe store = dite (dec_le f.stripes l) (λ high. store (l - f.stripes) (omega arith)) (λ low. stripe (omega arith))

  pub give_live : v.live ≡ true
  give_live = by_lock (v.live ≡ true) (λ less. (m.0 less).live) (λ q e. (m.1 q e).live)

  pub give_holds : has l v.held ≡ true
  give_holds = by_lock (has l v.held ≡ true) (λ less. (m.0 less).holds) (λ q e. subst (λ z. has z v.held ≡ true) (sym e) (m.1 q e).holds)

  pub give_low : l < f.stripes + f.stores
  give_low = by_lock (l < f.stripes + f.stores) (λ less. omega arith) (λ q e. let s = (m.1 q e).store in omega arith)

pub led : (b : Bool) (q : ℕ) (xs : List ℕ) → option_to_list (then_some b q) ++ xs ≡ cond b (q ∷ xs) xs
led true q xs = refl
led false q xs = refl

abbrev any_groups : List Group → ℕ → Bool
any_groups gs n = true

still_stands : (b : Bool) → any_groups ≡ cond b any_groups any_groups
still_stands true = refl
still_stands false = refl

module _ (f : Frame) (log : List Entry) (owners : List ℕ) (spoilt away : List Bool) (rows : List Row) (i : ℕ) (row new : Row) (is : row ≡ get_or rows i row) (old : CoreState) (view : core f log owners spoilt away rows i row new is owners spoilt away rows ≡ old) (ok : IsCore (core f log owners spoilt away rows i row new is owners spoilt away rows)) where
  abbrev now : List ℕ → List Bool → List Bool → List Row → CoreState
  now os s a rs = core f log owners spoilt away rows i row new is os s a rs

  abbrev v : Caller
  v = caller_of log row

  callers : (w : Caller) → caller_of log new ≡ w → map (caller_of log) (set rows i new) ≡ set (map (caller_of log) rows) i w
  callers w e = one_map (caller_of log) rows i new w e

  module _ (l n base : ℕ) (found : Option ℕ) (next : n ≡ suc i) (whole : firsts base log ≡ log) where
    pub take_done : AnyCaller old i (MayTake old.frame (owner_of old) l) → (l < f.stripes → found ≡ None) → ((q : ℕ) → l ≡ store_lock f q → found ≡ then_some (get_or spoilt q false) q)
        → caller_of log new ≡ record (caller_of log row) { held = l ∷ row.held.items; want = None; base = firsts base log; met = option_to_list found ++ row.met.items } → IsDone (moves.Take i l) old (now (set owners l n) spoilt away (set rows i new))
    take_done b stripe store e =
        let P : Caller → Type 0 = MayTake f (λ q. get_or owners q 0) l in
        let a : AnyRow log rows i P = from_view f log owners spoilt away rows i row new is old view ok (λ s. AnyCaller s i (MayTake s.frame (owner_of s) l)) b in
        let low : l < length owners = let m = (need f log owners spoilt away rows i row new is P a).lock in let o = ok.owners in omega arith in
        let owner : (z : ℕ) → get_or (set owners l n) z 0 ≡ put (λ y. get_or owners y 0) l (suc i) z = λ z. put_set owners l n 0 low z ∙ ap (λ m. put (λ y. get_or owners y 0) l m z) next in
        one_done f log owners spoilt away rows i row new is old view ok (moves.Take i l) (now (set owners l n) spoilt away (set rows i new))
        (done (moves.Take i l) (now owners spoilt away rows) (now (set owners l n) spoilt away (set rows i new)) ok refl (length-set owners l n) refl refl
        (record {
          caller = v;
          is_caller = at_row f log owners spoilt away rows i row new is P a;
          needs = need f log owners spoilt away rows i row new is P a;
          stripe = λ less. let w : caller_of log new ≡ took_stripe l log v = e ∙ (λ t. record (caller_of log row) { held = l ∷ row.held.items; want = None; base = whole t; met = option_to_list (stripe less t) ++ row.met.items }) in
              λ t. record { law = λ m. true; first = []; log = log; owner = λ z. owner z t; spoilt = λ z. get_or spoilt z false; away = λ z. get_or away z false; stands = λ z gs m. true; callers = callers (took_stripe l log v) w t };
          store = λ q at. let w : caller_of log new ≡ took_store f q (get_or spoilt q false) log v = e ∙ (λ t. record (caller_of log row) { held = at t ∷ row.held.items; want = None; base = whole t; met = (ap (λ o. option_to_list o ++ row.met.items) (store q at) ∙ led (get_or spoilt q false) q row.met.items) t }) in
              let owner_at : (z : ℕ) → get_or (set owners l n) z 0 ≡ put (λ y. get_or owners y 0) (store_lock f q) (suc i) z = λ z. owner z ∙ ap (λ y. put (λ x. get_or owners x 0) y (suc i) z) at in
              λ t. record { law = λ m. true; first = []; log = log; owner = λ z. owner_at z t; spoilt = λ z. get_or spoilt z false; away = λ z. get_or away z false; stands = λ z gs m. true; callers = callers (took_store f q (get_or spoilt q false) log v) w t };
        }))

  pub give_done : (l : ℕ) → AnyCaller old i (MayGive old.frame l) → (l < f.stripes → caller_of log new ≡ gave_stripe l (caller_of log row)) → ((q : ℕ) → l ≡ store_lock f q → caller_of log new ≡ gave_store f q (caller_of log row))
      → IsDone (moves.Give i l) old (now (set owners l 0) spoilt away (set rows i new))
  give_done l b stripe store =
      let P : Caller → Type 0 = MayGive f l in
      let a : AnyRow log rows i P = from_view f log owners spoilt away rows i row new is old view ok (λ s. AnyCaller s i (MayGive s.frame l)) b in
      let m : MayGive f l v = need f log owners spoilt away rows i row new is P a in
      let low : l < length owners = let h = give_low f l v m in let o = ok.owners in omega arith in
      let owner : (z : ℕ) → get_or (set owners l 0) z 0 ≡ put (λ y. get_or owners y 0) l 0 z = put_set owners l 0 0 low in
      one_done f log owners spoilt away rows i row new is old view ok (moves.Give i l) (now (set owners l 0) spoilt away (set rows i new))
      (done (moves.Give i l) (now owners spoilt away rows) (now (set owners l 0) spoilt away (set rows i new)) ok refl (length-set owners l 0) refl refl
      (record {
        caller = v;
        is_caller = at_row f log owners spoilt away rows i row new is P a;
        stripe = λ less. (m.0 less, λ t. record { law = λ m. true; first = []; log = log; owner = λ z. owner z t; spoilt = λ z. get_or spoilt z false; away = λ z. get_or away z false; stands = λ z gs m. true; callers = callers (gave_stripe l v) (stripe less) t });
        store = λ q at. let owner_at : (z : ℕ) → get_or (set owners l 0) z 0 ≡ put (λ y. get_or owners y 0) (store_lock f q) 0 z = λ z. owner z ∙ ap (λ y. put (λ x. get_or owners x 0) y 0 z) at in
            (m.1 q at, λ t. record { law = λ m. true; first = []; log = log; owner = λ z. owner_at z t; spoilt = λ z. get_or spoilt z false; away = λ z. get_or away z false; stands = λ z gs m. true; callers = callers (gave_store f q v) (store q at) t });
      }))

  pub back_done : (q : ℕ) (b : Bool) → AnyCaller old i (MayPutBack old.frame [] old.log (λ gs n. Unit {0}) q b) → caller_of log new ≡ put_back q b (caller_of log row) → IsDone (moves.Back i q b) old (now owners (set spoilt q b) (set away q false) (set rows i new))
  back_done q b any e =
      let P : Caller → Type 0 = MayPutBack f [] log (λ gs n. Unit {0}) q b in
      let a : AnyRow log rows i P = from_view f log owners spoilt away rows i row new is old view ok (λ s. AnyCaller s i (MayPutBack s.frame [] s.log (λ gs n. Unit {0}) q b)) any in
      let m : P v = need f log owners spoilt away rows i row new is P a in
      let low_spoilt : q < length spoilt = let h = m.store in let o = ok.spoilt in omega arith in
      let low_away : q < length away = let h = m.store in let o = ok.away in omega arith in
      one_done f log owners spoilt away rows i row new is old view ok (moves.Back i q b) (now owners (set spoilt q b) (set away q false) (set rows i new))
      (done (moves.Back i q b) (now owners spoilt away rows) (now owners (set spoilt q b) (set away q false) (set rows i new)) ok refl refl (length-set spoilt q b) (length-set away q false)
      (record {
        caller = v;
        is_caller = at_row f log owners spoilt away rows i row new is P a;
        now = λ gs n. true;
        needs = record { live = m.live; store = m.store; out = m.out; stays = m.stays; stands = λ _. refl };
        after = λ t. record { law = λ m. true; first = []; log = log; owner = λ z. get_or owners z 0; spoilt = λ z. put_set spoilt q b false low_spoilt z t; away = λ z. put_set away q false false low_away z t; stands = λ z. still_stands (z == q) t; callers = callers (put_back q b v) e t };
      }))

pub numbered_append : (log : List Entry) (xs ys : List ℕ) → numbered log (xs ++ ys) ≡ numbered log xs ++ numbered log ys
numbered_append log [] ys = refl
numbered_append log (x ∷ xs) ys = ap (λ ps. (x, get_or log x entries.Clear) ∷ ps) (numbered_append log xs ys)

-- the longer of two histories has the greater length
pub longer_max : (a b : ℕ) (log : List Entry) → firsts (max a b) log ≡ longer (firsts a log) (firsts b log)
longer_max a b log = dite (dec_le b a)
    (λ less. ap (λ n. firsts n log) (max-eq_left less) ∙ sym (longer_firsts a b log ∙ ap (λ t. cond t (firsts b log) (firsts a log)) (le-ltb a b less)))
    (λ not_less. ap (λ n. firsts n log) (max-eq_right {n = a} {m = b} (omega arith)) ∙ sym (longer_firsts a b log ∙ ap (λ t. cond t (firsts b log) (firsts a log)) (lt-ltb a b (omega arith))))

set_twice : {A : Type 0} (xs : List A) (j : ℕ) (b l : A) → set (set xs j b) j l ≡ set xs j l
set_twice [] j b l = refl
set_twice (x ∷ xs) zero b l = refl
set_twice (x ∷ xs) (suc j) b l = ap (λ ys. x ∷ ys) (set_twice xs j b l)

set_over : {A : Type 0} (xs : List A) (i j : ℕ) (b n l : A) → i ≢ j → set (set (set xs j b) i n) j l ≡ set (set xs i n) j l
set_over [] i j b n l ne = refl
set_over (x ∷ xs) zero zero b n l ne = absurd (ne refl)
set_over (x ∷ xs) zero (suc j) b n l ne = ap (λ ys. n ∷ ys) (set_twice xs j b l)
set_over (x ∷ xs) (suc i) zero b n l ne = refl
set_over (x ∷ xs) (suc i) (suc j) b n l ne = ap (λ ys. x ∷ ys) (set_over xs i j b n l (λ e. ne (ap suc e)))

-- the other row was taken out before the first was changed, and put back changed
module _ (f : Frame) (log : List Entry) (owners : List ℕ) (spoilt away : List Bool) (rows : List Row) (i j : ℕ) (row gone blank new left : Row) (apart : i ≢ j) (is_gone : gone ≡ get_or rows j gone) (is_row : row ≡ get_or (set rows j blank) i row) where
  abbrev with_rows : List Row → CoreState
  with_rows rs = record { frame = f; log = log; owners = owners; spoilt = spoilt; away = away; callers = map (caller_of log) rs }

  pair : (w x : Caller) → caller_of log new ≡ w → caller_of log left ≡ x → map (caller_of log) (set (set (set rows j blank) i new) j left) ≡ set (set (map (caller_of log) rows) i w) j x
  pair w x e g = ap (map (caller_of log)) (set_over rows i j blank new left apart) ∙ one_map (caller_of log) (set rows i new) j left x g ∙ ap (λ cs. set cs j x) (one_map (caller_of log) rows i new w e)

  module _ (old : CoreState) (view : with_rows rows ≡ old) (ok : IsCore (with_rows rows)) (a : AnyCaller old i IsIdle) (b : AnyCaller old j IsIdle) where
    first : AnyRow log rows i IsIdle
    first = subst (λ (s : CoreState). AnyCaller s i IsIdle) (sym view) a

    second : AnyRow log rows j IsIdle
    second = subst (λ (s : CoreState). AnyCaller s j IsIdle) (sym view) b

    in_first : i < length rows
    in_first = in_map (caller_of log) rows i first.0 first.1

    in_second : j < length rows
    in_second = in_map (caller_of log) rows j second.0 second.1

    is : row ≡ get_or rows i row
    is = is_row ∙ set_miss rows j i blank row apart

    at_first : get_elem? (map (caller_of log) rows) i ≡ some (caller_of log row)
    at_first = there log rows i row in_first is

    at_second : get_elem? (map (caller_of log) rows) j ≡ some (caller_of log gone)
    at_second = there log rows j gone in_second is_gone

    pub join_room : row.allowance + gone.allowance < 2 ^ 64
    join_room = let two = total_two weight (map (caller_of log) rows) i j (caller_of log row) (caller_of log gone) apart at_first at_second in let all = ok.sound.weights in omega arith

    pub join_kept : caller_of log new ≡ caller_of log row → caller_of log left ≡ caller_of log gone → with_rows (set (set (set rows j blank) i new) j left) ≡ old
    join_kept e g = (λ t. core_of ((pair (caller_of log row) (caller_of log gone) e g ∙ ap (λ cs. set cs j (caller_of log gone)) (set_again (map (caller_of log) rows) i (caller_of log row) at_first)
        ∙ set_again (map (caller_of log) rows) j (caller_of log gone) at_second) t)) ∙ view
      where
        core_of : List Caller → CoreState
        core_of cs = record { frame = f; log = log; owners = owners; spoilt = spoilt; away = away; callers = cs }

    pub join_done : caller_of log new ≡ joined (caller_of log row) (caller_of log gone) → caller_of log left ≡ spent → IsDone (moves.Join i j) old (with_rows (set (set (set rows j blank) i new) j left))
    join_done e g =
        let v : Caller = caller_of log row in
        let u : Caller = caller_of log gone in
        let p : IsIdle v = of_row log rows i row in_first is IsIdle first in
        let q : IsIdle u = of_row log rows j gone in_second is_gone IsIdle second in
        subst (λ (s : CoreState). IsDone (moves.Join i j) s (with_rows (set (set (set rows j blank) i new) j left))) view
        (done (moves.Join i j) (with_rows rows) (with_rows (set (set (set rows j blank) i new) j left)) ok refl refl refl refl
        (record {
          caller = v;
          is_caller = at_first;
          gone = u;
          is_gone = at_second;
          needs = record { apart = apart; live = (p.0, q.0); held = (p.1, q.1) };
          after = λ t. record { law = λ m. true; first = []; log = log; owner = λ z. get_or owners z 0; spoilt = λ z. get_or spoilt z false; away = λ z. get_or away z false; stands = λ z gs m. true; callers = pair (joined v u) spent e g t };
        }))
