-- How a call at one key ends, by what its parts tell.
use Rattle.std.specs.Bool.{then_some}
use Rattle.std.specs.Option.{option_copied}
use Rattle.std.proofs.Common.{Bor, ◌≡◌, ◌≢◌, ◌⊎◌, ◌==◌, ◌<◌, ◌≤◌, ◌&&◌, inl, inr, not, ℕ, Bool, true, false, cond, List, [], ◌∷◌, length, take, Option, Some, None, is_some, if◌then◌else◌, ◌+◌, ◌++◌, refl, sym, ap, ◌∙◌, subst, ⊎_elim, arith, eq-eqb}
use Rattle.std.proofs.lemmas.Bool.Decides.{nat_tests}
use mathlib.Core.List.{IsPrefix}
use Rattle.tk_status.specs.declared.Status.{Status}
use Rattle.tk_status.specs.declared.Status.TheVariants as statuses
use Rattle.tk_model.specs.Records.{find, Rising, IsClearAlone}
use Rattle.tk_model.specs.Entries.{changes_of, is_keep, stored}
use Rattle.tk_model.specs.declared.record.Action.{Action}
use Rattle.tk_model.specs.declared.record.Action.TheVariants.{Keep, Put, Drop}
use Rattle.tk_model.specs.declared.record.Change.{Change}
use Rattle.tk_model.specs.declared.record.Pair.{Pair}
use Rattle.tk_model.specs.declared.record.Entry.{Entry}
use Rattle.tk_model.specs.declared.record.Entry.TheVariants as entries
use Rattle.tk_model.proofs.RecordLaws.{entries_rising}
use Rattle.tk_proc.specs.Runs.{counted, is_long, unless_long, status_unless_long, action_changes, touches_by, status_by}
use Rattle.tk_proc.proofs.LegalRuns.{one_key_changes}
use Rattle.tk_store.specs.Store.{AllFitWithin}
use Rattle.tk_core.specs.Caller.{Caller}
use Rattle.tk_core.specs.Covers.{store_of, stripe_lock}
use Rattle.tk_core.specs.Lists.{has}
use Rattle.tk_core.specs.Needs.{KeepsLaw, MayCommit}
use Rattle.tk_core.specs.Rule.{IsLawful, known, map_after}
use Rattle.tk_core.proofs.Facts.{by_bool, prefix_self}
use Rattle.tk_locks.specs.View.{View}
use Rattle.tk_dbm.specs.declared.answer.Answer.{Answer}
use Rattle.tk_dbm.specs.Setting.{Setting, records_at, records_seen, AllTell, uses_key}
use Rattle.tk_dbm.specs.Calls.{Stores, Cause, HasNumber, Ends, Called, has_place, is_system}
use Rattle.tk_dbm.specs.OneKey.{one, key_entry, key_status, picked_entry}
use Rattle.tk_dbm.specs.Parts.{Quiet, MadeNothing, MadeAt, MayStop, Rests, Stopped, MayChange, Changed}
use Rattle.tk_dbm.specs.Dbm.{AllKeepLaw}
use Rattle.tk_dbm.proofs.OneKeys.{may_commit}
use Rattle.tk_dbm.proofs.Visits.{SaysNothing, no_store, stores_then, stores_between}

pub short_stores : (a : Action) → stored (unless_long a) ≤ 16777215
short_stores a = go (is_long a) refl
  where
    go : (b : Bool) → is_long a ≡ b → stored (if b then Keep else a) ≤ 16777215
    go true e = omega arith
    go false e = grind (arith, nat_tests)

-- a change was made: the value wasn't too long
pub success_of : (k : List ℕ) (was : Option (List ℕ)) (a : Action) → action_changes k was (unless_long a) ≢ [] → status_unless_long a ≡ statuses.Success
success_of k was a some = go (is_long a) some
  where
    go : (b : Bool) → action_changes k was (if b then Keep else a) ≢ [] → (if b then statuses.TooLong (stored a) else statuses.Success) ≡ statuses.Success
    go true some = absurd (some refl)
    go false some = refl

pub place_of_status : (a : Action) → has_place (status_unless_long a) ≡ true
place_of_status a = go (is_long a)
  where
    go : (b : Bool) → has_place (if b then statuses.TooLong (stored a) else statuses.Success) ≡ true
    go true = refl
    go false = refl

pub nothing_said : (a : Action) → SaysNothing (status_unless_long a)
nothing_said a = go (is_long a)
  where
    go : (b : Bool) → SaysNothing (if b then statuses.TooLong (stored a) else statuses.Success)
    go true = tt
    go false = tt

pub alone : (k : List ℕ) (was : Option (List ℕ)) (a : Action) → IsClearAlone (action_changes k was a)
alone k was Keep = tt
alone k was (Put v) = tt
alone k (Some u) Drop = tt
alone k None Drop = tt

pub fit : (k : List ℕ) (was : Option (List ℕ)) (a : Action) → length k ≤ 65535 → stored a ≤ 16777215 → AllFitWithin 16777215 (action_changes k was a)
fit k was Keep key value = tt
fit k was (Put v) key value = (key, value, tt)
fit k (Some u) Drop key value = (key, tt)
fit k None Drop key value = tt

-- only a call that writes changes anything
pub writes_if : (writable : Bool) (k : List ℕ) (was : Option (List ℕ)) (a : Action) → action_changes k was (unless_long (counted writable a)) ≢ [] → writable ≡ true
writes_if true k was a any = refl
writes_if false k was a any = absurd (any refl)

-- the bytes that were read, where there is a value
pub copied_then : {A : Type 0} (b : Bool) (x : Bor A) → option_copied (then_some b x) ≡ (if b then Some x.now else None)
copied_then true x = refl
copied_then false x = refl

pub some_then : {A : Type 0} (b : Bool) (x : Bor A) → is_some (option_copied (then_some b x)) ≡ b
some_then true x = refl
some_then false x = refl

module _ {P : Type 0} (acts : P → List ℕ → Option (List ℕ) → Action) (turns : P → List ℕ → Option (List ℕ) → P) (s : Setting)
    (full : List Entry → Entry → ℕ → ℕ → ℕ → Type 0) (room : List Entry → Entry → Type 0) (writable : Bool) (p : P) (k : List ℕ) (i : ℕ) (here : store_of s.frame k ≡ i) (low : i < s.frame.stores) where
  abbrev E : List Pair → Entry
  E m = key_entry acts turns s writable p k m

  abbrev St : List Pair → Status
  St m = key_status acts turns s writable p k m

  abbrev U : ℕ → Bool
  U = uses_key s k

  -- what is done of a value
  abbrev touch : Option (List ℕ) → Action
  touch was = unless_long (counted writable (acts p k was))

  entry_is : (m : List Pair) → E m ≡ one k (find k m) (touch (find k m))
  entry_is m = go (is_long (counted writable (acts p k (find k m))))
    where
      go : (b : Bool) → entries.Proc (touches_by (if b then Some (stored (counted writable (acts p k (find k m)))) else None) (k ∷ []) m (record { key = k; was = find k m; action = counted writable (acts p k (find k m)) } ∷ []))
          ≡ one k (find k m) (if b then Keep else counted writable (acts p k (find k m)))
      go true = refl
      go false = refl

  status_is : (m : List Pair) → St m ≡ status_unless_long (counted writable (acts p k (find k m)))
  status_is m = go (is_long (counted writable (acts p k (find k m))))
    where
      go : (b : Bool) → status_by (if b then Some (stored (counted writable (acts p k (find k m)))) else None) ≡ (if b then statuses.TooLong (stored (counted writable (acts p k (find k m)))) else statuses.Success)
      go true = refl
      go false = refl

  tells_here : AllTell s U → s.tells i ≡ true
  tells_here all = all i low (eq-eqb i (store_of s.frame k) (sym here))

  pub stores_as : (v w : View) (st : Status) → Stores s (λ j. j == i) v st w → Stores s U v st w
  stores_as v w st t = subst (λ (z : ℕ). Stores s (λ j. j == z) v st w) (sym here) t

  plain_cause : (v w : Caller) (st : Status) → MayStop (λ size need limit. ⊥) st → Cause s full writable U E v w st
  plain_cause v w statuses.Success h = h
  plain_cause v w (statuses.System faults) h = tt
  plain_cause v w statuses.NotImplemented h = h
  plain_cause v w statuses.Precondition h = absurd h
  plain_cause v w statuses.InvalidArgument h = h
  plain_cause v w statuses.NotFound h = h
  plain_cause v w statuses.Infeasible h = h
  plain_cause v w statuses.Duplication h = h
  plain_cause v w (statuses.Broken faults) h = tt
  plain_cause v w statuses.NoMemory h = tt
  plain_cause v w (statuses.Full size need limit) h = absurd h
  plain_cause v w statuses.Limit h = absurd h
  plain_cause v w (statuses.TooLong length) h = h

  full_cause : (e : Entry) (v w : Caller) (st : Status) → (AllTell s U → e ≡ E (records_seen s w)) → MayStop (λ size need limit. s.tells i ≡ true → full w.seen e size need limit) st → Cause s full writable U E v w st
  full_cause e v w statuses.Success same h = h
  full_cause e v w (statuses.System faults) same h = tt
  full_cause e v w statuses.NotImplemented same h = h
  full_cause e v w statuses.Precondition same h = absurd h
  full_cause e v w statuses.InvalidArgument same h = h
  full_cause e v w statuses.NotFound same h = h
  full_cause e v w statuses.Infeasible same h = h
  full_cause e v w statuses.Duplication same h = h
  full_cause e v w (statuses.Broken faults) same h = tt
  full_cause e v w statuses.NoMemory same h = tt
  full_cause e v w (statuses.Full size need limit) same h = λ all. subst (λ (z : Entry). full w.seen z size need limit) (same all) (h (tells_here all))
  full_cause e v w statuses.Limit same h = absurd h
  full_cause e v w (statuses.TooLong length) same h = h

  -- the call ended at the store that it read
  pub ends_stopped : (v w : View) (a : Answer) → Stopped s i v a w → Ends s full room writable U St E v a w
  ends_stopped v w a t = record {
    stores = stores_as v w a.status t.stores;
    made = λ n e. absurd (cc (t.number, e));
    placed = λ n e. absurd (cc (t.number, e));
    status_is = λ n e. absurd (cc (t.number, e));
    had_room = λ n e. absurd (cc (t.number, e));
    not_made = λ _. record { front = t.nothing.front; mine = t.nothing.mine; allowance = t.nothing.allowance; cause = plain_cause v.caller w.caller a.status t.cause };
  }

  -- what was read before doesn't change how it ended
  pub ends_after : (v w x : View) (a : Answer) → Rests s i v w → Ends s full room writable U St E w a x → Ends s full room writable U St E v a x
  ends_after v w x a r t = record {
    stores = stores_as v x a.status (stores_then s i v w x a.status r.stores (subst (λ (z : ℕ). Stores s (λ j. j == z) w a.status x) here t.stores));
    made = λ n e. let q = t.made n e in record {
      call = q.call;
      front = subst (λ (z : List Entry). IsPrefix z (take n x.caller.seen)) r.seen q.front;
      seen = q.seen;
      place = q.place;
      lawful = q.lawful;
      mine = q.mine ∙ ap (λ z. (n, q.call) ∷ z) r.mine;
      allowance = sym r.allowance ∙ q.allowance;
      entry_is = q.entry_is;
    };
    placed = t.placed;
    status_is = t.status_is;
    had_room = t.had_room;
    not_made = λ none. let q = t.not_made none in record {
      front = subst (λ (z : List Entry). IsPrefix z x.caller.seen) r.seen q.front;
      mine = q.mine ∙ r.mine;
      allowance = q.allowance ∙ r.allowance;
      cause = cause_after v.caller w.caller x.caller a.status r.allowance q.cause;
    };
  }
    where
      cause_after : (v w x : Caller) (st : Status) → w.allowance ≡ v.allowance → Cause s full writable U E w x st → Cause s full writable U E v x st
      cause_after v w x statuses.Success same h = h
      cause_after v w x (statuses.System faults) same h = tt
      cause_after v w x statuses.NotImplemented same h = h
      cause_after v w x statuses.Precondition same h = h
      cause_after v w x statuses.InvalidArgument same h = h
      cause_after v w x statuses.NotFound same h = h
      cause_after v w x statuses.Infeasible same h = h
      cause_after v w x statuses.Duplication same h = h
      cause_after v w x (statuses.Broken faults) same h = tt
      cause_after v w x statuses.NoMemory same h = tt
      cause_after v w x (statuses.Full size need limit) same h = h
      cause_after v w x statuses.Limit same h = sym same ∙ h
      cause_after v w x (statuses.TooLong length) same h = h

  pub ends_gave_up : (v w : View) (a : Answer) → a ≡ record { status = statuses.NoMemory; number = None } → Quiet v w → MadeNothing s.frame s.first v.caller w.caller → Ends s full room writable U St E v a w
  ends_gave_up v w a is quiet t = subst (λ (z : Answer). Ends s full room writable U St E v z w) (sym is) (record {
    stores = stores_as v w statuses.NoMemory (no_store s i v w statuses.NoMemory tt quiet);
    made = λ n e. absurd (cc (e));
    placed = λ n e. absurd (cc (e));
    status_is = λ n e. absurd (cc (e));
    had_room = λ n e. absurd (cc (e));
    not_made = λ _. record { front = t.front; mine = t.mine; allowance = t.allowance; cause = tt };
  })

  -- ---- the entry that is picked
  module _ (v : View) where
    abbrev M : List Pair
    M = map_after s.frame s.first v.caller.base

    abbrev was : Option (List ℕ)
    was = known s.frame s.first v.caller k

    -- where the store tells its records the call's, elsewhere one that keeps what is known
    abbrev picked : Entry
    picked = picked_entry acts turns s writable p k i v.caller

    abbrev action : Action
    action = cond (s.tells i) (touch was) Keep

    picked_is : picked ≡ one k was action
    picked_is = go (s.tells i)
      where
        go : (b : Bool) → cond b (E M) (one k was Keep) ≡ one k was (cond b (touch was) Keep)
        go true = entry_is M
        go false = refl

    picked_told : s.tells i ≡ true → picked ≡ E M
    picked_told t = ap (λ (b : Bool). cond b (E M) (one k was Keep)) t

    -- on records that agree at the key the call is the same
    pub picked_then : (r : List Pair) → was ≡ find k r → AllTell s U → picked ≡ E r
    picked_then r same all = picked_told (tells_here all) ∙ entry_is M ∙ ap (λ (z : Option (List ℕ)). one k z (touch z)) same ∙ sym (entry_is r)

    pub status_then : (r : List Pair) (read : Option (List ℕ)) → (s.tells i ≡ true → read ≡ was) → was ≡ find k r → AllTell s U → St r ≡ status_unless_long (counted writable (acts p k read))
    status_then r read is same all = status_is r ∙ ap (λ (z : Option (List ℕ)). status_unless_long (counted writable (acts p k z))) (sym (is (tells_here all) ∙ same))

    module _ (rising : Rising s.frame.order s.first) (law : AllKeepLaw s E) (cs : List Change) (read : Option (List ℕ)) (cs_are : cs ≡ action_changes k read (touch read)) (read_is : s.tells i ≡ true → read ≡ was)
        (key : length k ≤ 65535) (allowance : 0 < v.caller.allowance) (stripe : has (stripe_lock s.frame k) v.caller.held ≡ true) where
      keeps : KeepsLaw s.frame (λ m. s.law m ≡ true) picked
      keeps = go (s.tells i)
        where
          go : (b : Bool) → KeepsLaw s.frame (λ m. s.law m ≡ true) (cond b (E M) (one k was Keep))
          go true = law M
          go false = λ n r h l. h

      value : stored action ≤ 16777215
      value = go (s.tells i)
        where
          go : (b : Bool) → stored (cond b (touch was) Keep) ≤ 16777215
          go true = short_stores (counted writable (acts p k was))
          go false = omega arith

      told : s.tells i ≡ true → cs ≡ changes_of s.frame.order M picked
      told t = cs_are ∙ ap (λ (z : Option (List ℕ)). action_changes k z (touch z)) (read_is t) ∙ sym (one_key_changes acts turns s.frame.order writable p k M (entries_rising s.frame.order v.caller.base s.first rising)) ∙ ap (changes_of s.frame.order M) (sym (picked_told t))

      silent : s.tells i ≡ false → is_keep action ≡ true
      silent t = ap (λ (b : Bool). is_keep (cond b (touch was) Keep)) t

      pub may_change : MayChange s picked i cs v.caller
      may_change = record {
        key = k;
        was = was;
        action = action;
        entry = picked_is;
        here = here;
        allowance = allowance;
        stripe = stripe;
        known_is = refl;
        long = key;
        value = value;
        keeps = keeps;
        told = told;
        silent = silent;
      }

      no_changes : cs ≡ [] → changes_of s.frame.order M (one k was action) ≡ []
      no_changes none = by_bool (s.tells i)
          (λ t. ap (changes_of s.frame.order M) (sym picked_is) ∙ sym (told t) ∙ none)
          (λ t. ap (λ (b : Bool). changes_of s.frame.order M (one k was (cond b (touch was) Keep))) t)

      pub may_keep : v.caller.live ≡ true → cs ≡ [] → MayCommit s.frame (λ m. s.law m ≡ true) s.first picked v.caller
      may_keep live none = subst (λ (z : Entry). MayCommit s.frame (λ m. s.law m ≡ true) s.first z v.caller) (sym picked_is)
          (may_commit s.frame (λ m. s.law m ≡ true) s.first k was action v.caller (record {
            live = live;
            allowance = allowance;
            key = key;
            value = value;
            known_is = refl;
            keeps = subst (KeepsLaw s.frame (λ m. s.law m ≡ true)) picked_is keeps;
            reads = inl stripe;
            changing = λ some. absurd (some (no_changes none));
          }))

      same_at : (w : View) (n : ℕ) → MadeAt s picked v.caller w.caller n → was ≡ find k (records_at s w.caller n)
      same_at w n t = t.records k (inl stripe)

      -- a call that changes nothing
      pub ends_kept : (w : View) (a : Answer) (n : ℕ) → cs ≡ [] → a ≡ record { status = status_unless_long (counted writable (acts p k read)); number = Some n } → Quiet v w → MadeAt s picked v.caller w.caller n
          → ((past : List Entry) (e : Entry) → changes_of s.frame.order (map_after s.frame s.first past) e ≡ [] → room past e) → Ends s full room writable U St E v a w
      ends_kept w a n none is quiet t free = subst (λ (z : Answer). Ends s full room writable U St E v z w) (sym is) (record {
        stores = stores_as v w (status_unless_long (counted writable (acts p k read))) (no_store s i v w (status_unless_long (counted writable (acts p k read))) (nothing_said (counted writable (acts p k read))) quiet);
        made = λ q e. subst (λ (z : ℕ). HasNumber s U E v.caller w.caller z) (same_number n q e) (record {
          call = picked;
          front = t.front;
          seen = t.seen;
          place = t.place;
          lawful = t.lawful;
          mine = t.mine;
          allowance = t.allowance;
          entry_is = picked_then (records_at s w.caller n) (same_at w n t);
        });
        placed = λ q e. place_of_status (counted writable (acts p k read));
        status_is = λ q e all. inl (sym (status_then (records_at s w.caller q) read read_is (same_at w n t ∙ ap (λ (z : ℕ). find k (records_at s w.caller z)) (same_number n q e)) all));
        had_room = λ q e all. let r = same_at w n t ∙ ap (λ (z : ℕ). find k (records_at s w.caller z)) (same_number n q e) in free (take q w.caller.seen) (E (records_at s w.caller q))
            (one_key_changes acts turns s.frame.order writable p k (records_at s w.caller q) (entries_rising s.frame.order (take q w.caller.seen) s.first rising)
            ∙ ap (λ (z : Option (List ℕ)). action_changes k z (touch z)) (sym (read_is (tells_here all) ∙ r)) ∙ sym cs_are ∙ none);
        not_made = λ e. absurd (cc (e));
      })
        where
          same_number : (n q : ℕ) → Some n ≡ Some q → n ≡ q
          same_number n q e = cc (e)

      -- a change
      pub ends_changed : (w : View) (a : Answer) → cs ≢ [] → Changed s full room i picked v a w → Ends s full room writable U St E v a w
      ends_changed w a some t = record {
        stores = stores_as v w a.status t.stores;
        made = λ n e. let q = t.made n e in record {
          call = picked;
          front = q.front;
          seen = q.seen;
          place = q.place;
          lawful = q.lawful;
          mine = q.mine;
          allowance = q.allowance;
          entry_is = picked_then (records_at s w.caller n) (same_at w n q);
        };
        placed = λ n e. placed_by a.status (t.ended n e);
        status_is = λ n e all. ⊎_elim
            (λ (good : a.status ≡ statuses.Success). inl (good ∙ sym (status_then (records_at s w.caller n) read read_is (same_at w n (t.made n e)) all ∙ success_of k read (counted writable (acts p k read)) (λ none. some (cs_are ∙ none)))))
            (λ (bad : is_system a.status ≡ true). inr bad) (t.ended n e);
        had_room = λ n e all. subst (room (take n w.caller.seen)) (picked_then (records_at s w.caller n) (same_at w n (t.made n e)) all) (t.had_room n e (tells_here all));
        not_made = λ none. let q = t.not_made none in record {
          front = q.0.front;
          mine = q.0.mine;
          allowance = q.0.allowance;
          cause = full_cause picked v.caller w.caller a.status (picked_then (records_seen s w.caller) (q.0.records k (inl stripe))) q.1;
        };
      }
        where
          placed_by : (st : Status) → (st ≡ statuses.Success) ⊎ (is_system st ≡ true) → has_place st ≡ true
          placed_by st (inl e) = ap has_place e
          placed_by st (inr e) = system_placed st e
            where
              system_placed : (st : Status) → is_system st ≡ true → has_place st ≡ true
              system_placed statuses.Success h = refl
              system_placed (statuses.System faults) h = refl
              system_placed statuses.NotImplemented h = absurd (cc (h))
              system_placed statuses.Precondition h = absurd (cc (h))
              system_placed statuses.InvalidArgument h = absurd (cc (h))
              system_placed statuses.NotFound h = refl
              system_placed statuses.Infeasible h = absurd (cc (h))
              system_placed statuses.Duplication h = absurd (cc (h))
              system_placed (statuses.Broken faults) h = absurd (cc (h))
              system_placed statuses.NoMemory h = absurd (cc (h))
              system_placed (statuses.Full size need limit) h = absurd (cc (h))
              system_placed statuses.Limit h = absurd (cc (h))
              system_placed (statuses.TooLong length) h = refl

-- a stripe was taken before, and given back after
pub ends_between : (s : Setting) (full : List Entry → Entry → ℕ → ℕ → ℕ → Type 0) (room : List Entry → Entry → Type 0) (writes : Bool) (uses : ℕ → Bool) (status : List Pair → Status) (entry : List Pair → Entry)
    (v v' w w' : View) (a : Answer) → Quiet v v' → Quiet w w' → v'.caller.seen ≡ v.caller.seen → v'.caller.mine ≡ v.caller.mine → v'.caller.allowance ≡ v.caller.allowance → w'.caller.seen ≡ w.caller.seen → w'.caller.mine ≡ w.caller.mine → w'.caller.allowance ≡ w.caller.allowance
    → Ends s full room writes uses status entry v' a w → Ends s full room writes uses status entry v a w'
ends_between s full room writes uses status entry v v' w w' a before after seen mine allowance seen' mine' allowance' t =
    record {
      stores = stores_between s uses v v' w w' a.status before after t.stores;
      made = λ n e. let q = t.made n e in record {
        call = q.call;
        front = subst (λ (y : List Entry). IsPrefix v.caller.seen (take n y)) (sym seen') (subst (λ (x : List Entry). IsPrefix x (take n w.caller.seen)) seen q.front);
        seen = seen' ∙ q.seen ∙ ap (λ (z : List Entry). take n z ++ q.call ∷ []) (sym seen');
        place = ap (λ (z : List Entry). length z) seen' ∙ q.place;
        lawful = subst (IsLawful s.frame (λ m. s.law m ≡ true) s.first) (sym seen') q.lawful;
        mine = mine' ∙ q.mine ∙ ap (λ z. (n, q.call) ∷ z) mine;
        allowance = sym allowance ∙ q.allowance ∙ ap (λ (z : ℕ). z + 1) (sym allowance');
        entry_is = λ all. q.entry_is all ∙ ap (λ (z : List Entry). entry (map_after s.frame s.first (take n z))) (sym seen');
      };
      placed = t.placed;
      status_is = λ n e all. subst (λ (z : List Entry). (a.status ≡ status (map_after s.frame s.first (take n z))) ⊎ (is_system a.status ≡ true)) (sym seen') (t.status_is n e all);
      had_room = λ n e all. subst (λ (z : List Entry). room (take n z) (entry (map_after s.frame s.first (take n z)))) (sym seen') (t.had_room n e all);
      not_made = λ none. let q = t.not_made none in record {
        front = subst (IsPrefix v.caller.seen) (sym seen') (subst (λ (x : List Entry). IsPrefix x w.caller.seen) seen q.front);
        mine = mine' ∙ q.mine ∙ mine;
        allowance = allowance' ∙ q.allowance ∙ allowance;
        cause = moved a.status q.cause;
      };
    }
  where
    moved : (st : Status) → Cause s full writes uses entry v'.caller w.caller st → Cause s full writes uses entry v.caller w'.caller st
    moved statuses.Success h = h
    moved (statuses.System faults) h = tt
    moved statuses.NotImplemented h = h
    moved statuses.Precondition h = h
    moved statuses.InvalidArgument h = h
    moved statuses.NotFound h = h
    moved statuses.Infeasible h = h
    moved statuses.Duplication h = h
    moved (statuses.Broken faults) h = tt
    moved statuses.NoMemory h = tt
    moved (statuses.Full size need limit) h = λ all. subst (λ (z : List Entry). full z (entry (map_after s.frame s.first z)) size need limit) (sym seen') (h all)
    moved statuses.Limit h = sym allowance ∙ h
    moved (statuses.TooLong length) h = h

-- a call that was refused before it took a lock
pub called_refused : (s : Setting) (full : List Entry → Entry → ℕ → ℕ → ℕ → Type 0) (room : List Entry → Entry → Type 0) (writes : Bool) (k : List ℕ) (status : List Pair → Status) (entry : List Pair → Entry) (v : View) (a : Answer) (st : Status)
    → a ≡ record { status = st; number = None } → SaysNothing st → Cause s full writes (uses_key s k) entry v.caller v.caller st → v.caller.held ≡ [] → ((writes && not s.writable) ≡ true → st ≡ statuses.Precondition)
    → ((writes && not s.writable) ≡ false → v.caller.allowance ≡ 0 → st ≡ statuses.Limit) → Called s full room writes (uses_key s k) status entry v a v
called_refused s full room writes k status entry v a st is says cause idle refused limited = subst (λ (z : Answer). Called s full room writes (uses_key s k) status entry v z v) (sym is) (record {
  ends = record {
    stores = no_store s (store_of s.frame k) v v st says (record { counts = refl; marks = refl; broke = refl; met = refl });
    made = λ n e. absurd (cc (e));
    placed = λ n e. absurd (cc (e));
    status_is = λ n e. absurd (cc (e));
    had_room = λ n e. absurd (cc (e));
    not_made = λ _. record { front = prefix_self v.caller.seen; mine = refl; allowance = refl; cause = cause };
  };
  refused = λ t. (refl, refused t);
  limited = λ t z. (refl, limited t z);
  idle = idle;
})

pub both_true : (a b : Bool) → a ≡ true → b ≡ true → (a && b) ≡ true
both_true true b x y = y
both_true false b x y = absurd (cc (x))

pub first_false : (a b : Bool) → a ≡ false → (a && b) ≡ false
first_false true b x = absurd (cc (x))
first_false false b x = refl

pub second_false : (a b : Bool) → b ≡ false → (a && b) ≡ false
second_false true b x = x
second_false false b x = refl
