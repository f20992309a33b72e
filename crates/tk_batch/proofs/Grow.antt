-- What a worker knows of a history stays as the history grows.
use Rattle.std.proofs.Common.{◌≡◌, inl, inr, ℕ, zero, suc, ◌+◌, ◌≤◌, Bool, true, false, List, [], ◌∷◌, ◌++◌, length, length-append, take, sym, ap, ◌∙◌, subst, arith}
use Rattle.std.specs.Prelude.{slice_get, Some}
use Rattle.std.proofs.lemmas.List.{take-append-le}
use Rattle.std.proofs.lemmas.Option.{slice_get_within}
use mathlib.Core.List.{IsPrefix}
use Rattle.tk_status.specs.declared.Status.{Status}
use Rattle.tk_status.specs.declared.Status.TheVariants as statuses
use Rattle.tk_model.specs.Entries.{replay_entries}
use Rattle.tk_model.specs.declared.record.Pair.{Pair}
use Rattle.tk_model.specs.declared.record.Entry.{Entry}
use Rattle.tk_calls.specs.declared.call.Call.{Call}
use Rattle.tk_calls.specs.declared.call.Position.{Position}
use Rattle.tk_calls.specs.Replies.{reply_of}
use Rattle.tk_batch.specs.Told.{Setting, Deed, HasCause, IsLine, Follows, IsRefused, IsMade, IsFailed, IsUnasked, Wants, Breaks, answered, failed}

get_longer : {A : Type 0} (xs ys : List A) (n : ℕ) (a : A) → slice_get xs n ≡ Some a → slice_get (xs ++ ys) n ≡ Some a
get_longer [] ys n a e = absurd (cc e)
get_longer (x ∷ xs) ys zero a e = e
get_longer (x ∷ xs) ys (suc n) a e = get_longer xs ys n a e

pub front_get : {A : Type 0} (xs ys : List A) (n : ℕ) (a : A) → IsPrefix xs ys → slice_get xs n ≡ Some a → slice_get ys n ≡ Some a
front_get xs ys n a p e = subst (λ z. slice_get z n ≡ Some a) p.1 (get_longer xs p.0 n a e)

pub front_take : {A : Type 0} (xs ys : List A) (n : ℕ) → IsPrefix xs ys → n ≤ length xs → take n ys ≡ take n xs
front_take xs ys n p h = ap (take n) (sym p.1) ∙ take-append-le n xs p.0 h

pub front_length : {A : Type 0} (xs ys : List A) → IsPrefix xs ys → length xs ≤ length ys
front_length xs ys p = let a = length-append xs p.0 in let b = ap length p.1 in omega arith

-- from a history and what is known of stores to a longer history, where no less is known
module _ (s : Setting) (m : List Pair) (log more : List Entry) (rose spoilt rose' spoilt' : ℕ → Bool)
    (front : IsPrefix log more) (rising : (j : ℕ) → rose j ≡ true → rose' j ≡ true) (spoiling : (j : ℕ) → spoilt j ≡ true → spoilt' j ≡ true) where
  cause_stays : (c : Call) (p : Position) (n : ℕ) (status : Status) → n ≤ length log → HasCause s m log rose spoilt c p n status → HasCause s m more rose' spoilt' c p n status
  cause_stays c p n (statuses.Broken faults) h x = (x.0, x.1, spoiling x.0 x.2)
  cause_stays c p n (statuses.System faults) h x = (x.0, x.1, rising x.0 x.2)
  cause_stays c p n (statuses.Full size need limit) h x =
      subst (λ (z : List Entry). s.over z (reply_of s.order c p (replay_entries s.order z m)).entry ≡ true) (sym (front_take log more n front h)) x
  cause_stays c p n statuses.Success h x = absurd x
  cause_stays c p n statuses.NotImplemented h x = absurd x
  cause_stays c p n statuses.Precondition h x = absurd x
  cause_stays c p n statuses.InvalidArgument h x = absurd x
  cause_stays c p n statuses.NotFound h x = absurd x
  cause_stays c p n statuses.Infeasible h x = absurd x
  cause_stays c p n statuses.Duplication h x = absurd x
  cause_stays c p n statuses.NoMemory h x = absurd x
  cause_stays c p n statuses.Limit h x = absurd x
  cause_stays c p n (statuses.TooLong length) h x = absurd x

  refused_stays : (d : Deed) (p : Position) (k : ℕ) (q : Position) (l : ℕ) → IsRefused s m log rose spoilt d p k q l → IsRefused s m more rose' spoilt' d p k q l
  refused_stays d p k q l x = record {
    asked = x.asked;
    status = x.status;
    out = x.out;
    later = x.later;
    inside = (let h = x.inside in let g = front_length log more front in omega arith);
    cause = cause_stays d.call p l x.status x.inside x.cause;
    stays = x.stays;
  }

  made_stays : (d : Deed) (p : Position) (k : ℕ) (q : Position) (l : ℕ) → IsMade s m log rose spoilt d p k q l → IsMade s m more rose' spoilt' d p k q l
  made_stays d p k q l x =
      let low : x.number ≤ length log = (let h = slice_get_within log x.number _ x.stands in omega arith) in
      let same : take x.number more ≡ take x.number log = front_take log more x.number front low in
      let reply = λ (z : List Entry). reply_of s.order d.call p (replay_entries s.order z m) in record {
        asked = x.asked;
        number = x.number;
        later = x.later;
        stands = subst (λ (z : List Entry). slice_get more x.number ≡ Some (reply z).entry) (sym same) (front_get log more x.number _ front x.stands);
        out = subst (λ (z : List Entry). d.done.out ≡ answered x.number (reply z)) (sym same) x.out;
        fits = subst (λ (z : List Entry). s.exact ≡ true → s.over z (reply z).entry ≡ false) (sym same) x.fits;
        moves = subst (λ (z : List Entry). (q ≡ (reply z).position) × (l ≡ x.number + 1)) (sym same) x.moves;
      }

  failed_stays : (d : Deed) (p : Position) (k : ℕ) (q : Position) (l : ℕ) → IsFailed s m log rose spoilt d p k q l → IsFailed s m more rose' spoilt' d p k q l
  failed_stays d p k q l x =
      let low : x.number ≤ length log = (let h = slice_get_within log x.number _ x.stands in omega arith) in
      let same : take x.number more ≡ take x.number log = front_take log more x.number front low in
      let reply = λ (z : List Entry). reply_of s.order d.call p (replay_entries s.order z m) in record {
        asked = x.asked;
        number = x.number;
        faults = x.faults;
        later = x.later;
        stands = subst (λ (z : List Entry). slice_get more x.number ≡ Some (reply z).entry) (sym same) (front_get log more x.number _ front x.stands);
        out = subst (λ (z : List Entry). d.done.out ≡ failed x.number x.faults (reply z)) (sym same) x.out;
        cause = (x.cause.0, x.cause.1, rising x.cause.0 x.cause.2);
        moves = x.moves;
      }

  breaks_stay : (d : Deed) (p : Position) → Breaks s m log rose spoilt d p → Breaks s m more rose' spoilt' d p
  breaks_stay d p x = record { some = x.some; none = x.none; own = x.own }

  wants_stays : (d : Deed) (p : Position) (k : ℕ) (q : Position) (l : ℕ) → Wants s m log rose spoilt d p k q l → Wants s m more rose' spoilt' d p k q l
  wants_stays d p k q l x = record { out = x.out; stays = x.stays }

  unasked_stays : (d : Deed) (p : Position) (k : ℕ) (q : Position) (l : ℕ) → IsUnasked s m log rose spoilt d p k q l → IsUnasked s m more rose' spoilt' d p k q l
  unasked_stays d p k q l x = record { status = x.status; early_is = x.early_is; out = x.out; stays = x.stays }

  pub line_stays : (d : Deed) (p : Position) (k : ℕ) (q : Position) (l : ℕ) → IsLine s m log rose spoilt d p k q l → IsLine s m more rose' spoilt' d p k q l
  line_stays d p k q l x = (
    breaks_stay d p x.0,
    elim (x.1) [
      | inl w ↦ inl (wants_stays d p k q l w)
      | inr y ↦ inr (elim y [
        | inl u ↦ inl (unasked_stays d p k q l u)
        | inr z ↦ inr (elim z [
          | inl r ↦ inl (refused_stays d p k q l r)
          | inr t ↦ inr (elim t [
            | inl a ↦ inl (made_stays d p k q l a)
            | inr b ↦ inr (failed_stays d p k q l b)
          ])
        ])
      ])
    ],
  )

  pub follows_stays : (ds : List Deed) (p : Position) (k : ℕ) (q : Position) → Follows s m log rose spoilt p k ds q → Follows s m more rose' spoilt' p k ds q
  follows_stays [] p k q x = (x.0, (let h = x.1 in let g = front_length log more front in omega arith))
  follows_stays (d ∷ ds) p k q x = (x.0, x.1, line_stays d p k x.0 x.1 x.2, follows_stays ds x.0 x.1 q x.3)
