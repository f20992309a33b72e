-- The net changes of an action lead where the action does.
use Rattle.std.proofs.Common.{◌≡◌, ℕ, Bool, true, false, List, [], ◌∷◌, Option, Some, None, IfSome, ◌∙◌, refl, sym, ap, if◌then◌else◌}
use Rattle.tk_model.specs.Orders.{same_bytes}
use Rattle.tk_model.specs.Records.{find, without, after}
use Rattle.tk_model.specs.Entries.{touched}
use Rattle.tk_model.specs.declared.record.Order.{Order}
use Rattle.tk_model.specs.declared.record.Pair.{Pair}
use Rattle.tk_model.specs.declared.record.Action.{Action}
use Rattle.tk_model.specs.declared.record.Action.TheVariants as actions
use Rattle.tk_proc.specs.Replies.{get_reply}
use Rattle.tk_proc.specs.Runs.{action_changes, unless_long}
use Rattle.tk_store.specs.OneRecord.{call_changes}

pick_absent : (b : Bool) (p : Pair) (ps deeper : List Pair) (v : Option (List ℕ)) → (if b then Some p.value else v) ≡ None → (v ≡ None → deeper ≡ ps) → (if b then ps else p ∷ deeper) ≡ p ∷ ps
pick_absent true p ps deeper v e f = absurd (cc)
pick_absent false p ps deeper v e f = ap (λ (x : List Pair). p ∷ x) (f e)

absent_stays : (k : List ℕ) (m : List Pair) → find k m ≡ None → without k m ≡ m
absent_stays k [] e = refl
absent_stays k (p ∷ ps) e = pick_absent (same_bytes k p.key) p ps (without k ps) (find k ps) e (absent_stays k ps)

dropped : (o : Order) (k : List ℕ) (m : List Pair) (was : Option (List ℕ)) → (was ≡ None → without k m ≡ m) → after o (action_changes k was actions.Drop) m ≡ without k m
dropped o k m (Some v) f = refl
dropped o k m None f = sym (f refl)

pub acted : (o : Order) (k : List ℕ) (m : List Pair) (a : Action) → after o (action_changes k (find k m) a) m ≡ touched o k a m
acted o k m actions.Keep = refl
acted o k m (actions.Put v) = refl
acted o k m actions.Drop = dropped o k m (find k m) (absent_stays k m)

-- where the records are told, those after the net changes are those after the action
pub reached : {P : Type 0} (acts : P → List ℕ → Option (List ℕ) → Action) (o : Order) (p : P) (k : List ℕ) (before after_it : Option (List Pair))
    → IfSome before (λ m. after_it ≡ Some (after o (call_changes acts p k m) m)) → IfSome before (λ m. after_it ≡ Some (touched o k (unless_long (acts p k (find k m))) m))
reached acts o p k None after_it e = tt
reached acts o p k (Some m) after_it e = e ∙ ap Some (acted o k m (unless_long (acts p k (find k m))))

-- reading keeps every record
pub get_keeps : (was : Option (List ℕ)) → (get_reply was).action ≡ actions.Keep
get_keeps None = refl
get_keeps (Some v) = refl
