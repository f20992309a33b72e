use Rattle.std.proofs.Common.{◌≡◌, ◌≢◌, ◌<◌, ◌+◌, ◌∷◌, ⊎_elim, ℕ, true, List, Option, Some, Result, Ok, Err, refl, sym, ap, ◌∙◌, subst, arith}
use Rattle.tk_status.specs.declared.Status.TheVariants as statuses
use Rattle.tk_model.specs.Counts.{Rose}
use Rattle.tk_model.specs.declared.record.Pair.{Pair}
use Rattle.tk_store.specs.declared.error.StoreError.{StoreError}
use Rattle.tk_store.specs.Store.{HasCause}
use Rattle.tk_core.specs.declared.frame.Frame.{Frame}
use Rattle.tk_core.specs.Covers.{store_lock}
use Rattle.tk_core.specs.Lists.{has, without}
use Rattle.tk_core.proofs.Facts.{has_cons, has_head, has_tail}
use Rattle.tk_locks.specs.Calls.{view as view_of}
use Rattle.tk_locks.specs.Rule.{Risen, count_at}
use Rattle.tk_locks.specs.View.{View}
use Rattle.tk_dbm.specs.declared.visit.Part.{Part}
use Rattle.tk_dbm.specs.Dbm.{its, setting, view, writes}
use Rattle.tk_dbm.specs.Setting.{records_at}
use Rattle.tk_core.specs.Rule.{map_after, shard}
use Rattle.tk_model.specs.Entries.{shard_records}
use Rattle.tk_model.specs.declared.record.Entry.{Entry}
use Rattle.std.specs.Prelude.{length, take}
use Rattle.tk_dbm.specs.declared.visit.Work.{Work}
use Rattle.tk_dbm.specs.Visiting.{TellsFullBy, IsPrepared, IsDue, IsSum, count_in, stores_of, Climbs, MayAsk, AllFit, OverBy, RoomBy, Visits}
use Rattle.tk_dbm.proofs.Goods.{tells_still}
use Rattle.tk_dbm.proofs.Visits.{Visited, without_new}
use Rattle.tk_dbm.proofs.Changing.{marked_is, holds, looked_on, gave_up_done, found_broken, failed_here, stayed_here, rose_less, fault_rose}
use Rattle.tk_dbm.proofs.Around.{above, apart, marked_then, noted_then}
use Rattle.tk_dbm.proofs.Visiting.{may_visit, widened, since_stores, may_number, none_left, relabelled, stopped_at, still_out, due_out, room_by, over_by, done, leveled, sum_more, sum_at, same_shard, climbs_more, unbroken_more, ask_more, fit_more}
use Rattle.tk_dbm.proofs.dbm.Dbm.+visit.Goals as goal

told : (p q : ℕ) → statuses.System p ≡ statuses.System q → p ≡ q
told p q e = cc (e)

kept_count : {U : Type 0} (a b : ℕ) (r : Result U StoreError) (z : U) → r ≡ Ok z → HasCause a b r → b ≡ a
kept_count {U} a b r z e cause = let t : HasCause {T = U} a b (Ok z) = subst (HasCause a b) e cause in t.kept

not_lower : (f : Frame) (i : ℕ) (is held : List ℕ) → Climbs f (i ∷ is) held → (j : ℕ) → has j (i ∷ is) ≡ true → j < i → ⊥
not_lower f i is held c j h less = ⊎_elim (λ (e : j ≡ i). absurd (omega arith)) (λ (q : (j ≢ i) × (has j is ≡ true)). absurd (let l = above f i is held c j q.1 in omega arith)) (has_cons j i is h)

pub number-requires-clause-may : goal.number-requires-clause-may
number-requires-clause-may g t c = may_number (setting g.S.SeqStore.lawful g.S.SeqStore.store_view g.S.SeqStore.fault_count c.args.self.now) g.J.Asked.entry (view c.args.pass.now).caller (subst (λ (ps : List Part). MayAsk (setting g.S.SeqStore.lawful g.S.SeqStore.store_view g.S.SeqStore.fault_count c.args.self.now) g.J.Asked.entry (stores_of ps) (view c.args.pass.now).caller) (none_left c.args.parts.now c.in_default.ensures.cases) c.requires.ask) c.requires.own.own.1.live c.requires.own.own.1.all_out c.requires.unbroken

pub number-requires-clause-alike : goal.number-requires-clause-alike
number-requires-clause-alike g t c = λ a b ra rb agree. (subst (λ (ps : List Part). MayAsk (setting g.S.SeqStore.lawful g.S.SeqStore.store_view g.S.SeqStore.fault_count c.args.self.now) g.J.Asked.entry (stores_of ps) (view c.args.pass.now).caller) (none_left c.args.parts.now c.in_default.ensures.cases) c.requires.ask).alike a b ra rb (view c.args.pass.now).caller.held ((λ l h. h), (λ i h. absurd (cc (h)))) agree

pub returns-in_default-clause-visits : goal.returns-in_default-clause-visits
returns-in_default-clause-visits g t c = subst (λ (ps : List Part). Visits (setting g.S.SeqStore.lawful g.S.SeqStore.store_view g.S.SeqStore.fault_count c.args.self.now) (OverBy g.S.SeqStore.stands g.S.SeqStore.store_view g.S.SeqStore.constants (its c.args.self.now) c.args.work) (RoomBy g.S.SeqStore.stands g.S.SeqStore.store_view g.S.SeqStore.constants (its c.args.self.now) c.args.work) g.J.Asked.entry ps (view c.args.pass.now) c.number.result (view c.number.new.pass)) (sym (none_left c.args.parts.now c.in_default.ensures.cases))
    (relabelled (setting g.S.SeqStore.lawful g.S.SeqStore.store_view g.S.SeqStore.fault_count c.args.self.now) (λ _ _ _ _ _ _. ⊥) (OverBy g.S.SeqStore.stands g.S.SeqStore.store_view g.S.SeqStore.constants (its c.args.self.now) c.args.work) (λ _ _ _. Unit {0}) (RoomBy g.S.SeqStore.stands g.S.SeqStore.store_view g.S.SeqStore.constants (its c.args.self.now) c.args.work) g.J.Asked.entry (view c.args.pass.now) c.number.result (view c.number.new.pass) c.number.ensures.visits)

pub returns-in-Some-broken-clause-own : goal.returns-in-Some-broken-clause-own
returns-in-Some-broken-clause-own g t c = let z = gave_up_done g.S.SeqStore.lawful g.S.SeqStore.stands g.S.SeqStore.store_view g.S.SeqStore.constants g.S.SeqStore.fault_count (its c.args.self.now) (writes c.args.self.now) c.in-Some.part.now.store (view c.args.pass.now) (view_of c.take_store-home.new.pass) c.take_store-home.result (may_visit (its c.args.self.now).frame c.in-Some.part.now.store (stores_of c.in-Some.rest.now) (view c.args.pass.now).caller (subst (λ (ps : List Part). Climbs (its c.args.self.now).frame (stores_of ps) (view c.args.pass.now).caller.held) c.in-Some.ensures.cases.0 c.requires.climbs) c.requires.ask.allowance) c.take_store-home.ensures.step c.take_store-home.result (view c.refuse.new.pass) c.requires.own.breaking c.refuse.ensures.step in
    record { own = c.refuse.ensures.own; held = z.held; breaking = z.breaking; fresh = c.requires.own.fresh; writable = c.requires.own.writable }

pub returns-in-Some-broken-clause-visits : goal.returns-in-Some-broken-clause-visits
returns-in-Some-broken-clause-visits g t c = subst (λ (ps : List Part). Visits (setting g.S.SeqStore.lawful g.S.SeqStore.store_view g.S.SeqStore.fault_count c.args.self.now) (OverBy g.S.SeqStore.stands g.S.SeqStore.store_view g.S.SeqStore.constants (its c.args.self.now) c.args.work) (RoomBy g.S.SeqStore.stands g.S.SeqStore.store_view g.S.SeqStore.constants (its c.args.self.now) c.args.work) g.J.Asked.entry ps (view c.args.pass.now) c.refuse.result (view c.refuse.new.pass)) (sym c.in-Some.ensures.cases.0)
    (stopped_at g.S.SeqStore.lawful g.S.SeqStore.stands g.S.SeqStore.store_view g.S.SeqStore.constants g.S.SeqStore.fault_count (its c.args.self.now) (writes c.args.self.now) c.in-Some.part.now (view c.args.pass.now) (view_of c.take_store-home.new.pass) c.take_store-home.result (may_visit (its c.args.self.now).frame c.in-Some.part.now.store (stores_of c.in-Some.rest.now) (view c.args.pass.now).caller (subst (λ (ps : List Part). Climbs (its c.args.self.now).frame (stores_of ps) (view c.args.pass.now).caller.held) c.in-Some.ensures.cases.0 c.requires.climbs) c.requires.ask.allowance) c.take_store-home.ensures.step (OverBy g.S.SeqStore.stands g.S.SeqStore.store_view g.S.SeqStore.constants (its c.args.self.now) c.args.work) (RoomBy g.S.SeqStore.stands g.S.SeqStore.store_view g.S.SeqStore.constants (its c.args.self.now) c.args.work) g.J.Asked.entry c.in-Some.rest.now c.refuse.result (statuses.Broken c.in-Some-broken.faults) c.take_store-home.result (view c.refuse.new.pass) c.refuse.ensures.answer c.requires.own.breaking c.refuse.ensures.step
    (widened (setting g.S.SeqStore.lawful g.S.SeqStore.store_view g.S.SeqStore.fault_count c.args.self.now) c.in-Some.part.now c.in-Some.rest.now (view c.args.pass.now) (view c.refuse.new.pass) (statuses.Broken c.in-Some-broken.faults) (found_broken g.S.SeqStore.lawful g.S.SeqStore.stands g.S.SeqStore.store_view g.S.SeqStore.constants g.S.SeqStore.fault_count (its c.args.self.now) (writes c.args.self.now) c.in-Some.part.now.store (view c.args.pass.now) (view_of c.take_store-home.new.pass) c.take_store-home.result (may_visit (its c.args.self.now).frame c.in-Some.part.now.store (stores_of c.in-Some.rest.now) (view c.args.pass.now).caller (subst (λ (ps : List Part). Climbs (its c.args.self.now).frame (stores_of ps) (view c.args.pass.now).caller.held) c.in-Some.ensures.cases.0 c.requires.climbs) c.requires.ask.allowance) c.take_store-home.ensures.step c.in-Some-broken.faults c.take_store-home.result (looked_on g.S.SeqStore.lawful g.S.SeqStore.stands g.S.SeqStore.store_view g.S.SeqStore.constants g.S.SeqStore.fault_count (its c.args.self.now) (writes c.args.self.now) c.in-Some.part.now.store (view c.args.pass.now) (view_of c.take_store-home.new.pass) c.take_store-home.result (may_visit (its c.args.self.now).frame c.in-Some.part.now.store (stores_of c.in-Some.rest.now) (view c.args.pass.now).caller (subst (λ (ps : List Part). Climbs (its c.args.self.now).frame (stores_of ps) (view c.args.pass.now).caller.held) c.in-Some.ensures.cases.0 c.requires.climbs) c.requires.ask.allowance) c.take_store-home.ensures.step c.refuse.ensures.step.0) (view c.refuse.new.pass) c.in-Some-broken.is c.in-Some-broken.is (gave_up_done g.S.SeqStore.lawful g.S.SeqStore.stands g.S.SeqStore.store_view g.S.SeqStore.constants g.S.SeqStore.fault_count (its c.args.self.now) (writes c.args.self.now) c.in-Some.part.now.store (view c.args.pass.now) (view_of c.take_store-home.new.pass) c.take_store-home.result (may_visit (its c.args.self.now).frame c.in-Some.part.now.store (stores_of c.in-Some.rest.now) (view c.args.pass.now).caller (subst (λ (ps : List Part). Climbs (its c.args.self.now).frame (stores_of ps) (view c.args.pass.now).caller.held) c.in-Some.ensures.cases.0 c.requires.climbs) c.requires.ask.allowance) c.take_store-home.ensures.step c.take_store-home.result (view c.refuse.new.pass) c.requires.own.breaking c.refuse.ensures.step)))
    (λ z e. absurd (cc (e))) (tt))

pub fail_since-requires-clause-risen : goal.fail_since-requires-clause-risen
fail_since-requires-clause-risen g t c = (c.in-Some.part.now.store, (subst (λ (ps : List Part). Climbs (its c.args.self.now).frame (stores_of ps) (view c.args.pass.now).caller.held) c.in-Some.ensures.cases.0 c.requires.climbs).0, rose_less (count_at g.S.SeqStore.fault_count (its c.args.self.now).start c.in-Some.part.now.store) (c.has_risen.ensures.risen c.if-has_risen.true).0 (g.S.SeqStore.fault_count c.take_store-home.result.store) ((subst (λ (ps : List Part). AllFit (setting g.S.SeqStore.lawful g.S.SeqStore.store_view g.S.SeqStore.fault_count c.args.self.now) c.args.work g.J.Asked.entry (view c.args.pass.now) ps) c.in-Some.ensures.cases.0 c.requires.fit).0.seen (c.has_risen.ensures.risen c.if-has_risen.true).0 (c.has_risen.ensures.risen c.if-has_risen.true).1).1 (let q = (c.has_risen.ensures.risen c.if-has_risen.true).2 in let e = c.faults.ensures in omega arith))

pub returns-then-has_risen-clause-own : goal.returns-then-has_risen-clause-own
returns-then-has_risen-clause-own g t c = let z = gave_up_done g.S.SeqStore.lawful g.S.SeqStore.stands g.S.SeqStore.store_view g.S.SeqStore.constants g.S.SeqStore.fault_count (its c.args.self.now) (writes c.args.self.now) c.in-Some.part.now.store (view c.args.pass.now) (view_of c.take_store-home.new.pass) c.take_store-home.result (may_visit (its c.args.self.now).frame c.in-Some.part.now.store (stores_of c.in-Some.rest.now) (view c.args.pass.now).caller (subst (λ (ps : List Part). Climbs (its c.args.self.now).frame (stores_of ps) (view c.args.pass.now).caller.held) c.in-Some.ensures.cases.0 c.requires.climbs) c.requires.ask.allowance) c.take_store-home.ensures.step (record { store = c.take_store-home.result.store; broken = Some (g.S.SeqStore.fault_count c.take_store-home.result.store) }) (view c.fail_since.new.pass) c.requires.own.breaking c.fail_since.ensures.step in
    record { own = c.fail_since.ensures.own; held = z.held; breaking = z.breaking; fresh = c.requires.own.fresh; writable = c.requires.own.writable }

pub returns-then-has_risen-clause-visits : goal.returns-then-has_risen-clause-visits
returns-then-has_risen-clause-visits g t c = subst (λ (ps : List Part). Visits (setting g.S.SeqStore.lawful g.S.SeqStore.store_view g.S.SeqStore.fault_count c.args.self.now) (OverBy g.S.SeqStore.stands g.S.SeqStore.store_view g.S.SeqStore.constants (its c.args.self.now) c.args.work) (RoomBy g.S.SeqStore.stands g.S.SeqStore.store_view g.S.SeqStore.constants (its c.args.self.now) c.args.work) g.J.Asked.entry ps (view c.args.pass.now) c.fail_since.result (view c.fail_since.new.pass)) (sym c.in-Some.ensures.cases.0)
    (stopped_at g.S.SeqStore.lawful g.S.SeqStore.stands g.S.SeqStore.store_view g.S.SeqStore.constants g.S.SeqStore.fault_count (its c.args.self.now) (writes c.args.self.now) c.in-Some.part.now (view c.args.pass.now) (view_of c.take_store-home.new.pass) c.take_store-home.result (may_visit (its c.args.self.now).frame c.in-Some.part.now.store (stores_of c.in-Some.rest.now) (view c.args.pass.now).caller (subst (λ (ps : List Part). Climbs (its c.args.self.now).frame (stores_of ps) (view c.args.pass.now).caller.held) c.in-Some.ensures.cases.0 c.requires.climbs) c.requires.ask.allowance) c.take_store-home.ensures.step (OverBy g.S.SeqStore.stands g.S.SeqStore.store_view g.S.SeqStore.constants (its c.args.self.now) c.args.work) (RoomBy g.S.SeqStore.stands g.S.SeqStore.store_view g.S.SeqStore.constants (its c.args.self.now) c.args.work) g.J.Asked.entry c.in-Some.rest.now c.fail_since.result (statuses.System (g.S.SeqStore.fault_count c.take_store-home.result.store)) (record { store = c.take_store-home.result.store; broken = Some (g.S.SeqStore.fault_count c.take_store-home.result.store) }) (view c.fail_since.new.pass) c.fail_since.ensures.answer c.requires.own.breaking c.fail_since.ensures.step
    (since_stores (setting g.S.SeqStore.lawful g.S.SeqStore.store_view g.S.SeqStore.fault_count c.args.self.now) c.in-Some.part.now c.in-Some.rest.now (c.has_risen.ensures.risen c.if-has_risen.true).0 (g.S.SeqStore.fault_count c.take_store-home.result.store) (view c.args.pass.now) (looked_on g.S.SeqStore.lawful g.S.SeqStore.stands g.S.SeqStore.store_view g.S.SeqStore.constants g.S.SeqStore.fault_count (its c.args.self.now) (writes c.args.self.now) c.in-Some.part.now.store (view c.args.pass.now) (view_of c.take_store-home.new.pass) c.take_store-home.result (may_visit (its c.args.self.now).frame c.in-Some.part.now.store (stores_of c.in-Some.rest.now) (view c.args.pass.now).caller (subst (λ (ps : List Part). Climbs (its c.args.self.now).frame (stores_of ps) (view c.args.pass.now).caller.held) c.in-Some.ensures.cases.0 c.requires.climbs) c.requires.ask.allowance) c.take_store-home.ensures.step c.fail_since.ensures.step.0) (view c.fail_since.new.pass) (c.has_risen.ensures.risen c.if-has_risen.true).1 (let q = (c.has_risen.ensures.risen c.if-has_risen.true).2 in let e = c.faults.ensures in omega arith) (subst (λ (z : Option ℕ). Visited c.in-Some.part.now.store z (Some (g.S.SeqStore.fault_count c.take_store-home.result.store)) (g.S.SeqStore.fault_count c.take_store-home.result.store) (g.S.SeqStore.fault_count c.take_store-home.result.store) (view c.args.pass.now) (looked_on g.S.SeqStore.lawful g.S.SeqStore.stands g.S.SeqStore.store_view g.S.SeqStore.constants g.S.SeqStore.fault_count (its c.args.self.now) (writes c.args.self.now) c.in-Some.part.now.store (view c.args.pass.now) (view_of c.take_store-home.new.pass) c.take_store-home.result (may_visit (its c.args.self.now).frame c.in-Some.part.now.store (stores_of c.in-Some.rest.now) (view c.args.pass.now).caller (subst (λ (ps : List Part). Climbs (its c.args.self.now).frame (stores_of ps) (view c.args.pass.now).caller.held) c.in-Some.ensures.cases.0 c.requires.climbs) c.requires.ask.allowance) c.take_store-home.ensures.step c.fail_since.ensures.step.0) (view c.fail_since.new.pass)) c.in_default-broken.is (gave_up_done g.S.SeqStore.lawful g.S.SeqStore.stands g.S.SeqStore.store_view g.S.SeqStore.constants g.S.SeqStore.fault_count (its c.args.self.now) (writes c.args.self.now) c.in-Some.part.now.store (view c.args.pass.now) (view_of c.take_store-home.new.pass) c.take_store-home.result (may_visit (its c.args.self.now).frame c.in-Some.part.now.store (stores_of c.in-Some.rest.now) (view c.args.pass.now).caller (subst (λ (ps : List Part). Climbs (its c.args.self.now).frame (stores_of ps) (view c.args.pass.now).caller.held) c.in-Some.ensures.cases.0 c.requires.climbs) c.requires.ask.allowance) c.take_store-home.ensures.step (record { store = c.take_store-home.result.store; broken = Some (g.S.SeqStore.fault_count c.take_store-home.result.store) }) (view c.fail_since.new.pass) c.requires.own.breaking c.fail_since.ensures.step)))
    (λ z e. subst (Risen (its c.args.self.now).frame (count_at g.S.SeqStore.fault_count (its c.args.self.now).start)) (told (g.S.SeqStore.fault_count c.take_store-home.result.store) z e) (c.in-Some.part.now.store, (subst (λ (ps : List Part). Climbs (its c.args.self.now).frame (stores_of ps) (view c.args.pass.now).caller.held) c.in-Some.ensures.cases.0 c.requires.climbs).0, rose_less (count_at g.S.SeqStore.fault_count (its c.args.self.now).start c.in-Some.part.now.store) (c.has_risen.ensures.risen c.if-has_risen.true).0 (g.S.SeqStore.fault_count c.take_store-home.result.store) ((subst (λ (ps : List Part). AllFit (setting g.S.SeqStore.lawful g.S.SeqStore.store_view g.S.SeqStore.fault_count c.args.self.now) c.args.work g.J.Asked.entry (view c.args.pass.now) ps) c.in-Some.ensures.cases.0 c.requires.fit).0.seen (c.has_risen.ensures.risen c.if-has_risen.true).0 (c.has_risen.ensures.risen c.if-has_risen.true).1).1 (let q = (c.has_risen.ensures.risen c.if-has_risen.true).2 in let e = c.faults.ensures in omega arith))) (tt))

pub returns-in-Err-Fault-clause-own : goal.returns-in-Err-Fault-clause-own
returns-in-Err-Fault-clause-own g t c = let z = gave_up_done g.S.SeqStore.lawful g.S.SeqStore.stands g.S.SeqStore.store_view g.S.SeqStore.constants g.S.SeqStore.fault_count (its c.args.self.now) (writes c.args.self.now) c.in-Some.part.now.store (view c.args.pass.now) (view_of c.take_store-home.new.pass) c.take_store-home.result (may_visit (its c.args.self.now).frame c.in-Some.part.now.store (stores_of c.in-Some.rest.now) (view c.args.pass.now).caller (subst (λ (ps : List Part). Climbs (its c.args.self.now).frame (stores_of ps) (view c.args.pass.now).caller.held) c.in-Some.ensures.cases.0 c.requires.climbs) c.requires.ask.allowance) c.take_store-home.ensures.step (record { store = c.prepare.new.home.store; broken = Some (g.S.SeqStore.fault_count c.prepare.new.home.store) }) (view c.fail.new.pass) c.requires.own.breaking c.fail.ensures.step in
    record { own = c.fail.ensures.own; held = z.held; breaking = z.breaking; fresh = c.requires.own.fresh; writable = c.requires.own.writable }

pub returns-in-Err-Fault-clause-visits : goal.returns-in-Err-Fault-clause-visits
returns-in-Err-Fault-clause-visits g t c = subst (λ (ps : List Part). Visits (setting g.S.SeqStore.lawful g.S.SeqStore.store_view g.S.SeqStore.fault_count c.args.self.now) (OverBy g.S.SeqStore.stands g.S.SeqStore.store_view g.S.SeqStore.constants (its c.args.self.now) c.args.work) (RoomBy g.S.SeqStore.stands g.S.SeqStore.store_view g.S.SeqStore.constants (its c.args.self.now) c.args.work) g.J.Asked.entry ps (view c.args.pass.now) c.fail.result (view c.fail.new.pass)) (sym c.in-Some.ensures.cases.0)
    (stopped_at g.S.SeqStore.lawful g.S.SeqStore.stands g.S.SeqStore.store_view g.S.SeqStore.constants g.S.SeqStore.fault_count (its c.args.self.now) (writes c.args.self.now) c.in-Some.part.now (view c.args.pass.now) (view_of c.take_store-home.new.pass) c.take_store-home.result (may_visit (its c.args.self.now).frame c.in-Some.part.now.store (stores_of c.in-Some.rest.now) (view c.args.pass.now).caller (subst (λ (ps : List Part). Climbs (its c.args.self.now).frame (stores_of ps) (view c.args.pass.now).caller.held) c.in-Some.ensures.cases.0 c.requires.climbs) c.requires.ask.allowance) c.take_store-home.ensures.step (OverBy g.S.SeqStore.stands g.S.SeqStore.store_view g.S.SeqStore.constants (its c.args.self.now) c.args.work) (RoomBy g.S.SeqStore.stands g.S.SeqStore.store_view g.S.SeqStore.constants (its c.args.self.now) c.args.work) g.J.Asked.entry c.in-Some.rest.now c.fail.result (statuses.System (g.S.SeqStore.fault_count c.prepare.new.home.store)) (record { store = c.prepare.new.home.store; broken = Some (g.S.SeqStore.fault_count c.prepare.new.home.store) }) (view c.fail.new.pass) c.fail.ensures.answer c.requires.own.breaking c.fail.ensures.step
    (widened (setting g.S.SeqStore.lawful g.S.SeqStore.store_view g.S.SeqStore.fault_count c.args.self.now) c.in-Some.part.now c.in-Some.rest.now (view c.args.pass.now) (view c.fail.new.pass) (statuses.System (g.S.SeqStore.fault_count c.prepare.new.home.store)) (failed_here g.S.SeqStore.lawful g.S.SeqStore.stands g.S.SeqStore.store_view g.S.SeqStore.constants g.S.SeqStore.fault_count (its c.args.self.now) (writes c.args.self.now) c.in-Some.part.now.store (view c.args.pass.now) (view_of c.take_store-home.new.pass) c.take_store-home.result (may_visit (its c.args.self.now).frame c.in-Some.part.now.store (stores_of c.in-Some.rest.now) (view c.args.pass.now).caller (subst (λ (ps : List Part). Climbs (its c.args.self.now).frame (stores_of ps) (view c.args.pass.now).caller.held) c.in-Some.ensures.cases.0 c.requires.climbs) c.requires.ask.allowance) c.take_store-home.ensures.step (g.S.SeqStore.fault_count c.prepare.new.home.store) (record { store = c.prepare.new.home.store; broken = Some (g.S.SeqStore.fault_count c.prepare.new.home.store) }) (looked_on g.S.SeqStore.lawful g.S.SeqStore.stands g.S.SeqStore.store_view g.S.SeqStore.constants g.S.SeqStore.fault_count (its c.args.self.now) (writes c.args.self.now) c.in-Some.part.now.store (view c.args.pass.now) (view_of c.take_store-home.new.pass) c.take_store-home.result (may_visit (its c.args.self.now).frame c.in-Some.part.now.store (stores_of c.in-Some.rest.now) (view c.args.pass.now).caller (subst (λ (ps : List Part). Climbs (its c.args.self.now).frame (stores_of ps) (view c.args.pass.now).caller.held) c.in-Some.ensures.cases.0 c.requires.climbs) c.requires.ask.allowance) c.take_store-home.ensures.step c.fail.ensures.step.0) (view c.fail.new.pass) c.in_default-broken.is refl refl (fault_rose (g.S.SeqStore.fault_count c.take_store-home.result.store) (g.S.SeqStore.fault_count c.prepare.new.home.store) c.prepare.result (c.in-Err-Fault.is ∙ ap Err c.in-Err-Fault.field-0-is) c.prepare.ensures.cause) (gave_up_done g.S.SeqStore.lawful g.S.SeqStore.stands g.S.SeqStore.store_view g.S.SeqStore.constants g.S.SeqStore.fault_count (its c.args.self.now) (writes c.args.self.now) c.in-Some.part.now.store (view c.args.pass.now) (view_of c.take_store-home.new.pass) c.take_store-home.result (may_visit (its c.args.self.now).frame c.in-Some.part.now.store (stores_of c.in-Some.rest.now) (view c.args.pass.now).caller (subst (λ (ps : List Part). Climbs (its c.args.self.now).frame (stores_of ps) (view c.args.pass.now).caller.held) c.in-Some.ensures.cases.0 c.requires.climbs) c.requires.ask.allowance) c.take_store-home.ensures.step (record { store = c.prepare.new.home.store; broken = Some (g.S.SeqStore.fault_count c.prepare.new.home.store) }) (view c.fail.new.pass) c.requires.own.breaking c.fail.ensures.step)))
    (λ z e. (c.in-Some.part.now.store, (subst (λ (ps : List Part). Climbs (its c.args.self.now).frame (stores_of ps) (view c.args.pass.now).caller.held) c.in-Some.ensures.cases.0 c.requires.climbs).0, subst (Rose (count_at g.S.SeqStore.fault_count (its c.args.self.now).start c.in-Some.part.now.store)) (told (g.S.SeqStore.fault_count c.prepare.new.home.store) z e) (rose_less (count_at g.S.SeqStore.fault_count (its c.args.self.now).start c.in-Some.part.now.store) (g.S.SeqStore.fault_count c.take_store-home.result.store) (g.S.SeqStore.fault_count c.prepare.new.home.store) c.take_store-home.ensures.step.6 (fault_rose (g.S.SeqStore.fault_count c.take_store-home.result.store) (g.S.SeqStore.fault_count c.prepare.new.home.store) c.prepare.result (c.in-Err-Fault.is ∙ ap Err c.in-Err-Fault.field-0-is) c.prepare.ensures.cause)))) (tt))

pub returns-in-Err-Full-clause-own : goal.returns-in-Err-Full-clause-own
returns-in-Err-Full-clause-own g t c = let z = gave_up_done g.S.SeqStore.lawful g.S.SeqStore.stands g.S.SeqStore.store_view g.S.SeqStore.constants g.S.SeqStore.fault_count (its c.args.self.now) (writes c.args.self.now) c.in-Some.part.now.store (view c.args.pass.now) (view_of c.take_store-home.new.pass) c.take_store-home.result (may_visit (its c.args.self.now).frame c.in-Some.part.now.store (stores_of c.in-Some.rest.now) (view c.args.pass.now).caller (subst (λ (ps : List Part). Climbs (its c.args.self.now).frame (stores_of ps) (view c.args.pass.now).caller.held) c.in-Some.ensures.cases.0 c.requires.climbs) c.requires.ask.allowance) c.take_store-home.ensures.step c.prepare.new.home (view c.refuse-in-Err-Full.new.pass) c.requires.own.breaking c.refuse-in-Err-Full.ensures.step in
    record { own = c.refuse-in-Err-Full.ensures.own; held = z.held; breaking = z.breaking; fresh = c.requires.own.fresh; writable = c.requires.own.writable }

pub returns-in-Err-Full-clause-visits : goal.returns-in-Err-Full-clause-visits
returns-in-Err-Full-clause-visits g t c = subst (λ (ps : List Part). Visits (setting g.S.SeqStore.lawful g.S.SeqStore.store_view g.S.SeqStore.fault_count c.args.self.now) (OverBy g.S.SeqStore.stands g.S.SeqStore.store_view g.S.SeqStore.constants (its c.args.self.now) c.args.work) (RoomBy g.S.SeqStore.stands g.S.SeqStore.store_view g.S.SeqStore.constants (its c.args.self.now) c.args.work) g.J.Asked.entry ps (view c.args.pass.now) c.refuse-in-Err-Full.result (view c.refuse-in-Err-Full.new.pass)) (sym c.in-Some.ensures.cases.0)
    (stopped_at g.S.SeqStore.lawful g.S.SeqStore.stands g.S.SeqStore.store_view g.S.SeqStore.constants g.S.SeqStore.fault_count (its c.args.self.now) (writes c.args.self.now) c.in-Some.part.now (view c.args.pass.now) (view_of c.take_store-home.new.pass) c.take_store-home.result (may_visit (its c.args.self.now).frame c.in-Some.part.now.store (stores_of c.in-Some.rest.now) (view c.args.pass.now).caller (subst (λ (ps : List Part). Climbs (its c.args.self.now).frame (stores_of ps) (view c.args.pass.now).caller.held) c.in-Some.ensures.cases.0 c.requires.climbs) c.requires.ask.allowance) c.take_store-home.ensures.step (OverBy g.S.SeqStore.stands g.S.SeqStore.store_view g.S.SeqStore.constants (its c.args.self.now) c.args.work) (RoomBy g.S.SeqStore.stands g.S.SeqStore.store_view g.S.SeqStore.constants (its c.args.self.now) c.args.work) g.J.Asked.entry c.in-Some.rest.now c.refuse-in-Err-Full.result (statuses.Full c.in-Err-Full.size c.in-Err-Full.need c.in-Err-Full.limit) c.prepare.new.home (view c.refuse-in-Err-Full.new.pass) (rw c.in-Err-Full.field-0-is at c.refuse-in-Err-Full.ensures.answer) c.requires.own.breaking c.refuse-in-Err-Full.ensures.step
    (widened (setting g.S.SeqStore.lawful g.S.SeqStore.store_view g.S.SeqStore.fault_count c.args.self.now) c.in-Some.part.now c.in-Some.rest.now (view c.args.pass.now) (view c.refuse-in-Err-Full.new.pass) (statuses.Full c.in-Err-Full.size c.in-Err-Full.need c.in-Err-Full.limit) (stayed_here g.S.SeqStore.lawful g.S.SeqStore.stands g.S.SeqStore.store_view g.S.SeqStore.constants g.S.SeqStore.fault_count (its c.args.self.now) (writes c.args.self.now) c.in-Some.part.now.store (view c.args.pass.now) (view_of c.take_store-home.new.pass) c.take_store-home.result (may_visit (its c.args.self.now).frame c.in-Some.part.now.store (stores_of c.in-Some.rest.now) (view c.args.pass.now).caller (subst (λ (ps : List Part). Climbs (its c.args.self.now).frame (stores_of ps) (view c.args.pass.now).caller.held) c.in-Some.ensures.cases.0 c.requires.climbs) c.requires.ask.allowance) c.take_store-home.ensures.step (statuses.Full c.in-Err-Full.size c.in-Err-Full.need c.in-Err-Full.limit) c.prepare.new.home (looked_on g.S.SeqStore.lawful g.S.SeqStore.stands g.S.SeqStore.store_view g.S.SeqStore.constants g.S.SeqStore.fault_count (its c.args.self.now) (writes c.args.self.now) c.in-Some.part.now.store (view c.args.pass.now) (view_of c.take_store-home.new.pass) c.take_store-home.result (may_visit (its c.args.self.now).frame c.in-Some.part.now.store (stores_of c.in-Some.rest.now) (view c.args.pass.now).caller (subst (λ (ps : List Part). Climbs (its c.args.self.now).frame (stores_of ps) (view c.args.pass.now).caller.held) c.in-Some.ensures.cases.0 c.requires.climbs) c.requires.ask.allowance) c.take_store-home.ensures.step c.refuse-in-Err-Full.ensures.step.0) (view c.refuse-in-Err-Full.new.pass) tt c.in_default-broken.is c.prepare.ensures.whole (gave_up_done g.S.SeqStore.lawful g.S.SeqStore.stands g.S.SeqStore.store_view g.S.SeqStore.constants g.S.SeqStore.fault_count (its c.args.self.now) (writes c.args.self.now) c.in-Some.part.now.store (view c.args.pass.now) (view_of c.take_store-home.new.pass) c.take_store-home.result (may_visit (its c.args.self.now).frame c.in-Some.part.now.store (stores_of c.in-Some.rest.now) (view c.args.pass.now).caller (subst (λ (ps : List Part). Climbs (its c.args.self.now).frame (stores_of ps) (view c.args.pass.now).caller.held) c.in-Some.ensures.cases.0 c.requires.climbs) c.requires.ask.allowance) c.take_store-home.ensures.step c.prepare.new.home (view c.refuse-in-Err-Full.new.pass) c.requires.own.breaking c.refuse-in-Err-Full.ensures.step)))
    (λ z e. absurd (cc (e))) (record { store = c.in-Some.part.now.store; member = has_head c.in-Some.part.now.store (stores_of c.in-Some.rest.now); passed = over_by g.S.SeqStore.lawful g.S.SeqStore.stands g.S.SeqStore.store_view g.S.SeqStore.constants g.S.SeqStore.fault_count (its c.args.self.now) (writes c.args.self.now) c.in-Some.part.now (view c.args.pass.now) (view_of c.take_store-home.new.pass) c.take_store-home.result (may_visit (its c.args.self.now).frame c.in-Some.part.now.store (stores_of c.in-Some.rest.now) (view c.args.pass.now).caller (subst (λ (ps : List Part). Climbs (its c.args.self.now).frame (stores_of ps) (view c.args.pass.now).caller.held) c.in-Some.ensures.cases.0 c.requires.climbs) c.requires.ask.allowance) c.take_store-home.ensures.step c.args.work g.J.Asked.entry c.prepare.result c.in-Err-Full.size c.in-Err-Full.need c.in-Err-Full.limit (c.in-Err-Full.is ∙ ap Err c.in-Err-Full.field-0-is) (subst (λ (w : Work). TellsFullBy w (g.S.SeqStore.constants c.take_store-home.result.store) (g.S.SeqStore.store_view c.take_store-home.result.store) c.in-Some.part.now.changes c.prepare.result) c.work_in-here.ensures c.prepare.ensures.full) c.in_default-broken.is (subst (λ (ps : List Part). AllFit (setting g.S.SeqStore.lawful g.S.SeqStore.store_view g.S.SeqStore.fault_count c.args.self.now) c.args.work g.J.Asked.entry (view c.args.pass.now) ps) c.in-Some.ensures.cases.0 c.requires.fit).0 c.refuse-in-Err-Full.ensures.step.0 c.refuse-in-Err-Full.ensures.step.1.still; order = λ j has_j less tells. absurd (not_lower (its c.args.self.now).frame c.in-Some.part.now.store (stores_of c.in-Some.rest.now) (view c.args.pass.now).caller.held (subst (λ (ps : List Part). Climbs (its c.args.self.now).frame (stores_of ps) (view c.args.pass.now).caller.held) c.in-Some.ensures.cases.0 c.requires.climbs) j has_j less) }))

pub returns-in-Err-NoMemory-clause-own : goal.returns-in-Err-NoMemory-clause-own
returns-in-Err-NoMemory-clause-own g t c = let z = gave_up_done g.S.SeqStore.lawful g.S.SeqStore.stands g.S.SeqStore.store_view g.S.SeqStore.constants g.S.SeqStore.fault_count (its c.args.self.now) (writes c.args.self.now) c.in-Some.part.now.store (view c.args.pass.now) (view_of c.take_store-home.new.pass) c.take_store-home.result (may_visit (its c.args.self.now).frame c.in-Some.part.now.store (stores_of c.in-Some.rest.now) (view c.args.pass.now).caller (subst (λ (ps : List Part). Climbs (its c.args.self.now).frame (stores_of ps) (view c.args.pass.now).caller.held) c.in-Some.ensures.cases.0 c.requires.climbs) c.requires.ask.allowance) c.take_store-home.ensures.step c.prepare.new.home (view c.refuse-in-Err-NoMemory.new.pass) c.requires.own.breaking c.refuse-in-Err-NoMemory.ensures.step in
    record { own = c.refuse-in-Err-NoMemory.ensures.own; held = z.held; breaking = z.breaking; fresh = c.requires.own.fresh; writable = c.requires.own.writable }

pub returns-in-Err-NoMemory-clause-visits : goal.returns-in-Err-NoMemory-clause-visits
returns-in-Err-NoMemory-clause-visits g t c = subst (λ (ps : List Part). Visits (setting g.S.SeqStore.lawful g.S.SeqStore.store_view g.S.SeqStore.fault_count c.args.self.now) (OverBy g.S.SeqStore.stands g.S.SeqStore.store_view g.S.SeqStore.constants (its c.args.self.now) c.args.work) (RoomBy g.S.SeqStore.stands g.S.SeqStore.store_view g.S.SeqStore.constants (its c.args.self.now) c.args.work) g.J.Asked.entry ps (view c.args.pass.now) c.refuse-in-Err-NoMemory.result (view c.refuse-in-Err-NoMemory.new.pass)) (sym c.in-Some.ensures.cases.0)
    (stopped_at g.S.SeqStore.lawful g.S.SeqStore.stands g.S.SeqStore.store_view g.S.SeqStore.constants g.S.SeqStore.fault_count (its c.args.self.now) (writes c.args.self.now) c.in-Some.part.now (view c.args.pass.now) (view_of c.take_store-home.new.pass) c.take_store-home.result (may_visit (its c.args.self.now).frame c.in-Some.part.now.store (stores_of c.in-Some.rest.now) (view c.args.pass.now).caller (subst (λ (ps : List Part). Climbs (its c.args.self.now).frame (stores_of ps) (view c.args.pass.now).caller.held) c.in-Some.ensures.cases.0 c.requires.climbs) c.requires.ask.allowance) c.take_store-home.ensures.step (OverBy g.S.SeqStore.stands g.S.SeqStore.store_view g.S.SeqStore.constants (its c.args.self.now) c.args.work) (RoomBy g.S.SeqStore.stands g.S.SeqStore.store_view g.S.SeqStore.constants (its c.args.self.now) c.args.work) g.J.Asked.entry c.in-Some.rest.now c.refuse-in-Err-NoMemory.result statuses.NoMemory c.prepare.new.home (view c.refuse-in-Err-NoMemory.new.pass) c.refuse-in-Err-NoMemory.ensures.answer c.requires.own.breaking c.refuse-in-Err-NoMemory.ensures.step
    (widened (setting g.S.SeqStore.lawful g.S.SeqStore.store_view g.S.SeqStore.fault_count c.args.self.now) c.in-Some.part.now c.in-Some.rest.now (view c.args.pass.now) (view c.refuse-in-Err-NoMemory.new.pass) statuses.NoMemory (stayed_here g.S.SeqStore.lawful g.S.SeqStore.stands g.S.SeqStore.store_view g.S.SeqStore.constants g.S.SeqStore.fault_count (its c.args.self.now) (writes c.args.self.now) c.in-Some.part.now.store (view c.args.pass.now) (view_of c.take_store-home.new.pass) c.take_store-home.result (may_visit (its c.args.self.now).frame c.in-Some.part.now.store (stores_of c.in-Some.rest.now) (view c.args.pass.now).caller (subst (λ (ps : List Part). Climbs (its c.args.self.now).frame (stores_of ps) (view c.args.pass.now).caller.held) c.in-Some.ensures.cases.0 c.requires.climbs) c.requires.ask.allowance) c.take_store-home.ensures.step statuses.NoMemory c.prepare.new.home (looked_on g.S.SeqStore.lawful g.S.SeqStore.stands g.S.SeqStore.store_view g.S.SeqStore.constants g.S.SeqStore.fault_count (its c.args.self.now) (writes c.args.self.now) c.in-Some.part.now.store (view c.args.pass.now) (view_of c.take_store-home.new.pass) c.take_store-home.result (may_visit (its c.args.self.now).frame c.in-Some.part.now.store (stores_of c.in-Some.rest.now) (view c.args.pass.now).caller (subst (λ (ps : List Part). Climbs (its c.args.self.now).frame (stores_of ps) (view c.args.pass.now).caller.held) c.in-Some.ensures.cases.0 c.requires.climbs) c.requires.ask.allowance) c.take_store-home.ensures.step c.refuse-in-Err-NoMemory.ensures.step.0) (view c.refuse-in-Err-NoMemory.new.pass) tt c.in_default-broken.is c.prepare.ensures.whole (gave_up_done g.S.SeqStore.lawful g.S.SeqStore.stands g.S.SeqStore.store_view g.S.SeqStore.constants g.S.SeqStore.fault_count (its c.args.self.now) (writes c.args.self.now) c.in-Some.part.now.store (view c.args.pass.now) (view_of c.take_store-home.new.pass) c.take_store-home.result (may_visit (its c.args.self.now).frame c.in-Some.part.now.store (stores_of c.in-Some.rest.now) (view c.args.pass.now).caller (subst (λ (ps : List Part). Climbs (its c.args.self.now).frame (stores_of ps) (view c.args.pass.now).caller.held) c.in-Some.ensures.cases.0 c.requires.climbs) c.requires.ask.allowance) c.take_store-home.ensures.step c.prepare.new.home (view c.refuse-in-Err-NoMemory.new.pass) c.requires.own.breaking c.refuse-in-Err-NoMemory.ensures.step)))
    (λ z e. absurd (cc (e))) (tt))

pub settle-status-requires-clause-whole : goal.settle-status-requires-clause-whole
settle-status-requires-clause-whole g t c = (c.prepare.ensures.whole, marked_then (setting g.S.SeqStore.lawful g.S.SeqStore.store_view g.S.SeqStore.fault_count c.args.self.now) c.in-Some.rest.now (view_of c.take_store-home.new.pass) (view c.visit-sum.new.pass) c.visit-sum.result.0.status c.in-Some.part.now.store (apart (its c.args.self.now).frame c.in-Some.part.now.store (stores_of c.in-Some.rest.now) (view c.args.pass.now).caller.held (subst (λ (ps : List Part). Climbs (its c.args.self.now).frame (stores_of ps) (view c.args.pass.now).caller.held) c.in-Some.ensures.cases.0 c.requires.climbs)) c.visit-sum.ensures.visits.stores ∙ (marked_is g.S.SeqStore.lawful g.S.SeqStore.stands g.S.SeqStore.store_view g.S.SeqStore.constants g.S.SeqStore.fault_count (its c.args.self.now) (writes c.args.self.now) c.in-Some.part.now.store (view c.args.pass.now) (view_of c.take_store-home.new.pass) c.take_store-home.result (may_visit (its c.args.self.now).frame c.in-Some.part.now.store (stores_of c.in-Some.rest.now) (view c.args.pass.now).caller (subst (λ (ps : List Part). Climbs (its c.args.self.now).frame (stores_of ps) (view c.args.pass.now).caller.held) c.in-Some.ensures.cases.0 c.requires.climbs) c.requires.ask.allowance) c.take_store-home.ensures.step ∙ c.in_default-broken.is))

pub settle-status-requires-clause-holds : goal.settle-status-requires-clause-holds
settle-status-requires-clause-holds g t c = ((subst (λ (ps : List Part). Climbs (its c.args.self.now).frame (stores_of ps) (view c.args.pass.now).caller.held) c.in-Some.ensures.cases.0 c.requires.climbs).0, ap (has (store_lock (its c.args.self.now).frame c.in-Some.part.now.store)) c.visit-sum.ensures.own.held ∙ holds g.S.SeqStore.lawful g.S.SeqStore.stands g.S.SeqStore.store_view g.S.SeqStore.constants g.S.SeqStore.fault_count (its c.args.self.now) (writes c.args.self.now) c.in-Some.part.now.store (view c.args.pass.now) (view_of c.take_store-home.new.pass) c.take_store-home.result (may_visit (its c.args.self.now).frame c.in-Some.part.now.store (stores_of c.in-Some.rest.now) (view c.args.pass.now).caller (subst (λ (ps : List Part). Climbs (its c.args.self.now).frame (stores_of ps) (view c.args.pass.now).caller.held) c.in-Some.ensures.cases.0 c.requires.climbs) c.requires.ask.allowance) c.take_store-home.ensures.step, (let e = noted_then (setting g.S.SeqStore.lawful g.S.SeqStore.store_view g.S.SeqStore.fault_count c.args.self.now) c.in-Some.rest.now (view_of c.take_store-home.new.pass) (view c.visit-sum.new.pass) c.visit-sum.result.0.status c.in-Some.part.now.store (apart (its c.args.self.now).frame c.in-Some.part.now.store (stores_of c.in-Some.rest.now) (view c.args.pass.now).caller.held (subst (λ (ps : List Part). Climbs (its c.args.self.now).frame (stores_of ps) (view c.args.pass.now).caller.held) c.in-Some.ensures.cases.0 c.requires.climbs)) c.visit-sum.ensures.visits.stores in let q = (c.in-Ok.ensures.out).counted in omega arith))

pub settle-status-requires-clause-out : goal.settle-status-requires-clause-out
settle-status-requires-clause-out g t c missing = still_out g.S.SeqStore.lawful g.S.SeqStore.stands g.S.SeqStore.store_view g.S.SeqStore.constants g.S.SeqStore.fault_count (its c.args.self.now) (writes c.args.self.now) c.in-Some.part.now (view c.args.pass.now) (view_of c.take_store-home.new.pass) c.take_store-home.result c.take_store-home.ensures.step c.args.work (OverBy g.S.SeqStore.stands g.S.SeqStore.store_view g.S.SeqStore.constants (its c.args.self.now) c.args.work) (RoomBy g.S.SeqStore.stands g.S.SeqStore.store_view g.S.SeqStore.constants (its c.args.self.now) c.args.work) g.J.Asked.entry c.in-Some.rest.now c.visit-sum.result.0 (view c.visit-sum.new.pass) c.visit-sum.ensures.visits c.visit-sum.ensures.own.held (apart (its c.args.self.now).frame c.in-Some.part.now.store (stores_of c.in-Some.rest.now) (view c.args.pass.now).caller.held (subst (λ (ps : List Part). Climbs (its c.args.self.now).frame (stores_of ps) (view c.args.pass.now).caller.held) c.in-Some.ensures.cases.0 c.requires.climbs)) c.prepare.new.home missing (c.in-Ok.ensures.out)

pub settle-status-requires-clause-due : goal.settle-status-requires-clause-due
settle-status-requires-clause-due g t c n is = (subst (λ (w : Work). IsDue g.S.SeqStore.lawful g.S.SeqStore.stands g.S.SeqStore.store_view g.S.SeqStore.constants g.S.SeqStore.fault_count (its c.args.self.now) g.S.SeqStore.reserved w c.in-Some.part.now.store ((its c.args.self.now).frame.base + n) (view c.visit-sum.new.pass) c.prepare.new.home.store) (sym c.work_in-here.ensures) (due_out g.S.SeqStore.lawful g.S.SeqStore.stands g.S.SeqStore.store_view g.S.SeqStore.constants g.S.SeqStore.fault_count (its c.args.self.now) (writes c.args.self.now) c.in-Some.part.now (view c.args.pass.now) (view_of c.take_store-home.new.pass) c.take_store-home.result c.take_store-home.ensures.step c.args.work (OverBy g.S.SeqStore.stands g.S.SeqStore.store_view g.S.SeqStore.constants (its c.args.self.now) c.args.work) (RoomBy g.S.SeqStore.stands g.S.SeqStore.store_view g.S.SeqStore.constants (its c.args.self.now) c.args.work) g.J.Asked.entry c.in-Some.rest.now c.visit-sum.result.0 (view c.visit-sum.new.pass) c.visit-sum.ensures.visits c.visit-sum.ensures.own.held (apart (its c.args.self.now).frame c.in-Some.part.now.store (stores_of c.in-Some.rest.now) (view c.args.pass.now).caller.held (subst (λ (ps : List Part). Climbs (its c.args.self.now).frame (stores_of ps) (view c.args.pass.now).caller.held) c.in-Some.ensures.cases.0 c.requires.climbs)) g.S.SeqStore.reserved c.prepare.new.home.store c.prepare.new.home.broken n _ is refl c.prepare.ensures.whole (marked_is g.S.SeqStore.lawful g.S.SeqStore.stands g.S.SeqStore.store_view g.S.SeqStore.constants g.S.SeqStore.fault_count (its c.args.self.now) (writes c.args.self.now) c.in-Some.part.now.store (view c.args.pass.now) (view_of c.take_store-home.new.pass) c.take_store-home.result (may_visit (its c.args.self.now).frame c.in-Some.part.now.store (stores_of c.in-Some.rest.now) (view c.args.pass.now).caller (subst (λ (ps : List Part). Climbs (its c.args.self.now).frame (stores_of ps) (view c.args.pass.now).caller.held) c.in-Some.ensures.cases.0 c.requires.climbs) c.requires.ask.allowance) c.take_store-home.ensures.step ∙ c.in_default-broken.is) (c.in-Ok.ensures.out) (tells_still g.S.SeqStore.lawful g.S.SeqStore.stands g.S.SeqStore.store_view g.S.SeqStore.constants (its c.args.self.now) c.requires.own.fresh c.in-Some.part.now.store (subst (λ (ps : List Part). Climbs (its c.args.self.now).frame (stores_of ps) (view c.args.pass.now).caller.held) c.in-Some.ensures.cases.0 c.requires.climbs).0 c.prepare.new.home.store _ _ ((c.in-Ok.ensures.out).owed c.prepare.ensures.whole)) (subst (λ (ps : List Part). AllFit (setting g.S.SeqStore.lawful g.S.SeqStore.store_view g.S.SeqStore.fault_count c.args.self.now) c.args.work g.J.Asked.entry (view c.args.pass.now) ps) c.in-Some.ensures.cases.0 c.requires.fit).0 (subst (λ (w : Work). IsPrepared g.S.SeqStore.reserved w c.in-Some.part.now.changes c.prepare.new.home.store) c.work_in-here.ensures c.in-Ok.ensures.reserved)), (c.visit-sum.ensures.visits.made n is).3)

pub returns-in-Ok-clause-own : goal.returns-in-Ok-clause-own
returns-in-Ok-clause-own g t c = let z = done g.S.SeqStore.lawful g.S.SeqStore.stands g.S.SeqStore.store_view g.S.SeqStore.constants g.S.SeqStore.fault_count (its c.args.self.now) (writes c.args.self.now) c.in-Some.part.now (view c.args.pass.now) (view_of c.take_store-home.new.pass) c.take_store-home.result c.take_store-home.ensures.step c.args.work (OverBy g.S.SeqStore.stands g.S.SeqStore.store_view g.S.SeqStore.constants (its c.args.self.now) c.args.work) (RoomBy g.S.SeqStore.stands g.S.SeqStore.store_view g.S.SeqStore.constants (its c.args.self.now) c.args.work) g.J.Asked.entry c.in-Some.rest.now c.visit-sum.result.0 (view c.visit-sum.new.pass) c.visit-sum.ensures.visits c.visit-sum.ensures.own.held (apart (its c.args.self.now).frame c.in-Some.part.now.store (stores_of c.in-Some.rest.now) (view c.args.pass.now).caller.held (subst (λ (ps : List Part). Climbs (its c.args.self.now).frame (stores_of ps) (view c.args.pass.now).caller.held) c.in-Some.ensures.cases.0 c.requires.climbs)) c.settle-status.result c.prepare.new.home.store c.settle-status.new.home (view_of c.give_store.new.pass) c.in_default-broken.is (kept_count (g.S.SeqStore.fault_count c.take_store-home.result.store) (g.S.SeqStore.fault_count c.prepare.new.home.store) c.prepare.result c.in-Ok.sum c.in-Ok.is c.prepare.ensures.cause) c.settle-status.ensures.settled c.give_store.ensures.step c.visit-sum.ensures.own.breaking (above (its c.args.self.now).frame c.in-Some.part.now.store (stores_of c.in-Some.rest.now) (view c.args.pass.now).caller.held (subst (λ (ps : List Part). Climbs (its c.args.self.now).frame (stores_of ps) (view c.args.pass.now).caller.held) c.in-Some.ensures.cases.0 c.requires.climbs)) (subst (λ (ps : List Part). AllFit (setting g.S.SeqStore.lawful g.S.SeqStore.store_view g.S.SeqStore.fault_count c.args.self.now) c.args.work g.J.Asked.entry (view c.args.pass.now) ps) c.in-Some.ensures.cases.0 c.requires.fit).0 (λ q e less. let le = c.has_risen.ensures.same c.if-has_risen.false q e in let f = c.faults.ensures in absurd (omega arith)) (subst (λ (ps : List Part). Climbs (its c.args.self.now).frame (stores_of ps) (view c.args.pass.now).caller.held) c.in-Some.ensures.cases.0 c.requires.climbs).0 (λ log st tells. room_by g.S.SeqStore.lawful g.S.SeqStore.stands g.S.SeqStore.store_view g.S.SeqStore.constants g.S.SeqStore.fault_count (its c.args.self.now) (writes c.args.self.now) c.in-Some.part.now (view c.args.pass.now) (view_of c.take_store-home.new.pass) c.take_store-home.result (may_visit (its c.args.self.now).frame c.in-Some.part.now.store (stores_of c.in-Some.rest.now) (view c.args.pass.now).caller (subst (λ (ps : List Part). Climbs (its c.args.self.now).frame (stores_of ps) (view c.args.pass.now).caller.held) c.in-Some.ensures.cases.0 c.requires.climbs) c.requires.ask.allowance) c.take_store-home.ensures.step c.args.work g.J.Asked.entry c.prepare.result c.in-Ok.sum c.in-Ok.is (subst (λ (w : Work). TellsFullBy w (g.S.SeqStore.constants c.take_store-home.result.store) (g.S.SeqStore.store_view c.take_store-home.result.store) c.in-Some.part.now.changes c.prepare.result) c.work_in-here.ensures c.prepare.ensures.full) c.in_default-broken.is (subst (λ (ps : List Part). AllFit (setting g.S.SeqStore.lawful g.S.SeqStore.store_view g.S.SeqStore.fault_count c.args.self.now) c.args.work g.J.Asked.entry (view c.args.pass.now) ps) c.in-Some.ensures.cases.0 c.requires.fit).0 log st tells) in
    record { own = c.give_store.ensures.own; held = z.held ∙ ap (without (store_lock (its c.args.self.now).frame c.in-Some.part.now.store)) (c.visit-sum.ensures.own.held ∙ ap (λ (q : View). q.caller.held) c.take_store-home.ensures.step.2) ∙ without_new (store_lock (its c.args.self.now).frame c.in-Some.part.now.store) (view c.args.pass.now).caller.held (subst (λ (ps : List Part). Climbs (its c.args.self.now).frame (stores_of ps) (view c.args.pass.now).caller.held) c.in-Some.ensures.cases.0 c.requires.climbs).1; breaking = z.breaking; fresh = c.requires.own.fresh; writable = c.requires.own.writable }

pub returns-in-Ok-clause-visits : goal.returns-in-Ok-clause-visits
returns-in-Ok-clause-visits g t c = subst (λ (ps : List Part). Visits (setting g.S.SeqStore.lawful g.S.SeqStore.store_view g.S.SeqStore.fault_count c.args.self.now) (OverBy g.S.SeqStore.stands g.S.SeqStore.store_view g.S.SeqStore.constants (its c.args.self.now) c.args.work) (RoomBy g.S.SeqStore.stands g.S.SeqStore.store_view g.S.SeqStore.constants (its c.args.self.now) c.args.work) g.J.Asked.entry ps (view c.args.pass.now) (record { status = c.settle-status.result; number = c.visit-sum.result.0.number }) (view_of c.give_store.new.pass)) (sym c.in-Some.ensures.cases.0)
    (leveled g.S.SeqStore.lawful g.S.SeqStore.stands g.S.SeqStore.store_view g.S.SeqStore.constants g.S.SeqStore.fault_count (its c.args.self.now) (writes c.args.self.now) c.in-Some.part.now (view c.args.pass.now) (view_of c.take_store-home.new.pass) c.take_store-home.result c.take_store-home.ensures.step c.args.work (OverBy g.S.SeqStore.stands g.S.SeqStore.store_view g.S.SeqStore.constants (its c.args.self.now) c.args.work) (RoomBy g.S.SeqStore.stands g.S.SeqStore.store_view g.S.SeqStore.constants (its c.args.self.now) c.args.work) g.J.Asked.entry c.in-Some.rest.now c.visit-sum.result.0 (view c.visit-sum.new.pass) c.visit-sum.ensures.visits c.visit-sum.ensures.own.held (apart (its c.args.self.now).frame c.in-Some.part.now.store (stores_of c.in-Some.rest.now) (view c.args.pass.now).caller.held (subst (λ (ps : List Part). Climbs (its c.args.self.now).frame (stores_of ps) (view c.args.pass.now).caller.held) c.in-Some.ensures.cases.0 c.requires.climbs)) c.settle-status.result c.prepare.new.home.store c.settle-status.new.home (view_of c.give_store.new.pass) c.in_default-broken.is (kept_count (g.S.SeqStore.fault_count c.take_store-home.result.store) (g.S.SeqStore.fault_count c.prepare.new.home.store) c.prepare.result c.in-Ok.sum c.in-Ok.is c.prepare.ensures.cause) c.settle-status.ensures.settled c.give_store.ensures.step c.visit-sum.ensures.own.breaking (above (its c.args.self.now).frame c.in-Some.part.now.store (stores_of c.in-Some.rest.now) (view c.args.pass.now).caller.held (subst (λ (ps : List Part). Climbs (its c.args.self.now).frame (stores_of ps) (view c.args.pass.now).caller.held) c.in-Some.ensures.cases.0 c.requires.climbs)) (subst (λ (ps : List Part). AllFit (setting g.S.SeqStore.lawful g.S.SeqStore.store_view g.S.SeqStore.fault_count c.args.self.now) c.args.work g.J.Asked.entry (view c.args.pass.now) ps) c.in-Some.ensures.cases.0 c.requires.fit).0 (λ q e less. let le = c.has_risen.ensures.same c.if-has_risen.false q e in let f = c.faults.ensures in absurd (omega arith)) (subst (λ (ps : List Part). Climbs (its c.args.self.now).frame (stores_of ps) (view c.args.pass.now).caller.held) c.in-Some.ensures.cases.0 c.requires.climbs).0 (λ log st tells. room_by g.S.SeqStore.lawful g.S.SeqStore.stands g.S.SeqStore.store_view g.S.SeqStore.constants g.S.SeqStore.fault_count (its c.args.self.now) (writes c.args.self.now) c.in-Some.part.now (view c.args.pass.now) (view_of c.take_store-home.new.pass) c.take_store-home.result (may_visit (its c.args.self.now).frame c.in-Some.part.now.store (stores_of c.in-Some.rest.now) (view c.args.pass.now).caller (subst (λ (ps : List Part). Climbs (its c.args.self.now).frame (stores_of ps) (view c.args.pass.now).caller.held) c.in-Some.ensures.cases.0 c.requires.climbs) c.requires.ask.allowance) c.take_store-home.ensures.step c.args.work g.J.Asked.entry c.prepare.result c.in-Ok.sum c.in-Ok.is (subst (λ (w : Work). TellsFullBy w (g.S.SeqStore.constants c.take_store-home.result.store) (g.S.SeqStore.store_view c.take_store-home.result.store) c.in-Some.part.now.changes c.prepare.result) c.work_in-here.ensures c.prepare.ensures.full) c.in_default-broken.is (subst (λ (ps : List Part). AllFit (setting g.S.SeqStore.lawful g.S.SeqStore.store_view g.S.SeqStore.fault_count c.args.self.now) c.args.work g.J.Asked.entry (view c.args.pass.now) ps) c.in-Some.ensures.cases.0 c.requires.fit).0 log st tells))

pub returns-in-Ok-clause-sum : goal.returns-in-Ok-clause-sum
returns-in-Ok-clause-sum g t c n is told_each = let z = done g.S.SeqStore.lawful g.S.SeqStore.stands g.S.SeqStore.store_view g.S.SeqStore.constants g.S.SeqStore.fault_count (its c.args.self.now) (writes c.args.self.now) c.in-Some.part.now (view c.args.pass.now) (view_of c.take_store-home.new.pass) c.take_store-home.result c.take_store-home.ensures.step c.args.work (OverBy g.S.SeqStore.stands g.S.SeqStore.store_view g.S.SeqStore.constants (its c.args.self.now) c.args.work) (RoomBy g.S.SeqStore.stands g.S.SeqStore.store_view g.S.SeqStore.constants (its c.args.self.now) c.args.work) g.J.Asked.entry c.in-Some.rest.now c.visit-sum.result.0 (view c.visit-sum.new.pass) c.visit-sum.ensures.visits c.visit-sum.ensures.own.held (apart (its c.args.self.now).frame c.in-Some.part.now.store (stores_of c.in-Some.rest.now) (view c.args.pass.now).caller.held (subst (λ (ps : List Part). Climbs (its c.args.self.now).frame (stores_of ps) (view c.args.pass.now).caller.held) c.in-Some.ensures.cases.0 c.requires.climbs)) c.settle-status.result c.prepare.new.home.store c.settle-status.new.home (view_of c.give_store.new.pass) c.in_default-broken.is (kept_count (g.S.SeqStore.fault_count c.take_store-home.result.store) (g.S.SeqStore.fault_count c.prepare.new.home.store) c.prepare.result c.in-Ok.sum c.in-Ok.is c.prepare.ensures.cause) c.settle-status.ensures.settled c.give_store.ensures.step c.visit-sum.ensures.own.breaking (above (its c.args.self.now).frame c.in-Some.part.now.store (stores_of c.in-Some.rest.now) (view c.args.pass.now).caller.held (subst (λ (ps : List Part). Climbs (its c.args.self.now).frame (stores_of ps) (view c.args.pass.now).caller.held) c.in-Some.ensures.cases.0 c.requires.climbs)) (subst (λ (ps : List Part). AllFit (setting g.S.SeqStore.lawful g.S.SeqStore.store_view g.S.SeqStore.fault_count c.args.self.now) c.args.work g.J.Asked.entry (view c.args.pass.now) ps) c.in-Some.ensures.cases.0 c.requires.fit).0 (λ q e less. let le = c.has_risen.ensures.same c.if-has_risen.false q e in let f = c.faults.ensures in absurd (omega arith)) (subst (λ (ps : List Part). Climbs (its c.args.self.now).frame (stores_of ps) (view c.args.pass.now).caller.held) c.in-Some.ensures.cases.0 c.requires.climbs).0 (λ log st tells. room_by g.S.SeqStore.lawful g.S.SeqStore.stands g.S.SeqStore.store_view g.S.SeqStore.constants g.S.SeqStore.fault_count (its c.args.self.now) (writes c.args.self.now) c.in-Some.part.now (view c.args.pass.now) (view_of c.take_store-home.new.pass) c.take_store-home.result (may_visit (its c.args.self.now).frame c.in-Some.part.now.store (stores_of c.in-Some.rest.now) (view c.args.pass.now).caller (subst (λ (ps : List Part). Climbs (its c.args.self.now).frame (stores_of ps) (view c.args.pass.now).caller.held) c.in-Some.ensures.cases.0 c.requires.climbs) c.requires.ask.allowance) c.take_store-home.ensures.step c.args.work g.J.Asked.entry c.prepare.result c.in-Ok.sum c.in-Ok.is (subst (λ (w : Work). TellsFullBy w (g.S.SeqStore.constants c.take_store-home.result.store) (g.S.SeqStore.store_view c.take_store-home.result.store) c.in-Some.part.now.changes c.prepare.result) c.work_in-here.ensures c.prepare.ensures.full) c.in_default-broken.is (subst (λ (ps : List Part). AllFit (setting g.S.SeqStore.lawful g.S.SeqStore.store_view g.S.SeqStore.fault_count c.args.self.now) c.args.work g.J.Asked.entry (view c.args.pass.now) ps) c.in-Some.ensures.cases.0 c.requires.fit).0 log st tells) in
    let told_all : (i : ℕ) → has i (stores_of (c.in-Some.part.now ∷ c.in-Some.rest.now)) ≡ true → (setting g.S.SeqStore.lawful g.S.SeqStore.store_view g.S.SeqStore.fault_count c.args.self.now).tells i ≡ true = subst (λ (ps : List Part). (i : ℕ) → has i (stores_of ps) ≡ true → (setting g.S.SeqStore.lawful g.S.SeqStore.store_view g.S.SeqStore.fault_count c.args.self.now).tells i ≡ true) c.in-Some.ensures.cases.0 told_each in
    let mine = sum_at c.args.work c.in-Some.part.now.changes c.args.sum _ c.in-Ok.sum (subst (λ (w : Work). IsSum w c.args.sum (length (shard_records (shard (its c.args.self.now).frame c.in-Some.part.now.store) (map_after (its c.args.self.now).frame (setting g.S.SeqStore.lawful g.S.SeqStore.store_view g.S.SeqStore.fault_count c.args.self.now).first (view_of c.take_store-home.new.pass).caller.base))) c.in-Ok.sum) c.work_in-here.ensures (c.in-Ok.ensures.sum (told_all c.in-Some.part.now.store (has_head c.in-Some.part.now.store (stores_of c.in-Some.rest.now))))) in
    let rest = c.visit-sum.ensures.sum n is (λ i h. told_all i (has_tail i c.in-Some.part.now.store (stores_of c.in-Some.rest.now) h)) in
    let same = same_shard g.S.SeqStore.lawful g.S.SeqStore.stands g.S.SeqStore.store_view g.S.SeqStore.constants g.S.SeqStore.fault_count (its c.args.self.now) (writes c.args.self.now) c.in-Some.part.now (view c.args.pass.now) (view_of c.take_store-home.new.pass) c.take_store-home.result (may_visit (its c.args.self.now).frame c.in-Some.part.now.store (stores_of c.in-Some.rest.now) (view c.args.pass.now).caller (subst (λ (ps : List Part). Climbs (its c.args.self.now).frame (stores_of ps) (view c.args.pass.now).caller.held) c.in-Some.ensures.cases.0 c.requires.climbs) c.requires.ask.allowance) c.take_store-home.ensures.step (take n (view c.visit-sum.new.pass).caller.seen) (c.visit-sum.ensures.visits.made n is).1 c.requires.own.fresh.rising in
    subst (λ (ps : List Part). IsSum c.args.work c.args.sum (count_in (its c.args.self.now).frame (records_at (setting g.S.SeqStore.lawful g.S.SeqStore.store_view g.S.SeqStore.fault_count c.args.self.now) (view_of c.give_store.new.pass).caller n) (stores_of ps)) c.visit-sum.result.1) (sym c.in-Some.ensures.cases.0)
    (subst (λ (es : List Entry). IsSum c.args.work c.args.sum (count_in (its c.args.self.now).frame (map_after (its c.args.self.now).frame (setting g.S.SeqStore.lawful g.S.SeqStore.store_view g.S.SeqStore.fault_count c.args.self.now).first (take n es)) (stores_of (c.in-Some.part.now ∷ c.in-Some.rest.now))) c.visit-sum.result.1) (sym z.seen)
    (sum_more c.args.work c.args.sum (length (shard_records (shard (its c.args.self.now).frame c.in-Some.part.now.store) (records_at (setting g.S.SeqStore.lawful g.S.SeqStore.store_view g.S.SeqStore.fault_count c.args.self.now) (view c.visit-sum.new.pass).caller n))) (count_in (its c.args.self.now).frame (records_at (setting g.S.SeqStore.lawful g.S.SeqStore.store_view g.S.SeqStore.fault_count c.args.self.now) (view c.visit-sum.new.pass).caller n) (stores_of c.in-Some.rest.now)) c.in-Ok.sum c.visit-sum.result.1
    (subst (λ (ps : List Pair). IsSum c.args.work c.args.sum (length ps) c.in-Ok.sum) same mine) rest))

pub visit-sum-requires : goal.visit-sum-requires
visit-sum-requires g t c κs within = (
  (let d = c.decreases in let e = c.in-Some.ensures.cases.1 in omega arith),
  (
    within.0,
    (
      within.1.0,
      (
        within.1.1,
        (
          record { own = c.take_store-home.ensures.own; held = refl; breaking = ap (λ (z : View). z.caller.breaking) c.take_store-home.ensures.step.2 ∙ c.requires.own.breaking; fresh = c.requires.own.fresh; writable = c.requires.own.writable },
          (
            climbs_more g.S.SeqStore.lawful g.S.SeqStore.stands g.S.SeqStore.store_view g.S.SeqStore.constants g.S.SeqStore.fault_count (its c.args.self.now) (writes c.args.self.now) c.in-Some.part.now (view c.args.pass.now) (view_of c.take_store-home.new.pass) c.take_store-home.result c.take_store-home.ensures.step (stores_of c.in-Some.rest.now) (subst (λ (ps : List Part). Climbs (its c.args.self.now).frame (stores_of ps) (view c.args.pass.now).caller.held) c.in-Some.ensures.cases.0 c.requires.climbs),
            (
              unbroken_more g.S.SeqStore.lawful g.S.SeqStore.stands g.S.SeqStore.store_view g.S.SeqStore.constants g.S.SeqStore.fault_count (its c.args.self.now) (writes c.args.self.now) c.in-Some.part.now (view c.args.pass.now) (view_of c.take_store-home.new.pass) c.take_store-home.result c.take_store-home.ensures.step c.in_default-broken.is c.requires.unbroken,
              (
                ask_more g.S.SeqStore.lawful g.S.SeqStore.stands g.S.SeqStore.store_view g.S.SeqStore.constants g.S.SeqStore.fault_count (its c.args.self.now) (writes c.args.self.now) c.in-Some.part.now (view c.args.pass.now) (view_of c.take_store-home.new.pass) c.take_store-home.result c.take_store-home.ensures.step g.J.Asked.entry (stores_of c.in-Some.rest.now) (subst (λ (ps : List Part). MayAsk (setting g.S.SeqStore.lawful g.S.SeqStore.store_view g.S.SeqStore.fault_count c.args.self.now) g.J.Asked.entry (stores_of ps) (view c.args.pass.now).caller) c.in-Some.ensures.cases.0 c.requires.ask),
                (
                  fit_more g.S.SeqStore.lawful g.S.SeqStore.stands g.S.SeqStore.store_view g.S.SeqStore.constants g.S.SeqStore.fault_count (its c.args.self.now) (writes c.args.self.now) c.in-Some.part.now (view c.args.pass.now) (view_of c.take_store-home.new.pass) c.take_store-home.result c.take_store-home.ensures.step c.args.work g.J.Asked.entry c.in-Some.rest.now (above (its c.args.self.now).frame c.in-Some.part.now.store (stores_of c.in-Some.rest.now) (view c.args.pass.now).caller.held (subst (λ (ps : List Part). Climbs (its c.args.self.now).frame (stores_of ps) (view c.args.pass.now).caller.held) c.in-Some.ensures.cases.0 c.requires.climbs)) (subst (λ (ps : List Part). AllFit (setting g.S.SeqStore.lawful g.S.SeqStore.store_view g.S.SeqStore.fault_count c.args.self.now) c.args.work g.J.Asked.entry (view c.args.pass.now) ps) c.in-Some.ensures.cases.0 c.requires.fit).1,
                  (
                    c.requires.may,
                    c.requires.marks,
                  ),
                ),
              ),
            ),
          ),
        ),
      ),
    ),
  ),
)
