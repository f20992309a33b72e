use Rattle.std.proofs.Common.{Some, Err, refl, sym, ap, ◌∙◌, subst}
use Rattle.tk_status.specs.declared.Status.TheVariants as statuses
use Rattle.tk_core.specs.Covers.{IsFrame}
use Rattle.tk_locks.specs.Calls.{view as view_of}
use Rattle.tk_dbm.specs.Dbm.{its, setting, view, writes}
use Rattle.tk_dbm.specs.Room.{IsFull, AllHaveRoom}
use Rattle.tk_dbm.proofs.Goods.{tells_still}
use Rattle.tk_dbm.proofs.Changing.{visit_done, beside_commit, looked_on, gave_up_done, gave_up_nothing, found_broken, failed_here, stayed_here, not_changed, full_over, full_here, changed_there, fault_rose, may_make, reserved_now, soft}
use Rattle.tk_dbm.proofs.dbm.Dbm.change.Goals as goal

pub returns-in-Some-clause-own : goal.returns-in-Some-clause-own
returns-in-Some-clause-own g c = let t = gave_up_done g.S.SeqStore.lawful g.S.SeqStore.stands g.S.SeqStore.store_view g.S.SeqStore.constants g.S.SeqStore.fault_count (its c.args.self.now) (writes c.args.self.now) c.args.i (view c.args.pass.now) (view_of c.take_store-home.new.pass) c.take_store-home.result c.requires.visit c.take_store-home.ensures.step c.take_store-home.result (view c.refuse.new.pass) c.requires.own.breaking c.refuse.ensures.step in
    record { own = c.refuse.ensures.own; held = t.held; breaking = t.breaking; fresh = c.requires.own.fresh; writable = c.requires.own.writable }

pub returns-in-Some-clause-changed : goal.returns-in-Some-clause-changed
returns-in-Some-clause-changed g c = not_changed (setting g.S.SeqStore.lawful g.S.SeqStore.store_view g.S.SeqStore.fault_count c.args.self.now) (IsFull g.S.SeqStore.stands g.S.SeqStore.store_view g.S.SeqStore.constants (its c.args.self.now)) (AllHaveRoom g.S.SeqStore.stands g.S.SeqStore.store_view g.S.SeqStore.constants (its c.args.self.now)) c.args.i g.J.Picked.entry (view c.args.pass.now) c.refuse.result (view c.refuse.new.pass) (statuses.Broken c.in-Some.faults) c.refuse.ensures.answer
    (found_broken g.S.SeqStore.lawful g.S.SeqStore.stands g.S.SeqStore.store_view g.S.SeqStore.constants g.S.SeqStore.fault_count (its c.args.self.now) (writes c.args.self.now) c.args.i (view c.args.pass.now) (view_of c.take_store-home.new.pass) c.take_store-home.result c.requires.visit c.take_store-home.ensures.step c.in-Some.faults c.take_store-home.result (looked_on g.S.SeqStore.lawful g.S.SeqStore.stands g.S.SeqStore.store_view g.S.SeqStore.constants g.S.SeqStore.fault_count (its c.args.self.now) (writes c.args.self.now) c.args.i (view c.args.pass.now) (view_of c.take_store-home.new.pass) c.take_store-home.result c.requires.visit c.take_store-home.ensures.step c.refuse.ensures.step.0) (view c.refuse.new.pass) c.in-Some.is c.in-Some.is (gave_up_done g.S.SeqStore.lawful g.S.SeqStore.stands g.S.SeqStore.store_view g.S.SeqStore.constants g.S.SeqStore.fault_count (its c.args.self.now) (writes c.args.self.now) c.args.i (view c.args.pass.now) (view_of c.take_store-home.new.pass) c.take_store-home.result c.requires.visit c.take_store-home.ensures.step c.take_store-home.result (view c.refuse.new.pass) c.requires.own.breaking c.refuse.ensures.step)) (gave_up_nothing g.S.SeqStore.lawful g.S.SeqStore.stands g.S.SeqStore.store_view g.S.SeqStore.constants g.S.SeqStore.fault_count (its c.args.self.now) (writes c.args.self.now) c.args.i (view c.args.pass.now) (view_of c.take_store-home.new.pass) c.take_store-home.result c.requires.visit c.take_store-home.ensures.step c.take_store-home.result (view c.refuse.new.pass) c.requires.own.breaking c.refuse.ensures.step) tt

pub make_call-requires-clause-may : goal.make_call-requires-clause-may
make_call-requires-clause-may g c = may_make g.S.SeqStore.lawful g.S.SeqStore.stands g.S.SeqStore.store_view g.S.SeqStore.constants g.S.SeqStore.fault_count (its c.args.self.now) (writes c.args.self.now) c.args.i (view c.args.pass.now) (view_of c.take_store-home.new.pass) c.take_store-home.result c.requires.visit c.take_store-home.ensures.step g.J.Picked.entry c.args.changes.now c.requires.may c.take_store-home.ensures.own.1.live c.in_default.is (subst IsFrame c.args.self.now.framed c.args.self.now.sized.0)

pub make_call-requires-clause-ready : goal.make_call-requires-clause-ready
make_call-requires-clause-ready g c = record {
  changes = c.args.changes.now;
  ready = c.in-Ok.ensures.reserved;
  some = c.requires.some;
  soft = soft g.S.SeqStore.lawful g.S.SeqStore.stands g.S.SeqStore.store_view g.S.SeqStore.constants g.S.SeqStore.fault_count (its c.args.self.now) (writes c.args.self.now) c.args.i (view c.args.pass.now) (view_of c.take_store-home.new.pass) c.take_store-home.result c.requires.visit c.take_store-home.ensures.step g.J.Picked.entry c.args.changes.now c.requires.may c.take_store-home.ensures.own.1.live c.in_default.is (subst IsFrame c.args.self.now.framed c.args.self.now.sized.0);
  told = λ t. reserved_now g.S.SeqStore.lawful g.S.SeqStore.stands g.S.SeqStore.store_view g.S.SeqStore.constants g.S.SeqStore.fault_count (its c.args.self.now) (writes c.args.self.now) c.args.i (view c.args.pass.now) (view_of c.take_store-home.new.pass) c.take_store-home.result c.requires.visit c.take_store-home.ensures.step g.J.Picked.entry c.args.changes.now c.requires.may c.take_store-home.ensures.own.1.live c.in_default.is (subst IsFrame c.args.self.now.framed c.args.self.now.sized.0)
      (sym (tells_still g.S.SeqStore.lawful g.S.SeqStore.stands g.S.SeqStore.store_view g.S.SeqStore.constants (its c.args.self.now) c.requires.own.fresh c.args.i c.requires.visit.low c.reserve.new.home.store _ _ (c.in-Ok.ensures.out.owed c.reserve.ensures.whole)) ∙ t);
}

pub returns-in-Ok-clause-own : goal.returns-in-Ok-clause-own
returns-in-Ok-clause-own g c = let t = (let m = c.make_call.ensures.made in visit_done g.S.SeqStore.lawful g.S.SeqStore.stands g.S.SeqStore.store_view g.S.SeqStore.constants g.S.SeqStore.fault_count (its c.args.self.now) (writes c.args.self.now) c.args.i (view c.args.pass.now) (view_of c.take_store-home.new.pass) c.take_store-home.result c.requires.visit c.take_store-home.ensures.step m.home m.between (view c.make_call.new.pass) c.requires.own.breaking (beside_commit g.S.SeqStore.lawful g.S.SeqStore.stands g.S.SeqStore.store_view g.S.SeqStore.constants g.S.SeqStore.fault_count (its c.args.self.now) (writes c.args.self.now) c.args.i (view c.args.pass.now) (view_of c.take_store-home.new.pass) c.take_store-home.result c.requires.visit c.take_store-home.ensures.step m.makes.0 g.J.Picked.entry m.between m.makes.5) m.gave) in
    record { own = c.make_call.ensures.own; held = t.held; breaking = t.breaking; fresh = c.requires.own.fresh; writable = c.requires.own.writable }

pub returns-in-Ok-clause-changed : goal.returns-in-Ok-clause-changed
returns-in-Ok-clause-changed g c = changed_there g.S.SeqStore.lawful g.S.SeqStore.stands g.S.SeqStore.store_view g.S.SeqStore.constants g.S.SeqStore.fault_count (its c.args.self.now) (writes c.args.self.now) c.args.i (view c.args.pass.now) (view_of c.take_store-home.new.pass) c.take_store-home.result c.requires.visit c.take_store-home.ensures.step g.J.Picked.entry c.args.changes.now c.requires.may c.take_store-home.ensures.own.1.live c.in_default.is (subst IsFrame c.args.self.now.framed c.args.self.now.sized.0) c.make_call.result (view c.make_call.new.pass) c.requires.own.breaking c.make_call.ensures.made c.in-Ok.ensures.full

pub returns-in-Err-Fault-clause-own : goal.returns-in-Err-Fault-clause-own
returns-in-Err-Fault-clause-own g c = let t = gave_up_done g.S.SeqStore.lawful g.S.SeqStore.stands g.S.SeqStore.store_view g.S.SeqStore.constants g.S.SeqStore.fault_count (its c.args.self.now) (writes c.args.self.now) c.args.i (view c.args.pass.now) (view_of c.take_store-home.new.pass) c.take_store-home.result c.requires.visit c.take_store-home.ensures.step (record { store = c.reserve.new.home.store; broken = Some (g.S.SeqStore.fault_count c.reserve.new.home.store) }) (view c.fail.new.pass) c.requires.own.breaking c.fail.ensures.step in
    record { own = c.fail.ensures.own; held = t.held; breaking = t.breaking; fresh = c.requires.own.fresh; writable = c.requires.own.writable }

pub returns-in-Err-Fault-clause-changed : goal.returns-in-Err-Fault-clause-changed
returns-in-Err-Fault-clause-changed g c = not_changed (setting g.S.SeqStore.lawful g.S.SeqStore.store_view g.S.SeqStore.fault_count c.args.self.now) (IsFull g.S.SeqStore.stands g.S.SeqStore.store_view g.S.SeqStore.constants (its c.args.self.now)) (AllHaveRoom g.S.SeqStore.stands g.S.SeqStore.store_view g.S.SeqStore.constants (its c.args.self.now)) c.args.i g.J.Picked.entry (view c.args.pass.now) c.fail.result (view c.fail.new.pass) (statuses.System (g.S.SeqStore.fault_count c.reserve.new.home.store)) c.fail.ensures.answer
    (failed_here g.S.SeqStore.lawful g.S.SeqStore.stands g.S.SeqStore.store_view g.S.SeqStore.constants g.S.SeqStore.fault_count (its c.args.self.now) (writes c.args.self.now) c.args.i (view c.args.pass.now) (view_of c.take_store-home.new.pass) c.take_store-home.result c.requires.visit c.take_store-home.ensures.step (g.S.SeqStore.fault_count c.reserve.new.home.store) (record { store = c.reserve.new.home.store; broken = Some (g.S.SeqStore.fault_count c.reserve.new.home.store) }) (looked_on g.S.SeqStore.lawful g.S.SeqStore.stands g.S.SeqStore.store_view g.S.SeqStore.constants g.S.SeqStore.fault_count (its c.args.self.now) (writes c.args.self.now) c.args.i (view c.args.pass.now) (view_of c.take_store-home.new.pass) c.take_store-home.result c.requires.visit c.take_store-home.ensures.step c.fail.ensures.step.0) (view c.fail.new.pass) c.in_default.is refl refl (fault_rose (g.S.SeqStore.fault_count c.take_store-home.result.store) (g.S.SeqStore.fault_count c.reserve.new.home.store) c.reserve.result (c.in-Err-Fault.is ∙ ap Err c.in-Err-Fault.field-0-is) c.reserve.ensures.cause) (gave_up_done g.S.SeqStore.lawful g.S.SeqStore.stands g.S.SeqStore.store_view g.S.SeqStore.constants g.S.SeqStore.fault_count (its c.args.self.now) (writes c.args.self.now) c.args.i (view c.args.pass.now) (view_of c.take_store-home.new.pass) c.take_store-home.result c.requires.visit c.take_store-home.ensures.step (record { store = c.reserve.new.home.store; broken = Some (g.S.SeqStore.fault_count c.reserve.new.home.store) }) (view c.fail.new.pass) c.requires.own.breaking c.fail.ensures.step)) (gave_up_nothing g.S.SeqStore.lawful g.S.SeqStore.stands g.S.SeqStore.store_view g.S.SeqStore.constants g.S.SeqStore.fault_count (its c.args.self.now) (writes c.args.self.now) c.args.i (view c.args.pass.now) (view_of c.take_store-home.new.pass) c.take_store-home.result c.requires.visit c.take_store-home.ensures.step (record { store = c.reserve.new.home.store; broken = Some (g.S.SeqStore.fault_count c.reserve.new.home.store) }) (view c.fail.new.pass) c.requires.own.breaking c.fail.ensures.step) tt

pub returns-in-Err-Full-clause-own : goal.returns-in-Err-Full-clause-own
returns-in-Err-Full-clause-own g c = let t = gave_up_done g.S.SeqStore.lawful g.S.SeqStore.stands g.S.SeqStore.store_view g.S.SeqStore.constants g.S.SeqStore.fault_count (its c.args.self.now) (writes c.args.self.now) c.args.i (view c.args.pass.now) (view_of c.take_store-home.new.pass) c.take_store-home.result c.requires.visit c.take_store-home.ensures.step c.reserve.new.home (view c.refuse-in-Err-Full.new.pass) c.requires.own.breaking c.refuse-in-Err-Full.ensures.step in
    record { own = c.refuse-in-Err-Full.ensures.own; held = t.held; breaking = t.breaking; fresh = c.requires.own.fresh; writable = c.requires.own.writable }

pub returns-in-Err-Full-clause-changed : goal.returns-in-Err-Full-clause-changed
returns-in-Err-Full-clause-changed g c = not_changed (setting g.S.SeqStore.lawful g.S.SeqStore.store_view g.S.SeqStore.fault_count c.args.self.now) (IsFull g.S.SeqStore.stands g.S.SeqStore.store_view g.S.SeqStore.constants (its c.args.self.now)) (AllHaveRoom g.S.SeqStore.stands g.S.SeqStore.store_view g.S.SeqStore.constants (its c.args.self.now)) c.args.i g.J.Picked.entry (view c.args.pass.now) c.refuse-in-Err-Full.result (view c.refuse-in-Err-Full.new.pass) (statuses.Full c.in-Err-Full.size c.in-Err-Full.need c.in-Err-Full.limit) c.refuse-in-Err-Full.ensures.answer
    (stayed_here g.S.SeqStore.lawful g.S.SeqStore.stands g.S.SeqStore.store_view g.S.SeqStore.constants g.S.SeqStore.fault_count (its c.args.self.now) (writes c.args.self.now) c.args.i (view c.args.pass.now) (view_of c.take_store-home.new.pass) c.take_store-home.result c.requires.visit c.take_store-home.ensures.step (statuses.Full c.in-Err-Full.size c.in-Err-Full.need c.in-Err-Full.limit) c.reserve.new.home (looked_on g.S.SeqStore.lawful g.S.SeqStore.stands g.S.SeqStore.store_view g.S.SeqStore.constants g.S.SeqStore.fault_count (its c.args.self.now) (writes c.args.self.now) c.args.i (view c.args.pass.now) (view_of c.take_store-home.new.pass) c.take_store-home.result c.requires.visit c.take_store-home.ensures.step c.refuse-in-Err-Full.ensures.step.0) (view c.refuse-in-Err-Full.new.pass) tt c.in_default.is c.reserve.ensures.whole (gave_up_done g.S.SeqStore.lawful g.S.SeqStore.stands g.S.SeqStore.store_view g.S.SeqStore.constants g.S.SeqStore.fault_count (its c.args.self.now) (writes c.args.self.now) c.args.i (view c.args.pass.now) (view_of c.take_store-home.new.pass) c.take_store-home.result c.requires.visit c.take_store-home.ensures.step c.reserve.new.home (view c.refuse-in-Err-Full.new.pass) c.requires.own.breaking c.refuse-in-Err-Full.ensures.step)) (gave_up_nothing g.S.SeqStore.lawful g.S.SeqStore.stands g.S.SeqStore.store_view g.S.SeqStore.constants g.S.SeqStore.fault_count (its c.args.self.now) (writes c.args.self.now) c.args.i (view c.args.pass.now) (view_of c.take_store-home.new.pass) c.take_store-home.result c.requires.visit c.take_store-home.ensures.step c.reserve.new.home (view c.refuse-in-Err-Full.new.pass) c.requires.own.breaking c.refuse-in-Err-Full.ensures.step) (full_here g.S.SeqStore.lawful g.S.SeqStore.stands g.S.SeqStore.store_view g.S.SeqStore.constants g.S.SeqStore.fault_count (its c.args.self.now) (writes c.args.self.now) c.args.i (view c.args.pass.now) (view_of c.take_store-home.new.pass) c.take_store-home.result c.requires.visit c.take_store-home.ensures.step g.J.Picked.entry c.args.changes.now c.requires.may c.take_store-home.ensures.own.1.live c.in_default.is (subst IsFrame c.args.self.now.framed c.args.self.now.sized.0) c.reserve.new.home (view c.refuse-in-Err-Full.new.pass) c.requires.own.breaking c.refuse-in-Err-Full.ensures.step c.requires.some c.in-Err-Full.size c.in-Err-Full.need c.in-Err-Full.limit
    (full_over (g.S.SeqStore.constants c.take_store-home.result.store) (g.S.SeqStore.store_view c.take_store-home.result.store) c.args.changes.now c.reserve.result c.in-Err-Full.size c.in-Err-Full.need c.in-Err-Full.limit (c.in-Err-Full.is ∙ ap Err c.in-Err-Full.field-0-is) c.reserve.ensures.full))

pub returns-in-Err-NoMemory-clause-own : goal.returns-in-Err-NoMemory-clause-own
returns-in-Err-NoMemory-clause-own g c = let t = gave_up_done g.S.SeqStore.lawful g.S.SeqStore.stands g.S.SeqStore.store_view g.S.SeqStore.constants g.S.SeqStore.fault_count (its c.args.self.now) (writes c.args.self.now) c.args.i (view c.args.pass.now) (view_of c.take_store-home.new.pass) c.take_store-home.result c.requires.visit c.take_store-home.ensures.step c.reserve.new.home (view c.refuse-in-Err-NoMemory.new.pass) c.requires.own.breaking c.refuse-in-Err-NoMemory.ensures.step in
    record { own = c.refuse-in-Err-NoMemory.ensures.own; held = t.held; breaking = t.breaking; fresh = c.requires.own.fresh; writable = c.requires.own.writable }

pub returns-in-Err-NoMemory-clause-changed : goal.returns-in-Err-NoMemory-clause-changed
returns-in-Err-NoMemory-clause-changed g c = not_changed (setting g.S.SeqStore.lawful g.S.SeqStore.store_view g.S.SeqStore.fault_count c.args.self.now) (IsFull g.S.SeqStore.stands g.S.SeqStore.store_view g.S.SeqStore.constants (its c.args.self.now)) (AllHaveRoom g.S.SeqStore.stands g.S.SeqStore.store_view g.S.SeqStore.constants (its c.args.self.now)) c.args.i g.J.Picked.entry (view c.args.pass.now) c.refuse-in-Err-NoMemory.result (view c.refuse-in-Err-NoMemory.new.pass) statuses.NoMemory c.refuse-in-Err-NoMemory.ensures.answer
    (stayed_here g.S.SeqStore.lawful g.S.SeqStore.stands g.S.SeqStore.store_view g.S.SeqStore.constants g.S.SeqStore.fault_count (its c.args.self.now) (writes c.args.self.now) c.args.i (view c.args.pass.now) (view_of c.take_store-home.new.pass) c.take_store-home.result c.requires.visit c.take_store-home.ensures.step statuses.NoMemory c.reserve.new.home (looked_on g.S.SeqStore.lawful g.S.SeqStore.stands g.S.SeqStore.store_view g.S.SeqStore.constants g.S.SeqStore.fault_count (its c.args.self.now) (writes c.args.self.now) c.args.i (view c.args.pass.now) (view_of c.take_store-home.new.pass) c.take_store-home.result c.requires.visit c.take_store-home.ensures.step c.refuse-in-Err-NoMemory.ensures.step.0) (view c.refuse-in-Err-NoMemory.new.pass) tt c.in_default.is c.reserve.ensures.whole (gave_up_done g.S.SeqStore.lawful g.S.SeqStore.stands g.S.SeqStore.store_view g.S.SeqStore.constants g.S.SeqStore.fault_count (its c.args.self.now) (writes c.args.self.now) c.args.i (view c.args.pass.now) (view_of c.take_store-home.new.pass) c.take_store-home.result c.requires.visit c.take_store-home.ensures.step c.reserve.new.home (view c.refuse-in-Err-NoMemory.new.pass) c.requires.own.breaking c.refuse-in-Err-NoMemory.ensures.step)) (gave_up_nothing g.S.SeqStore.lawful g.S.SeqStore.stands g.S.SeqStore.store_view g.S.SeqStore.constants g.S.SeqStore.fault_count (its c.args.self.now) (writes c.args.self.now) c.args.i (view c.args.pass.now) (view_of c.take_store-home.new.pass) c.take_store-home.result c.requires.visit c.take_store-home.ensures.step c.reserve.new.home (view c.refuse-in-Err-NoMemory.new.pass) c.requires.own.breaking c.refuse-in-Err-NoMemory.ensures.step) tt
