use Rattle.std.proofs.Common.{Some, Err, refl, ap, ◌∙◌}
use Rattle.tk_status.specs.declared.Status.TheVariants as statuses
use Rattle.tk_locks.specs.Calls.{view as view_of}
use Rattle.tk_dbm.specs.Dbm.{its, setting, view, writes}
use Rattle.tk_dbm.proofs.Visits.{beside_self}
use Rattle.tk_dbm.proofs.Changing.{noted_is, visit_done, rests, looked_on, gave_up_done, gave_up_nothing, found_broken, failed_here, stayed_here, stopped_by, fault_rose}
use Rattle.tk_dbm.proofs.dbm.Dbm.read.Goals as goal

pub returns-in-Some-clause-own : goal.returns-in-Some-clause-own
returns-in-Some-clause-own g c = let t = gave_up_done g.S.SeqStore.lawful g.S.SeqStore.stands g.S.SeqStore.store_view g.S.SeqStore.constants g.S.SeqStore.fault_count (its c.args.self.now) (writes c.args.self.now) c.args.i (view c.args.pass.now) (view_of c.take_store-home.new.pass) c.take_store-home.result c.requires.visit c.take_store-home.ensures.step c.take_store-home.result (view c.refuse.new.pass) c.requires.own.breaking c.refuse.ensures.step in
    record { own = c.refuse.ensures.own; held = t.held; breaking = t.breaking; fresh = c.requires.own.fresh; writable = c.requires.own.writable }

pub returns-in-Some-clause-stopped : goal.returns-in-Some-clause-stopped
returns-in-Some-clause-stopped g c = stopped_by (setting g.S.SeqStore.lawful g.S.SeqStore.store_view g.S.SeqStore.fault_count c.args.self.now) c.args.i (view c.args.pass.now) c.refuse.result (view c.refuse.new.pass) (statuses.Broken c.in-Some.faults) c.refuse.ensures.answer (found_broken g.S.SeqStore.lawful g.S.SeqStore.stands g.S.SeqStore.store_view g.S.SeqStore.constants g.S.SeqStore.fault_count (its c.args.self.now) (writes c.args.self.now) c.args.i (view c.args.pass.now) (view_of c.take_store-home.new.pass) c.take_store-home.result c.requires.visit c.take_store-home.ensures.step c.in-Some.faults c.take_store-home.result (looked_on g.S.SeqStore.lawful g.S.SeqStore.stands g.S.SeqStore.store_view g.S.SeqStore.constants g.S.SeqStore.fault_count (its c.args.self.now) (writes c.args.self.now) c.args.i (view c.args.pass.now) (view_of c.take_store-home.new.pass) c.take_store-home.result c.requires.visit c.take_store-home.ensures.step c.refuse.ensures.step.0) (view c.refuse.new.pass) c.in-Some.is c.in-Some.is (gave_up_done g.S.SeqStore.lawful g.S.SeqStore.stands g.S.SeqStore.store_view g.S.SeqStore.constants g.S.SeqStore.fault_count (its c.args.self.now) (writes c.args.self.now) c.args.i (view c.args.pass.now) (view_of c.take_store-home.new.pass) c.take_store-home.result c.requires.visit c.take_store-home.ensures.step c.take_store-home.result (view c.refuse.new.pass) c.requires.own.breaking c.refuse.ensures.step)) (gave_up_nothing g.S.SeqStore.lawful g.S.SeqStore.stands g.S.SeqStore.store_view g.S.SeqStore.constants g.S.SeqStore.fault_count (its c.args.self.now) (writes c.args.self.now) c.args.i (view c.args.pass.now) (view_of c.take_store-home.new.pass) c.take_store-home.result c.requires.visit c.take_store-home.ensures.step c.take_store-home.result (view c.refuse.new.pass) c.requires.own.breaking c.refuse.ensures.step) tt

pub returns-in-Ok-clause-rests : goal.returns-in-Ok-clause-rests
returns-in-Ok-clause-rests g c = rests g.S.SeqStore.lawful g.S.SeqStore.stands g.S.SeqStore.store_view g.S.SeqStore.constants g.S.SeqStore.fault_count (its c.args.self.now) (writes c.args.self.now) c.args.i (view c.args.pass.now) (view_of c.take_store-home.new.pass) c.take_store-home.result c.requires.visit c.take_store-home.ensures.step c.value.new.home (view_of c.give_store.new.pass) c.requires.own.breaking c.give_store.ensures.step c.in_default.is c.value.ensures.whole

pub returns-in-Ok-clause-own : goal.returns-in-Ok-clause-own
returns-in-Ok-clause-own g c = let t = visit_done g.S.SeqStore.lawful g.S.SeqStore.stands g.S.SeqStore.store_view g.S.SeqStore.constants g.S.SeqStore.fault_count (its c.args.self.now) (writes c.args.self.now) c.args.i (view c.args.pass.now) (view_of c.take_store-home.new.pass) c.take_store-home.result c.requires.visit c.take_store-home.ensures.step c.value.new.home (view_of c.take_store-home.new.pass) (view_of c.give_store.new.pass) c.requires.own.breaking (beside_self (view_of c.take_store-home.new.pass)) c.give_store.ensures.step in
    record { own = c.give_store.ensures.own; held = t.held; breaking = t.breaking; fresh = c.requires.own.fresh; writable = c.requires.own.writable }

pub returns-in-Err-Fault-clause-own : goal.returns-in-Err-Fault-clause-own
returns-in-Err-Fault-clause-own g c = let t = gave_up_done g.S.SeqStore.lawful g.S.SeqStore.stands g.S.SeqStore.store_view g.S.SeqStore.constants g.S.SeqStore.fault_count (its c.args.self.now) (writes c.args.self.now) c.args.i (view c.args.pass.now) (view_of c.take_store-home.new.pass) c.take_store-home.result c.requires.visit c.take_store-home.ensures.step (record { store = c.value.new.home.store; broken = Some (g.S.SeqStore.fault_count c.value.new.home.store) }) (view c.fail.new.pass) c.requires.own.breaking c.fail.ensures.step in
    record { own = c.fail.ensures.own; held = t.held; breaking = t.breaking; fresh = c.requires.own.fresh; writable = c.requires.own.writable }

pub returns-in-Err-Fault-clause-stopped : goal.returns-in-Err-Fault-clause-stopped
returns-in-Err-Fault-clause-stopped g c = stopped_by (setting g.S.SeqStore.lawful g.S.SeqStore.store_view g.S.SeqStore.fault_count c.args.self.now) c.args.i (view c.args.pass.now) c.fail.result (view c.fail.new.pass) (statuses.System (g.S.SeqStore.fault_count c.value.new.home.store)) c.fail.ensures.answer (failed_here g.S.SeqStore.lawful g.S.SeqStore.stands g.S.SeqStore.store_view g.S.SeqStore.constants g.S.SeqStore.fault_count (its c.args.self.now) (writes c.args.self.now) c.args.i (view c.args.pass.now) (view_of c.take_store-home.new.pass) c.take_store-home.result c.requires.visit c.take_store-home.ensures.step (g.S.SeqStore.fault_count c.value.new.home.store) (record { store = c.value.new.home.store; broken = Some (g.S.SeqStore.fault_count c.value.new.home.store) }) (looked_on g.S.SeqStore.lawful g.S.SeqStore.stands g.S.SeqStore.store_view g.S.SeqStore.constants g.S.SeqStore.fault_count (its c.args.self.now) (writes c.args.self.now) c.args.i (view c.args.pass.now) (view_of c.take_store-home.new.pass) c.take_store-home.result c.requires.visit c.take_store-home.ensures.step c.fail.ensures.step.0) (view c.fail.new.pass) c.in_default.is refl refl (let e = noted_is g.S.SeqStore.lawful g.S.SeqStore.stands g.S.SeqStore.store_view g.S.SeqStore.constants g.S.SeqStore.fault_count (its c.args.self.now) (writes c.args.self.now) c.args.i (view c.args.pass.now) (view_of c.take_store-home.new.pass) c.take_store-home.result c.requires.visit c.take_store-home.ensures.step in fault_rose (g.S.SeqStore.fault_count c.take_store-home.result.store) (g.S.SeqStore.fault_count c.value.new.home.store) c.value.result (c.in-Err-Fault.is ∙ ap Err c.in-Err-Fault.field-0-is) c.value.ensures.cause) (gave_up_done g.S.SeqStore.lawful g.S.SeqStore.stands g.S.SeqStore.store_view g.S.SeqStore.constants g.S.SeqStore.fault_count (its c.args.self.now) (writes c.args.self.now) c.args.i (view c.args.pass.now) (view_of c.take_store-home.new.pass) c.take_store-home.result c.requires.visit c.take_store-home.ensures.step (record { store = c.value.new.home.store; broken = Some (g.S.SeqStore.fault_count c.value.new.home.store) }) (view c.fail.new.pass) c.requires.own.breaking c.fail.ensures.step)) (gave_up_nothing g.S.SeqStore.lawful g.S.SeqStore.stands g.S.SeqStore.store_view g.S.SeqStore.constants g.S.SeqStore.fault_count (its c.args.self.now) (writes c.args.self.now) c.args.i (view c.args.pass.now) (view_of c.take_store-home.new.pass) c.take_store-home.result c.requires.visit c.take_store-home.ensures.step (record { store = c.value.new.home.store; broken = Some (g.S.SeqStore.fault_count c.value.new.home.store) }) (view c.fail.new.pass) c.requires.own.breaking c.fail.ensures.step) tt

pub returns-in-Err : goal.returns-in-Err
returns-in-Err g c = let t = gave_up_done g.S.SeqStore.lawful g.S.SeqStore.stands g.S.SeqStore.store_view g.S.SeqStore.constants g.S.SeqStore.fault_count (its c.args.self.now) (writes c.args.self.now) c.args.i (view c.args.pass.now) (view_of c.take_store-home.new.pass) c.take_store-home.result c.requires.visit c.take_store-home.ensures.step c.value.new.home (view c.refuse-in-Err.new.pass) c.requires.own.breaking c.refuse-in-Err.ensures.step in record {
  own = record { own = c.refuse-in-Err.ensures.own; held = t.held; breaking = t.breaking; fresh = c.requires.own.fresh; writable = c.requires.own.writable };
  rests = tt;
  value = λ _. tt;
  stopped = stopped_by (setting g.S.SeqStore.lawful g.S.SeqStore.store_view g.S.SeqStore.fault_count c.args.self.now) c.args.i (view c.args.pass.now) c.refuse-in-Err.result (view c.refuse-in-Err.new.pass) statuses.NoMemory c.refuse-in-Err.ensures.answer (stayed_here g.S.SeqStore.lawful g.S.SeqStore.stands g.S.SeqStore.store_view g.S.SeqStore.constants g.S.SeqStore.fault_count (its c.args.self.now) (writes c.args.self.now) c.args.i (view c.args.pass.now) (view_of c.take_store-home.new.pass) c.take_store-home.result c.requires.visit c.take_store-home.ensures.step statuses.NoMemory c.value.new.home (looked_on g.S.SeqStore.lawful g.S.SeqStore.stands g.S.SeqStore.store_view g.S.SeqStore.constants g.S.SeqStore.fault_count (its c.args.self.now) (writes c.args.self.now) c.args.i (view c.args.pass.now) (view_of c.take_store-home.new.pass) c.take_store-home.result c.requires.visit c.take_store-home.ensures.step c.refuse-in-Err.ensures.step.0) (view c.refuse-in-Err.new.pass) tt c.in_default.is c.value.ensures.whole t) (gave_up_nothing g.S.SeqStore.lawful g.S.SeqStore.stands g.S.SeqStore.store_view g.S.SeqStore.constants g.S.SeqStore.fault_count (its c.args.self.now) (writes c.args.self.now) c.args.i (view c.args.pass.now) (view_of c.take_store-home.new.pass) c.take_store-home.result c.requires.visit c.take_store-home.ensures.step c.value.new.home (view c.refuse-in-Err.new.pass) c.requires.own.breaking c.refuse-in-Err.ensures.step) tt;
}
