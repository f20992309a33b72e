use Rattle.std.proofs.Common.{◌≡◌, refl, arith, rules}
use Rattle.tk_disk.proofs.Tapes.{begun_as, begun_only, begun_past, told}
use Rattle.tk_disk.proofs.tape.Tape.new.Goals as goal

pub invariant_of-result : goal.invariant_of-result
invariant_of-result c =
    let first : c.extend_from_slice.new.self.items ≡ c.args.bytes.items = search rules in
    let bytes : c.reserve.new.self.items ≡ c.args.bytes.items = search rules in
    record {
      bytes_room = omega (arith, c.in_ok-reserve.ensures.ok);
      store_room = omega (arith, c.in_ok-store.ensures.len, c.in_ok-store.ensures.exact);
      steps_room = omega (arith, c.in_ok-steps.ensures.len, c.in_ok-steps.ensures.exact);
      tells = begun_as _ _ _ _ _ first c.in_ok-steps.ensures.items c.in_ok-store.ensures.items bytes;
    }

pub returns-clause-bytes : goal.returns-clause-bytes
returns-clause-bytes c =
    let first : c.extend_from_slice.new.self.items ≡ c.args.bytes.items = search rules in
    told (record { first = c.extend_from_slice.new.self.items; steps = c.in_ok-steps.steps.items; store = c.in_ok-store.store.items; room = c.args.room }) c.args.bytes.items (begun_as _ _ _ _ _ first c.in_ok-steps.ensures.items c.in_ok-store.ensures.items refl)

pub returns-clause-crash : goal.returns-clause-crash
returns-clause-crash c =
    let first : c.extend_from_slice.new.self.items ≡ c.args.bytes.items = search rules in
    begun_only (record { first = c.extend_from_slice.new.self.items; steps = c.in_ok-steps.steps.items; store = c.in_ok-store.store.items; room = c.args.room }) c.args.bytes.items first c.in_ok-steps.ensures.items

pub returns-clause-past : goal.returns-clause-past
returns-clause-past c =
    let first : c.extend_from_slice.new.self.items ≡ c.args.bytes.items = search rules in
    begun_past (record { first = c.extend_from_slice.new.self.items; steps = c.in_ok-steps.steps.items; store = c.in_ok-store.store.items; room = c.args.room }) c.args.bytes.items first c.in_ok-steps.ensures.items
