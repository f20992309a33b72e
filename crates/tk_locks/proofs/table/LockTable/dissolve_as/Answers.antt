use Rattle.std.proofs.Common.{◌≡◌, ◌≤◌, ◌+◌, ℕ, suc, Bool, List, Option, false, length, take, set, get_or, get_or-set_same, get_or-set_other, sym, ap, ◌∙◌, subst, arith}
use mathlib.Core.Logic.{dite}
use native.Mathlib.Decide.{ℕ_discrete}
use Rattle.std.specs.Slots.{slots_items, slots_counts}
use Rattle.tk_core.specs.declared.frame.Frame.{Frame}
use Rattle.tk_core.specs.Covers.{store_lock}
use Rattle.tk_locks.specs.declared.home.Home.{Home}
use Rattle.tk_locks.specs.Rule.{ground_of}
use Rattle.tk_locks.specs.Homes.{at_home}
use Rattle.tk_locks.specs.Tells.{Finds}
use Rattle.tk_locks.proofs.Homes.{gather, gather_long, gathers_next, few_home}
use Rattle.tk_locks.proofs.Facts.{got, take_next, take_whole, take_short, take_long}
use Rattle.tk_locks.proofs.Whole.{ends}
use Rattle.tk_locks.proofs.table.LockTable.dissolve_as.Goals as goal

pub loop-i-preserved : goal.loop-i-preserved
loop-i-preserved g c =
    let inv = c.loop-i.invariant in let o = c.take-slot.ensures.others in let xs : List (Option (Home g.row.S.Denot)) = c.loop-i.closed.slots.items in
    let stripes : ℕ = c.args.self.frame.stripes in let w : ℕ → ℕ = λ q. get_or c.loop-i.closed.words.items (stripes + q + 1) 0 in
    let low : c.loop-i.i ≤ length xs = (let n = (slots_counts c.loop-i.closed.slots).0 in let t = c.loop-i-test.true in let q = c.slot_count.ensures in omega arith) in
    let one : suc c.loop-i.i ≡ c.loop-i.i + 1 = omega arith in (
      gathers_next w (take c.loop-i.i xs) c.take-slot.result c.word-lock.result c.loop-i.into.items c.put_home.new.into.items
          (sym (got c.loop-i.closed.words.items (stripes + c.loop-i.i + 1) c.word-lock.result 0 c.word-lock.ensures) ∙ ap w (sym (take_long xs c.loop-i.i low))) inv.0 c.put_home.ensures.free c.put_home.ensures.held
          ∙ ap (λ (zs : List (Option (Home g.row.S.Denot))). at_home (gather w 0 zs)) (sym (take_next xs c.loop-i.i c.take-slot.result c.take-slot.ensures.value) ∙ ap (λ k. take k xs) one ∙ ap (take (c.loop-i.i + 1)) (sym o.0))
          ∙ ap (λ ws. at_home (gather (λ q. get_or (slots_items ws) (stripes + q + 1) 0) 0 (take (c.loop-i.i + 1) c.take-slot.new.self.slots.items))) (sym o.3),
      o.0 ∙ inv.1,
      o.2 ∙ inv.2,
      (λ k low high. ap (λ (fs : List Bool). get_or fs k false) o.1 ∙ get_or-set_other c.loop-i.closed.slots.filled c.loop-i.i k false false (λ e. omega arith) ∙ inv.3 k (omega arith) (let z = o.2 in omega arith)),
      (λ k low. ap (λ (fs : List Bool). get_or fs k false) o.1 ∙ dite (ℕ_discrete k c.loop-i.i)
          (λ e. ap (λ (k2 : ℕ). get_or (set c.loop-i.closed.slots.filled c.loop-i.i false) k2 false) e ∙ get_or-set_same c.loop-i.closed.slots.filled c.loop-i.i false false (let n = (slots_counts c.loop-i.closed.slots).1 in let t = c.loop-i-test.true in let q = c.slot_count.ensures in omega arith))
          (λ ne. get_or-set_other c.loop-i.closed.slots.filled c.loop-i.i k false false ne ∙ inv.4 k (omega arith))),
      (let a = o.2 in let b = c.put_home.ensures.capacity in let d = inv.5 in omega arith),
      o.3 ∙ inv.6,
    )

pub put_home-requires : goal.put_home-requires
put_home-requires g c =
    let inv = c.loop-i.invariant in let xs : List (Option (Home g.row.S.Denot)) = take c.loop-i.i c.loop-i.closed.slots.items in
    let w : ℕ → ℕ = λ q. get_or c.loop-i.closed.words.items (c.args.self.frame.stripes + q + 1) 0 in
    let a : length c.loop-i.into.items ≡ length (at_home (gather w 0 xs)) = ap length inv.0 in let b = few_home (gather w 0 xs) in let n = gather_long w 0 xs in let d = take_short c.loop-i.closed.slots.items c.loop-i.i in
    let t = c.loop-i-test.true in let q = c.slot_count.ensures in let e = inv.5 in record { room = omega arith }

pub returns-clause-few : goal.returns-clause-few
returns-clause-few g c =
    let inv = c.loop-i.invariant in let xs : List (Option (Home g.row.S.Denot)) = c.loop-i.closed.slots.items in
    let w : ℕ → ℕ = λ q. get_or c.loop-i.closed.words.items (c.args.self.frame.stripes + q + 1) 0 in
    let all : take c.loop-i.i xs ≡ xs = take_whole xs c.loop-i.i (let n = (slots_counts c.loop-i.closed.slots).0 in let t = c.loop-i-test.false in let q = c.slot_count.ensures in omega arith) in
    let a : length c.loop-i.into.items ≡ length (at_home (gather w 0 (take c.loop-i.i xs))) = ap length inv.0 in let b = few_home (gather w 0 (take c.loop-i.i xs)) in let n = gather_long w 0 (take c.loop-i.i xs) in
    let k = ap length all in let s = (slots_counts c.loop-i.closed.slots).0 in let r = inv.2 in let q = c.close_with-closed.ensures.counts.1 in let z = c.args.self.sized.1 in let e = ap (λ (b : Frame). b.stores) c.args.self.sized.2 in omega arith

pub returns-clause-end : goal.returns-clause-end
returns-clause-end g c =
    let inv = c.loop-i.invariant in let xs : List (Option (Home g.row.S.Denot)) = slots_items c.close_with-closed.result.slots in
    let words : List ℕ = slots_items c.close_with-closed.result.words in let stripes : ℕ = c.args.self.frame.stripes in
    let w : ℕ → ℕ = λ q. get_or c.loop-i.closed.words.items (stripes + q + 1) 0 in
    let same : c.loop-i.into.items ≡ at_home (gather (λ q. get_or words (stripes + q + 1) 0) 0 xs) = inv.0
    ∙ ap (λ (zs : List (Option (Home g.row.S.Denot))). at_home (gather w 0 zs)) (take_whole c.loop-i.closed.slots.items c.loop-i.i (let n = (slots_counts c.loop-i.closed.slots).0 in let t = c.loop-i-test.false in let q = c.slot_count.ensures in omega arith) ∙ inv.1)
    ∙ ap (λ ws. at_home (gather (λ q. get_or (slots_items ws) (stripes + q + 1) 0) 0 xs)) inv.6 in
    let calls : get_or words 0 0 ≡ c.word-calls.result = got words 0 c.word-calls.result 0 c.word-calls.ensures in
    let found : at_home (gather (λ q. get_or words (store_lock c.args.self.table.shared.key.frame q + 1) 0) 0 xs) ≡ c.loop-i.into.items =
    ap (λ (z : Frame). at_home (gather (λ q. get_or words (store_lock z q + 1) 0) 0 xs)) c.args.self.sized.2 ∙ sym same in
    subst (λ (z : ℕ × List (Home g.row.S.Denot)). Finds g.S.SeqStore.lawful g.S.SeqStore.stands g.S.SeqStore.store_view g.S.SeqStore.constants g.S.SeqStore.fault_count (ground_of c.args.self.table.shared.key) c.args.seat.me.0 z.0 z.1)
    (λ t. (calls t, found t)) (ends _ _ _ _ _ _ _ _ c.args.seat.id c.args.seat.me.0 words xs c.close_with-closed.ensures.values.2 c.requires.idle)
