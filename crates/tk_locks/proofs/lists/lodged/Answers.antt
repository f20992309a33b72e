use Rattle.std.proofs.Common.{◌++◌, [], ◌∷◌, Some, None, ap, ◌∙◌, arith}
use Rattle.std.proofs.lemmas.Bool.Decides.{nat_tests}
use Rattle.tk_locks.specs.Homes.{homes_of}
use Rattle.tk_locks.proofs.Homes.{lodges, lodged_all}
use Rattle.tk_locks.proofs.lists.lodged.Goals as goal

pub loop-stores-preserved : goal.loop-stores-preserved
loop-stores-preserved g c = let inv = c.loop-stores.invariant in let n = c.remove-store.ensures.len in let l = c.loop-stores.stores.ok.0 in record {
  all = ap (λ xs. xs ++ homes_of c.remove-store.new.self.items) c.push_reserved.ensures.items
      ∙ ap (λ xs. (c.loop-stores.into.items ++ Some (record { store = c.remove-store.result; broken = None }) ∷ []) ++ homes_of xs) c.remove-store.ensures.items
      ∙ lodges c.loop-stores.into.items c.loop-stores.stores.items c.remove-store.result (omega arith) c.remove-store.ensures.value ∙ inv.all;
  room = let k = c.push_reserved.ensures.len in let room = c.push_reserved.ensures.capacity in let a = c.loop-stores.into.ok.0 in let b = c.push_reserved.new.self.ok.0 in let d = c.remove-store.new.self.ok.0 in let e = inv.room in omega arith;
}

pub returns : goal.returns
returns g c = lodged_all c.loop-stores.into.items c.loop-stores.stores.items _
    (let l = c.loop-stores.stores.ok.0 in let t = c.loop-stores-test.false in let q = c.is_empty.ensures in grind (arith, nat_tests)) c.loop-stores.invariant.all
