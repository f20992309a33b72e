use Rattle.std.proofs.Common.{◌++◌, [], ◌∷◌, length, ap, ◌∙◌, arith}
use Rattle.std.proofs.lemmas.Bool.Decides.{nat_tests}
use Rattle.tk_locks.specs.Homes.{bare}
use Rattle.tk_locks.proofs.Homes.{unlodges, unlodged_all, few_bare}
use Rattle.tk_locks.proofs.lists.unlodged.Goals as goal

pub loop-homes-preserved : goal.loop-homes-preserved
loop-homes-preserved g c = let inv = c.loop-homes.invariant in let n = c.remove-slot.ensures.len in let l = c.loop-homes.homes.ok.0 in record {
  all = ap (λ xs. xs ++ bare c.remove-slot.new.self.items) c.put_bare.ensures.items
      ∙ ap (λ xs. (c.loop-homes.into.items ++ bare (c.remove-slot.result ∷ [])) ++ bare xs) c.remove-slot.ensures.items
      ∙ unlodges c.loop-homes.into.items c.loop-homes.homes.items c.remove-slot.result (omega arith) c.remove-slot.ensures.value ∙ inv.all;
  room = let k = few_bare c.loop-homes.into.items c.remove-slot.result in let y = ap length c.put_bare.ensures.items in let room = c.put_bare.ensures.capacity in let d = c.remove-slot.new.self.ok.0 in let e = inv.room in omega arith;
}

pub returns : goal.returns
returns g c = unlodged_all c.loop-homes.into.items c.loop-homes.homes.items _
    (let l = c.loop-homes.homes.ok.0 in let t = c.loop-homes-test.false in let q = c.is_empty.ensures in grind (arith, nat_tests)) c.loop-homes.invariant.all
