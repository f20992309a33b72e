use Rattle.std.proofs.Common.{◌<◌, List, Option, length, unwrap_or, sym, ap, ◌∙◌, subst, arith}
use Rattle.std.proofs.lemmas.Bool.Decides.{nat_tests}
use Rattle.tk_status.specs.declared.Status.{Status}
use Rattle.tk_status.specs.declared.Status.TheVariants.{Success}
use Rattle.tk_locks.specs.declared.home.Home.{Home}
use Rattle.tk_dbm.specs.Ending.{AllMayEnd}
use Rattle.tk_dbm.specs.Fates.{first_failure}
use Rattle.tk_dbm.proofs.Fates.{Ending, rest_may, goes_on, ended_all}
use Rattle.tk_dbm.proofs.ending.end_all.Goals as goal

pub loop-homes-preserved : goal.loop-homes-preserved
loop-homes-preserved g c =
    let inv = c.loop-homes.invariant in let hs : List (Home g.row.S.Denot) = c.loop-homes.homes.items in let rest = c.remove-home.ensures in let put = c.push_reserved.ensures in
    let low : 0 < length hs = (let n = rest.len in let l = c.loop-homes.homes.ok.0 in omega arith) in
    record {
      may = subst (λ (xs : List (Home g.row.S.Denot)). AllMayEnd g.S.SeqStore.stands g.S.SeqStore.store_view g.S.SeqStore.constants c.args.next xs) (sym rest.items)
          (rest_may g.S.SeqStore.stands g.S.SeqStore.store_view g.S.SeqStore.constants c.args.next hs c.remove-home.result low rest.value inv.may).1;
      so = subst (λ (z : List (Home g.row.S.Denot) × List g.row.S.Denot). Ending g.S.SeqStore.stands g.S.SeqStore.store_view g.S.SeqStore.constants g.S.SeqStore.fault_count c.args.next c.args.homes.items z.0 z.1 c.end.new.self.failed c.end.new.self.broken)
          (λ t. (sym rest.items t, sym put.items t))
          (goes_on g.S.SeqStore.stands g.S.SeqStore.store_view g.S.SeqStore.constants g.S.SeqStore.fault_count c.args.next c.args.homes.items hs c.loop-homes.into.items c.remove-home.result c.end.result
          c.loop-homes.ending.failed c.loop-homes.ending.broken c.end.new.self.failed c.end.new.self.broken low rest.value inv.so c.end.ensures);
      room = let k = put.len in let room = put.capacity in let a = c.loop-homes.into.ok.0 in let b = c.push_reserved.new.self.ok.0 in let d = c.remove-home.new.self.ok.0 in
          let l = c.loop-homes.homes.ok.0 in let n = rest.len in let e = inv.room in omega arith;
    }

pub returns : goal.returns
returns g c =
    let t = ended_all g.S.SeqStore.stands g.S.SeqStore.store_view g.S.SeqStore.constants g.S.SeqStore.fault_count c.args.next c.args.homes.items c.loop-homes.homes.items c.loop-homes.into.items c.loop-homes.ending.failed c.loop-homes.ending.broken
    (let l = c.loop-homes.homes.ok.0 in let z = c.loop-homes-test.false in let q = c.is_empty.ensures in grind (arith, nat_tests)) c.loop-homes.invariant.so in (
      t.0,
      t.1,
      c.status.ensures ∙ ap (λ (o : Option Status). unwrap_or o (unwrap_or c.loop-homes.ending.broken Success)) t.2 ∙ ap (λ (o : Option Status). unwrap_or (first_failure t.0) (unwrap_or o Success)) t.3,
    )
