use Rattle.std.proofs.Common.{rules, ◌≡◌, ◌<◌, refl, ◌-◌, ◌∷◌, [], List, length, take, get_or, sym, subst, arith}
use Rattle.tk_hash.specs.declared.plan.NewHead.{NewHead}
use Rattle.tk_hash.specs.Plan.{IsNewest}
use Rattle.tk_hash.proofs.GroupChained.{newest_more, but_last}
use Rattle.tk_hash.proofs.links.remember.Goals as goal

some_of : (ns : List NewHead) → (ns ≡ [] → ⊥) → 0 < length ns
some_of [] some = absurd (some refl)
some_of (n ∷ ns) some = omega arith

pub returns : goal.returns
returns c =
    let ns = c.args.heads.now in
    let none : NewHead = record { bucket = 0; place = 0 } in
    subst (λ (l : List NewHead). IsNewest c.insert.new.self l) (sym (but_last ns none (some_of ns (search rules))))
    (newest_more c.args.newest.now c.insert.new.self (take (length ns - 1) ns) (get_or ns (length ns - 1) none) c.requires c.in_ok-insert.ensures.updates)
