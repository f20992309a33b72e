-- A fair past stays fair.
use Rattle.std.proofs.Common.{◌≡◌, inl, inr, List, [], ◌∷◌, ◌++◌, length, take, sym, ◌∙◌, ap, subst, arith, append_assoc}
use Rattle.std.proofs.lemmas.Bool.{cases_lt}
use Rattle.std.proofs.lemmas.List.{take-append-le, take_all}
use Rattle.tk_disk.specs.Past.{Write}
use Rattle.tk_model.specs.declared.record.Group.{Group}
use Rattle.tk_block.specs.declared.head.StaticHead.{StaticHead}
use Rattle.tk_append.specs.Log.{HasGroups}
use Rattle.tk_append.specs.Untorn.{AllWrites}
use Rattle.tk_append.specs.FairPast.{IsFairWrite, FairMore, FairWritten, FairSettled}

write_more : (h : StaticHead) (groups more : List Group) (w : Write) → IsFairWrite h groups w → IsFairWrite h (groups ++ more) w
write_more h groups more w (inl front) = inl front
write_more h groups more w (inr g) = inr (record {
  front = g.front;
  group = g.group;
  rest = g.rest ++ more;
  links = g.links;
  is = ap (λ (l : List Group). l ++ more) g.is ∙ append_assoc g.front (g.group ∷ g.rest) more;
  at = g.at;
  text = g.text;
})

writes_more : (h : StaticHead) (groups more : List Group) (ws : List Write) → AllWrites (IsFairWrite h groups) ws → AllWrites (IsFairWrite h (groups ++ more)) ws
writes_more h groups more [] fair = tt
writes_more h groups more (w ∷ ws) fair = (write_more h groups more w fair.0, writes_more h groups more ws fair.1)

pub fair_more : FairMore
fair_more h groups more p fair = elim (cases_lt (length groups) fair.count) [
  | inl past ↦
      let all : take fair.count groups ≡ take (length groups) (groups ++ more) =
      take_all fair.count groups (omega (arith, past)) ∙ sym (take_all (length groups) groups (omega arith)) ∙ sym (take-append-le (length groups) groups more (omega arith)) in
      record {
        count = length groups;
        stood = subst (λ (l : List Group). HasGroups h l p.fixed) all fair.stood;
        writes = writes_more h groups more p.writes fair.writes;
      }
  | inr within ↦ record {
    count = fair.count;
    stood = subst (λ (l : List Group). HasGroups h l p.fixed) (sym (take-append-le fair.count groups more (omega (arith, within)))) fair.stood;
    writes = writes_more h groups more p.writes fair.writes;
  }
]

pub all_and : (P : Write → Type 0) (ws : List Write) (w : Write) → AllWrites P ws → P w → AllWrites P (ws ++ w ∷ [])
all_and P [] w all one = (one, tt)
all_and P (x ∷ ws) w all one = (all.0, all_and P ws w all.1 one)

pub fair_written : FairWritten
fair_written h groups p at bytes fair one = record { count = fair.count; stood = fair.stood; writes = all_and (IsFairWrite h groups) p.writes _ fair.writes one }

pub fair_settled : FairSettled
fair_settled h groups f has = record {
  count = length groups;
  stood = subst (λ (l : List Group). HasGroups h l f) (sym (take_all (length groups) groups (omega arith))) has;
  writes = tt;
}
