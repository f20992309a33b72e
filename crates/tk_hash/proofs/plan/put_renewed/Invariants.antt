use Rattle.std.proofs.Common.{◌≡◌, ◌≤◌, ◌^◌, ℕ, List, length, drop}
use Rattle.std.specs.Prelude.{IfSome}
use Rattle.tk_model.specs.declared.record.Group.{Group}
use Rattle.tk_block.specs.Text.{base_of}
use Rattle.tk_block.specs.declared.closing.Closing.{Closing}
use Rattle.tk_append.specs.LogParts.{log_disk, log_head}
use Rattle.tk_append.specs.FileText.{text_with}
use Rattle.tk_hash.specs.Plan.{with_new, AllBelow, Puts}
use Rattle.tk_hash.proofs.HeadTexts.{HasHeads}
use Rattle.tk_hash.proofs.plan.put_renewed.Given as goal

abbrev pub invariant-loop-head : goal.invariant-loop-head
invariant-loop-head g l =
    let disk = g.D.Disk in
    let h = log_head l.fn.log in
    record {
      written : (c : Closing) (old : List ℕ) (groups : List Group) → IfSome (disk.image (log_disk l.fn.log)) (λ f. f ≡ text_with h c old groups → length old ≡ 2 ^ h.p
          → HasHeads h c groups (disk.image (log_disk l.log)) (λ now. with_new (drop l.head-index l.heads) now ≡ with_new l.heads old));
      puts : Puts disk.image disk.may_leave disk.past disk.moment disk.left_since disk.left_with disk.taken_count l.fn.log l.log;
      there : IfSome (disk.image (log_disk l.log)) (λ f. base_of h.p ≤ length f);
      below : AllBelow (2 ^ h.p) (drop l.head-index l.heads);
      count : disk.fault_count (log_disk l.log) ≡ disk.fault_count (log_disk l.fn.log);
    }
