use Rattle.std.proofs.Common.{◌≡◌, ◌-◌, ◌≤◌, List, [], length, take}
use Rattle.std.specs.Prelude.{IfSome}
use Rattle.tk_disk.specs.Crash.{OnlyReads}
use Rattle.tk_model.specs.Records.{after, replay}
use Rattle.tk_model.specs.declared.record.Order.TheVariants.{Hash}
use Rattle.tk_model.specs.declared.record.Group.{Group}
use Rattle.tk_append.specs.FileText.{IsFile}
use Rattle.tk_hash.specs.Plan.{TellThere}
use Rattle.tk_hash.proofs.counts.count_changes.Given as goal

abbrev pub invariant-loop-i : goal.invariant-loop-i
invariant-loop-i g l =
    let disk = g.D.Disk in
    record {
      counted : (groups : List Group) → IfSome (disk.image l.fn.disk) (λ f. IsFile l.file.head f groups → l.fn.count ≡ length (replay Hash groups []) → l.count ≡ length (after Hash (take l.i l.changes) (replay Hash groups [])));
      marks : TellThere (take (l.i - 1) l.changes) l.marks;
      buffer : length l.buffer ≡ length l.fn.buffer;
      image : disk.image l.disk ≡ disk.image l.fn.disk;
      still : OnlyReads disk.may_leave disk.moment disk.left_since disk.past disk.left_with l.fn.disk l.disk;
      taken : disk.taken_count l.fn.disk ≤ disk.taken_count l.disk;
      count : disk.fault_count l.disk ≡ disk.fault_count l.fn.disk;
    }
