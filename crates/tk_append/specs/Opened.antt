-- What the opening of a file of groups answers.
use Rattle.std.specs.Prelude.{◌≡◌, ℕ, ◌<◌, ◌≤◌, ◌^◌, Bool, true, List, length, Option, IfSome}
use Rattle.tk_model.specs.declared.record.ShardOf.{ShardOf}
use Rattle.tk_model.specs.declared.record.Group.{Group}
use Rattle.tk_block.specs.Text.{is_static}
use Rattle.tk_append.specs.Log.{AreGroups, AllInItsShard, closed_text}
use Rattle.tk_append.specs.LogParts.{Stands, log_head}
use Rattle.tk_append.specs.declared.log.GroupLog.{GroupLog}

-- the log has the groups of the file that it was opened over, which was the closed file of them where the disk tells its bytes
pub record HasOpened {D : Type 0} (image : D → Option (List ℕ)) (disk : D) (writable : Bool) (shard : ShardOf) (log : GroupLog D) : Type 0 where
  pub groups : List Group
  pub next : ℕ
  pub head : is_static (log_head log) ≡ true
  pub generation : (log_head log).generation < 2 ^ 64
  pub legal : AreGroups 0 next groups
  pub number : next < 2 ^ 64
  pub stands : Stands image log groups
  pub in_its_shard : (log_head log).kind ≡ 1 → AllInItsShard shard groups
  pub text : IfSome (image disk) (λ f. f ≡ closed_text (log_head log) groups next)
  pub size : IfSome (image disk) (λ f. length f < 2 ^ 64)
  pub last : writable ≡ true → next ≤ 2 ^ 62
