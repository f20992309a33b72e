-- What the reading and counting of a whole file answers.
use Rattle.std.specs.Prelude.{◌≡◌, ℕ, ◌<◌, ◌^◌, true, List, [], length, Option, IfSome}
use Rattle.tk_model.specs.Records.{replay}
use Rattle.tk_model.specs.declared.record.Order.TheVariants.{Hash}
use Rattle.tk_model.specs.declared.record.ShardOf.{ShardOf}
use Rattle.tk_model.specs.declared.record.Group.{Group}
use Rattle.tk_block.specs.Text.{is_static}
use Rattle.tk_append.specs.Chains.{HeadsAre}
use Rattle.tk_append.specs.Log.{AreGroups, AllInItsShard, blocks_of, closed_text}
use Rattle.tk_append.specs.LogParts.{Stands, log_head}
use Rattle.tk_append.specs.declared.read.CountedLog.{CountedLog}

-- what was read is a file of these groups, which the log has, the closed file of them where the disk tells its bytes, with the
-- newest block of each bucket
pub record HasCounted {D : Type 0} (image : D → Option (List ℕ)) (disk : D) (shard : ShardOf) (r : CountedLog D) : Type 0 where
  pub groups : List Group
  pub head : is_static (log_head r.log) ≡ true
  pub generation : (log_head r.log).generation < 2 ^ 64
  pub legal : AreGroups 0 r.next groups
  pub number : r.next < 2 ^ 64
  pub count : r.count ≡ length (replay Hash groups [])
  pub stands : Stands image r.log groups
  pub heads_are : HeadsAre (log_head r.log).p r.heads.items (blocks_of (log_head r.log) groups)
  pub in_its_shard : (log_head r.log).kind ≡ 1 → AllInItsShard shard groups
  pub text : IfSome (image disk) (λ f. f ≡ closed_text (log_head r.log) groups r.next)
  pub size : IfSome (image disk) (λ f. length f < 2 ^ 64)
