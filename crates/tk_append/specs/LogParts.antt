-- A group log, by the names that contracts call its parts.
use Rattle.std.specs.Prelude.{◌≡◌, ℕ, List, ◌++◌, take, drop, Option, IfSome}
use Rattle.tk_model.specs.declared.record.Change.{Change}
use Rattle.tk_model.specs.declared.record.Group.{Group}
use Rattle.tk_model.specs.Records.{AllFit}
use Rattle.tk_block.specs.Sizes.{static_size, heads_place}
use Rattle.tk_block.specs.Blocks.{group_bodies}
use Rattle.tk_block.specs.Layout.{group_text, laid, end_of, bodies_of}
use Rattle.tk_block.specs.Renumber.{unchecked_texts}
use Rattle.tk_block.specs.Text.{base_of, closing_text}
use Rattle.tk_block.specs.declared.head.StaticHead.{StaticHead}
use Rattle.tk_block.specs.declared.closing.Closing.{Closing}
use Rattle.tk_append.specs.declared.log.GroupLog.{GroupLog}
use Rattle.tk_append.specs.Log.{HasGroups}

abbrev pub log_disk : {D : Type 0} → GroupLog D → D
log_disk log = log.disk

abbrev pub log_head : {D : Type 0} → GroupLog D → StaticHead
log_head log = log.head

-- where the next group goes
abbrev pub log_end : {D : Type 0} → GroupLog D → ℕ
log_end log = log.end

-- the same log on another disk
abbrev pub with_disk : {D : Type 0} → GroupLog D → D → GroupLog D
with_disk log disk = record log { disk = disk }

-- the file with this closing part
abbrev pub with_closing : Closing → List ℕ → List ℕ
with_closing c f = take static_size f ++ (closing_text c ++ drop heads_place f)

-- the closing part of a file that is open
abbrev pub open_mark : Closing
open_mark = record { size = 0; count = 0; next = 0 }

-- a group of these changes, with these links, is ready for the end: all but its number and checks
pub record IsReservedText {D : Type 0} (log : GroupLog D) (changes : List Change) (links : List ℕ) : Type 0 where
  pub fit : AllFit changes
  pub text : log.reserved_text ≡ unchecked_texts (laid log.end (group_bodies 0 changes)) links

-- the text of a group that is ready, under a number
abbrev pub ready_text : {D : Type 0} → GroupLog D → (number : ℕ) → List Change → (links : List ℕ) → List ℕ
ready_text log number changes links = group_text (record { number = number; changes = changes }) log.end links

-- the log has these groups
pub record Stands {D : Type 0} (image : D → Option (List ℕ)) (log : GroupLog D) (groups : List Group) : Type 0 where
  pub end_is : log.end ≡ end_of (base_of log.head.p) (bodies_of groups)
  pub there : IfSome (image log.disk) (HasGroups log.head groups)
