-- The whole text of a file of groups, by its parts.
use Rattle.std.specs.Prelude.{◌≡◌, ℕ, ◌<◌, ◌^◌, List, ◌++◌, length, true}
use Rattle.tk_model.specs.declared.record.Group.{Group}
use Rattle.tk_block.specs.Text.{static_text, closing_text, is_static}
use Rattle.tk_block.specs.Layout.{heads_text}
use Rattle.tk_block.specs.declared.head.StaticHead.{StaticHead}
use Rattle.tk_block.specs.declared.closing.Closing.{Closing}
use Rattle.tk_append.specs.Pieces.{words_text}
use Rattle.tk_append.specs.Log.{AreGroups, blocks_of}
use Rattle.tk_append.specs.Restored.{groups_text}

-- a header, a closing part, these heads, and the blocks of groups
abbrev pub text_with : StaticHead → Closing → (heads : List ℕ) → List Group → List ℕ
text_with h c heads groups = (static_text h ++ closing_text c) ++ (words_text heads ++ groups_text h groups)

-- the file of groups, with this closing part
abbrev pub text_of : StaticHead → Closing → List Group → List ℕ
text_of h c groups = (static_text h ++ closing_text c) ++ (heads_text h.p (blocks_of h groups) ++ groups_text h groups)

-- the bytes are a file of these groups, whatever its closing part says
pub record IsFile (h : StaticHead) (f : List ℕ) (groups : List Group) : Type 0 where
  pub header : is_static h ≡ true
  pub generation : h.generation < 2 ^ 64
  pub legal : AreGroups 0 (2 ^ 64) groups
  pub size : length f < 2 ^ 64
  pub closing : Closing
  pub text : f ≡ text_of h closing groups
