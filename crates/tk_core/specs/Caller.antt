-- What a caller has, wants and knows.
use Rattle.std.specs.Prelude.{ℕ, ◌+◌, Bool, ◌||◌, List, Option, length}
use Rattle.tk_model.specs.declared.record.Entry.{Entry}
use Rattle.tk_core.specs.Lists.{has}

pub record Caller : Type 0 where
  -- false once it was joined to another
  pub live : Bool
  -- how many calls it may still make
  pub allowance : ℕ
  -- the locks that it holds, and the one that it waits for
  pub held : List ℕ
  pub want : Option ℕ
  -- the stores that are out with it
  pub out : List ℕ
  -- the history when it last looked or made a call, and when it last took a lock, too
  pub seen : List Entry
  pub base : List Entry
  -- its own calls, with their numbers
  pub mine : List (ℕ × Entry)
  -- the stores that it broke and whose locks it holds still; those that it broke; those that it found broken
  pub breaking : List ℕ
  pub broke : List ℕ
  pub met : List ℕ

-- the calls that it may make and those that it made
abbrev pub weight : Caller → ℕ
weight v = v.allowance + length v.mine

-- it knows that this store is broken
abbrev pub knows_broken : Caller → ℕ → Bool
knows_broken v i = has i v.met || has i v.breaking
