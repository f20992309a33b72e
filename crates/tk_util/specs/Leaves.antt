-- What a command leaves to a crash.
use Rattle.std.specs.Prelude.{◌≡◌, ◌≢◌, ◌⊎◌, ℕ, List, Bool, true, false, Option, IfSome}
use Rattle.tk_disk.specs.Crash.{Within, Only}
use Rattle.tk_disk.specs.Folder.{or_empty}
use Rattle.tk_util.specs.Calls.{Spares}
use Rattle.tk_status.specs.declared.finish.Finish.{Finish}

-- of each file but one a crash leaves nothing that it didn't before
abbrev pub OthersWithin : (name : List ℕ) → (left leaves : List ℕ → List ℕ → Type 0) → Type 0
OthersWithin name left leaves = (m : List ℕ) → m ≢ name → Within (left m) (leaves m)

-- what a command leaves of its file, and of all others
pub record LeavesToCrash (writes tells : Bool) (name : List ℕ) (before after : Option (List ℕ)) (left leaves : List ℕ → List ℕ → Type 0) (finish : Finish) : Type 0 where
  -- the groups of the file
  pub spared : tells ≡ true → Spares (or_empty before) (left name) (leaves name)
  -- nothing new, where nothing was written
  pub still : (writes ≡ false) ⊎ ((finish.status ≡ 3) ⊎ (finish.status ≡ 7)) → Within (left name) (leaves name)
  -- the file itself, where the command answered
  pub durable : writes ≡ true → (finish.status ≡ 0) ⊎ (finish.status ≡ 6) → tells ≡ true → IfSome after (λ f. Only f (leaves name))
  pub others : OthersWithin name left leaves
