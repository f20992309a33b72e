-- Steps done again, as far as some bytes of their writes reach.
use Rattle.std.specs.Prelude.{◌≡◌, ◌⊎◌, ℕ, ◌-◌, ◌≤◌, List, [], ◌∷◌, ◌++◌, length, take, drop, nat_le, if◌then◌else◌}
use Rattle.tk_disk.specs.declared.tape.Step.{Step}
use Rattle.tk_disk.specs.declared.tape.Step.TheVariants.{Write, Cut, Sync}
use Rattle.tk_disk.specs.Disk.{put_at}
use Rattle.tk_disk.specs.Replay.{replay, settled, spent}

-- The file after these steps, of whose writes the first `keep` bytes stand. A cut is done where all bytes before it stand.
abbrev pub redone : ℕ → List Step → List ℕ → List ℕ → List ℕ
redone keep [] store file = file
redone keep (Write at n ∷ steps) store file =
    if nat_le n keep then redone (keep - n) steps (drop n store) (put_at at (take n store) file) else put_at at (take keep store) file
redone keep (Cut n ∷ steps) store file = redone keep steps store (take n file)
redone keep (Sync ∷ steps) store file = redone keep steps store file

abbrev pub HasNoSync : List Step → Type 0
HasNoSync [] = Unit {0}
HasNoSync (Write at n ∷ steps) = HasNoSync steps
HasNoSync (Cut n ∷ steps) = HasNoSync steps
HasNoSync (Sync ∷ steps) = ⊥

-- the first k steps end with the last hard sync, or are none where there is none
pub record EndsWithLastSync (k : ℕ) (steps : List Step) : Type 0 where
  pub within : k ≤ length steps
  pub last : (k ≡ 0) ⊎ ((before : List Step) × (take k steps ≡ before ++ Sync ∷ []))
  pub none_later : HasNoSync (drop k steps)

-- the image in which the first `keep` bytes written since the last hard sync stand
abbrev pub IsKeptImage : ℕ → List ℕ → List Step → List ℕ → List ℕ → Type 0
IsKeptImage keep first steps store c =
    (k : ℕ) × EndsWithLastSync k steps × (c ≡ redone keep (drop k steps) (drop (spent (take k steps)) store) (replay (take k steps) store (settled first)).now)
