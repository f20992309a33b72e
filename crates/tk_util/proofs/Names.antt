-- Where one name changed.
use Rattle.std.proofs.Common.{◌≡◌, ℕ, Bool, true, false, List, ap, subst, sym, ◌∙◌, refl}
use Rattle.std.specs.Str.{bytes_eq}
use Rattle.std.proofs.lemmas.Slice.Eq.{bytes_eq-Decides}
use Rattle.tk_disk.specs.Crash.{Within}
use Rattle.tk_disk.specs.Folder.{NoneOut, SameBut}
use Rattle.tk_util.specs.Leaves.{OthersWithin}

at_name : {A : Type 0} (old new : List ℕ → A) (name m : List ℕ) (same : Bool) → bytes_eq m name ≡ same → SameBut name old new → new name ≡ old name → new m ≡ old m
at_name old new name m true is others here = let e : m ≡ name = (bytes_eq-Decides m name).0 is in ap new e ∙ here ∙ ap old (sym e)
at_name old new name m false is others here = others m (λ e. absurd (cc (is, (bytes_eq-Decides m name).1 e)))

-- where it is as it was too, all are
pub all_same : {A : Type 0} (old new : List ℕ → A) (name : List ℕ) → SameBut name old new → new name ≡ old name → (m : List ℕ) → new m ≡ old m
all_same old new name others here = λ m. at_name old new name m (bytes_eq m name) refl others here

within_name : (left leaves : List ℕ → List ℕ → Type 0) (name m : List ℕ) (same : Bool) → bytes_eq m name ≡ same → OthersWithin name left leaves → Within (left name) (leaves name) → Within (left m) (leaves m)
within_name left leaves name m true is others here = subst (λ (n : List ℕ). Within (left n) (leaves n)) (sym ((bytes_eq-Decides m name).0 is)) here
within_name left leaves name m false is others here = others m (λ e. absurd (cc (is, (bytes_eq-Decides m name).1 e)))

-- where a crash leaves nothing new there, it leaves nothing new at all
pub all_within : (left leaves : List ℕ → List ℕ → Type 0) (name : List ℕ) → OthersWithin name left leaves → Within (left name) (leaves name) → (m : List ℕ) → Within (left m) (leaves m)
all_within left leaves name others here = λ m. within_name left leaves name m (bytes_eq m name) refl others here

-- where no disk is out there, none is out
pub all_home : (old new : List ℕ → Bool) (name : List ℕ) → NoneOut old → SameBut name old new → new name ≡ false → NoneOut new
all_home old new name home others here = λ m. all_same old new name others (here ∙ sym (home name)) m ∙ home m
