-- The ready processors, as their replies.
use Rattle.std.proofs.Common.{◌≡◌, ℕ, ◌≤◌, true, false, List, length, refl, arith}
use Rattle.std.specs.Prelude.{Option, Some, None, nat_lt}
use Rattle.std.proofs.lemmas.Bool.Decides.{nat_tests}
use Rattle.tk_status.specs.declared.Status.TheVariants.{Success}
use Rattle.tk_proc.specs.Replies.{get_reply, set_reply, remove_reply}
use Rattle.tk_proc.specs.Runs.{is_long}

pub get_fits : (was : Option (List ℕ)) → is_long (get_reply was).action ≡ false
get_fits None = refl
get_fits (Some v) = refl

pub remove_fits : (was : Option (List ℕ)) → is_long (remove_reply was).action ≡ false
remove_fits None = refl
remove_fits (Some v) = refl

short_value : (v : List ℕ) → length v ≤ 16777215 → nat_lt 16777215 (length v) ≡ false
short_value v le = grind (arith, nat_tests)

pub set_fits : (v : List ℕ) → length v ≤ 16777215 → (was : Option (List ℕ)) → is_long (set_reply v true was).action ≡ false
set_fits v le None = short_value v le
set_fits v le (Some u) = short_value v le

pub set_success : (v : List ℕ) (was : Option (List ℕ)) → (set_reply v true was).status ≡ Success
set_success v None = refl
set_success v (Some u) = refl
