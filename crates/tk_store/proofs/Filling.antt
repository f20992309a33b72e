-- Records in order that are put in one after the other.
use Rattle.std.proofs.Common.{◌≡◌, ℕ, List, [], ◌∷◌, ◌++◌, sym, ap, subst, ◌∙◌}
use Rattle.std.proofs.lemmas.List.{append-nil}
use Rattle.std.specs.declared.cmp.Ordering.TheVariants.{Less}
use Rattle.tk_model.specs.Orders.{key_cmp}
use Rattle.tk_model.specs.Records.{put, AllBehind, Rising}
use Rattle.tk_model.specs.declared.record.Order.TheVariants.{Hash}
use Rattle.tk_model.specs.declared.record.Pair.{Pair}
use Rattle.tk_store.proofs.Joined.{AllBefore, put_past}

less_than : (k : List ℕ) (xs ys : List Pair) (p : Pair) → AllBehind Hash k (xs ++ p ∷ ys) → key_cmp Hash k p.key ≡ Less
less_than k [] ys p all = all.0
less_than k (x ∷ xs) ys p all = less_than k xs ys p all.1

all_before : (xs ys : List Pair) (p : Pair) → Rising Hash (xs ++ p ∷ ys) → AllBefore p.key xs
all_before [] ys p rising = tt
all_before (x ∷ xs) ys p rising = (less_than x.key xs ys p rising.0, all_before xs ys p rising.1)

-- the next of some records goes behind those before it
pub put_next : (xs ys whole : List Pair) (p : Pair) → Rising Hash whole → whole ≡ xs ++ p ∷ ys → put Hash p xs ≡ xs ++ p ∷ []
put_next xs ys whole p rising is =
    ap (put Hash p) (sym (append-nil xs)) ∙ put_past p xs [] (all_before xs ys p (subst (Rising Hash) is rising))
