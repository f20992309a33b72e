-- How the length of a text follows from changes.
use Rattle.std.proofs.Common.{◌≡◌, ℕ, ◌+◌, ◌≤◌, Bool, true, false, List, [], ◌∷◌, length, Some, None, refl, sym, ap, subst, ◌∙◌, arith, if◌then◌else◌}
use Rattle.std.specs.declared.cmp.Ordering.{Ordering}
use Rattle.std.specs.declared.cmp.Ordering.TheVariants.{Less, Equal, Greater}
use Rattle.tk_model.specs.Orders.{same_bytes, key_cmp}
use Rattle.tk_model.specs.RecordText.{record_size}
use Rattle.tk_model.specs.Records.{find, put, put_by, without, Rising}
use Rattle.tk_model.specs.declared.record.Order.TheVariants.{Hash}
use Rattle.tk_model.specs.declared.record.Pair.{Pair}
use Rattle.tk_model.proofs.KeyOrders.{keys_apart, same_told, same_itself}
use Rattle.tk_model.proofs.RecordLaws.{behind_earlier, apart_less, apart_greater, found_head, found_deeper, none_behind}
use Rattle.tk_mem.specs.Undo.{records_size, text_size, size_of}

same_value_size : (k : List ℕ) (p : Pair) → k ≡ p.key → size_of k (Some p.value) ≡ record_size p
same_value_size k p e = ap (λ (j : List ℕ). size_of j (Some p.value)) e

put_by_size : (c : Ordering) (new p : Pair) (ps : List Pair) → key_cmp Hash new.key p.key ≡ c → Rising Hash (p ∷ ps)
    → records_size (put Hash new ps) + size_of new.key (find new.key ps) ≡ records_size ps + record_size new
    → records_size (put_by c new p ps (put Hash new ps)) + size_of new.key (find new.key (p ∷ ps)) ≡ records_size (p ∷ ps) + record_size new
put_by_size Less new p ps e rising deeper =
    let none : find new.key (p ∷ ps) ≡ None = found_deeper new.key p ps (apart_less Hash new.key p.key e) ∙ none_behind Hash new.key ps (behind_earlier Hash new.key p.key ps e rising.0) in
    omega (arith, ap (size_of new.key) none)
put_by_size Equal new p ps e rising deeper =
    let key : new.key ≡ p.key = keys_apart Hash new.key p.key e in
    let found : find new.key (p ∷ ps) ≡ Some p.value = found_head new.key p ps (subst (λ k. same_bytes new.key k ≡ true) key (same_itself new.key)) in
    omega (arith, ap (size_of new.key) found, same_value_size new.key p key)
put_by_size Greater new p ps e rising deeper =
    let found : find new.key (p ∷ ps) ≡ find new.key ps = found_deeper new.key p ps (apart_greater Hash new.key p.key e) in
    omega (arith, ap (size_of new.key) found, deeper)

size_put_records : (new : Pair) (m : List Pair) → Rising Hash m → records_size (put Hash new m) + size_of new.key (find new.key m) ≡ records_size m + record_size new
size_put_records new [] rising = omega arith
size_put_records new (p ∷ ps) rising = put_by_size (key_cmp Hash new.key p.key) new p ps refl rising (size_put_records new ps rising.1)

pub size_put : (new : Pair) (m : List Pair) → Rising Hash m → text_size (put Hash new m) + size_of new.key (find new.key m) ≡ text_size m + record_size new
size_put new m rising = omega (arith, size_put_records new m rising)

pick_size : (b : Bool) (k : List ℕ) (p : Pair) (ps deeper : List Pair) → same_bytes k p.key ≡ b → records_size deeper + size_of k (find k ps) ≡ records_size ps
    → records_size (if b then ps else p ∷ deeper) + size_of k (find k (p ∷ ps)) ≡ records_size (p ∷ ps)
pick_size true k p ps deeper e more = omega (arith, ap (size_of k) (found_head k p ps e), same_value_size k p (same_told k p.key e))
pick_size false k p ps deeper e more = omega (arith, ap (size_of k) (found_deeper k p ps e), more)

size_without_records : (k : List ℕ) (m : List Pair) → records_size (without k m) + size_of k (find k m) ≡ records_size m
size_without_records k [] = omega arith
size_without_records k (p ∷ ps) = pick_size (same_bytes k p.key) k p ps (without k ps) refl (size_without_records k ps)

pub size_without : (k : List ℕ) (m : List Pair) → text_size (without k m) + size_of k (find k m) ≡ text_size m
size_without k m = omega (arith, size_without_records k m)

pub size_within : (k : List ℕ) (m : List Pair) → size_of k (find k m) + 8 ≤ text_size m
size_within k m = omega (arith, size_without_records k m)

pub size_found : (k j v : List ℕ) (m : List Pair) → j ≡ k → Some v ≡ find j m → 6 + (length k + length v) + 8 ≤ text_size m
size_found k j v m is found =
    let s : size_of k (find k m) ≡ size_of k (Some v) = ap (size_of k) (ap (λ (i : List ℕ). find i m) (sym is) ∙ sym found) in
    omega (arith, s, size_within k m)
