-- Each order of keys is total, and equal keys have the same bytes.
use Rattle.std.proofs.Common.{◌≡◌, ℕ, List, true, refl, ap, ◌∙◌}
use Rattle.std.proofs.lemmas.Cmp.{nat_list_cmp_total, nat_cmp_total, int_cmp_total, on_total, then_total, tied_itself}
use Rattle.std.specs.Cmp.{IsTotalOrder}
use Rattle.std.specs.Cmp.Lexicographic.{texts_ties}
use Rattle.std.specs.Ordering.{nat_cmp, int_cmp, ordering_then, is_eq}
use Rattle.std.specs.declared.cmp.Ordering.{Ordering}
use Rattle.std.specs.declared.cmp.Ordering.TheVariants.{Less, Equal, Greater}
use lib.Pointwise.{bytes_decides}
use Rattle.tk_model.specs.Hashes.{mix_of}
use Rattle.tk_model.specs.Orders.{bytes_cmp, key_cmp, lowered, decimal, hexadecimal, same_bytes}
use Rattle.tk_model.specs.OrderLaws.{OrdersKeys}
use Rattle.tk_model.specs.declared.record.Order.{Order}
use Rattle.tk_model.specs.declared.record.Order.TheVariants as orders

pub bytes_total : IsTotalOrder bytes_cmp
unfolding bytes_cmp
bytes_total = nat_list_cmp_total

pub keys_total : (o : Order) → IsTotalOrder (key_cmp o)
unfolding key_cmp
keys_total orders.Hash = then_total (on_total mix_of nat_cmp_total) bytes_total
keys_total orders.Bytes = bytes_total
keys_total orders.Case = then_total (on_total lowered bytes_total) bytes_total
keys_total orders.Decimal = then_total (on_total decimal int_cmp_total) bytes_total
keys_total orders.Hex = then_total (on_total hexadecimal nat_cmp_total) bytes_total

pub bytes_apart : (a b : List ℕ) → bytes_cmp a b ≡ Equal → a ≡ b
unfolding bytes_cmp
bytes_apart a b e = (bytes_decides a b).0 (texts_ties a b ∙ ap is_eq e)

then_equal : (p q : Ordering) → ordering_then p q ≡ Equal → q ≡ Equal
then_equal Less q e = absurd (cc)
then_equal Equal q e = e
then_equal Greater q e = absurd (cc)

pub keys_apart : (o : Order) (a b : List ℕ) → key_cmp o a b ≡ Equal → a ≡ b
unfolding key_cmp
keys_apart orders.Hash a b e = bytes_apart a b (then_equal (nat_cmp (mix_of a) (mix_of b)) (bytes_cmp a b) e)
keys_apart orders.Bytes a b e = bytes_apart a b e
keys_apart orders.Case a b e = bytes_apart a b (then_equal (bytes_cmp (lowered a) (lowered b)) (bytes_cmp a b) e)
keys_apart orders.Decimal a b e = bytes_apart a b (then_equal (int_cmp (decimal a) (decimal b)) (bytes_cmp a b) e)
keys_apart orders.Hex a b e = bytes_apart a b (then_equal (nat_cmp (hexadecimal a) (hexadecimal b)) (bytes_cmp a b) e)

pub orders_keys : (o : Order) → OrdersKeys o
orders_keys o = record { total = keys_total o; apart = keys_apart o }

-- a test of the bytes is a test of the keys
pub same_told : (a b : List ℕ) → same_bytes a b ≡ true → a ≡ b
unfolding same_bytes
same_told a b e = (bytes_decides a b).0 e

pub same_itself : (a : List ℕ) → same_bytes a a ≡ true
unfolding same_bytes
same_itself a = (bytes_decides a a).1 refl

pub keys_equal : (o : Order) (a : List ℕ) → key_cmp o a a ≡ Equal
keys_equal o a = tied_itself (keys_total o) a
