-- Which calls write, which need an order or a place, and which stores a call asks.
use Rattle.std.specs.Prelude.{ℕ, ◌==◌, ◌||◌, nat_lt, Bool, true, false, not, ◌&&◌, if◌then◌else◌, List, Option, Some, None}
use Rattle.std.specs.List.{list_any}
use Rattle.tk_status.specs.declared.Status.{Status}
use Rattle.tk_status.specs.declared.Status.TheVariants as statuses
use Rattle.tk_model.specs.Hashes.{mix_of, shard_of}
use Rattle.tk_model.specs.declared.record.Order.{Order}
use Rattle.tk_calls.specs.declared.call.Call.{Call}
use Rattle.tk_calls.specs.declared.call.Call.TheVariants as calls
use Rattle.tk_calls.specs.declared.call.Position.{Position}
use Rattle.tk_calls.specs.declared.call.Position.TheVariants as positions
use Rattle.tk_calls.specs.declared.call.ExpectedPair.{ExpectedPair}
use Rattle.tk_calls.specs.declared.call.DesiredPair.{DesiredPair}
use Rattle.tk_calls.specs.declared.call.MultiStep.{MultiStep}
use Rattle.tk_calls.specs.Iterators.{is_unordered}

-- a database that is only read refuses it
abbrev pub writes : Call → Bool
writes (calls.Get k) = false
writes (calls.GetMulti ks) = false
writes calls.Count = false
writes (calls.Sync hard) = false
writes calls.First = false
writes calls.Last = false
writes calls.Next = false
writes calls.Previous = false
writes (calls.Jump k) = false
writes (calls.Lower k inclusive) = false
writes (calls.Upper k inclusive) = false
writes calls.IterGet = false
writes c = true

-- a call of the worker's iterator
abbrev pub is_of_iterator : Call → Bool
is_of_iterator calls.First = true
is_of_iterator calls.Last = true
is_of_iterator calls.Next = true
is_of_iterator calls.Previous = true
is_of_iterator calls.IterRemove = true
is_of_iterator (calls.Jump k) = true
is_of_iterator (calls.Lower k inclusive) = true
is_of_iterator (calls.Upper k inclusive) = true
is_of_iterator calls.IterGet = true
is_of_iterator (calls.IterSet v) = true
is_of_iterator c = false

-- a call that only an ordered kind has
abbrev pub needs_order : Call → Bool
needs_order calls.Last = true
needs_order calls.Previous = true
needs_order (calls.Lower k inclusive) = true
needs_order (calls.Upper k inclusive) = true
needs_order c = false

-- a call that goes from where the iterator stands
abbrev pub needs_place : Call → Bool
needs_place calls.Next = true
needs_place calls.Previous = true
needs_place calls.IterRemove = true
needs_place calls.IterGet = true
needs_place (calls.IterSet v) = true
needs_place c = false

abbrev pub is_nowhere : Position → Bool
is_nowhere positions.Nowhere = true
is_nowhere (positions.At k) = false
is_nowhere (positions.After k) = false

-- the answer of a line for which the database isn't asked
abbrev pub early : Order → (writable : Bool) → Call → Position → Option Status
early o writable c p =
    if needs_order c && is_unordered o then Some statuses.NotImplemented
    else (if needs_place c && is_nowhere p then Some statuses.NotFound
    else (if writes c && not writable then Some statuses.Precondition
    else None))

-- the stores of a call, of so many: those of its keys, or all
abbrev pub uses_key : (stores : ℕ) → List ℕ → ℕ → Bool
uses_key n k j = j == shard_of (mix_of k) n

abbrev pub uses_some : {A : Type 0} → (A → List ℕ) → (stores : ℕ) → List A → ℕ → Bool
uses_some key n xs j = list_any (λ x. uses_key n (key x) j) xs

abbrev pub uses_place : (stores : ℕ) → Position → ℕ → Bool
uses_place n (positions.At k) j = uses_key n k j
uses_place n positions.Nowhere j = nat_lt j n
uses_place n (positions.After k) j = nat_lt j n

abbrev pub uses : Order → (stores : ℕ) → Call → Position → ℕ → Bool
uses o n (calls.Get k) p j = uses_key n k j
uses o n (calls.GetMulti ks) p j = uses_some (λ k. k) n ks j
uses o n (calls.Set k v) p j = uses_key n k j
uses o n (calls.Add k v) p j = uses_key n k j
uses o n (calls.Remove k) p j = uses_key n k j
uses o n (calls.Append k x d) p j = uses_key n k j
uses o n (calls.CompareExchange k e d) p j = uses_key n k j
uses o n (calls.CompareExchangeMulti es ds) p j = uses_some (λ (e : ExpectedPair). e.key) n es j || uses_some (λ (d : DesiredPair). d.key) n ds j
uses o n (calls.Increment k x i) p j = uses_key n k j
uses o n (calls.Rekey a b overwrite copying) p j = uses_key n a j || uses_key n b j
uses o n (calls.Multi ts) p j = uses_some (λ (t : MultiStep). t.key) n ts j
uses o n calls.IterRemove p j = uses_place n p j
uses o n calls.IterGet p j = uses_place n p j
uses o n (calls.IterSet v) p j = uses_place n p j
uses o n (calls.Jump k) p j = if is_unordered o then uses_key n k j else nat_lt j n
uses o n c p j = nat_lt j n
