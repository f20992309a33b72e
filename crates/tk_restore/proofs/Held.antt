-- Changes within the limits of a block leave records within them.
use Rattle.std.proofs.Common.{ℕ, Bool, true, false, cond, List, [], ◌∷◌, ◌++◌}
use Rattle.std.specs.declared.cmp.Ordering.{Ordering}
use Rattle.std.specs.declared.cmp.Ordering.TheVariants.{Less, Equal, Greater}
use Rattle.tk_model.specs.Orders.{same_bytes, key_cmp}
use Rattle.tk_model.specs.Records.{put, put_by, without, after_one, after}
use Rattle.tk_model.specs.declared.record.Order.TheVariants.{Hash}
use Rattle.tk_model.specs.declared.record.Pair.{Pair}
use Rattle.tk_model.specs.declared.record.Change.{Change}
use Rattle.tk_model.specs.declared.record.Change.TheVariants as changes
use Rattle.tk_block.specs.Blocks.{IsSmall, AllSmall, key_of, value_of}
use Rattle.tk_append.specs.Fresh.{AllPairsSmall}

put_by_small : (o : Ordering) (new p : Pair) (ps deeper : List Pair) → IsSmall new.key new.value → AllPairsSmall (p ∷ ps) → AllPairsSmall deeper → AllPairsSmall (put_by o new p ps deeper)
put_by_small Less new p ps deeper one all more = (one, all)
put_by_small Equal new p ps deeper one all more = (one, all.1)
put_by_small Greater new p ps deeper one all more = (all.0, more)

put_small : (new : Pair) (m : List Pair) → IsSmall new.key new.value → AllPairsSmall m → AllPairsSmall (put Hash new m)
put_small new [] one all = (one, tt)
put_small new (p ∷ ps) one all = put_by_small (key_cmp Hash new.key p.key) new p ps (put Hash new ps) one all (put_small new ps one all.1)

pick_small : (so : Bool) (p : Pair) (ps deeper : List Pair) → AllPairsSmall (p ∷ ps) → AllPairsSmall deeper → AllPairsSmall (cond so ps (p ∷ deeper))
pick_small true p ps deeper all more = all.1
pick_small false p ps deeper all more = (all.0, more)

without_small : (k : List ℕ) (m : List Pair) → AllPairsSmall m → AllPairsSmall (without k m)
without_small k [] all = tt
without_small k (p ∷ ps) all = pick_small (same_bytes k p.key) p ps (without k ps) all (without_small k ps all.1)

pub one_small : (c : Change) (m : List Pair) → IsSmall (key_of c) (value_of c) → AllPairsSmall m → AllPairsSmall (after_one Hash c m)
one_small (changes.Put p) m one all = put_small p m one all
one_small (changes.Drop k) m one all = without_small k m all
one_small changes.Clear m one all = tt

pub after_small : (cs : List Change) (m : List Pair) → AllSmall cs → AllPairsSmall m → AllPairsSmall (after Hash cs m)
after_small [] m some all = all
after_small (c ∷ cs) m some all = after_small cs (after_one Hash c m) some.1 (one_small c m some.0 all)

pub one_more_small : (cs : List Change) (c : Change) → AllSmall cs → IsSmall (key_of c) (value_of c) → AllSmall (cs ++ c ∷ [])
one_more_small [] c some one = (one, tt)
one_more_small (d ∷ cs) c some one = (some.0, one_more_small cs c some.1 one)
