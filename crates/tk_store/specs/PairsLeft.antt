-- Records in hash order that are not passed yet.
use Rattle.std.specs.Prelude.{List, ◌++◌}
use Rattle.tk_model.specs.declared.record.Pair.{Pair}
use Rattle.tk_store.specs.Hashed.{joined}
use Rattle.tk_store.specs.declared.hashed.PairsLeft.{PairsLeft}

abbrev pub pairs_left : PairsLeft → List Pair
pairs_left l = l.bucket.now ++ joined l.behind.now
