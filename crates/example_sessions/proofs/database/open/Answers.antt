use Rattle.std.proofs.Common.{List, true, sym, subst, refl, arith}
use Rattle.tk_disk.specs.declared.file.FileDisk.{FileDisk}
use Rattle.tk_hash.specs.declared.store.HashStore.{HashStore}
use Rattle.tk_hash.specs.Hash.{hash_view, hash_constants}
use Rattle.tk_hash.specs.HashLaws.{hash_replays, hash_rising}
use Rattle.tk_dbm.specs.Making.{MayMake}
use Rattle.tk_dbm.proofs.One.{may_make}
use Rattle.example_sessions.specs.Sessions.{told, Leaves, past, Stands}
use Rattle.example_sessions.proofs.database.open.Goals as goal

pub make-requires : goal.make-requires
make-requires c = let o = c.in_ok-store.ensures in
    let base = c.next_number-base in
    record {
      may = subst (λ (xs : List (HashStore FileDisk)). MayMake (λ m. true) Stands (hash_view told) hash_constants xs 64 base.result true) (sym c.in_ok-stores.ensures)
          (may_make (λ m. true) Stands (hash_view told) hash_constants (hash_replays told Leaves past) (hash_rising told Leaves past) c.in_ok-store.store o.first o.stands_now
          64 base.result true (omega arith, omega arith) (let e = base.ensures in let n = o.next in omega arith) o.unclosed (λ w. let e = base.ensures in let f = o.floor in omega arith) (λ w. o.writable) (λ m. refl));
    }
