use Rattle.std.proofs.Common.{rules}
use Rattle.std.proofs.lemmas.Fn.{always_returns_same}
use Rattle.tk_restore.specs.declared.changes.Entry.{Entry}
use Rattle.tk_restore.proofs.Entries.{stable_same, moved_all}
use Rattle.tk_restore.proofs.changes.sort.Goals as goal

pub returns-clause-entries : goal.returns-clause-entries
returns-clause-entries c bytes all = moved_all bytes _ _ c.in_ok-sort_by_key.ensures.permutation all

pub returns-clause-same : goal.returns-clause-same
returns-clause-same c bytes all =
    stable_same bytes _ _ (c.in_ok-sort_by_key.ensures.stable (λ (e : Entry). e.hash) (always_returns_same _ _ _ (λ a r q k. search rules))) all
    (moved_all bytes _ _ c.in_ok-sort_by_key.ensures.permutation all)
