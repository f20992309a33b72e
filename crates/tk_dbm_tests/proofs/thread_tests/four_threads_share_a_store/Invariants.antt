use Rattle.std.specs.Prelude.{true}
use Rattle.tk_mem.specs.Tiny.{TinyStands, tiny_view, tiny_constants}
use Rattle.tk_dbm.specs.Dbm.{IsIdleOf}
use Rattle.tk_dbm_tests.proofs.thread_tests.four_threads_share_a_store.Given as goal

abbrev pub invariant-loop-lock : goal.invariant-loop-lock
invariant-loop-lock g l = IsIdleOf (λ m. true) TinyStands tiny_view tiny_constants l.db l.pass
