use Rattle.std.proofs.Common.{◌≡◌, ◌++◌, ◌+◌, subst, take, drop}
use Rattle.std.proofs.lemmas.List.{take_rest}
use Rattle.tk_io.specs.Memory.{SourceState}
use Rattle.tk_io.proofs.Known.{read_on}
use Rattle.tk_io.proofs.memory.MemSourceSource.read.Goals as goal

pub returns-clause-bytes : goal.returns-clause-bytes
returns-clause-bytes c =
    let at = c.self.inside.at in
    let n = c.copy_front-count.result in
    let given = c.copy_front-count.new.into in
    let same : take n given ≡ take n (drop at c.self.inside.bytes) = rw (c.as_slice.ensures, take_rest) at c.copy_front-count.ensures.bytes in
    subst (λ (v : SourceState). v.left ≡ take n given ++ drop (at + n) c.self.inside.bytes) c.self.view_is (read_on at n c.self.inside.bytes given same)
