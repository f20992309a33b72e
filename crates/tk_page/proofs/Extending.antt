-- Texts that grow.
use Rattle.std.proofs.Common.{◌≡◌, ℕ, List, [], ◌++◌, sym, ap, ◌∙◌, append_assoc}
use Rattle.std.proofs.lemmas.List.{append-nil}
use Rattle.tk_model.specs.RecordText.{Extends}

pub Extends_same : (a : List ℕ) → Extends a a
Extends_same a = ([], sym (append-nil a))

pub Extends_by : (a b more : List ℕ) → b ≡ a ++ more → Extends a b
Extends_by a b more e = (more, e)

pub Extends_then : (a b c : List ℕ) → Extends a b → Extends b c → Extends a c
Extends_then a b c (m, e) (n, f) = (m ++ n, f ∙ ap (λ (l : List ℕ). l ++ n) e ∙ append_assoc a m n)
