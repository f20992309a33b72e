-- A store whose file was ended.
use Rattle.std.proofs.Common.{◌≡◌, ℕ, ◌≤◌, ◌==◌, ◌∙◌, ap, Bool, true, false, refl, arith, if◌then◌else◌, ◌&&◌}
use Rattle.std.specs.Prelude.{Option, Some, None, Result, Ok, Err, OnErr}
use Rattle.tk_block.specs.declared.closing.Closing.{Closing}
use Rattle.tk_append.specs.LogParts.{open_mark}
use Rattle.tk_hash.specs.Hash.{ended_with}

sized : (n : ℕ) → 1 ≤ n → (n == 0) ≡ false
sized n some = grind (arith, some)

chosen : (b : Bool) (n : ℕ) → b ≡ false → (if b then None else Some n) ≡ Some n
chosen b n is = rw is refl

both : (closed writable : Bool) (o : Option ℕ) → closed ≡ true → writable ≡ true → (if closed && writable then o else None) ≡ o
both closed writable o is may = rw (is, may) refl

never : (closed writable : Bool) (o : Option ℕ) → o ≡ None → (if closed && writable then o else None) ≡ None
never true true o is = is
never true false o is = refl
never false writable o is = refl

-- a closing part with a size ends a file
pub ended_closed : (closed writable : Bool) (c : Closing) (next : ℕ) → closed ≡ true → writable ≡ true → 1 ≤ c.size → c.next ≡ next → (if closed && writable then ended_with c else None) ≡ Some next
ended_closed closed writable c next is may some named = both closed writable (ended_with c) is may ∙ chosen (c.size == 0) c.next (sized c.size some) ∙ ap Some named

-- the open mark ends none
pub open_unended : (closed writable : Bool) (c : Closing) → (writable ≡ true → c ≡ open_mark) → (if closed && writable then ended_with c else None) ≡ None
open_unended closed true c mark = never closed true (ended_with c) (ap ended_with (mark refl))
open_unended true false c mark = refl
open_unended false false c mark = refl

pub on_err : {T E P : Type 0} (result : Result T E) → P → OnErr result P
on_err (Ok v) p = tt
on_err (Err e) p = p
