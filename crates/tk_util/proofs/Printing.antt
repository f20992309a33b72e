-- A value and then the end of a line go out.
use Rattle.std.proofs.Common.{◌≡◌, ℕ, zero, suc, ◌+◌, List, [], ◌∷◌, ◌++◌, length, take, refl, sym, ◌∙◌, ap, subst, append_assoc}
use Rattle.std.specs.Prelude.{Option, Some, None, Result, Ok, Err, OnErr, IsErrOf}
use Rattle.std.specs.Io.KnownBytes.{Appends, Keeps}
use Rattle.std.proofs.lemmas.List.{append-nil}
use Rattle.std.proofs.Math.Seq.{take-append-add}
use Rattle.tk_io.specs.declared.stream.IoError.{IoError}
use Rattle.tk_io.specs.declared.stream.IoError.TheVariants.{Fault, NoMemory}
use Rattle.tk_io.specs.Streams.{AppendsFront}

kept_front : (old new : Option (List ℕ)) (bs : List ℕ) → Keeps old new → AppendsFront old new bs
kept_front None new bs kept = (0, tt)
kept_front (Some xs) None bs kept = absurd kept
kept_front (Some xs) (Some ys) bs kept = (0, kept ∙ sym (append-nil xs))

front_of_more : (n : ℕ) (bs rest : List ℕ) → (k : ℕ) × (take k (bs ++ rest) ≡ take n bs)
front_of_more zero bs rest = (0, refl)
front_of_more (suc n) [] rest = (0, refl)
front_of_more (suc n) (b ∷ bs) rest = let more = front_of_more n bs rest in (suc more.0, ap (λ (l : List ℕ). b ∷ l) more.1)

front_more : (old new : Option (List ℕ)) (bs rest : List ℕ) → AppendsFront old new bs → AppendsFront old new (bs ++ rest)
front_more old new bs rest front =
    let more = front_of_more front.0 bs rest in
    (more.0, subst (λ (l : List ℕ). Appends old new l) (sym more.1) front.1)

-- a front of a line, behind a value that went out
pub front_behind : (old mid new : Option (List ℕ)) (bs rest : List ℕ) → Appends old mid bs → AppendsFront mid new rest → AppendsFront old new (bs ++ rest)
front_behind None mid new bs rest out front = (0, tt)
front_behind (Some xs) None new bs rest out front = absurd out
front_behind (Some xs) (Some ys) None bs rest out front = absurd front.1
front_behind (Some xs) (Some ys) (Some zs) bs rest out front =
    (length bs + front.0, front.1 ∙ ap (λ (l : List ℕ). l ++ take front.0 rest) out ∙ append_assoc xs bs (take front.0 rest) ∙ ap (λ (l : List ℕ). xs ++ l) (sym (take-append-add bs rest front.0)))

-- what a failed write left
failed_front : (r : Result (Unit {0}) IoError) (old new : Option (List ℕ)) (bs : List ℕ) → (IsErrOf r Fault → AppendsFront old new bs) → (IsErrOf r NoMemory → Keeps old new) → OnErr r (AppendsFront old new bs)
failed_front (Ok v) old new bs fault memory = tt
failed_front (Err Fault) old new bs fault memory = fault refl
failed_front (Err NoMemory) old new bs fault memory = kept_front old new bs (memory refl)

pub failed_first : (r : Result (Unit {0}) IoError) (e : IoError) (old new : Option (List ℕ)) (bs rest : List ℕ) → r ≡ Err e → (IsErrOf r Fault → AppendsFront old new bs) → (IsErrOf r NoMemory → Keeps old new) → AppendsFront old new (bs ++ rest)
failed_first r e old new bs rest is fault memory =
    front_more old new bs rest (subst (λ (x : Result (Unit {0}) IoError). OnErr x (AppendsFront old new bs)) is (failed_front r old new bs fault memory))

pub failed_last : (r : Result (Unit {0}) IoError) (old mid new : Option (List ℕ)) (bs rest : List ℕ) → Appends old mid bs → (IsErrOf r Fault → AppendsFront mid new rest) → (IsErrOf r NoMemory → Keeps mid new) → OnErr r (AppendsFront old new (bs ++ rest))
failed_last (Ok v) old mid new bs rest out fault memory = tt
failed_last (Err Fault) old mid new bs rest out fault memory = front_behind old mid new bs rest out (fault refl)
failed_last (Err NoMemory) old mid new bs rest out fault memory = front_behind old mid new bs rest out (kept_front mid new rest (memory refl))
