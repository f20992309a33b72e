-- Calls on known bytes, one after another.
use Rattle.std.proofs.Common.{◌≡◌, ℕ, ◌+◌, List, ◌++◌, take, drop, Option, Some, None, refl, sym, subst, ap, ◌∙◌, append_assoc, length, arith}
use Rattle.std.proofs.Math.Seq.{take-add}
use Rattle.std.proofs.lemmas.List.{append-nil, take_all, take-append-drop, drop-drop}
use Rattle.std.specs.Io.KnownBytes.{Appends, Consumes, Keeps}
use Rattle.tk_io.specs.Streams.{AppendsFront}

pub Keeps_same : (a : Option (List ℕ)) → Keeps a a
Keeps_same None = tt
Keeps_same (Some xs) = refl

pub Keeps_then : (a b c : Option (List ℕ)) → Keeps a b → Keeps b c → Keeps a c
Keeps_then None b c h k = tt
Keeps_then (Some xs) None c h k = absurd h
Keeps_then (Some xs) (Some ys) None h k = absurd k
Keeps_then (Some xs) (Some ys) (Some zs) h k = k ∙ h

pub Keeps_Consumes : (a b c : Option (List ℕ)) (bs : List ℕ) → Keeps a b → Consumes b c bs → Consumes a c bs
Keeps_Consumes None b c bs h k = tt
Keeps_Consumes (Some xs) None c bs h k = absurd h
Keeps_Consumes (Some xs) (Some ys) None bs h k = absurd k
Keeps_Consumes (Some xs) (Some ys) (Some zs) bs h k = sym h ∙ k

pub Appends_Keeps : (a b c : Option (List ℕ)) (bs : List ℕ) → Appends a b bs → Keeps b c → Appends a c bs
Appends_Keeps None b c bs h k = tt
Appends_Keeps (Some xs) None c bs h k = absurd h
Appends_Keeps (Some xs) (Some ys) None bs h k = absurd k
Appends_Keeps (Some xs) (Some ys) (Some zs) bs h k = k ∙ h

pub Appends_more : (a b c : Option (List ℕ)) (n m : ℕ) (bs : List ℕ) → Appends a b (take n bs) → Appends b c (take m (drop n bs)) → Appends a c (take (n + m) bs)
Appends_more None b c n m bs h k = tt
Appends_more (Some xs) None c n m bs h k = absurd h
Appends_more (Some xs) (Some ys) None n m bs h k = absurd k
Appends_more (Some xs) (Some ys) (Some zs) n m bs h k =
    k
    ∙ ap (λ (l : List ℕ). l ++ take m (drop n bs)) h
    ∙ append_assoc xs (take n bs) (take m (drop n bs))
    ∙ ap (λ (l : List ℕ). xs ++ l) (sym (take-add n m bs))

pub Appends_none : (a : Option (List ℕ)) (bs : List ℕ) → Appends a a (take 0 bs)
Appends_none None bs = tt
Appends_none (Some xs) bs = sym (append-nil xs)

pub Keeps_Appends : (a b c : Option (List ℕ)) (bs : List ℕ) → Keeps a b → Appends b c bs → Appends a c bs
Keeps_Appends None b c bs h k = tt
Keeps_Appends (Some xs) None c bs h k = absurd h
Keeps_Appends (Some xs) (Some ys) None bs h k = absurd k
Keeps_Appends (Some xs) (Some ys) (Some zs) bs h k = k ∙ ap (λ (l : List ℕ). l ++ bs) h

-- the whole is a front
pub Appends_front : (a c : Option (List ℕ)) (bs : List ℕ) → Appends a c bs → AppendsFront a c bs
Appends_front a c bs h = (length bs, subst (λ (l : List ℕ). Appends a c l) (sym (take_all (length bs) bs (omega arith))) h)

-- a front that was read, and the rest
pub read_on : (at n : ℕ) (xs ys : List ℕ) → take n ys ≡ take n (drop at xs) → drop at xs ≡ take n ys ++ drop (at + n) xs
read_on at n xs ys same =
    sym (take-append-drop n (drop at xs))
    ∙ ap (λ (l : List ℕ). l ++ drop n (drop at xs)) (sym same)
    ∙ ap (λ (l : List ℕ). take n ys ++ l) (drop-drop n at xs)
