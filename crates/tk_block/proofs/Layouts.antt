-- Blocks that follow others: where they stand, their links and their text.
use Rattle.std.proofs.Common.{◌≡◌, ℕ, zero, suc, ◌+◌, Bool, cond, eqb, List, [], ◌∷◌, ◌++◌, length, drop, refl, sym, ◌∙◌, ap, arith, append_assoc}
use Rattle.std.proofs.lemmas.List.{append-nil}
use Rattle.tk_model.specs.declared.record.Change.{Change}
use Rattle.tk_model.specs.declared.record.Group.{Group}
use Rattle.tk_block.specs.declared.block.Body.{Body}
use Rattle.tk_block.specs.Blocks.{extent_of, body_of, block_text, group_bodies, is_nil}
use Rattle.tk_block.specs.Layout.{placed, Placed, bucket_in, laid, end_of, renewed, newest, link_of, links_of, texts, first_or_none, bodies_of}

pub end_of-append : (place : ℕ) (xs ys : List Body) → end_of place (xs ++ ys) ≡ end_of (end_of place xs) ys
end_of-append place [] ys = refl
end_of-append place (x ∷ xs) ys = end_of-append (place + extent_of x) xs ys

pub laid-append : (place : ℕ) (xs ys : List Body) → laid place (xs ++ ys) ≡ laid place xs ++ laid (end_of place xs) ys
laid-append place [] ys = refl
laid-append place (x ∷ xs) ys = let here : Placed = placed place x in ap (λ l. here ∷ l) (laid-append (place + extent_of x) xs ys)

pub length-laid : (place : ℕ) (xs : List Body) → length (laid place xs) ≡ length xs
length-laid place [] = refl
length-laid place (x ∷ xs) = ap suc (length-laid (place + extent_of x) xs)

pub newest-append : (p bucket found : ℕ) (xs ys : List Placed) → newest p bucket found (xs ++ ys) ≡ newest p bucket (newest p bucket found xs) ys
newest-append p bucket found [] ys = refl
newest-append p bucket found (x ∷ xs) ys = newest-append p bucket (renewed p bucket found x) xs ys

pub links_of-append : (p : ℕ) (before xs ys : List Placed) → links_of p before (xs ++ ys) ≡ links_of p before xs ++ links_of p (before ++ xs) ys
links_of-append p before [] ys = ap (λ l. links_of p l ys) (sym (append-nil before))
links_of-append p before (x ∷ xs) ys =
    ap (λ l. link_of p before x.body ∷ l) (links_of-append p (before ++ x ∷ []) xs ys ∙ ap (λ l. links_of p (before ++ x ∷ []) xs ++ links_of p l ys) (append_assoc before (x ∷ []) xs))

pub length-links_of : (p : ℕ) (before xs : List Placed) → length (links_of p before xs) ≡ length xs
length-links_of p before [] = refl
length-links_of p before (x ∷ xs) = ap suc (length-links_of p (before ++ x ∷ []) xs)

drop_one : (n : ℕ) (links : List ℕ) → drop n (drop 1 links) ≡ drop (suc n) links
drop_one zero [] = refl
drop_one (suc n) [] = refl
drop_one n (l ∷ links) = refl

-- each block takes one link
pub texts-append : (xs ys : List Placed) (links : List ℕ) → texts (xs ++ ys) links ≡ texts xs links ++ texts ys (drop (length xs) links)
texts-append [] ys links = refl
texts-append (x ∷ xs) ys links =
    ap (λ l. block_text x.body x.place (first_or_none links) ++ l) (texts-append xs ys (drop 1 links) ∙ ap (λ l. texts xs (drop 1 links) ++ texts ys l) (drop_one (length xs) links))
    ∙ sym (append_assoc (block_text x.body x.place (first_or_none links)) (texts xs (drop 1 links)) (texts ys (drop (suc (length xs)) links)))

pub texts-append-both : (xs ys : List Placed) (links more : List ℕ) → length links ≡ length xs → texts (xs ++ ys) (links ++ more) ≡ texts xs links ++ texts ys more
texts-append-both [] ys [] more is = refl
texts-append-both [] ys (l ∷ links) more is = absurd (omega arith)
texts-append-both (x ∷ xs) ys [] more is = absurd (omega arith)
texts-append-both (x ∷ xs) ys (l ∷ links) more is =
    ap (λ t. block_text x.body x.place l ++ t) (texts-append-both xs ys links more (omega arith)) ∙ sym (append_assoc (block_text x.body x.place l) (texts xs links) (texts ys more))

pub bodies_of-append : (xs ys : List Group) → bodies_of (xs ++ ys) ≡ bodies_of xs ++ bodies_of ys
bodies_of-append [] ys = refl
bodies_of-append (x ∷ xs) ys = ap (λ l. group_bodies x.number x.changes ++ l) (bodies_of-append xs ys) ∙ sym (append_assoc (group_bodies x.number x.changes) (bodies_of xs) (bodies_of ys))

pub length-group_bodies : (number : ℕ) (cs : List Change) → length (group_bodies number cs) ≡ length cs
length-group_bodies number [] = refl
length-group_bodies number (c ∷ cs) = ap suc (length-group_bodies number cs)

-- a group takes the same room under each number
pub end_of-renumbered : (place old new : ℕ) (cs : List Change) → end_of place (group_bodies old cs) ≡ end_of place (group_bodies new cs)
end_of-renumbered place old new [] = refl
end_of-renumbered place old new (c ∷ cs) = end_of-renumbered (place + extent_of (body_of new c (is_nil cs))) old new cs

newest-step : (p bucket : ℕ) (before other : List Placed) (place old new : ℕ) (c : Change) (last : Bool) → newest p bucket 0 before ≡ newest p bucket 0 other
    → newest p bucket 0 (before ++ placed place (body_of old c last) ∷ []) ≡ newest p bucket 0 (other ++ placed place (body_of new c last) ∷ [])
newest-step p bucket before other place old new c last same =
    newest-append p bucket 0 before (placed place (body_of old c last) ∷ [])
    ∙ ap (λ (n : ℕ). renewed p bucket n (placed place (body_of old c last))) same
    ∙ sym (newest-append p bucket 0 other (placed place (body_of new c last) ∷ []))

-- a group has the same links under each number
pub links_of-renumbered : (p : ℕ) (before other : List Placed) (place old new : ℕ) (cs : List Change) → ((bucket : ℕ) → newest p bucket 0 before ≡ newest p bucket 0 other)
    → links_of p before (laid place (group_bodies old cs)) ≡ links_of p other (laid place (group_bodies new cs))
links_of-renumbered p before other place old new [] same = refl
links_of-renumbered p before other place old new (c ∷ cs) same =
    let one = body_of old c (is_nil cs) in
    let two = body_of new c (is_nil cs) in
    ap (λ (n : ℕ). cond (eqb one.kind 4) 0 n ∷ links_of p (before ++ placed place one ∷ []) (laid (place + extent_of one) (group_bodies old cs))) (same (bucket_in p one.key))
    ∙ ap (λ (l : List ℕ). link_of p other two ∷ l)
    (links_of-renumbered p (before ++ placed place one ∷ []) (other ++ placed place two ∷ []) (place + extent_of one) old new cs
    (λ bucket. newest-step p bucket before other place old new c (is_nil cs) (same bucket)))
