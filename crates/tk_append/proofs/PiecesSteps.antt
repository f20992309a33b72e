-- Text that goes to a disk in pieces, and a part more.
use Rattle.std.proofs.Common.{◌≡◌, ℕ, zero, suc, ◌+◌, ◌<◌, List, [], ◌∷◌, ◌++◌, length, get_or, take, refl, sym, ◌∙◌, ap, subst, arith, add-one, append_assoc}
use Rattle.std.specs.Prelude.{Option, Some, None, IfSome}
use Rattle.std.specs.Option.{option_map}
use Rattle.tk_disk.specs.Disk.{put_at}
use Rattle.std.specs.Int.{w64, to_be_bytes}
use Rattle.std.proofs.lemmas.List.{append-nil, drop_all}
use Rattle.tk_append.specs.Pieces.{Holds, words_text}

pub holds_more : (image : Option (List ℕ)) (at : ℕ) (waiting more text : List ℕ) → Holds image at waiting text → Holds image at (waiting ++ more) (text ++ more)
holds_more None at waiting more text holds = absurd holds
holds_more (Some f) at waiting more text holds = (sym (append_assoc f waiting more) ∙ ap (λ (l : List ℕ). l ++ more) holds.0, holds.1)

pub words_take : (words : List ℕ) (i : ℕ) (d : ℕ) → i < length words → words_text (take (suc i) words) ≡ words_text (take i words) ++ to_be_bytes w64 (get_or words i d)
words_take [] i d within = absurd (omega arith)
words_take (x ∷ xs) zero d within = append-nil (to_be_bytes w64 x)
words_take (x ∷ xs) (suc i) d within =
    ap (λ (l : List ℕ). to_be_bytes w64 x ++ l) (words_take xs i d (omega arith)) ∙ sym (append_assoc (to_be_bytes w64 x) (words_text (take i xs)) (to_be_bytes w64 (get_or xs i d)))

-- one number more
pub words_text-more : (words : List ℕ) (i : ℕ) (text bytes : List ℕ) (d : ℕ) → i < length words → bytes ≡ to_be_bytes w64 (get_or words i d)
    → (text ++ words_text (take i words)) ++ bytes ≡ text ++ words_text (take (i + 1) words)
words_text-more words i text bytes d within is =
    append_assoc text (words_text (take i words)) bytes
    ∙ ap (λ (l : List ℕ). text ++ (words_text (take i words) ++ l)) is
    ∙ sym (ap (λ (l : List ℕ). text ++ l) (ap (λ (k : ℕ). words_text (take k words)) (add-one i) ∙ words_take words i d within))

is_text : (new : Option (List ℕ)) (at : ℕ) (text : List ℕ) → Holds new at [] text → new ≡ Some text
is_text None at text holds = absurd holds
is_text (Some g) at text holds = ap (λ (l : List ℕ). Some l) (sym (append-nil g) ∙ holds.0)

-- an empty disk to which a first text was written, and the rest in pieces
pub whole_written : (old mid new : Option (List ℕ)) (at : ℕ) (first text : List ℕ) → IfSome old (λ f. f ≡ []) → mid ≡ option_map (put_at 0 first) old → (Holds mid (length first) [] first → Holds new at [] text)
    → IfSome old (λ _. new ≡ Some text)
whole_written None mid new at first text empty put written = tt
whole_written (Some f) mid new at first text empty put written =
    let is : mid ≡ Some first =
    put ∙ ap (λ (l : List ℕ). Some (put_at 0 first l)) empty
    ∙ ap (λ (l : List ℕ). Some (first ++ l)) (drop_all (0 + length first) [] (omega arith)) ∙ ap (λ (l : List ℕ). Some l) (append-nil first) in
    is_text new at text (written (subst (λ (o : Option (List ℕ)). Holds o (length first) [] first) (sym is) (append-nil first, refl)))
