-- A plan of a group, a change at a time.
use Rattle.std.proofs.Common.{◌≡◌, ℕ, ◌+◌, ◌^◌, List, [], ◌∷◌, ◌++◌, length, drop, refl, sym, ◌∙◌, ap, subst, append_assoc}
use Rattle.tk_model.specs.declared.record.Change.{Change}
use Rattle.tk_model.specs.declared.record.Change.TheVariants as changes
use Rattle.tk_model.specs.Records.{AllFit}
use Rattle.tk_block.specs.Blocks.{body_of, is_nil, group_bodies, extent_of}
use Rattle.tk_block.specs.Layout.{placed, Placed, laid, links_of, link_of, end_of}
use Rattle.std.proofs.lemmas.List.{append-nil}
use Rattle.tk_append.specs.Chains.{HeadsAre}

-- behind blocks whose newest these were stand the planned ones, and the rest goes on behind them
pub record Ahead (p : ℕ) (heads links : List ℕ) (place : ℕ) (rest cs : List Change) (end number : ℕ) (before : List Placed) : Type 0 where
  pub more : List Placed
  pub heads_are : HeadsAre p heads (before ++ more)
  pub placed : more ++ laid place (group_bodies number rest) ≡ laid end (group_bodies number cs)
  pub linked : links ++ links_of p (before ++ more) (laid place (group_bodies number rest)) ≡ links_of p before (laid end (group_bodies number cs))

pub record Planned (p : ℕ) (first heads links : List ℕ) (place : ℕ) (cs : List Change) (end done : ℕ) : Type 0 where
  pub whole : length heads ≡ 2 ^ p
  pub counts : length links ≡ done
  pub fit : AllFit (drop done cs)
  pub ends : (number : ℕ) → end_of place (group_bodies number (drop done cs)) ≡ end_of end (group_bodies number cs)
  pub ahead : (number : ℕ) (before : List Placed) → HeadsAre p first before → Ahead p heads links place (drop done cs) cs end number before

pub begun : (p : ℕ) (heads links : List ℕ) (cs : List Change) (end number : ℕ) (before : List Placed) → links ≡ [] → HeadsAre p heads before → Ahead p heads links end cs cs end number before
begun p heads links cs end number before none are = record {
  more = [];
  heads_are = subst (λ (l : List Placed). HeadsAre p heads l) (sym (append-nil before)) are;
  placed = refl;
  linked = ap (λ (l : List ℕ). l ++ links_of p (before ++ []) (laid end (group_bodies number cs))) none ∙ ap (λ (l : List Placed). links_of p l (laid end (group_bodies number cs))) (append-nil before);
}

-- one change more
pub ahead_more : (p : ℕ) (heads new links : List ℕ) (place e link : ℕ) (c : Change) (rest cs : List Change) (end number : ℕ) (before : List Placed)
    → e ≡ extent_of (body_of number c (is_nil rest))
    → ((l : List Placed) → HeadsAre p heads l → HeadsAre p new (l ++ placed place (body_of number c (is_nil rest)) ∷ []))
    → ((l : List Placed) → HeadsAre p heads l → link ≡ link_of p l (body_of number c (is_nil rest)))
    → Ahead p heads links place (c ∷ rest) cs end number before → Ahead p new (links ++ link ∷ []) (place + e) rest cs end number before
ahead_more p heads new links place e link c rest cs end number before long renew linked_by a =
    let x : Placed = placed place (body_of number c (is_nil rest)) in
    let left : List Placed = laid (place + e) (group_bodies number rest) in
    let same : left ≡ laid (place + extent_of (body_of number c (is_nil rest))) (group_bodies number rest) = ap (λ (n : ℕ). laid (place + n) (group_bodies number rest)) long in
    record {
      more = a.more ++ x ∷ [];
      heads_are = subst (λ (l : List Placed). HeadsAre p new l) (append_assoc before a.more (x ∷ [])) (renew (before ++ a.more) a.heads_are);
      placed = append_assoc a.more (x ∷ []) left ∙ ap (λ (l : List Placed). a.more ++ (x ∷ l)) same ∙ a.placed;
      linked =
          append_assoc links (link ∷ []) (links_of p (before ++ (a.more ++ x ∷ [])) left)
          ∙ ap (λ (l : List ℕ). links ++ (link ∷ l)) (ap (λ (l : List Placed). links_of p l left) (sym (append_assoc before a.more (x ∷ []))) ∙ ap (λ (l : List Placed). links_of p ((before ++ a.more) ++ x ∷ []) l) same)
          ∙ ap (λ (n : ℕ). links ++ (n ∷ links_of p ((before ++ a.more) ++ x ∷ []) (laid (place + extent_of (body_of number c (is_nil rest))) (group_bodies number rest)))) (linked_by (before ++ a.more) a.heads_are)
          ∙ a.linked;
    }

pub all_ahead_heads : (p : ℕ) (heads links : List ℕ) (place : ℕ) (rest cs : List Change) (end number : ℕ) (before : List Placed) → rest ≡ [] → Ahead p heads links place rest cs end number before
    → HeadsAre p heads (before ++ laid end (group_bodies number cs))
all_ahead_heads p heads links place rest cs end number before none a =
    let all : a.more ≡ laid end (group_bodies number cs) = sym (append-nil a.more) ∙ ap (λ (l : List Change). a.more ++ laid place (group_bodies number l)) (sym none) ∙ a.placed in
    subst (λ (l : List Placed). HeadsAre p heads (before ++ l)) all a.heads_are

pub all_ahead_links : (p : ℕ) (heads links : List ℕ) (place : ℕ) (rest cs : List Change) (end number : ℕ) (before : List Placed) → rest ≡ [] → Ahead p heads links place rest cs end number before
    → links ≡ links_of p before (laid end (group_bodies number cs))
all_ahead_links p heads links place rest cs end number before none a =
    sym (append-nil links) ∙ ap (λ (l : List Change). links ++ links_of p (before ++ a.more) (laid place (group_bodies number l))) (sym none) ∙ a.linked

fit_tail : (c : Change) (rest : List Change) → AllFit (c ∷ rest) → AllFit rest
fit_tail (changes.Put pair) rest fit = fit.2
fit_tail (changes.Drop key) rest fit = fit.1
fit_tail changes.Clear rest fit = fit

pub fit_rest : (c : Change) (rest all : List Change) → all ≡ c ∷ rest → AllFit all → AllFit rest
fit_rest c rest all is fit = fit_tail c rest (subst AllFit is fit)
