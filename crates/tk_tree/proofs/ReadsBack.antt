-- A tree that lies in a file is read back.
use Rattle.std.proofs.Common.{◌≡◌, ℕ, zero, suc, ◌+◌, List, [], ◌∷◌, map, Some, refl, ap, ◌∙◌, arith}
use Rattle.std.specs.Option.{option_map}
use Rattle.tk_model.specs.Records.{find}
use Rattle.tk_model.specs.declared.record.Pair.{Pair}
use Rattle.tk_page.specs.declared.page.Page.{Page as Spelled}
use Rattle.tk_page.specs.declared.meta.Meta.{Meta}
use Rattle.tk_page.specs.Page.{page_text, page_in, FitsPage}
use Rattle.tk_page.specs.Meta.{meta_text, meta_in, FitsMeta}
use Rattle.tk_page.proofs.Grammar.{page_again}
use Rattle.tk_page.proofs.MetaGrammar.{meta_again}
use Rattle.tk_tree.specs.Tree.{KeyedChild, Tree, number_of}
use Rattle.tk_tree.specs.Pages.{number_key, child_of, page_of, TreeState, EachChild, FitsTree, LiesIn}
use Rattle.tk_tree.specs.Reading.{and_then, page_here, leaf_here, children_here, inner_here, tree_in, state_under, state_in}

told : (file : List Pair) (number : ℕ) (page : Spelled) → FitsPage page → find (number_key number) file ≡ Some (page_text page) → page_here file number ≡ Some page
told file number page fits is = ap (λ o. and_then o page_in) is ∙ page_again page fits

module _ (file : List Pair) (n : ℕ) (read : (u : Tree n) → FitsTree n u → LiesIn file n u → tree_in file n (number_of n u) ≡ Some u) where
  children_read : (t : Tree n) (ks : List (KeyedChild (Tree n))) → EachChild (FitsTree n) t ks → EachChild (LiesIn file n) t ks → (tree_in file n (number_of n t) ≡ Some t) × (children_here (tree_in file n) (map (child_of n) ks) ≡ Some ks)
  children_read t [] fits lies = (read t fits lies, refl)
  children_read t (k ∷ ks) fits lies =
      let deeper = children_read k.tree ks fits.1 lies.1 in (
        read t fits.0 lies.0,
        ap (λ o. and_then o (λ u. option_map (λ us. record { key = k.key; tree = u } ∷ us) (children_here (tree_in file n) (map (child_of n) ks)))) deeper.0
            ∙ ap (λ o. option_map (λ us. k ∷ us) o) deeper.1,
      )

pub tree_read : (file : List Pair) (n : ℕ) (t : Tree n) → FitsTree n t → LiesIn file n t → tree_in file n (number_of n t) ≡ Some t
tree_read file zero t fits lies = ap (λ o. and_then o (leaf_here t.number)) (told file t.number (page_of 0 t) fits.1 lies)
tree_read file (suc n) t fits lies =
    let both = children_read file n (λ u f l. tree_read file n u f l) t.first t.rest fits.2 lies.1 in
    ap (λ o. and_then o (inner_here (tree_in file n) t.number)) (told file t.number (page_of (suc n) t) fits.1 lies.0)
    ∙ ap (λ o. and_then o (λ u. option_map (λ us. record { number = t.number; first = u; rest = us }) (children_here (tree_in file n) (map (child_of n) t.rest)))) both.0
    ∙ ap (λ o. option_map (λ us. record { number = t.number; first = t.first; rest = us }) o) both.1

-- the first page leads to the tree
pub state_read : (file : List Pair) (s : TreeState) (m : Meta) → FitsMeta m → find (number_key 0) file ≡ Some (meta_text m) → m.root ≡ number_of s.levels s.top → m.height ≡ s.levels + 1 → m.next ≡ s.next
    → FitsTree s.levels s.top → LiesIn file s.levels s.top → state_in file ≡ Some s
state_read file s m fits is root height next tree_fits lies =
    let high : m.height ≡ suc s.levels = omega (arith, height) in
    ap (λ o. and_then (and_then o meta_in) (λ x. state_under file x.height x)) is
    ∙ ap (λ o. and_then o (λ x. state_under file x.height x)) (meta_again (meta_text m) m fits refl)
    ∙ ap (λ h. state_under file h m) high
    ∙ ap (λ r. option_map (λ t. record { levels = s.levels; top = t; next = m.next }) (tree_in file s.levels r)) root
    ∙ ap (λ o. option_map (λ t. record { levels = s.levels; top = t; next = m.next }) o) (tree_read file s.levels s.top tree_fits lies)
    ∙ ap (λ x. Some (record { levels = s.levels; top = s.top; next = x })) next
