-- Page numbers after updates.
use Rattle.std.proofs.Common.{◌≤◌, List, [], ◌∷◌, sym, subst, arith}
use Rattle.tk_model.specs.declared.record.Order.{Order}
use Rattle.tk_model.specs.declared.record.Group.{Group}
use Rattle.tk_model.specs.declared.record.Change.{Change}
use Rattle.tk_model.specs.declared.record.Change.TheVariants as changes
use Rattle.tk_tree.specs.Tree.{numbers_of}
use Rattle.tk_tree.specs.Pages.{TreeState, AreGiven}
use Rattle.tk_tree.specs.Drop.{drop_tree}
use Rattle.tk_tree.specs.Writes.{Updated, after_change, state_of, after_changes, updated, with_numbers, state_after}
use Rattle.tk_tree.proofs.PutNumbers.{put_given, put_grows}
use Rattle.tk_tree.proofs.DropNumbers.{drop_given, drop_next, clear_given}

-- the numbers of a tree
abbrev pub Given : TreeState → Type 0
Given s = AreGiven s.next (numbers_of s.levels s.top)

change_grows : (o : Order) (c : Change) (s : TreeState) → s.next ≤ (after_change o c s).next
change_grows o (changes.Put p) s = put_grows o p s.levels s.top s.next
change_grows o (changes.Drop k) s = omega (arith, drop_next o k s.levels s.top s.next)
change_grows o changes.Clear s = omega arith

change_given : (o : Order) (c : Change) (s : TreeState) → Given s → 1 ≤ s.next → Given (state_of (after_change o c s))
change_given o (changes.Put p) s is some = put_given o p s.levels s.top s.next some is
change_given o (changes.Drop k) s is some =
    let g = drop_tree o k s.levels s.top s.next in
    subst (λ next. AreGiven next (numbers_of g.levels g.top)) (sym (drop_next o k s.levels s.top s.next)) (drop_given o k s.levels s.top s.next is)
change_given o changes.Clear s is some = clear_given s.levels s.top s.next is

changes_grow : (o : Order) (cs : List Change) (u : Updated) → u.state.next ≤ (after_changes o cs u).state.next
changes_grow o [] u = omega arith
changes_grow o (c ∷ cs) u =
    let g = after_change o c u.state in
    omega (arith, change_grows o c u.state, changes_grow o cs (record { state = state_of g; wrote = with_numbers g.wrote u.wrote }))

changes_given : (o : Order) (cs : List Change) (u : Updated) → Given u.state → 1 ≤ u.state.next → Given (after_changes o cs u).state
changes_given o [] u is some = is
changes_given o (c ∷ cs) u is some =
    let g = after_change o c u.state in
    changes_given o cs (record { state = state_of g; wrote = with_numbers g.wrote u.wrote }) (change_given o c u.state is some) (omega (arith, some, change_grows o c u.state))

pub numbers_grow : (o : Order) (gs : List Group) (s : TreeState) → s.next ≤ (state_after o s gs).next
numbers_grow o [] s = omega arith
numbers_grow o (g ∷ gs) s =
    omega (arith, changes_grow o g.changes (record { state = s; wrote = 0 ∷ [] }), numbers_grow o gs (updated o s g.changes).state)

pub numbers_given : (o : Order) (gs : List Group) (s : TreeState) → Given s → 1 ≤ s.next → Given (state_after o s gs)
numbers_given o [] s is some = is
numbers_given o (g ∷ gs) s is some =
    let first : Updated = record { state = s; wrote = 0 ∷ [] } in
    numbers_given o gs (updated o s g.changes).state (changes_given o g.changes first is some) (omega (arith, some, changes_grow o g.changes first))
