-- What holds of trees and of their updates.
use Rattle.std.specs.Prelude.{◌≡◌, ℕ, ◌≤◌, List, take, Option, Some}
use Rattle.tk_model.specs.Records.{find, after_one, after, replay, first_within, last_within, Rising}
use Rattle.tk_model.specs.declared.record.Bound.{Bound}
use Rattle.tk_model.specs.declared.record.Change.{Change}
use Rattle.tk_model.specs.declared.record.Group.{Group}
use Rattle.tk_model.specs.declared.record.Order.{Order}
use Rattle.tk_model.specs.declared.record.Pair.{Pair}
use Rattle.tk_tree.specs.Tree.{Tree, records_of, numbers_of}
use Rattle.tk_tree.specs.Formed.{IsWithin, IsTreeOf}
use Rattle.tk_tree.specs.Lookup.{leaf_for}
use Rattle.tk_tree.specs.Search.{next_in, prev_in}
use Rattle.tk_tree.specs.Pages.{TreeState, pages_of, IsStored, IsOther, AreGiven, Formed}
use Rattle.tk_tree.specs.Reading.{state_in}
use Rattle.tk_tree.specs.Writes.{after_change, updated, page_changes, page_groups, state_after}

-- ---- look-ups

-- what is found in the records is found in the leaf of one path
abbrev pub OneLeafDecides : Type 0
OneLeafDecides =
    (o : Order) (key : List ℕ) (n : ℕ) (low high : Option (List ℕ)) (t : Tree n) → IsWithin o n low high t
    → find key (records_of n t) ≡ find key (leaf_for o key n t).pairs

-- the first record within a bound, going up, is found along one path and the first leaf behind it that has one
abbrev pub NextIsFirst : Type 0
NextIsFirst =
    (o : Order) (b : Bound) (n : ℕ) (low high : Option (List ℕ)) (t : Tree n) → IsWithin o n low high t
    → first_within o b (records_of n t) ≡ next_in o b n t

abbrev pub PrevIsLast : Type 0
PrevIsLast =
    (o : Order) (b : Bound) (n : ℕ) (low high : Option (List ℕ)) (t : Tree n) → IsWithin o n low high t
    → last_within o b (records_of n t) ≡ prev_in o b n t

-- ---- updates

-- a change of the tree is that change of its records, and the tree stays valid
abbrev pub ChangesStand : Type 0
ChangesStand =
    (o : Order) (c : Change) (m : List Pair) (s : TreeState) → IsTreeOf o m s.levels s.top
    → IsTreeOf o (after_one o c m) (after_change o c s).levels (after_change o c s).top

-- so are the changes of an update
abbrev pub UpdatesStand : Type 0
UpdatesStand =
    (o : Order) (cs : List Change) (m : List Pair) (s : TreeState) → IsTreeOf o m s.levels s.top
    → IsTreeOf o (after o cs m) (updated o s cs).state.levels (updated o s cs).state.top

-- and groups of updates
abbrev pub GroupsStand : Type 0
GroupsStand =
    (o : Order) (gs : List Group) (m : List Pair) (s : TreeState) → IsTreeOf o m s.levels s.top
    → IsTreeOf o (replay o gs m) (state_after o s gs).levels (state_after o s gs).top

-- ---- page numbers

-- each page number stands once, is 1 or more and below the next one, after groups of updates too
abbrev pub NumbersStayGiven : Type 0
NumbersStayGiven =
    (o : Order) (gs : List Group) (s : TreeState) → AreGiven s.next (numbers_of s.levels s.top) → 1 ≤ s.next
    → AreGiven (state_after o s gs).next (numbers_of (state_after o s gs).levels (state_after o s gs).top)

-- the next page number never falls
abbrev pub NumbersGrow : Type 0
NumbersGrow = (o : Order) (gs : List Group) (s : TreeState) → s.next ≤ (state_after o s gs).next

-- ---- the page file

-- a page that an update doesn't write stays as it was
abbrev pub OthersStay : Type 0
OthersStay =
    (o : Order) (c : Change) (s : TreeState) (key : List ℕ) → IsOther key (after_change o c s).wrote
    → find key (pages_of (after_change o c s).levels (after_change o c s).top) ≡ find key (pages_of s.levels s.top)

-- after the changes of an update the file has just the pages of the new tree
abbrev pub UpdateIsStored : Type 0
UpdateIsStored =
    (o order : Order) (cs : List Change) (s : TreeState) (file : List Pair) → Rising order file → IsStored file s
    → IsStored (after order (page_changes o s cs) file) (updated o s cs).state

-- after a front of the groups of pages the file has the tree after that front of the updates
abbrev pub FrontsAreStored : Type 0
FrontsAreStored =
    (o order : Order) (n : ℕ) (gs : List Group) (s : TreeState) (file : List Pair) → Rising order file → IsStored file s
    → IsStored (replay order (take n (page_groups o s gs)) file) (state_after o s (take n gs))

-- a file that has just the pages of a formed tree is read as this tree
abbrev pub FormedIsRead : Type 0
FormedIsRead = (o : Order) (file : List Pair) (s : TreeState) → IsStored file s → Formed o s → state_in file ≡ Some s
