-- Updates of a tree are those of its records.
use Rattle.std.proofs.Common.{List, [], ◌∷◌, None, ap, ◌∙◌}
use Rattle.tk_model.specs.Records.{after_one, after, replay}
use Rattle.tk_model.specs.declared.record.Order.{Order}
use Rattle.tk_model.specs.declared.record.Pair.{Pair}
use Rattle.tk_model.specs.declared.record.Group.{Group}
use Rattle.tk_model.specs.declared.record.Change.{Change}
use Rattle.tk_model.specs.declared.record.Change.TheVariants as changes
use Rattle.tk_tree.specs.Tree.{records_of}
use Rattle.tk_tree.specs.Formed.{IsWithin, IsTreeOf}
use Rattle.tk_tree.specs.Pages.{TreeState}
use Rattle.tk_tree.specs.Put.{LeadsTo}
use Rattle.tk_tree.specs.Writes.{Updated, after_change, state_of, after_changes, updated, with_numbers, state_after}
use Rattle.tk_tree.proofs.Puts.{put_tree_stands}
use Rattle.tk_tree.proofs.Drops.{drop_tree_stands, clear_tree_stands}

one_stands : (o : Order) (c : Change) (s : TreeState) → IsWithin o s.levels None None s.top → LeadsTo o (after_one o c (records_of s.levels s.top)) (after_change o c s)
one_stands o (changes.Put p) s is = put_tree_stands o p s.levels s.top s.next is
one_stands o (changes.Drop k) s is = drop_tree_stands o k s.levels s.top s.next is
one_stands o changes.Clear s is = clear_tree_stands o s.levels s.top s.next

pub change_stands : (o : Order) (c : Change) (m : List Pair) (s : TreeState) → IsTreeOf o m s.levels s.top → IsTreeOf o (after_one o c m) (after_change o c s).levels (after_change o c s).top
change_stands o c m s is =
    let one = one_stands o c s is.within in
    record { records = one.records ∙ ap (after_one o c) is.records; within = one.within }

changes_stand : (o : Order) (cs : List Change) (u : Updated) (m : List Pair) → IsTreeOf o m u.state.levels u.state.top → IsTreeOf o (after o cs m) (after_changes o cs u).state.levels (after_changes o cs u).state.top
changes_stand o [] u m is = is
changes_stand o (c ∷ cs) u m is =
    let g = after_change o c u.state in
    changes_stand o cs (record { state = state_of g; wrote = with_numbers g.wrote u.wrote }) (after_one o c m) (change_stands o c m u.state is)

pub update_stands : (o : Order) (cs : List Change) (m : List Pair) (s : TreeState) → IsTreeOf o m s.levels s.top → IsTreeOf o (after o cs m) (updated o s cs).state.levels (updated o s cs).state.top
update_stands o cs m s is = changes_stand o cs (record { state = s; wrote = 0 ∷ [] }) m is

-- the records after groups of updates
pub groups_stand : (o : Order) (gs : List Group) (m : List Pair) (s : TreeState) → IsTreeOf o m s.levels s.top → IsTreeOf o (replay o gs m) (state_after o s gs).levels (state_after o s gs).top
groups_stand o [] m s is = is
groups_stand o (g ∷ gs) m s is = groups_stand o gs (after o g.changes m) (updated o s g.changes).state (update_stands o g.changes m s is)
