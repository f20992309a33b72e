-- What an update writes to the page file.
use Rattle.std.specs.Prelude.{ℕ, ◌-◌, ◌^◌, nat_lt, nat_le, Bool, false, ◌||◌, ◌==◌, List, [], ◌∷◌, Option, Some, None, if◌then◌else◌}
use Rattle.tk_model.specs.Records.{find}
use Rattle.tk_model.specs.declared.record.Order.{Order}
use Rattle.tk_model.specs.declared.record.Pair.{Pair}
use Rattle.tk_model.specs.declared.record.Group.{Group}
use Rattle.tk_model.specs.declared.record.Change.{Change}
use Rattle.tk_model.specs.declared.record.Change.TheVariants as changes
use Rattle.tk_tree.specs.Put.{TreeAfter, put_tree}
use Rattle.tk_tree.specs.Drop.{drop_tree, clear_tree}
use Rattle.tk_tree.specs.Pages.{TreeState, number_key, all_pages}

abbrev pub after_change : Order → Change → TreeState → TreeAfter
after_change o (changes.Put p) s = put_tree o p s.levels s.top s.next
after_change o (changes.Drop k) s = drop_tree o k s.levels s.top s.next
after_change o changes.Clear s = clear_tree s.levels s.top s.next

abbrev pub state_of : TreeAfter → TreeState
state_of g = record { levels = g.levels; top = g.top; next = g.next }

-- numbers in rising order, each once
abbrev pub with_number : ℕ → List ℕ → List ℕ
with_number n [] = n ∷ []
with_number n (m ∷ ms) = if n == m then m ∷ ms else (if nat_lt n m then n ∷ m ∷ ms else m ∷ with_number n ms)

abbrev pub with_numbers : List ℕ → List ℕ → List ℕ
with_numbers [] ms = ms
with_numbers (n ∷ ns) ms = with_numbers ns (with_number n ms)

-- the tree after changes, and the numbers of the pages that they wrote
pub record Updated : Type 0 where
  pub state : TreeState
  pub wrote : List ℕ

abbrev pub after_changes : Order → List Change → Updated → Updated
after_changes o [] u = u
after_changes o (c ∷ cs) u = let g = after_change o c u.state in after_changes o cs (record { state = state_of g; wrote = with_numbers g.wrote u.wrote })

-- the tree after changes, and the pages that they wrote, the first page among them
abbrev pub updated : Order → TreeState → List Change → Updated
updated o s cs = after_changes o cs (record { state = s; wrote = 0 ∷ [] })

abbrev pub by_text : List ℕ → Option (List ℕ) → Change
by_text key None = changes.Drop key
by_text key (Some text) = changes.Put (record { key = key; value = text })

abbrev pub page_change : List Pair → ℕ → Change
page_change pages n = by_text (number_key n) (find (number_key n) pages)

-- the changes of the page file that an update makes
abbrev pub changes_at : List Pair → List ℕ → List Change
changes_at pages [] = []
changes_at pages (n ∷ ns) = page_change pages n ∷ changes_at pages ns

abbrev pub page_changes : Order → TreeState → List Change → List Change
page_changes o s [] = []
page_changes o s (c ∷ cs) = let u = updated o s (c ∷ cs) in changes_at (all_pages u.state) u.wrote

-- a change made the height 256, or gave out the last page number
abbrev pub is_past : TreeState → Bool
is_past s = nat_le 255 s.levels || nat_lt (2 ^ 64 - 1) s.next

abbrev pub ever_past : Order → TreeState → List Change → Bool
ever_past o s [] = false
ever_past o s (c ∷ cs) = is_past (state_of (after_change o c s)) || ever_past o (state_of (after_change o c s)) cs

-- the tree after groups, and the groups of pages that they write, one for each under its number
abbrev pub state_after : Order → TreeState → List Group → TreeState
state_after o s [] = s
state_after o s (g ∷ gs) = state_after o (updated o s g.changes).state gs

abbrev pub page_groups : Order → TreeState → List Group → List Group
page_groups o s [] = []
page_groups o s (g ∷ gs) = record { number = g.number; changes = page_changes o s g.changes } ∷ page_groups o (updated o s g.changes).state gs
