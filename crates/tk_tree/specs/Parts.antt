-- The parts of a leaf as the code lists them.
use Rattle.std.specs.Prelude.{◌≡◌, ◌≤◌, ◌^◌, ℕ, List, ◌∷◌, ◌++◌, map, Option, Some, None}
use Rattle.tk_tree.specs.Tree.{Leaf, KeyedChild}
use Rattle.tk_tree.specs.Put.{SplitPage}
use Rattle.tk_tree.specs.declared.split.LeafPart.{LeafPart}

abbrev pub leaf_part : List ℕ → Leaf → LeafPart
leaf_part key t = record { number = t.number; key = key; pairs = t.pairs }

abbrev pub part_of : KeyedChild Leaf → LeafPart
part_of k = leaf_part k.key k.tree

-- the first part has the key of the page that was split
abbrev pub leaf_parts : List ℕ → SplitPage Leaf → List LeafPart
leaf_parts key b = leaf_part key b.first ∷ map part_of b.rest

-- the parts are behind what was there, and the next page number is told; none where it would pass 64 bits
abbrev pub Splits : (key : List ℕ) → SplitPage Leaf → (old new : List LeafPart) → Option ℕ → Type 0
Splits key b old new None = 2 ^ 64 ≤ b.next
Splits key b old new (Some next) = (next ≡ b.next) × (new ≡ old ++ leaf_parts key b)
