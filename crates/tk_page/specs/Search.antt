-- Which child of an inner page a key leads to.
use Rattle.std.specs.Prelude.{◌≡◌, ℕ, List, [], ◌∷◌, Option, Some, None, if◌then◌else◌}
use Rattle.std.specs.Ordering.{is_le}
use Rattle.std.specs.declared.cmp.Ordering.TheVariants.{Less}
use Rattle.tk_model.specs.Orders.{key_cmp}
use Rattle.tk_model.specs.declared.record.Order.{Order}
use Rattle.tk_page.specs.declared.page.Child.{Child}

-- the last of these children whose key is at or before this one, else the first number
abbrev pub child_behind : Order → (key : List ℕ) → (first : ℕ) → List Child → ℕ
child_behind o key first [] = first
child_behind o key first (c ∷ cs) = if is_le (key_cmp o c.key key) then child_behind o key c.page cs else first

-- the child for a key: the last one whose key is at or before it, or the first
abbrev pub child_for : Order → (key : List ℕ) → List Child → Option ℕ
child_for o key [] = None
child_for o key (c ∷ cs) = Some (child_behind o key c.page cs)

-- each key comes before those that follow
abbrev pub AllPast : Order → (key : List ℕ) → List Child → Type 0
AllPast o key [] = Unit {0}
AllPast o key (c ∷ cs) = (key_cmp o key c.key ≡ Less) × AllPast o key cs

abbrev pub ChildrenRise : Order → List Child → Type 0
ChildrenRise o [] = Unit {0}
ChildrenRise o (c ∷ cs) = AllPast o c.key cs × ChildrenRise o cs

-- the children behind the first, whose key is empty
abbrev pub RestRises : Order → List Child → Type 0
RestRises o [] = Unit {0}
RestRises o (c ∷ cs) = ChildrenRise o cs
