-- Blocks as groups, and one block more.
use Rattle.std.proofs.Common.{◌≡◌, ◌≢◌, ℕ, ◌+◌, ◌≤◌, Bool, true, false, cond, List, [], ◌∷◌, ◌++◌, length, refl, sym, ◌∙◌, ap, subst, arith, append_assoc, inl, inr}
use Rattle.std.specs.Prelude.{Option, Some, None, ◌==◌, ◌||◌, not, nat_le}
use Rattle.std.proofs.lemmas.Bool.{eqb-true, leb-true, cases_eq, ne_eqb}
use Rattle.std.proofs.lemmas.Bool.Decides.{nat_tests}
use Rattle.std.proofs.lemmas.List.{append-nil}
use Rattle.tk_model.specs.Records.{AllFit, HasNoClear, IsClearAlone}
use Rattle.tk_model.specs.declared.record.Group.{Group}
use Rattle.tk_model.specs.declared.record.Change.{Change}
use Rattle.tk_model.specs.declared.record.Change.TheVariants.{Put, Drop, Clear}
use Rattle.tk_block.specs.declared.block.Body.{Body}
use Rattle.tk_block.specs.Blocks.{body_of, is_nil, is_body, kind_of, group_bodies}
use Rattle.tk_block.specs.Grammar.{FitsBody}
use Rattle.tk_block.specs.Layout.{placed, Placed, bodies_of}
use Rattle.tk_block.proofs.Bodies.{two_true}
use Rattle.tk_block.proofs.Layouts.{bodies_of-append}
use Rattle.tk_append.specs.Log.{AreGroups}
use Rattle.tk_append.specs.Opening.{change_in, is_in_turn, opened_by}
use Rattle.tk_append.specs.Walked.{IsOfKind}

nil_is : (xs : List ℕ) → is_nil xs ≡ true → xs ≡ []
nil_is [] is = refl
nil_is (x ∷ xs) is = absurd (cc is)

-- a body with the form of its kind
abbrev form : (kind : ℕ) (last : Bool) (key value : List ℕ) (number : ℕ) → Body
form kind last key value number = record { kind = kind; last = last; key = key; value = value; number = number }

put_is : (last : Bool) (key value : List ℕ) (number : ℕ) → body_of number (change_in (form 1 last key value number)) last ≡ form 1 last key value number
put_is last key value number = refl

drop_is : (last : Bool) (key value : List ℕ) (number : ℕ) → value ≡ [] → body_of number (change_in (form 2 last key value number)) last ≡ form 2 last key value number
drop_is last key value number none = ap (λ (v : List ℕ). form 2 last key v number) (sym none)

clear_is : (last : Bool) (key value : List ℕ) (number : ℕ) → key ≡ [] → value ≡ [] → body_of number (change_in (form 4 last key value number)) last ≡ form 4 last key value number
clear_is last key value number no_key none = ap (λ (v : List ℕ). form 4 last [] v number) (sym none) ∙ ap (λ (k : List ℕ). form 4 last k value number) (sym no_key)

no_value : (b : Body) → is_body b ≡ true → b.kind ≢ 1 → b.value ≡ []
no_value b valid other =
    let t = (two_true _ _ (two_true _ _ valid).0).1 in
    nil_is b.value (rw (← ap (λ (x : Bool). x || is_nil b.value) (ne_eqb _ _ other)) t)

no_key : (b : Body) → is_body b ≡ true → b.kind ≡ 4 → b.key ≡ []
no_key b valid four =
    let t = (two_true _ _ valid).1 in
    nil_is b.key (rw (← ap (λ (n : ℕ). nat_le n 2 || is_nil b.key) four) t)

left_kind : (b : Body) → IsOfKind b → b.kind ≢ 1 → b.kind ≢ 2 → b.kind ≡ 4
left_kind b of_kind one two =
    let t : ((b.kind == 1) || (b.kind == 2)) ≡ false = rw (ne_eqb _ _ one, ne_eqb _ _ two) refl in
    eqb-true _ _ (rw (← ap (λ (x : Bool). x || (b.kind == 4)) t) of_kind)

-- a body is that of its change
pub body_is : (b : Body) → is_body b ≡ true → IsOfKind b → body_of b.number (change_in b) b.last ≡ b
body_is b valid of_kind = elim (cases_eq b.kind 1) [
  | inl one ↦
      ap (λ (k : ℕ). body_of b.number (change_in (form k b.last b.key b.value b.number)) b.last) one ∙ put_is b.last b.key b.value b.number ∙ ap (λ (k : ℕ). form k b.last b.key b.value b.number) (sym one)
  | inr other ↦ elim (cases_eq b.kind 2) [
    | inl two ↦
        ap (λ (k : ℕ). body_of b.number (change_in (form k b.last b.key b.value b.number)) b.last) two ∙ drop_is b.last b.key b.value b.number (no_value b valid other)
        ∙ ap (λ (k : ℕ). form k b.last b.key b.value b.number) (sym two)
    | inr third ↦
        let four = left_kind b of_kind other third in
        ap (λ (k : ℕ). body_of b.number (change_in (form k b.last b.key b.value b.number)) b.last) four ∙ clear_is b.last b.key b.value b.number (no_key b valid four) (no_value b valid other)
        ∙ ap (λ (k : ℕ). form k b.last b.key b.value b.number) (sym four)
  ]
]

pub change_fits : (c : Change) (n : ℕ) (last : Bool) → FitsBody (body_of n c last) → AllFit (c ∷ [])
change_fits (Put p) n last fits =
    let small : length p.value ≤ 33554431 = grind (arith, nat_tests, fits.0) in
    (omega (arith, fits.1), small, tt)
change_fits (Drop k) n last fits = (omega (arith, fits.1), tt)
change_fits Clear n last fits = tt

fit_more : (cs : List Change) (c : Change) → AllFit cs → AllFit (c ∷ []) → AllFit (cs ++ c ∷ [])
fit_more [] c all one = one
fit_more (Put p ∷ cs) c all one = (all.0, all.1, fit_more cs c all.2 one)
fit_more (Drop k ∷ cs) c all one = (all.0, fit_more cs c all.1 one)
fit_more (Clear ∷ cs) c all one = fit_more cs c all one

none_clear : (c : Change) → not (kind_of c == 4) ≡ true → HasNoClear (c ∷ [])
none_clear (Put p) other = tt
none_clear (Drop k) other = tt
none_clear Clear other = absurd (cc other)

no_clear_more : (cs : List Change) (c : Change) → HasNoClear cs → HasNoClear (c ∷ []) → HasNoClear (cs ++ c ∷ [])
no_clear_more [] c all one = one
no_clear_more (Put p ∷ cs) c all one = no_clear_more cs c all one
no_clear_more (Drop k ∷ cs) c all one = no_clear_more cs c all one
no_clear_more (Clear ∷ cs) c all one = absurd all

alone : (c : Change) → IsClearAlone (c ∷ [])
alone (Put p) = tt
alone (Drop k) = tt
alone Clear = tt

no_clear_alone : (cs : List Change) → HasNoClear cs → IsClearAlone cs
no_clear_alone [] none = none
no_clear_alone (Put p ∷ cs) none = none
no_clear_alone (Drop k ∷ cs) none = none
no_clear_alone (Clear ∷ cs) none = absurd none

some_more : (cs : List Change) (c : Change) → (cs ++ c ∷ []) ≢ []
some_more [] c is = absurd (cc is)
some_more (d ∷ cs) c is = absurd (cc is)

-- one group more
groups_more : (lo least n : ℕ) (gs : List Group) (cs : List Change) → AreGroups lo least gs → least ≤ n → cs ≢ [] → AllFit cs → IsClearAlone cs → AreGroups lo (n + 1) (gs ++ record { number = n; changes = cs } ∷ [])
groups_more lo least n [] cs legal most some fit one = (omega (arith, legal), some, fit, one, omega arith)
groups_more lo least n (g ∷ gs) cs legal most some fit one = (legal.0, legal.1, legal.2, legal.3, groups_more (g.number + 1) least n gs cs legal.4 most some fit one)

pub groups_upto : (lo least next : ℕ) (gs : List Group) → AreGroups lo least gs → least ≤ next → AreGroups lo next gs
groups_upto lo least next [] legal most = omega (arith, legal)
groups_upto lo least next (g ∷ gs) legal most = (legal.0, legal.1, legal.2, legal.3, groups_upto (g.number + 1) least next gs legal.4 most)

-- the bodies of a group that is not complete
abbrev pub part_bodies : (number : ℕ) → List Change → List Body
part_bodies n [] = []
part_bodies n (c ∷ cs) = body_of n c false ∷ part_bodies n cs

part_more : (n : ℕ) (cs : List Change) (c : Change) → part_bodies n (cs ++ c ∷ []) ≡ part_bodies n cs ++ body_of n c false ∷ []
part_more n [] c = refl
part_more n (d ∷ cs) c = ap (λ (l : List Body). body_of n d false ∷ l) (part_more n cs c)

not_nil : (cs : List Change) (c : Change) → is_nil (cs ++ c ∷ []) ≡ false
not_nil [] c = refl
not_nil (d ∷ cs) c = refl

part_whole : (n : ℕ) (cs : List Change) (c : Change) → group_bodies n (cs ++ c ∷ []) ≡ part_bodies n cs ++ body_of n c true ∷ []
part_whole n [] c = refl
part_whole n (d ∷ cs) c =
    ap (λ (x : Bool). body_of n d x ∷ group_bodies n (cs ++ c ∷ [])) (not_nil cs c) ∙ ap (λ (l : List Body). body_of n d false ∷ l) (part_whole n cs c)

-- what is known of the group that is not complete
abbrev pub IsPart : (least : ℕ) → Option Placed → (number : ℕ) → List Change → Type 0
IsPart least None number part = part ≡ []
IsPart least (Some x) number part = (x.body.number ≡ number) × (least ≤ number) × HasNoClear part × AllFit part

-- groups and a part of one more
pub record Parted (bodies : List Body) (least : ℕ) (open_group : Option Placed) : Type 0 where
  pub groups : List Group
  pub part : List Change
  pub number : ℕ
  pub bodies_are : bodies ≡ bodies_of groups ++ part_bodies number part
  pub legal : AreGroups 0 least groups
  pub rest : IsPart least open_group number part

-- a group is complete
closed : (bodies : List Body) (least n : ℕ) (groups : List Group) (part : List Change) (c : Change) → bodies ≡ bodies_of groups ++ part_bodies n part → AreGroups 0 least groups → least ≤ n → AllFit part → AllFit (c ∷ []) → IsClearAlone (part ++ c ∷ [])
    → Parted (bodies ++ body_of n c true ∷ []) (n + 1) None
closed bodies least n groups part c are legal most fit one whole =
    let g : Group = record { number = n; changes = part ++ c ∷ [] } in
    record {
      groups = groups ++ g ∷ [];
      part = [];
      number = n;
      bodies_are =
          ap (λ (l : List Body). l ++ body_of n c true ∷ []) are ∙ append_assoc (bodies_of groups) (part_bodies n part) (body_of n c true ∷ [])
          ∙ ap (λ (l : List Body). bodies_of groups ++ l) (sym (part_whole n part c) ∙ sym (append-nil (group_bodies n (part ++ c ∷ []))))
          ∙ sym (bodies_of-append groups (g ∷ [])) ∙ sym (append-nil (bodies_of (groups ++ g ∷ [])));
      legal = groups_more 0 least n groups (part ++ c ∷ []) legal most (some_more part c) (fit_more part c fit one) whole;
      rest = refl;
    }

-- a group goes on
going : (bodies : List Body) (least n : ℕ) (groups : List Group) (part : List Change) (c : Change) (x : Placed) → bodies ≡ bodies_of groups ++ part_bodies n part → AreGroups 0 least groups → least ≤ n → x.body.number ≡ n
    → HasNoClear part → AllFit part → HasNoClear (c ∷ []) → AllFit (c ∷ []) → Parted (bodies ++ body_of n c false ∷ []) least (Some x)
going bodies least n groups part c x are legal most is none fit none_here one = record {
  groups = groups;
  part = part ++ c ∷ [];
  number = n;
  bodies_are =
      ap (λ (l : List Body). l ++ body_of n c false ∷ []) are ∙ append_assoc (bodies_of groups) (part_bodies n part) (body_of n c false ∷ [])
      ∙ ap (λ (l : List Body). bodies_of groups ++ l) (sym (part_more n part c));
  legal = legal;
  rest = (is, most, no_clear_more part c none none_here, fit_more part c fit one);
}

-- a part that is empty has every number
empty_part : (bodies : List Body) (n m : ℕ) (groups : List Group) (part : List Change) → part ≡ [] → bodies ≡ bodies_of groups ++ part_bodies m part → bodies ≡ bodies_of groups ++ part_bodies n []
empty_part bodies n m groups part none are = are ∙ ap (λ (cs : List Change). bodies_of groups ++ part_bodies m cs) none

or_false : (x : Bool) → (x || false) ≡ true → x ≡ true
or_false true is = refl
or_false false is = absurd (cc is)

grown : (bodies : List Body) (least : ℕ) (open_group : Option Placed) (n : ℕ) (c : Change) (last : Bool) (place : ℕ) (groups : List Group) (part : List Change) (m : ℕ)
    → bodies ≡ bodies_of groups ++ part_bodies m part → AreGroups 0 least groups → IsPart least open_group m part → is_in_turn least open_group (body_of n c last) ≡ true → AllFit (c ∷ [])
    → Parted (bodies ++ body_of n c last ∷ []) (cond last (n + 1) least) (opened_by open_group (placed place (body_of n c last)))
grown bodies least None n c true place groups part m are legal rest turn fits =
    closed bodies least n groups [] c (empty_part bodies n m groups part rest are) legal (leb-true _ _ (two_true _ _ turn).0) tt fits (alone c)
grown bodies least None n c false place groups part m are legal rest turn fits =
    let t = two_true _ _ turn in
    going bodies least n groups [] c (placed place (body_of n c false)) (empty_part bodies n m groups part rest are) legal (leb-true _ _ t.0) refl tt tt (none_clear c (or_false _ t.1)) fits
grown bodies least (Some x) n c true place groups part m are legal rest turn fits =
    let t = two_true _ _ turn in
    let same : m ≡ n = sym (eqb-true _ _ t.0 ∙ rest.0) in
    closed bodies least n groups part c (subst (λ (k : ℕ). bodies ≡ bodies_of groups ++ part_bodies k part) same are) legal (subst (λ (k : ℕ). least ≤ k) same rest.1) rest.3 fits
    (no_clear_alone (part ++ c ∷ []) (no_clear_more part c rest.2 (none_clear c t.1)))
grown bodies least (Some x) n c false place groups part m are legal rest turn fits =
    let t = two_true _ _ turn in
    let same : m ≡ n = sym (eqb-true _ _ t.0 ∙ rest.0) in
    going bodies least n groups part c x (subst (λ (k : ℕ). bodies ≡ bodies_of groups ++ part_bodies k part) same are) legal (subst (λ (k : ℕ). least ≤ k) same rest.1) (sym (eqb-true _ _ t.0)) rest.2 rest.3 (none_clear c t.1) fits

-- groups with one block more
pub parted_more : (bodies : List Body) (least : ℕ) (open_group : Option Placed) (b : Body) (place : ℕ) → Parted bodies least open_group → FitsBody b → IsOfKind b → is_in_turn least open_group b ≡ true
    → Parted (bodies ++ b ∷ []) (cond b.last (b.number + 1) least) (opened_by open_group (placed place b))
parted_more bodies least open_group b place so_far fits of_kind turn =
    let is = body_is b fits.0 of_kind in
    subst (λ (x : Body). Parted (bodies ++ x ∷ []) (cond b.last (b.number + 1) least) (opened_by open_group (placed place x))) is
    (grown bodies least open_group b.number (change_in b) b.last place so_far.groups so_far.part so_far.number so_far.bodies_are so_far.legal so_far.rest
    (subst (λ (x : Body). is_in_turn least open_group x ≡ true) (sym is) turn) (change_fits (change_in b) b.number b.last (subst FitsBody (sym is) fits)))
