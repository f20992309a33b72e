-- The reading of an image, block by block.
use Rattle.std.proofs.Common.{◌≡◌, ℕ, zero, suc, ◌+◌, ◌-◌, ◌<◌, ◌≤◌, min, Bool, true, false, cond, List, [], ◌∷◌, ◌++◌, length, take, drop, refl, sym, ◌∙◌, ap, subst, arith, inl, inr}
use Rattle.std.specs.Prelude.{Option, Some, None, option_map}
use Rattle.std.specs.Option.{is_some}
use Rattle.std.proofs.lemmas.Bool.{cases_lt}
use Rattle.std.proofs.lemmas.Bool.Decides.{nat_tests}
use Rattle.std.proofs.lemmas.List.{append-nil, take_all, drop_all, length-drop, drop-drop}
use Rattle.tk_model.specs.declared.record.Change.{Change}
use Rattle.tk_model.specs.declared.record.Group.{Group}
use Rattle.tk_block.specs.declared.block.Body.{Body}
use Rattle.tk_block.specs.declared.head.StaticHead.{StaticHead}
use Rattle.tk_block.specs.Text.{head_at, base_of}
use Rattle.tk_block.specs.Blocks.{body_at, is_body, body_said}
use Rattle.tk_block.specs.Layout.{Placed}
use Rattle.tk_block.specs.Grammar.{FitsExtent}
use Rattle.tk_block.proofs.Grammar.{heads}
use Rattle.tk_append.specs.Opening.{Walk, begin, walked, opened_by, change_in}
use Rattle.tk_append.specs.Walked.{as_open}
use Rattle.tk_append.specs.Restored.{may_be_read, read_block, read_on, read_blocks, complete_groups, groups_in}
use Rattle.tk_append.specs.Reread.{NoneThere, IsThere, left_over, Knows, ReadUpto}
use Rattle.tk_append.specs.declared.restore.Reading.{Reading}
use Rattle.tk_append.specs.declared.restore.Standing.{Standing}
use Rattle.tk_append.proofs.Restoring.{block_on, nothing_read, no_body_there, group_of}

-- the group that a block ends
abbrev pub ended : Placed → List Change → List Group
ended x begun = cond x.body.last (group_of x.body.number (begun ++ change_in x.body ∷ []) ∷ []) []

groups_by : (t : Bool) (g : Group) (xs ys us vs : List Group) (k l : List Change) (x : Placed) → xs ≡ us ++ ended x k → ys ≡ vs ++ ended x l → cond t (g ∷ xs) ys ≡ cond t (g ∷ us) vs ++ ended x (cond t k l)
groups_by true g xs ys us vs k l x one other = ap (λ (gs : List Group). g ∷ gs) one
groups_by false g xs ys us vs k l x one other = other

-- the groups with one block more
pub groups_more : (begun : List Change) (xs : List Placed) (x : Placed) → complete_groups begun (xs ++ x ∷ []) ≡ complete_groups begun xs ++ ended x (left_over begun xs)
groups_more begun [] x = refl
groups_more begun (y ∷ ys) x =
    groups_by y.body.last (group_of y.body.number (begun ++ change_in y.body ∷ [])) _ _ (complete_groups [] ys) (complete_groups (begun ++ change_in y.body ∷ []) ys)
    (left_over [] ys) (left_over (begun ++ change_in y.body ∷ []) ys) x (groups_more [] ys x) (groups_more (begun ++ change_in y.body ∷ []) ys x)

left_by : (t last : Bool) (xs ys k l : List Change) (c : Change) → xs ≡ cond last [] (k ++ c ∷ []) → ys ≡ cond last [] (l ++ c ∷ []) → cond t xs ys ≡ cond last [] (cond t k l ++ c ∷ [])
left_by true last xs ys k l c one other = one
left_by false last xs ys k l c one other = other

-- what is begun with one block more
pub left_more : (begun : List Change) (xs : List Placed) (x : Placed) → left_over begun (xs ++ x ∷ []) ≡ cond x.body.last [] (left_over begun xs ++ change_in x.body ∷ [])
left_more begun [] x = refl
left_more begun (y ∷ ys) x =
    left_by y.body.last x.body.last _ _ (left_over [] ys) (left_over (begun ++ change_in y.body ∷ []) ys) (change_in x.body) (left_more [] ys x) (left_more (begun ++ change_in y.body ∷ []) ys x)

pub opened_last : (o : Option Placed) (x : Placed) → x.body.last ≡ true → opened_by o x ≡ None
opened_last None x last = ap (λ (t : Bool). cond t None (Some x)) last
opened_last (Some first) x last = ap (λ (t : Bool). cond t None (Some first)) last

-- a block that ends its group
pub knows_ended : (old new : Reading) (w : Walk) (x : Placed) (changes : List Change) (change : Change) → Knows old w → x.body.last ≡ true → change ≡ change_in x.body → changes ≡ old.begun ++ change ∷ []
    → new.groups ≡ old.groups ++ group_of x.body.number changes ∷ [] → new.begun ≡ [] → new.before ≡ Some x.body.number → new.open_group ≡ None → Knows new (walked w x)
knows_ended old new w x changes change knows last is all groups begun before open_group =
    let whole : changes ≡ left_over [] w.blocks ++ change_in x.body ∷ [] = all ∙ ap (λ (c : Change). old.begun ++ c ∷ []) is ∙ ap (λ (l : List Change). l ++ change_in x.body ∷ []) knows.begun in
    record {
      groups =
          groups ∙ ap (λ (l : List Group). l ++ group_of x.body.number changes ∷ []) knows.groups
          ∙ ap (λ (l : List Change). complete_groups [] w.blocks ++ group_of x.body.number l ∷ []) whole
          ∙ ap (λ (t : Bool). complete_groups [] w.blocks ++ cond t (group_of x.body.number (left_over [] w.blocks ++ change_in x.body ∷ []) ∷ []) []) (sym last)
          ∙ sym (groups_more [] w.blocks x);
      begun = begun ∙ ap (λ (t : Bool). cond t [] (left_over [] w.blocks ++ change_in x.body ∷ [])) (sym last) ∙ sym (left_more [] w.blocks x);
      least = rw (last, before) refl;
      open_group = open_group ∙ ap (option_map as_open) (sym (opened_last w.open_group x last));
    }

-- a block that doesn't
knows_more : (old new : Reading) (w : Walk) (x : Placed) (change : Change) → Knows old w → x.body.last ≡ false → change ≡ change_in x.body → new.begun ≡ old.begun ++ change ∷ [] → new.groups ≡ old.groups → new.before ≡ old.before
    → new.open_group ≡ option_map as_open (opened_by w.open_group x) → Knows new (walked w x)
knows_more old new w x change knows more is begun groups before open_group = record {
  groups =
      groups ∙ knows.groups ∙ sym (append-nil (complete_groups [] w.blocks))
      ∙ ap (λ (t : Bool). complete_groups [] w.blocks ++ cond t (group_of x.body.number (left_over [] w.blocks ++ change_in x.body ∷ []) ∷ []) []) (sym more)
      ∙ sym (groups_more [] w.blocks x);
  begun =
      begun ∙ ap (λ (c : Change). old.begun ++ c ∷ []) is ∙ ap (λ (l : List Change). l ++ change_in x.body ∷ []) knows.begun
      ∙ ap (λ (t : Bool). cond t [] (left_over [] w.blocks ++ change_in x.body ∷ [])) (sym more)
      ∙ sym (left_more [] w.blocks x);
  least = rw (more, before) knows.least;
  open_group = open_group;
}

pub opened_first : (o : Option Placed) (x : Placed) → x.body.last ≡ false → is_some (option_map as_open o) ≡ false → Some (as_open x) ≡ option_map as_open (opened_by o x)
opened_first None x more none = ap (λ (t : Bool). option_map as_open (cond t None (Some x))) (sym more)
opened_first (Some first) x more none = absurd (cc none)

pub opened_on : (o : Option Placed) (x : Placed) → x.body.last ≡ false → is_some (option_map as_open o) ≡ true → option_map as_open o ≡ option_map as_open (opened_by o x)
opened_on None x more some = absurd (cc some)
opened_on (Some first) x more some = ap (λ (t : Bool). option_map as_open (cond t None (Some first))) (sym more)

-- the first block of a group
pub knows_first : (old new : Reading) (w : Walk) (x : Placed) (change : Change) → Knows old w → x.body.last ≡ false → change ≡ change_in x.body → new.begun ≡ old.begun ++ change ∷ [] → new.groups ≡ old.groups → new.before ≡ old.before
    → is_some old.open_group ≡ false → new.open_group ≡ Some (as_open x) → Knows new (walked w x)
knows_first old new w x change knows more is begun groups before none open_group =
    knows_more old new w x change knows more is begun groups before (open_group ∙ opened_first w.open_group x more (ap is_some (sym knows.open_group) ∙ none))

-- another block of a group
pub knows_on : (old new : Reading) (w : Walk) (x : Placed) (change : Change) → Knows old w → x.body.last ≡ false → change ≡ change_in x.body → new.begun ≡ old.begun ++ change ∷ [] → new.groups ≡ old.groups → new.before ≡ old.before
    → is_some old.open_group ≡ true → new.open_group ≡ old.open_group → Knows new (walked w x)
knows_on old new w x change knows more is begun groups before some open_group =
    knows_more old new w x change knows more is begun groups before (open_group ∙ knows.open_group ∙ opened_on w.open_group x more (ap is_some (sym knows.open_group) ∙ some))

pub none_short : (place : ℕ) (bytes : List ℕ) → length bytes < 24 → NoneThere place bytes
none_short place bytes short = inr (ap (λ (l : List ℕ). body_at l place) (drop_all 24 bytes (omega arith)) ∙ no_body_there place)

rest_of : (place : ℕ) (f : List ℕ) → take (length f - place) (drop place f) ≡ drop place f
rest_of place f = take_all (length f - place) (drop place f) (omega (arith, length-drop place f))

pub value_small : (b : Body) → is_body b ≡ true → length b.value ≤ 33554431
value_small b is = grind (arith, nat_tests)

-- the slice from 24 on
pub behind_link : (place : ℕ) (bytes : List ℕ) (o : Option Body) → body_at (take (length bytes - 24) (drop 24 bytes)) place ≡ o → body_at (drop 24 bytes) place ≡ o
behind_link place bytes o is = ap (λ (l : List ℕ). body_at l place) (sym (rest_of 24 bytes)) ∙ is

none_behind : (o : Option ℕ) (w : Walk) (place : ℕ) (go : Walk → ℕ → Walk) → read_block w place o None go ≡ w
none_behind None w place go = refl
none_behind (Some e) w place go = refl

pub none_read : (n : ℕ) (w : Walk) (place : ℕ) (bytes : List ℕ) → NoneThere place bytes → read_on (suc n) w place bytes ≡ w
none_read n w place bytes none = elim none [
  | inl head ↦ ap (λ (o : Option ℕ). read_block w place o (body_at (drop 24 bytes) place) (λ v k. read_on n v (place + k) (drop k bytes))) head
  | inr body ↦
      ap (λ (o : Option Body). read_block w place (head_at bytes place) o (λ v k. read_on n v (place + k) (drop k bytes))) body
      ∙ none_behind (head_at bytes place) w place (λ v k. read_on n v (place + k) (drop k bytes))
]

pub refused : (n : ℕ) (w : Walk) (place e : ℕ) (bytes : List ℕ) (b : Body) → head_at bytes place ≡ Some e → body_at (drop 24 bytes) place ≡ Some b → may_be_read w e b ≡ false → read_on (suc n) w place bytes ≡ w
refused n w place e bytes b head body may =
    ap (λ (o : Option ℕ). read_block w place o (body_at (drop 24 bytes) place) (λ v k. read_on n v (place + k) (drop k bytes))) head
    ∙ ap (λ (o : Option Body). read_block w place (Some e) o (λ v k. read_on n v (place + k) (drop k bytes))) body
    ∙ ap (λ (t : Bool). cond t (read_on n (walked w (record { place = place; extent = e; body = b })) (place + e) (drop e bytes)) w) may

-- the reading ends where no block is read
stops : (most : ℕ) (h : StaticHead) (f : List ℕ) (place : ℕ) (reading : Reading) (w : Walk) → place < length f → Knows reading w → length f ≤ place + most → (read_on most w place (drop place f)).blocks ≡ read_blocks h f
    → ((n : ℕ) → read_on (suc n) w place (drop place f) ≡ w) → ReadUpto h f (length f) reading
stops zero h f place reading w here knows enough rest still = absurd (omega (arith, enough, here))
stops (suc n) h f place reading w here knows enough rest still = record {
  w = w;
  most = 0;
  knows = knows;
  enough = omega arith;
  rest = sym (ap (λ (v : Walk). v.blocks) (still n)) ∙ rest;
}

pub stops_none : (h : StaticHead) (f : List ℕ) (place : ℕ) (reading : Reading) → place < length f → NoneThere place (take (length f - place) (drop place f)) → ReadUpto h f place reading → ReadUpto h f (length f) reading
stops_none h f place reading here none upto =
    stops upto.most h f place reading upto.w here upto.knows upto.enough upto.rest (λ n. none_read n upto.w place (drop place f) (subst (NoneThere place) (rest_of place f) none))

pub stops_refused : (h : StaticHead) (f : List ℕ) (place : ℕ) (reading : Reading) (s : Standing) → place < length f → IsThere place (take (length f - place) (drop place f)) s
    → ((w : Walk) → Knows reading w → may_be_read w s.extent (body_said s.block) ≡ false) → ReadUpto h f place reading → ReadUpto h f (length f) reading
stops_refused h f place reading s here block may upto =
    let at : IsThere place (drop place f) s = subst (λ (l : List ℕ). IsThere place l s) (rest_of place f) block in
    stops upto.most h f place reading upto.w here upto.knows upto.enough upto.rest (λ n. refused n upto.w place s.extent (drop place f) (body_said s.block) at.head at.body (may upto.w upto.knows))

pub extent_valid : (e : ℕ) → FitsExtent e → 0 < e
extent_valid e fits = grind (arith, nat_tests)

pub extent_some : (place e : ℕ) (bytes : List ℕ) → head_at bytes place ≡ Some e → 0 < e
extent_some place e bytes head = extent_valid e ((heads place).found bytes e head).0

-- the reading goes on behind a block
goes_on : (most : ℕ) (h : StaticHead) (f : List ℕ) (place e next : ℕ) (b : Body) (new : Reading) (w : Walk) → place < length f → length f ≤ place + most → (read_on most w place (drop place f)).blocks ≡ read_blocks h f
    → head_at (drop place f) place ≡ Some e → body_at (drop 24 (drop place f)) place ≡ Some b → may_be_read w e b ≡ true → Knows new (walked w (record { place = place; extent = e; body = b })) → next ≡ place + min e (length f - place)
    → ReadUpto h f next new
goes_on zero h f place e next b new w here enough rest head body may knows is = absurd (omega (arith, enough, here))
goes_on (suc n) h f place e next b new w here enough rest head body may knows is =
    let x : Placed = record { place = place; extent = e; body = b } in
    let on = block_on n w place e (drop place f) b head body may in
    elim (cases_lt e (length f - place)) [
      | inl below ↦
          let at : place + e ≡ next = omega (arith, below, is) in
          record {
            w = walked w x;
            most = n;
            knows = knows;
            enough = omega (arith, enough, at, extent_some place e (drop place f) head);
            rest =
                ap (λ (v : Walk). v.blocks)
                (ap (λ (k : ℕ). read_on n (walked w x) k (drop k f)) (sym at) ∙ ap (λ (l : List ℕ). read_on n (walked w x) (place + e) l) (sym (drop-drop e place f)) ∙ sym on)
                ∙ rest;
          }
      | inr past ↦ record {
        w = walked w x;
        most = 0;
        knows = knows;
        enough = omega (arith, past, is);
        rest =
            ap (λ (v : Walk). v.blocks)
            (sym (nothing_read n (walked w x) (place + e)) ∙ ap (λ (l : List ℕ). read_on n (walked w x) (place + e) l) (sym (drop_all e (drop place f) (omega (arith, past, length-drop place f)))) ∙ sym on)
            ∙ rest;
      }
    ]

pub reads_on : (h : StaticHead) (f : List ℕ) (place next : ℕ) (old new : Reading) (s : Standing) → place < length f → IsThere place (take (length f - place) (drop place f)) s
    → ((w : Walk) → Knows old w → may_be_read w s.extent (body_said s.block) ≡ true) → ((w : Walk) → Knows old w → Knows new (walked w (record { place = place; extent = s.extent; body = body_said s.block })))
    → next ≡ place + min s.extent (length f - place) → ReadUpto h f place old → ReadUpto h f next new
reads_on h f place next old new s here block may more is upto =
    let at : IsThere place (drop place f) s = subst (λ (l : List ℕ). IsThere place l s) (rest_of place f) block in
    goes_on upto.most h f place s.extent next (body_said s.block) new upto.w here upto.enough upto.rest at.head at.body (may upto.w upto.knows) (more upto.w upto.knows) is

pub upto_first : (h : StaticHead) (f : List ℕ) (place : ℕ) (reading : Reading) → place ≡ base_of h.p → Knows reading begin → ReadUpto h f place reading
unfolding read_blocks
upto_first h f place reading is knows = record {
  w = begin;
  most = length f;
  knows = knows;
  enough = omega arith;
  rest = ap (λ (k : ℕ). (read_on (length f) begin k (drop k f)).blocks) is;
}

pub upto_end : (h : StaticHead) (f : List ℕ) (place : ℕ) (reading : Reading) → ReadUpto h f place reading → length f ≤ place → reading.groups ≡ groups_in h f
unfolding groups_in
upto_end h f place reading upto past =
    upto.knows.groups
    ∙ ap (λ (v : Walk). complete_groups [] v.blocks) (sym (nothing_read upto.most upto.w place) ∙ ap (λ (l : List ℕ). read_on upto.most upto.w place l) (sym (drop_all place f past)))
    ∙ ap (λ (l : List Placed). complete_groups [] l) upto.rest
