-- A walk over blocks, block by block.
use Rattle.std.proofs.Common.{◌≡◌, ℕ, suc, ◌+◌, ◌-◌, ◌<◌, ◌≤◌, true, false, cond, List, [], ◌∷◌, ◌++◌, length, get_or, take, drop, refl, sym, ◌∙◌, ap, subst, arith}
use Rattle.std.specs.Prelude.{Option, Some, None, option_map, map, ◌==◌, not, nat_le}
use Rattle.std.proofs.lemmas.List.{drop_all, take_all, length-drop}
use Rattle.std.proofs.lemmas.Bool.{eq-eqb, eqb-true, leb-true}
use Rattle.tk_model.specs.declared.error.OpenError.TheVariants.{BrokenAt}
use Rattle.tk_block.specs.Layout.{placed, Placed, link_of}
use Rattle.tk_block.specs.Number.{u64_in}
use Rattle.tk_append.specs.declared.walker.FoundBlock.{FoundBlock}
use Rattle.tk_append.specs.declared.walker.Walker.{Walker}
use Rattle.tk_model.specs.Records.{after, after_one}
use Rattle.tk_model.specs.declared.record.Order.TheVariants.{Hash}
use Rattle.tk_model.specs.declared.record.Pair.{Pair}
use Rattle.std.proofs.lemmas.Bool.Decides.{nat_tests}
use Rattle.tk_model.specs.declared.record.ShardOf.{ShardOf}
use Rattle.tk_block.specs.declared.block.Body.{Body}
use Rattle.tk_block.specs.declared.head.StaticHead.{StaticHead}
use Rattle.tk_block.specs.Text.{head_at}
use Rattle.tk_block.proofs.Bodies.{two_true}
use Rattle.tk_block.proofs.BodyGrammar.{bodies}
use Rattle.tk_block.specs.Blocks.{body_said, extent_of, body_at, check_in, is_body}
use Rattle.tk_append.specs.Opening.{Walk, Outcome, FailsAt, Ends, walk_on, walk_block, walked, may_stand, is_padded, is_in_turn, is_in_its_shard, change_in, records_in, opened_by}
use Rattle.tk_append.specs.Keys.{HasKeys}
use Rattle.tk_append.specs.Walked.{HasNone, HasBlock, MayFollow, Fails, IsAt, NewestIn, IsOfKind, Passed, least_behind, as_open}

no_body : (place : ℕ) → body_at [] place ≡ None
unfolding body_at
no_body place =
    let short : nat_le (check_in [] + 4) 0 ≡ false = grind (arith, nat_tests) in
    rw short refl

none_after : (o : Option ℕ) (h : StaticHead) (shard : ShardOf) (w : Walk) (place : ℕ) (bytes : List ℕ) (go : Walk → ℕ → Outcome) → walk_block h shard w place bytes o None go ≡ FailsAt place
none_after None h shard w place bytes go = refl
none_after (Some e) h shard w place bytes go = refl

pub none_body : (place : ℕ) (bytes : List ℕ) → body_at (drop 24 bytes) place ≡ None → HasNone place bytes
none_body place bytes is h shard w go = ap (λ (b : Option Body). walk_block h shard w place bytes (head_at bytes place) b go) is ∙ none_after (head_at bytes place) h shard w place bytes go

pub none_head : (place : ℕ) (bytes : List ℕ) → head_at bytes place ≡ None → HasNone place bytes
none_head place bytes is h shard w go = ap (λ (o : Option ℕ). walk_block h shard w place bytes o (body_at (drop 24 bytes) place) go) is

pub none_short : (place : ℕ) (bytes : List ℕ) → length bytes < 24 → HasNone place bytes
none_short place bytes short = none_body place bytes (ap (λ (l : List ℕ). body_at l place) (drop_all 24 bytes (omega arith)) ∙ no_body place)

-- what a block that may stand meets
pub record Stood (h : StaticHead) (shard : ShardOf) (w : Walk) (bytes : List ℕ) (extent : ℕ) (b : Body) : Type 0 where
  pub within : extent ≤ length bytes
  pub is_least : extent ≡ extent_of b
  pub least : 48 ≤ extent
  pub other : not (b.kind == 3) ≡ true
  pub padding : is_padded bytes extent b ≡ true
  pub turn : is_in_turn w.least w.open_group b ≡ true
  pub in_its_shard : is_in_its_shard h shard b ≡ true

pub stood : (h : StaticHead) (shard : ShardOf) (w : Walk) (bytes : List ℕ) (extent : ℕ) (b : Body) → may_stand h shard w bytes extent b ≡ true → Stood h shard w bytes extent b
stood h shard w bytes extent b stands =
    let t1 = two_true _ _ stands in
    let t2 = two_true _ _ t1.0 in
    let t3 = two_true _ _ t2.0 in
    let t4 = two_true _ _ t3.0 in
    let t5 = two_true _ _ t4.0 in
    let is : extent ≡ extent_of b = eqb-true _ _ t5.1 in
    record {
      within = leb-true _ _ t5.0;
      is_least = is;
      least = omega (arith, is);
      other = t4.1;
      padding = t3.1;
      turn = t2.1;
      in_its_shard = t1.1;
    }

pub value_small : (b : Body) → is_body b ≡ true → length b.value ≤ 33554431
value_small b is = grind (arith, nat_tests)

-- the slice from 24 on
pub behind_link : (place : ℕ) (bytes : List ℕ) (o : Option Body) → body_at (take (length bytes - 24) (drop 24 bytes)) place ≡ o → body_at (drop 24 bytes) place ≡ o
behind_link place bytes o is = ap (λ (l : List ℕ). body_at l place) (sym (take_all (length bytes - 24) (drop 24 bytes) (omega (arith, length-drop 24 bytes)))) ∙ is

pub fails_head : (place : ℕ) (bytes : List ℕ) → HasNone place bytes → (h : StaticHead) (shard : ShardOf) (w : Walk) → Fails h shard w place bytes (BrokenAt place)
fails_head place bytes none h shard w go = none h shard w go

block_is : (h : StaticHead) (shard : ShardOf) (w : Walk) (place e : ℕ) (bytes : List ℕ) (b : Body) (go : Walk → ℕ → Outcome) → head_at bytes place ≡ Some e → body_at (drop 24 bytes) place ≡ Some b
    → walk_block h shard w place bytes (head_at bytes place) (body_at (drop 24 bytes) place) go ≡ walk_block h shard w place bytes (Some e) (Some b) go
block_is h shard w place e bytes b go head body =
    ap (λ (o : Option ℕ). walk_block h shard w place bytes o (body_at (drop 24 bytes) place) go) head ∙ ap (λ (o : Option Body). walk_block h shard w place bytes (Some e) o go) body

-- a block that may not stand there
pub fails_stand : (h : StaticHead) (shard : ShardOf) (w : Walk) (place : ℕ) (bytes : List ℕ) (s : FoundBlock) → HasBlock place bytes s → may_stand h shard w bytes s.extent (body_said s.block) ≡ false
    → Fails h shard w place bytes (BrokenAt place)
fails_stand h shard w place bytes s has not_so go =
    block_is h shard w place s.extent bytes (body_said s.block) go has.head has.body ∙ rw not_so refl

-- a block with another link
pub fails_link : (h : StaticHead) (shard : ShardOf) (w : Walk) (place : ℕ) (bytes : List ℕ) (s : FoundBlock) → HasBlock place bytes s → may_stand h shard w bytes s.extent (body_said s.block) ≡ true
    → (u64_in bytes 16 == link_of h.p w.blocks (body_said s.block)) ≡ false → Fails h shard w place bytes (BrokenAt (place + 16))
fails_link h shard w place bytes s has so other go =
    block_is h shard w place s.extent bytes (body_said s.block) go has.head has.body ∙ rw (so, other) refl

-- a block that follows
pub goes_on : (h : StaticHead) (shard : ShardOf) (w : Walk) (place e : ℕ) (bytes : List ℕ) (b : Body) (go : Walk → ℕ → Outcome) → MayFollow h shard w place bytes e b
    → walk_block h shard w place bytes (head_at bytes place) (body_at (drop 24 bytes) place) go ≡ go (walked w (placed place b)) e
goes_on h shard w place e bytes b go f =
    block_is h shard w place e bytes b go f.head f.body ∙ rw (f.stands, eq-eqb _ _ f.linked) refl

after_more : (blocks : List Placed) (x : Placed) (m : List Pair) → after Hash (map (λ (y : Placed). change_in y.body) (blocks ++ x ∷ [])) m ≡ after_one Hash (change_in x.body) (after Hash (map (λ (y : Placed). change_in y.body) blocks) m)
after_more [] x m = refl
after_more (y ∷ ys) x m = after_more ys x (after_one Hash (change_in y.body) m)

-- the records with one block more
pub records_more : (blocks : List Placed) (x : Placed) → records_in (blocks ++ x ∷ []) ≡ after_one Hash (change_in x.body) (records_in blocks)
records_more blocks x = after_more blocks x []

-- the walker behind one block more
pub walked_on : (p place next : ℕ) (old headed new : Walker) (w : Walk) (b : Body)
    → IsAt p place old w → HasKeys new.keys (after_one Hash (change_in b) (records_in w.blocks))
    → NewestIn p next headed.heads.items headed.cleared (w.blocks ++ placed place b ∷ []) → headed.before ≡ old.before → headed.open_group ≡ old.open_group
    → new.heads.items ≡ headed.heads.items → new.cleared ≡ headed.cleared
    → ((least : ℕ) → least ≡ least_behind headed.before → cond b.last (b.number + 1) least ≡ least_behind new.before)
    → ((first : Option Placed) → headed.open_group ≡ option_map as_open first → new.open_group ≡ option_map as_open (opened_by first (placed place b)))
    → IsAt p next new (walked w (placed place b))
walked_on p place next old headed new w b at keys heads before open_group items cleared least first = record {
  heads = subst (λ (l : List ℕ). NewestIn p next l new.cleared (w.blocks ++ placed place b ∷ [])) (sym items)
      (subst (λ (n : ℕ). NewestIn p next headed.heads.items n (w.blocks ++ placed place b ∷ [])) (sym cleared) heads);
  keys = subst (λ (l : List Pair). HasKeys new.keys l) (sym (records_more w.blocks (placed place b))) keys;
  least = least w.least (at.least ∙ ap least_behind (sym before));
  open_group = first w.open_group (open_group ∙ at.open_group);
}

kinds_left : (b : Body) → is_body b ≡ true → not (b.kind == 3) ≡ true → IsOfKind b
kinds_left b valid other = grind (arith, nat_tests)

pub of_kind : (bytes : List ℕ) (extent : ℕ) (h : StaticHead) (shard : ShardOf) (w : Walk) (b : Body) → is_body b ≡ true → may_stand h shard w bytes extent b ≡ true → IsOfKind b
of_kind bytes extent h shard w b valid stands = kinds_left b valid (stood h shard w bytes extent b stands).other

-- the block is passed
pub passed : (h : StaticHead) (shard : ShardOf) (w : Walk) (place e : ℕ) (bytes : List ℕ) (b : Body) (walker : Walker) → ((i : ℕ) → get_or bytes i 0 < 256) → MayFollow h shard w place bytes e b
    → ((next : ℕ) → IsOfKind b → place < next → IsAt h.p next walker (walked w (placed place b))) → Passed h shard w place bytes e walker
passed h shard w place e bytes b walker small follows at =
    let s = stood h shard w bytes e b follows.stands in
    let fits = ((bodies place).found (drop 24 bytes) b follows.body).0 in
    record {
      body = b;
      follows = follows;
      at = at (place + e) (of_kind bytes e h shard w b fits.0 follows.stands) (omega (arith, s.least));
      some = omega (arith, s.least);
      within = s.within;
      small = small;
    }

pub walk_next : (n : ℕ) (h : StaticHead) (shard : ShardOf) (w : Walk) (place : ℕ) (bytes : List ℕ) → 0 < length bytes
    → walk_on (suc n) h shard w place bytes ≡ walk_block h shard w place bytes (head_at bytes place) (body_at (drop 24 bytes) place) (λ v e. walk_on n h shard v (place + e) (drop e bytes))
walk_next n h shard w place [] some = absurd (omega arith)
walk_next n h shard w place (x ∷ xs) some = refl

pub walk_end : (n : ℕ) (h : StaticHead) (shard : ShardOf) (w : Walk) (place : ℕ) (bytes : List ℕ) → bytes ≡ [] → walk_on n h shard w place bytes ≡ Ends w
walk_end n h shard w place [] is = refl
walk_end n h shard w place (x ∷ xs) is = absurd (cc is)
