-- The reading of an image, block by block.
use Rattle.std.proofs.Common.{◌≡◌, ℕ, zero, suc, ◌+◌, ◌-◌, ◌<◌, ◌≤◌, min, Bool, true, false, List, [], ◌++◌, length, take, drop, refl, sym, ◌∙◌, ap, arith, append_assoc, inl, inr, if◌then◌else◌}
use Rattle.std.specs.Prelude.{Option, Some, None, nat_le}
use Rattle.std.proofs.lemmas.Bool.{cases_lt}
use Rattle.std.proofs.lemmas.Bool.Decides.{nat_tests}
use Rattle.std.proofs.lemmas.List.{append-nil, take_all, drop_all, length-drop, drop-drop}
use Rattle.tk_block.specs.Text.{head_at, base_of}
use Rattle.tk_block.specs.Blocks.{body_at, room_of}
use Rattle.tk_block.specs.Layout.{Placed}
use Rattle.tk_block.specs.declared.block.Body.{Body}
use Rattle.tk_block.specs.declared.head.StaticHead.{StaticHead}
use Rattle.tk_append.proofs.Restoring.{no_body_there}
use Rattle.tk_update.specs.Restored.{inside, seen_here, seen_from, seen_in, valid_here, valid_blocks, blocks_in}
use Rattle.tk_update.specs.Reread.{ReadTo}
use Rattle.tk_update.proofs.FairSteps.{extent_least}
use Rattle.tk_update.proofs.SpelledSteps.{read_end}

pub none_short : (extent place : ℕ) (bytes : List ℕ) → length bytes < 24 → None ≡ inside extent (body_at (drop 24 bytes) place)
none_short extent place bytes short = sym (ap (inside extent) (ap (λ (l : List ℕ). body_at l place) (drop_all 24 bytes (omega arith)) ∙ no_body_there place))

pub inside_so : (extent room : ℕ) (b : Body) (o : Option Body) → o ≡ Some b → room ≡ room_of b → room ≤ extent → Some b ≡ inside extent o
inside_so extent room b o is same le =
    let fits : nat_le (room_of b) extent ≡ true = grind (arith, nat_tests, same, le) in
    sym (ap (inside extent) is ∙ ap (λ (t : Bool). if t then Some b else None) fits)

pub inside_not : (extent room : ℕ) (b : Body) (o : Option Body) → o ≡ Some b → room ≡ room_of b → extent < room → None ≡ inside extent o
inside_not extent room b o is same le =
    let fits : nat_le (room_of b) extent ≡ false = grind (arith, nat_tests, same, le) in
    sym (ap (inside extent) is ∙ ap (λ (t : Bool). if t then Some b else None) fits)

pub rest_of : (place : ℕ) (f : List ℕ) → take (length f - place) (drop place f) ≡ drop place f
rest_of place f = take_all (length f - place) (drop place f) (omega (arith, length-drop place f))

-- the body behind the rest from a place on
pub body_behind_rest : (place e : ℕ) (f : List ℕ) (o : Option Body) → o ≡ inside e (body_at (drop 24 (take (length f - place) (drop place f))) place) → inside e (body_at (drop (place + 24) f) place) ≡ o
body_behind_rest place e f o is = sym (is ∙ ap (λ (l : List ℕ). inside e (body_at l place)) (ap (λ (l : List ℕ). drop 24 l) (rest_of place f) ∙ drop-drop 24 place f))

one_more : (o : Option Body) (q e : ℕ) (more : List Placed) → valid_here o q e more ≡ valid_here o q e [] ++ more
one_more None q e more = refl
one_more (Some b) q e more = refl

seen_on : (n q e : ℕ) (f : List ℕ) → head_at (drop q f) q ≡ Some e → valid_blocks (seen_from (suc n) q f) ≡ valid_here (inside e (body_at (drop (q + 24) f) q)) q e [] ++ valid_blocks (seen_from n (q + e) f)
seen_on n q e f head =
    ap (λ (o : Option ℕ). valid_blocks (seen_here o q (body_at (drop (q + 24) f) q) (λ k. seen_from n (q + k) f))) head
    ∙ one_more (inside e (body_at (drop (q + 24) f) q)) q e (valid_blocks (seen_from n (q + e) f))

goes_on : (most : ℕ) (h : StaticHead) (f : List ℕ) (place e next : ℕ) (old new : List Placed) → place < length f → length f ≤ place + most → old ++ valid_blocks (seen_from most place f) ≡ blocks_in h f
    → head_at (drop place f) place ≡ Some e → next ≡ place + min e (length f - place) → new ≡ old ++ valid_here (inside e (body_at (drop (place + 24) f) place)) place e [] → ReadTo h f next new
goes_on zero h f place e next old new here enough rest head is more = absurd (omega (arith, enough, here))
goes_on (suc n) h f place e next old new here enough rest head is more =
    let behind : new ++ valid_blocks (seen_from n (place + e) f) ≡ blocks_in h f =
    ap (λ (l : List Placed). l ++ valid_blocks (seen_from n (place + e) f)) more
    ∙ append_assoc old (valid_here (inside e (body_at (drop (place + 24) f) place)) place e []) (valid_blocks (seen_from n (place + e) f))
    ∙ ap (λ (l : List Placed). old ++ l) (sym (seen_on n place e f head))
    ∙ rest in
    elim (cases_lt e (length f - place)) [
      | inl below ↦
          let at : next ≡ place + e = omega (arith, below, is) in
          record {
            most = n;
            enough = omega (arith, enough, at, extent_least (drop place f) place e head);
            rest = ap (λ (k : ℕ). new ++ valid_blocks (seen_from n k f)) at ∙ behind;
          }
      | inr past ↦ record {
        most = 0;
        enough = omega (arith, past, is);
        rest = ap (λ (l : List Placed). new ++ l) (sym (read_end n (place + e) f (omega (arith, past)))) ∙ behind;
      }
    ]

pub reads_on : (h : StaticHead) (f : List ℕ) (place e next : ℕ) (old new : List Placed) → place < length f → head_at (take (length f - place) (drop place f)) place ≡ Some e → next ≡ place + min e (length f - place)
    → new ≡ old ++ valid_here (inside e (body_at (drop (place + 24) f) place)) place e [] → ReadTo h f place old → ReadTo h f next new
reads_on h f place e next old new here head is more upto = goes_on upto.most h f place e next old new here upto.enough upto.rest (ap (λ (l : List ℕ). head_at l place) (sym (rest_of place f)) ∙ head) is more

stops_by : (most : ℕ) (h : StaticHead) (f : List ℕ) (place : ℕ) (blocks : List Placed) → place < length f → length f ≤ place + most → blocks ++ valid_blocks (seen_from most place f) ≡ blocks_in h f → head_at (drop place f) place ≡ None → ReadTo h f (length f) blocks
stops_by zero h f place blocks here enough rest none = absurd (omega (arith, enough, here))
stops_by (suc n) h f place blocks here enough rest none = record {
  most = 0;
  enough = omega arith;
  rest = ap (λ (o : Option ℕ). blocks ++ valid_blocks (seen_here o place (body_at (drop (place + 24) f) place) (λ k. seen_from n (place + k) f))) (sym none) ∙ rest;
}

-- where no head is the reading ends
pub stops : (h : StaticHead) (f : List ℕ) (place : ℕ) (blocks : List Placed) → place < length f → head_at (take (length f - place) (drop place f)) place ≡ None → ReadTo h f place blocks → ReadTo h f (length f) blocks
stops h f place blocks here none upto = stops_by upto.most h f place blocks here upto.enough upto.rest (ap (λ (l : List ℕ). head_at l place) (sym (rest_of place f)) ∙ none)

pub read_first : (h : StaticHead) (f : List ℕ) (place : ℕ) (blocks : List Placed) → place ≡ base_of h.p → blocks ≡ [] → ReadTo h f place blocks
unfolding seen_in
read_first h f place blocks is none = record {
  most = length f;
  enough = omega arith;
  rest = ap (λ (l : List Placed). l ++ valid_blocks (seen_from (length f) place f)) none ∙ ap (λ (k : ℕ). valid_blocks (seen_from (length f) k f)) is;
}

pub read_whole : (h : StaticHead) (f : List ℕ) (place : ℕ) (blocks : List Placed) → length f ≤ place → ReadTo h f place blocks → blocks ≡ blocks_in h f
read_whole h f place blocks past upto = sym (append-nil blocks) ∙ ap (λ (l : List Placed). blocks ++ l) (sym (read_end upto.most place f past)) ∙ upto.rest
