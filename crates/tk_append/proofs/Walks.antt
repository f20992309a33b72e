-- A file whose walk ends is the file of some groups.
use Rattle.std.proofs.Common.{◌≡◌, ℕ, zero, suc, ◌+◌, ◌-◌, ◌<◌, ◌≤◌, Bool, true, false, cond, List, [], ◌∷◌, ◌++◌, length, get_or, take, drop, refl, sym, ◌∙◌, ap, subst, arith, append_assoc}
use Rattle.std.specs.Prelude.{Option, Some, None, replicate, ◌==◌}
use Rattle.std.specs.Str.{bytes_eq}
use Rattle.std.proofs.lemmas.Slice.Eq.{bytes_eq-Decides}
use Rattle.std.proofs.lemmas.Bool.{eqb-true}
use Rattle.std.proofs.lemmas.List.{append-nil, take-append-drop, get_or-drop, length-drop}
use Rattle.tk_model.specs.declared.record.ShardOf.{ShardOf}
use Rattle.tk_block.specs.declared.block.Body.{Body}
use Rattle.tk_block.specs.declared.head.StaticHead.{StaticHead}
use Rattle.tk_block.specs.Number.{u64_in}
use Rattle.tk_block.specs.Text.{head_at, base_of}
use Rattle.tk_block.specs.Blocks.{body_at, block_text, extent_of, room_of}
use Rattle.tk_block.specs.Layout.{placed, Placed, laid, end_of, texts, links_of, link_of}
use Rattle.tk_block.proofs.BodyGrammar.{bodies}
use Rattle.tk_block.proofs.BlockReads.{block_spelled}
use Rattle.tk_block.proofs.Layouts.{laid-append, end_of-append, links_of-append, texts-append-both, length-links_of}
use Rattle.tk_append.specs.Opening.{Walk, Outcome, FailsAt, Ends, begin, walk, walk_on, walk_block, walked, may_stand, is_in_its_shard}
use Rattle.tk_append.specs.Walked.{MayFollow}
use Rattle.tk_append.proofs.WalkerSteps.{stood, of_kind}
use Rattle.tk_append.proofs.Groupings.{Parted, parted_more}

abbrev pub AreBytes : List ℕ → Type 0
AreBytes f = (i : ℕ) → get_or f i 0 < 256

pub bytes_drop : (n : ℕ) (f : List ℕ) → AreBytes f → AreBytes (drop n f)
bytes_drop n f are i = rw (get_or-drop n f i 0) (are (n + i))

-- the keys of these bodies belong to this file of a set
abbrev pub AllBodiesInShard : StaticHead → ShardOf → List Body → Type 0
AllBodiesInShard h shard [] = Unit {0}
AllBodiesInShard h shard (b ∷ bs) = (is_in_its_shard h shard b ≡ true) × AllBodiesInShard h shard bs

home_more : (h : StaticHead) (shard : ShardOf) (bs : List Body) (b : Body) → AllBodiesInShard h shard bs → is_in_its_shard h shard b ≡ true → AllBodiesInShard h shard (bs ++ b ∷ [])
home_more h shard [] b all one = (one, tt)
home_more h shard (c ∷ bs) b all one = (all.0, home_more h shard bs b all.1 one)

-- the blocks so far are those of groups and a part of one more, and their text is the front
pub record Grouped (h : StaticHead) (shard : ShardOf) (place : ℕ) (front : List ℕ) (w : Walk) : Type 0 where
  pub bodies : List Body
  pub blocks : w.blocks ≡ laid (base_of h.p) bodies
  pub end : place ≡ end_of (base_of h.p) bodies
  pub text : front ≡ texts w.blocks (links_of h.p [] w.blocks)
  pub parted : Parted bodies w.least w.open_group
  pub in_its_shard : AllBodiesInShard h shard bodies

-- the text of a block that follows
follows_text : (h : StaticHead) (shard : ShardOf) (w : Walk) (place e : ℕ) (bytes : List ℕ) (b : Body) → AreBytes bytes → MayFollow h shard w place bytes e b → take e bytes ≡ block_text b place (link_of h.p w.blocks b)
follows_text h shard w place e bytes b are f =
    let s = stood h shard w bytes e b f.stands in
    let padding : take (extent_of b - room_of b) (drop (room_of b) bytes) ≡ replicate (extent_of b - room_of b) 0 =
    (bytes_eq-Decides _ _).0 (subst (λ (n : ℕ). bytes_eq (take (n - room_of b) (drop (room_of b) bytes)) (replicate (n - room_of b) 0) ≡ true) s.is_least s.padding) in
    ap (λ (n : ℕ). take n bytes) s.is_least
    ∙ block_spelled bytes place b are (f.head ∙ ap (λ (n : ℕ). Some n) s.is_least) f.body padding
    ∙ ap (λ (n : ℕ). block_text b place n) f.linked

-- the text of blocks with one more
texts_more : (p : ℕ) (blocks : List Placed) (x : Placed) → texts (blocks ++ x ∷ []) (links_of p [] (blocks ++ x ∷ [])) ≡ texts blocks (links_of p [] blocks) ++ block_text x.body x.place (link_of p blocks x.body)
texts_more p blocks x =
    ap (λ (l : List ℕ). texts (blocks ++ x ∷ []) l) (links_of-append p [] blocks (x ∷ []))
    ∙ texts-append-both blocks (x ∷ []) (links_of p [] blocks) (link_of p blocks x.body ∷ []) (length-links_of p [] blocks)
    ∙ ap (λ (l : List ℕ). texts blocks (links_of p [] blocks) ++ l) (append-nil (block_text x.body x.place (link_of p blocks x.body)))

-- one block more
grouped_more : (h : StaticHead) (shard : ShardOf) (w : Walk) (place e : ℕ) (front bytes : List ℕ) (b : Body) → AreBytes bytes → MayFollow h shard w place bytes e b → Grouped h shard place front w
    → Grouped h shard (place + e) (front ++ take e bytes) (walked w (placed place b))
grouped_more h shard w place e front bytes b are f g =
    let s = stood h shard w bytes e b f.stands in
    let fits = ((bodies place).found (drop 24 bytes) b f.body).0 in
    let x : Placed = placed place b in
    record {
      bodies = g.bodies ++ b ∷ [];
      blocks =
          ap (λ (l : List Placed). l ++ x ∷ []) g.blocks
          ∙ ap (λ (n : ℕ). laid (base_of h.p) g.bodies ++ placed n b ∷ []) g.end
          ∙ sym (laid-append (base_of h.p) g.bodies (b ∷ []));
      end = ap (λ (n : ℕ). place + n) s.is_least ∙ ap (λ (n : ℕ). n + extent_of b) g.end ∙ sym (end_of-append (base_of h.p) g.bodies (b ∷ []));
      text =
          ap (λ (l : List ℕ). l ++ take e bytes) g.text
          ∙ ap (λ (l : List ℕ). texts w.blocks (links_of h.p [] w.blocks) ++ l) (follows_text h shard w place e bytes b are f)
          ∙ sym (texts_more h.p w.blocks x);
      parted = parted_more g.bodies w.least w.open_group b place g.parted fits (of_kind bytes e h shard w b fits.0 f.stands) s.turn;
      in_its_shard = home_more h shard g.bodies b g.in_its_shard s.in_its_shard;
    }

-- where a walk ends behind a block, the block follows
record GoesOn (h : StaticHead) (shard : ShardOf) (w : Walk) (place : ℕ) (bytes : List ℕ) (go : Walk → ℕ → Outcome) (v : Walk) : Type 0 where
  extent : ℕ
  body : Body
  follows : MayFollow h shard w place bytes extent body
  rest : go (walked w (placed place body)) extent ≡ Ends v

linked_on : (t : Bool) (h : StaticHead) (shard : ShardOf) (w : Walk) (place e : ℕ) (bytes : List ℕ) (b : Body) (go : Walk → ℕ → Outcome) (v : Walk) → head_at bytes place ≡ Some e → body_at (drop 24 bytes) place ≡ Some b
    → may_stand h shard w bytes e b ≡ true → (u64_in bytes 16 == link_of h.p w.blocks b) ≡ t
    → cond t (go (walked w (placed place b)) e) (FailsAt (place + 16)) ≡ Ends v → GoesOn h shard w place bytes go v
linked_on true h shard w place e bytes b go v head body stands is ends = record {
  extent = e;
  body = b;
  follows = record { head = head; body = body; stands = stands; linked = eqb-true _ _ is };
  rest = ends;
}
linked_on false h shard w place e bytes b go v head body stands is ends = absurd (cc ends)

stood_on : (t : Bool) (h : StaticHead) (shard : ShardOf) (w : Walk) (place e : ℕ) (bytes : List ℕ) (b : Body) (go : Walk → ℕ → Outcome) (v : Walk) → head_at bytes place ≡ Some e → body_at (drop 24 bytes) place ≡ Some b
    → may_stand h shard w bytes e b ≡ t
    → cond t (cond (u64_in bytes 16 == link_of h.p w.blocks b) (go (walked w (placed place b)) e) (FailsAt (place + 16))) (FailsAt place) ≡ Ends v → GoesOn h shard w place bytes go v
stood_on true h shard w place e bytes b go v head body is ends = linked_on (u64_in bytes 16 == link_of h.p w.blocks b) h shard w place e bytes b go v head body is refl ends
stood_on false h shard w place e bytes b go v head body is ends = absurd (cc ends)

block_on : (o : Option ℕ) (ob : Option Body) (h : StaticHead) (shard : ShardOf) (w : Walk) (place : ℕ) (bytes : List ℕ) (go : Walk → ℕ → Outcome) (v : Walk) → head_at bytes place ≡ o → body_at (drop 24 bytes) place ≡ ob
    → walk_block h shard w place bytes o ob go ≡ Ends v → GoesOn h shard w place bytes go v
block_on None ob h shard w place bytes go v head body ends = absurd (cc ends)
block_on (Some e) None h shard w place bytes go v head body ends = absurd (cc ends)
block_on (Some e) (Some b) h shard w place bytes go v head body ends = stood_on (may_stand h shard w bytes e b) h shard w place e bytes b go v head body refl ends

ended : (w v : Walk) → Ends w ≡ Ends v → w ≡ v
ended w v is = cc is

-- a walk that ends
pub walk_grouped : (n : ℕ) (h : StaticHead) (shard : ShardOf) (w : Walk) (place : ℕ) (front bytes : List ℕ) (v : Walk) → AreBytes bytes → walk_on n h shard w place bytes ≡ Ends v → Grouped h shard place front w
    → Grouped h shard (place + length bytes) (front ++ bytes) v
walk_grouped n h shard w place front [] v are ends g =
    subst (λ (k : ℕ). Grouped h shard k (front ++ []) v) (omega arith)
    (subst (λ (l : List ℕ). Grouped h shard place l v) (sym (append-nil front)) (subst (Grouped h shard place front) (ended w v ends) g))
walk_grouped zero h shard w place front (x ∷ xs) v are ends g = absurd (cc ends)
walk_grouped (suc n) h shard w place front (x ∷ xs) v are ends g =
    let bytes : List ℕ = x ∷ xs in
    let on : GoesOn h shard w place bytes (λ u e. walk_on n h shard u (place + e) (drop e bytes)) v = block_on (head_at bytes place) (body_at (drop 24 bytes) place) h shard w place bytes _ v refl refl ends in
    let within = (stood h shard w bytes on.extent on.body on.follows.stands).within in
    let more = grouped_more h shard w place on.extent front bytes on.body are on.follows g in
    let all = walk_grouped n h shard (walked w (placed place on.body)) (place + on.extent) (front ++ take on.extent bytes) (drop on.extent bytes) v (bytes_drop on.extent bytes are) on.rest more in
    subst (λ (k : ℕ). Grouped h shard k (front ++ bytes) v) (omega (arith, length-drop on.extent bytes, within))
    (subst (λ (l : List ℕ). Grouped h shard (place + on.extent + length (drop on.extent bytes)) l v)
    (append_assoc front (take on.extent bytes) (drop on.extent bytes) ∙ ap (λ (l : List ℕ). front ++ l) (take-append-drop on.extent bytes)) all)

-- a whole file
pub file_grouped : (h : StaticHead) (shard : ShardOf) (f : List ℕ) (v : Walk) → AreBytes f → base_of h.p ≤ length f → walk h shard f ≡ Ends v → Grouped h shard (length f) (drop (base_of h.p) f) v
unfolding walk
file_grouped h shard f v are long ends =
    let first : Grouped h shard (base_of h.p) [] begin = record { bodies = []; blocks = refl; end = refl; text = refl; parted = record { groups = []; part = []; number = 0; bodies_are = refl; legal = omega arith; rest = refl }; in_its_shard = tt } in
    let all = walk_grouped (length f) h shard begin (base_of h.p) [] (drop (base_of h.p) f) v (bytes_drop (base_of h.p) f are) ends first in
    subst (λ (k : ℕ). Grouped h shard k (drop (base_of h.p) f) v) (omega (arith, length-drop (base_of h.p) f)) all
