-- A restored file opens, and has the records of the image's restored groups.
use Rattle.std.proofs.Common.{◌≡◌, ◌≢◌, ◌⊎◌, ℕ, zero, suc, ◌+◌, ◌≤◌, ◌^◌, ◌/◌, ◌%◌, Bool, true, false, cond, List, [], ◌∷◌, ◌++◌, length, drop, refl, sym, ◌∙◌, ap, subst, arith, inl, inr, append_assoc}
use Rattle.std.specs.Prelude.{map, ◌==◌, Option, Some, None}
use Rattle.std.specs.List.{list_any}
use Rattle.std.proofs.Math.Nat.{mod-one}
use Rattle.std.proofs.lemmas.Bool.{eq-eqb}
use Rattle.tk_model.specs.Hashes.{mix_of}
use Rattle.tk_model.specs.Entries.{holds_key}
use Rattle.tk_model.specs.declared.record.Pair.{Pair}
use Rattle.tk_model.specs.declared.record.Group.{Group}
use Rattle.tk_model.specs.declared.record.Change.{Change}
use Rattle.tk_model.specs.declared.record.Change.TheVariants.{Put}
use Rattle.tk_model.specs.declared.record.Order.TheVariants.{Hash}
use Rattle.tk_model.specs.Records.{after, replay, AllFit, HasNoClear}
use Rattle.tk_block.specs.declared.block.Body.{Body}
use Rattle.tk_block.specs.declared.head.StaticHead.{StaticHead}
use Rattle.tk_block.specs.declared.closing.Closing.{Closing}
use Rattle.tk_block.specs.Text.{head_at, static_at, is_static, static_text, closing_text, base_of}
use Rattle.tk_block.specs.Blocks.{IsSmall, AllSmall, body_at}
use Rattle.tk_block.specs.Layout.{Placed, laid, links_of, texts, end_of, bodies_of, file_text, heads_text}
use Rattle.tk_block.proofs.Grammar.{statics}
use Rattle.tk_block.proofs.BodyGrammar.{bodies}
use Rattle.tk_block.proofs.Lengths.{length-file_text}
use Rattle.tk_append.specs.Fresh.{AllPairsSmall, together, fresh_next}
use Rattle.tk_append.specs.FileText.{IsFile}
use Rattle.tk_append.specs.Log.{AreGroups, AllIn, AllInItsShard}
use Rattle.tk_append.specs.Opening.{Walk, begin, walked, change_in, first_fault}
use Rattle.tk_append.specs.OpeningLaws.{MayOpen}
use Rattle.tk_append.specs.Restored.{may_be_read, read_block, read_on, read_blocks, complete_groups, groups_in}
use Rattle.tk_append.proofs.Reopened.{opens_closed}
use Rattle.tk_append.proofs.Restoring.{reads_back}
use Rattle.tk_append.proofs.Rereading.{value_small}
use Rattle.tk_restore.specs.Restoration.{restored_records, restored_head, restored_file, IsRestoredFrom, IsAppending, alone, RestoredOpen}
use Rattle.tk_restore.proofs.Held.{after_small, one_more_small}
use Rattle.tk_restore.proofs.Knowing.{change_small}
use Rattle.tk_restore.proofs.Fresh.{together_leaves, records_rising, records_are, kind_of}

-- ---- all that is read is within the limits of a block

abbrev AllBodiesSmall : List Placed → Type 0
AllBodiesSmall [] = Unit {0}
AllBodiesSmall (x ∷ xs) = IsSmall x.body.key x.body.value × AllBodiesSmall xs

abbrev AllGroupsSmall : List Group → Type 0
AllGroupsSmall [] = Unit {0}
AllGroupsSmall (g ∷ gs) = AllSmall g.changes × AllGroupsSmall gs

bodies_more : (xs : List Placed) (x : Placed) → AllBodiesSmall xs → IsSmall x.body.key x.body.value → AllBodiesSmall (xs ++ x ∷ [])
bodies_more [] x all one = (one, tt)
bodies_more (y ∷ xs) x all one = (all.0, bodies_more xs x all.1 one)

by_may : (t : Bool) (w v : Walk) → AllBodiesSmall w.blocks → AllBodiesSmall v.blocks → AllBodiesSmall (cond t v w).blocks
by_may true w v some more = more
by_may false w v some more = some

block_small : (o : Option ℕ) (ob : Option Body) (n : ℕ) (w : Walk) (place : ℕ) (bytes : List ℕ) → body_at (drop 24 bytes) place ≡ ob → AllBodiesSmall w.blocks
    → ((v : Walk) (e : ℕ) → AllBodiesSmall v.blocks → AllBodiesSmall (read_on n v (place + e) (drop e bytes)).blocks) → AllBodiesSmall (read_block w place o ob (λ v e. read_on n v (place + e) (drop e bytes))).blocks
block_small None ob n w place bytes body all go = all
block_small (Some e) None n w place bytes body all go = all
block_small (Some e) (Some b) n w place bytes body all go =
    let fits = ((bodies place).found (drop 24 bytes) b body).0 in
    let x : Placed = record { place = place; extent = e; body = b } in
    by_may (may_be_read w e b) w _ all (go (walked w x) e (bodies_more w.blocks x all (record { key_fits = fits.1; value_fits = value_small b fits.0 })))

read_small : (n : ℕ) (w : Walk) (place : ℕ) (bytes : List ℕ) → AllBodiesSmall w.blocks → AllBodiesSmall (read_on n w place bytes).blocks
read_small zero w place bytes all = all
read_small (suc n) w place bytes all = block_small (head_at bytes place) (body_at (drop 24 bytes) place) n w place bytes refl all (λ v e some. read_small n v (place + e) (drop e bytes) some)

groups_by_flag : (t : Bool) (g : Group) (gs hs : List Group) → AllSmall g.changes → AllGroupsSmall gs → AllGroupsSmall hs → AllGroupsSmall (cond t (g ∷ gs) hs)
groups_by_flag true g gs hs one some more = (one, some)
groups_by_flag false g gs hs one some more = more

groups_small : (begun : List Change) (xs : List Placed) → AllSmall begun → AllBodiesSmall xs → AllGroupsSmall (complete_groups begun xs)
groups_small begun [] some all = tt
groups_small begun (x ∷ xs) some all =
    let more : AllSmall (begun ++ change_in x.body ∷ []) = one_more_small begun (change_in x.body) some (change_small x.body (change_in x.body) refl all.0) in
    groups_by_flag x.body.last (record { number = x.body.number; changes = begun ++ change_in x.body ∷ [] }) (complete_groups [] xs) (complete_groups (begun ++ change_in x.body ∷ []) xs) more (groups_small [] xs tt all.1)
    (groups_small (begun ++ change_in x.body ∷ []) xs more all.1)

replay_small : (gs : List Group) (m : List Pair) → AllGroupsSmall gs → AllPairsSmall m → AllPairsSmall (replay Hash gs m)
replay_small [] m some all = all
replay_small (g ∷ gs) m some all = replay_small gs (after Hash g.changes m) some.1 (after_small g.changes m some.0 all)

in_small : (h : StaticHead) (f : List ℕ) → AllGroupsSmall (groups_in h f)
unfolding groups_in read_blocks
in_small h f = groups_small [] (read_on (length f) begin (base_of h.p) (drop (base_of h.p) f)).blocks tt (read_small (length f) begin (base_of h.p) (drop (base_of h.p) f) tt)

records_small : (h : StaticHead) (f : List ℕ) → static_at f ≡ Some h → AllPairsSmall (restored_records f)
records_small h f is = subst AllPairsSmall (records_are h f is) (replay_small (groups_in h f) [] (in_small h f) tt)

-- ---- the one group may stand in a file

puts_fit : (ps : List Pair) → AllPairsSmall ps → AllFit (map Put ps)
puts_fit [] all = tt
puts_fit (p ∷ ps) all = let k = all.0.key_fits in (omega (arith, k), all.0.value_fits, puts_fit ps all.1)

no_clear : (ps : List Pair) → HasNoClear (map Put ps)
no_clear [] = tt
no_clear (p ∷ ps) = no_clear ps

some_change : (c : Change) (cs : List Change) → (c ∷ cs) ≢ []
some_change c cs is = cc

together_legal : (next : ℕ) (ps : List Pair) → fresh_next 0 ps ≤ next → AllPairsSmall ps → AreGroups 0 next (together 0 ps)
together_legal next [] upto all = omega arith
together_legal next (p ∷ ps) upto all = (omega arith, some_change (Put p) (map Put ps), puts_fit (p ∷ ps) all, no_clear (p ∷ ps), upto)

home_key : (k : List ℕ) → holds_key alone k ≡ true
home_key k = eq-eqb _ _ (mod-one (mix_of k / 2 ^ 16 % 2 ^ 16))

puts_home : (ps : List Pair) → AllIn alone (map Put ps)
puts_home [] = tt
puts_home (p ∷ ps) = (home_key p.key, puts_home ps)

together_home : (ps : List Pair) → AllInItsShard alone (together 0 ps)
together_home [] = tt
together_home (p ∷ ps) = (puts_home (p ∷ ps), tt)

next_small : (ps : List Pair) → fresh_next 0 ps ≤ 1
next_small [] = omega arith
next_small (p ∷ ps) = omega arith

kind_asked : (h : StaticHead) → (h.kind ≡ 1) ⊎ (h.kind ≡ 3) → list_any (λ k. k == h.kind) (1 ∷ 3 ∷ []) ≡ true
kind_asked h (inl one) = ap (λ (n : ℕ). list_any (λ k. k == n) (1 ∷ 3 ∷ [])) one
kind_asked h (inr three) = ap (λ (n : ℕ). list_any (λ k. k == n) (1 ∷ 3 ∷ [])) three

pub file_length : (h : StaticHead) (f : List ℕ) → length (restored_file h f) ≡ end_of (base_of h.p) (bodies_of (together 0 (restored_records f)))
file_length h f = length-file_text (restored_head h) (together 0 (restored_records f)) _ (fresh_next 0 (restored_records f))

may_open : (image file : List ℕ) (count : ℕ) (writable : Bool) → IsAppending image → length file ≤ 2 ^ 40 → (r : IsRestoredFrom image file count)
    → MayOpen (1 ∷ 3 ∷ []) writable alone (restored_head r.head) (together 0 (restored_records image)) (fresh_next 0 (restored_records image))
may_open image file count writable appending long r =
    let all = restored_records image in
    record {
      head = (statics.found image r.head r.was).0.0;
      generation = omega arith;
      kind = kind_asked r.head (kind_of r.head image r.was appending);
      legal = together_legal (fresh_next 0 all) all (omega arith) (records_small r.head image r.was);
      in_its_shard = λ set. together_home all;
      size = omega (arith, long, ap length r.is, file_length r.head image);
      number = omega (arith, next_small all);
      last = λ t. omega (arith, next_small all);
    }

is_file : (image file : List ℕ) (count : ℕ) → length file ≤ 2 ^ 40 → (r : IsRestoredFrom image file count) → IsFile (restored_head r.head) file (together 0 (restored_records image))
unfolding file_text
is_file image file count long r =
    let all = restored_records image in
    let base = base_of r.head.p in
    record {
      header = (statics.found image r.head r.was).0.0;
      generation = omega arith;
      legal = together_legal (2 ^ 64) all (omega (arith, next_small all)) (records_small r.head image r.was);
      size = omega (arith, long);
      closing = record { size = end_of base (bodies_of (together 0 all)); count = length (replay Hash (together 0 all) []); next = fresh_next 0 all };
      text = r.is;
    }

header_there : (h : StaticHead) (f : List ℕ) → is_static h ≡ true → static_at (restored_file h f) ≡ Some (restored_head h)
unfolding file_text
header_there h f valid =
    let new = restored_head h in
    let gs = together 0 (restored_records f) in
    let blocks = laid (base_of h.p) (bodies_of gs) in
    let closing : Closing = record { size = end_of (base_of h.p) (bodies_of gs); count = length (replay Hash gs []); next = fresh_next 0 (restored_records f) } in
    let rest = heads_text h.p blocks ++ texts blocks (links_of h.p [] blocks) in
    ap static_at (append_assoc (static_text new) (closing_text closing) rest) ∙ statics.again new (closing_text closing ++ rest) (valid, omega arith)

leaves_same : (image file : List ℕ) (count : ℕ) → length file ≤ 2 ^ 40 → IsRestoredFrom image file count → restored_records file ≡ restored_records image
leaves_same image file count long r =
    let all = restored_records image in
    let valid = (statics.found image r.head r.was).0.0 in
    let there : static_at file ≡ Some (restored_head r.head) = ap static_at r.is ∙ header_there r.head image valid in
    sym (records_are (restored_head r.head) file there)
    ∙ ap (λ (gs : List Group). replay Hash gs []) (reads_back (restored_head r.head) file (together 0 all) (is_file image file count long r))
    ∙ together_leaves all (records_rising image)

pub restored_open : RestoredOpen
restored_open image file count appending long r = record {
  opens = λ writable.
      ap (λ (f : List ℕ). first_fault (1 ∷ 3 ∷ []) writable alone f) r.is
      ∙ opens_closed (1 ∷ 3 ∷ []) writable alone (restored_head r.head) (together 0 (restored_records image)) (fresh_next 0 (restored_records image)) (may_open image file count writable appending long r);
  records = leaves_same image file count long r;
}
