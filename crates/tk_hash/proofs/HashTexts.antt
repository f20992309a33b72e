-- The text of a file with a group more, with other heads, and with another closing part.
use Rattle.std.proofs.Common.{◌≡◌, inl, inr, ℕ, zero, suc, ◌<◌, ◌^◌, List, [], ◌∷◌, ◌++◌, length, get_or, take, drop, refl, sym, ◌∙◌, ap, subst, arith, length-append, append_assoc}
use Rattle.std.specs.Prelude.{Option, Some, None, IfSome}
use Rattle.std.specs.Option.{option_map, is_some}
use Rattle.std.proofs.lemmas.Bool.{cases_lt}
use Rattle.std.proofs.lemmas.List.{append-nil, take_at, drop_at}
use Rattle.std.proofs.Math.ListN.{get_or-append}
use Rattle.std.proofs.Math.Seq.{get_or-append_seam}
use Rattle.tk_model.specs.declared.record.Order.TheVariants.{Hash}
use Rattle.tk_model.specs.declared.record.Group.{Group}
use Rattle.tk_model.specs.Records.{replay}
use Rattle.tk_block.specs.declared.head.StaticHead.{StaticHead}
use Rattle.tk_block.specs.declared.closing.Closing.{Closing}
use Rattle.tk_block.specs.declared.block.Body.{Body}
use Rattle.tk_block.specs.Text.{static_text, closing_text, base_of}
use Rattle.tk_block.specs.Blocks.{group_bodies}
use Rattle.tk_block.specs.Layout.{Placed, laid, newest, links_of, end_of, texts, bodies_of, heads_text, group_text, file_text}
use Rattle.tk_block.proofs.Layouts.{laid-append, links_of-append, texts-append-both, bodies_of-append, length-links_of}
use Rattle.tk_block.proofs.Grammar.{length-static_text}
use Rattle.tk_append.specs.Chains.{HeadsAre}
use Rattle.tk_append.specs.Log.{blocks_of, closed_text}
use Rattle.tk_append.specs.LogParts.{with_closing}
use Rattle.tk_append.specs.Pieces.{words_text}
use Rattle.tk_append.specs.FileText.{text_of, text_with, IsFile}
use Rattle.tk_append.specs.Restored.{groups_text}
use Rattle.tk_append.proofs.FreshSteps.{words_text-heads}
use Rattle.tk_hash.specs.Plan.{with_heads}
use Rattle.tk_hash.specs.HashLaws.{length-front}
use Rattle.tk_hash.specs.declared.plan.NewHeads.{NewHeads}

-- a file, by its heads as numbers
with_is_of : (h : StaticHead) (c : Closing) (heads : List ℕ) (groups : List Group) → HeadsAre h.p heads (blocks_of h groups) → text_with h c heads groups ≡ text_of h c groups
with_is_of h c heads groups are = ap (λ (l : List ℕ). (static_text h ++ closing_text c) ++ (l ++ groups_text h groups)) (words_text-heads h.p heads (blocks_of h groups) are)

-- a closed file, by its parts
pub closed_is : (h : StaticHead) (groups : List Group) (size count next : ℕ) → size ≡ end_of (base_of h.p) (bodies_of groups) → count ≡ length (replay Hash groups [])
    → text_of h (record { size = size; count = count; next = next }) groups ≡ closed_text h groups next
unfolding file_text
closed_is h groups size count next s n = rw (s, n) refl

-- another closing part
pub closing_over : (h : StaticHead) (old new : Closing) (groups : List Group) → with_closing new (text_of h old groups) ≡ text_of h new groups
closing_over h old new groups =
    let rest : List ℕ = heads_text h.p (blocks_of h groups) ++ groups_text h groups in
    let first : take 32 (text_of h old groups) ≡ static_text h =
    ap (λ (l : List ℕ). take 32 l) (append_assoc (static_text h) (closing_text old) rest) ∙ take_at (static_text h) (closing_text old ++ rest) 32 (length-static_text h) in
    let last : drop 64 (text_of h old groups) ≡ rest = drop_at (static_text h ++ closing_text old) rest 64 (length-front h old) in
    ap (λ (l : List ℕ). l ++ (closing_text new ++ drop 64 (text_of h old groups))) first
    ∙ ap (λ (l : List ℕ). static_text h ++ (closing_text new ++ l)) last
    ∙ sym (append_assoc (static_text h) (closing_text new) rest)

pub blocks_more : (h : StaticHead) (groups : List Group) (g : Group) (end : ℕ) → end ≡ end_of (base_of h.p) (bodies_of groups)
    → blocks_of h (groups ++ g ∷ []) ≡ blocks_of h groups ++ laid end (group_bodies g.number g.changes)
blocks_more h groups g end is =
    let bodies = group_bodies g.number g.changes in
    ap (λ (l : List Body). laid (base_of h.p) l) (bodies_of-append groups (g ∷ []) ∙ ap (λ (l : List Body). bodies_of groups ++ l) (append-nil bodies))
    ∙ laid-append (base_of h.p) (bodies_of groups) bodies
    ∙ ap (λ (n : ℕ). blocks_of h groups ++ laid n bodies) (sym is)

texts_more : (h : StaticHead) (groups : List Group) (g : Group) (end : ℕ) (links : List ℕ) → end ≡ end_of (base_of h.p) (bodies_of groups)
    → links ≡ links_of h.p (blocks_of h groups) (laid end (group_bodies g.number g.changes))
    → groups_text h groups ++ group_text g end links ≡ groups_text h (groups ++ g ∷ [])
texts_more h groups g end links is linked =
    let old : List Placed = blocks_of h groups in
    let new : List Placed = laid end (group_bodies g.number g.changes) in
    sym (texts-append-both old new (links_of h.p [] old) links (length-links_of h.p [] old))
    ∙ ap (λ (l : List ℕ). texts (old ++ new) (links_of h.p [] old ++ l)) linked
    ∙ ap (λ (l : List ℕ). texts (old ++ new) l) (sym (links_of-append h.p [] old new))
    ∙ ap (λ (l : List Placed). texts l (links_of h.p [] l)) (sym (blocks_more h groups g end is))

-- a file with a group's text behind it, and the heads that it had
appended : (h : StaticHead) (c : Closing) (groups : List Group) (g : Group) (end : ℕ) (links heads : List ℕ) → end ≡ end_of (base_of h.p) (bodies_of groups)
    → links ≡ links_of h.p (blocks_of h groups) (laid end (group_bodies g.number g.changes)) → HeadsAre h.p heads (blocks_of h groups)
    → text_of h c groups ++ group_text g end links ≡ text_with h c heads (groups ++ g ∷ [])
appended h c groups g end links heads is linked are =
    let front = static_text h ++ closing_text c in
    ap (λ (l : List ℕ). l ++ group_text g end links) (sym (with_is_of h c heads groups are))
    ∙ append_assoc front (words_text heads ++ groups_text h groups) (group_text g end links)
    ∙ ap (λ (l : List ℕ). front ++ l) (append_assoc (words_text heads) (groups_text h groups) (group_text g end links) ∙ ap (λ (l : List ℕ). words_text heads ++ l) (texts_more h groups g end links is linked))

-- new heads over a file, where a disk tells it
abbrev pub PutsHeads : (mid new : Option (List ℕ)) → StaticHead → NewHeads → Type 0
PutsHeads mid new h fresh =
    (c : Closing) (old : List ℕ) (groups : List Group) → IfSome mid (λ f. f ≡ text_with h c old groups → length old ≡ 2 ^ h.p → new ≡ Some (text_with h c (with_heads fresh old) groups))

-- the heads of the file with one group more
pub heads_behind : (h : StaticHead) (groups : List Group) (g : Group) (end : ℕ) (heads : List ℕ) → end ≡ end_of (base_of h.p) (bodies_of groups) → HeadsAre h.p heads (blocks_of h groups ++ laid end (group_bodies g.number g.changes))
    → HeadsAre h.p heads (blocks_of h (groups ++ g ∷ []))
heads_behind h groups g end heads is are = subst (λ (l : List Placed). HeadsAre h.p heads l) (sym (blocks_more h groups g end is)) are

-- the file with one group more
pub file_more : (o mid new : Option (List ℕ)) (h : StaticHead) (c : Closing) (groups : List Group) (g : Group) (end : ℕ) (links heads : List ℕ) (fresh : NewHeads) → end ≡ end_of (base_of h.p) (bodies_of groups) → is_some new ≡ is_some o
    → mid ≡ option_map (λ f. f ++ group_text g end links) o → IfSome o (λ f. IsFile h f groups) → IfSome o (λ f. f ≡ text_of h c groups)
    → IfSome o (λ f. IsFile h f groups → links ≡ links_of h.p (blocks_of h groups) (laid end (group_bodies g.number g.changes)))
    → IfSome o (λ f. HeadsAre h.p heads (blocks_of h groups)) → IfSome o (λ f. IsFile h f groups → HeadsAre h.p (with_heads fresh heads) (blocks_of h groups ++ laid end (group_bodies g.number g.changes)))
    → PutsHeads mid new h fresh → IfSome new (λ f. f ≡ text_of h c (groups ++ g ∷ []))
file_more None mid None h c groups g end links heads fresh is told first file there linked old new puts = tt
file_more None mid (Some x) h c groups g end links heads fresh is told first file there linked old new puts = absurd (cc)
file_more (Some f) mid new h c groups g end links heads fresh is told first file there linked old renewed puts =
    let all = groups ++ g ∷ [] in
    let are : HeadsAre h.p (with_heads fresh heads) (blocks_of h all) = heads_behind h groups g end (with_heads fresh heads) is (renewed file) in
    let here : mid ≡ Some (text_with h c heads all) = first ∙ ap Some (ap (λ (l : List ℕ). l ++ group_text g end links) there ∙ appended h c groups g end links heads is (linked file) old) in
    let put : new ≡ Some (text_with h c (with_heads fresh heads) all) =
    subst (λ (m : Option (List ℕ)). IfSome m (λ f. f ≡ text_with h c heads all → length heads ≡ 2 ^ h.p → new ≡ Some (text_with h c (with_heads fresh heads) all))) here (puts c heads all) refl old.whole in
    subst (λ (m : Option (List ℕ)). IfSome m (λ f. f ≡ text_of h c all)) (sym put) (with_is_of h c (with_heads fresh heads) all are)

-- the file with another closing part
pub closed_there : (o new : Option (List ℕ)) (h : StaticHead) (c next : Closing) (groups : List Group) → IfSome o (λ f. f ≡ text_of h c groups) → new ≡ option_map (with_closing next) o → IfSome new (λ f. f ≡ text_of h next groups)
closed_there None new h c next groups there now = subst (λ (m : Option (List ℕ)). IfSome m (λ f. f ≡ text_of h next groups)) (sym now) tt
closed_there (Some f) new h c next groups there now =
    subst (λ (m : Option (List ℕ)). IfSome m (λ f. f ≡ text_of h next groups)) (sym now) (ap (λ (l : List ℕ). with_closing next l) there ∙ closing_over h c next groups)

-- the closed file
pub closed_now : (o new : Option (List ℕ)) (h : StaticHead) (c : Closing) (groups : List Group) (size count next : ℕ) → IfSome o (λ f. f ≡ text_of h c groups) → size ≡ end_of (base_of h.p) (bodies_of groups) → IfSome o (λ f. count ≡ length (replay Hash groups []))
    → new ≡ option_map (with_closing (record { size = size; count = count; next = next })) o → IfSome o (λ _. new ≡ Some (closed_text h groups next))
closed_now None new h c groups size count next there s k now = tt
closed_now (Some f) new h c groups size count next there s k now =
    let last : Closing = record { size = size; count = count; next = next } in
    now ∙ ap Some (ap (λ (l : List ℕ). with_closing last l) there ∙ closing_over h c last groups ∙ closed_is h groups size count next s k)

-- the file that was closed before, and only read
pub closed_still : (o new : Option (List ℕ)) (h : StaticHead) (c : Closing) (groups : List Group) (size count next : ℕ) → IfSome o (λ f. f ≡ text_of h c groups) → IfSome o (λ f. c ≡ record { size = size; count = count; next = next })
    → size ≡ end_of (base_of h.p) (bodies_of groups) → IfSome o (λ f. count ≡ length (replay Hash groups [])) → new ≡ o → IfSome o (λ _. new ≡ Some (closed_text h groups next))
closed_still None new h c groups size count next there is s k now = tt
closed_still (Some f) new h c groups size count next there is s k now = now ∙ ap Some (there ∙ ap (λ (d : Closing). text_of h d groups) is ∙ closed_is h groups size count next s k)
