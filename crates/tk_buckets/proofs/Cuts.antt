-- A block is taken out of its bucket on a disk.
use Rattle.std.proofs.Common.{◌≡◌, ◌≢◌, ℕ, ◌+◌, ◌*◌, ◌/◌, ◌<◌, ◌≤◌, ◌^◌, List, length, true, refl, sym, ◌∙◌, ap, subst, arith}
use Rattle.std.specs.Prelude.{min, Option, Some, None, IfSome, Result, OnOk}
use Rattle.std.specs.Option.{option_map}
use Rattle.std.specs.Int.{w64, to_be_bytes}
use Rattle.std.proofs.lemmas.Result.{on_ok_weaker}
use Rattle.std.proofs.lemmas.Option.{IfSome_then}
use Rattle.tk_disk.specs.Crash.{Torn, Follows, Within}
use Rattle.tk_disk.specs.Disk.{put_at}
use Rattle.tk_block.specs.Number.{u64_in}
use Rattle.tk_block.specs.declared.head.StaticHead.{StaticHead}
use Rattle.tk_buckets.specs.Chain.{IsLinked, IsChain, AreApart, link_in, head_cell, has_block, cell_to, without}
use Rattle.tk_buckets.proofs.Links.{whole_long, head_before}
use Rattle.tk_buckets.proofs.Unlinks.{cell_within, has_whole, left_out, other_left}

some_same : (a b : ℕ) → Some a ≡ Some b → a ≡ b
some_same a b e = cc

-- the cell was found, where the disk tells the chain
abbrev pub FoundIn : StaticHead → Option (List ℕ) → (bucket place : ℕ) → (places : List ℕ) → Option ℕ → Type 0
FoundIn h o bucket place places found = IfSome o (λ f. IsChain h f bucket places → has_block place places ≡ true → found ≡ Some (cell_to (head_cell bucket) place places))

abbrev LedTo : StaticHead → (bucket place : ℕ) → (places : List ℕ) → Option ℕ → List ℕ → Type 0
LedTo h bucket place places found f =
    head_cell bucket + 8 ≤ length f → IsLinked h f (u64_in f (head_cell bucket)) places → has_block place places ≡ true → found ≡ Some (cell_to (head_cell bucket) place places)

told_found : (h : StaticHead) (o : Option (List ℕ)) (bucket place : ℕ) (places : List ℕ) (found : Option ℕ) → bucket < 2 ^ h.p → IfSome o (LedTo h bucket place places found) → FoundIn h o bucket place places found
told_found h None bucket place places found below known = tt
told_found h (Some f) bucket place places found below known = λ chain has. known (omega (arith, head_before h bucket below, chain.heads)) chain.linked has

pub found_in : (h : StaticHead) (o last : Option (List ℕ)) (bucket place : ℕ) (places : List ℕ) (found : Option ℕ) → bucket < 2 ^ h.p → last ≡ o
    → IfSome last (λ f. head_cell bucket + 8 ≤ length f → IsLinked h f (u64_in f (head_cell bucket)) places → has_block place places ≡ true → found ≡ Some (cell_to (head_cell bucket) place places))
    → FoundIn h o bucket place places found
found_in h o last bucket place places found below is known = told_found h o bucket place places found below (subst (λ (o : Option (List ℕ)). IfSome o (LedTo h bucket place places found)) is known)

-- the cell lies in the file
pub cell_in : (h : StaticHead) (o : Option (List ℕ)) (bucket place cell : ℕ) (found : Option ℕ) → bucket < 2 ^ h.p → found ≡ Some cell
    → IfSome o (λ f. (places : List ℕ) × IsChain h f bucket places × (has_block place places ≡ true)) → ((places : List ℕ) → FoundIn h o bucket place places found) → IfSome o (λ f. cell ≤ length f)
cell_in h None bucket place cell found below is chain known = tt
cell_in h (Some f) bucket place cell found below is chain known =
    let same : cell ≡ cell_to (head_cell bucket) place chain.0 = some_same _ _ (sym is ∙ known chain.0 chain.1 chain.2) in
    omega (arith, same, cell_within h f (head_cell bucket) place (u64_in f (head_cell bucket)) chain.0 (omega (arith, head_before h bucket below, chain.1.heads)) chain.1.linked)

-- a cell that led to the block, and the block's link
pub record IsCut (h : StaticHead) (f : List ℕ) (bucket place cell link : ℕ) (places : List ℕ) : Type 0 where
  pub cell_is : cell ≡ cell_to (head_cell bucket) place places
  pub within : cell + 8 ≤ length f
  pub link_is : link ≡ link_in f place

pub cut_in : (h : StaticHead) (o : Option (List ℕ)) (bucket place cell to link : ℕ) (places : List ℕ) (found : Option ℕ) → bucket < 2 ^ h.p → found ≡ Some cell → IfSome o (λ f. length f ≤ 2 ^ 40)
    → to ≡ min (place + 16) 18446744073709551615 → FoundIn h o bucket place places found → IfSome o (λ f. to + 8 ≤ length f → link ≡ u64_in f to)
    → IfSome o (λ f. IsChain h f bucket places → has_block place places ≡ true → IsCut h f bucket place cell link places)
cut_in h None bucket place cell to link places found below is size there known value = tt
cut_in h (Some f) bucket place cell to link places found below is size there known value = λ chain has.
    let whole = has_whole h f place (u64_in f (head_cell bucket)) places chain.linked has in
    let same : cell ≡ cell_to (head_cell bucket) place places = some_same _ _ (sym is ∙ known chain has) in
    let at : to ≡ place + 16 = omega (arith, there, size, whole.within, whole_long h f place whole) in
    record {
      cell_is = same;
      within = omega (arith, same, cell_within h f (head_cell bucket) place (u64_in f (head_cell bucket)) places (omega (arith, head_before h bucket below, chain.heads)) chain.linked);
      link_is = value (omega (arith, at, whole.within, whole_long h f place whole)) ∙ ap (λ (k : ℕ). u64_in f k) at;
    }

pub cut_written : {T E : Type 0} (r : Result T E) (h : StaticHead) (o new : Option (List ℕ)) (bucket place cell link : ℕ) (places : List ℕ)
    → IfSome o (λ f. IsChain h f bucket places → has_block place places ≡ true → IsCut h f bucket place cell link places) → OnOk r (new ≡ option_map (put_at cell (to_be_bytes w64 link)) o)
    → IfSome o (λ f. IsChain h f bucket places → has_block place places ≡ true → OnOk r (new ≡ Some (put_at (cell_to (head_cell bucket) place places) (to_be_bytes w64 (link_in f place)) f)))
cut_written r h None new bucket place cell link places cut written = tt
cut_written r h (Some f) new bucket place cell link places cut written = λ chain has.
    let c = cut chain has in
    on_ok_weaker r
    (λ is. is ∙ ap (λ (n : ℕ). Some (put_at n (to_be_bytes w64 link) f)) c.cell_is ∙ ap (λ (n : ℕ). Some (put_at (cell_to (head_cell bucket) place places) (to_be_bytes w64 n) f)) c.link_is)
    written

pub cut_leaves : {T E : Type 0} (r : Result T E) (h : StaticHead) (o new : Option (List ℕ)) (bucket place cell link : ℕ) (places : List ℕ) → bucket < 2 ^ h.p → link < 2 ^ 64
    → IfSome o (λ f. IsChain h f bucket places → has_block place places ≡ true → IsCut h f bucket place cell link places) → OnOk r (new ≡ option_map (put_at cell (to_be_bytes w64 link)) o)
    → IfSome o (λ f. IsChain h f bucket places → has_block place places ≡ true → OnOk r (IfSome new (λ g. IsChain h g bucket (without place places))))
cut_leaves r h None new bucket place cell link places below small cut written = tt
cut_leaves r h (Some f) new bucket place cell link places below small cut written = λ chain has.
    let c = cut chain has in
    let left = left_out h f bucket place cell places below c.within (omega (arith, small, c.link_is)) c.cell_is chain has in
    on_ok_weaker r
    (λ is. subst (λ (o : Option (List ℕ)). IfSome o (λ g. IsChain h g bucket (without place places))) (sym (is ∙ ap (λ (n : ℕ). Some (put_at cell (to_be_bytes w64 n) f)) c.link_is)) left)
    written

pub cut_spares : {T E : Type 0} (r : Result T E) (h : StaticHead) (o new : Option (List ℕ)) (bucket other place cell link : ℕ) (places rest : List ℕ) → bucket < 2 ^ h.p → other < 2 ^ h.p → other ≢ bucket
    → IfSome o (λ f. IsChain h f bucket places → has_block place places ≡ true → IsCut h f bucket place cell link places) → OnOk r (new ≡ option_map (put_at cell (to_be_bytes w64 link)) o)
    → IfSome o (λ f. IsChain h f bucket places → has_block place places ≡ true → IsChain h f other rest → AreApart f places rest → OnOk r (IfSome new (λ g. IsChain h g other rest)))
cut_spares r h None new bucket other place cell link places rest below within ne cut written = tt
cut_spares r h (Some f) new bucket other place cell link places rest below within ne cut written = λ chain has kept apart.
    let c = cut chain has in
    let left = other_left h f bucket other place cell (to_be_bytes w64 link) places rest below within ne (omega (arith, c.within)) refl c.cell_is chain kept apart in
    on_ok_weaker r (λ is. subst (λ (o : Option (List ℕ)). IfSome o (λ g. IsChain h g other rest)) (sym is) left) written

always : (o : Option (List ℕ)) (A B : List ℕ → Type 0) (R : Type 0) → R → IfSome o (λ f. A f → B f → R)
always None A B R so = tt
always (Some f) A B R so = λ a b. so

-- where nothing was written, nothing is torn
pub nothing_torn : (h : StaticHead) (o : Option (List ℕ)) (bucket place : ℕ) (places : List ℕ) (old new : List ℕ → Type 0) → Within old new
    → IfSome o (λ f. IsChain h f bucket places → has_block place places ≡ true → Follows (Torn (cell_to (head_cell bucket) place places) 8) old new)
nothing_torn h o bucket place places old new within =
    always o (λ f. IsChain h f bucket places) (λ f. has_block place places ≡ true) (Follows (Torn (cell_to (head_cell bucket) place places) 8) old new)
    (λ c left. (c, within c left, record { no_shorter = omega arith; same = λ i below outside. refl }))

pub cell_torn : (h : StaticHead) (o : Option (List ℕ)) (bucket place cell link : ℕ) (places : List ℕ) (old mid new : List ℕ → Type 0)
    → IfSome o (λ f. IsChain h f bucket places → has_block place places ≡ true → IsCut h f bucket place cell link places) → Within old mid → Follows (Torn cell 8) mid new
    → IfSome o (λ f. IsChain h f bucket places → has_block place places ≡ true → Follows (Torn (cell_to (head_cell bucket) place places) 8) old new)
cell_torn h o bucket place cell link places old mid new cut within torn =
    IfSome_then o cut
    (λ f known chain has. subst (λ (n : ℕ). Follows (Torn n 8) old new) (known chain has).cell_is (λ c left. let d = torn c left in (d.0, within d.0 d.1, d.2)))

-- ---- what is read

-- nothing yet
pub cost_none : (h : StaticHead) (o : Option (List ℕ)) (bucket place : ℕ) (places : List ℕ) (before now : ℕ) → now ≤ before → IfSome o (λ f. IsChain h f bucket places → has_block place places ≡ true → now ≤ before + 8 + 8 * length places)
cost_none h None bucket place places before now most = tt
cost_none h (Some f) bucket place places before now most = λ chain has. omega (arith, most)

-- what the search read, and the block's link
pub cost_in_chain : (h : StaticHead) (o last : Option (List ℕ)) (bucket place : ℕ) (places : List ℕ) (before was mid now : ℕ) → bucket < 2 ^ h.p → last ≡ o → was ≤ before
    → IfSome last (λ f. head_cell bucket + 8 ≤ length f → IsLinked h f (u64_in f (head_cell bucket)) places → has_block place places ≡ true → mid ≤ was + 8 * length places) → now ≤ mid + 8
    → IfSome o (λ f. IsChain h f bucket places → has_block place places ≡ true → now ≤ before + 8 + 8 * length places)
cost_in_chain h o last bucket place places before was mid now below is first known link =
    let read : (f : List ℕ) → (head_cell bucket + 8 ≤ length f → IsLinked h f (u64_in f (head_cell bucket)) places → has_block place places ≡ true → mid ≤ was + 8 * length places)
    → IsChain h f bucket places → has_block place places ≡ true → now ≤ before + 8 + 8 * length places =
    λ f reads chain has. omega (arith, first, link, reads (omega (arith, head_before h bucket below, chain.heads)) chain.linked has) in
    subst (λ (o : Option (List ℕ)). IfSome o (λ f. IsChain h f bucket places → has_block place places ≡ true → now ≤ before + 8 + 8 * length places)) is (IfSome_then last known read)

pub bound_none : (o : Option (List ℕ)) (before now : ℕ) → now ≤ before → IfSome o (λ f. now ≤ before + 16 + 8 * (length f / 48))
bound_none None before now most = tt
bound_none (Some f) before now most = omega (arith, most)

pub bound_in_file : (o : Option (List ℕ)) (before now len : ℕ) → IfSome o (λ f. len ≡ length f) → now ≤ before + 16 + 8 * (len / 48) → IfSome o (λ f. now ≤ before + 16 + 8 * (length f / 48))
bound_in_file None before now len is most = tt
bound_in_file (Some f) before now len is most = subst (λ (n : ℕ). now ≤ before + 16 + 8 * (n / 48)) is most
