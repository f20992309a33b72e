-- How long texts are.
use Rattle.std.proofs.Common.{◌≡◌, ℕ, zero, suc, ◌+◌, ◌-◌, ◌*◌, ◌^◌, ◌≤◌, List, [], ◌∷◌, ◌++◌, length, drop, replicate, refl, arith}
use Rattle.std.specs.Int.{w64, to_be_bytes}
use Rattle.std.proofs.lemmas.List.{length-append, length-replicate}
use Rattle.tk_model.specs.declared.record.Group.{Group}
use Rattle.tk_block.specs.declared.block.Body.{Body}
use Rattle.tk_block.specs.declared.head.StaticHead.{StaticHead}
use Rattle.tk_block.specs.declared.closing.Closing.{Closing}
use Rattle.tk_block.specs.Text.{head_text, static_text, closing_text, base_of}
use Rattle.tk_block.specs.Blocks.{block_with, body_text, block_text, room_of, extent_for, extent_of}
use Rattle.tk_block.specs.Layout.{Placed, laid, end_of, newest, links_of, texts, heads_below, heads_text, bodies_of, file_text, first_or_none}
use Rattle.tk_block.proofs.Heads.{length-head_text}
use Rattle.tk_block.proofs.Grammar.{length-static_text, length-closing_text}
use Rattle.tk_block.proofs.BodyGrammar.{length-body_text}

pub room_fits : (room : ℕ) → room ≤ extent_for room
room_fits room = omega arith

pub length-block_with : (b : Body) (place extent link : ℕ) (padding : List ℕ) → length (block_with b place extent link padding) ≡ room_of b + length padding
unfolding block_with
length-block_with b place extent link padding =
    omega (arith, length-append (head_text extent place ++ to_be_bytes w64 link ++ body_text b place) padding, length-append (head_text extent place ++ to_be_bytes w64 link) (body_text b place), length-append (head_text extent place) (to_be_bytes w64 link), length-head_text extent place, length-body_text b place)

pub length-block_text : (b : Body) (place link : ℕ) → length (block_text b place link) ≡ extent_of b
unfolding block_text
length-block_text b place link =
    omega (arith, length-block_with b place (extent_of b) link (replicate (extent_of b - room_of b) 0), length-replicate {A = ℕ} (extent_of b - room_of b) 0, room_fits (room_of b))

-- blocks end where their text does
pub length-texts : (place : ℕ) (bs : List Body) (links : List ℕ) → place + length (texts (laid place bs) links) ≡ end_of place bs
length-texts place [] links = omega arith
length-texts place (b ∷ bs) links =
    omega (arith, length-append (block_text b place (first_or_none links)) (texts (laid (place + extent_of b) bs) (drop 1 links)), length-block_text b place (first_or_none links), length-texts (place + extent_of b) bs (drop 1 links))

pub length-heads_below : (p n : ℕ) (blocks : List Placed) → length (heads_below p n blocks) ≡ 8 * n
length-heads_below p zero blocks = refl
length-heads_below p (suc n) blocks = omega (arith, length-append (heads_below p n blocks) (to_be_bytes w64 (newest p n 0 blocks)), length-heads_below p n blocks)

pub length-heads_text : (p : ℕ) (blocks : List Placed) → length (heads_text p blocks) ≡ 8 * 2 ^ p
unfolding heads_text
length-heads_text p blocks = length-heads_below p (2 ^ p) blocks

-- a file is as long as its closing part says
pub length-file_text : (h : StaticHead) (groups : List Group) (count next : ℕ) → length (file_text h groups count next) ≡ end_of (base_of h.p) (bodies_of groups)
unfolding file_text
length-file_text h groups count next =
    let blocks = laid (base_of h.p) (bodies_of groups) in
    let closing : Closing = record { size = end_of (base_of h.p) (bodies_of groups); count = count; next = next } in
    let links = links_of h.p [] blocks in
    omega (arith, length-append (static_text h ++ closing_text closing) (heads_text h.p blocks ++ texts blocks links), length-append (static_text h) (closing_text closing), length-append (heads_text h.p blocks) (texts blocks links), length-static_text h, length-closing_text closing, length-heads_text h.p blocks, length-texts (base_of h.p) (bodies_of groups) links)
