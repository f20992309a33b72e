-- A group gets another number block by block.
use Rattle.std.proofs.Common.{◌≡◌, ℕ, ◌+◌, ◌<◌, ◌≤◌, ◌^◌, List, [], ◌∷◌, ◌++◌, drop, length, refl, sym, ◌∙◌, ap, append_assoc, arith}
use Rattle.std.proofs.lemmas.List.{length-append}
use Rattle.tk_model.specs.declared.record.Change.{Change}
use Rattle.tk_block.specs.declared.block.Body.{Body}
use Rattle.tk_block.specs.Blocks.{AllSmall, body_of, is_nil, group_bodies, block_text, extent_of, numbered}
use Rattle.tk_block.specs.Layout.{laid, texts, first_or_none}
use Rattle.tk_block.specs.Renumber.{unchecked_text, unchecked_texts, IsGroupText, IsBlockIn, RenumberedBlock}
use Rattle.tk_block.proofs.Lengths.{length-block_text}
use Rattle.tk_block.proofs.NewNumber.{length-unchecked_text, length-unchecked_texts}

-- before the index the blocks have their number and checks, from it on they stand as they were
pub record Halfway (old now : List ℕ) (place number at was : ℕ) (changes : List Change) (links : List ℕ) : Type 0 where
  pub front : List ℕ
  pub left : List Change
  pub left_links : List ℕ
  pub here : length front ≡ at
  pub small : AllSmall left
  pub stands : now ≡ front ++ unchecked_texts (laid (place + at) (group_bodies was left)) left_links
  pub goes : front ++ texts (laid (place + at) (group_bodies number left)) left_links ≡ texts (laid place (group_bodies number changes)) links

abbrev pub AllHalfway : (old now : List ℕ) (place number at : ℕ) → Type 0
AllHalfway old now place number at =
    (was : ℕ) (changes : List Change) (links : List ℕ) → AllSmall changes → old ≡ unchecked_texts (laid place (group_bodies was changes)) links → Halfway old now place number at was changes links

pub begins : (old : List ℕ) (place number : ℕ) → AllHalfway old old place number 0
begins old place number was changes links small spelled = record {
  front = [];
  left = changes;
  left_links = links;
  here = refl;
  small = small;
  stands = spelled ∙ ap (λ n. unchecked_texts (laid n (group_bodies was changes)) links) (omega arith);
  goes = ap (λ n. texts (laid n (group_bodies number changes)) links) (omega arith);
}

-- where bytes are left, a block stands there
next : (now front : List ℕ) (place at was : ℕ) (left : List Change) (links : List ℕ) → at < length now → length front ≡ at → AllSmall left → now ≡ front ++ unchecked_texts (laid (place + at) (group_bodies was left)) links → IsBlockIn now at (place + at)
next now front place at was [] links more here small stands = absurd (omega (arith, ap length stands, length-append {A = ℕ} front []))
next now front place at was (c ∷ cs) links more here small stands = record {
  front = front;
  body = body_of was c (is_nil cs);
  link = first_or_none links;
  rest = unchecked_texts (laid (place + at + extent_of (body_of was c (is_nil cs))) (group_bodies was cs)) (drop 1 links);
  here = here;
  small = small.0;
  spelled = stands;
}

pub block_next : (old now : List ℕ) (place number at was : ℕ) (changes : List Change) (links : List ℕ) → Halfway old now place number at was changes links → at < length now → IsBlockIn now at (place + at)
block_next old now place number at was changes links h more = next now h.front place at was h.left h.left_links more h.here h.small h.stands

step : (old now new front : List ℕ) (place number at extent was : ℕ) (changes left : List Change) (links left_links : List ℕ) → RenumberedBlock now new at (place + at) number extent → at < length now → length front ≡ at → AllSmall left → now ≡ front ++ unchecked_texts (laid (place + at) (group_bodies was left)) left_links → front ++ texts (laid (place + at) (group_bodies number left)) left_links ≡ texts (laid place (group_bodies number changes)) links → Halfway old new place number (at + extent) was changes links
step old now new front place number at extent was changes [] links left_links block more here small stands goes = absurd (omega (arith, ap length stands, length-append {A = ℕ} front []))
step old now new front place number at extent was changes (c ∷ cs) links left_links block more here small stands goes =
    let b : Body = body_of was c (is_nil cs) in
    let link = first_or_none left_links in
    let rest = unchecked_texts (laid (place + at + extent_of b) (group_bodies was cs)) (drop 1 left_links) in
    let done = block front b link rest here small.0 stands in
    let text = block_text (numbered number b) (place + at) link in
    let place_is : place + at + extent_of b ≡ place + (at + extent) = omega (arith, done.1) in
    record {
      front = front ++ text;
      left = cs;
      left_links = drop 1 left_links;
      here = length-append front text ∙ omega (arith, length-block_text (numbered number b) (place + at) link, done.1);
      small = small.1;
      stands = done.0 ∙ sym (append_assoc front text rest) ∙ ap (λ n. (front ++ text) ++ unchecked_texts (laid n (group_bodies was cs)) (drop 1 left_links)) place_is;
      goes = ap (λ n. (front ++ text) ++ texts (laid n (group_bodies number cs)) (drop 1 left_links)) (sym place_is) ∙ append_assoc front text _ ∙ goes;
    }

pub goes_on : (old now new : List ℕ) (place number at extent : ℕ) → AllHalfway old now place number at → RenumberedBlock now new at (place + at) number extent → at < length now → AllHalfway old new place number (at + extent)
goes_on old now new place number at extent all block more was changes links small spelled =
    let h = all was changes links small spelled in
    step old now new h.front place number at extent was changes h.left links h.left_links block more h.here h.small h.stands h.goes

-- the block ends within the bytes
pub block_within : (now new : List ℕ) (at place number extent : ℕ) → IsBlockIn now at place → RenumberedBlock now new at place number extent → (48 ≤ extent) × (at + extent ≤ length now)
block_within now new at place number extent h block =
    let done = block h.front h.body h.link h.rest h.here h.small h.spelled in
    (omega (arith, done.1), omega (arith, done.1, ap length h.spelled, length-append h.front (unchecked_text h.body place h.link ++ h.rest), length-append (unchecked_text h.body place h.link) h.rest, length-unchecked_text h.body place h.link, h.here))

ended : (now front target : List ℕ) (place number at was : ℕ) (left : List Change) (links : List ℕ) → length now ≤ at → length front ≡ at → now ≡ front ++ unchecked_texts (laid (place + at) (group_bodies was left)) links → front ++ texts (laid (place + at) (group_bodies number left)) links ≡ target → now ≡ target
ended now front target place number at was [] links end here stands goes = stands ∙ goes
ended now front target place number at was (c ∷ cs) links end here stands goes =
    let b : Body = body_of was c (is_nil cs) in
    let rest = unchecked_texts (laid (place + at + extent_of b) (group_bodies was cs)) (drop 1 links) in
    absurd (omega (arith, ap length stands, length-append front (unchecked_text b (place + at) (first_or_none links) ++ rest), length-append (unchecked_text b (place + at) (first_or_none links)) rest, length-unchecked_text b (place + at) (first_or_none links)))

-- at the end all blocks have the number
pub ends : (old now : List ℕ) (place number at : ℕ) → AllHalfway old now place number at → length now ≤ at → (was : ℕ) (changes : List Change) (links : List ℕ) → AllSmall changes → old ≡ unchecked_texts (laid place (group_bodies was changes)) links → now ≡ texts (laid place (group_bodies number changes)) links
ends old now place number at all end was changes links small spelled =
    let h = all was changes links small spelled in
    ended now h.front _ place number at was h.left h.left_links end h.here h.stands h.goes

-- a group's text ends within the limit
pub text_fits : (text : List ℕ) (place : ℕ) → IsGroupText text place → place + length text ≤ 2 ^ 40
text_fits text place h = omega (arith, h.fits, ap length h.spelled, length-unchecked_texts place (group_bodies h.number h.changes) h.links)
