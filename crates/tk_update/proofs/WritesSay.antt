-- What the writes of an updating file say and spare.
use Rattle.std.proofs.Common.{◌≡◌, ℕ, zero, suc, ◌+◌, ◌-◌, ◌<◌, ◌≤◌, ◌^◌, Bool, true, false, List, [], ◌∷◌, ◌++◌, length, take, drop, refl, sym, ◌∙◌, ap, arith, if◌then◌else◌}
use Rattle.std.specs.Prelude.{Option, Some, None, ◌==◌}
use Rattle.std.specs.Int.{w64, to_be_bytes}
use Rattle.std.proofs.lemmas.List.{append-nil}
use Rattle.std.proofs.lemmas.Bool.Decides.{nat_tests}
use Rattle.tk_block.specs.Text.{head_at, head_text, head_front, checked}
use Rattle.tk_block.specs.Blocks.{body_at, body_text, numbers_text, block_text, extent_of}
use Rattle.tk_block.specs.Grammar.{FitsBody}
use Rattle.tk_block.specs.declared.block.Body.{Body}
use Rattle.tk_block.proofs.Grammar.{heads}
use Rattle.tk_block.proofs.Heads.{length-head_text}
use Rattle.tk_block.proofs.BodyGrammar.{bodies, length-body_text}
use Rattle.tk_block.proofs.BlockReads.{block_head, block_body}
use Rattle.tk_disk.specs.Past.{Write}
use Rattle.tk_update.specs.Untorn.{body_written, body_behind, body_alone}
use Rattle.tk_update.proofs.Told.{no_some, same_some, told}

-- ---- first bytes

abbrev first : List ℕ → ℕ
first [] = 0
first (x ∷ xs) = x

first_take : (n : ℕ) (l : List ℕ) → 0 < n → first (take n l) ≡ first l
first_take zero l some = absurd (omega (arith, some))
first_take (suc n) [] some = refl
first_take (suc n) (x ∷ xs) some = refl

first_head : (e q : ℕ) → first (head_text e q) ≡ 0x54
unfolding head_text head_front checked
first_head e q = refl

first_body : (b : Body) (q : ℕ) → first (body_text b q) ≡ b.kind
unfolding numbers_text checked
first_body b q = refl

first_link : (link : ℕ) (more : List ℕ) → link < 2 ^ 56 → first (to_be_bytes w64 link ++ more) ≡ 0
first_link link more small = omega (arith, small)

first_front : (l more : List ℕ) → 0 < length l → first (l ++ more) ≡ first l
first_front [] more some = absurd (omega (arith, some))
first_front (x ∷ xs) more some = refl

head_begins : (l : List ℕ) (q e : ℕ) → head_at l q ≡ Some e → first l ≡ 0x54
head_begins l q e is =
    let found = (heads q).found l e is in
    sym (first_take (length (head_text e q)) l (omega (arith, length-head_text e q))) ∙ ap first found.1 ∙ first_head e q

body_begins : (l : List ℕ) (q : ℕ) (d : Body) → body_at l q ≡ Some d → (first l ≡ d.kind) × (1 ≤ d.kind) × (d.kind ≤ 4)
body_begins l q d is =
    let found = (bodies q).found l d is in
    let kind : (1 ≤ d.kind) × (d.kind ≤ 4) = (grind (arith, nat_tests, found.0.0), grind (arith, nat_tests, found.0.0)) in
    (sym (first_take (length (body_text d q)) l (omega (arith, length-body_text d q))) ∙ ap first found.1 ∙ first_body d q, kind.0, kind.1)

no_head_by : (o : Option ℕ) (l : List ℕ) (q : ℕ) → head_at l q ≡ o → (first l ≡ 0x54 → ⊥) → o ≡ None
no_head_by None l q is un = refl
no_head_by (Some e) l q is un = absurd (un (head_begins l q e is))

no_head : (l : List ℕ) (q : ℕ) → (first l ≡ 0x54 → ⊥) → head_at l q ≡ None
no_head l q un = no_head_by (head_at l q) l q refl un

-- ---- what each write says

-- a write that begins with a body says that
begun_if : (o : Option Body) (t : Bool) (q : ℕ) (w : Write) (b d : Body) → o ≡ Some b → (w.at == q + 24) ≡ t → body_alone o q w ≡ Some d → (w.at ≡ q + 24) × (d ≡ b)
begun_if None t q w b d begins test is = absurd (no_some b begins)
begun_if (Some a) true q w b d begins test is = (told w.at (q + 24) test, same_some d a (sym is ∙ ap (λ (s : Bool). if s then Some a else None) test) ∙ same_some a b begins)
begun_if (Some a) false q w b d begins test is = absurd (no_some d (ap (λ (s : Bool). if s then Some a else None) (sym test) ∙ is))

begun : (q : ℕ) (w : Write) (b d : Body) → (first w.bytes ≡ 0x54 → ⊥) → body_at w.bytes (w.at - 24) ≡ Some b → body_written q w ≡ Some d → (w.at ≡ q + 24) × (d ≡ b)
begun q w b d un begins is =
    begun_if (body_at w.bytes (w.at - 24)) (w.at == q + 24) q w b d begins refl (ap (λ (o : Option ℕ). body_behind o q w) (sym (no_head w.bytes w.at un)) ∙ is)

-- a write that begins with neither says the one behind a link
linked_if : (o : Option Body) (t : Bool) (q : ℕ) (w : Write) (d : Body) → body_at w.bytes (w.at - 24) ≡ o → first w.bytes ≡ 0 → (w.at == q + 16) ≡ t → body_alone o q w ≡ Some d → (w.at ≡ q + 16) × (body_at (drop 8 w.bytes) q ≡ Some d)
linked_if (Some a) t q w d there zero_first test is = let k = body_begins w.bytes (w.at - 24) a there in absurd (omega (arith, k.0, k.1, zero_first))
linked_if None true q w d there zero_first test is = (told w.at (q + 16) test, ap (λ (s : Bool). if s then body_at (drop 8 w.bytes) q else None) (sym test) ∙ is)
linked_if None false q w d there zero_first test is = absurd (no_some d (ap (λ (s : Bool). if s then body_at (drop 8 w.bytes) q else None) (sym test) ∙ is))

linked : (q : ℕ) (w : Write) (d : Body) → first w.bytes ≡ 0 → body_written q w ≡ Some d → (w.at ≡ q + 16) × (body_at (drop 8 w.bytes) q ≡ Some d)
linked q w d zero_first is =
    linked_if (body_at w.bytes (w.at - 24)) (w.at == q + 16) q w d refl zero_first refl (ap (λ (o : Option ℕ). body_behind o q w) (sym (no_head w.bytes w.at (λ its. omega (arith, its, zero_first)))) ∙ is)

-- link and body of a block
pub said_reuse : (q0 link : ℕ) (b : Body) (q : ℕ) (d : Body) → link < 2 ^ 56 → FitsBody b → body_written q (record { at = q0 + 16; bytes = to_be_bytes w64 link ++ body_text b q0 }) ≡ Some d → (q ≡ q0) × (d ≡ b)
said_reuse q0 link b q d small fits is =
    let one = linked q (record { at = q0 + 16; bytes = to_be_bytes w64 link ++ body_text b q0 }) d (first_link link (body_text b q0) small) is in
    let same : q ≡ q0 = omega (arith, one.0) in
    let there : body_at (body_text b q0 ++ []) q0 ≡ Some b = (bodies q0).again b [] fits in
    (same, same_some d b (sym one.1 ∙ ap (λ (k : ℕ). body_at (body_text b q0) k) same ∙ ap (λ (l : List ℕ). body_at l q0) (sym (append-nil (body_text b q0))) ∙ there))

-- a body and padding
pub said_overwrite : (q0 : ℕ) (b : Body) (more : List ℕ) (q : ℕ) (d : Body) → FitsBody b → body_written q (record { at = q0 + 24; bytes = body_text b q0 ++ more }) ≡ Some d → (q ≡ q0) × (d ≡ b)
said_overwrite q0 b more q d fits is =
    let there : body_at (body_text b q0 ++ more) q0 ≡ Some b = (bodies q0).again b more fits in
    let begins = body_begins (body_text b q0 ++ more) q0 b there in
    let place : q0 + 24 - 24 ≡ q0 = omega arith in
    let one = begun q (record { at = q0 + 24; bytes = body_text b q0 ++ more }) b d (λ its. omega (arith, its, begins.0, begins.2)) (ap (λ (k : ℕ). body_at (body_text b q0 ++ more) k) place ∙ there) is in
    (omega (arith, one.0), one.1)

-- a whole block
pub said_append : (q0 link : ℕ) (b : Body) (q : ℕ) (d : Body) → FitsBody b → body_written q (record { at = q0; bytes = block_text b q0 link }) ≡ Some d → (q ≡ q0) × (d ≡ b)
said_append q0 link b q d fits is =
    let text = block_text b q0 link in
    let whole : head_at text q0 ≡ Some (extent_of b) = ap (λ (l : List ℕ). head_at l q0) (sym (append-nil text)) ∙ block_head b q0 link [] fits in
    let there : body_at (drop 24 text) q0 ≡ Some b = ap (λ (l : List ℕ). body_at (drop 24 l) q0) (sym (append-nil text)) ∙ block_body b q0 link [] fits in
    step (q0 == q) refl (ap (λ (o : Option ℕ). body_behind o q (record { at = q0; bytes = text })) (sym whole) ∙ is) there
  where
    step : (t : Bool) → (q0 == q) ≡ t → (if t then body_at (drop 24 (block_text b q0 link)) q else None) ≡ Some d → body_at (drop 24 (block_text b q0 link)) q0 ≡ Some b → (q ≡ q0) × (d ≡ b)
    step false test is there = absurd (no_some d is)
    step true test is there =
        let same : q ≡ q0 = sym (told q0 q test) in
        (same, same_some d b (sym is ∙ ap (λ (k : ℕ). body_at (drop 24 (block_text b q0 link)) k) same ∙ there))

-- eight bytes say no body
pub said_cell : (at link q : ℕ) (d : Body) → link < 2 ^ 56 → body_written q (record { at = at; bytes = to_be_bytes w64 link }) ≡ Some d → ⊥
said_cell at link q d small is =
    let zero_first : first (to_be_bytes w64 link) ≡ 0 = ap first (sym (append-nil (to_be_bytes w64 link))) ∙ first_link link [] small in
    let one = linked q (record { at = at; bytes = to_be_bytes w64 link }) d zero_first is in
    let k = body_begins [] q d one.1 in omega (arith, k.0, k.1)
