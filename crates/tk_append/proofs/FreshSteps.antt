-- The parts of a fresh file.
use Rattle.std.proofs.Common.{◌≡◌, ℕ, zero, suc, ◌<◌, ◌≤◌, ◌^◌, ◌+◌, Bool, true, false, cond, eqb, List, [], ◌∷◌, ◌++◌, length, get_or, take, drop, refl, sym, ◌∙◌, ap, arith, append_assoc, length-append}
use Rattle.std.specs.Prelude.{map, replicate, Option, Some, None, IfSome}
use Rattle.std.specs.Option.{is_some, option_map}
use Rattle.std.specs.Int.{w64, to_be_bytes}
use Rattle.std.proofs.lemmas.List.{append-nil, take_all, drop_at}
use Rattle.tk_disk.specs.Disk.{put_at}
use Rattle.tk_model.specs.declared.record.Pair.{Pair}
use Rattle.tk_model.specs.declared.record.Change.TheVariants.{Put}
use Rattle.tk_block.specs.declared.block.Body.{Body}
use Rattle.tk_block.specs.declared.head.StaticHead.{StaticHead}
use Rattle.tk_block.specs.declared.closing.Closing.{Closing}
use Rattle.tk_block.specs.Text.{static_text, closing_text, base_of}
use Rattle.tk_block.specs.Blocks.{group_bodies, body_of, is_nil}
use Rattle.tk_block.specs.Layout.{Placed, newest, heads_below, heads_text, bodies_of, laid, end_of, links_of, texts, file_text}
use Rattle.tk_block.proofs.Grammar.{length-static_text}
use Rattle.tk_append.specs.Fresh.{apart, together, fresh_groups, fresh_bodies, fresh_next, fresh_text}
use Rattle.tk_append.specs.Chains.{HeadsAre}
use Rattle.tk_append.specs.Pieces.{words_text}
use Rattle.tk_append.proofs.PiecesSteps.{words_take}

heads_words : (p n : ℕ) (heads : List ℕ) (blocks : List Placed) → n ≤ length heads → ((b : ℕ) → b < n → get_or heads b 0 ≡ newest p b 0 blocks) → words_text (take n heads) ≡ heads_below p n blocks
heads_words p zero heads blocks enough each = refl
heads_words p (suc n) heads blocks enough each =
    words_take heads n 0 (omega arith)
    ∙ ap (λ (l : List ℕ). l ++ to_be_bytes w64 (get_or heads n 0)) (heads_words p n heads blocks (omega arith) (λ b below. each b (omega arith)))
    ∙ ap (λ (k : ℕ). heads_below p n blocks ++ to_be_bytes w64 k) (each n (omega arith))

-- the heads as numbers are the heads' text
pub words_text-heads : (p : ℕ) (heads : List ℕ) (blocks : List Placed) → HeadsAre p heads blocks → words_text heads ≡ heads_text p blocks
unfolding heads_text
words_text-heads p heads blocks are =
    ap words_text (sym (take_all (2 ^ p) heads (omega (arith, are.whole))))
    ∙ heads_words p (2 ^ p) heads blocks (omega (arith, are.whole)) are.newest_each

bodies-apart : (number : ℕ) (pairs : List Pair) → bodies_of (apart number pairs) ≡ fresh_bodies number true pairs
bodies-apart number [] = refl
bodies-apart number (p ∷ ps) = ap (λ (l : List Body). body_of number (Put p) true ∷ l) (bodies-apart number ps)

is_nil-map : (ps : List Pair) → is_nil (map Put ps) ≡ is_nil ps
is_nil-map [] = refl
is_nil-map (p ∷ ps) = refl

bodies-map : (number : ℕ) (pairs : List Pair) → group_bodies number (map Put pairs) ≡ fresh_bodies number false pairs
bodies-map number [] = refl
bodies-map number (p ∷ ps) =
    ap (λ (b : Bool). body_of number (Put p) b ∷ group_bodies number (map Put ps)) (is_nil-map ps) ∙ ap (λ (l : List Body). body_of number (Put p) (is_nil ps) ∷ l) (bodies-map number ps)

bodies-together : (number : ℕ) (pairs : List Pair) → bodies_of (together number pairs) ≡ fresh_bodies number false pairs
bodies-together number [] = refl
bodies-together number (p ∷ ps) = append-nil (group_bodies number (Put p ∷ map Put ps)) ∙ bodies-map number (p ∷ ps)

bodies-cases : (number : ℕ) (each : Bool) (pairs : List Pair) → bodies_of (cond each (apart number pairs) (together number pairs)) ≡ fresh_bodies number each pairs
bodies-cases number true pairs = bodies-apart number pairs
bodies-cases number false pairs = bodies-together number pairs

-- the bodies of a fresh file
pub bodies-fresh : (kind number : ℕ) (pairs : List Pair) → bodies_of (fresh_groups kind number pairs) ≡ fresh_bodies number (eqb kind 2) pairs
bodies-fresh kind number pairs = bodies-cases number (eqb kind 2) pairs

-- the closing part's place is there
pub closing_there : (old mid : Option (List ℕ)) (text : List ℕ) → is_some mid ≡ is_some old → IfSome old (λ _. mid ≡ Some (replicate 64 0 ++ text)) → IfSome mid (λ f. 32 ≤ length f)
closing_there old None text told written = tt
closing_there None (Some f) text told written = absurd (cc told)
closing_there (Some x) (Some f) text told written =
    let is : f ≡ replicate 64 0 ++ text = cc written in
    omega (arith, ap length is, length-append (replicate 64 0) text)

-- the file of a header and the bodies of its blocks
file_of : (h : StaticHead) (bodies : List Body) (count next : ℕ) → List ℕ
file_of h bodies count next =
    let closing : Closing = record { size = end_of (base_of h.p) bodies; count = count; next = next } in
    (static_text h ++ closing_text closing) ++ (heads_text h.p (laid (base_of h.p) bodies) ++ texts (laid (base_of h.p) bodies) (links_of h.p [] (laid (base_of h.p) bodies)))

fresh_file : (h : StaticHead) (number : ℕ) (pairs : List Pair) (size count next : ℕ) → size ≡ end_of (base_of h.p) (fresh_bodies number (eqb h.kind 2) pairs) → count ≡ length pairs → next ≡ fresh_next number pairs
    → (static_text h ++ closing_text (record { size = size; count = count; next = next })) ++ (heads_text h.p (laid (base_of h.p) (fresh_bodies number (eqb h.kind 2) pairs))
    ++ texts (laid (base_of h.p) (fresh_bodies number (eqb h.kind 2) pairs)) (links_of h.p [] (laid (base_of h.p) (fresh_bodies number (eqb h.kind 2) pairs))))
    ≡ fresh_text h number pairs
unfolding file_text file_of
fresh_file h number pairs size count next sized counted numbered =
    let bodies = fresh_bodies number (eqb h.kind 2) pairs in
    let rest : List ℕ = heads_text h.p (laid (base_of h.p) bodies) ++ texts (laid (base_of h.p) bodies) (links_of h.p [] (laid (base_of h.p) bodies)) in
    ap (λ (n : ℕ). (static_text h ++ closing_text (record { size = n; count = count; next = next })) ++ rest) sized
    ∙ ap (λ (n : ℕ). file_of h bodies n next) counted
    ∙ ap (λ (n : ℕ). file_of h bodies (length pairs) n) numbered
    ∙ ap (λ (l : List Body). file_of h l (length pairs) (fresh_next number pairs)) (sym (bodies-fresh h.kind number pairs))

-- what stands behind its static header
pub fresh_rest : (h : StaticHead) (number : ℕ) (pairs : List Pair) (size count next : ℕ) → size ≡ end_of (base_of h.p) (fresh_bodies number (eqb h.kind 2) pairs) → count ≡ length pairs → next ≡ fresh_next number pairs
    → closing_text (record { size = size; count = count; next = next }) ++ (heads_text h.p (laid (base_of h.p) (fresh_bodies number (eqb h.kind 2) pairs))
    ++ texts (laid (base_of h.p) (fresh_bodies number (eqb h.kind 2) pairs)) (links_of h.p [] (laid (base_of h.p) (fresh_bodies number (eqb h.kind 2) pairs))))
    ≡ drop 32 (fresh_text h number pairs)
fresh_rest h number pairs size count next sized counted numbered =
    let bodies = fresh_bodies number (eqb h.kind 2) pairs in
    let rest : List ℕ = heads_text h.p (laid (base_of h.p) bodies) ++ texts (laid (base_of h.p) bodies) (links_of h.p [] (laid (base_of h.p) bodies)) in
    let closing = closing_text (record { size = size; count = count; next = next }) in
    sym (drop_at (static_text h) (closing ++ rest) 32 (length-static_text h)) ∙ ap (λ (l : List ℕ). drop 32 l) (sym (append_assoc (static_text h) closing rest) ∙ fresh_file h number pairs size count next sized counted numbered)

-- the closing part is written into the zero bytes
pub rest_written : (old mid new last : Option (List ℕ)) (closing text rest : List ℕ) → length closing ≡ 32 → IfSome old (λ _. mid ≡ Some (replicate 64 0 ++ text)) → new ≡ option_map (put_at 32 closing) mid → last ≡ new
    → closing ++ text ≡ rest → IfSome old (λ _. last ≡ Some (replicate 32 0 ++ rest))
rest_written None mid new last closing text rest long written put same is = tt
rest_written (Some x) mid new last closing text rest long written put same is =
    same ∙ put ∙ ap (λ (o : Option (List ℕ)). option_map (put_at 32 closing) o) written
    ∙ ap (λ (n : ℕ). Some (replicate 32 0 ++ (closing ++ drop (32 + n) (replicate 64 0 ++ text)))) long
    ∙ ap (λ (l : List ℕ). Some (replicate 32 0 ++ (closing ++ l))) (drop_at (replicate 64 0) text 64 refl)
    ∙ ap (λ (l : List ℕ). Some (replicate 32 0 ++ l)) is
