use Rattle.std.proofs.Common.{◌≡◌, ℕ, ◌+◌, ◌≤◌, ◌^◌, List, [], ◌++◌, length, refl, sym, ◌∙◌, ap, subst, arith, append_assoc}
use Rattle.std.specs.Prelude.{replicate}
use Rattle.tk_block.specs.Text.{base_of}
use Rattle.tk_block.specs.Layout.{laid, end_of, heads_text, texts, links_of}
use Rattle.tk_append.specs.Fresh.{fresh_bodies}
use Rattle.tk_append.specs.Pieces.{Holds, words_text}
use Rattle.tk_append.proofs.Layouts.{end_of-each, end_of-least, length-fresh_bodies}
use Rattle.tk_block.proofs.Layouts.{length-links_of, length-laid}
use Rattle.tk_append.proofs.PiecesSteps.{whole_written}
use Rattle.tk_append.proofs.Nameless.{none_zero, nameless_called, nameless_joined}
use Rattle.tk_append.proofs.FreshSteps.{words_text-heads}
use Rattle.tk_append.proofs.fresh.write_records.Goals as goal

pub chains_of-requires-clause-end : goal.chains_of-requires-clause-end
chains_of-requires-clause-end g c number each = omega (arith, end_of-each (base_of c.args.p) number c.args.number each c.args.each c.args.pairs.now, c.requires.end)

pub put_words-requires-clause-end : goal.put_words-requires-clause-end
put_words-requires-clause-end g c =
    let none : length c.in_ok-waiting.waiting ≡ 0 = ap length c.in_ok-waiting.ensures in
    let heads : length c.deref.result.now ≡ 2 ^ c.args.p = ap length c.deref.ensures.value ∙ (c.in_ok-chains.ensures.heads c.args.number c.args.each).whole in
    omega (arith, none, heads, end_of-least (base_of c.args.p) (fresh_bodies c.args.number c.args.each c.args.pairs.now), c.requires.end)

pub put_records-requires-clause-links : goal.put_records-requires-clause-links
put_records-requires-clause-links g c =
    let bodies = fresh_bodies c.args.number c.args.each c.args.pairs.now in
    ap length (c.deref-2.ensures.value ∙ c.in_ok-chains.ensures.links c.args.number c.args.each)
    ∙ length-links_of c.args.p [] (laid (base_of c.args.p) bodies) ∙ length-laid (base_of c.args.p) bodies ∙ length-fresh_bodies c.args.number c.args.each c.args.pairs.now

pub put_records-requires-clause-end : goal.put_records-requires-clause-end
put_records-requires-clause-end g c =
    let none : length c.in_ok-waiting.waiting ≡ 0 = ap length c.in_ok-waiting.ensures in
    let heads : length c.deref.result.now ≡ 2 ^ c.args.p = ap length c.deref.ensures.value ∙ (c.in_ok-chains.ensures.heads c.args.number c.args.each).whole in
    let start : c.put_words.new.at + length c.put_words.new.waiting ≡ base_of c.args.p = omega (arith, none, heads, c.in_ok-put_words.ensures.end) in
    subst (λ (n : ℕ). end_of n (fresh_bodies c.args.number c.args.each c.args.pairs.now) ≤ 2 ^ 40) (sym start) c.requires.end

pub flush-requires-clause-end : goal.flush-requires-clause-end
flush-requires-clause-end g c =
    let none : length c.in_ok-waiting.waiting ≡ 0 = ap length c.in_ok-waiting.ensures in
    let heads : length c.deref.result.now ≡ 2 ^ c.args.p = ap length c.deref.ensures.value ∙ (c.in_ok-chains.ensures.heads c.args.number c.args.each).whole in
    let start : c.put_words.new.at + length c.put_words.new.waiting ≡ base_of c.args.p = omega (arith, none, heads, c.in_ok-put_words.ensures.end) in
    let end : c.put_records.new.at + length c.put_records.new.waiting ≡ end_of (base_of c.args.p) (fresh_bodies c.args.number c.args.each c.args.pairs.now) =
    c.in_ok-put_records.ensures.end ∙ ap (λ (n : ℕ). end_of n (fresh_bodies c.args.number c.args.each c.args.pairs.now)) start in
    omega (arith, end, c.requires.end)

pub returns-clause-written : goal.returns-clause-written
returns-clause-written g c =
    let bodies = fresh_bodies c.args.number c.args.each c.args.pairs.now in
    let base = base_of c.args.p in
    let none : length c.in_ok-waiting.waiting ≡ 0 = ap length c.in_ok-waiting.ensures in
    let heads : length c.deref.result.now ≡ 2 ^ c.args.p = ap length c.deref.ensures.value ∙ (c.in_ok-chains.ensures.heads c.args.number c.args.each).whole in
    let start : c.put_words.new.at + length c.put_words.new.waiting ≡ base = omega (arith, none, heads, c.in_ok-put_words.ensures.end) in
    let words : words_text c.deref.result.now ≡ heads_text c.args.p (laid base bodies) =
    ap words_text c.deref.ensures.value ∙ words_text-heads c.args.p _ (laid base bodies) (c.in_ok-chains.ensures.heads c.args.number c.args.each) in
    let text : (replicate 64 0 ++ words_text c.deref.result.now) ++ texts (laid (c.put_words.new.at + length c.put_words.new.waiting) bodies) c.deref-2.result.now
    ≡ replicate 64 0 ++ (heads_text c.args.p (laid base bodies) ++ texts (laid base bodies) (links_of c.args.p [] (laid base bodies))) =
    append_assoc (replicate 64 0) (words_text c.deref.result.now) _
    ∙ ap (λ (l : List ℕ). replicate 64 0 ++ (l ++ texts (laid (c.put_words.new.at + length c.put_words.new.waiting) bodies) c.deref-2.result.now)) words
    ∙ ap (λ (n : ℕ). replicate 64 0 ++ (heads_text c.args.p (laid base bodies) ++ texts (laid n bodies) c.deref-2.result.now)) start
    ∙ ap (λ (l : List ℕ). replicate 64 0 ++ (heads_text c.args.p (laid base bodies) ++ texts (laid base bodies) l)) (c.deref-2.ensures.value ∙ c.in_ok-chains.ensures.links c.args.number c.args.each) in
    let whole : List ℕ = replicate 64 0 ++ (heads_text c.args.p (laid base bodies) ++ texts (laid base bodies) (links_of c.args.p [] (laid base bodies))) in
    whole_written (g.D.Disk.image c.args.disk.now) (g.D.Disk.image c.write_at.new.self) (g.D.Disk.image c.flush.new.disk) c.flush.new.at (replicate 64 0) whole c.requires.empty c.in_ok-write_at.ensures.written
    (λ holds.
    subst (λ (l : List ℕ). Holds (g.D.Disk.image c.flush.new.disk) c.flush.new.at l whole) c.in_ok-flush.ensures.waits
    (subst (λ (l : List ℕ). Holds (g.D.Disk.image c.flush.new.disk) c.flush.new.at c.flush.new.waiting l) text
    (c.in_ok-flush.ensures.text _ (c.in_ok-put_records.ensures.text _ (c.in_ok-put_words.ensures.text (replicate 64 0)
    (subst (λ (l : List ℕ). Holds (g.D.Disk.image c.write_at.new.self) 64 l (replicate 64 0)) (sym c.in_ok-waiting.ensures) holds))))))

pub returns-clause-end : goal.returns-clause-end
returns-clause-end g c =
    let none : length c.in_ok-waiting.waiting ≡ 0 = ap length c.in_ok-waiting.ensures in
    let heads : length c.deref.result.now ≡ 2 ^ c.args.p = ap length c.deref.ensures.value ∙ (c.in_ok-chains.ensures.heads c.args.number c.args.each).whole in
    let start : c.put_words.new.at + length c.put_words.new.waiting ≡ base_of c.args.p = omega (arith, none, heads, c.in_ok-put_words.ensures.end) in
    let end : c.put_records.new.at + length c.put_records.new.waiting ≡ end_of (base_of c.args.p) (fresh_bodies c.args.number c.args.each c.args.pairs.now) =
    c.in_ok-put_records.ensures.end ∙ ap (λ (n : ℕ). end_of n (fresh_bodies c.args.number c.args.each c.args.pairs.now)) start in
    c.in_ok-flush.ensures.end ∙ end

pub returns-in_err-write_at-clause-no_header : goal.returns-in_err-write_at-clause-no_header
returns-in_err-write_at-clause-no_header g c =
    nameless_called g.D.Disk.may_leave g.D.Disk.past g.D.Disk.moment g.D.Disk.left_with g.met.D.Disk.only_with _ _ c.write_at.ensures.pasts (none_zero 0 _ _ _ refl c.write_at.ensures.past)

pub returns-in_err-put_words-clause-no_header : goal.returns-in_err-put_words-clause-no_header
returns-in_err-put_words-clause-no_header g c =
    let first = nameless_called g.D.Disk.may_leave g.D.Disk.past g.D.Disk.moment g.D.Disk.left_with g.met.D.Disk.only_with _ _ c.write_at.ensures.pasts (none_zero 0 _ _ _ refl c.write_at.ensures.past) in
    nameless_joined g.D.Disk.past g.D.Disk.moment g.D.Disk.left_with _ _ _ first c.put_words.ensures.no_header

pub returns-in_err-put_records-clause-no_header : goal.returns-in_err-put_records-clause-no_header
returns-in_err-put_records-clause-no_header g c =
    let first = nameless_called g.D.Disk.may_leave g.D.Disk.past g.D.Disk.moment g.D.Disk.left_with g.met.D.Disk.only_with _ _ c.write_at.ensures.pasts (none_zero 0 _ _ _ refl c.write_at.ensures.past) in
    nameless_joined g.D.Disk.past g.D.Disk.moment g.D.Disk.left_with _ _ _ (nameless_joined g.D.Disk.past g.D.Disk.moment g.D.Disk.left_with _ _ _ first c.put_words.ensures.no_header) c.put_records.ensures.no_header

pub returns-in_err-flush-clause-no_header : goal.returns-in_err-flush-clause-no_header
returns-in_err-flush-clause-no_header g c =
    let first = nameless_called g.D.Disk.may_leave g.D.Disk.past g.D.Disk.moment g.D.Disk.left_with g.met.D.Disk.only_with _ _ c.write_at.ensures.pasts (none_zero 0 _ _ _ refl c.write_at.ensures.past) in
    nameless_joined g.D.Disk.past g.D.Disk.moment g.D.Disk.left_with _ _ _ (nameless_joined g.D.Disk.past g.D.Disk.moment g.D.Disk.left_with _ _ _ (nameless_joined g.D.Disk.past g.D.Disk.moment g.D.Disk.left_with _ _ _ first c.put_words.ensures.no_header) c.put_records.ensures.no_header) c.flush.ensures.no_header

pub returns-clause-no_header : goal.returns-clause-no_header
returns-clause-no_header g c =
    let first = nameless_called g.D.Disk.may_leave g.D.Disk.past g.D.Disk.moment g.D.Disk.left_with g.met.D.Disk.only_with _ _ c.write_at.ensures.pasts (none_zero 0 _ _ _ refl c.write_at.ensures.past) in
    nameless_joined g.D.Disk.past g.D.Disk.moment g.D.Disk.left_with _ _ _ (nameless_joined g.D.Disk.past g.D.Disk.moment g.D.Disk.left_with _ _ _ (nameless_joined g.D.Disk.past g.D.Disk.moment g.D.Disk.left_with _ _ _ first c.put_words.ensures.no_header) c.put_records.ensures.no_header) c.flush.ensures.no_header
