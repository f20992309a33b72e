use Rattle.std.proofs.Common.{refl, ◌≡◌, ℕ, ◌+◌, List, ◌++◌, length, sym, ◌∙◌, ap, subst, arith}
use Rattle.std.specs.Prelude.{replicate}
use Rattle.tk_append.specs.Pieces.{Holds}
use Rattle.tk_append.proofs.PiecesSteps.{whole_written}
use Rattle.tk_skipfile.specs.SkipText.{places_from, texts_from, records_text}
use Rattle.tk_skipfile.proofs.Wordless.{none_zero, wordless_called, wordless_joined}
use Rattle.tk_skipfile.proofs.write.write_records.Goals as goal

pub returns-clause-written : goal.returns-clause-written
returns-clause-written g c =
    let pairs = c.args.pairs.now in
    let levels = c.levels_of-levels.result in
    let none : length c.in_ok-waiting.waiting ≡ 0 = ap length c.in_ok-waiting.ensures in
    let start : 32 + length c.in_ok-waiting.waiting ≡ 32 = omega arith in
    let places : c.deref.result.now ≡ places_from levels 0 32 pairs = c.deref.ensures.value ∙ c.in_ok-places.ensures in
    let text : texts_from levels c.deref.result.now 0 (32 + length c.in_ok-waiting.waiting) pairs ≡ records_text pairs =
    ap (λ (n : ℕ). texts_from levels c.deref.result.now 0 n pairs) start
    ∙ ap (λ (l : List ℕ). texts_from levels l 0 32 pairs) places
    ∙ ap (λ (n : ℕ). texts_from n (places_from n 0 32 pairs) 0 32 pairs) c.levels_of-levels.ensures.value in
    let whole : List ℕ = replicate 32 0 ++ records_text pairs in
    whole_written (g.D.Disk.image c.args.disk.now) (g.D.Disk.image c.write_at.new.self) (g.D.Disk.image c.flush.new.disk) c.flush.new.at (replicate 32 0) whole c.requires.empty c.in_ok-write_at.ensures.written
    (λ holds.
    subst (λ (l : List ℕ). Holds (g.D.Disk.image c.flush.new.disk) c.flush.new.at l whole) c.in_ok-flush.ensures.waits
    (subst (λ (l : List ℕ). Holds (g.D.Disk.image c.flush.new.disk) c.flush.new.at c.flush.new.waiting (replicate 32 0 ++ l)) text
    (c.in_ok-flush.ensures.text _ (c.in_ok-put_records.ensures.text (replicate 32 0)
    (subst (λ (l : List ℕ). Holds (g.D.Disk.image c.write_at.new.self) 32 l (replicate 32 0)) (sym c.in_ok-waiting.ensures) holds)))))

pub returns-in_err-write_at-clause-no_word : goal.returns-in_err-write_at-clause-no_word
returns-in_err-write_at-clause-no_word g c =
    wordless_called g.D.Disk.may_leave g.D.Disk.past g.D.Disk.moment g.D.Disk.left_with g.met.D.Disk.only_with _ _ c.write_at.ensures.pasts (none_zero (replicate 32 0) _ _ refl c.write_at.ensures.past)

pub returns-in_err-put_records-clause-no_word : goal.returns-in_err-put_records-clause-no_word
returns-in_err-put_records-clause-no_word g c =
    let first = wordless_called g.D.Disk.may_leave g.D.Disk.past g.D.Disk.moment g.D.Disk.left_with g.met.D.Disk.only_with _ _ c.write_at.ensures.pasts (none_zero (replicate 32 0) _ _ refl c.write_at.ensures.past) in
    wordless_joined g.D.Disk.past g.D.Disk.moment g.D.Disk.left_with _ _ _ first c.put_records.ensures.no_word

pub returns-in_err-flush-clause-no_word : goal.returns-in_err-flush-clause-no_word
returns-in_err-flush-clause-no_word g c =
    let first = wordless_called g.D.Disk.may_leave g.D.Disk.past g.D.Disk.moment g.D.Disk.left_with g.met.D.Disk.only_with _ _ c.write_at.ensures.pasts (none_zero (replicate 32 0) _ _ refl c.write_at.ensures.past) in
    wordless_joined g.D.Disk.past g.D.Disk.moment g.D.Disk.left_with _ _ _ (wordless_joined g.D.Disk.past g.D.Disk.moment g.D.Disk.left_with _ _ _ first c.put_records.ensures.no_word) c.flush.ensures.no_word

pub returns-clause-no_word : goal.returns-clause-no_word
returns-clause-no_word g c =
    let first = wordless_called g.D.Disk.may_leave g.D.Disk.past g.D.Disk.moment g.D.Disk.left_with g.met.D.Disk.only_with _ _ c.write_at.ensures.pasts (none_zero (replicate 32 0) _ _ refl c.write_at.ensures.past) in
    wordless_joined g.D.Disk.past g.D.Disk.moment g.D.Disk.left_with _ _ _ (wordless_joined g.D.Disk.past g.D.Disk.moment g.D.Disk.left_with _ _ _ first c.put_records.ensures.no_word) c.flush.ensures.no_word
