-- Places and texts of records, and one record more.
use Rattle.std.proofs.Common.{◌≡◌, ℕ, zero, suc, ◌+◌, ◌*◌, ◌^◌, ◌<◌, ◌≤◌, List, [], ◌∷◌, ◌++◌, length, get_or, drop, refl, sym, ap, ◌∙◌, arith, add-one, append_assoc, length-append, drop-cons}
use Rattle.std.specs.Prelude.{replicate, Option, Some}
use Rattle.std.specs.Option.{option_map}
use Rattle.std.specs.Int.{w32, w64, to_be_bytes}
use Rattle.std.proofs.lemmas.List.{append-nil, drop_all, drop_at}
use Rattle.tk_disk.specs.Disk.{put_at}
use Rattle.tk_model.specs.declared.record.Pair.{Pair}
use Rattle.tk_model.specs.Records.{AllHeld}
use Rattle.tk_model.specs.RecordText.{record_text}
use Rattle.tk_model.proofs.RecordTexts.{length-record}
use Rattle.tk_block.specs.Text.{checked, check_number}
use Rattle.tk_append.specs.Pieces.{words_text}
use Rattle.tk_skipfile.specs.SkipText.{header_front, header_text, height, size_of, end_from, links_from, links_of, linked_text, texts_from}

-- each record is within the limits
pub held_at : (ps : List Pair) (i : ℕ) (p : Pair) → AllHeld ps → i < length ps → p ≡ get_or ps i p → (length p.key ≤ 65535) × (length p.value ≤ 33554431)
held_at [] i p held within is = absurd (omega arith)
held_at (q ∷ ps) zero p held within is = (omega (arith, held.0, ap (λ (r : Pair). length r.key) is), omega (arith, held.1, ap (λ (r : Pair). length r.value) is))
held_at (q ∷ ps) (suc i) p held within is = held_at ps i p held.2 (omega arith) is

-- the records from one on, and those behind it
pub cut : (ps : List Pair) (i : ℕ) (p : Pair) → i < length ps → p ≡ get_or ps i p → drop i ps ≡ p ∷ drop (i + 1) ps
cut ps i p within is =
    drop-cons ps i p within ∙ ap (λ (q : Pair). q ∷ drop (suc i) ps) (sym is) ∙ ap (λ (k : ℕ). p ∷ drop k ps) (sym (add-one i))

pub end_behind : (levels i place : ℕ) (ps : List Pair) → place ≤ end_from levels i place ps
end_behind levels i place [] = omega arith
end_behind levels i place (p ∷ ps) = let more = end_behind levels (i + 1) (place + size_of levels i p) ps in omega arith

pub links_more : (n m level : ℕ) (places : List ℕ) (i : ℕ) → n ≡ m + 1 → links_from n level places i ≡ get_or places (i + 4 ^ level) 0 ∷ links_from m (level + 1) places i
links_more zero m level places i is = absurd (omega arith)
links_more (suc n) m level places i is = let same : n ≡ m = omega arith in ap (λ (k : ℕ). get_or places (i + 4 ^ level) 0 ∷ links_from k (level + 1) places i) same

pub links_end : (n level : ℕ) (places : List ℕ) (i : ℕ) → n ≡ 0 → links_from n level places i ≡ []
links_end zero level places i is = refl
links_end (suc n) level places i is = absurd (omega arith)

pub length-links : (n level : ℕ) (places : List ℕ) (i : ℕ) → length (links_from n level places i) ≡ n
length-links zero level places i = refl
length-links (suc n) level places i = ap suc (length-links n (level + 1) places i)

pub length-words : (xs : List ℕ) → length (words_text xs) ≡ 8 * length xs
length-words [] = refl
length-words (x ∷ xs) = let more = length-words xs in omega (arith, length-append (to_be_bytes w64 x) (words_text xs))

pub length-checked : (bytes : List ℕ) (place : ℕ) → length (checked bytes place) ≡ length bytes + 4
unfolding checked
length-checked bytes place = length-append bytes (to_be_bytes w32 (check_number bytes place))

pub length-linked : (levels : ℕ) (places : List ℕ) (i : ℕ) (p : Pair) (place : ℕ) → length (linked_text levels places i p place) ≡ size_of levels i p
length-linked levels places i p place =
    let links = links_of levels places i in
    omega (arith, length-checked (words_text links ++ record_text p) place, length-append (words_text links) (record_text p), length-words links, length-links (height levels i) 1 places i, length-record p)

-- one link more
pub words_more : (out new all : List ℕ) (n m level : ℕ) (places : List ℕ) (i : ℕ) → n ≡ m + 1 → new ≡ out ++ to_be_bytes w64 (get_or places (i + 4 ^ level) 0)
    → out ++ words_text (links_from n level places i) ≡ all → new ++ words_text (links_from m (level + 1) places i) ≡ all
words_more out new all n m level places i is more so_far =
    ap (λ (l : List ℕ). l ++ words_text (links_from m (level + 1) places i)) more
    ∙ append_assoc out (to_be_bytes w64 (get_or places (i + 4 ^ level) 0)) (words_text (links_from m (level + 1) places i))
    ∙ ap (λ (l : List ℕ). out ++ words_text l) (sym (links_more n m level places i is))
    ∙ so_far

-- the records from one on end where they all do
pub end_more : (levels i place next : ℕ) (ps : List Pair) (p : Pair) → i < length ps → p ≡ get_or ps i p → next ≡ place + size_of levels i p
    → end_from levels i place (drop i ps) ≡ end_from levels (i + 1) next (drop (i + 1) ps)
end_more levels i place next ps p within is here =
    ap (λ (l : List Pair). end_from levels i place l) (cut ps i p within is)
    ∙ ap (λ (n : ℕ). end_from levels (i + 1) n (drop (i + 1) ps)) (sym here)

-- one record more
pub texts_more : (front all : List ℕ) (levels : ℕ) (places : List ℕ) (i place next : ℕ) (ps : List Pair) (p : Pair) → i < length ps → p ≡ get_or ps i p → next ≡ place + size_of levels i p
    → front ++ texts_from levels places i place (drop i ps) ≡ all → (front ++ linked_text levels places i p place) ++ texts_from levels places (i + 1) next (drop (i + 1) ps) ≡ all
texts_more front all levels places i place next ps p within is here so_far =
    ap (λ (n : ℕ). (front ++ linked_text levels places i p place) ++ texts_from levels places (i + 1) n (drop (i + 1) ps)) here
    ∙ append_assoc front (linked_text levels places i p place) (texts_from levels places (i + 1) (place + size_of levels i p) (drop (i + 1) ps))
    ∙ sym (ap (λ (l : List Pair). front ++ texts_from levels places i place l) (cut ps i p within is))
    ∙ so_far

pub texts_end : (front all : List ℕ) (levels : ℕ) (places : List ℕ) (i place : ℕ) (ps : List Pair) → length ps ≤ i → front ++ texts_from levels places i place (drop i ps) ≡ all → front ≡ all
texts_end front all levels places i place ps behind so_far =
    sym (append-nil front) ∙ sym (ap (λ (l : List Pair). front ++ texts_from levels places i place l) (drop_all i ps behind)) ∙ so_far

-- the header is written into the zero bytes
pub header_put : (image new : Option (List ℕ)) (header rest : List ℕ) → length header ≡ 32 → image ≡ Some (replicate 32 0 ++ rest) → new ≡ option_map (put_at 0 header) image → new ≡ Some (header ++ rest)
header_put image new header rest long was put =
    put ∙ ap (λ (o : Option (List ℕ)). option_map (put_at 0 header) o) was
    ∙ ap (λ (n : ℕ). Some (header ++ drop (0 + n) (replicate 32 0 ++ rest))) long
    ∙ ap (λ (l : List ℕ). Some (header ++ l)) (drop_at (replicate 32 0) rest 32 refl)

pub length-header : (count generation : ℕ) → length (header_text count generation) ≡ 32
unfolding header_text header_front
length-header count generation = refl
