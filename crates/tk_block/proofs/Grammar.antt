-- Each text of a header is read exactly.
use Rattle.std.proofs.Common.{◌≡◌, ℕ, ◌+◌, ◌<◌, ◌≤◌, ◌^◌, List, ◌++◌, take, drop, length, get_or, Option, Some, Bool, true, false, refl, sym, ◌∙◌, ap, subst, arith}
use Rattle.std.specs.Prelude.{◌&&◌, nat_le, slice_index}
use Rattle.std.specs.Int.{w32, w64, to_be_bytes, from_be_bytes}
use Rattle.std.proofs.Math.Seq.{take-append_seam}
use Rattle.tk_block.specs.Text.{head_at, head_text, closing_at, closing_in, closing_front, closing_text, static_at, static_text, static_front, fields_in, is_static}
use Rattle.tk_block.specs.Grammar.{Reads, FitsExtent, FitsClosing, FitsStatic}
use Rattle.std.proofs.lemmas.Bool.Decides.{nat_tests}
use Rattle.tk_block.proofs.Heads.{head_found, head_again, length-head_text, short, three_true}
use Rattle.tk_block.specs.declared.head.StaticHead.{StaticHead}
use Rattle.tk_block.proofs.Cells.{within}
use Rattle.tk_block.specs.Number.{u64_in}
use Rattle.tk_block.specs.declared.closing.Closing.{Closing}
use Rattle.tk_model.specs.Hashes.{fnv32_of}
use Rattle.std.specs.Str.{bytes_eq}
use Rattle.std.proofs.lemmas.Slice.Eq.{bytes_eq-Decides}
use Rattle.std.proofs.lemmas.Option.{cond_some}
use Rattle.std.proofs.lemmas.Nat.{from_be_bytes-to_be_bytes_8}
use Rattle.std.proofs.lemmas.List.{length-append, get_or-take}

-- texts of a known length, told by the front of that length
pub from_fronts : {A : Type 0} (Fits : A → Type 0) (text : A → List ℕ) (find : List ℕ → Option A) (n : A → ℕ)
    → ((x : A) → length (text x) ≡ n x)
    → ((bytes : List ℕ) (x : A) → find bytes ≡ Some x → Fits x × (take (n x) bytes ≡ text x))
    → ((bytes : List ℕ) (x : A) → Fits x → take (n x) bytes ≡ text x → find bytes ≡ Some x)
    → Reads Fits text find
from_fronts Fits text find n long found again = record {
  found = λ bytes x h. ((found bytes x h).0, ap (λ k. take k bytes) (long x) ∙ (found bytes x h).1);
  again = λ x rest h. again (text x ++ rest) x h (ap (λ k. take k (text x ++ rest)) (sym (long x)) ∙ take-append_seam (text x) rest);
}

extent_small : (e : ℕ) → FitsExtent e → e < 2 ^ 64
extent_small e fits = grind (arith, nat_tests)

pub heads : (place : ℕ) → Reads FitsExtent (λ e. head_text e place) (λ bytes. head_at bytes place)
heads place = from_fronts _ _ _ (λ _. 16) (λ e. length-head_text e place) (λ bytes e h. head_found bytes place e h) (λ bytes e fits spelled. head_again bytes place e fits (extent_small e fits) spelled)

pub worth_fits : (n : ℕ) → from_be_bytes w64 (to_be_bytes w64 n) < 2 ^ 64
worth_fits n = omega arith

two_true : (a b : Bool) → (a && b) ≡ true → (a ≡ true) × (b ≡ true)
two_true true true h = (refl, refl)
two_true true false h = absurd (cc)
two_true false b h = absurd (cc)

closing_front_long : (c : Closing) → length (closing_front c) ≡ 28
unfolding closing_front
closing_front_long c = refl

pub length-closing_text : (c : Closing) → length (closing_text c) ≡ 32
unfolding closing_text
length-closing_text c = length-append (closing_front c) (to_be_bytes w32 (fnv32_of (closing_front c))) ∙ ap (λ n. n + 4) (closing_front_long c)

-- the number that eight bytes of a front spell
pub number_in : (at n : ℕ) (bytes text : List ℕ) (x : ℕ) → at + 8 ≤ n → take n bytes ≡ text → take 8 (drop at text) ≡ to_be_bytes w64 x → u64_in bytes at ≡ from_be_bytes w64 (to_be_bytes w64 x)
unfolding u64_in
number_in at n bytes text x fits spelled is =
    ap (λ l. from_be_bytes w64 l) (sym (within at 8 n bytes fits) ∙ ap (λ l. take 8 (drop at l)) spelled ∙ is)

closing_parts : (c : Closing) → (take 8 (drop 0 (closing_text c)) ≡ to_be_bytes w64 c.size) × (take 8 (drop 8 (closing_text c)) ≡ to_be_bytes w64 c.count) × (take 8 (drop 16 (closing_text c)) ≡ to_be_bytes w64 c.next)
unfolding closing_text closing_front
closing_parts c = (refl, refl, refl)

-- the fields that a closing part spells are those it was made from, modulo 2^64
closing_fields : (bytes : List ℕ) (c : Closing) → take 32 bytes ≡ closing_text c → (u64_in bytes 0 ≡ from_be_bytes w64 (to_be_bytes w64 c.size)) × (u64_in bytes 8 ≡ from_be_bytes w64 (to_be_bytes w64 c.count)) × (u64_in bytes 16 ≡ from_be_bytes w64 (to_be_bytes w64 c.next))
closing_fields bytes c spelled = (number_in 0 32 bytes _ c.size (omega arith) spelled (closing_parts c).0, number_in 8 32 bytes _ c.count (omega arith) spelled (closing_parts c).1, number_in 16 32 bytes _ c.next (omega arith) spelled (closing_parts c).2)

pub closing_found : (bytes : List ℕ) (c : Closing) → closing_at bytes ≡ Some c → FitsClosing c × (take 32 bytes ≡ closing_text c)
unfolding closing_at
closing_found bytes c found =
    let parts = cond_some _ _ _ found in
    let tests = two_true _ _ parts.0 in
    let spelled : take 32 bytes ≡ closing_text (closing_in bytes) = (bytes_eq-Decides _ _).0 tests.1 in
    let fields = closing_fields bytes (closing_in bytes) spelled in
    let fits : FitsClosing (closing_in bytes) = (rw (← fields.0) at (worth_fits (u64_in bytes 0)), rw (← fields.1) at (worth_fits (u64_in bytes 8)), rw (← fields.2) at (worth_fits (u64_in bytes 16))) in
    subst (λ (x : Closing). FitsClosing x × (take 32 bytes ≡ closing_text x)) parts.1 (fits, spelled)

pub closing_again : (bytes : List ℕ) (c : Closing) → FitsClosing c → take 32 bytes ≡ closing_text c → closing_at bytes ≡ Some c
unfolding closing_at
closing_again bytes c fits spelled =
    let fields = closing_fields bytes c spelled in
    let size : u64_in bytes 0 ≡ c.size = fields.0 ∙ from_be_bytes-to_be_bytes_8 c.size fits.0 in
    let count : u64_in bytes 8 ≡ c.count = fields.1 ∙ from_be_bytes-to_be_bytes_8 c.count fits.1 in
    let next : u64_in bytes 16 ≡ c.next = fields.2 ∙ from_be_bytes-to_be_bytes_8 c.next fits.2 in
    let same : closing_in bytes ≡ c = rw (size, count, next) refl in
    let long : nat_le 32 (length bytes) ≡ true = short 32 bytes (ap length spelled ∙ length-closing_text c) in
    let eq : bytes_eq (take 32 bytes) (closing_text (closing_in bytes)) ≡ true = (bytes_eq-Decides _ _).1 (spelled ∙ ap closing_text (sym same)) in
    rw (long, eq) (ap Some same)

pub closings : Reads FitsClosing closing_text closing_at
closings = from_fronts _ _ _ (λ _. 32) length-closing_text closing_found closing_again

static_front_long : (h : StaticHead) → length (static_front h) ≡ 28
unfolding static_front
static_front_long h = refl

pub length-static_text : (h : StaticHead) → length (static_text h) ≡ 32
unfolding static_text
length-static_text h = length-append (static_front h) (to_be_bytes w32 (fnv32_of (static_front h))) ∙ ap (λ n. n + 4) (static_front_long h)

static_parts : (h : StaticHead) → (slice_index (static_text h) 8 ≡ h.kind) × (slice_index (static_text h) 9 ≡ h.version) × (slice_index (static_text h) 10 ≡ h.p) × (slice_index (static_text h) 11 ≡ h.order) × (take 8 (drop 12 (static_text h)) ≡ to_be_bytes w64 h.generation)
unfolding static_text static_front
static_parts h = (refl, refl, refl, refl, refl)

-- a byte of a front
pub byte_in : (at n : ℕ) (bytes text : List ℕ) → at < n → take n bytes ≡ text → slice_index bytes at ≡ slice_index text at
byte_in at n bytes text fits spelled = sym (get_or-take n bytes at 0 fits) ∙ ap (λ l. get_or l at 0) spelled

-- the fields that a header spells are those it was made from, the generation modulo 2^64
static_fields : (bytes : List ℕ) (h : StaticHead) → take 32 bytes ≡ static_text h → fields_in bytes ≡ record { kind = h.kind; version = h.version; p = h.p; order = h.order; generation = from_be_bytes w64 (to_be_bytes w64 h.generation) }
static_fields bytes h spelled =
    let parts = static_parts h in
    let kind : slice_index bytes 8 ≡ h.kind = byte_in 8 32 bytes _ (omega arith) spelled ∙ parts.0 in
    let version : slice_index bytes 9 ≡ h.version = byte_in 9 32 bytes _ (omega arith) spelled ∙ parts.1 in
    let p : slice_index bytes 10 ≡ h.p = byte_in 10 32 bytes _ (omega arith) spelled ∙ parts.2 in
    let order : slice_index bytes 11 ≡ h.order = byte_in 11 32 bytes _ (omega arith) spelled ∙ parts.3 in
    let generation = number_in 12 32 bytes _ h.generation (omega arith) spelled parts.4 in
    rw (kind, version, p, order, generation) refl

pub static_found : (bytes : List ℕ) (h : StaticHead) → static_at bytes ≡ Some h → FitsStatic h × (take 32 bytes ≡ static_text h)
unfolding static_at
static_found bytes h found =
    let parts = cond_some _ _ _ found in
    let tests = three_true _ _ _ parts.0 in
    let spelled : take 32 bytes ≡ static_text (fields_in bytes) = (bytes_eq-Decides _ _).0 tests.2 in
    let same : u64_in bytes 12 ≡ from_be_bytes w64 (to_be_bytes w64 (u64_in bytes 12)) = ap (λ (x : StaticHead). x.generation) (static_fields bytes (fields_in bytes) spelled) in
    let fits : u64_in bytes 12 < 2 ^ 64 = rw (← same) at (worth_fits (u64_in bytes 12)) in
    subst (λ (x : StaticHead). FitsStatic x × (take 32 bytes ≡ static_text x)) parts.1 ((tests.1, fits), spelled)

pub static_again : (bytes : List ℕ) (h : StaticHead) → FitsStatic h → take 32 bytes ≡ static_text h → static_at bytes ≡ Some h
unfolding static_at
static_again bytes h fits spelled =
    let generation = from_be_bytes-to_be_bytes_8 h.generation fits.1 in
    let same : fields_in bytes ≡ h = static_fields bytes h spelled ∙ rw generation refl in
    let long : nat_le 32 (length bytes) ≡ true = short 32 bytes (ap length spelled ∙ length-static_text h) in
    let valid : is_static (fields_in bytes) ≡ true = ap is_static same ∙ fits.0 in
    let eq : bytes_eq (take 32 bytes) (static_text (fields_in bytes)) ≡ true = (bytes_eq-Decides _ _).1 (spelled ∙ ap static_text (sym same)) in
    rw (long, valid, eq) (ap Some same)

pub statics : Reads FitsStatic static_text static_at
statics = from_fronts _ _ _ (λ _. 32) length-static_text static_found static_again
