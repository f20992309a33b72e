-- What a write leaves of the bytes beside it.
use Rattle.std.proofs.Common.{◌≡◌, ◌⊎◌, inl, inr, ℕ, zero, suc, ◌+◌, ◌-◌, ◌<◌, ◌≤◌, ◌^◌, List, ◌∷◌, ◌++◌, length, take, drop, get_or, refl, sym, ◌∙◌, ap, arith, length-append, length-take, length-drop}
use Rattle.std.specs.Int.{w64, to_be_bytes, from_be_bytes}
use Rattle.std.proofs.lemmas.Bool.{cases_lt}
use Rattle.std.proofs.lemmas.List.{take_at, drop_at, drop_all, drop_more, length-take-le, get_or-take, get_or-drop, get_or_append_left, get_or-append_right}
use Rattle.std.proofs.lemmas.Nat.{from_be_bytes-to_be_bytes_8}
use Rattle.tk_disk.specs.Crash.{Torn, IsOutside}
use Rattle.tk_disk.specs.Disk.{put_at}
use Rattle.tk_block.specs.Number.{u64_in}

module _ (at n : ℕ) (f g : List ℕ) (torn : Torn at n f g) where
  outside_here : (i k : ℕ) → (i + suc k ≤ at) ⊎ (at + n ≤ i) → IsOutside at n i
  outside_here i k (inl before) = inl (omega (arith, before))
  outside_here i k (inr past) = inr past

  outside_behind : (i k : ℕ) → (i + suc k ≤ at) ⊎ (at + n ≤ i) → (i + 1 + k ≤ at) ⊎ (at + n ≤ i + 1)
  outside_behind i k (inl before) = inl (omega (arith, before))
  outside_behind i k (inr past) = inr (omega (arith, past))

  -- it lies in the file, or the file is as long as before
  abbrev pub Reaches : (end : ℕ) → Type 0
  Reaches end = (end ≤ length f) ⊎ (length g ≡ length f)

  reach_behind : (i k : ℕ) → Reaches (i + suc k) → Reaches (i + 1 + k)
  reach_behind i k (inl within) = inl (omega (arith, within))
  reach_behind i k (inr same) = inr same

  none_here : (i k : ℕ) → length f ≤ i → Reaches (i + suc k) → length g ≤ i
  none_here i k past (inl within) = absurd (omega (arith, past, within))
  none_here i k past (inr same) = omega (arith, past, same)

  part_cut : (i k : ℕ) (l : List ℕ) → i < length l → take (suc k) (drop i l) ≡ get_or l i 0 ∷ take k (drop (i + 1) l)
  part_cut i k l here = ap (λ (l : List ℕ). take (suc k) l) (drop_more l i 0 here)

  -- a part
  pub part_kept : (i k : ℕ) → Reaches (i + k) → (i + k ≤ at) ⊎ (at + n ≤ i) → take k (drop i g) ≡ take k (drop i f)
  part_kept i zero reach beside = refl
  part_kept i (suc k) reach beside = elim (cases_lt i (length f)) [
    | inl here ↦
        part_cut i k g (omega (arith, here, torn.no_shorter))
        ∙ ap (λ (x : ℕ). x ∷ take k (drop (i + 1) g)) (torn.same i here (outside_here i k beside))
        ∙ ap (λ (l : List ℕ). get_or f i 0 ∷ l) (part_kept (i + 1) k (reach_behind i k reach) (outside_behind i k beside))
        ∙ sym (part_cut i k f here)
    | inr past ↦ ap (λ (l : List ℕ). take (suc k) l) (drop_all i g (none_here i k past reach) ∙ sym (drop_all i f past))
  ]

  -- a number
  pub number_kept : (i : ℕ) → Reaches (i + 8) → (i + 8 ≤ at) ⊎ (at + n ≤ i) → u64_in g i ≡ u64_in f i
  unfolding u64_in
  number_kept i reach beside = ap (λ (l : List ℕ). from_be_bytes w64 l) (part_kept i 8 reach beside)

module _ (at : ℕ) (bytes f : List ℕ) (within : at ≤ length f) where
  put_beside : (i : ℕ) → i < length f → IsOutside at (length bytes) i → get_or (put_at at bytes f) i 0 ≡ get_or f i 0
  put_beside i here (inl before) =
      get_or_append_left (take at f) (bytes ++ drop (at + length bytes) f) 0 i (omega (arith, before, within, length-take at f)) ∙ get_or-take at f i 0 before
  put_beside i here (inr past) =
      get_or-append_right (take at f) (bytes ++ drop (at + length bytes) f) at i 0 (omega (arith, within, length-take at f)) (omega (arith, past))
      ∙ get_or-append_right bytes (drop (at + length bytes) f) (length bytes) (i - at) 0 refl (omega (arith, past))
      ∙ get_or-drop (at + length bytes) f (i - at - length bytes) 0
      ∙ ap (λ (k : ℕ). get_or f k 0) (omega (arith, past))

  -- bytes that were written are a write of so many
  pub put_torn : Torn at (length bytes) f (put_at at bytes f)
  put_torn = record {
    no_shorter = omega (arith, within, length-append (take at f) (bytes ++ drop (at + length bytes) f), length-append bytes (drop (at + length bytes) f), length-take at f, length-drop (at + length bytes) f);
    same = put_beside;
  }

-- bytes within a file
pub length_put : (at : ℕ) (bytes f : List ℕ) → at + length bytes ≤ length f → length (put_at at bytes f) ≡ length f
length_put at bytes f within =
    omega (arith, within, length-append (take at f) (bytes ++ drop (at + length bytes) f), length-append bytes (drop (at + length bytes) f), length-take at f, length-drop (at + length bytes) f)

-- the number that eight bytes spell
pub number_put : (at value : ℕ) (f : List ℕ) → at ≤ length f → value < 2 ^ 64 → u64_in (put_at at (to_be_bytes w64 value) f) at ≡ value
unfolding u64_in
number_put at value f within small =
    ap (λ (l : List ℕ). from_be_bytes w64 (take 8 l)) (drop_at (take at f) (to_be_bytes w64 value ++ drop (at + 8) f) at (length-take-le at f within))
    ∙ ap (λ (l : List ℕ). from_be_bytes w64 l) (take_at (to_be_bytes w64 value) (drop (at + 8) f) 8 refl)
    ∙ from_be_bytes-to_be_bytes_8 value small
