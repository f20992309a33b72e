-- The front of a value, from what the buffer has of it and what is read behind that.
use Rattle.std.proofs.Common.{◌≡◌, ℕ, ◌+◌, ◌-◌, ◌<◌, ◌≤◌, ◌^◌, List, ◌++◌, length, take, drop, sym, ◌∙◌, ap, arith, length-append}
use Rattle.std.specs.Prelude.{min, Option, Some, None, IfSome}
use Rattle.std.proofs.lemmas.List.{drop_all, append-nil, length-take, length-drop, drop-drop, take-append-le}
use Rattle.std.proofs.Math.Seq.{take-add}
use borrow.Rule.Slice.PartMut.{put_mid}
use Rattle.tk_block.specs.declared.block.Body.{Body}
use Rattle.tk_block.specs.Blocks.{body_text}
use Rattle.tk_block.proofs.BodyGrammar.{length-body_text}
use Rattle.tk_block.proofs.Cells.{end_written}
use Rattle.tk_buckets.specs.Lookup.{IsBlockOf}
use Rattle.tk_buckets.specs.declared.lookup.FoundBlock.{FoundBlock}
use Rattle.tk_buckets.proofs.Seen.{tail, behind_key, body_told}

module _ (f key buffer : List ℕ) (x : FoundBlock) (found : IsBlockOf f key buffer x) (have : ℕ) (into copy : List ℕ) (short : length into ≤ x.value_len)
    (count : have ≡ min (length into) (length buffer - (40 + length key))) (bytes : copy ≡ take ((40 + length key + have) - (40 + length key)) (drop (40 + length key) buffer)) (fits : 40 + length key ≤ length buffer) where
  abbrev b : Body
  b = found.body

  copy_is : copy ≡ take have b.value
  copy_is = bytes ∙ ap (λ (n : ℕ). take n (drop (40 + length key) buffer)) (omega arith) ∙ found.value have (omega (arith, count, short, found.value_len)) (omega (arith, count, fits))

  length-copy : length copy ≡ have
  length-copy = ap length copy_is ∙ omega (arith, length-take have b.value, count, short, found.value_len)

  abbrev begun : List ℕ
  begun = copy ++ drop have into

  length-begun : length begun ≡ length into
  length-begun = omega (arith, length-append copy (drop have into), length-copy, length-drop have into, count)

  pub filled_all : length begun ≤ have → begun ≡ take (length into) b.value
  filled_all over =
      let all : have ≡ length into = omega (arith, over, length-begun, count) in
      ap (λ (l : List ℕ). copy ++ l) (drop_all have into (omega (arith, all))) ∙ append-nil copy ∙ copy_is ∙ ap (λ (n : ℕ). take n b.value) all

  module _ (size : length f < 2 ^ 64) (at : ℕ) (ys : List ℕ) (more : have < length begun) (is : at ≡ min (x.place + length buffer) 18446744073709551615)
      (read : at + length (take (length begun - have) (drop have begun)) ≤ length f → ys ≡ take (length (take (length begun - have) (drop have begun))) (drop at f)) where
    abbrev rest : List ℕ
    rest = drop (length (body_text b x.place)) (drop (x.place + 24) f)

    abbrev values : List ℕ
    values = b.value ++ tail b x.place rest

    text_within : x.place + 44 + length b.key + length b.value ≤ length f
    text_within = omega (arith, ap length (body_told f x.place b found.says), length-append (body_text b x.place) rest, length-body_text b x.place, length-drop (x.place + 24) f)

    until : length buffer ≡ 40 + length b.key + have
    until = omega (arith, count, more, length-begun, ap length found.key_is, fits)

    at_is : at ≡ x.place + 24 + (16 + length b.key + have)
    at_is = omega (arith, is, until, more, length-begun, short, found.value_len, text_within, size)

    behind : drop at f ≡ drop have values
    behind =
        ap (λ (n : ℕ). drop n f) at_is ∙ sym (drop-drop (16 + length b.key + have) (x.place + 24) f) ∙ ap (λ (l : List ℕ). drop (16 + length b.key + have) l) (body_told f x.place b found.says)
        ∙ sym (drop-drop have (16 + length b.key) (body_text b x.place ++ rest)) ∙ ap (λ (l : List ℕ). drop have l) (behind_key b x.place rest)

    part : length (take (length begun - have) (drop have begun)) ≡ length into - have
    part = omega (arith, length-take (length begun - have) (drop have begun), length-drop have begun, length-begun)

    rest_is : ys ≡ take (length into - have) (drop have values)
    rest_is =
        read (omega (arith, part, at_is, short, found.value_len, text_within, more, length-begun))
        ∙ ap (λ (n : ℕ). take n (drop at f)) part ∙ ap (λ (l : List ℕ). take (length into - have) l) behind

    pub filled_more : put_mid have (length begun - have) begun ys ≡ take (length into) b.value
    filled_more =
        let sum : have + (length into - have) ≡ length into = omega (arith, count) in
        end_written have (length begun - have) copy (drop have into) ys length-copy (omega (arith, length-drop have into, length-begun))
        ∙ ap (λ (l : List ℕ). l ++ ys) (copy_is ∙ sym (take-append-le have b.value (tail b x.place rest) (omega (arith, count, short, found.value_len))))
        ∙ ap (λ (l : List ℕ). take have values ++ l) rest_is
        ∙ sym (take-add have (length into - have) values)
        ∙ ap (λ (n : ℕ). take n values) sum
        ∙ take-append-le (length into) b.value (tail b x.place rest) (omega (arith, short, found.value_len))

pub filled_told : (o : Option (List ℕ)) (key buffer : List ℕ) (x : FoundBlock) (have : ℕ) (into copy : List ℕ) → have ≡ min (length into) (length buffer - (40 + length key)) → copy ≡ take ((40 + length key + have) - (40 + length key)) (drop (40 + length key) buffer)
    → 40 + length key ≤ length buffer → length (copy ++ drop have into) ≤ have
    → IfSome o (λ f. length f < 2 ^ 64 → length into ≤ x.value_len → (found : IsBlockOf f key buffer x) → copy ++ drop have into ≡ take (length into) found.body.value)
filled_told None key buffer x have into copy count bytes fits over = tt
filled_told (Some f) key buffer x have into copy count bytes fits over = λ size short found. filled_all f key buffer x found have into copy short count bytes fits over

pub filled_more_told : (o : Option (List ℕ)) (key buffer : List ℕ) (x : FoundBlock) (have at : ℕ) (into copy ys : List ℕ) → have ≡ min (length into) (length buffer - (40 + length key)) → copy ≡ take ((40 + length key + have) - (40 + length key)) (drop (40 + length key) buffer)
    → 40 + length key ≤ length buffer → have < length (copy ++ drop have into) → at ≡ min (x.place + length buffer) 18446744073709551615
    → IfSome o (λ f. at + length (take (length (copy ++ drop have into) - have) (drop have (copy ++ drop have into))) ≤ length f → ys ≡ take (length (take (length (copy ++ drop have into) - have) (drop have (copy ++ drop have into)))) (drop at f))
    → IfSome o (λ f. length f < 2 ^ 64 → length into ≤ x.value_len → (found : IsBlockOf f key buffer x) → put_mid have (length (copy ++ drop have into) - have) (copy ++ drop have into) ys ≡ take (length into) found.body.value)
filled_more_told None key buffer x have at into copy ys count bytes fits more is read = tt
filled_more_told (Some f) key buffer x have at into copy ys count bytes fits more is read = λ size short found. filled_more f key buffer x found have into copy short count bytes fits size at ys more is read
