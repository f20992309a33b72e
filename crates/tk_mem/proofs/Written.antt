-- What is put behind other bytes, on their way to a disk.
use Rattle.std.proofs.Common.{◌≡◌, ℕ, ◌+◌, ◌≤◌, List, [], ◌∷◌, ◌++◌, length, take, drop, refl, sym, ap, ◌∙◌, append_assoc, length-append, arith}
use Rattle.std.specs.Prelude.{Option, Some, None, IfSome}
use Rattle.std.specs.Option.{option_map}
use Rattle.std.specs.Int.{w16, w32, to_be_bytes}
use Rattle.std.specs.List.{flat_map}
use Rattle.std.proofs.lemmas.List.{append-nil, take_at, drop_all, length-take-le}
use Rattle.tk_disk.specs.Disk.{put_at}
use Rattle.tk_model.specs.declared.record.Pair.{Pair}
use Rattle.tk_model.specs.RecordText.{lengths_text, record_text}
use Rattle.tk_flat.specs.Flat.{flat_text, flat_word}
use Rattle.tk_mem.specs.Writing.{with_more}

pub lengths_told : (p : Pair) → lengths_text p ≡ to_be_bytes w16 (length p.key) ++ to_be_bytes w32 (length p.value)
unfolding lengths_text
lengths_told p = refl

pub record_told : (p : Pair) → record_text p ≡ lengths_text p ++ (p.key ++ p.value)
unfolding record_text
record_told p = refl

pub flat_told : (ps : List Pair) → flat_text ps ≡ flat_word ++ flat_map record_text ps
unfolding flat_text
flat_told ps = refl

-- bytes that are put over others, behind those that wait
pub kept_behind : (buffer bytes : List ℕ) (used : ℕ) → used ≤ length buffer
    → take (used + length bytes) (take used buffer ++ (bytes ++ drop (used + length bytes) buffer)) ≡ take used buffer ++ bytes
kept_behind buffer bytes used within =
    let rest = drop (used + length bytes) buffer in
    let long : length (take used buffer ++ bytes) ≡ used + length bytes = omega (arith, length-append (take used buffer) bytes, length-take-le used buffer within) in
    ap (take (used + length bytes)) (sym (append_assoc (take used buffer) bytes rest)) ∙ take_at (take used buffer ++ bytes) rest (used + length bytes) long

-- bytes written at the end
put_end : (f bytes : List ℕ) (at : ℕ) → length f ≡ at → put_at at bytes f ≡ f ++ bytes
put_end f bytes at long =
    ap (λ (l : List ℕ). l ++ (bytes ++ drop (at + length bytes) f)) (ap (take at) (sym (append-nil f)) ∙ take_at f [] at long)
    ∙ ap (λ (l : List ℕ). f ++ (bytes ++ l)) (drop_all (at + length bytes) f (omega (arith, long))) ∙ ap (λ (l : List ℕ). f ++ l) (append-nil bytes)

-- what is put behind in two steps
pub more_twice : (a b : List ℕ) (text : Option (List ℕ)) → with_more b (with_more a text) ≡ with_more (a ++ b) text
more_twice a b None = refl
more_twice a b (Some t) = ap (λ (l : List ℕ). Some l) (append_assoc t a b)

-- ---- the disk

end_of_image : (old new : Option (List ℕ)) (bytes : List ℕ) (at : ℕ) → IfSome old (λ f. length f ≡ at) → new ≡ option_map (put_at at bytes) old → new ≡ option_map (λ f. f ++ bytes) old
end_of_image None new bytes at long is = is
end_of_image (Some f) new bytes at long is = is ∙ ap (λ (l : List ℕ). Some l) (put_end f bytes at long)

long_image : (old new : Option (List ℕ)) (bytes : List ℕ) (at end : ℕ) → IfSome old (λ f. length f ≡ at) → new ≡ option_map (λ f. f ++ bytes) old → end ≡ at + length bytes → IfSome new (λ f. length f ≡ end)
long_image old None bytes at end long is behind = tt
long_image None (Some g) bytes at end long is behind = absurd (cc)
long_image (Some f) (Some g) bytes at end long is behind =
    let same : g ≡ f ++ bytes = cc in
    omega (arith, ap length same, length-append f bytes, long, behind)

-- what waited was written
pub flushed_here : (old new : Option (List ℕ)) (bytes : List ℕ) (at end : ℕ) → IfSome old (λ f. length f ≡ at) → new ≡ option_map (put_at at bytes) old → end ≡ at + length bytes → IfSome new (λ f. length f ≡ end)
flushed_here old new bytes at end long is behind = long_image old new bytes at end long (end_of_image old new bytes at long is) behind

flushed_twice : (bytes : List ℕ) (old : Option (List ℕ)) → option_map (λ (f : List ℕ). f ++ []) (option_map (λ (f : List ℕ). f ++ bytes) old) ≡ option_map (λ (f : List ℕ). f ++ bytes) old
flushed_twice bytes None = refl
flushed_twice bytes (Some f) = ap (λ (l : List ℕ). Some l) (append-nil (f ++ bytes))

pub flushed_text : (old new : Option (List ℕ)) (bytes : List ℕ) (at : ℕ) → IfSome old (λ f. length f ≡ at) → new ≡ option_map (put_at at bytes) old
    → option_map (λ (f : List ℕ). f ++ []) new ≡ option_map (λ (f : List ℕ). f ++ bytes) old
flushed_text old new bytes at long is = ap (option_map (λ (f : List ℕ). f ++ [])) (end_of_image old new bytes at long is) ∙ flushed_twice bytes old

-- bytes were written where none waited
through_twice : (bytes w : List ℕ) (old : Option (List ℕ)) → w ≡ [] → option_map (λ (f : List ℕ). f ++ w) (option_map (λ (f : List ℕ). f ++ bytes) old) ≡ with_more bytes (option_map (λ (f : List ℕ). f ++ w) old)
through_twice bytes w None none = refl
through_twice bytes w (Some f) none =
    ap (λ (l : List ℕ). Some l) (ap (λ (l : List ℕ). (f ++ bytes) ++ l) none ∙ append-nil (f ++ bytes) ∙ ap (λ (l : List ℕ). l ++ bytes) (sym (append-nil f) ∙ ap (λ (l : List ℕ). f ++ l) (sym none)))

pub through_text : (old new : Option (List ℕ)) (bytes w : List ℕ) (at : ℕ) → w ≡ [] → IfSome old (λ f. length f ≡ at) → new ≡ option_map (put_at at bytes) old
    → option_map (λ (f : List ℕ). f ++ w) new ≡ with_more bytes (option_map (λ (f : List ℕ). f ++ w) old)
through_text old new bytes w at none long is = ap (option_map (λ (f : List ℕ). f ++ w)) (end_of_image old new bytes at long is) ∙ through_twice bytes w old none

-- bytes wait behind others
pub kept_text : (image : Option (List ℕ)) (w v bytes : List ℕ) → v ≡ w ++ bytes → option_map (λ (f : List ℕ). f ++ v) image ≡ with_more bytes (option_map (λ (f : List ℕ). f ++ w) image)
kept_text None w v bytes is = refl
kept_text (Some f) w v bytes is = ap (λ (l : List ℕ). Some l) (ap (λ (l : List ℕ). f ++ l) is ∙ sym (append_assoc f w bytes))

-- the text of a record is put in three steps
pub record_put : (p : Pair) (x k v : List ℕ) (a b c d : Option (List ℕ)) → x ≡ lengths_text p → k ≡ p.key → v ≡ p.value → b ≡ with_more x a → c ≡ with_more k b → d ≡ with_more v c → d ≡ with_more (record_text p) a
record_put p x k v a b c d lengths key value one two three =
    three ∙ ap (λ (l : List ℕ). with_more l c) value ∙ ap (with_more p.value) (two ∙ ap (λ (l : List ℕ). with_more l b) key ∙ ap (with_more p.key) (one ∙ ap (λ (l : List ℕ). with_more l a) lengths) ∙ more_twice (lengths_text p) p.key a)
    ∙ more_twice (lengths_text p ++ p.key) p.value a ∙ ap (λ (l : List ℕ). with_more l a) (append_assoc (lengths_text p) p.key p.value ∙ sym (record_told p))

pub records_put : (p : Pair) (ps all : List Pair) (a b c : Option (List ℕ)) → all ≡ p ∷ ps → b ≡ with_more (record_text p) a → c ≡ with_more (flat_map record_text all) a → with_more (flat_map record_text ps) b ≡ c
records_put p ps all a b c are one whole =
    ap (with_more (flat_map record_text ps)) one ∙ more_twice (record_text p) (flat_map record_text ps) a ∙ sym (ap (λ (l : List Pair). with_more (flat_map record_text l) a) are) ∙ sym whole

pub none_put : (ps : List Pair) (a : Option (List ℕ)) → ps ≡ [] → with_more (flat_map record_text ps) a ≡ a
none_put ps None none = refl
none_put ps (Some t) none = ap (λ (l : List ℕ). Some l) (ap (λ (qs : List Pair). t ++ flat_map record_text qs) none ∙ append-nil t)

-- an empty file, the word, the records, and nothing waits
pub all_put : (ps : List Pair) (word w v : List ℕ) (old cut put more last : Option (List ℕ)) → word ≡ flat_word → w ≡ [] → v ≡ [] → cut ≡ option_map (take 0) old
    → put ≡ with_more word (option_map (λ (f : List ℕ). f ++ w) cut) → more ≡ with_more (flat_map record_text ps) put → option_map (λ (f : List ℕ). f ++ v) last ≡ more → last ≡ option_map (λ _. flat_text ps) old
all_put ps word w v old cut put more last is none left cuts one two three = by old last (three ∙ two ∙ ap (with_more (flat_map record_text ps)) (one ∙ ap (λ (o : Option (List ℕ)). with_more word (option_map (λ (f : List ℕ). f ++ w) o)) cuts))
  where
    some_same : (x y : List ℕ) → Some x ≡ Some y → x ≡ y
    some_same x y e = cc

    by : (old last : Option (List ℕ)) → option_map (λ (f : List ℕ). f ++ v) last ≡ with_more (flat_map record_text ps) (with_more word (option_map (λ (f : List ℕ). f ++ w) (option_map (take 0) old)))
        → last ≡ option_map (λ _. flat_text ps) old
    by None None e = refl
    by None (Some g) e = absurd (cc)
    by (Some f) None e = absurd (cc)
    by (Some f) (Some g) e =
        let same : g ++ v ≡ (([] ++ w) ++ word) ++ flat_map record_text ps = some_same _ _ e in
        ap (λ (l : List ℕ). Some l) (sym (append-nil g) ∙ ap (λ (l : List ℕ). g ++ l) (sym left) ∙ same ∙ ap (λ (l : List ℕ). (l ++ word) ++ flat_map record_text ps) none ∙ ap (λ (l : List ℕ). l ++ flat_map record_text ps) is ∙ sym (flat_told ps))
