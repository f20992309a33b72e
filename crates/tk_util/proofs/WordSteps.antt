-- When operands are too few or too many.
use Rattle.std.proofs.Common.{◌≡◌, ◌≢◌, ◌+◌, ℕ, None, List, [], ◌∷◌, ◌++◌, length, refl, arith, length-append}
use Rattle.std.specs.Prelude.{String}
use Rattle.std.specs.declared.alloc.Global.{Global}
use Rattle.std.proofs.lemmas.List.{length-map}
use Rattle.tk_util.specs.Words.{words_of, key_words, set_words, restore_words}

pub two_alone : (ws : List (List ℕ)) → length ws ≢ 2 → key_words ws ≡ None
two_alone [] other = refl
two_alone (f ∷ []) other = refl
two_alone (f ∷ k ∷ []) other = absurd (other refl)
two_alone (f ∷ k ∷ v ∷ ws) other = refl

pub names_alone : (ws : List (List ℕ)) → length ws ≢ 2 → restore_words ws ≡ None
names_alone [] other = refl
names_alone (f ∷ []) other = refl
names_alone (f ∷ t ∷ []) other = absurd (other refl)
names_alone (f ∷ t ∷ v ∷ ws) other = refl

pub three_alone : (ws : List (List ℕ)) → length ws ≢ 3 → set_words ws ≡ None
three_alone [] other = refl
three_alone (f ∷ []) other = refl
three_alone (f ∷ k ∷ []) other = refl
three_alone (f ∷ k ∷ v ∷ []) other = absurd (other refl)
three_alone (f ∷ k ∷ v ∷ w ∷ ws) other = refl

pub length_all : (before behind : List (String Global)) → length (words_of before ++ words_of behind) ≡ length before + length behind
length_all before behind = grind (arith, length-append, length-map)
