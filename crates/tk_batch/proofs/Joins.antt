-- Texts put together part by part.
use Rattle.std.proofs.Common.{◌≡◌, ℕ, List, ◌++◌, ap, ◌∙◌, refl, append_assoc}
use Rattle.std.specs.Prelude.{Result, Ok, Err, OnOk}

pub ruleset appends = (append_assoc)

-- a text of eight parts and an end
pub eight_parts : {E : Type 0} (r : Result (Unit {0}) E) (old a b c d e f g h i x1 x2 x3 x4 x5 x6 x7 x8 x9 : List ℕ)
    → x1 ≡ old ++ a → x2 ≡ x1 ++ b → x3 ≡ x2 ++ c → x4 ≡ x3 ++ d → x5 ≡ x4 ++ e → x6 ≡ x5 ++ f → x7 ≡ x6 ++ g → x8 ≡ x7 ++ h → OnOk r (x9 ≡ x8 ++ i)
    → OnOk r (x9 ≡ old ++ (a ++ (b ++ (c ++ (d ++ (e ++ (f ++ (g ++ (h ++ i)))))))))
eight_parts (Ok u) old a b c d e f g h i x1 x2 x3 x4 x5 x6 x7 x8 x9 p1 p2 p3 p4 p5 p6 p7 p8 p9 =
    p9 ∙ (ap (λ t. t ++ i) (p8 ∙ (ap (λ t. t ++ h) (p7 ∙ (ap (λ t. t ++ g) (p6 ∙ (ap (λ t. t ++ f) (p5 ∙ (ap (λ t. t ++ e) (p4 ∙ (ap (λ t. t ++ d) (p3 ∙ (ap (λ t. t ++ c) (p2 ∙ (ap (λ t. t ++ b) p1
    ∙ append_assoc old a b)) ∙ append_assoc old (a ++ b) c)) ∙ append_assoc old ((a ++ b) ++ c) d)) ∙ append_assoc old (((a ++ b) ++ c) ++ d) e)) ∙ append_assoc old ((((a ++ b) ++ c) ++ d) ++ e) f))
    ∙ append_assoc old (((((a ++ b) ++ c) ++ d) ++ e) ++ f) g)) ∙ append_assoc old ((((((a ++ b) ++ c) ++ d) ++ e) ++ f) ++ g) h)) ∙ (append_assoc old (((((((a ++ b) ++ c) ++ d) ++ e) ++ f) ++ g) ++ h) i ∙ ap (λ t. old ++ t) (simp append_assoc refl)))
eight_parts (Err z) old a b c d e f g h i x1 x2 x3 x4 x5 x6 x7 x8 x9 p1 p2 p3 p4 p5 p6 p7 p8 p9 = tt
