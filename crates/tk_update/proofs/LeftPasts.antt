-- What the calls of a disk say of crashes, in terms of its past.
use Rattle.std.proofs.Common.{inl, inr, ℕ, ◌+◌, List, [], ◌∷◌, ◌++◌, length, refl, ◌∙◌, arith}
use Rattle.tk_disk.specs.Crash.{Torn, Shortened, IsOutside}
use Rattle.tk_append.specs.Untorn.{AllWrites}
use Rattle.tk_disk.specs.Past.{Write, Past, with_write, with_cut}
use Rattle.tk_update.specs.FairPast.{Spares, IsLeftBy}
use Rattle.tk_update.specs.Laws.{LeftByPast}

first_writes : (P : Write → Type 0) (ws : List Write) (w : Write) → AllWrites P (ws ++ w ∷ []) → AllWrites P ws × P w
first_writes P [] w all = (tt, all.0)
first_writes P (v ∷ ws) w all = let more = first_writes P ws w all.1 in ((all.0, more.0), more.1)

left_written : (at : ℕ) (bytes : List ℕ) (p : Past) (d c : List ℕ) → IsLeftBy p d → Torn at (length bytes) d c → IsLeftBy (with_write at bytes p) c
left_written at bytes p d c left torn = record {
  long = omega (arith, left.long, torn.no_shorter);
  same = λ i below apart.
      let two = first_writes (Spares i (i + 1)) p.writes (record { at = at; bytes = bytes }) apart in
      let outside : IsOutside at (length bytes) i = elim two.1 [ inl a ↦ inr a | inr b ↦ inl (omega (arith, b)) ] in
      torn.same i (omega (arith, below, left.long)) outside ∙ left.same i below two.0;
}

left_cut : (n : ℕ) (p : Past) (d c : List ℕ) → IsLeftBy p d → Shortened n d c → IsLeftBy (with_cut n p) c
left_cut n p d c left cut = record {
  long = omega (arith, left.long, cut.no_shorter);
  same = λ i below apart. cut.same i (omega (arith, below, left.long)) (omega (arith, below, left.long, cut.no_shorter)) ∙ left.same i (omega (arith, below)) apart;
}

pub left_by_past : LeftByPast
left_by_past = record { written = left_written; cut = left_cut; settled = λ f. record { long = omega arith; same = λ i below apart. refl } }
