-- The last hard sync among steps.
use Rattle.std.proofs.Common.{◌≡◌, inl, inr, ⊎_elim, ℕ, ◌+◌, ◌<◌, ◌≤◌, List, [], ◌∷◌, ◌++◌, length, get_or, take, drop, refl, sym, ◌∙◌, ap, subst, arith, length-append, length-take}
use Rattle.std.proofs.lemmas.List.{take-append-le, take_all, take_more, drop_all}
use lib.Seq.{drop-append-le}
use Rattle.tk_disk.specs.declared.tape.Step.{Step}
use Rattle.tk_disk.specs.declared.tape.Step.TheVariants.{Write, Cut, Sync}
use Rattle.tk_disk.specs.Replay.{spent}
use Rattle.tk_disk.specs.Redone.{HasNoSync, EndsWithLastSync}
use Rattle.tk_disk.proofs.History.{spent-append, spent-take}

none-append : (steps more : List Step) → HasNoSync steps → HasNoSync more → HasNoSync (steps ++ more)
none-append [] more none after = after
none-append (Write at n ∷ steps) more none after = none-append steps more none after
none-append (Cut n ∷ steps) more none after = none-append steps more none after
none-append (Sync ∷ steps) more none after = absurd none

-- what is known after some of the steps
pub record Counted (steps : List Step) (i synced bytes first_bytes : ℕ) : Type 0 where
  pub last : EndsWithLastSync synced (take i steps)
  pub bytes_so_far : bytes ≡ spent (take i steps)
  pub bytes_synced : first_bytes ≡ spent (take synced (take i steps))

pub counted-none : (steps : List Step) → Counted steps 0 0 0 0
counted-none steps = record { last = record { within = omega arith; last = inl refl; none_later = tt }; bytes_so_far = refl; bytes_synced = refl }

other : (steps : List Step) (step : Step) (k : ℕ) → HasNoSync (step ∷ []) → EndsWithLastSync k steps → EndsWithLastSync k (steps ++ step ∷ [])
other steps step k none ends = record {
  within = omega (arith, ends.within, length-append steps (step ∷ []));
  last = ⊎_elim (λ zero. inl zero) (λ p. inr (p.0, take-append-le k steps (step ∷ []) ends.within ∙ p.1)) ends.last;
  none_later = subst HasNoSync (sym (drop-append-le k steps (step ∷ []) ends.within)) (none-append (drop k steps) (step ∷ []) ends.none_later none);
}

module _ (steps : List Step) (i : ℕ) (d step : Step) (within : i < length steps) (here : get_or steps i d ≡ step) where
  more : take (i + 1) steps ≡ take i steps ++ step ∷ []
  more = take_more steps i d within ∙ ap (λ (s : Step). take i steps ++ s ∷ []) here

  spent_more : spent (take (i + 1) steps) ≡ spent (take i steps) + spent (step ∷ [])
  spent_more = ap spent more ∙ spent-append (take i steps) (step ∷ [])

  pub spent_within : spent (take i steps) + spent (step ∷ []) ≤ spent steps
  spent_within = omega (arith, spent_more, spent-take (i + 1) steps)

  -- a step that is no sync
  pub counted-other : (synced bytes first_bytes n : ℕ) → HasNoSync (step ∷ []) → n ≡ bytes + spent (step ∷ []) → Counted steps i synced bytes first_bytes → Counted steps (i + 1) synced n first_bytes
  counted-other synced bytes first_bytes n none is counted = record {
    last = subst (λ (l : List Step). EndsWithLastSync synced l) (sym more) (other (take i steps) step synced none counted.last);
    bytes_so_far = omega (arith, is, spent_more, counted.bytes_so_far);
    bytes_synced = counted.bytes_synced ∙ ap spent (sym (ap (λ (l : List Step). take synced l) more ∙ take-append-le synced (take i steps) (step ∷ []) counted.last.within));
  }

  -- a sync
  pub counted-sync : (synced bytes first_bytes : ℕ) → step ≡ Sync → Counted steps i synced bytes first_bytes → Counted steps (i + 1) (i + 1) bytes bytes
  counted-sync synced bytes first_bytes sync counted =
      let all : take (i + 1) (take (i + 1) steps) ≡ take (i + 1) steps = take_all (i + 1) (take (i + 1) steps) (omega (arith, length-take (i + 1) steps)) in
      let same : bytes ≡ spent (take (i + 1) steps) = omega (arith, counted.bytes_so_far, spent_more, ap (λ (s : Step). spent (s ∷ [])) sync) in
      record {
        last = record {
          within = omega (arith, length-take (i + 1) steps);
          last = inr (take i steps, all ∙ more ∙ ap (λ (s : Step). take i steps ++ s ∷ []) sync);
          none_later = subst HasNoSync (sym (drop_all (i + 1) (take (i + 1) steps) (omega (arith, length-take (i + 1) steps)))) tt;
        };
        bytes_so_far = same;
        bytes_synced = same ∙ ap spent (sym all);
      }

whole : (steps : List Step) (i : ℕ) → length steps ≤ i → take i steps ≡ steps
whole steps i le = take_all i steps le

pub ends : (steps : List Step) (i synced bytes first_bytes : ℕ) → length steps ≤ i → Counted steps i synced bytes first_bytes → EndsWithLastSync synced steps
ends steps i synced bytes first_bytes le counted = subst (λ (l : List Step). EndsWithLastSync synced l) (whole steps i le) counted.last

pub ends-bytes : (steps : List Step) (i synced bytes first_bytes : ℕ) → length steps ≤ i → Counted steps i synced bytes first_bytes → first_bytes ≡ spent (take synced steps)
ends-bytes steps i synced bytes first_bytes le counted = counted.bytes_synced ∙ ap (λ (l : List Step). spent (take synced l)) (whole steps i le)
