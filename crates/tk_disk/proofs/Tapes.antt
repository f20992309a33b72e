-- What a step does to a tape.
use Rattle.std.proofs.Common.{◌≡◌, inl, inr, ℕ, ◌+◌, ◌≤◌, List, [], ◌∷◌, ◌++◌, length, get_or, take, refl, sym, ◌∙◌, ap, subst, arith, length-append}
use Rattle.std.proofs.lemmas.Bool.{cases_lt}
use Rattle.std.proofs.lemmas.List.{take-append-le, take_at, append-nil}
use Rattle.tk_disk.specs.Crash.{Torn, Shortened, Follows, Within, Only, Elapses}
use Rattle.tk_disk.specs.Disk.{put_at}
use Rattle.tk_disk.specs.declared.tape.Step.{Step}
use Rattle.tk_disk.specs.declared.tape.Step.TheVariants.{Write, Cut, Sync}
use Rattle.tk_disk.specs.Memory.{TapeView, state_after, state_now, MayLeave, LeftSince, LeftWith, AtSome, TapeElapses, TapeWrites, TapeCuts, TapeSyncs, TapeRests, tape_past, Grows}
use Rattle.tk_disk.specs.TapeInside.{Tells}
use Rattle.tk_disk.specs.Replay.{State, replay, settled, written, shortened, spent, IsLeft, IsLeftWith, IsSound}
use Rattle.tk_disk.specs.Past.{with_write, with_cut, settled_on}
use Rattle.tk_disk.proofs.Still.{still}
use Rattle.tk_disk.proofs.States.{write_follows, cut_follows, settled-only, settled-sound, written-sound, shortened-sound, put_at-outside, length-put_at, take-torn}
use Rattle.tk_disk.proofs.Redoing.{within-more}
use Rattle.tk_disk.proofs.History.{replay-store, spent-take, replay-write, replay-cut, replay-sync, spent-append}

pub begun : (bytes : List ℕ) → Tells bytes [] [] bytes
unfolding settled
begun bytes = record { reads = refl; within = tt; all_stored = refl; sound = settled-sound bytes }

pub begun_as : (bytes first now store : List ℕ) (steps : List Step) → first ≡ bytes → steps ≡ [] → store ≡ [] → now ≡ bytes → Tells first steps store now
begun_as bytes first now store steps f s t n =
    subst (λ (l : List ℕ). Tells l steps store now) (sym f) (subst (λ (l : List Step). Tells bytes l store now) (sym s)
    (subst (λ (l : List ℕ). Tells bytes [] l now) (sym t) (subst (λ (l : List ℕ). Tells bytes [] [] l) (sym n) (begun bytes))))

-- before the first step a crash leaves what is there
pub begun_only : (v : TapeView) (bytes : List ℕ) → v.first ≡ bytes → v.steps ≡ [] → Only bytes (MayLeave v)
unfolding state_now settled
begun_only v bytes first none c left =
    elim (subst (λ (l : List Step). IsLeft (replay l v.store (settled v.first)) c) none left) [ inl now ↦ now ∙ first | inr image ↦ settled-only v.first c image ∙ first ]

pub begun_past : (v : TapeView) (bytes : List ℕ) → v.first ≡ bytes → v.steps ≡ [] → tape_past v ≡ settled_on bytes
unfolding state_now settled
begun_past v bytes first none = ap (λ (l : List Step). (replay l v.store (settled v.first)).past) none ∙ ap settled_on first

module _ (v w : TapeView) (step : Step) (bytes : List ℕ) (grows : Grows v w step bytes) (all_stored : spent v.steps ≡ length v.store) where
  earlier : (k : ℕ) → k ≤ length v.steps → state_after w k ≡ replay (take k v.steps) v.store (settled v.first)
  unfolding state_after
  earlier k le =
      ap (λ (f : List ℕ). replay (take k w.steps) w.store (settled f)) grows.first
      ∙ ap (λ (l : List Step). replay (take k l) w.store (settled v.first)) grows.steps
      ∙ ap (λ (l : List Step). replay l w.store (settled v.first)) (take-append-le k v.steps (step ∷ []) le)
      ∙ ap (λ (l : List ℕ). replay (take k v.steps) l (settled v.first)) grows.store
      ∙ replay-store (take k v.steps) v.store bytes (settled v.first) (omega (arith, all_stored, spent-take k v.steps))

  pub same_after : (k : ℕ) → k ≤ length v.steps → state_after w k ≡ state_after v k
  unfolding state_after
  same_after k le = earlier k le

  whole : take (length v.steps) v.steps ≡ v.steps
  whole = ap (λ (l : List Step). take (length v.steps) l) (sym (append-nil v.steps)) ∙ take_at v.steps [] (length v.steps) refl

  pub last_after : state_after w (length v.steps) ≡ state_now v
  unfolding state_after state_now
  last_after = earlier (length v.steps) (omega arith) ∙ ap (λ (l : List Step). replay l v.store (settled v.first)) whole

  length-steps : length w.steps ≡ length v.steps + 1
  length-steps = ap length grows.steps ∙ length-append v.steps (step ∷ [])

  elapses_as : {I : Type 0} (P : State → I → Type 0) → Elapses (length v.steps) (length w.steps) (AtSome P v) (AtSome P w) (P (state_now w))
  elapses_as P = record {
    later = omega (arith, length-steps);
    nothing_else = λ t x le since. elim since [
      | inl past ↦ elim (cases_lt past.0 (length v.steps)) [
        | inl before ↦ inl (inl (past.0, past.1, before, subst (λ (s : State). P s x) (same_after past.0 (omega arith)) past.3))
        | inr last ↦ inl (inr (subst (λ (s : State). P s x) (ap (λ (k : ℕ). state_after w k) (omega (arith, last, past.2, length-steps)) ∙ last_after) past.3))
      ]
      | inr now ↦ inr now
    ];
    keeps = λ t x le since. elim since [
      | inl past ↦ inl (past.0, past.1, omega (arith, past.2, length-steps), subst (λ (s : State). P s x) (sym (same_after past.0 (omega (arith, past.2)))) past.3)
      | inr now ↦ inl (length v.steps, le, omega (arith, length-steps), subst (λ (s : State). P s x) (sym last_after) now)
    ];
  }

  elapses : TapeElapses v w
  elapses = record { time = elapses_as IsLeft; pasts = elapses_as IsLeftWith }

-- the bytes and the past after a step
now-written : (at : ℕ) (bytes : List ℕ) (s : State) → (written at bytes s).now ≡ put_at at bytes s.now
unfolding written
now-written at bytes s = refl

past-written : (at : ℕ) (bytes : List ℕ) (s : State) → (written at bytes s).past ≡ with_write at bytes s.past
unfolding written
past-written at bytes s = refl

past-shortened : (n : ℕ) (s : State) → (shortened n s).past ≡ with_cut n s.past
unfolding shortened
past-shortened n s = refl

past-settled : (file : List ℕ) → (settled file).past ≡ settled_on file
unfolding settled
past-settled file = refl

now-shortened : (n : ℕ) (s : State) → (shortened n s).now ≡ take n s.now
unfolding shortened
now-shortened n s = refl

now-settled : (file : List ℕ) → (settled file).now ≡ file
unfolding settled
now-settled file = refl

-- a write
module _ (v w : TapeView) (at : ℕ) (bytes : List ℕ) (grows : Grows v w (Write at (length bytes)) bytes) (all_stored : spent v.steps ≡ length v.store) where
  state-write : state_now w ≡ written at bytes (state_now v)
  unfolding state_now
  state-write =
      ap (λ (f : List ℕ). replay w.steps w.store (settled f)) grows.first
      ∙ ap (λ (l : List Step). replay l w.store (settled v.first)) grows.steps
      ∙ ap (λ (l : List ℕ). replay (v.steps ++ Write at (length bytes) ∷ []) l (settled v.first)) grows.store
      ∙ replay-write v.steps v.store bytes at (settled v.first) all_stored

  write_now : (c : List ℕ) → at ≤ length (state_now v).now → c ≡ (written at bytes (state_now v)).now → (d : List ℕ) × IsLeft (state_now v) d × Torn at (length bytes) d c
  unfolding written
  write_now c within is = (
    (state_now v).now,
    inl refl,
    record {
      no_shorter = omega (arith, ap length is, length-put_at at bytes (state_now v).now within);
      same = λ i here out. ap (λ (l : List ℕ). get_or l i 0) is ∙ put_at-outside at bytes (state_now v).now i within here out;
    },
  )

  write_crash : IsSound (state_now v) → at ≤ length (state_now v).now → Follows (Torn at (length bytes)) (MayLeave v) (MayLeave w)
  write_crash sound within c left = elim (subst (λ (s : State). IsLeft s c) state-write left) [
    | inl now ↦ write_now c within now
    | inr image ↦ let d = write_follows (state_now v) at bytes c sound image in (d.0, inr d.1, d.2)
  ]

  pub wrote : IsSound (state_now v) → at ≤ length (state_now v).now → TapeWrites at bytes v w
  wrote sound within = record {
    bytes = ap (λ (s : State). s.now) state-write ∙ now-written at bytes (state_now v);
    past = ap (λ (s : State). s.past) state-write ∙ past-written at bytes (state_now v);
    crash = write_crash sound within;
    time = elapses v w (Write at (length bytes)) bytes grows all_stored;
    grows = grows;
  }

-- a cut
module _ (v w : TapeView) (n : ℕ) (grows : Grows v w (Cut n) []) where
  state-cut : state_now w ≡ shortened n (state_now v)
  unfolding state_now
  state-cut =
      ap (λ (f : List ℕ). replay w.steps w.store (settled f)) grows.first
      ∙ ap (λ (l : List Step). replay l w.store (settled v.first)) grows.steps
      ∙ ap (λ (l : List ℕ). replay (v.steps ++ Cut n ∷ []) l (settled v.first)) (grows.store ∙ append-nil v.store)
      ∙ replay-cut v.steps v.store n (settled v.first)

  cut_now : (c : List ℕ) → c ≡ (shortened n (state_now v)).now → (d : List ℕ) × IsLeft (state_now v) d × Shortened n d c
  unfolding shortened
  cut_now c is = ((state_now v).now, inl refl, take-torn n (state_now v).now c is)

  cut_crash : IsSound (state_now v) → Follows (Shortened n) (MayLeave v) (MayLeave w)
  cut_crash sound c left = elim (subst (λ (s : State). IsLeft s c) state-cut left) [
    | inl now ↦ cut_now c now
    | inr image ↦ let d = cut_follows (state_now v) n c sound image in (d.0, inr d.1, d.2)
  ]

  pub was_cut : IsSound (state_now v) → spent v.steps ≡ length v.store → TapeCuts n v w
  was_cut sound all_stored = record {
    bytes = ap (λ (s : State). s.now) state-cut ∙ now-shortened n (state_now v);
    past = ap (λ (s : State). s.past) state-cut ∙ past-shortened n (state_now v);
    crash = cut_crash sound;
    time = elapses v w (Cut n) [] grows all_stored;
    grows = grows;
  }

-- a hard sync
module _ (v w : TapeView) (grows : Grows v w Sync []) where
  state-sync : state_now w ≡ settled (state_now v).now
  unfolding state_now
  state-sync =
      ap (λ (f : List ℕ). replay w.steps w.store (settled f)) grows.first
      ∙ ap (λ (l : List Step). replay l w.store (settled v.first)) grows.steps
      ∙ ap (λ (l : List ℕ). replay (v.steps ++ Sync ∷ []) l (settled v.first)) (grows.store ∙ append-nil v.store)
      ∙ replay-sync v.steps v.store (settled v.first)

  sync_only : Only (state_now v).now (MayLeave w)
  unfolding settled
  sync_only c left = elim (subst (λ (s : State). IsLeft s c) state-sync left) [ inl now ↦ now | inr image ↦ settled-only (state_now v).now c image ]

  sync_crash : Within (MayLeave v) (MayLeave w)
  sync_crash c left = inl (sync_only c left)

  pub synced : spent v.steps ≡ length v.store → TapeSyncs v w
  synced all_stored = record {
    bytes = ap (λ (s : State). s.now) state-sync ∙ now-settled (state_now v).now;
    past = ap (λ (s : State). s.past) state-sync ∙ past-settled (state_now v).now;
    durable = sync_only;
    crash = sync_crash;
    time = elapses v w Sync [] grows all_stored;
    grows = grows;
  }

pub told : (v : TapeView) (bytes : List ℕ) → Tells v.first v.steps v.store bytes → (state_now v).now ≡ bytes
unfolding state_now
told v bytes tells = tells.reads

pub sound_now : (v : TapeView) (bytes : List ℕ) → Tells v.first v.steps v.store bytes → IsSound (state_now v)
unfolding state_now
sound_now v bytes tells = tells.sound

-- what the fields tell after a step
module _ (start : List ℕ) (done after : List Step) (kept held bytes now : List ℕ) (tells : Tells start done kept bytes) where
  pub tells-write : (at : ℕ) (new : List ℕ) → after ≡ done ++ Write at (length new) ∷ [] → held ≡ kept ++ new → now ≡ put_at at new bytes → at ≤ length bytes → Tells start after held now
  tells-write at new steps store is within =
      let state : replay after held (settled start) ≡ written at new (replay done kept (settled start)) =
      ap (λ (l : List Step). replay l held (settled start)) steps ∙ ap (λ (l : List ℕ). replay (done ++ Write at (length new) ∷ []) l (settled start)) store
      ∙ replay-write done kept new at (settled start) tells.all_stored in
      record {
        reads = ap (λ (s : State). s.now) state ∙ now-written at new (replay done kept (settled start)) ∙ ap (λ (l : List ℕ). put_at at new l) tells.reads ∙ sym is;
        within = within-more done after kept held new start (Write at (length new)) steps store tells.within tells.all_stored (omega (arith, within, ap length tells.reads), tt);
        all_stored = omega (arith, ap spent steps, spent-append done (Write at (length new) ∷ []), ap length store, length-append kept new, tells.all_stored);
        sound = subst (λ (s : State). IsSound s) (sym state) (written-sound (replay done kept (settled start)) at new tells.sound (omega (arith, within, ap length tells.reads)));
      }

  pub tells-cut : (n : ℕ) → after ≡ done ++ Cut n ∷ [] → held ≡ kept ++ [] → now ≡ take n bytes → n ≤ length bytes → Tells start after held now
  tells-cut n steps store is within =
      let state : replay after held (settled start) ≡ shortened n (replay done kept (settled start)) =
      ap (λ (l : List Step). replay l held (settled start)) steps ∙ ap (λ (l : List ℕ). replay (done ++ Cut n ∷ []) l (settled start)) (store ∙ append-nil kept)
      ∙ replay-cut done kept n (settled start) in
      record {
        reads = ap (λ (s : State). s.now) state ∙ now-shortened n (replay done kept (settled start)) ∙ ap (λ (l : List ℕ). take n l) tells.reads ∙ sym is;
        within = within-more done after kept held [] start (Cut n) steps store tells.within tells.all_stored (omega (arith, within, ap length tells.reads), tt);
        all_stored = omega (arith, ap spent steps, spent-append done (Cut n ∷ []), ap length store, ap length (append-nil kept), tells.all_stored);
        sound = subst (λ (s : State). IsSound s) (sym state) (shortened-sound (replay done kept (settled start)) n tells.sound (omega (arith, within, ap length tells.reads)));
      }

  pub tells-sync : after ≡ done ++ Sync ∷ [] → held ≡ kept ++ [] → now ≡ bytes → Tells start after held now
  tells-sync steps store is =
      let state : replay after held (settled start) ≡ settled (replay done kept (settled start)).now =
      ap (λ (l : List Step). replay l held (settled start)) steps ∙ ap (λ (l : List ℕ). replay (done ++ Sync ∷ []) l (settled start)) (store ∙ append-nil kept)
      ∙ replay-sync done kept (settled start) in
      record {
        reads = ap (λ (s : State). s.now) state ∙ now-settled (replay done kept (settled start)).now ∙ tells.reads ∙ sym is;
        within = within-more done after kept held [] start Sync steps store tells.within tells.all_stored tt;
        all_stored = omega (arith, ap spent steps, spent-append done (Sync ∷ []), ap length store, ap length (append-nil kept), tells.all_stored);
        sound = subst (λ (s : State). IsSound s) (sym state) (settled-sound (replay done kept (settled start)).now);
      }

-- less room
unfoldable pub less_room : TapeView → ℕ → TapeView
less_room v n = record { first = v.first; steps = v.steps; store = v.store; room = n }

pub rested : (v : TapeView) (n : ℕ) → TapeRests v (less_room v n)
unfolding state_now state_after less_room
rested v n = record {
  bytes = refl;
  past = refl;
  crash = λ c left. left;
  time = record { time = still (length v.steps) (LeftSince v) (MayLeave v); pasts = still (length v.steps) (LeftWith v) (IsLeftWith (state_now v)) };
  stays = record { first = refl; steps = refl; store = refl };
}
