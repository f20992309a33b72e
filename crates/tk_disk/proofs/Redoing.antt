-- What steps done again in part leave is an image that a crash may leave.
use Rattle.std.proofs.Common.{◌≡◌, inl, inr, ℕ, zero, suc, ◌+◌, ◌-◌, ◌<◌, ◌≤◌, Bool, cond, List, [], ◌∷◌, ◌++◌, length, get_or, take, drop, refl, sym, ◌∙◌, ap, subst, arith, length-take, length-drop}
use Rattle.std.proofs.lemmas.Bool.Decides.{leb_tells}
use Rattle.std.proofs.lemmas.List.{drop-drop, drop_more, drop_all, take-append-le, take-append-drop}
use lib.Seq.{drop-append-le}
use Rattle.tk_disk.specs.declared.tape.Step.{Step}
use Rattle.tk_disk.specs.declared.tape.Step.TheVariants.{Write, Cut, Sync}
use Rattle.tk_disk.specs.Disk.{put_at}
use Rattle.tk_disk.specs.Crash.{IsOutside}
use Rattle.tk_disk.specs.Replay.{State, replay, settled, written, shortened, spent, AreWithin, IsSound, IsImage}
use Rattle.tk_disk.specs.Memory.{TapeView, state_now, MayLeave}
use Rattle.tk_disk.specs.Redone.{redone, HasNoSync, IsKeptImage}
use Rattle.tk_disk.proofs.History.{spent-append, spent-take}
use Rattle.tk_disk.proofs.States.{settled-sound, written-sound, shortened-sound, longest-put_at, outside-more, outside-less}

pub replay-sound : (steps : List Step) (store : List ℕ) (s : State) → IsSound s → AreWithin steps store s.now → IsSound (replay steps store s)
unfolding settled written shortened
replay-sound [] store s sound within = sound
replay-sound (Write at n ∷ steps) store s sound within = replay-sound steps (drop n store) (written at (take n store) s) (written-sound s at (take n store) sound within.0) within.1
replay-sound (Cut n ∷ steps) store s sound within = replay-sound steps store (shortened n s) (shortened-sound s n sound within.0) within.1
replay-sound (Sync ∷ steps) store s sound within = replay-sound steps store (settled s.now) (settled-sound s.now) within

-- the first k steps, and then the others
pub replay-split : (k : ℕ) (steps : List Step) (store : List ℕ) (s : State) → replay (drop k steps) (drop (spent (take k steps)) store) (replay (take k steps) store s) ≡ replay steps store s
replay-split zero steps store s = refl
replay-split (suc k) [] store s = refl
replay-split (suc k) (Write at n ∷ steps) store s =
    ap (λ (l : List ℕ). replay (drop k steps) l (replay (take k steps) (drop n store) (written at (take n store) s))) (sym (drop-drop (spent (take k steps)) n store))
    ∙ replay-split k steps (drop n store) (written at (take n store) s)
replay-split (suc k) (Cut n ∷ steps) store s = replay-split k steps store (shortened n s)
replay-split (suc k) (Sync ∷ steps) store s = replay-split k steps store (settled s.now)

pub within-front : (k : ℕ) (steps : List Step) (store file : List ℕ) → AreWithin steps store file → AreWithin (take k steps) store file
within-front zero steps store file within = tt
within-front (suc k) [] store file within = tt
within-front (suc k) (Write at n ∷ steps) store file within = (within.0, within-front k steps (drop n store) (put_at at (take n store) file) within.1)
within-front (suc k) (Cut n ∷ steps) store file within = (within.0, within-front k steps store (take n file) within.1)
within-front (suc k) (Sync ∷ steps) store file within = within-front k steps store file within

pub within-rest : (k : ℕ) (steps : List Step) (store : List ℕ) (s : State) → AreWithin steps store s.now → AreWithin (drop k steps) (drop (spent (take k steps)) store) (replay (take k steps) store s).now
unfolding settled written shortened
within-rest zero steps store s within = within
within-rest (suc k) [] store s within = tt
within-rest (suc k) (Write at n ∷ steps) store s within =
    subst (λ (l : List ℕ). AreWithin (drop k steps) l (replay (take k steps) (drop n store) (written at (take n store) s)).now) (drop-drop (spent (take k steps)) n store)
    (within-rest k steps (drop n store) (written at (take n store) s) within.1)
within-rest (suc k) (Cut n ∷ steps) store s within = within-rest k steps store (shortened n s) within.1
within-rest (suc k) (Sync ∷ steps) store s within = within-rest k steps store (settled s.now) within

enough : (n keep : ℕ) → n ≤ keep → (A B : List ℕ) → cond (Rattle.std.specs.Prelude.nat_le n keep) A B ≡ A
enough n keep le A B = elim (leb_tells n keep) [ inl below ↦ ap (λ (b : Bool). cond b A B) below.0 | inr past ↦ absurd (omega (arith, past.1, le)) ]

pub short : (n keep : ℕ) → keep < n → (A B : List ℕ) → cond (Rattle.std.specs.Prelude.nat_le n keep) A B ≡ B
short n keep lt A B = elim (leb_tells n keep) [ inl below ↦ absurd (omega (arith, below.1, lt)) | inr past ↦ ap (λ (b : Bool). cond b A B) past.0 ]

-- where all bytes stand, all is done
pub redone-all : (steps : List Step) (store : List ℕ) (s : State) (keep : ℕ) → spent steps ≤ keep → redone keep steps store s.now ≡ (replay steps store s).now
unfolding settled written shortened
redone-all [] store s keep le = refl
redone-all (Write at n ∷ steps) store s keep le =
    enough n keep (omega arith) (redone (keep - n) steps (drop n store) (put_at at (take n store) s.now)) (put_at at (take keep store) s.now)
    ∙ redone-all steps (drop n store) (written at (take n store) s) (keep - n) (omega arith)
redone-all (Cut n ∷ steps) store s keep le = redone-all steps store (shortened n s) keep le
redone-all (Sync ∷ steps) store s keep le = redone-all steps store (settled s.now) keep le

-- a write or a cut more leaves an image one
image-written : (s : State) (at : ℕ) (bytes c : List ℕ) → IsImage s c → IsImage (written at bytes s) c
unfolding written
image-written s at bytes c image = record { no_shorter = image.no_shorter; same = λ i here fixed out. image.same i here fixed (outside-less i _ s.past.writes out).1; whole = λ clean. absurd (cc (clean)) }

image-shortened : (s : State) (n : ℕ) (c : List ℕ) → IsImage s c → IsImage (shortened n s) c
unfolding shortened
image-shortened s n c image = record { no_shorter = omega (arith, image.no_shorter); same = λ i here fixed out. image.same i here fixed out; whole = λ clean. absurd (cc (clean)) }

image-replay : (steps : List Step) (store : List ℕ) (s : State) (c : List ℕ) → HasNoSync steps → IsImage s c → IsImage (replay steps store s) c
image-replay [] store s c none image = image
image-replay (Write at n ∷ steps) store s c none image = image-replay steps (drop n store) (written at (take n store) s) c none (image-written s at (take n store) c image)
image-replay (Cut n ∷ steps) store s c none image = image-replay steps store (shortened n s) c none (image-shortened s n c image)
image-replay (Sync ∷ steps) store s c none image = absurd none

narrow : (at n m i : ℕ) → m ≤ n → IsOutside at n i → IsOutside at m i
narrow at n m i le (inl below) = inl below
narrow at n m i le (inr above) = inr (omega arith)

-- a part of a write
image-part : (s : State) (at : ℕ) (bytes part : List ℕ) → IsSound s → at ≤ length s.now → length part ≤ length bytes → IsImage (written at bytes s) (put_at at part s.now)
unfolding written
image-part s at bytes part sound within le =
    let reads = (written-sound s at part sound within).reads in
    record {
      no_shorter = reads.no_shorter;
      same = λ i here fixed out.
          let apart = outside-less i _ s.past.writes out in reads.same i here fixed (outside-more i _ s.past.writes (narrow at (length bytes) (length part) i le apart.0) apart.1);
      whole = λ clean. absurd (cc (clean));
    }

-- steps done again in part
pub redone-image : (steps : List Step) (store : List ℕ) (s : State) (keep : ℕ) → HasNoSync steps → IsSound s → AreWithin steps store s.now → IsImage (replay steps store s) (redone keep steps store s.now)
unfolding written shortened
redone-image [] store s keep none sound within = sound.reads
redone-image (Write at n ∷ steps) store s keep none sound within = elim (leb_tells n keep) [
  | inl below ↦ subst (λ (c : List ℕ). IsImage (replay steps (drop n store) (written at (take n store) s)) c)
      (sym (enough n keep below.1 (redone (keep - n) steps (drop n store) (put_at at (take n store) s.now)) (put_at at (take keep store) s.now)))
      (redone-image steps (drop n store) (written at (take n store) s) (keep - n) none (written-sound s at (take n store) sound within.0) within.1)
  | inr past ↦ subst (λ (c : List ℕ). IsImage (replay steps (drop n store) (written at (take n store) s)) c)
      (sym (short n keep past.1 (redone (keep - n) steps (drop n store) (put_at at (take n store) s.now)) (put_at at (take keep store) s.now)))
      (image-replay steps (drop n store) (written at (take n store) s) (put_at at (take keep store) s.now) none
      (image-part s at (take n store) (take keep store) sound within.0 (omega (arith, past.1, length-take n store, length-take keep store))))
]
redone-image (Cut n ∷ steps) store s keep none sound within = redone-image steps store (shortened n s) keep none (shortened-sound s n sound within.0) within.1
redone-image (Sync ∷ steps) store s keep none sound within = absurd none

-- one step more, which fits the file that it meets
within-append : (steps : List Step) (store more : List ℕ) (last : Step) (s : State) → AreWithin steps store s.now → spent steps ≡ length store → AreWithin (last ∷ []) more (replay steps store s).now
    → AreWithin (steps ++ last ∷ []) (store ++ more) s.now
unfolding settled written shortened
within-append [] [] more last s within stored fits = fits
within-append [] (x ∷ store) more last s within stored fits = absurd (omega arith)
within-append (Write at n ∷ steps) store more last s within stored fits = (
  within.0,
  subst (λ (l : List ℕ). AreWithin (steps ++ last ∷ []) l (put_at at (take n (store ++ more)) s.now)) (sym (drop-append-le n store more (omega arith)))
      (subst (λ (l : List ℕ). AreWithin (steps ++ last ∷ []) (drop n store ++ more) (put_at at l s.now)) (sym (take-append-le n store more (omega arith)))
      (within-append steps (drop n store) more last (written at (take n store) s) within.1 (omega (arith, length-drop n store)) fits)),
)
within-append (Cut n ∷ steps) store more last s within stored fits = (within.0, within-append steps store more last (shortened n s) within.1 stored fits)
within-append (Sync ∷ steps) store more last s within stored fits = within-append steps store more last (settled s.now) within stored fits

pub within-more : (done after : List Step) (kept held more start : List ℕ) (last : Step) → after ≡ done ++ last ∷ [] → held ≡ kept ++ more → AreWithin done kept start → spent done ≡ length kept
    → AreWithin (last ∷ []) more (replay done kept (settled start)).now → AreWithin after held start
unfolding settled
within-more done after kept held more start last steps store within stored fits =
    subst (λ (l : List Step). AreWithin l held start) (sym steps)
    (subst (λ (l : List ℕ). AreWithin (done ++ last ∷ []) l start) (sym store) (within-append done kept more last (settled start) within stored fits))

-- what is known while steps are done again
pub record Redoes (keep : ℕ) (steps : List Step) (store file : List ℕ) (room : ℕ) (end : List ℕ) : Type 0 where
  pub same : redone keep steps store file ≡ end
  pub within : AreWithin steps store file
  pub stored : spent steps ≤ length store
  pub fits : length file + spent steps ≤ room

pub redoes-here : (keep : ℕ) (steps : List Step) (i : ℕ) (d step : Step) (store file : List ℕ) (room : ℕ) (end : List ℕ) → i < length steps → get_or steps i d ≡ step → Redoes keep (drop i steps) store file room end
    → Redoes keep (step ∷ drop (i + 1) steps) store file room end
redoes-here keep steps i d step store file room end within here redoes =
    subst (λ (l : List Step). Redoes keep l store file room end) (drop_more steps i d within ∙ ap (λ (s : Step). s ∷ drop (i + 1) steps) here) redoes

module _ (keep : ℕ) (rest : List Step) (store file now : List ℕ) (room : ℕ) (end : List ℕ) where
  pub redoes-write : (at n : ℕ) (bytes after : List ℕ) → n ≤ keep → bytes ≡ take n store → after ≡ drop n store → now ≡ put_at at bytes file → Redoes keep (Write at n ∷ rest) store file room end → Redoes (keep - n) rest after now room end
  redoes-write at n bytes after le taken left is redoes =
      let e : now ≡ put_at at (take n store) file = is ∙ ap (λ (l : List ℕ). put_at at l file) taken in
      subst (λ (l : List ℕ). Redoes (keep - n) rest l now room end) (sym left)
      (subst (λ (l : List ℕ). Redoes (keep - n) rest (drop n store) l room end) (sym e) (record {
        same = sym (enough n keep le (redone (keep - n) rest (drop n store) (put_at at (take n store) file)) (put_at at (take keep store) file)) ∙ redoes.same;
        within = redoes.within.1;
        stored = omega (arith, length-drop n store, redoes.stored);
        fits = omega (arith, redoes.fits, redoes.within.0, longest-put_at at (take n store) file, length-take n store);
      }))

  pub redoes-part : (at n : ℕ) → keep < n → now ≡ put_at at (take keep store) file → Redoes keep (Write at n ∷ rest) store file room end → now ≡ end
  redoes-part at n lt is redoes = is ∙ sym (short n keep lt (redone (keep - n) rest (drop n store) (put_at at (take n store) file)) (put_at at (take keep store) file)) ∙ redoes.same

  pub redoes-cut : (n : ℕ) → now ≡ take n file → Redoes keep (Cut n ∷ rest) store file room end → Redoes keep rest store now room end
  redoes-cut n is redoes = subst (λ (l : List ℕ). Redoes keep rest store l room end) (sym is)
      (record { same = redoes.same; within = redoes.within.1; stored = redoes.stored; fits = omega (arith, redoes.fits, length-take n file) })

pub redoes-sync : (keep : ℕ) (rest : List Step) (store file : List ℕ) (room : ℕ) (end : List ℕ) → Redoes keep (Sync ∷ rest) store file room end → Redoes keep rest store file room end
redoes-sync keep rest store file room end redoes = record { same = redoes.same; within = redoes.within; stored = redoes.stored; fits = redoes.fits }

pub redoes-all : (keep : ℕ) (steps : List Step) (i : ℕ) (store file : List ℕ) (room : ℕ) (end : List ℕ) → length steps ≤ i → Redoes keep (drop i steps) store file room end → file ≡ end
redoes-all keep steps i store file room end le redoes = (subst (λ (l : List Step). Redoes keep l store file room end) (drop_all i steps le) redoes).same

-- up to the last sync, and on
pub spent-split : (k : ℕ) (steps : List Step) → spent (take k steps) + spent (drop k steps) ≡ spent steps
spent-split k steps = sym (spent-append (take k steps) (drop k steps)) ∙ ap spent (take-append-drop k steps)

pub redone-front : (keep k : ℕ) (steps : List Step) (store first : List ℕ) → spent steps ≤ keep → redone keep (take k steps) store first ≡ (replay (take k steps) store (settled first)).now
unfolding settled
redone-front keep k steps store first le = redone-all (take k steps) store (settled first) keep (omega (arith, spent-take k steps))

pub within-back : (k : ℕ) (steps : List Step) (store first : List ℕ) → AreWithin steps store first → AreWithin (drop k steps) (drop (spent (take k steps)) store) (replay (take k steps) store (settled first)).now
unfolding settled
within-back k steps store first within = within-rest k steps store (settled first) within

kept-image : (keep : ℕ) (first : List ℕ) (steps : List Step) (store c : List ℕ) → AreWithin steps store first → IsKeptImage keep first steps store c → IsImage (replay steps store (settled first)) c
unfolding settled
kept-image keep first steps store c within kept =
    let k = kept.0 in
    let front : IsSound (replay (take k steps) store (settled first)) = replay-sound (take k steps) store (settled first) (settled-sound first) (within-front k steps store first within) in
    subst (λ (l : List ℕ). IsImage (replay steps store (settled first)) l) (sym kept.2)
    (subst (λ (s : State). IsImage s (redone keep (drop k steps) (drop (spent (take k steps)) store) (replay (take k steps) store (settled first)).now)) (replay-split k steps store (settled first))
    (redone-image (drop k steps) (drop (spent (take k steps)) store) (replay (take k steps) store (settled first)) keep kept.1.none_later front (within-back k steps store first within)))

pub kept-left : (v : TapeView) (keep : ℕ) (c : List ℕ) → AreWithin v.steps v.store v.first → IsKeptImage keep v.first v.steps v.store c → MayLeave v c
unfolding state_now
kept-left v keep c within kept = inr (kept-image keep v.first v.steps v.store c within kept)
