use Rattle.std.proofs.Common.{◌≡◌, ◌-◌, ◌^◌, ◌∙◌, ℕ, List, take, drop, ap, arith}
use Rattle.tk_disk.specs.declared.tape.Step.{Step}
use Rattle.tk_disk.specs.Redone.{redone}
use Rattle.tk_disk.specs.Replay.{spent, replay, settled}
use Rattle.tk_disk.proofs.History.{spent-take}
use Rattle.tk_disk.proofs.Redoing.{within-front, within-back, spent-split, redone-front}
use Rattle.tk_disk.proofs.tape.redo_kept.Goals as goal

pub redo-requires-clause-within : goal.redo-requires-clause-within
redo-requires-clause-within c = rw c.split_at.ensures.front (within-front c.last_sync-synced.result.0 c.args.steps.now c.args.store.now c.args.file.now.items c.requires.within)

pub redo-requires-clause-stored : goal.redo-requires-clause-stored
redo-requires-clause-stored c = omega (arith, ap spent c.split_at.ensures.front, spent-take c.last_sync-synced.result.0 c.args.steps.now, c.requires.stored)

pub redo-requires-clause-room : goal.redo-requires-clause-room
redo-requires-clause-room c = omega (arith, ap spent c.split_at.ensures.front, spent-take c.last_sync-synced.result.0 c.args.steps.now, c.requires.room)

pub split_at-requires-2 : goal.split_at-requires-2
split_at-requires-2 c = omega (arith, c.last_sync-synced.ensures.spent, spent-take c.last_sync-synced.result.0 c.args.steps.now, c.requires.stored)

pub redo-requires-2-clause-within : goal.redo-requires-2-clause-within
redo-requires-2-clause-within c =
    let k = c.last_sync-synced.result.0 in
    let steps = c.args.steps.now in
    let store = c.args.store.now in
    let first = c.args.file.now.items in
    let now : c.redo.new.file.items ≡ (replay (take k steps) store (settled first)).now =
    c.redo.ensures.done ∙ ap (λ (l : List Step). redone (2 ^ 64 - 1) l store first) c.split_at.ensures.front ∙ redone-front (2 ^ 64 - 1) k steps store first (omega (arith, c.requires.bound)) in
    let later : c.split_at-2.result.1.now ≡ drop (spent (take k steps)) store = c.split_at-2.ensures.back ∙ ap (λ n. drop n store) c.last_sync-synced.ensures.spent in
    rw (c.split_at.ensures.back, later, now) (within-back k steps store first c.requires.within)

pub redo-requires-2-clause-stored : goal.redo-requires-2-clause-stored
redo-requires-2-clause-stored c =
    omega (arith, ap spent c.split_at.ensures.back, spent-split c.last_sync-synced.result.0 c.args.steps.now, c.split_at-2.ensures.back_len, c.last_sync-synced.ensures.spent, c.requires.stored)

pub redo-requires-2-clause-room : goal.redo-requires-2-clause-room
redo-requires-2-clause-room c =
    omega (arith, ap spent c.split_at.ensures.front, ap spent c.split_at.ensures.back, spent-split c.last_sync-synced.result.0 c.args.steps.now, c.redo.ensures.room, c.redo.ensures.capacity, c.requires.room)

pub returns : goal.returns
returns c =
    let k = c.last_sync-synced.result.0 in
    let steps = c.args.steps.now in
    let store = c.args.store.now in
    let first = c.args.file.now.items in
    let now : c.redo.new.file.items ≡ (replay (take k steps) store (settled first)).now =
    c.redo.ensures.done ∙ ap (λ (l : List Step). redone (2 ^ 64 - 1) l store first) c.split_at.ensures.front ∙ redone-front (2 ^ 64 - 1) k steps store first (omega (arith, c.requires.bound)) in
    let later : c.split_at-2.result.1.now ≡ drop (spent (take k steps)) store = c.split_at-2.ensures.back ∙ ap (λ n. drop n store) c.last_sync-synced.ensures.spent in (
      k,
      c.last_sync-synced.ensures.last,
      c.redo-2.ensures.done
          ∙ ap (λ (l : List Step). redone c.args.keep l c.split_at-2.result.1.now c.redo.new.file.items) c.split_at.ensures.back
          ∙ ap (λ (l : List ℕ). redone c.args.keep (drop k steps) l c.redo.new.file.items) later
          ∙ ap (λ (l : List ℕ). redone c.args.keep (drop k steps) (drop (spent (take k steps)) store) l) now,
    )
