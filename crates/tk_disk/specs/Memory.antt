-- A disk in memory, as contracts see it: what it began with, and each step that changed it.
use Rattle.std.specs.Prelude.{◌≡◌, ◌⊎◌, ℕ, ◌<◌, ◌≤◌, List, [], ◌∷◌, ◌++◌, length, take}
use Rattle.tk_disk.specs.declared.tape.Step.{Step}
use Rattle.tk_disk.specs.declared.tape.Step.TheVariants.{Write, Cut, Sync}
use Rattle.tk_disk.specs.Crash.{Torn, Shortened, Follows, Within, Only, Elapses}
use Rattle.tk_disk.specs.Disk.{put_at}
use Rattle.tk_disk.specs.Past.{Past, with_write, with_cut, settled_on}
use Rattle.tk_disk.specs.Replay.{State, replay, settled, IsLeft, IsLeftWith}

pub record TapeView : Type 0 where
  pub first : List ℕ
  pub steps : List Step
  pub store : List ℕ
  pub room : ℕ

-- one step more is written down, with the bytes of its write
pub record Grows (v w : TapeView) (step : Step) (bytes : List ℕ) : Type 0 where
  pub first : w.first ≡ v.first
  pub steps : w.steps ≡ v.steps ++ step ∷ []
  pub store : w.store ≡ v.store ++ bytes

-- nothing more is written down
pub record Stays (v w : TapeView) : Type 0 where
  pub first : w.first ≡ v.first
  pub steps : w.steps ≡ v.steps
  pub store : w.store ≡ v.store

unfoldable pub state_after : TapeView → ℕ → State
state_after v k = replay (take k v.steps) v.store (settled v.first)

unfoldable pub state_now : TapeView → State
state_now v = replay v.steps v.store (settled v.first)

-- what a read gives
abbrev pub tape_bytes : TapeView → List ℕ
tape_bytes v = (state_now v).now

-- what a crash now may leave
abbrev pub MayLeave : TapeView → List ℕ → Type 0
MayLeave v c = IsLeft (state_now v) c

-- what was written and cut since the last hard sync
abbrev pub tape_past : TapeView → Past
tape_past v = (state_now v).past

-- at some moment from t on the state had P
abbrev pub AtSome : {I : Type 0} → (State → I → Type 0) → TapeView → ℕ → I → Type 0
AtSome P v t x = ((k : ℕ) × (t ≤ k) × (k < length v.steps) × P (state_after v k) x) ⊎ P (state_now v) x

-- what a crash at some moment from t on may have left
abbrev pub LeftSince : TapeView → ℕ → List ℕ → Type 0
LeftSince v t c = AtSome IsLeft v t c

-- the same, with the past of that moment
abbrev pub LeftWith : TapeView → ℕ → Past × List ℕ → Type 0
LeftWith v t x = AtSome IsLeftWith v t x

-- time goes on from one tape to another, over images, and over pasts with images
pub record TapeElapses (v w : TapeView) : Type 0 where
  pub time : Elapses (length v.steps) (length w.steps) (LeftSince v) (LeftSince w) (MayLeave w)
  pub pasts : Elapses (length v.steps) (length w.steps) (LeftWith v) (LeftWith w) (λ x. (x.0 ≡ tape_past w) × MayLeave w x.1)

-- a write of these bytes at this place
pub record TapeWrites (at : ℕ) (new : List ℕ) (v w : TapeView) : Type 0 where
  pub bytes : tape_bytes w ≡ put_at at new (tape_bytes v)
  pub past : tape_past w ≡ with_write at new (tape_past v)
  pub crash : Follows (Torn at (length new)) (MayLeave v) (MayLeave w)
  pub time : TapeElapses v w
  pub grows : Grows v w (Write at (length new)) new

-- a cut to this length
pub record TapeCuts (n : ℕ) (v w : TapeView) : Type 0 where
  pub bytes : tape_bytes w ≡ take n (tape_bytes v)
  pub past : tape_past w ≡ with_cut n (tape_past v)
  pub crash : Follows (Shortened n) (MayLeave v) (MayLeave w)
  pub time : TapeElapses v w
  pub grows : Grows v w (Cut n) []

-- a hard sync
pub record TapeSyncs (v w : TapeView) : Type 0 where
  pub bytes : tape_bytes w ≡ tape_bytes v
  pub past : tape_past w ≡ settled_on (tape_bytes v)
  pub durable : Only (tape_bytes v) (MayLeave w)
  pub crash : Within (MayLeave v) (MayLeave w)
  pub time : TapeElapses v w
  pub grows : Grows v w Sync []

-- a soft sync
pub record TapeRests (v w : TapeView) : Type 0 where
  pub bytes : tape_bytes w ≡ tape_bytes v
  pub past : tape_past w ≡ tape_past v
  pub crash : Within (MayLeave v) (MayLeave w)
  pub time : TapeElapses v w
  pub stays : Stays v w
