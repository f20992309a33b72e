-- What the words of a command line ask for.
use Rattle.std.specs.Prelude.{ℕ, ◌-◌, List, [], ◌∷◌, length, drop, map, slice_index, Bool, not, ◌&&◌, ◌==◌, nat_lt, nat_le, Option, Some, None, option_map, if◌then◌else◌, String, string_bytes, codes}
use Rattle.std.specs.Str.{bytes_eq}
use Rattle.std.specs.declared.alloc.Global.{Global}

pub record SetWords : Type 0 where
  pub file : List ℕ
  pub key : List ℕ
  pub value : List ℕ

pub record KeyWords : Type 0 where
  pub file : List ℕ
  pub key : List ℕ

-- the file that is restored, and the one that is written
pub record RestoreWords : Type 0 where
  pub from : List ℕ
  pub to : List ℕ

-- a command and its operands
pub data Command : Type 0 where
  Get : KeyWords → Command
  Set : SetWords → Command
  Remove : KeyWords → Command
  Restore : RestoreWords → Command

abbrev pub words_of : List (String Global) → List (List ℕ)
words_of words = map (λ w. string_bytes w) words

-- a word that begins with `-` and is longer
abbrev pub is_option : List ℕ → Bool
is_option w = nat_lt 1 (length w) && (slice_index w 0 == 45)

abbrev pub is_end : List ℕ → Bool
is_end w = bytes_eq w (codes "--")

-- the words without `--`, behind which each word is an operand; no option is known
abbrev pub operands : List (List ℕ) → Option (List (List ℕ))
operands [] = Some []
operands (w ∷ ws) = if is_end w then Some ws else (if is_option w then None else option_map (λ rest. w ∷ rest) (operands ws))

-- a name that ends in `.tkh`
abbrev pub is_hash_name : List ℕ → Bool
is_hash_name f = nat_le 4 (length f) && bytes_eq (drop (length f - 4) f) (codes ".tkh")

abbrev pub is_key : List ℕ → Bool
is_key k = nat_le (length k) 65535

abbrev pub is_value : List ℕ → Bool
is_value v = nat_le (length v) 16777215

-- `FILE KEY`
abbrev pub key_words : List (List ℕ) → Option KeyWords
key_words (f ∷ k ∷ []) = if is_hash_name f && is_key k then Some (record { file = f; key = k }) else None
key_words words = None

-- `FILE KEY VALUE`
abbrev pub set_words : List (List ℕ) → Option SetWords
set_words (f ∷ k ∷ v ∷ []) = if is_hash_name f && is_key k && is_value v then Some (record { file = f; key = k; value = v }) else None
set_words words = None

-- `OLD NEW`, two names
abbrev pub restore_words : List (List ℕ) → Option RestoreWords
restore_words (f ∷ t ∷ []) = if is_hash_name f && is_hash_name t && not (bytes_eq f t) then Some (record { from = f; to = t }) else None
restore_words words = None

-- `get FILE KEY`, `set FILE KEY VALUE`, `remove FILE KEY`, `restore OLD NEW`
abbrev pub command_in : (command : List ℕ) → List (List ℕ) → Option Command
command_in c words =
    if bytes_eq c (codes "get") then option_map Get (key_words words)
    else (if bytes_eq c (codes "set") then option_map Set (set_words words)
    else (if bytes_eq c (codes "remove") then option_map Remove (key_words words)
    else (if bytes_eq c (codes "restore") then option_map Restore (restore_words words) else None)))

abbrev pub asked_of : (command : List ℕ) → Option (List (List ℕ)) → Option Command
asked_of c None = None
asked_of c (Some words) = command_in c words

-- the first word names the command
abbrev pub command_of : List (List ℕ) → Option Command
command_of [] = None
command_of (c ∷ words) = asked_of c (operands words)
