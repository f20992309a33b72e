-- A file that is read record by record.
use Rattle.std.specs.Prelude.{◌≡◌, ◌⊎◌, ℕ, ◌≤◌, List, [], ◌∷◌, ◌++◌, length, drop, Option, IfSome}
use Rattle.std.specs.List.{flat_map}
use Rattle.tk_flat.specs.Flat.{flat_text}
use Rattle.std.specs.declared.cmp.Ordering.TheVariants.{Less}
use Rattle.tk_model.specs.Orders.{key_cmp}
use Rattle.tk_model.specs.RecordText.{record_text}
use Rattle.tk_model.specs.declared.record.Order.TheVariants.{Hash}
use Rattle.tk_model.specs.declared.record.Pair.{Pair}
use Rattle.tk_model.specs.declared.record.ShardOf.{ShardOf}
use Rattle.tk_mem.specs.TinyFile.{AreFiled}
use Rattle.tk_mem.specs.Undo.{text_size}
use Rattle.tk_mem.specs.declared.load.Loading.{Loading}

-- the last record has this key, where there is one
abbrev pub EndsWith : List Pair → (key : List ℕ) → Type 0
EndsWith [] key = Unit {0}
EndsWith (p ∷ []) key = p.key ≡ key
EndsWith (p ∷ q ∷ ps) key = EndsWith (q ∷ ps) key

-- this key comes behind those of the records
abbrev pub ComesNext : Loading → (key : List ℕ) → Type 0
ComesNext l key = (l.records ≡ []) ⊎ (key_cmp Hash l.last key ≡ Less)

-- the records that were read, and the last of their keys
pub record IsLoaded (shard : ShardOf) (l : Loading) : Type 0 where
  pub filed : AreFiled shard l.records
  pub ends : EndsWith l.records l.last

-- more records were taken from the front of these bytes
pub record Takes (old new : List Pair) (bytes : List ℕ) (count : ℕ) : Type 0 where
  pub more : List Pair
  pub grown : new ≡ old ++ more
  pub text : bytes ≡ flat_map record_text more ++ drop count bytes
  pub within : count ≤ length bytes

-- the file up to a place is the text of these records
pub record IsReadTo (image : Option (List ℕ)) (place : ℕ) (pairs : List Pair) : Type 0 where
  pub size : place ≡ text_size pairs
  pub front : IfSome image (λ f. f ≡ flat_text pairs ++ drop place f)
