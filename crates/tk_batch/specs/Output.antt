-- The text of a script's output.
use Rattle.std.specs.Prelude.{ℕ, suc, List, [], ◌∷◌, ◌++◌, Option, Some, None, decimal}
use Rattle.std.specs.List.{flat_map}
use Rattle.tk_status.specs.Statuses.{text_of}
use Rattle.tk_flat.specs.Escapes.{escaped}
use Rattle.tk_batch.specs.declared.line.Line.{Line}
use Rattle.tk_batch.specs.declared.line.Out.{Out}

abbrev pub number_text : Option ℕ → List ℕ
number_text None = 45 ∷ []
number_text (Some n) = decimal n

-- empty where there is no value, else `=` and the bytes
abbrev pub field_text : Option (List ℕ) → List ℕ
field_text None = 9 ∷ []
field_text (Some v) = 9 ∷ 61 ∷ escaped v

abbrev pub fields_text : List (Option (List ℕ)) → List ℕ
fields_text fields = flat_map field_text fields

-- number or `-`, worker, line, status, fields
abbrev pub out_text : (worker line : ℕ) → Out → List ℕ
out_text worker line o = number_text o.number ++ (9 ∷ (decimal worker ++ (9 ∷ (decimal line ++ (9 ∷ (text_of o.status ++ (fields_text o.fields ++ (10 ∷ []))))))))

-- the output lines, where the first of them is that of the line number n
abbrev pub outs_text : ℕ → List Line → List Out → List ℕ
outs_text n [] outs = []
outs_text n (l ∷ ls) [] = []
outs_text n (l ∷ ls) (o ∷ os) = out_text l.worker n o ++ outs_text (suc n) ls os
