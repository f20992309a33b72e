-- How `get` ends, by its look-up and by printing.
use Rattle.std.proofs.Common.{◌≡◌, ◌≢◌, ℕ, false, List, [], ◌∷◌, ◌++◌, length, refl, sym, ◌∙◌, subst, inl, inr, arith}
use Rattle.std.specs.Prelude.{Option, Some, None, IsSome, ◌⊎◌}
use Rattle.std.specs.Io.KnownBytes.{Appends}
use Rattle.std.proofs.lemmas.List.{take_all}
use Rattle.tk_io.specs.Streams.{AppendsFront}
use Rattle.tk_disk.specs.Folder.{or_empty}
use Rattle.tk_status.specs.declared.finish.Finish.{Finish}
use Rattle.tk_status.specs.Finish.{ended}
use Rattle.tk_proc.specs.Replies.{get_reply}
use Rattle.tk_util.specs.Words.{KeyWords}
use Rattle.tk_util.specs.World.{World}
use Rattle.tk_util.specs.declared.words.FileCommand.{FileCommand}
use Rattle.tk_util.specs.declared.words.FileCommand.TheVariants as asked
use Rattle.tk_util.specs.Asked.{file_said, key_said}
use Rattle.tk_util.specs.Ran.{Ran, IsLine, RanGet}
use Rattle.tk_util.specs.Done.{LookedUp, RanOnFile}
use Rattle.tk_util.proofs.Endings.{ran_stopped, not_status}

pub reply_value : (w : Option (List ℕ)) → (get_reply w).value ≡ w
reply_value None = refl
reply_value (Some v) = refl

zero_alone : (found : Finish) → (found.status ≡ 3) ⊎ (found.status ≡ 6) → found.status ≡ 0 → ⊥
zero_alone found (inl t) z = absurd (cc (t, z))
zero_alone found (inr t) z = absurd (cc (t, z))

stopped_other : (finish : Finish) (k : ℕ) → (finish ≡ ended 4) ⊎ (finish ≡ ended 5) → k ≢ 4 → k ≢ 5 → finish.status ≡ k → ⊥
stopped_other finish k (inl is) four five e = not_status finish (ended 4) k is (λ h. four (sym h)) e
stopped_other finish k (inr is) four five e = not_status finish (ended 5) k is (λ h. five (sym h)) e

not_silent : (finish : Finish) → (finish ≡ ended 4) ⊎ (finish ≡ ended 5) → (finish.status ≡ 3) ⊎ (finish.status ≡ 6) → ⊥
not_silent finish stops (inl t) = stopped_other finish 3 stops (λ h. cc h) (λ h. cc h) t
not_silent finish stops (inr t) = stopped_other finish 6 stops (λ h. cc h) (λ h. cc h) t

module _ (c : KeyWords) (before after : World) (value : Option (List ℕ)) (found : Finish) (looked : LookedUp c before after value found) (left_is : after.left ≡ before.left) where
  line_of : (v : List ℕ) → value ≡ Some v → found.status ≡ 0 → IsLine c.key (or_empty (before.files c.file)) (v ++ 10 ∷ [])
  line_of v is e = let f = looked.found e in record { holds = f.0; value = v; found = sym f.1 ∙ is; line_is = refl }

  -- the line went out
  pub got_line : (v : List ℕ) → value ≡ Some v → found.status ≡ 0 → Appends before.held after.held (v ++ 10 ∷ []) → RanGet c before after found
  got_line v is e out = record {
    call = looked.call;
    files = looked.files;
    left = left_is;
    printed = λ _. (v ++ 10 ∷ [], line_of v is e, out);
    silent = λ other. absurd (zero_alone found other e);
    front = inr (v ++ 10 ∷ [], line_of v is e, (length (v ++ 10 ∷ []), subst (λ (l : List ℕ). Appends before.held after.held l) (sym (take_all (length (v ++ 10 ∷ [])) (v ++ 10 ∷ []) (omega arith))) out));
  }

  -- a front of it did
  pub got_front : (finish : Finish) (v : List ℕ) → (finish ≡ ended 4) ⊎ (finish ≡ ended 5) → value ≡ Some v → found.status ≡ 0 → AppendsFront before.held after.held (v ++ 10 ∷ []) → RanGet c before after finish
  got_front finish v stops is e out = record {
    call = ran_stopped false get_reply c.key (before.files c.file) (after.files c.file) finish stops (looked.files c.file);
    files = looked.files;
    left = left_is;
    printed = λ z. absurd (stopped_other finish 0 stops (λ h. cc h) (λ h. cc h) z);
    silent = λ other. absurd (not_silent finish stops other);
    front = inr (v ++ 10 ∷ [], line_of v is e, out);
  }

module _ (f0 f1 : List ℕ → Option (List ℕ)) (left h0 h1 value : Option (List ℕ)) (found : Finish) where
  abbrev before_print : World
  before_print = record { files = f0; left = left; held = h0 }

  abbrev after_print : World
  after_print = record { files = f1; left = left; held = h1 }

  again : (c : KeyWords) → LookedUp c before_print (record { files = f1; left = left; held = h0 }) value found → LookedUp c before_print after_print value found
  again c l = record { call = l.call; files = l.files; found = l.found }

  -- a command that printed its line
  pub line_ran : (a : FileCommand) → RanOnFile a before_print (record { files = f1; left = left; held = h0 }) value found → (v : List ℕ) → value ≡ Some v → found.status ≡ 0 → Appends h0 h1 (v ++ 10 ∷ []) → Ran (file_said a) before_print after_print found
  line_ran (asked.Get c) done v is e out = got_line (key_said c) before_print after_print value found (again (key_said c) done) refl v is e out
  line_ran (asked.Set c) done v is e out = absurd (cc (is, done.1))
  line_ran (asked.Remove c) done v is e out = absurd (cc (is, done.1))

  -- one that printed a front of it
  pub front_ran : (a : FileCommand) (finish : Finish) → RanOnFile a before_print (record { files = f1; left = left; held = h0 }) value found → (v : List ℕ) → (finish ≡ ended 4) ⊎ (finish ≡ ended 5) → value ≡ Some v → found.status ≡ 0 → AppendsFront h0 h1 (v ++ 10 ∷ [])
      → Ran (file_said a) before_print after_print finish
  front_ran (asked.Get c) finish done v stops is e out = got_front (key_said c) before_print after_print value found (again (key_said c) done) refl finish v stops is e out
  front_ran (asked.Set c) finish done v stops is e out = absurd (cc (is, done.1))
  front_ran (asked.Remove c) finish done v stops is e out = absurd (cc (is, done.1))

-- one that printed nothing
pub nothing_ran : (a : FileCommand) (f0 f1 : List ℕ → Option (List ℕ)) (left held value : Option (List ℕ)) (found : Finish) → RanOnFile a (record { files = f0; left = left; held = held }) (record { files = f1; left = left; held = held }) value found → (found.status ≢ 0) ⊎ (value ≡ None)
    → Ran (file_said a) (record { files = f0; left = left; held = held }) (record { files = f1; left = left; held = held }) found
nothing_ran (asked.Get c) f0 f1 left held value found done silent = record {
  call = done.call;
  files = done.files;
  left = refl;
  printed = λ e. absurd (elim silent [ inl other ↦ other e | inr none ↦ none_there value none (done.found e).2 ]);
  silent = λ either. refl;
  front = inl refl;
}
  where
    none_there : (o : Option (List ℕ)) → o ≡ None → IsSome o → ⊥
    none_there o none some = cc (none, some)
nothing_ran (asked.Set c) f0 f1 left held value found done silent = done.0
nothing_ran (asked.Remove c) f0 f1 left held value found done silent = done.0
