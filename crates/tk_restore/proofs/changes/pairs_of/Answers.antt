use Rattle.std.proofs.Common.{◌≡◌, ◌∙◌, List, ℕ, Bool, false, [], sym, ap, subst, take, get_or}
use Rattle.tk_model.specs.Hashes.{mix_of}
use Rattle.tk_model.specs.Records.{after, after_one, put, without}
use Rattle.tk_model.specs.declared.record.Order.TheVariants.{Hash}
use Rattle.tk_model.specs.declared.record.Pair.{Pair}
use Rattle.tk_restore.specs.Changes.{change_by, changes_in, key_in, value_in}
use Rattle.tk_restore.specs.declared.changes.Entry.{Entry}
use Rattle.tk_restore.proofs.Entries.{as_all, next_after}
use Rattle.tk_restore.proofs.changes.pairs_of.Goals as goal

abbrev first : Entry
first = record { hash = 0; start = 0; value_length = 0; key_length = 0; sets = false }

pub parts-requires : goal.parts-requires
parts-requires c = as_all c.args.bytes.now c.args.entries.now c.requires c.loop-entry.entry-index first c.loop-entry-test.true

pub remove-requires : goal.remove-requires
remove-requires c = (as_all c.args.bytes.now c.args.entries.now c.requires c.loop-entry.entry-index first c.loop-entry-test.true).hashed ∙ ap mix_of (sym c.parts.ensures.key)

pub loop-entry-preserved-then-not-entry : goal.loop-entry-preserved-then-not-entry
loop-entry-preserved-then-not-entry c =
    let e = get_or c.args.entries.now c.loop-entry.entry-index first in
    let bytes = c.args.bytes.now in
    c.remove.ensures
    ∙ ap (λ (k : List ℕ). without k c.loop-entry.pairs) c.parts.ensures.key
    ∙ ap (without (key_in bytes e)) c.loop-entry.invariant
    ∙ ap (λ (b : Bool). after_one Hash (change_by b (key_in bytes e) (value_in bytes e)) (after Hash (changes_in bytes (take c.loop-entry.entry-index c.args.entries.now)) [])) (sym c.if-not-entry.true)
    ∙ sym (next_after bytes c.args.entries.now c.loop-entry.entry-index first c.loop-entry-test.true)

pub put-requires : goal.put-requires
put-requires c =
    (as_all c.args.bytes.now c.args.entries.now c.requires c.loop-entry.entry-index first c.loop-entry-test.true).hashed
    ∙ ap mix_of (sym (c.in_ok-key.ensures ∙ c.parts.ensures.key))

pub loop-entry-preserved : goal.loop-entry-preserved
loop-entry-preserved c =
    let e = get_or c.args.entries.now c.loop-entry.entry-index first in
    let bytes = c.args.bytes.now in
    c.in_ok-put.ensures
    ∙ ap (λ (k : List ℕ). put Hash (record { key = k; value = c.in_ok-value.value }) c.loop-entry.pairs) (c.in_ok-key.ensures ∙ c.parts.ensures.key)
    ∙ ap (λ (v : List ℕ). put Hash (record { key = key_in bytes e; value = v }) c.loop-entry.pairs) (c.in_ok-value.ensures ∙ c.parts.ensures.value)
    ∙ ap (put Hash (record { key = key_in bytes e; value = value_in bytes e })) c.loop-entry.invariant
    ∙ ap (λ (b : Bool). after_one Hash (change_by b (key_in bytes e) (value_in bytes e)) (after Hash (changes_in bytes (take c.loop-entry.entry-index c.args.entries.now)) [])) (sym c.if-not-entry.false)
    ∙ sym (next_after bytes c.args.entries.now c.loop-entry.entry-index first c.loop-entry-test.true)
