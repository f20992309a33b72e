use Rattle.std.proofs.Common.{◌≡◌, ℕ, List, length, sym, subst}
use Rattle.std.specs.Option.{is_some}
use Rattle.tk_model.specs.Records.{find, after_one}
use Rattle.tk_model.specs.declared.record.Order.TheVariants.{Hash}
use Rattle.tk_model.specs.declared.record.Change.{Change}
use Rattle.tk_model.specs.declared.record.Change.TheVariants as changes
use Rattle.tk_block.specs.Blocks.{key_of}
use Rattle.tk_hash.proofs.Counted.{put_there, put_new, drop_there, drop_none}
use Rattle.tk_hash.proofs.counts.counted.Goals as goal

pub returns-in-Put : goal.returns-in-Put
returns-in-Put c m rising all is =
    let by : c.args.there ≡ is_some (find (key_of (changes.Put c.in-Put.field-0)) m) → c.args.count ≡ length (after_one Hash (changes.Put c.in-Put.field-0) m) = λ told. put_there m c.args.count c.args.there rising all c.in-Put.field-0 told c.if-there.true in
    subst (λ (x : Change). c.args.there ≡ is_some (find (key_of x) m) → c.args.count ≡ length (after_one Hash x m)) (sym c.in-Put.is) by is

pub returns-in-Some : goal.returns-in-Some
returns-in-Some c m rising all is =
    let by : c.args.there ≡ is_some (find (key_of (changes.Put c.in-Put.field-0)) m) → c.in-Some.more ≡ length (after_one Hash (changes.Put c.in-Put.field-0) m) = λ told. put_new m c.args.count c.args.there rising all c.in-Put.field-0 c.in-Some.more told c.if-there.false c.in-Some.ensures.1 in
    subst (λ (x : Change). c.args.there ≡ is_some (find (key_of x) m) → c.in-Some.more ≡ length (after_one Hash x m)) (sym c.in-Put.is) by is

pub returns-in-Drop : goal.returns-in-Drop
returns-in-Drop c m rising all is =
    let by : c.args.there ≡ is_some (find (key_of (changes.Drop c.in-Drop.field-0)) m) → c.saturating_sub.result ≡ length (after_one Hash (changes.Drop c.in-Drop.field-0) m) = λ told. drop_there m c.args.count c.args.there rising all c.in-Drop.field-0 c.saturating_sub.result told c.if-there-2.true c.saturating_sub.ensures in
    subst (λ (x : Change). c.args.there ≡ is_some (find (key_of x) m) → c.saturating_sub.result ≡ length (after_one Hash x m)) (sym c.in-Drop.is) by is

pub returns-in-Drop-2 : goal.returns-in-Drop-2
returns-in-Drop-2 c m rising all is =
    let by : c.args.there ≡ is_some (find (key_of (changes.Drop c.in-Drop.field-0)) m) → c.args.count ≡ length (after_one Hash (changes.Drop c.in-Drop.field-0) m) = λ told. drop_none m c.args.count c.args.there rising all c.in-Drop.field-0 told c.if-there-2.false in
    subst (λ (x : Change). c.args.there ≡ is_some (find (key_of x) m) → c.args.count ≡ length (after_one Hash x m)) (sym c.in-Drop.is) by is
