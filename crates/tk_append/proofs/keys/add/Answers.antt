use Rattle.std.proofs.Common.{sym}
use Rattle.tk_append.proofs.KeySteps.{put_keys}
use Rattle.tk_append.proofs.keys.add.Goals as goal

pub returns : goal.returns
returns c pairs value h = put_keys c.args.keys.now c.insert.new.self _ c.in_ok-insert.field-0 (record { key = c.args.key.now; value = value }) pairs (sym c.in_ok-from_slice.ensures.items) c.in_ok-insert.ensures.added c.in_ok-insert.ensures.updates c.in_ok-insert.ensures.len h
