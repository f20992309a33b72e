use Rattle.std.proofs.Common.{◌≡◌, ℕ, List, sym, ◌∙◌, ap, subst, arith}
use Rattle.std.specs.Prelude.{OnOk}
use Rattle.std.specs.Option.{option_copied}
use Rattle.tk_block.specs.Blocks.{room_of}
use Rattle.tk_block.specs.Layout.{Placed}
use Rattle.tk_block.specs.declared.block.Body.{Body}
use Rattle.tk_update.specs.Blocks.{best_void, end_behind, written_at, voided, put_into, set_body}
use Rattle.tk_update.proofs.PlainSteps.{put_none, put_fits, put_moves, end_voided, found_in, void_in, fits_so, fits_not}
use Rattle.tk_update.proofs.plain.put_block.Goals as goal

pub returns-in_default : goal.returns-in_default
returns-in_default c =
    let body = set_body c.args.pair.now c.args.number in
    let void = best_void (room_of body) c.args.blocks.now in
    let none = found_in c.args.pair.now.key _ _ c.args.blocks.now _ (sym (ap option_copied c.in_default.is) ∙ c.block_of.ensures) c.as_slice-3.ensures c.as_slice-2.ensures in
    subst (λ (l : List Placed). OnOk c.put_into.result (c.put_into.new.blocks ≡ l))
    (ap (λ (b : Body). put_into c.args.base b void c.args.blocks.now) c.in_ok-body.ensures ∙ sym (put_none c.args.base c.args.number c.args.pair.now c.args.blocks.now none))
    (c.put_into.ensures void (void_in c.room_of-room.result (room_of body) _ c.args.blocks.now _ c.void_place-void.ensures (c.room_of-room.ensures c.args.number) c.as_slice.ensures))

pub returns-then-room-extent : goal.returns-then-room-extent
returns-then-room-extent c =
    let body = set_body c.args.pair.now c.args.number in
    let found = found_in c.args.pair.now.key _ _ c.args.blocks.now _ (sym (ap option_copied c.in-Some.is) ∙ c.block_of.ensures) c.as_slice-3.ensures c.as_slice-2.ensures in
    let fits = fits_so c.room_of-room.result (room_of body) c.extent.result c.in-Some.old.now.extent (c.room_of-room.ensures c.args.number) c.extent.ensures c.if-room-extent.true in
    c.write_at.ensures ∙ ap (λ (k : ℕ). written_at k c.in_ok-body.body c.args.blocks.now) c.place-place.ensures ∙ ap (λ (b : Body). written_at c.in-Some.old.now.place b c.args.blocks.now) c.in_ok-body.ensures
    ∙ sym (put_fits c.args.base c.args.number c.args.pair.now c.args.blocks.now c.in-Some.old.now found fits)

pub put_into-requires-2-clause-end : goal.put_into-requires-2-clause-end
put_into-requires-2-clause-end c = omega (arith, c.requires.end, ap (end_behind c.args.base) c.void_key.ensures, end_voided c.args.base c.as_slice-4.result.now c.args.number c.args.blocks.now)

pub returns : goal.returns
returns c =
    let body = set_body c.args.pair.now c.args.number in
    let void = best_void (room_of body) c.args.blocks.now in
    let found = found_in c.args.pair.now.key _ _ c.args.blocks.now _ (sym (ap option_copied c.in-Some.is) ∙ c.block_of.ensures) c.as_slice-3.ensures c.as_slice-2.ensures in
    let fits = fits_not c.room_of-room.result (room_of body) c.extent.result c.in-Some.old.now.extent (c.room_of-room.ensures c.args.number) c.extent.ensures (λ le. omega (arith, le, c.if-room-extent.false)) in
    subst (λ (l : List Placed). OnOk c.put_into-2.result (c.put_into-2.new.blocks ≡ l))
    (ap (λ (b : Body). put_into c.args.base b void c.void_key.new.blocks) c.in_ok-body.ensures
    ∙ ap (put_into c.args.base body void) (c.void_key.ensures ∙ ap (λ (k : List ℕ). voided k c.args.number c.args.blocks.now) c.as_slice-4.ensures)
    ∙ sym (put_moves c.args.base c.args.number c.args.pair.now c.args.blocks.now c.in-Some.old.now found fits))
    (c.put_into-2.ensures void (void_in c.room_of-room.result (room_of body) _ c.args.blocks.now _ c.void_place-void.ensures (c.room_of-room.ensures c.args.number) c.as_slice.ensures))
