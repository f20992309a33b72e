use Rattle.std.proofs.Common.{rules, ◌≡◌, ◌^◌, length, refl, sym, ◌∙◌, ap, arith}
use Rattle.std.specs.Prelude.{Some, None}
use Rattle.std.specs.Vec.{with_items}
use Rattle.tk_hash.specs.Plan.{with_heads}
use Rattle.tk_block.specs.Text.{base_of}
use Rattle.tk_append.specs.LogParts.{log_disk, log_head, log_end}
use Rattle.tk_hash.proofs.Extents.{ends_sum}
use Rattle.std.proofs.lemmas.List.{with_items_is}
use Rattle.tk_hash.proofs.HashKeeps.{done}
use Rattle.tk_hash.proofs.HashGrows.{grown, length-with_heads, appended_keeps, appended_fair, put_keeps, put_fair, length_there, base_within, still_there, puts_done}
use Rattle.tk_hash.proofs.store.HashStore.put_reserved_group.Goals as goal

pub append-requires-clause-here : goal.append-requires-clause-here
append-requires-clause-here g c =
    let w = c.requires.whole in
    length_there g.D.Disk.image g.D.Disk.may_leave g.D.Disk.past c.args.self.now w.0 w.1 w.2 w.3

pub returns-in_err-as_store_error-clause-kept : goal.returns-in_err-as_store_error-clause-kept
returns-in_err-as_store_error-clause-kept g c first since hard st =
    let is = c.requires.reserved_group.1 in
    appended_keeps g.D.Disk.image g.D.Disk.may_leave g.D.Disk.past g.D.Disk.moment g.D.Disk.left_since g.D.Disk.left_with c.args.self.now first since hard st _ _
    (c.append.ensures.crash c.requires.reserved_group.0 is.links is.ready) (c.append.ensures.time c.requires.reserved_group.0 is.links is.ready)

pub put_heads-requires-clause-there : goal.put_heads-requires-clause-there
put_heads-requires-clause-there g c =
    let w = c.requires.whole in
    let s = c.args.self.now in
    let is = c.requires.reserved_group.1 in
    rw c.append.ensures.head (still_there (g.D.Disk.image (log_disk s.log)) _ (log_end s.log) (base_of (log_head s.log).p) _ (length_there g.D.Disk.image g.D.Disk.may_leave g.D.Disk.past s w.0 w.1 w.2 w.3) (base_within g.D.Disk.image g.D.Disk.may_leave g.D.Disk.past s w.0 w.1 w.2 w.3)
    (done c.append.result c.as_store_error.result c.in_ok-as_store_error.field-0 c.as_store_error.ensures.err (search rules) (c.append.ensures.written c.requires.reserved_group.0 is.links is.ready)))

pub set_heads-requires : goal.set_heads-requires
set_heads-requires g c =
    let whole : length c.deref_mut.result.now ≡ 2 ^ (log_head c.args.self.now.log).p = ap length c.deref_mut.ensures.value ∙ c.requires.whole.3.heads.whole in
    rw whole c.requires.reserved_group.1.heads

pub returns-in_err-as_store_error-2-clause-kept : goal.returns-in_err-as_store_error-2-clause-kept
returns-in_err-as_store_error-2-clause-kept g c first since hard st =
    let s = c.args.self.now in
    let is = c.requires.reserved_group.1 in
    put_keeps g.D.Disk.image g.D.Disk.may_leave g.D.Disk.past g.D.Disk.moment g.D.Disk.left_since g.D.Disk.left_with s first since hard st _ _ _ c.append.ensures.head
    (appended_keeps g.D.Disk.image g.D.Disk.may_leave g.D.Disk.past g.D.Disk.moment g.D.Disk.left_since g.D.Disk.left_with s first since hard st _ _
    (c.append.ensures.crash c.requires.reserved_group.0 is.links is.ready) (c.append.ensures.time c.requires.reserved_group.0 is.links is.ready))
    c.put_heads.ensures.crash c.put_heads.ensures.time

pub returns-clause-kept : goal.returns-clause-kept
returns-clause-kept g c first since hard st =
    let s = c.args.self.now in
    let is = c.requires.reserved_group.1 in
    put_keeps g.D.Disk.image g.D.Disk.may_leave g.D.Disk.past g.D.Disk.moment g.D.Disk.left_since g.D.Disk.left_with s first since hard st _ _ _ c.append.ensures.head
    (appended_keeps g.D.Disk.image g.D.Disk.may_leave g.D.Disk.past g.D.Disk.moment g.D.Disk.left_since g.D.Disk.left_with s first since hard st _ _
    (c.append.ensures.crash c.requires.reserved_group.0 is.links is.ready) (c.append.ensures.time c.requires.reserved_group.0 is.links is.ready))
    c.put_heads.ensures.crash c.put_heads.ensures.time

pub returns-in_err-as_store_error-clause-fair : goal.returns-in_err-as_store_error-clause-fair
returns-in_err-as_store_error-clause-fair g c changes is first since hard st =
    appended_fair g.D.Disk.image g.D.Disk.may_leave g.D.Disk.past g.D.Disk.moment g.D.Disk.left_since g.D.Disk.left_with c.args.self.now first since hard st _ c.args.number changes is.links
    (c.append.ensures.past changes is.links is.ready) (c.append.ensures.pasts changes is.links is.ready)

pub returns-in_err-as_store_error-2-clause-fair : goal.returns-in_err-as_store_error-2-clause-fair
returns-in_err-as_store_error-2-clause-fair g c changes is first since hard st =
    put_fair g.D.Disk.image g.D.Disk.may_leave g.D.Disk.past g.D.Disk.moment g.D.Disk.left_since g.D.Disk.left_with c.args.self.now first since hard st _ _ _ c.args.number changes c.append.ensures.head
    (appended_fair g.D.Disk.image g.D.Disk.may_leave g.D.Disk.past g.D.Disk.moment g.D.Disk.left_since g.D.Disk.left_with c.args.self.now first since hard st _ c.args.number changes is.links
    (c.append.ensures.past changes is.links is.ready) (c.append.ensures.pasts changes is.links is.ready)) c.put_heads.ensures.fair

pub returns-clause-fair : goal.returns-clause-fair
returns-clause-fair g c changes is first since hard st =
    put_fair g.D.Disk.image g.D.Disk.may_leave g.D.Disk.past g.D.Disk.moment g.D.Disk.left_since g.D.Disk.left_with c.args.self.now first since hard st _ _ _ c.args.number changes c.append.ensures.head
    (appended_fair g.D.Disk.image g.D.Disk.may_leave g.D.Disk.past g.D.Disk.moment g.D.Disk.left_since g.D.Disk.left_with c.args.self.now first since hard st _ c.args.number changes is.links
    (c.append.ensures.past changes is.links is.ready) (c.append.ensures.pasts changes is.links is.ready)) c.put_heads.ensures.fair

pub returns-clause-stands : goal.returns-clause-stands
returns-clause-stands g c changes is fits alone first since hard st =
    let s = c.args.self.now in
    let set : c.set_heads.new.heads ≡ with_heads c.args.reserved_group.heads s.heads.items = c.set_heads.ensures ∙ ap (with_heads c.args.reserved_group.heads) c.deref_mut.ensures.value in
    grown g.D.Disk.image g.D.Disk.may_leave g.D.Disk.past g.D.Disk.moment g.D.Disk.left_since g.D.Disk.left_with s (record s { log = c.put_heads.new.log; count = c.args.reserved_group.count; last = Some c.args.number; heads = with_items s.heads c.set_heads.new.heads; found = c.forget.new.self; shelf = None }) c.args.reserved_group c.args.number changes (g.D.Disk.image (log_disk c.append.new.self)) first since hard is fits alone c.requires.writable c.requires.number (omega arith) st
    (c.put_heads.ensures.head ∙ c.append.ensures.head)
    (c.put_heads.ensures.end ∙ done c.append.result c.as_store_error.result c.in_ok-as_store_error.field-0 c.as_store_error.ensures.err (search rules) (c.append.ensures.end changes is.links is.ready))
    refl refl refl refl refl refl (with_items_is s.heads c.set_heads.new.heads (ap length set ∙ length-with_heads c.args.reserved_group.heads s.heads.items ∙ sym s.heads.ok.0) ∙ set) c.forget.ensures refl refl (c.put_heads.ensures.told ∙ c.append.ensures.told)
    (done c.append.result c.as_store_error.result c.in_ok-as_store_error.field-0 c.as_store_error.ensures.err (search rules) (c.append.ensures.written changes is.links is.ready))
    (puts_done c.put_heads.result c.as_store_error-2.result c.in_ok-as_store_error-2.field-0 _ _ (log_head s.log) _ c.args.reserved_group.heads c.append.ensures.head c.as_store_error-2.ensures.err (search rules) c.put_heads.ensures.written)
    (returns-clause-kept g c first since hard st) (returns-clause-fair g c changes is first since hard st)

pub returns-clause-size : goal.returns-clause-size
returns-clause-size g c changes is =
    c.put_heads.ensures.end ∙ done c.append.result c.as_store_error.result c.in_ok-as_store_error.field-0 c.as_store_error.ensures.err (search rules) (c.append.ensures.end changes is.links is.ready) ∙ ends_sum c.args.number (log_end c.args.self.now.log) changes

pub returns-in_err-as_store_error-clause-time : goal.returns-in_err-as_store_error-clause-time
returns-in_err-as_store_error-clause-time g c = let is = c.requires.reserved_group.1 in (c.append.ensures.time c.requires.reserved_group.0 is.links is.ready).later

pub returns-in_err-as_store_error-2-clause-time : goal.returns-in_err-as_store_error-2-clause-time
returns-in_err-as_store_error-2-clause-time g c = let w = c.requires.whole in (returns-in_err-as_store_error-2-clause-kept g c w.0 w.1 w.2 w.3).later

pub returns-clause-time : goal.returns-clause-time
returns-clause-time g c = let w = c.requires.whole in (returns-clause-kept g c w.0 w.1 w.2 w.3).later
