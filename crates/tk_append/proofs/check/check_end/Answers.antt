use Rattle.std.proofs.Common.{◌≡◌, length, sym, ◌∙◌, ap, subst, arith}
use Rattle.std.specs.Prelude.{None}
use Rattle.std.specs.HashSet.{hash_set_len}
use Rattle.tk_append.specs.Chains.{HeadsAre}
use Rattle.tk_append.specs.Opening.{records_in}
use Rattle.tk_append.specs.Walked.{least_behind}
use Rattle.tk_append.specs.Checked.{Finds, HeadsStand, HeadFails}
use Rattle.tk_append.proofs.DiskChecks.{has_heads, heads_fail, head_cause}
use Rattle.tk_append.proofs.Checked.{none_open, end_told, always_ok}
use Rattle.tk_append.proofs.check.check_end.Goals as goal

pub returns-in-None-clause-heads : goal.returns-in-None-clause-heads
returns-in-None-clause-heads g c p place w at = always_ok c.check_count.result (c.settle.ensures.heads p place w.blocks at.heads)

pub returns-in-None-clause-ends : goal.returns-in-None-clause-ends
returns-in-None-clause-ends g c h place w at =
    let image = g.D.Disk.image c.args.disk.now in
    let heads = c.deref.result.now in
    let writable = c.args.writable in
    let closing = c.args.closing.now in
    let whole = none_open w c.args.walker.now.open_group at.open_group c.in_default.is in
    let are : HeadsAre h.p heads w.blocks = subst (λ l. HeadsAre h.p l w.blocks) (sym c.deref.ensures.value) (c.settle.ensures.heads h.p place w.blocks at.heads) in
    let stand : HeadsStand image heads = rw c.in-None.is at c.in_ok-place.ensures.fault in
    has_heads c.check_count.result image h w closing writable stand.bytes (omega (arith, stand.len, are.whole)) stand.shown stand.small whole
    (λ f starts.
    subst (Finds c.check_count.result) (sym (end_told writable h closing f w None whole (sym (stand.same h.p w.blocks f are starts))))
    (c.check_count.ensures.exact w (c.len.ensures.len ∙ subst (λ k. hash_set_len k ≡ length (records_in w.blocks)) (sym c.settle.ensures.keys) at.keys.count) (at.least ∙ ap least_behind (sym c.settle.ensures.before))))

pub returns-in-None-clause-fails : goal.returns-in-None-clause-fails
returns-in-None-clause-fails g c h place w at =
    let image = g.D.Disk.image c.args.disk.now in
    let heads = c.deref.result.now in
    let writable = c.args.writable in
    let closing = c.args.closing.now in
    let whole = none_open w c.args.walker.now.open_group at.open_group c.in_default.is in
    let are : HeadsAre h.p heads w.blocks = subst (λ l. HeadsAre h.p l w.blocks) (sym c.deref.ensures.value) (c.settle.ensures.heads h.p place w.blocks at.heads) in
    let stand : HeadsStand image heads = rw c.in-None.is at c.in_ok-place.ensures.fault in
    heads_fail c.check_count.result image h w closing writable stand.bytes _ stand.shown
    (λ f starts.
    subst (Finds c.check_count.result) (sym (end_told writable h closing f w None whole (sym (stand.same h.p w.blocks f are starts))))
    (c.check_count.ensures.exact w (c.len.ensures.len ∙ subst (λ k. hash_set_len k ≡ length (records_in w.blocks)) (sym c.settle.ensures.keys) at.keys.count) (at.least ∙ ap least_behind (sym c.settle.ensures.before))))

pub returns-in-Some-2-clause-fails : goal.returns-in-Some-2-clause-fails
returns-in-Some-2-clause-fails g c h place w at =
    let image = g.D.Disk.image c.args.disk.now in
    let heads = c.deref.result.now in
    let whole = none_open w c.args.walker.now.open_group at.open_group c.in_default.is in
    let are : HeadsAre h.p heads w.blocks = subst (λ l. HeadsAre h.p l w.blocks) (sym c.deref.ensures.value) (c.settle.ensures.heads h.p place w.blocks at.heads) in
    let fails : HeadFails image heads c.in-Some-2.place = rw c.in-Some-2.is at c.in_ok-place.ensures.fault in
    head_cause image h w c.args.closing.now c.args.writable heads c.in-Some-2.place _ fails are whole
