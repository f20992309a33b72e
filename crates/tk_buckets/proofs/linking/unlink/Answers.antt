use Rattle.std.proofs.Common.{◌≡◌, ℕ, ◌+◌, ◌≤◌, List, length, sym, ◌∙◌, subst, arith}
use Rattle.std.specs.Prelude.{Option, IfSome, OnOk}
use Rattle.std.specs.Option.{option_map}
use Rattle.std.proofs.lemmas.Option.{IfSome_then}
use Rattle.tk_disk.specs.Crash.{Torn, Follows}
use Rattle.tk_disk.specs.Disk.{put_at}
use Rattle.tk_block.specs.Number.{u64_in}
use Rattle.tk_buckets.proofs.Cuts.{found_in, cell_in, cut_in, cut_written, cut_leaves, cut_spares, nothing_torn, cell_torn, cost_none, cost_in_chain, bound_none, bound_in_file}
use Rattle.tk_disk.specs.Past.{Past, Writes}
use Rattle.tk_disk.proofs.Moments.{time_joined, reads_joined, pasts_joined}
use Rattle.tk_buckets.proofs.Moments.{cell_only, of_cut, told_cell, writes_only}
use Rattle.tk_buckets.proofs.linking.unlink.Goals as goal

pub returns-in_default-clause-written : goal.returns-in_default-clause-written
returns-in_default-clause-written g c = λ places.
    IfSome_then (g.D.Disk.image c.args.disk.now)
    (found_in c.args.head.now (g.D.Disk.image c.args.disk.now) (g.D.Disk.image c.len.new.self) c.args.bucket c.args.place places c.in_ok-cell.field-0 c.requires.bucket c.len.ensures.image (c.in_ok-cell.ensures.found c.args.head.now places))
    (λ f known chain has. absurd (c.in_default.not-Some _ (known chain has)))

pub returns-in_default-clause-chain : goal.returns-in_default-clause-chain
returns-in_default-clause-chain g c = λ places.
    IfSome_then (g.D.Disk.image c.args.disk.now)
    (found_in c.args.head.now (g.D.Disk.image c.args.disk.now) (g.D.Disk.image c.len.new.self) c.args.bucket c.args.place places c.in_ok-cell.field-0 c.requires.bucket c.len.ensures.image (c.in_ok-cell.ensures.found c.args.head.now places))
    (λ f known chain has. absurd (c.in_default.not-Some _ (known chain has)))

pub returns-in_default-clause-others : goal.returns-in_default-clause-others
returns-in_default-clause-others g c = λ other rest within ne places.
    IfSome_then (g.D.Disk.image c.args.disk.now)
    (found_in c.args.head.now (g.D.Disk.image c.args.disk.now) (g.D.Disk.image c.len.new.self) c.args.bucket c.args.place places c.in_ok-cell.field-0 c.requires.bucket c.len.ensures.image (c.in_ok-cell.ensures.found c.args.head.now places))
    (λ f known chain has kept apart. absurd (c.in_default.not-Some _ (known chain has)))

pub write_at-requires-clause-within : goal.write_at-requires-clause-within
write_at-requires-clause-within g c =
    subst (λ (o : Option (List ℕ)). IfSome o (λ f. c.in-Some.cell ≤ length f)) (sym (c.number_at.ensures.image ∙ c.cell_of.ensures.image ∙ c.len.ensures.image))
    (cell_in c.args.head.now (g.D.Disk.image c.args.disk.now) c.args.bucket c.args.place c.in-Some.cell c.in_ok-cell.field-0 c.requires.bucket c.in-Some.is c.requires.chain
    (λ places. found_in c.args.head.now (g.D.Disk.image c.args.disk.now) (g.D.Disk.image c.len.new.self) c.args.bucket c.args.place places c.in_ok-cell.field-0 c.requires.bucket c.len.ensures.image (c.in_ok-cell.ensures.found c.args.head.now places)))

pub returns-clause-written : goal.returns-clause-written
returns-clause-written g c = λ places.
    let image = g.D.Disk.image c.args.disk.now in
    cut_written c.write_at.result c.args.head.now image (g.D.Disk.image c.write_at.new.self) c.args.bucket c.args.place c.in-Some.cell c.in_ok-link.link places
    (cut_in c.args.head.now image c.args.bucket c.args.place c.in-Some.cell c.saturating_add.result c.in_ok-link.link places c.in_ok-cell.field-0 c.requires.bucket c.in-Some.is c.requires.size c.saturating_add.ensures
    (found_in c.args.head.now image (g.D.Disk.image c.len.new.self) c.args.bucket c.args.place places c.in_ok-cell.field-0 c.requires.bucket c.len.ensures.image (c.in_ok-cell.ensures.found c.args.head.now places))
    (subst (λ (o : Option (List ℕ)). IfSome o (λ f. c.saturating_add.result + 8 ≤ length f → c.in_ok-link.link ≡ u64_in f c.saturating_add.result)) (c.cell_of.ensures.image ∙ c.len.ensures.image) c.in_ok-link.ensures.value))
    (subst (λ (l : List ℕ). OnOk c.write_at.result (g.D.Disk.image c.write_at.new.self ≡ option_map (put_at c.in-Some.cell l) image)) c.to_be_bytes.ensures
    (subst (λ (o : Option (List ℕ)). OnOk c.write_at.result (g.D.Disk.image c.write_at.new.self ≡ option_map (put_at c.in-Some.cell c.to_be_bytes.result) o)) (c.number_at.ensures.image ∙ c.cell_of.ensures.image ∙ c.len.ensures.image) c.write_at.ensures.written))

pub returns-clause-chain : goal.returns-clause-chain
returns-clause-chain g c = λ places.
    let image = g.D.Disk.image c.args.disk.now in
    cut_leaves c.write_at.result c.args.head.now image (g.D.Disk.image c.write_at.new.self) c.args.bucket c.args.place c.in-Some.cell c.in_ok-link.link places c.requires.bucket c.in_ok-link.ensures.fits
    (cut_in c.args.head.now image c.args.bucket c.args.place c.in-Some.cell c.saturating_add.result c.in_ok-link.link places c.in_ok-cell.field-0 c.requires.bucket c.in-Some.is c.requires.size c.saturating_add.ensures
    (found_in c.args.head.now image (g.D.Disk.image c.len.new.self) c.args.bucket c.args.place places c.in_ok-cell.field-0 c.requires.bucket c.len.ensures.image (c.in_ok-cell.ensures.found c.args.head.now places))
    (subst (λ (o : Option (List ℕ)). IfSome o (λ f. c.saturating_add.result + 8 ≤ length f → c.in_ok-link.link ≡ u64_in f c.saturating_add.result)) (c.cell_of.ensures.image ∙ c.len.ensures.image) c.in_ok-link.ensures.value))
    (subst (λ (l : List ℕ). OnOk c.write_at.result (g.D.Disk.image c.write_at.new.self ≡ option_map (put_at c.in-Some.cell l) image)) c.to_be_bytes.ensures
    (subst (λ (o : Option (List ℕ)). OnOk c.write_at.result (g.D.Disk.image c.write_at.new.self ≡ option_map (put_at c.in-Some.cell c.to_be_bytes.result) o)) (c.number_at.ensures.image ∙ c.cell_of.ensures.image ∙ c.len.ensures.image) c.write_at.ensures.written))

pub returns-clause-others : goal.returns-clause-others
returns-clause-others g c = λ other rest within ne places.
    let image = g.D.Disk.image c.args.disk.now in
    cut_spares c.write_at.result c.args.head.now image (g.D.Disk.image c.write_at.new.self) c.args.bucket other c.args.place c.in-Some.cell c.in_ok-link.link places rest c.requires.bucket within ne
    (cut_in c.args.head.now image c.args.bucket c.args.place c.in-Some.cell c.saturating_add.result c.in_ok-link.link places c.in_ok-cell.field-0 c.requires.bucket c.in-Some.is c.requires.size c.saturating_add.ensures
    (found_in c.args.head.now image (g.D.Disk.image c.len.new.self) c.args.bucket c.args.place places c.in_ok-cell.field-0 c.requires.bucket c.len.ensures.image (c.in_ok-cell.ensures.found c.args.head.now places))
    (subst (λ (o : Option (List ℕ)). IfSome o (λ f. c.saturating_add.result + 8 ≤ length f → c.in_ok-link.link ≡ u64_in f c.saturating_add.result)) (c.cell_of.ensures.image ∙ c.len.ensures.image) c.in_ok-link.ensures.value))
    (subst (λ (l : List ℕ). OnOk c.write_at.result (g.D.Disk.image c.write_at.new.self ≡ option_map (put_at c.in-Some.cell l) image)) c.to_be_bytes.ensures
    (subst (λ (o : Option (List ℕ)). OnOk c.write_at.result (g.D.Disk.image c.write_at.new.self ≡ option_map (put_at c.in-Some.cell c.to_be_bytes.result) o)) (c.number_at.ensures.image ∙ c.cell_of.ensures.image ∙ c.len.ensures.image) c.write_at.ensures.written))

pub returns-in_err-len-clause-crash : goal.returns-in_err-len-clause-crash
returns-in_err-len-clause-crash g c = λ places.
    nothing_torn c.args.head.now (g.D.Disk.image c.args.disk.now) c.args.bucket c.args.place places (g.D.Disk.may_leave c.args.disk.now) _ c.len.ensures.crash

pub returns-in_err-cell-clause-crash : goal.returns-in_err-cell-clause-crash
returns-in_err-cell-clause-crash g c = λ places.
    nothing_torn c.args.head.now (g.D.Disk.image c.args.disk.now) c.args.bucket c.args.place places (g.D.Disk.may_leave c.args.disk.now) _ (λ l left. c.len.ensures.crash l (c.cell_of.ensures.still.crash l left))

pub returns-in_default-clause-crash : goal.returns-in_default-clause-crash
returns-in_default-clause-crash g c = λ places.
    nothing_torn c.args.head.now (g.D.Disk.image c.args.disk.now) c.args.bucket c.args.place places (g.D.Disk.may_leave c.args.disk.now) _ (λ l left. c.len.ensures.crash l (c.cell_of.ensures.still.crash l left))

pub returns-in_err-link-clause-crash : goal.returns-in_err-link-clause-crash
returns-in_err-link-clause-crash g c = λ places.
    nothing_torn c.args.head.now (g.D.Disk.image c.args.disk.now) c.args.bucket c.args.place places (g.D.Disk.may_leave c.args.disk.now) _ (λ l left. c.len.ensures.crash l (c.cell_of.ensures.still.crash l (c.number_at.ensures.still.crash l left)))

pub returns-clause-crash : goal.returns-clause-crash
returns-clause-crash g c = λ places.
    let image = g.D.Disk.image c.args.disk.now in
    cell_torn c.args.head.now image c.args.bucket c.args.place c.in-Some.cell c.in_ok-link.link places (g.D.Disk.may_leave c.args.disk.now) (g.D.Disk.may_leave c.number_at.new.disk) _
    (cut_in c.args.head.now image c.args.bucket c.args.place c.in-Some.cell c.saturating_add.result c.in_ok-link.link places c.in_ok-cell.field-0 c.requires.bucket c.in-Some.is c.requires.size c.saturating_add.ensures
    (found_in c.args.head.now image (g.D.Disk.image c.len.new.self) c.args.bucket c.args.place places c.in_ok-cell.field-0 c.requires.bucket c.len.ensures.image (c.in_ok-cell.ensures.found c.args.head.now places))
    (subst (λ (o : Option (List ℕ)). IfSome o (λ f. c.saturating_add.result + 8 ≤ length f → c.in_ok-link.link ≡ u64_in f c.saturating_add.result)) (c.cell_of.ensures.image ∙ c.len.ensures.image) c.in_ok-link.ensures.value))
    (λ l left. c.len.ensures.crash l (c.cell_of.ensures.still.crash l (c.number_at.ensures.still.crash l left)))
    (subst (λ (l : List ℕ). Follows (Torn c.in-Some.cell (length l)) (g.D.Disk.may_leave c.number_at.new.disk) (g.D.Disk.may_leave c.write_at.new.self)) c.to_be_bytes.ensures c.write_at.ensures.crash)

pub returns-in_err-len-clause-time : goal.returns-in_err-len-clause-time
returns-in_err-len-clause-time g c = λ places.
    cell_only g.D.Disk.may_leave g.D.Disk.moment g.D.Disk.left_since g.met.D.Disk.only_now (g.D.Disk.image c.args.disk.now) c.args.head.now c.args.bucket c.args.place places c.args.disk.now c.len.new.self
    c.len.ensures.time
    (returns-in_err-len-clause-crash g c places)

pub returns-in_err-cell-clause-time : goal.returns-in_err-cell-clause-time
returns-in_err-cell-clause-time g c = λ places.
    cell_only g.D.Disk.may_leave g.D.Disk.moment g.D.Disk.left_since g.met.D.Disk.only_now (g.D.Disk.image c.args.disk.now) c.args.head.now c.args.bucket c.args.place places c.args.disk.now c.cell_of.new.disk
    (reads_joined g.D.Disk.may_leave g.D.Disk.moment g.D.Disk.left_since g.D.Disk.past g.D.Disk.left_with g.met.D.Disk.counts_now g.met.D.Disk.counts_with c.args.disk.now c.len.new.self c.cell_of.new.disk (record { crash = c.len.ensures.crash; time = c.len.ensures.time; past = c.len.ensures.past; pasts = c.len.ensures.pasts }) c.cell_of.ensures.still).time
    (returns-in_err-cell-clause-crash g c places)

pub returns-in_default-clause-time : goal.returns-in_default-clause-time
returns-in_default-clause-time g c = λ places.
    cell_only g.D.Disk.may_leave g.D.Disk.moment g.D.Disk.left_since g.met.D.Disk.only_now (g.D.Disk.image c.args.disk.now) c.args.head.now c.args.bucket c.args.place places c.args.disk.now c.cell_of.new.disk
    (reads_joined g.D.Disk.may_leave g.D.Disk.moment g.D.Disk.left_since g.D.Disk.past g.D.Disk.left_with g.met.D.Disk.counts_now g.met.D.Disk.counts_with c.args.disk.now c.len.new.self c.cell_of.new.disk (record { crash = c.len.ensures.crash; time = c.len.ensures.time; past = c.len.ensures.past; pasts = c.len.ensures.pasts }) c.cell_of.ensures.still).time
    (returns-in_default-clause-crash g c places)

pub returns-in_err-link-clause-time : goal.returns-in_err-link-clause-time
returns-in_err-link-clause-time g c = λ places.
    cell_only g.D.Disk.may_leave g.D.Disk.moment g.D.Disk.left_since g.met.D.Disk.only_now (g.D.Disk.image c.args.disk.now) c.args.head.now c.args.bucket c.args.place places c.args.disk.now c.number_at.new.disk
    (reads_joined g.D.Disk.may_leave g.D.Disk.moment g.D.Disk.left_since g.D.Disk.past g.D.Disk.left_with g.met.D.Disk.counts_now g.met.D.Disk.counts_with c.args.disk.now c.cell_of.new.disk c.number_at.new.disk (reads_joined g.D.Disk.may_leave g.D.Disk.moment g.D.Disk.left_since g.D.Disk.past g.D.Disk.left_with g.met.D.Disk.counts_now g.met.D.Disk.counts_with c.args.disk.now c.len.new.self c.cell_of.new.disk (record { crash = c.len.ensures.crash; time = c.len.ensures.time; past = c.len.ensures.past; pasts = c.len.ensures.pasts }) c.cell_of.ensures.still) c.number_at.ensures.still).time
    (returns-in_err-link-clause-crash g c places)

pub returns-clause-time : goal.returns-clause-time
returns-clause-time g c = λ places.
    cell_only g.D.Disk.may_leave g.D.Disk.moment g.D.Disk.left_since g.met.D.Disk.only_now (g.D.Disk.image c.args.disk.now) c.args.head.now c.args.bucket c.args.place places c.args.disk.now c.write_at.new.self
    (time_joined g.D.Disk.may_leave g.D.Disk.moment g.D.Disk.left_since g.D.Disk.past g.D.Disk.left_with g.met.D.Disk.counts_now c.args.disk.now c.number_at.new.disk c.write_at.new.self
    (reads_joined g.D.Disk.may_leave g.D.Disk.moment g.D.Disk.left_since g.D.Disk.past g.D.Disk.left_with g.met.D.Disk.counts_now g.met.D.Disk.counts_with c.args.disk.now c.cell_of.new.disk c.number_at.new.disk (reads_joined g.D.Disk.may_leave g.D.Disk.moment g.D.Disk.left_since g.D.Disk.past g.D.Disk.left_with g.met.D.Disk.counts_now g.met.D.Disk.counts_with c.args.disk.now c.len.new.self c.cell_of.new.disk (record { crash = c.len.ensures.crash; time = c.len.ensures.time; past = c.len.ensures.past; pasts = c.len.ensures.pasts }) c.cell_of.ensures.still) c.number_at.ensures.still) c.write_at.ensures.time)
    (returns-clause-crash g c places)

pub returns-in_default-clause-told_past : goal.returns-in_default-clause-told_past
returns-in_default-clause-told_past g c = λ places.
    IfSome_then (g.D.Disk.image c.args.disk.now)
    (found_in c.args.head.now (g.D.Disk.image c.args.disk.now) (g.D.Disk.image c.len.new.self) c.args.bucket c.args.place places c.in_ok-cell.field-0 c.requires.bucket c.len.ensures.image (c.in_ok-cell.ensures.found c.args.head.now places))
    (λ f known chain has. absurd (c.in_default.not-Some _ (known chain has)))

pub returns-clause-past : goal.returns-clause-past
returns-clause-past g c = λ places.
    let image = g.D.Disk.image c.args.disk.now in
    of_cut image c.args.head.now c.args.bucket c.args.place c.in-Some.cell c.in_ok-link.link places (λ at bytes. Writes at bytes (g.D.Disk.past c.args.disk.now) (g.D.Disk.past c.write_at.new.self))
    (cut_in c.args.head.now image c.args.bucket c.args.place c.in-Some.cell c.saturating_add.result c.in_ok-link.link places c.in_ok-cell.field-0 c.requires.bucket c.in-Some.is c.requires.size c.saturating_add.ensures
    (found_in c.args.head.now image (g.D.Disk.image c.len.new.self) c.args.bucket c.args.place places c.in_ok-cell.field-0 c.requires.bucket c.len.ensures.image (c.in_ok-cell.ensures.found c.args.head.now places))
    (subst (λ (o : Option (List ℕ)). IfSome o (λ f. c.saturating_add.result + 8 ≤ length f → c.in_ok-link.link ≡ u64_in f c.saturating_add.result)) (c.cell_of.ensures.image ∙ c.len.ensures.image) c.in_ok-link.ensures.value))
    (subst (λ (l : List ℕ). Writes c.in-Some.cell l (g.D.Disk.past c.args.disk.now) (g.D.Disk.past c.write_at.new.self)) c.to_be_bytes.ensures
    (subst (λ (p : Past). Writes c.in-Some.cell c.to_be_bytes.result p (g.D.Disk.past c.write_at.new.self)) (c.number_at.ensures.still.past ∙ c.cell_of.ensures.still.past ∙ c.len.ensures.past) c.write_at.ensures.past))

pub returns-clause-told_past : goal.returns-clause-told_past
returns-clause-told_past g c = λ places.
    let image = g.D.Disk.image c.args.disk.now in
    told_cell image (g.D.Disk.image c.number_at.new.disk) c.write_at.result c.args.head.now c.args.bucket c.args.place c.in-Some.cell c.in_ok-link.link places (g.D.Disk.past c.args.disk.now) (g.D.Disk.past c.number_at.new.disk) (g.D.Disk.past c.write_at.new.self) c.to_be_bytes.result
    (c.number_at.ensures.image ∙ c.cell_of.ensures.image ∙ c.len.ensures.image) c.to_be_bytes.ensures (c.number_at.ensures.still.past ∙ c.cell_of.ensures.still.past ∙ c.len.ensures.past) c.write_at.ensures.told_past
    (cut_in c.args.head.now image c.args.bucket c.args.place c.in-Some.cell c.saturating_add.result c.in_ok-link.link places c.in_ok-cell.field-0 c.requires.bucket c.in-Some.is c.requires.size c.saturating_add.ensures
    (found_in c.args.head.now image (g.D.Disk.image c.len.new.self) c.args.bucket c.args.place places c.in_ok-cell.field-0 c.requires.bucket c.len.ensures.image (c.in_ok-cell.ensures.found c.args.head.now places))
    (subst (λ (o : Option (List ℕ)). IfSome o (λ f. c.saturating_add.result + 8 ≤ length f → c.in_ok-link.link ≡ u64_in f c.saturating_add.result)) (c.cell_of.ensures.image ∙ c.len.ensures.image) c.in_ok-link.ensures.value))

pub returns-clause-time_with : goal.returns-clause-time_with
returns-clause-time_with g c =
    pasts_joined g.D.Disk.may_leave g.D.Disk.moment g.D.Disk.left_since g.D.Disk.past g.D.Disk.left_with g.met.D.Disk.counts_with c.args.disk.now c.number_at.new.disk c.write_at.new.self
    (reads_joined g.D.Disk.may_leave g.D.Disk.moment g.D.Disk.left_since g.D.Disk.past g.D.Disk.left_with g.met.D.Disk.counts_now g.met.D.Disk.counts_with c.args.disk.now c.cell_of.new.disk c.number_at.new.disk (reads_joined g.D.Disk.may_leave g.D.Disk.moment g.D.Disk.left_since g.D.Disk.past g.D.Disk.left_with g.met.D.Disk.counts_now g.met.D.Disk.counts_with c.args.disk.now c.len.new.self c.cell_of.new.disk (record { crash = c.len.ensures.crash; time = c.len.ensures.time; past = c.len.ensures.past; pasts = c.len.ensures.pasts }) c.cell_of.ensures.still) c.number_at.ensures.still) c.write_at.ensures.pasts

pub returns-clause-pasts : goal.returns-clause-pasts
returns-clause-pasts g c = λ places.
    IfSome_then (g.D.Disk.image c.args.disk.now) (returns-clause-past g c places)
    (λ f known chain has. writes_only g.D.Disk.may_leave g.D.Disk.moment g.D.Disk.past g.D.Disk.left_with g.met.D.Disk.only_with c.args.disk.now c.write_at.new.self (returns-clause-time_with g c) _ _ (known chain has))

pub returns-in_err-len-clause-cost : goal.returns-in_err-len-clause-cost
returns-in_err-len-clause-cost g c = λ places.
    cost_none c.args.head.now (g.D.Disk.image c.args.disk.now) c.args.bucket c.args.place places (g.D.Disk.taken_count c.args.disk.now) (g.D.Disk.taken_count c.len.new.self) (omega (arith, c.len.ensures.taken))

pub returns-in_err-len-clause-bound : goal.returns-in_err-len-clause-bound
returns-in_err-len-clause-bound g c = bound_none (g.D.Disk.image c.args.disk.now) (g.D.Disk.taken_count c.args.disk.now) (g.D.Disk.taken_count c.len.new.self) (omega (arith, c.len.ensures.taken))

pub returns-in_err-cell-clause-cost : goal.returns-in_err-cell-clause-cost
returns-in_err-cell-clause-cost g c = λ places.
    cost_in_chain c.args.head.now (g.D.Disk.image c.args.disk.now) (g.D.Disk.image c.len.new.self) c.args.bucket c.args.place places (g.D.Disk.taken_count c.args.disk.now) (g.D.Disk.taken_count c.len.new.self) (g.D.Disk.taken_count c.cell_of.new.disk) (g.D.Disk.taken_count c.cell_of.new.disk)
    c.requires.bucket c.len.ensures.image (omega (arith, c.len.ensures.taken)) (c.cell_of.ensures.cost c.args.head.now places) (omega (arith))

pub returns-in_err-cell-clause-bound : goal.returns-in_err-cell-clause-bound
returns-in_err-cell-clause-bound g c =
    bound_in_file (g.D.Disk.image c.args.disk.now) (g.D.Disk.taken_count c.args.disk.now) (g.D.Disk.taken_count c.cell_of.new.disk) c.in_ok-len.len c.in_ok-len.ensures.value (omega (arith, c.len.ensures.taken, c.cell_of.ensures.bound))

pub returns-in_default-clause-cost : goal.returns-in_default-clause-cost
returns-in_default-clause-cost g c = λ places.
    cost_in_chain c.args.head.now (g.D.Disk.image c.args.disk.now) (g.D.Disk.image c.len.new.self) c.args.bucket c.args.place places (g.D.Disk.taken_count c.args.disk.now) (g.D.Disk.taken_count c.len.new.self) (g.D.Disk.taken_count c.cell_of.new.disk) (g.D.Disk.taken_count c.cell_of.new.disk)
    c.requires.bucket c.len.ensures.image (omega (arith, c.len.ensures.taken)) (c.cell_of.ensures.cost c.args.head.now places) (omega (arith))

pub returns-in_default-clause-bound : goal.returns-in_default-clause-bound
returns-in_default-clause-bound g c =
    bound_in_file (g.D.Disk.image c.args.disk.now) (g.D.Disk.taken_count c.args.disk.now) (g.D.Disk.taken_count c.cell_of.new.disk) c.in_ok-len.len c.in_ok-len.ensures.value (omega (arith, c.len.ensures.taken, c.cell_of.ensures.bound))

pub returns-in_err-link-clause-cost : goal.returns-in_err-link-clause-cost
returns-in_err-link-clause-cost g c = λ places.
    cost_in_chain c.args.head.now (g.D.Disk.image c.args.disk.now) (g.D.Disk.image c.len.new.self) c.args.bucket c.args.place places (g.D.Disk.taken_count c.args.disk.now) (g.D.Disk.taken_count c.len.new.self) (g.D.Disk.taken_count c.cell_of.new.disk) (g.D.Disk.taken_count c.number_at.new.disk)
    c.requires.bucket c.len.ensures.image (omega (arith, c.len.ensures.taken)) (c.cell_of.ensures.cost c.args.head.now places) (omega (arith, c.number_at.ensures.taken))

pub returns-in_err-link-clause-bound : goal.returns-in_err-link-clause-bound
returns-in_err-link-clause-bound g c =
    bound_in_file (g.D.Disk.image c.args.disk.now) (g.D.Disk.taken_count c.args.disk.now) (g.D.Disk.taken_count c.number_at.new.disk) c.in_ok-len.len c.in_ok-len.ensures.value (omega (arith, c.len.ensures.taken, c.cell_of.ensures.bound, c.number_at.ensures.taken))

pub returns-clause-cost : goal.returns-clause-cost
returns-clause-cost g c = λ places.
    cost_in_chain c.args.head.now (g.D.Disk.image c.args.disk.now) (g.D.Disk.image c.len.new.self) c.args.bucket c.args.place places (g.D.Disk.taken_count c.args.disk.now) (g.D.Disk.taken_count c.len.new.self) (g.D.Disk.taken_count c.cell_of.new.disk) (g.D.Disk.taken_count c.write_at.new.self)
    c.requires.bucket c.len.ensures.image (omega (arith, c.len.ensures.taken)) (c.cell_of.ensures.cost c.args.head.now places) (omega (arith, c.number_at.ensures.taken, c.write_at.ensures.taken))

pub returns-clause-bound : goal.returns-clause-bound
returns-clause-bound g c =
    bound_in_file (g.D.Disk.image c.args.disk.now) (g.D.Disk.taken_count c.args.disk.now) (g.D.Disk.taken_count c.write_at.new.self) c.in_ok-len.len c.in_ok-len.ensures.value (omega (arith, c.len.ensures.taken, c.cell_of.ensures.bound, c.number_at.ensures.taken, c.write_at.ensures.taken))
