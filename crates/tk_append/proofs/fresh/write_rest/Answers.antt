use Rattle.std.proofs.Common.{◌≡◌, ℕ, ◌≤◌, ◌^◌, ◌++◌, eqb, List, [], length, drop, refl, sym, ◌∙◌, ap, subst, arith}
use Rattle.std.proofs.lemmas.Option.{IfSome_then}
use Rattle.tk_model.specs.declared.record.Pair.{Pair}
use Rattle.tk_block.specs.declared.block.Body.{Body}
use Rattle.tk_block.specs.Text.{base_of}
use Rattle.tk_block.specs.Layout.{end_of, laid, heads_text, texts, links_of}
use Rattle.tk_block.proofs.Grammar.{length-closing_text}
use Rattle.tk_append.specs.Fresh.{fresh_bodies, fresh_text}
use Rattle.tk_append.proofs.Nameless.{none_behind, nameless_called, nameless_joined}
use Rattle.tk_append.proofs.FreshSteps.{bodies-fresh, fresh_rest, rest_written}
use Rattle.tk_append.proofs.FreshPasts.{synced_none}
use Rattle.tk_append.proofs.fresh.write_rest.Goals as goal

pub write_records-requires-clause-end : goal.write_records-requires-clause-end
write_records-requires-clause-end g c =
    subst (λ (l : List Body). end_of (base_of c.args.head.now.p) l ≤ 2 ^ 40)
    (bodies-fresh c.args.head.now.kind c.args.number c.args.pairs.now ∙ ap (λ (l : List Pair). fresh_bodies c.args.number (eqb c.args.head.now.kind 2) l) (sym c.as_slice.ensures)) c.requires.end

pub returns-in_err-write_at-clause-no_header : goal.returns-in_err-write_at-clause-no_header
returns-in_err-write_at-clause-no_header g c =
    let closed = nameless_joined g.D.Disk.past g.D.Disk.moment g.D.Disk.left_with c.args.disk.now c.write_records.new.disk c.write_at.new.self c.write_records.ensures.no_header
    (nameless_called g.D.Disk.may_leave g.D.Disk.past g.D.Disk.moment g.D.Disk.left_with g.met.D.Disk.only_with _ _ c.write_at.ensures.pasts (none_behind 32 _ _ _ (omega arith) c.write_at.ensures.past)) in
    IfSome_then (g.D.Disk.image c.args.disk.now) c.requires.empty (λ f empty. closed)

pub returns-in_err-sync-clause-no_header : goal.returns-in_err-sync-clause-no_header
returns-in_err-sync-clause-no_header g c =
    let image = g.D.Disk.image in
    let closed = nameless_joined g.D.Disk.past g.D.Disk.moment g.D.Disk.left_with c.args.disk.now c.write_records.new.disk c.write_at.new.self c.write_records.ensures.no_header
    (nameless_called g.D.Disk.may_leave g.D.Disk.past g.D.Disk.moment g.D.Disk.left_with g.met.D.Disk.only_with _ _ c.write_at.ensures.pasts (none_behind 32 _ _ _ (omega arith) c.write_at.ensures.past)) in
    let pairs : c.as_slice.result.now ≡ c.args.pairs.now = c.as_slice.ensures in
    let counted : c.len-count.result ≡ length c.args.pairs.now = c.len-count.ensures in
    let bodies = fresh_bodies c.args.number (eqb c.args.head.now.kind 2) c.as_slice.result.now in
    let blocks = laid (base_of c.args.head.now.p) bodies in
    let text : List ℕ = heads_text c.args.head.now.p blocks ++ texts blocks (links_of c.args.head.now.p [] blocks) in
    let is : c.write_closing.result ++ text ≡ drop 32 (fresh_text c.args.head.now c.args.number c.args.pairs.now) =
    ap (λ (l : List ℕ). l ++ text) c.write_closing.ensures
    ∙ fresh_rest c.args.head.now c.args.number c.as_slice.result.now c.in_ok-size.size c.len-count.result c.next_of-next.result c.in_ok-size.ensures.end (counted ∙ ap length (sym pairs)) (c.next_of-next.ensures c.as_slice.result.now (counted ∙ ap length (sym pairs)))
    ∙ ap (λ (l : List Pair). drop 32 (fresh_text c.args.head.now c.args.number l)) pairs in
    let long : length c.write_closing.result ≡ 32 = ap length c.write_closing.ensures ∙ length-closing_text _ in
    let written = rest_written (image c.args.disk.now) (image c.write_records.new.disk) (image c.write_at.new.self) (image c.write_at.new.self) c.write_closing.result text _ long c.in_ok-size.ensures.written c.in_ok-write_at.ensures.written refl is in
    let none = synced_none c.sync.result (image c.args.disk.now) (image c.write_at.new.self) _ (g.D.Disk.past c.write_at.new.self) (g.D.Disk.past c.sync.new.self) written (c.sync.ensures.settled refl) c.sync.ensures.unsettled in
    IfSome_then (image c.args.disk.now) none
    (λ f none_more.
    nameless_joined g.D.Disk.past g.D.Disk.moment g.D.Disk.left_with c.args.disk.now c.write_at.new.self c.sync.new.self closed
    (nameless_called g.D.Disk.may_leave g.D.Disk.past g.D.Disk.moment g.D.Disk.left_with g.met.D.Disk.only_with _ _ c.sync.ensures.pasts none_more))

pub returns-clause-no_header : goal.returns-clause-no_header
returns-clause-no_header g c =
    let image = g.D.Disk.image in
    let closed = nameless_joined g.D.Disk.past g.D.Disk.moment g.D.Disk.left_with c.args.disk.now c.write_records.new.disk c.write_at.new.self c.write_records.ensures.no_header
    (nameless_called g.D.Disk.may_leave g.D.Disk.past g.D.Disk.moment g.D.Disk.left_with g.met.D.Disk.only_with _ _ c.write_at.ensures.pasts (none_behind 32 _ _ _ (omega arith) c.write_at.ensures.past)) in
    let pairs : c.as_slice.result.now ≡ c.args.pairs.now = c.as_slice.ensures in
    let counted : c.len-count.result ≡ length c.args.pairs.now = c.len-count.ensures in
    let bodies = fresh_bodies c.args.number (eqb c.args.head.now.kind 2) c.as_slice.result.now in
    let blocks = laid (base_of c.args.head.now.p) bodies in
    let text : List ℕ = heads_text c.args.head.now.p blocks ++ texts blocks (links_of c.args.head.now.p [] blocks) in
    let is : c.write_closing.result ++ text ≡ drop 32 (fresh_text c.args.head.now c.args.number c.args.pairs.now) =
    ap (λ (l : List ℕ). l ++ text) c.write_closing.ensures
    ∙ fresh_rest c.args.head.now c.args.number c.as_slice.result.now c.in_ok-size.size c.len-count.result c.next_of-next.result c.in_ok-size.ensures.end (counted ∙ ap length (sym pairs)) (c.next_of-next.ensures c.as_slice.result.now (counted ∙ ap length (sym pairs)))
    ∙ ap (λ (l : List Pair). drop 32 (fresh_text c.args.head.now c.args.number l)) pairs in
    let long : length c.write_closing.result ≡ 32 = ap length c.write_closing.ensures ∙ length-closing_text _ in
    let written = rest_written (image c.args.disk.now) (image c.write_records.new.disk) (image c.write_at.new.self) (image c.write_at.new.self) c.write_closing.result text _ long c.in_ok-size.ensures.written c.in_ok-write_at.ensures.written refl is in
    let none = synced_none c.sync.result (image c.args.disk.now) (image c.write_at.new.self) _ (g.D.Disk.past c.write_at.new.self) (g.D.Disk.past c.sync.new.self) written (c.sync.ensures.settled refl) c.sync.ensures.unsettled in
    IfSome_then (image c.args.disk.now) none
    (λ f none_more.
    nameless_joined g.D.Disk.past g.D.Disk.moment g.D.Disk.left_with c.args.disk.now c.write_at.new.self c.sync.new.self closed
    (nameless_called g.D.Disk.may_leave g.D.Disk.past g.D.Disk.moment g.D.Disk.left_with g.met.D.Disk.only_with _ _ c.sync.ensures.pasts none_more))

pub returns-clause-written : goal.returns-clause-written
returns-clause-written g c =
    let image = g.D.Disk.image in
    let pairs : c.as_slice.result.now ≡ c.args.pairs.now = c.as_slice.ensures in
    let counted : c.len-count.result ≡ length c.args.pairs.now = c.len-count.ensures in
    let bodies = fresh_bodies c.args.number (eqb c.args.head.now.kind 2) c.as_slice.result.now in
    let blocks = laid (base_of c.args.head.now.p) bodies in
    let text : List ℕ = heads_text c.args.head.now.p blocks ++ texts blocks (links_of c.args.head.now.p [] blocks) in
    let is : c.write_closing.result ++ text ≡ drop 32 (fresh_text c.args.head.now c.args.number c.args.pairs.now) =
    ap (λ (l : List ℕ). l ++ text) c.write_closing.ensures
    ∙ fresh_rest c.args.head.now c.args.number c.as_slice.result.now c.in_ok-size.size c.len-count.result c.next_of-next.result c.in_ok-size.ensures.end (counted ∙ ap length (sym pairs)) (c.next_of-next.ensures c.as_slice.result.now (counted ∙ ap length (sym pairs)))
    ∙ ap (λ (l : List Pair). drop 32 (fresh_text c.args.head.now c.args.number l)) pairs in
    let long : length c.write_closing.result ≡ 32 = ap length c.write_closing.ensures ∙ length-closing_text _ in
    rest_written (image c.args.disk.now) (image c.write_records.new.disk) (image c.write_at.new.self) (image c.sync.new.self) c.write_closing.result text _ long c.in_ok-size.ensures.written c.in_ok-write_at.ensures.written c.in_ok-sync.ensures.image is
