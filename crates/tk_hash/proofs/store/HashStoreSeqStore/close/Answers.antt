use Rattle.std.proofs.Common.{◌∙◌, ◌≤◌, ◌++◌, List, [], length, true, sym, ap, subst, arith, ◌≡◌, false}
use Rattle.std.specs.Prelude.{None}
use Rattle.std.proofs.lemmas.List.{append-nil}
use Rattle.tk_model.specs.declared.record.Group.{Group}
use Rattle.tk_store.specs.Store.{StoreConstants}
use Rattle.tk_append.specs.Log.{closed_text}
use Rattle.tk_append.specs.LogParts.{log_disk, log_head}
use Rattle.tk_hash.specs.Hash.{HashStands, opening}
use Rattle.tk_hash.proofs.HashKeeps.{stood_as, safe_kept}
use Rattle.tk_hash.proofs.Ended.{open_unended, on_err}
use Rattle.tk_hash.proofs.HashGrows.{restaged, map_kept, read_file, as_written, as_read}
use Rattle.tk_hash.proofs.store.HashStoreSeqStore.close.Goals as goal

pub returns-in_err-end_file-clause-safe : goal.returns-in_err-end_file-clause-safe
returns-in_err-end_file-clause-safe g c t n first since hard st =
    safe_kept g.D.Disk.image g.D.Disk.may_leave g.D.Disk.past g.D.Disk.moment g.D.Disk.left_since g.D.Disk.left_with g.met.D.Disk.since_with c.args.self.now c.end_file.new.self t n first since hard st c.end_file.ensures.head (ap (λ (k : StoreConstants). k.writable) c.end_file.ensures.constants) c.end_file.ensures.told
    (c.end_file.ensures.kept first since hard (restaged g.D.Disk.image g.D.Disk.may_leave g.D.Disk.past c.args.self.now first since hard st.stands None true (λ (no : true ≡ false). absurd cc)))
    (λ may. c.end_file.ensures.fair first since hard (restaged g.D.Disk.image g.D.Disk.may_leave g.D.Disk.past c.args.self.now first since hard st.stands None true (λ (no : true ≡ false). absurd cc)))

pub returns-in_ok-end_file-clause-safe : goal.returns-in_ok-end_file-clause-safe
returns-in_ok-end_file-clause-safe g c t n first since hard st =
    safe_kept g.D.Disk.image g.D.Disk.may_leave g.D.Disk.past g.D.Disk.moment g.D.Disk.left_since g.D.Disk.left_with g.met.D.Disk.since_with c.args.self.now c.end_file.new.self t n first since hard st c.end_file.ensures.head (ap (λ (k : StoreConstants). k.writable) c.end_file.ensures.constants) c.end_file.ensures.told
    (c.end_file.ensures.kept first since hard (restaged g.D.Disk.image g.D.Disk.may_leave g.D.Disk.past c.args.self.now first since hard st.stands None true (λ (no : true ≡ false). absurd cc)))
    (λ may. c.end_file.ensures.fair first since hard (restaged g.D.Disk.image g.D.Disk.may_leave g.D.Disk.past c.args.self.now first since hard st.stands None true (λ (no : true ≡ false). absurd cc)))

pub returns-in_ok-end_file-clause-stands : goal.returns-in_ok-end_file-clause-stands
returns-in_ok-end_file-clause-stands g c first since hard st =
    subst (λ (l : List Group). HashStands g.D.Disk.image g.D.Disk.may_leave g.D.Disk.past c.end_file.new.self first l (length l)) (sym (append-nil since))
    (c.in_ok-end_file.ensures.stands first since hard (restaged g.D.Disk.image g.D.Disk.may_leave g.D.Disk.past c.args.self.now first since hard st None true (λ (no : true ≡ false). absurd cc)))

pub returns-in_ok-end_file-clause-map : goal.returns-in_ok-end_file-clause-map
returns-in_ok-end_file-clause-map g c =
    let w = c.requires.whole in
    let st = restaged g.D.Disk.image g.D.Disk.may_leave g.D.Disk.past c.args.self.now w.0 w.1 w.2 w.3 None true (λ (no : true ≡ false). absurd cc) in
    map_kept g.D.Disk.image g.D.Disk.may_leave g.D.Disk.past c.args.self.now c.end_file.new.self w.0 w.1 w.2 (length w.1) c.end_file.ensures.told w.3 (c.in_ok-end_file.ensures.stands w.0 w.1 w.2 st)

pub returns-in_ok-end_file-clause-since : goal.returns-in_ok-end_file-clause-since
returns-in_ok-end_file-clause-since g c t n first since hard st =
    let same = append-nil since in
    let within : hard ≤ length (since ++ []) = omega (arith, st.stands.synced, ap length same) in
    stood_as g.D.Disk.image g.D.Disk.may_leave g.D.Disk.past g.D.Disk.moment g.D.Disk.left_since g.D.Disk.left_with g.met.D.Disk.since_with c.args.self.now c.end_file.new.self t n first since [] hard (length (since ++ [])) st (returns-in_ok-end_file-clause-stands g c first since hard st.stands) within
    c.end_file.ensures.head (ap (λ (k : StoreConstants). k.writable) c.end_file.ensures.constants) c.end_file.ensures.told
    (c.end_file.ensures.kept first since hard (restaged g.D.Disk.image g.D.Disk.may_leave g.D.Disk.past c.args.self.now first since hard st.stands None true (λ (no : true ≡ false). absurd cc)))
    (λ may. c.end_file.ensures.fair first since hard (restaged g.D.Disk.image g.D.Disk.may_leave g.D.Disk.past c.args.self.now first since hard st.stands None true (λ (no : true ≡ false). absurd cc)))

pub returns-in_ok-end_file-clause-file : goal.returns-in_ok-end_file-clause-file
returns-in_ok-end_file-clause-file g c groups since hard st =
    let s = c.args.self.now in
    as_written s.writable (g.D.Disk.image (log_disk s.log)) (g.D.Disk.image (log_disk c.end_file.new.self.log)) (closed_text (log_head s.log) (groups ++ since) c.args.next) (closed_text (log_head s.log) groups s.next) c.if-self.true
    (c.in_ok-end_file.ensures.file groups since hard (restaged g.D.Disk.image g.D.Disk.may_leave g.D.Disk.past s (opening groups) since hard st None true (λ (no : true ≡ false). absurd cc)))

pub returns-else-self-clause-file : goal.returns-else-self-clause-file
returns-else-self-clause-file g c groups since hard st =
    let s = c.args.self.now in
    as_read s.writable (g.D.Disk.image (log_disk s.log)) (g.D.Disk.image (log_disk s.log)) (closed_text (log_head s.log) (groups ++ since) c.args.next) (closed_text (log_head s.log) groups s.next) c.if-self.false
    (read_file g.D.Disk.image g.D.Disk.may_leave g.D.Disk.past s groups since hard st c.if-self.false)

pub returns-in_err-end_file-clause-unended : goal.returns-in_err-end_file-clause-unended
returns-in_err-end_file-clause-unended g c =
    let t = c.end_file.new.self in
    on_err c.from_residual.result (open_unended t.closed t.writable t.closing
    (λ may. c.in_err-end_file.ensures.unended ∙ c.requires.whole.3.mark (sym (ap (λ (k : StoreConstants). k.writable) c.end_file.ensures.constants) ∙ may) c.requires.«open»))
