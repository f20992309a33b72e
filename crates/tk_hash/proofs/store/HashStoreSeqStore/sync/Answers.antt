use Rattle.std.proofs.Common.{rules, [], length, refl}
use Rattle.tk_hash.proofs.Keeping.{keeps_within}
use Rattle.tk_hash.proofs.HashKeeps.{done, least_if, shelf_same, stood_kept, safe_kept}
use Rattle.tk_hash.proofs.HashGrows.{synced, settles_held}
use Rattle.tk_hash.proofs.store.HashStoreSeqStore.sync.Goals as goal

pub returns-in_ok-as_store_error-clause-stands : goal.returns-in_ok-as_store_error-clause-stands
returns-in_ok-as_store_error-clause-stands g c first since hard st =
    let answer = c.as_store_error.ensures.err in
    synced g.D.Disk.image g.D.Disk.may_leave g.D.Disk.past g.D.Disk.moment g.D.Disk.left_with c.args.self.now _ c.args.hard first since hard
    (record {
      head = c.sync_log.ensures.head;
      end = c.sync_log.ensures.end;
      closing = refl;
      count = refl;
      next = refl;
      last = refl;
      writable = refl;
      closed = λ unclosed. unclosed;
      heads = refl;
      found = λ known. known;
      buffer = refl;
      bytes = done c.sync_log.result c.as_store_error.result c.in_ok-as_store_error.field-0 answer (search rules) c.sync_log.ensures.image;
    })
    (shelf_same g.D.Disk.image c.args.self.now)
    (λ is may. done c.sync_log.result c.as_store_error.result c.in_ok-as_store_error.field-0 answer (search rules) (c.sync_log.ensures.durable is))
    (λ may. settles_held g.D.Disk.image g.D.Disk.may_leave g.D.Disk.past g.D.Disk.moment g.D.Disk.left_with c.args.self.now first since hard st _ c.sync_log.ensures.past c.sync_log.ensures.pasts)
    c.sync_log.ensures.crash st

pub returns-in_ok-as_store_error-clause-since : goal.returns-in_ok-as_store_error-clause-since
returns-in_ok-as_store_error-clause-since g c t n first since hard st =
    stood_kept g.D.Disk.image g.D.Disk.may_leave g.D.Disk.past g.D.Disk.moment g.D.Disk.left_since g.D.Disk.left_with g.met.D.Disk.since_with c.args.self.now _ t n first since hard _ st
    (returns-in_ok-as_store_error-clause-stands g c first since hard st.stands) (least_if c.args.hard hard (length since) st.stands.synced) c.sync_log.ensures.head refl c.sync_log.ensures.told
    (keeps_within g.D.Disk.may_leave g.D.Disk.moment g.D.Disk.left_since _ _ _ _ c.sync_log.ensures.crash c.sync_log.ensures.time)
    (λ may. settles_held g.D.Disk.image g.D.Disk.may_leave g.D.Disk.past g.D.Disk.moment g.D.Disk.left_with c.args.self.now first since hard st.stands _ c.sync_log.ensures.past c.sync_log.ensures.pasts)

pub returns-in_ok-as_store_error-clause-safe : goal.returns-in_ok-as_store_error-clause-safe
returns-in_ok-as_store_error-clause-safe g c t n first since hard st =
    safe_kept g.D.Disk.image g.D.Disk.may_leave g.D.Disk.past g.D.Disk.moment g.D.Disk.left_since g.D.Disk.left_with g.met.D.Disk.since_with c.args.self.now _ t n first since hard st c.sync_log.ensures.head refl c.sync_log.ensures.told
    (keeps_within g.D.Disk.may_leave g.D.Disk.moment g.D.Disk.left_since _ _ _ _ c.sync_log.ensures.crash c.sync_log.ensures.time)
    (λ may. settles_held g.D.Disk.image g.D.Disk.may_leave g.D.Disk.past g.D.Disk.moment g.D.Disk.left_with c.args.self.now first since hard st.stands _ c.sync_log.ensures.past c.sync_log.ensures.pasts)

pub returns-in_err-as_store_error-clause-safe : goal.returns-in_err-as_store_error-clause-safe
returns-in_err-as_store_error-clause-safe g c t n first since hard st =
    safe_kept g.D.Disk.image g.D.Disk.may_leave g.D.Disk.past g.D.Disk.moment g.D.Disk.left_since g.D.Disk.left_with g.met.D.Disk.since_with c.args.self.now _ t n first since hard st c.sync_log.ensures.head refl c.sync_log.ensures.told
    (keeps_within g.D.Disk.may_leave g.D.Disk.moment g.D.Disk.left_since _ _ _ _ c.sync_log.ensures.crash c.sync_log.ensures.time)
    (λ may. settles_held g.D.Disk.image g.D.Disk.may_leave g.D.Disk.past g.D.Disk.moment g.D.Disk.left_with c.args.self.now first since hard st.stands _ c.sync_log.ensures.past c.sync_log.ensures.pasts)
