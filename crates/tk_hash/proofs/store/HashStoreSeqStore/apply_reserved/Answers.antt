use Rattle.std.proofs.Common.{rules, ◌≡◌, ◌^◌, ◌+◌, ◌∷◌, ◌++◌, ℕ, List, [], take, sym, ◌∙◌, ap, subst, arith}
use Rattle.std.specs.Prelude.{Some, OnOk, sum_by}
use Rattle.std.proofs.lemmas.Result.{on_ok_weaker}
use Rattle.tk_model.specs.declared.record.Group.{Group}
use Rattle.tk_model.specs.declared.record.Change.{Change}
use Rattle.tk_store.specs.Store.{StoreConstants, First, groups_made_by, extent_of}
use Rattle.tk_append.specs.LogParts.{log_disk, log_head, log_end}
use Rattle.tk_hash.specs.Hash.{hash_constants, groups_held, IsReservedGroup, HashReserved, HashStands, KeepsGroups}
use Rattle.tk_hash.specs.Fair.{KeepsFair}
use Rattle.tk_append.specs.Log.{AreGroups}
use Rattle.tk_hash.proofs.HashKeeps.{stood_as, safe_as, always_told}
use Rattle.tk_hash.proofs.HashGrows.{restaged, staged_is, staged_still, one_made, may_write, legal_more, sum_is, map_more, mapped_still}
use Rattle.tk_hash.proofs.store.HashStoreSeqStore.apply_reserved.Given as Given
use Rattle.tk_hash.proofs.store.HashStoreSeqStore.apply_reserved.Goals as goal

some_same : (a b : ℕ) → Some a ≡ Some b → a ≡ b
some_same a b is = cc

module _ (g : Given.Over) (c : goal.After-put_reserved_group g) (changes : List Change) (p : HashReserved g.D.Disk.image c.args.self.now changes) where
  is_staged : IsReservedGroup g.D.Disk.image c.args.self.now changes c.in-Some.reserved_group
  is_staged = staged_is g.D.Disk.image g.D.Disk.may_leave g.D.Disk.past c.args.self.now c.in-Some.reserved_group changes (sym c.take.ensures.value ∙ c.in-Some.is) p

  module _ (first : First) (since : List Group) (hard : ℕ) (st : HashStands g.D.Disk.image g.D.Disk.may_leave g.D.Disk.past c.args.self.now first since hard) where
    stands_more : OnOk c.put_reserved_group.result (HashStands g.D.Disk.image g.D.Disk.may_leave g.D.Disk.past c.put_reserved_group.new.self first (since ++ record { number = c.args.number; changes = changes } ∷ []) hard)
    stands_more =
        c.put_reserved_group.ensures.stands changes (staged_still g.D.Disk.image g.D.Disk.may_leave g.D.Disk.past c.args.self.now c.take.new.self changes c.in-Some.reserved_group is_staged) p.fit p.alone first since hard
        (restaged g.D.Disk.image g.D.Disk.may_leave g.D.Disk.past c.args.self.now first since hard st c.take.new.self c.args.self.now.closed (λ unclosed. unclosed))

    stands_made : OnOk c.put_reserved_group.result (HashStands g.D.Disk.image g.D.Disk.may_leave g.D.Disk.past c.put_reserved_group.new.self first (since ++ groups_made_by (hash_constants c.args.self.now) c.args.number changes) hard)
    stands_made = subst (λ (l : List Group). OnOk c.put_reserved_group.result (HashStands g.D.Disk.image g.D.Disk.may_leave g.D.Disk.past c.put_reserved_group.new.self first (since ++ l) hard)) (one_made (hash_constants c.args.self.now) c.args.number changes is_staged.some) stands_more

    keeps : KeepsGroups g.D.Disk.may_leave g.D.Disk.moment g.D.Disk.left_since (log_head c.args.self.now.log) (groups_held first.held ++ take hard since) (log_disk c.args.self.now.log) (log_disk c.put_reserved_group.new.self.log)
    keeps = c.put_reserved_group.ensures.kept first since hard (restaged g.D.Disk.image g.D.Disk.may_leave g.D.Disk.past c.args.self.now first since hard st c.take.new.self c.args.self.now.closed (λ unclosed. unclosed))

    fair_more : KeepsFair g.D.Disk.past g.D.Disk.moment g.D.Disk.left_with (log_head c.args.self.now.log) (groups_held first.held ++ since) (record { number = c.args.number; changes = changes } ∷ []) (log_disk c.args.self.now.log) (log_disk c.put_reserved_group.new.self.log)
    fair_more =
        c.put_reserved_group.ensures.fair changes (staged_still g.D.Disk.image g.D.Disk.may_leave g.D.Disk.past c.args.self.now c.take.new.self changes c.in-Some.reserved_group is_staged) first since hard
        (restaged g.D.Disk.image g.D.Disk.may_leave g.D.Disk.past c.args.self.now first since hard st c.take.new.self c.args.self.now.closed (λ unclosed. unclosed))

    fair_made : KeepsFair g.D.Disk.past g.D.Disk.moment g.D.Disk.left_with (log_head c.args.self.now.log) (groups_held first.held ++ since) (groups_made_by (hash_constants c.args.self.now) c.args.number changes) (log_disk c.args.self.now.log) (log_disk c.put_reserved_group.new.self.log)
    fair_made = subst (λ (l : List Group). KeepsFair g.D.Disk.past g.D.Disk.moment g.D.Disk.left_with (log_head c.args.self.now.log) (groups_held first.held ++ since) l (log_disk c.args.self.now.log) (log_disk c.put_reserved_group.new.self.log)) (one_made (hash_constants c.args.self.now) c.args.number changes is_staged.some) fair_more

    legal_made : AreGroups 0 (2 ^ 64) (groups_held first.held ++ (since ++ groups_made_by (hash_constants c.args.self.now) c.args.number changes))
    legal_made =
        subst (λ (l : List Group). AreGroups 0 (2 ^ 64) (groups_held first.held ++ (since ++ l))) (one_made (hash_constants c.args.self.now) c.args.number changes is_staged.some)
        (legal_more g.D.Disk.image g.D.Disk.may_leave g.D.Disk.past c.args.self.now first since hard st c.args.number changes is_staged.some p.fit p.alone (c.requires.number (may_write c.args.self.now.writable changes p.may is_staged.some)) (omega arith))

pub returns-in-Some-clause-stands : goal.returns-in-Some-clause-stands
returns-in-Some-clause-stands g c changes p first since hard st = stands_made g c changes p first since hard st

pub returns-in-Some-clause-since : goal.returns-in-Some-clause-since
returns-in-Some-clause-since g c changes p t n first since hard st =
    on_ok_weaker c.put_reserved_group.result
    (λ stands. stood_as g.D.Disk.image g.D.Disk.may_leave g.D.Disk.past g.D.Disk.moment g.D.Disk.left_since g.D.Disk.left_with g.met.D.Disk.since_with c.args.self.now c.put_reserved_group.new.self t n first since (groups_made_by (hash_constants c.args.self.now) c.args.number changes) hard hard st stands (omega arith)
    c.put_reserved_group.ensures.head (ap (λ (k : StoreConstants). k.writable) c.put_reserved_group.ensures.constants) c.put_reserved_group.ensures.told (keeps g c changes p first since hard st.stands)
    (λ may. always_told _ _ (fair_made g c changes p first since hard st.stands)))
    (stands_made g c changes p first since hard st.stands)

pub returns-in-Some-clause-safe : goal.returns-in-Some-clause-safe
returns-in-Some-clause-safe g c changes p t n first since hard st =
    safe_as g.D.Disk.image g.D.Disk.may_leave g.D.Disk.past g.D.Disk.moment g.D.Disk.left_since g.D.Disk.left_with g.met.D.Disk.since_with c.args.self.now c.put_reserved_group.new.self t n first since (groups_made_by (hash_constants c.args.self.now) c.args.number changes) hard st
    c.put_reserved_group.ensures.head (ap (λ (k : StoreConstants). k.writable) c.put_reserved_group.ensures.constants) c.put_reserved_group.ensures.told (keeps g c changes p first since hard st.stands)
    (λ may. always_told _ _ (fair_made g c changes p first since hard st.stands)) (legal_made g c changes p first since hard st.stands)

pub returns-in-Some-clause-goes_on : goal.returns-in-Some-clause-goes_on
returns-in-Some-clause-goes_on g c = record {
  same_nature = c.put_reserved_group.ensures.constants;
  tells = mapped_still _ _ (g.D.Disk.image (log_disk c.args.self.now.log)) (g.D.Disk.image (log_disk c.put_reserved_group.new.self.log)) c.put_reserved_group.ensures.told;
  later = c.put_reserved_group.ensures.time;
  more_taken = search rules;
}

pub returns-in-Some-clause-map : goal.returns-in-Some-clause-map
returns-in-Some-clause-map g c changes p =
    let w = c.requires.whole in
    on_ok_weaker c.put_reserved_group.result
    (λ stands. map_more g.D.Disk.image g.D.Disk.may_leave g.D.Disk.past c.args.self.now c.put_reserved_group.new.self c.args.number changes w.0 w.1 w.2 c.put_reserved_group.ensures.told w.3 stands)
    (stands_more g c changes p w.0 w.1 w.2 w.3)

pub returns-in-Some-clause-size : goal.returns-in-Some-clause-size
returns-in-Some-clause-size g c changes v need p extents needs =
    let is = is_staged g c changes p in
    let sum : sum_by (extent_of 1) changes ≡ need = sym (sum_is (hash_constants c.args.self.now) changes is.some) ∙ some_same _ _ needs in
    on_ok_weaker c.put_reserved_group.result (λ size. size ∙ ap (λ (k : ℕ). log_end c.args.self.now.log + k) sum)
    (c.put_reserved_group.ensures.size changes (staged_still g.D.Disk.image g.D.Disk.may_leave g.D.Disk.past c.args.self.now c.take.new.self changes c.in-Some.reserved_group is))
