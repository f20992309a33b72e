use Rattle.std.proofs.Common.{◌≡◌, ◌≤◌, ◌^◌, ◌+◌, ◌*◌, ℕ, List, ◌∙◌, sym, subst, length, arith}
use Rattle.std.specs.Prelude.{Option, IfSome}
use Rattle.std.proofs.Math.Nat.{pow-le-pow_right}
use Rattle.tk_append.specs.Chains.{HeadsAre}
use Rattle.tk_disk.proofs.Moments.{reads_joined}
use Rattle.tk_append.specs.Opening.{Ends, first_fault, end_fault}
use Rattle.tk_append.specs.Log.{TellsCause}
use Rattle.tk_append.specs.Walked.{WalkedAll, WalkFails}
use Rattle.tk_append.specs.Checked.{HasHeads}
use Rattle.tk_append.proofs.DiskChecks.{closed_on, none_fails, walk_cause, end_cause, tells_on}
use Rattle.tk_append.proofs.check.check_disk.Goals as goal

pub check_end-requires : goal.check_end-requires
check_end-requires g c =
    let few : 2 ^ c.in_ok-found.found.head.p ≤ 2 ^ 24 = pow-le-pow_right (omega arith) c.in_ok-found.ensures.front.power in
    omega (arith, few, c.in_ok-walker.ensures.walked.at.heads.whole)

pub returns-in_err-walker-clause-exact : goal.returns-in_err-walker-clause-exact
returns-in_err-walker-clause-exact g c =
    let found = c.in_ok-found.found in
    let e = c.in_err-walker.field-0.0 in
    let image = g.D.Disk.image c.args.disk.now in
    tells_on _ e (λ f. first_fault c.args.kinds.now c.args.writable c.args.shard f) image c.from_residual-in_err-walker.ensures.1
    (walk_cause image c.args.kinds.now c.args.writable c.args.shard found c.in_ok-found.ensures.front e
    (subst (λ (o : Option (List ℕ)). IfSome o (λ f. length f ≡ found.closing.size → WalkFails found.head c.args.shard f e)) c.read_front.ensures.image c.in_err-walker.ensures.fails))

pub returns-in_err-check_end-clause-exact : goal.returns-in_err-check_end-clause-exact
returns-in_err-check_end-clause-exact g c =
    let found = c.in_ok-found.found in
    let walker = c.in_ok-walker.walker in
    let e = c.in_err-check_end.field-0.0 in
    let image = g.D.Disk.image c.args.disk.now in
    let fr = c.in_ok-found.ensures.front in
    let all : WalkedAll image found.head c.args.shard found.closing.size walker = subst (λ (o : Option (List ℕ)). WalkedAll o found.head c.args.shard found.closing.size walker) c.read_front.ensures.image c.in_ok-walker.ensures.walked in
    tells_on _ e (λ f. first_fault c.args.kinds.now c.args.writable c.args.shard f) image c.from_residual-in_err-check_end.ensures.1
    (end_cause image c.args.kinds.now c.args.writable c.args.shard found walker fr all e (64 + 8 * length walker.heads.items) (omega (arith, all.at.heads.whole, fr.base))
    (subst (λ (o : Option (List ℕ)). IfSome o (λ f. 64 + 8 * length walker.heads.items ≤ length f → TellsCause e (end_fault c.args.writable found.head found.closing f (Ends all.w)))) (c.walk_file.ensures.image ∙ c.read_front.ensures.image)
    (c.in_err-check_end.ensures.fails found.head found.closing.size all.w all.at)))

pub returns-clause-exact : goal.returns-clause-exact
returns-clause-exact g c =
    let found = c.in_ok-found.found in
    let walker = c.in_ok-walker.walker in
    let image = g.D.Disk.image c.args.disk.now in
    let all : WalkedAll image found.head c.args.shard found.closing.size walker = subst (λ (o : Option (List ℕ)). WalkedAll o found.head c.args.shard found.closing.size walker) c.read_front.ensures.image c.in_ok-walker.ensures.walked in
    let ends : HasHeads image found.head all.w found.closing c.args.writable =
    subst (λ (o : Option (List ℕ)). HasHeads o found.head all.w found.closing c.args.writable) (c.walk_file.ensures.image ∙ c.read_front.ensures.image) (c.in_ok-check_end.ensures.ends found.head found.closing.size all.w all.at) in
    none_fails image c.args.kinds.now c.args.writable c.args.shard found walker c.in_ok-found.ensures.front all ends

pub returns-clause-closed : goal.returns-clause-closed
returns-clause-closed g c =
    let found = c.in_ok-found.found in
    let walker = c.in_ok-walker.walker in
    let image = g.D.Disk.image c.args.disk.now in
    let all : WalkedAll image found.head c.args.shard found.closing.size walker = subst (λ (o : Option (List ℕ)). WalkedAll o found.head c.args.shard found.closing.size walker) c.read_front.ensures.image c.in_ok-walker.ensures.walked in
    let ends : HasHeads image found.head all.w found.closing c.args.writable =
    subst (λ (o : Option (List ℕ)). HasHeads o found.head all.w found.closing c.args.writable) (c.walk_file.ensures.image ∙ c.read_front.ensures.image) (c.in_ok-check_end.ensures.ends found.head found.closing.size all.w all.at) in
    closed_on image c.args.kinds.now c.args.writable c.args.shard found walker c.into_heads-heads.result.items c.in_ok-found.ensures.front all ends
    (subst (λ (v : _). HeadsAre found.head.p v.items all.w.blocks) (sym c.into_heads-heads.ensures) (c.in_ok-check_end.ensures.heads found.head.p found.closing.size all.w all.at))

pub returns-in_err-walker-clause-still : goal.returns-in_err-walker-clause-still
returns-in_err-walker-clause-still g c =
    reads_joined g.D.Disk.may_leave g.D.Disk.moment g.D.Disk.left_since g.D.Disk.past g.D.Disk.left_with g.met.D.Disk.counts_now g.met.D.Disk.counts_with _ _ _ c.read_front.ensures.still c.walk_file.ensures.still

pub returns-in_err-check_end-clause-still : goal.returns-in_err-check_end-clause-still
returns-in_err-check_end-clause-still g c =
    reads_joined g.D.Disk.may_leave g.D.Disk.moment g.D.Disk.left_since g.D.Disk.past g.D.Disk.left_with g.met.D.Disk.counts_now g.met.D.Disk.counts_with _ _ _
    (reads_joined g.D.Disk.may_leave g.D.Disk.moment g.D.Disk.left_since g.D.Disk.past g.D.Disk.left_with g.met.D.Disk.counts_now g.met.D.Disk.counts_with _ _ _ c.read_front.ensures.still c.walk_file.ensures.still) c.check_end.ensures.still

pub returns-clause-still : goal.returns-clause-still
returns-clause-still g c =
    reads_joined g.D.Disk.may_leave g.D.Disk.moment g.D.Disk.left_since g.D.Disk.past g.D.Disk.left_with g.met.D.Disk.counts_now g.met.D.Disk.counts_with _ _ _
    (reads_joined g.D.Disk.may_leave g.D.Disk.moment g.D.Disk.left_since g.D.Disk.past g.D.Disk.left_with g.met.D.Disk.counts_now g.met.D.Disk.counts_with _ _ _ c.read_front.ensures.still c.walk_file.ensures.still) c.check_end.ensures.still
