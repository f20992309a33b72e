-- Several writes into the heads of a file, as one.
use Rattle.std.proofs.Common.{◌≡◌, inl, ℕ, ◌+◌, ◌*◌, ◌≤◌, ◌^◌, List, [], ◌++◌, length, ◌∙◌, arith}
use Rattle.std.specs.Prelude.{Option}
use Rattle.std.specs.Option.{is_some}
use Rattle.tk_disk.specs.Past.{Past, Writes}
use Rattle.tk_disk.specs.Crash.{Torn, Follows, LeavesOnly, PastOnly}
use Rattle.tk_disk.proofs.Moments.{torn_more, follows_more, leaves_weaker, leaves_joined}
use Rattle.tk_block.specs.Text.{base_of}
use Rattle.tk_append.specs.declared.log.GroupLog.{GroupLog}
use Rattle.tk_append.specs.LogParts.{log_disk, log_head, log_end}
use Rattle.tk_hash.specs.Plan.{Puts}
use Rattle.tk_hash.proofs.Fairness.{fair_joined, fair_write}

-- some heads more are written
pub puts_more : {D : Type 0} (image : D → Option (List ℕ)) (may_leave : D → List ℕ → Type 0) (past : D → Past) (moment : D → ℕ) (left_since : D → ℕ → List ℕ → Type 0) (left_with : D → ℕ → Past × List ℕ → Type 0) (taken : D → ℕ) (old mid new : GroupLog D) (b : ℕ) (text : List ℕ)
    → 64 + 8 * b + length text ≤ base_of (log_head old).p → Puts image may_leave past moment left_since left_with taken old mid
    → log_head new ≡ log_head mid → log_end new ≡ log_end mid → is_some (image (log_disk new)) ≡ is_some (image (log_disk mid)) → taken (log_disk new) ≡ taken (log_disk mid)
    → Follows (Torn (64 + 8 * b) (length text)) (may_leave (log_disk mid)) (may_leave (log_disk new))
    → LeavesOnly moment left_since (log_disk mid) (log_disk new) (λ c. (d : List ℕ) × may_leave (log_disk mid) d × Torn (64 + 8 * b) (length text) d c)
    → Writes (64 + 8 * b) text (past (log_disk mid)) (past (log_disk new)) → PastOnly moment left_with (log_disk mid) (log_disk new) (Writes (64 + 8 * b) text (past (log_disk mid)))
    → Puts image may_leave past moment left_since left_with taken old new
puts_more image may_leave past moment left_since left_with taken old mid new b text within puts head end told taken_same crash time written pasts = record {
  head = head ∙ puts.head;
  end = end ∙ puts.end;
  told = told ∙ puts.told;
  taken_same = taken_same ∙ puts.taken_same;
  crash = follows_more 64 (8 * 2 ^ (log_head old).p) (64 + 8 * b) (length text) _ _ _ (omega arith) (omega (arith, within)) puts.crash crash;
  time = leaves_joined moment left_since (log_disk old) (log_disk mid) (log_disk new) _ puts.time (leaves_weaker moment left_since (log_disk mid) (log_disk new) _ _ time (λ c torn.
      let e = puts.crash torn.0 torn.1 in
      (e.0, e.1, torn_more 64 (8 * 2 ^ (log_head old).p) (64 + 8 * b) (length text) e.0 torn.0 c (omega arith) (omega (arith, within)) e.2 torn.2)));
  fair = λ groups. fair_joined past moment left_with (log_head old) groups [] (log_disk old) (log_disk mid) (log_disk new) (puts.fair groups)
      (fair_write past moment left_with (log_head old) (groups ++ []) [] (log_disk mid) (log_disk new) (64 + 8 * b) text written pasts (inl within));
}
