-- The blocks of a bucket, as they are found in the file of groups.
use Rattle.std.proofs.Common.{◌≡◌, ℕ, ◌+◌, ◌*◌, ◌<◌, ◌≤◌, ◌^◌, List, [], ◌∷◌, ◌++◌, length, refl, sym, ◌∙◌, ap, subst, arith, length-append}
use Rattle.tk_model.specs.Records.{replay}
use Rattle.tk_model.specs.declared.record.Order.TheVariants.{Hash}
use Rattle.tk_model.specs.declared.record.Group.{Group}
use Rattle.tk_block.specs.declared.head.StaticHead.{StaticHead}
use Rattle.tk_block.specs.Number.{u64_in}
use Rattle.tk_block.specs.Text.{static_text, closing_text, base_of}
use Rattle.tk_block.specs.Layout.{Placed, newest, bodies_of}
use Rattle.tk_block.proofs.Grammar.{length-static_text, length-closing_text}
use Rattle.tk_buckets.specs.Chain.{IsLinked, IsWritten, places_in}
use Rattle.tk_buckets.specs.Lookup.{AllStand}
use Rattle.tk_buckets.proofs.Written.{bucket_written, bucket_stands}
use Rattle.tk_append.specs.FileText.{IsFile}
use Rattle.tk_append.specs.Log.{blocks_of}
use Rattle.tk_append.specs.Restored.{groups_text}
use Rattle.tk_append.proofs.Layouts.{end_of-least}
use Rattle.tk_append.proofs.Reopened.{head_read, newest_laid}
use Rattle.tk_hash.specs.Chain.{chain_of, in_bucket}
use Rattle.tk_hash.specs.Shelf.{left_by}
use Rattle.tk_hash.proofs.Chained.{groups_fit, file_parts}
use Rattle.tk_hash.proofs.Buckets.{left_in_chain}

-- the heads of a file's buckets
head_there : (h : StaticHead) (f : List ℕ) (groups : List Group) (bucket : ℕ) → bucket < 2 ^ h.p → IsFile h f groups → u64_in f (64 + 8 * bucket) ≡ newest h.p bucket 0 (blocks_of h groups)
head_there h f groups bucket below is =
    let parts = file_parts h f groups is in
    let front = static_text h ++ closing_text is.closing in
    let bodies = bodies_of groups in
    let small : newest h.p bucket 0 (blocks_of h groups) < 2 ^ 64 = newest_laid h.p bucket 0 (base_of h.p) (2 ^ 64) bodies (omega arith) (omega (arith, is.size, parts.1)) in
    let long : length front ≡ 64 = omega (arith, length-append (static_text h) (closing_text is.closing), length-static_text h, length-closing_text is.closing) in
    ap (λ (l : List ℕ). u64_in l (64 + 8 * bucket)) is.text ∙ head_read h.p bucket (blocks_of h groups) front (groups_text h groups) long below small

-- the file as tk_buckets sees it
is_written : (h : StaticHead) (f : List ℕ) (groups : List Group) (bucket : ℕ) → bucket < 2 ^ h.p → IsFile h f groups → IsWritten h f bucket (bodies_of groups)
is_written h f groups bucket below is = record {
  size = is.size;
  heads = omega (arith, (file_parts h f groups is).1, end_of-least (base_of h.p) (bodies_of groups));
  fit = groups_fit 0 groups is.legal;
  blocks = (file_parts h f groups is).0;
  head = head_there h f groups bucket below is;
}

-- the chain of a bucket is linked from its newest block
pub chain_linked : (h : StaticHead) (f : List ℕ) (groups : List Group) (bucket : ℕ) → bucket < 2 ^ h.p → IsFile h f groups → IsLinked h f (newest h.p bucket 0 (blocks_of h groups)) (places_in (chain_of h bucket groups))
chain_linked h f groups bucket below is =
    subst (λ (n : ℕ). IsLinked h f n (places_in (chain_of h bucket groups))) (head_there h f groups bucket below is) (bucket_written h f bucket (bodies_of groups) (is_written h f groups bucket below is)).linked

-- its blocks stand in the file
pub chain_stands : (h : StaticHead) (f : List ℕ) (groups : List Group) (bucket : ℕ) → bucket < 2 ^ h.p → IsFile h f groups → AllStand h f (chain_of h bucket groups)
chain_stands h f groups bucket below is = bucket_stands h f bucket (bodies_of groups) (is_written h f groups bucket below is)

no_chain : (h : StaticHead) (f : List ℕ) (first : ℕ) (xs : List Placed) → first ≡ 0 → IsLinked h f first (places_in xs) → xs ≡ []
no_chain h f first [] is linked = refl
no_chain h f first (x ∷ xs) is linked = absurd (omega (arith, is, linked.0, linked.1.behind))

-- a bucket whose head is 0 has no records
pub none_at : (h : StaticHead) (f : List ℕ) (groups : List Group) (bucket : ℕ) → bucket < 2 ^ h.p → IsFile h f groups → newest h.p bucket 0 (blocks_of h groups) ≡ 0 → in_bucket h.p bucket (replay Hash groups []) ≡ []
none_at h f groups bucket below is zero = left_in_chain h bucket groups ∙ ap left_by (no_chain h f _ (chain_of h bucket groups) zero (chain_linked h f groups bucket below is))
