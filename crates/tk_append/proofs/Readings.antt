-- The log of a file that was read has its groups.
use Rattle.std.proofs.Common.{◌≡◌, ◌<◌, ◌^◌, ◌≤◌, ℕ, List, [], ◌++◌, length, drop, refl, sym, ◌∙◌, ap, subst, arith, append_assoc}
use Rattle.std.specs.Prelude.{Bool, Option, Some, None, IfSome}
use Rattle.std.specs.Global.{Vec}
use Rattle.std.proofs.lemmas.List.{drop_at, length-append}
use Rattle.tk_model.specs.declared.record.Group.{Group}
use Rattle.tk_model.specs.declared.record.ShardOf.{ShardOf}
use Rattle.tk_block.specs.declared.head.StaticHead.{StaticHead}
use Rattle.tk_block.specs.declared.closing.Closing.{Closing}
use Rattle.tk_block.specs.Text.{is_static, static_text, closing_text, base_of}
use Rattle.tk_block.specs.Layout.{end_of, bodies_of, heads_text, texts, links_of, file_text}
use Rattle.tk_block.proofs.Grammar.{length-static_text, length-closing_text}
use Rattle.tk_block.proofs.Lengths.{length-heads_text, length-file_text}
use Rattle.tk_disk.specs.Crash.{Torn, Follows, Within}
use Rattle.tk_append.proofs.Layouts.{end_of-least}
use Rattle.tk_append.specs.Chains.{HeadsAre}
use Rattle.tk_append.specs.Log.{HasGroups, AllInItsShard, blocks_of, closed_text}
use Rattle.tk_model.specs.Records.{replay}
use Rattle.tk_model.specs.declared.record.Order.TheVariants.{Hash}
use Rattle.tk_append.specs.LogParts.{Stands, log_disk, log_head, log_end}
use Rattle.tk_append.specs.Read.{IsClosedOn}
use Rattle.tk_append.specs.Counted.{HasCounted}
use Rattle.tk_append.specs.declared.check.Found.{Found}
use Rattle.tk_append.specs.declared.log.GroupLog.{GroupLog}

-- the blocks of a whole file
pub file_blocks : (h : StaticHead) (groups : List Group) (count next : ℕ) → drop (base_of h.p) (file_text h groups count next) ≡ texts (blocks_of h groups) (links_of h.p [] (blocks_of h groups))
unfolding file_text
file_blocks h groups count next =
    let c : Closing = record { size = end_of (base_of h.p) (bodies_of groups); count = count; next = next } in
    let heads = heads_text h.p (blocks_of h groups) in
    let rest = texts (blocks_of h groups) (links_of h.p [] (blocks_of h groups)) in
    ap (λ (l : List ℕ). drop (base_of h.p) l) (sym (append_assoc (static_text h ++ closing_text c) heads rest))
    ∙ drop_at ((static_text h ++ closing_text c) ++ heads) rest (base_of h.p)
    (omega (arith, length-append (static_text h ++ closing_text c) heads, length-append (static_text h) (closing_text c), length-static_text h, length-closing_text c, length-heads_text h.p (blocks_of h groups)))

-- a closed file has its groups
pub closed_groups : (h : StaticHead) (groups : List Group) (next : ℕ) (f : List ℕ) → f ≡ closed_text h groups next → HasGroups h groups f
closed_groups h groups next f is = record {
  size = ap length is ∙ length-file_text h groups _ next;
  blocks = ap (λ (l : List ℕ). drop (base_of h.p) l) is ∙ file_blocks h groups _ next;
}

if_some : (o : Option (List ℕ)) (P Q : List ℕ → Type 0) → IfSome o P → ((f : List ℕ) → P f → Q f) → IfSome o Q
if_some None P Q holds more = tt
if_some (Some f) P Q holds more = more f holds

pub log_stands : {D : Type 0} (image : D → Option (List ℕ)) (old : Option (List ℕ)) (log : GroupLog D) (kinds : List ℕ) (writable : Bool) (shard : ShardOf) (found : Found) (heads : List ℕ) (is : IsClosedOn old kinds writable shard found heads)
    → log_head log ≡ found.head → log_end log ≡ found.closing.size → image (log_disk log) ≡ old → Stands image log is.closed.groups
log_stands image old log kinds writable shard found heads is head end same = record {
  end_is = end ∙ is.closed.size ∙ ap (λ (h : StaticHead). end_of (base_of h.p) (bodies_of is.closed.groups)) (sym head);
  there = subst (λ (o : Option (List ℕ)). IfSome o (HasGroups (log_head log) is.closed.groups)) (sym same)
      (subst (λ (h : StaticHead). IfSome old (HasGroups h is.closed.groups)) (sym head)
      (if_some old (λ f. f ≡ is.bytes) (HasGroups found.head is.closed.groups) is.told (λ f same_bytes. closed_groups found.head is.closed.groups found.closing.next f (same_bytes ∙ is.closed.text))));
}

-- what was read, counted
pub counted_of : {D : Type 0} (image : D → Option (List ℕ)) (disk : D) (log : GroupLog D) (kinds : List ℕ) (writable : Bool) (shard : ShardOf) (found : Found) (heads : Vec ℕ) → IsClosedOn (image disk) kinds writable shard found heads.items
    → log_head log ≡ found.head → log_end log ≡ found.closing.size → image (log_disk log) ≡ image disk → HasCounted image disk shard (record { log = log; heads = heads; count = found.closing.count; next = found.closing.next })
counted_of image disk log kinds writable shard found heads is head end same =
    let groups = is.closed.groups in
    let next = found.closing.next in
    record {
      groups = groups;
      head = ap (λ (h : StaticHead). is_static h) head ∙ is.closed.head;
      generation = subst (λ (h : StaticHead). h.generation < 2 ^ 64) (sym head) is.closed.generation;
      legal = is.closed.legal;
      number = is.closed.number;
      count = is.closed.count;
      stands = log_stands image (image disk) log kinds writable shard found heads.items is head end same;
      heads_are = subst (λ (h : StaticHead). HeadsAre h.p heads.items (blocks_of h groups)) (sym head) is.heads_are;
      in_its_shard = subst (λ (h : StaticHead). h.kind ≡ 1 → AllInItsShard shard groups) (sym head) is.closed.in_its_shard;
      text = if_some (image disk) (λ f. f ≡ is.bytes) (λ f. f ≡ closed_text (log_head log) groups next) is.told
          (λ f same_bytes. same_bytes ∙ is.closed.text ∙ ap (λ (h : StaticHead). closed_text h groups next) (sym head));
      size = if_some (image disk) (λ f. f ≡ is.bytes) (λ f. length f < 2 ^ 64) is.told
          (λ f same_bytes. omega (arith, ap length (same_bytes ∙ is.closed.text), length-file_text found.head groups (length (replay Hash groups [])) next, is.closed.size, is.closed.bound));
    }

-- a file of groups has its header
pub header_there : {D : Type 0} (image : D → Option (List ℕ)) (log : GroupLog D) (groups : List Group) → Stands image log groups → IfSome (image (log_disk log)) (λ f. 64 ≤ length f)
header_there image log groups is =
    if_some (image (log_disk log)) (HasGroups (log_head log) groups) (λ f. 64 ≤ length f) is.there
    (λ f has. omega (arith, has.size, end_of-least (base_of (log_head log).p) (bodies_of groups)))

-- a crash that leaves nothing new tears nothing
pub untorn : (old new : List ℕ → Type 0) → Within old new → Follows (Torn 32 32) old new
untorn old new within c left = (c, within c left, record { no_shorter = omega arith; same = λ i short outside. refl })

-- a write after a reading
pub torn_later : (old mid new : List ℕ → Type 0) → Within old mid → Follows (Torn 32 32) mid new → Follows (Torn 32 32) old new
torn_later old mid new within follows c left =
    let before = follows c left in (before.0, within before.0 before.1, before.2)
