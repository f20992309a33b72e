-- A hash store over a file that was opened or made.
use Rattle.std.proofs.Common.{◌≡◌, ℕ, ◌+◌, ◌*◌, ◌%◌, ◌<◌, ◌≤◌, ◌^◌, Bool, true, false, List, [], ◌++◌, length, replicate, refl, sym, ◌∙◌, ap, subst, arith}
use Rattle.std.specs.Prelude.{Option, Some, None, IfSome, Result, Ok, Err, IfOk, IfErr}
use Rattle.std.specs.Option.{option_map, is_some}
use Rattle.std.proofs.lemmas.Bool.Decides.{nat_tests}
use Rattle.std.proofs.Math.Nat.{mod-eq_of_lt}
use Rattle.std.proofs.Math.Pow.{pow_mono}
use Rattle.std.proofs.lemmas.List.{append-nil, length-replicate, get_or-replicate}
use Rattle.std.proofs.lemmas.Option.{IfSome_then}
use Rattle.tk_disk.specs.Past.{Past, settled_on}
use Rattle.tk_disk.specs.Crash.{Only}
use Rattle.tk_model.specs.declared.record.ShardOf.{ShardOf}
use Rattle.tk_model.specs.declared.record.Group.{Group}
use Rattle.tk_block.specs.declared.head.StaticHead.{StaticHead}
use Rattle.tk_block.specs.declared.closing.Closing.{Closing}
use Rattle.tk_block.specs.Text.{base_of, is_static}
use Rattle.tk_block.specs.Layout.{bodies_of}
use Rattle.tk_block.proofs.Groups.{end_behind}
use Rattle.tk_append.specs.Log.{closed_text}
use Rattle.tk_append.specs.LogParts.{log_disk, log_head, log_end, with_closing, open_mark}
use Rattle.tk_append.specs.FileText.{text_of, IsFile}
use Rattle.tk_append.specs.FairPast.{IsFairPast}
use Rattle.tk_append.proofs.FairPasts.{fair_settled}
use Rattle.tk_hash.proofs.Fairness.{has_groups}
use Rattle.tk_append.specs.Counted.{HasCounted}
use Rattle.tk_append.specs.declared.log.GroupLog.{GroupLog}
use Rattle.tk_append.specs.declared.read.CountedLog.{CountedLog}
use Rattle.tk_hash.specs.Hash.{floor_of, opening, IsClosedLog, HashStands}
use Rattle.tk_hash.specs.HashLaws.{length-text_of, file_of}
use Rattle.tk_hash.specs.declared.store.HashStore.{HashStore}
use Rattle.tk_hash.proofs.HashKeeps.{heads_known, none_known}
use Rattle.tk_hash.proofs.HashGrows.{shelf_none, only_kept}
use Rattle.tk_hash.proofs.HashTexts.{closed_is, closed_there}

always : (o : Option (List ℕ)) (A : Type 0) → A → IfSome o (λ f. A)
always None A a = tt
always (Some f) A a = a

pub all_ok : {T E : Type 0} (r : Result T E) (P Q R S : T → Type 0) → IfOk r P → IfOk r Q → IfOk r R → ((x : T) → P x → Q x → R x → S x) → IfOk r S
all_ok (Ok x) P Q R S p q s go = go x p q s
all_ok (Err e) P Q R S p q s go = tt

pub err_weaker : {T E : Type 0} (r : Result T E) (P Q : E → Type 0) → ((e : E) → P e → Q e) → IfErr r P → IfErr r Q
err_weaker (Ok x) P Q go p = tt
err_weaker (Err e) P Q go p = go e p

closing_of : (c : Closing) (size count next : ℕ) → c.size ≡ size → c.count ≡ count → c.next ≡ next → c ≡ record { size = size; count = count; next = next }
closing_of c size count next a b d =
    ap (λ (n : ℕ). record c { size = n }) a ∙ ap (λ (n : ℕ). record c { size = size; count = n }) b ∙ ap (λ (n : ℕ). record c { size = size; count = count; next = n }) d

-- the heads of so many buckets are few enough bytes
heads_shifted : (p : ℕ) → p ≤ 24 → (8 * 2 ^ p) % 2 ^ 64 ≡ 8 * 2 ^ p
heads_shifted p small = let few : 2 ^ p ≤ 2 ^ 24 = pow_mono small in mod-eq_of_lt (omega (arith, few))

base_small : (p : ℕ) → p ≤ 24 → base_of p < 2 ^ 64
base_small p small = let few : 2 ^ p ≤ 2 ^ 24 = pow_mono small in omega (arith, few)

-- the header of a file that is made
abbrev pub fresh : (p : ℕ) → StaticHead
fresh p = record { kind = 1; version = 1; p = p; order = 0; generation = 0 }

static_fresh : (p : ℕ) → p ≤ 24 → is_static (fresh p) ≡ true
static_fresh p small = grind (arith, nat_tests)

written_there : (new old : Option (List ℕ)) (h : StaticHead) (size : ℕ) → size ≡ base_of h.p → is_some new ≡ is_some old → IfSome old (λ _. new ≡ Some (closed_text h [] 0)) → IfSome new (λ f. f ≡ text_of h (record { size = size; count = 0; next = 0 }) [])
written_there None old h size is told written = tt
written_there (Some f) None h size is told written = absurd (cc)
written_there (Some f) (Some g) h size is told written = let same : f ≡ closed_text h [] 0 = cc in same ∙ sym (closed_is h [] size 0 0 is refl)

settled_fair : (o : Option (List ℕ)) (h : StaticHead) (groups : List Group) (p : Past) → IfSome o (λ f. IsFile h f groups) → IfSome o (λ f. p ≡ settled_on f) → IfSome o (λ f. IsFairPast h groups p)
settled_fair None h groups p file settled = tt
settled_fair (Some f) h groups p file settled = subst (λ (q : Past). IsFairPast h groups q) (sym settled) (fair_settled h groups f (has_groups h f groups file))

module _ {D : Type 0} (image : D → Option (List ℕ)) (may_leave : D → List ℕ → Type 0) (past : D → Past) where
  pub closed_header : (log : GroupLog D) (c : Closing) (heads : List ℕ) (groups : List Group) → IsClosedLog image log c heads groups → IfSome (image (log_disk log)) (λ f. 64 ≤ length f)
  closed_header log c heads groups is = IfSome_then (image (log_disk log)) is.text
      (λ f there. omega (arith, ap length there, length-text_of (log_head log) c groups, end_behind (base_of (log_head log).p) (bodies_of groups)))

  -- what stands in the file that was opened: its closing part, or the mark that it is open
  pub record IsOpened (writable : Bool) (log new : GroupLog D) (closing now : Closing) : Type 0 where
    pub read_bytes : writable ≡ false → image (log_disk new) ≡ image (log_disk log)
    pub read_closing : writable ≡ false → now ≡ closing
    pub open_bytes : writable ≡ true → image (log_disk new) ≡ option_map (with_closing open_mark) (image (log_disk log))
    pub open_closing : writable ≡ true → now ≡ open_mark
    pub durable : writable ≡ true → IfSome (image (log_disk new)) (λ f. Only f (may_leave (log_disk new)))
    pub settled : writable ≡ true → IfSome (image (log_disk new)) (λ f. past (log_disk new) ≡ settled_on f)

  opened_text : (w : Bool) (log new : GroupLog D) (closing now : Closing) (heads : List ℕ) (groups : List Group) → IsClosedLog image log closing heads groups → IsOpened w log new closing now → IfSome (image (log_disk new)) (λ f. f ≡ text_of (log_head log) now groups)
  opened_text true log new closing now heads groups is o =
      subst (λ (c : Closing). IfSome (image (log_disk new)) (λ f. f ≡ text_of (log_head log) c groups)) (sym (o.open_closing refl)) (closed_there (image (log_disk log)) (image (log_disk new)) (log_head log) closing open_mark groups is.text (o.open_bytes refl))
  opened_text false log new closing now heads groups is o =
      subst (λ (c : Closing). IfSome (image (log_disk new)) (λ f. f ≡ text_of (log_head log) c groups)) (sym (o.read_closing refl))
      (subst (λ (x : Option (List ℕ)). IfSome x (λ f. f ≡ text_of (log_head log) closing groups)) (sym (o.read_bytes refl)) is.text)

  pub opened : (s : HashStore D) (log : GroupLog D) (closing : Closing) (heads : List ℕ) (groups : List Group) → IsClosedLog image log closing heads groups → IsOpened s.writable log s.log closing s.closing → log_head s.log ≡ log_head log → log_end s.log ≡ log_end log
      → s.count ≡ closing.count → s.next ≡ closing.next → s.last ≡ None → s.heads.items ≡ heads → s.found.present ≡ None → 131072 ≤ length s.buffer.items → s.shelf ≡ None → HashStands image may_leave past s (opening groups) [] 0
  opened s log closing heads groups is o head end count next last heads_are found buffer shelf =
      let h : StaticHead = log_head log in
      let same : groups ++ [] ≡ groups = append-nil groups in
      let texts : IfSome (image (log_disk s.log)) (λ f. f ≡ text_of h s.closing groups) = opened_text s.writable log s.log closing s.closing heads groups is o in
      let file : IfSome (image (log_disk s.log)) (λ f. IsFile h f groups) =
      IfSome_then (image (log_disk s.log)) texts (λ f there. file_of h s.closing groups closing.next (log_end log) f is.header is.generation is.legal (omega (arith, is.number)) is.end_is is.fits there) in
      let floor : floor_of s.next s.last ≡ s.next = ap (λ (k : Option ℕ). floor_of s.next k) last in
      record {
        groups = groups;
        held = refl;
        records_first = refl;
        legal = rw next is.legal;
        later = omega (arith, floor);
        floor = floor;
        top = omega (arith, floor, next, is.number);
        synced = omega arith;
        header = rw head is.header;
        generation = rw head is.generation;
        end_is = rw (end, head, same) is.end_is;
        end_fits = rw end is.fits;
        buffer = buffer;
        heads = rw (head, heads_are) (heads_known (image (log_disk s.log)) h heads groups is.heads_are.whole file (always (image (log_disk s.log)) _ is.heads_are));
        found = none_known (image (log_disk s.log)) (log_head s.log) s.found found;
        mark = λ may unclosed. o.open_closing may;
        no_group = λ no. refl;
        there = rw (head, same) texts;
        count = always (image (log_disk s.log)) _ (rw (count, same) is.count);
        unmarked = λ no. always (image (log_disk s.log)) _ (o.read_closing no ∙ closing_of closing (log_end s.log) s.count s.next (is.size ∙ sym end) (sym count) (sym next));
        shelf = shelf_none (image (log_disk s.log)) (log_head s.log) (groups ++ []) s.shelf shelf;
        kept = λ may. rw (head, same) (only_kept (image (log_disk s.log)) h groups (may_leave (log_disk s.log)) file (o.durable may));
        fair = λ may. rw (head, same) (settled_fair (image (log_disk s.log)) h groups (past (log_disk s.log)) file (o.settled may));
      }

  -- a file that was read and counted
  pub counted_log : (disk : D) (shard : ShardOf) (r : CountedLog D) (size : ℕ) (is : HasCounted image disk shard r) → image (log_disk r.log) ≡ image disk → size ≡ log_end r.log → size < 2 ^ 64 → IsClosedLog image r.log (record { size = size; count = r.count; next = r.next }) r.heads.items is.groups
  counted_log disk shard r size is same ends fits = record {
    header = is.head;
    generation = is.generation;
    legal = is.legal;
    number = is.number;
    size = ends;
    fits = omega (arith, ends, fits);
    count = is.count;
    end_is = is.stands.end_is;
    heads_are = is.heads_are;
    text = subst (λ (x : Option (List ℕ)). IfSome x (λ f. f ≡ text_of (log_head r.log) (record { size = size; count = r.count; next = r.next }) is.groups)) (sym same)
        (IfSome_then (image disk) is.text (λ f there. there ∙ sym (closed_is (log_head r.log) is.groups size r.count r.next (ends ∙ is.stands.end_is) is.count)));
  }

  -- a file that was made
  pub fresh_log : (disk : D) (old : Option (List ℕ)) (log : GroupLog D) (p : ℕ) (heads : List ℕ) → heads ≡ replicate (2 ^ p) 0 → p ≤ 24 → log_disk log ≡ disk → log_head log ≡ fresh p → log_end log ≡ 64 + (8 * 2 ^ p) % 2 ^ 64
      → is_some (image disk) ≡ is_some old → IfSome old (λ _. image disk ≡ Some (closed_text (fresh p) [] 0)) → IsClosedLog image log (record { size = 64 + (8 * 2 ^ p) % 2 ^ 64; count = 0; next = 0 }) heads []
  fresh_log disk old log p heads zeros small at head end told written =
      let size = 64 + (8 * 2 ^ p) % 2 ^ 64 in
      let is : size ≡ base_of p = ap (λ (n : ℕ). 64 + n) (heads_shifted p small) in
      record {
        header = rw head (static_fresh p small);
        generation = rw head (omega arith);
        legal = omega arith;
        number = omega arith;
        size = sym end;
        fits = omega (arith, end, is, base_small p small);
        count = refl;
        end_is = rw head (end ∙ is);
        heads_are = rw (head, zeros) (record { whole = length-replicate (2 ^ p) 0; newest_each = λ b below. get_or-replicate (2 ^ p) b 0 0 below });
        text = rw (at, head) (written_there (image disk) old (fresh p) size is told written);
      }
