-- What reading a block's front and then the rest says of it.
use Rattle.std.proofs.Common.{◌≡◌, ℕ, ◌+◌, ◌-◌, ◌<◌, ◌≤◌, ◌^◌, List, [], ◌++◌, length, take, drop, get_or, refl, sym, ◌∙◌, ap, subst, arith, append_assoc, take-append-drop}
use Rattle.std.specs.Prelude.{Bool, true, false, ◌==◌, ◌&&◌, min, max, Option, Some, None, IfSome, Result, Ok, Err, IfOk, OnOk, if◌then◌else◌}
use Rattle.std.specs.Int.{w16, w32, w64, to_be_bytes, from_be_bytes}
use Rattle.std.proofs.lemmas.Bool.{eq-eqb, eqb-true}
use Rattle.std.proofs.lemmas.Bool.Decides.{nat_tests}
use Rattle.std.proofs.lemmas.List.{take_at, take_all, drop_at, drop-drop, get_or-take, get_or-drop, length-take, length-drop, take-append-le}
use Rattle.std.proofs.lemmas.Nat.{from_be_bytes-to_be_bytes_2, from_be_bytes-to_be_bytes_4}
use Rattle.std.proofs.Math.Seq.{take-add}
use borrow.Rule.Slice.PartMut.{put_mid}
use Rattle.tk_disk.specs.Disk.{ReadsFrom}
use Rattle.tk_model.specs.Orders.{same_bytes}
use Rattle.tk_model.proofs.KeyOrders.{same_told, same_itself}
use Rattle.tk_block.specs.declared.block.Body.{Body}
use Rattle.tk_block.specs.declared.head.StaticHead.{StaticHead}
use Rattle.tk_block.specs.Number.{u16_in, u32_in, u64_in}
use Rattle.tk_block.specs.Text.{checked, check_number}
use Rattle.tk_block.specs.Blocks.{numbers_text, body_front, body_text, body_at, room_of}
use Rattle.tk_block.proofs.BodyGrammar.{bodies}
use Rattle.tk_block.proofs.Cells.{within}
use Rattle.tk_buckets.specs.Chain.{IsWhole, extent_in, link_in}
use Rattle.tk_buckets.specs.Lookup.{body_in_block, has_key, may_have as body_may_have, read_of_block}
use Rattle.tk_buckets.specs.Seen.{Sees}
use Rattle.tk_buckets.proofs.Links.{whole_long}
use Rattle.tk_buckets.proofs.Written.{number_behind}

-- a part of a front
front_same : (m at n : ℕ) (xs ys : List ℕ) → at + n ≤ m → take m xs ≡ take m ys → take n (drop at xs) ≡ take n (drop at ys)
front_same m at n xs ys le is = sym (within at n m xs le) ∙ ap (λ (l : List ℕ). take n (drop at l)) is ∙ within at n m ys le

-- ---- the text of a body

module _ (b : Body) (place : ℕ) (rest : List ℕ) where
  abbrev text : List ℕ
  text = body_text b place ++ rest

  kind_text : get_or text 0 0 ≡ b.kind
  unfolding numbers_text checked
  kind_text = refl

  key_text : take 2 (drop 2 text) ≡ to_be_bytes w16 (length b.key)
  unfolding numbers_text checked
  key_text = refl

  value_text : take 4 (drop 4 text) ≡ to_be_bytes w32 (length b.value)
  unfolding numbers_text checked
  value_text = refl

  abbrev pub tail : List ℕ
  tail = to_be_bytes w32 (check_number (body_front b) place) ++ rest

  behind_numbers_as_is : drop 16 text ≡ ((b.key ++ b.value) ++ to_be_bytes w32 (check_number (body_front b) place)) ++ rest
  unfolding numbers_text checked
  behind_numbers_as_is = refl

  behind_numbers : drop 16 text ≡ b.key ++ (b.value ++ tail)
  behind_numbers = behind_numbers_as_is ∙ append_assoc (b.key ++ b.value) (to_be_bytes w32 (check_number (body_front b) place)) rest ∙ append_assoc b.key b.value tail

  pub behind_key : drop (16 + length b.key) text ≡ b.value ++ tail
  behind_key = sym (drop-drop (length b.key) 16 text) ∙ ap (λ (l : List ℕ). drop (length b.key) l) behind_numbers ∙ drop_at b.key (b.value ++ tail) (length b.key) refl

-- a body and what is behind it
pub body_told : (f : List ℕ) (place : ℕ) (b : Body) → body_at (drop (place + 24) f) place ≡ Some b → drop (place + 24) f ≡ body_text b place ++ drop (length (body_text b place)) (drop (place + 24) f)
body_told f place b says =
    let n = length (body_text b place) in
    sym (take-append-drop n (drop (place + 24) f)) ∙ ap (λ (l : List ℕ). l ++ drop n (drop (place + 24) f)) ((bodies place).found (drop (place + 24) f) b says).1

-- what stands at the front of a block
pub record Front (f : List ℕ) (place : ℕ) (b : Body) (bytes : List ℕ) : Type 0 where
  pub extent_is : u64_in bytes 4 ≡ extent_in f place
  pub link_is : u64_in bytes 16 ≡ link_in f place
  pub kind : get_or bytes 24 0 ≡ b.kind
  pub key : u16_in bytes 26 ≡ length b.key
  pub value : u32_in bytes 28 ≡ length b.value

number_same : (m at : ℕ) (xs ys : List ℕ) → at + 8 ≤ m → take m xs ≡ take m ys → u64_in xs at ≡ u64_in ys at
unfolding u64_in
number_same m at xs ys le is = ap (λ (l : List ℕ). from_be_bytes w64 l) (front_same m at 8 xs ys le is)

module _ (h : StaticHead) (f : List ℕ) (place : ℕ) (whole : IsWhole h f place) (m : ℕ) (bytes : List ℕ) (is : take m bytes ≡ take m (drop place f)) where
  abbrev b : Body
  b = whole.body

  abbrev rest : List ℕ
  rest = drop (length (body_text b place)) (drop (place + 24) f)

  text_told : drop 24 (drop place f) ≡ body_text b place ++ rest
  text_told = drop-drop 24 place f ∙ body_told f place b whole.says

  part_told : (i n : ℕ) → 24 + i + n ≤ m → take n (drop (24 + i) bytes) ≡ take n (drop i (body_text b place ++ rest))
  part_told i n le = front_same m (24 + i) n bytes (drop place f) le is ∙ ap (λ (l : List ℕ). take n l) (sym (drop-drop i 24 (drop place f)) ∙ ap (λ (l : List ℕ). drop i l) text_told)

  fits : length b.key < 2 ^ 16
  fits = ((bodies place).found (drop (place + 24) f) b whole.says).0.1

  value_fits : length b.value ≤ 33554431
  value_fits = let form = ((bodies place).found (drop (place + 24) f) b whole.says).0.0 in grind (arith, nat_tests, form)

  pub front_of : 48 ≤ m → Front f place b bytes
  unfolding u32_in u16_in
  front_of long = record {
    extent_is = number_same m 4 bytes (drop place f) (omega (arith, long)) is ∙ sym (number_behind f place 4);
    link_is = number_same m 16 bytes (drop place f) (omega (arith, long)) is ∙ sym (number_behind f place 16);
    kind =
        sym (get_or-take m bytes 24 0 (omega (arith, long))) ∙ ap (λ (l : List ℕ). get_or l 24 0) is ∙ get_or-take m (drop place f) 24 0 (omega (arith, long))
        ∙ sym (get_or-drop 24 (drop place f) 0 0) ∙ ap (λ (l : List ℕ). get_or l 0 0) text_told ∙ kind_text b place rest;
    key = ap (λ (l : List ℕ). from_be_bytes w16 l) (part_told 2 2 (omega (arith, long)) ∙ key_text b place rest) ∙ from_be_bytes-to_be_bytes_2 (length b.key) fits;
    value = ap (λ (l : List ℕ). from_be_bytes w32 l) (part_told 4 4 (omega (arith, long)) ∙ value_text b place rest) ∙ from_be_bytes-to_be_bytes_4 (length b.value) (omega (arith, value_fits));
  }

  pub key_part : (n : ℕ) → n ≤ length b.key → 40 + n ≤ m → take n (drop 40 bytes) ≡ take n b.key
  key_part n le long = part_told 16 n (omega (arith, long)) ∙ ap (λ (l : List ℕ). take n l) (behind_numbers b place rest) ∙ take-append-le n b.key (b.value ++ tail b place rest) le

  pub value_part : (n : ℕ) → n ≤ length b.value → 40 + length b.key + n ≤ m → take n (drop (40 + length b.key) bytes) ≡ take n b.value
  value_part n le long =
      ap (λ (k : ℕ). take n (drop k bytes)) (omega arith) ∙ part_told (16 + length b.key) n (omega (arith, long)) ∙ ap (λ (l : List ℕ). take n l) (behind_key b place rest) ∙ take-append-le n b.value (tail b place rest) le

-- ---- two reads

-- a part behind a front that was read
pub part_joined : (from n m : ℕ) (xs ys t : List ℕ) → m ≡ from + n → from ≤ length xs → m ≤ length t → take from xs ≡ take from t → ys ≡ take n (drop from t) → take m (put_mid from n xs ys) ≡ take m t
part_joined from n m xs ys t is within long front part =
    let joined : take from xs ++ ys ≡ take m t = ap (λ (l : List ℕ). l ++ ys) front ∙ ap (λ (l : List ℕ). take from t ++ l) part ∙ sym (take-add from n t) ∙ ap (λ (k : ℕ). take k t) (sym is) in
    ap (λ (l : List ℕ). take m l) (sym (append_assoc (take from xs) ys (drop n (drop from xs))))
    ∙ take_at (take from xs ++ ys) (drop n (drop from xs)) m (ap length joined ∙ omega (arith, length-take m t, long))
    ∙ joined

-- the whole of what was asked for
pub read_whole : (o : Option (List ℕ)) (at n : ℕ) (into : List ℕ) (asked : ℕ) → length into ≡ asked → IfSome o (λ f. ReadsFrom f at into n) → IfSome o (λ f. at + asked ≤ length f → into ≡ take asked (drop at f))
read_whole None at n into asked long reads = tt
read_whole (Some f) at n into asked long reads = λ fits.
    let all : n ≡ asked = reads.count ∙ omega (arith, long, fits) in
    sym (take_all n into (omega (arith, all, long))) ∙ reads.bytes ∙ ap (λ (k : ℕ). take k (drop at f)) all

-- a part of a block that was read
pub part_read : {E : Type 0} (o : Option (List ℕ)) (r : Result (Unit {0}) E) (place from end at : ℕ) (xs ys : List ℕ) → from < end → end ≤ length xs → at ≡ min (place + from) 18446744073709551615
    → IfSome o (λ f. at + length (take (end - from) (drop from xs)) ≤ length f → OnOk r (ys ≡ take (length (take (end - from) (drop from xs))) (drop at f)))
    → IfSome o (λ f. place + from < 2 ^ 64 → end ≤ length (drop place f) → take from xs ≡ take from (drop place f) → IfOk r (λ _. take (max from end) (put_mid from (end - from) xs ys) ≡ take (max from end) (drop place f)))
part_read None r place from end at xs ys some within is read = tt
part_read (Some f) (Err e) place from end at xs ys some within is read = λ small long front. tt
part_read (Some f) (Ok v) place from end at xs ys some within is read = λ small long front.
    let same : at ≡ place + from = omega (arith, is, small) in
    let t : drop from (drop place f) ≡ drop at f = drop-drop from place f ∙ ap (λ (k : ℕ). drop k f) (sym same) in
    let count : length (take (end - from) (drop from xs)) ≡ end - from = omega (arith, length-take (end - from) (drop from xs), length-drop from xs, within) in
    part_joined from (end - from) (max from end) xs ys (drop place f) (omega (arith, some)) (omega (arith, some, within)) (omega (arith, some, long)) front
    (read (omega (arith, count, same, some, long, length-drop place f)) ∙ ap (λ (n : ℕ). take n (drop at f)) count ∙ ap (λ (l : List ℕ). take (end - from) l) (sym t))

-- the key that a block in the buffer may have
abbrev pub test : (key buffer : List ℕ) → Bool
test key buffer = (u16_in buffer 26 == length key) && same_bytes (take (min (length key) 8) key) (take (min (length key) 8) (drop 40 buffer))

-- what the first read gives
abbrev pub FirstRead : (place : ℕ) (old buffer f : List ℕ) → Type 0
FirstRead place old buffer f = place + 0 < 2 ^ 64 → 48 ≤ length (drop place f) → take 0 old ≡ take 0 (drop place f) → take (max 0 48) buffer ≡ take (max 0 48) (drop place f)

-- what the second one gives
abbrev pub SecondRead : (place end : ℕ) (old buffer f : List ℕ) → Type 0
SecondRead place end old buffer f = place + 48 < 2 ^ 64 → end ≤ length (drop place f) → take 48 old ≡ take 48 (drop place f) → take (max 48 end) buffer ≡ take (max 48 end) (drop place f)

and_left : (a b : Bool) → (a && b) ≡ true → a ≡ true
and_left true b is = refl
and_left false b is = absurd (cc is)

module _ (h : StaticHead) (f key old first : List ℕ) (place : ℕ) (whole : IsWhole h f place) (size : length f < 2 ^ 64) (read : FirstRead place old first f) where
  abbrev body : Body
  body = whole.body

  long : place + 48 ≤ length f
  long = omega (arith, whole_long h f place whole, whole.within)

  first_is : take 48 first ≡ take 48 (drop place f)
  first_is = read (omega (arith, long, size)) (omega (arith, long, length-drop place f)) refl

  pub first_front : Front f place body first
  first_front = front_of h f place whole 48 first first_is (omega arith)

  -- the test on the buffer is that on the body
  by_length : (same : Bool) → (length body.key == length key) ≡ same
      → (same && same_bytes (take (min (length key) 8) key) (take (min (length key) 8) (drop 40 first))) ≡ (same && same_bytes (take (min (length key) 8) key) (take (min (length key) 8) body.key))
  by_length false is = refl
  by_length true is =
      let n = min (length key) 8 in
      ap (λ (l : List ℕ). same_bytes (take n key) l) (key_part h f place whole 48 first first_is n (omega (arith, eqb-true _ _ is)) (omega arith))

  test_is : test key first ≡ body_may_have key body
  test_is =
      ap (λ (n : ℕ). (n == length key) && same_bytes (take (min (length key) 8) key) (take (min (length key) 8) (drop 40 first))) first_front.key
      ∙ by_length (length body.key == length key) refl

  same_length : test key first ≡ true → length key ≡ length body.key
  same_length passes = sym (eqb-true _ _ (and_left _ _ passes)) ∙ first_front.key

  not_same : (has : Bool) → same_bytes key body.key ≡ has → test key first ≡ false → false ≡ has
  not_same false is fails = refl
  not_same true is fails =
      let same : key ≡ body.key = same_told key body.key is in
      let n = min (length key) 8 in
      let passes : body_may_have key body ≡ true =
      ap (λ (t : Bool). t && same_bytes (take n key) (take n body.key)) (eq-eqb _ _ (ap length (sym same))) ∙ ap (λ (l : List ℕ). same_bytes (take n key) (take n l)) (sym same) ∙ same_itself (take n key) in
      absurd (cc (passes, test_is, fails))

  key_in : has_key key (body_in_block f place) ≡ same_bytes key body.key
  key_in = ap (has_key key) whole.says

  pub not_seen : test key first ≡ false → Sees f key place first false
  not_seen fails = record {
    link_is = first_front.link_is;
    told = not_same (same_bytes key body.key) refl fails ∙ sym key_in;
    shows = λ is. absurd (cc is);
  }

  read_told : (room : ℕ) → read_of_block key room (body_in_block f place) ≡ (if test key first then max 48 (min (room_of body - 4) room) else 48)
  read_told room =
      ap (read_of_block key room) whole.says ∙ ap (λ (t : Bool). if t then max 48 (min (room_of body - 4) room) else 48) (sym test_is)

  pub cost_first : (room before now : ℕ) → test key first ≡ false → now ≤ before + (48 - 0) → now ≤ before + read_of_block key room (body_in_block f place)
  cost_first room before now fails most = omega (arith, most, read_told room, ap (λ (t : Bool). if t then max 48 (min (room_of body - 4) room) else 48) fails)

  module _ (buffer : List ℕ) (end room : ℕ) (passes : test key first ≡ true) (until : end ≡ min (40 + length key + u32_in first 28) room) where
    end_is : end ≡ min (room_of body - 4) room
    end_is = omega (arith, until, same_length passes, first_front.value)

    pub cost_both : (before mid now : ℕ) → mid ≤ before + (48 - 0) → now ≤ mid + (end - 48) → now ≤ before + read_of_block key room (body_in_block f place)
    cost_both before mid now one two = omega (arith, one, two, end_is, read_told room, ap (λ (t : Bool). if t then max 48 (min (room_of body - 4) room) else 48) passes)

    pub seen : (has : Bool) → SecondRead place end first buffer f → length buffer ≡ room → min 65575 (40 + length key) ≤ room → has ≡ same_bytes key (take (length key) (drop 40 buffer)) → Sees f key place buffer has
    seen has again all fits told =
        let key_long = same_length passes in
        let m = max 48 end in
        let small : length body.key < 2 ^ 16 = ((bodies place).found (drop (place + 24) f) body whole.says).0.1 in
        let shown_is : take m buffer ≡ take m (drop place f) = again (omega (arith, long, size)) (omega (arith, end_is, whole.room, whole.within, length-drop place f)) first_is in
        let front = front_of h f place whole m buffer shown_is (omega arith) in
        let part : take (length key) (drop 40 buffer) ≡ body.key =
        ap (λ (k : ℕ). take k (drop 40 buffer)) key_long ∙ key_part h f place whole m buffer shown_is (length body.key) (omega arith) (omega (arith, end_is, fits, key_long, small)) ∙ take_all (length body.key) body.key (omega arith) in
        record {
          link_is = front.link_is;
          told = told ∙ ap (same_bytes key) part ∙ sym key_in;
          shows = λ is.
              let same : key ≡ body.key = same_told key body.key (sym (told ∙ ap (same_bytes key) part) ∙ is) in
              record {
                body = body;
                says = whole.says;
                key_is = sym same;
                extent = front.extent_is;
                kind = front.kind;
                value_len = front.value;
                value = λ n le within.
                    ap (λ (k : ℕ). take n (drop (40 + k) buffer)) key_long ∙ value_part h f place whole m buffer shown_is n le (omega (arith, end_is, all, le, within, key_long));
              };
        }

-- ---- where the disk tells the file

-- a fact of a block that stands whole
abbrev pub OfWhole : Option (List ℕ) → (place : ℕ) → (List ℕ → Type 0) → Type 0
OfWhole o place P = (h : StaticHead) → IfSome o (λ f. IsWhole h f place → length f < 2 ^ 64 → P f)

pub not_seen_told : (o : Option (List ℕ)) (place : ℕ) (key old first : List ℕ) → IfSome o (FirstRead place old first) → test key first ≡ false → OfWhole o place (λ f. Sees f key place first false)
not_seen_told None place key old first read fails h = tt
not_seen_told (Some f) place key old first read fails h = λ whole size. not_seen h f key old first place whole size read fails

pub cost_told : (o : Option (List ℕ)) (place : ℕ) (key old first : List ℕ) (end room before mid now : ℕ) → IfSome o (FirstRead place old first) → test key first ≡ true → end ≡ min (40 + length key + u32_in first 28) room
    → mid ≤ before + (48 - 0) → now ≤ mid + (end - 48) → OfWhole o place (λ f. now ≤ before + read_of_block key room (body_in_block f place))
cost_told None place key old first end room before mid now read passes until one two h = tt
cost_told (Some f) place key old first end room before mid now read passes until one two h = λ whole size. cost_both h f key old first place whole size read [] end room passes until before mid now one two

pub seen_told : (o mid : Option (List ℕ)) (place : ℕ) (key old first buffer : List ℕ) (end room : ℕ) (has : Bool) → mid ≡ o → IfSome o (FirstRead place old first) → test key first ≡ true → end ≡ min (40 + length key + u32_in first 28) room
    → IfSome mid (SecondRead place end first buffer) → length buffer ≡ room → min 65575 (40 + length key) ≤ room → has ≡ same_bytes key (take (length key) (drop 40 buffer)) → OfWhole o place (λ f. Sees f key place buffer has)
seen_told None mid place key old first buffer end room has same read passes until again all fits told h = tt
seen_told (Some f) mid place key old first buffer end room has same read passes until again all fits told h = λ whole size.
    seen h f key old first place whole size read buffer end room passes until has (subst (λ (o : Option (List ℕ)). IfSome o (SecondRead place end first buffer)) same again) all fits told
