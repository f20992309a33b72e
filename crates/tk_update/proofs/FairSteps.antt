-- Which writes and cuts keep a past fair.
use Rattle.std.proofs.Common.{◌≡◌, ◌⊎◌, inl, inr, ℕ, zero, suc, ◌+◌, ◌-◌, ◌<◌, ◌≤◌, ◌^◌, Bool, true, false, List, [], ◌∷◌, ◌++◌, length, drop, refl, sym, ◌∙◌, ap, subst, arith, if◌then◌else◌}
use Rattle.std.specs.Prelude.{Option, Some, None, ◌==◌, ◌&&◌, ◌||◌, nat_le}
use Rattle.std.specs.Int.{w64, to_be_bytes}
use Rattle.std.proofs.lemmas.List.{length-append, length-take}
use Rattle.std.proofs.lemmas.Bool.Decides.{nat_tests}
use Rattle.tk_model.specs.Orders.{same_bytes}
use Rattle.tk_model.specs.declared.record.Change.{Change}
use Rattle.tk_model.specs.declared.record.Change.TheVariants as changes
use Rattle.tk_block.specs.Sizes.{static_size}
use Rattle.tk_block.specs.Text.{head_at, head_text, static_at, static_text, base_of}
use Rattle.tk_block.specs.Blocks.{body_at, body_text, block_text, room_of}
use Rattle.tk_block.specs.declared.block.Body.{Body}
use Rattle.tk_block.specs.declared.head.StaticHead.{StaticHead}
use Rattle.tk_block.proofs.Grammar.{heads, statics, length-static_text}
use Rattle.tk_block.proofs.Heads.{length-head_text}
use Rattle.tk_block.proofs.BodyGrammar.{length-body_text}
use Rattle.tk_append.specs.Untorn.{AllWrites}
use Rattle.tk_disk.specs.Past.{Write, Past, with_write, with_cut}
use Rattle.tk_update.specs.FairPast.{Spares, SparesBlock, was_put, was_changed, has_clear, IsFairPast, WritesPuts}
use Rattle.tk_update.specs.Laws.{IsPut, IsOpen, MayHold, StaysFair}
use Rattle.tk_update.specs.Restored.{Seen, inside, seen_here, seen_from, seen_in}
use Rattle.tk_update.specs.Untorn.{AnySeen, AllSeen, body_alone, body_behind, StoodAt}
use Rattle.tk_update.proofs.KeptKeys.{all_writes, all_seen}
use Rattle.tk_update.proofs.WritesSay.{said_reuse, said_overwrite, said_append, said_cell}
use Rattle.tk_update.proofs.Told.{not_both, no_some, same_some, told}

-- ---- blocks follow one another

abbrev AreSeenInLine : ℕ → List Seen → Type 0
AreSeenInLine at [] = Unit {0}
AreSeenInLine at (s ∷ ss) = (s.place ≡ at) × (48 ≤ s.extent) × ((b : Body) → s.body ≡ Some b → room_of b ≤ s.extent) × AreSeenInLine (at + s.extent) ss

inside_fits : (e : ℕ) (o : Option Body) (b : Body) → inside e o ≡ Some b → room_of b ≤ e
inside_fits e None b is = absurd (no_some b is)
inside_fits e (Some d) b is = step (nat_le (room_of d) e) refl is
  where
    step : (t : Bool) → nat_le (room_of d) e ≡ t → (if t then Some d else None) ≡ Some b → room_of b ≤ e
    step false test is = absurd (no_some b is)
    step true test is = let le : room_of d ≤ e = grind (arith, nat_tests, test) in subst (λ (z : Body). room_of z ≤ e) (same_some d b is) le

pub extent_least : (l : List ℕ) (q e : ℕ) → head_at l q ≡ Some e → 48 ≤ e
extent_least l q e is = let found = (heads q).found l e is in grind (arith, nat_tests, found.0)

laid_here : (o : Option ℕ) (b : Option Body) (n q : ℕ) (f : List ℕ) → head_at (drop q f) q ≡ o → ((e : ℕ) → AreSeenInLine (q + e) (seen_from n (q + e) f)) → AreSeenInLine q (seen_here o q b (λ e. seen_from n (q + e) f))
laid_here None b n q f is go = tt
laid_here (Some e) b n q f is go = (refl, extent_least (drop q f) q e is, λ d its. inside_fits e b d its, go e)

laid_from : (n q : ℕ) (f : List ℕ) → AreSeenInLine q (seen_from n q f)
laid_from zero q f = tt
laid_from (suc n) q f = laid_here (head_at (drop q f) q) (body_at (drop (q + 24) f) q) n q f refl (λ e. laid_from n (q + e) f)

laid_in : (h : StaticHead) (f : List ℕ) → AreSeenInLine (base_of h.p) (seen_in h f)
unfolding seen_in
laid_in h f = laid_from (length f) (base_of h.p) f

-- ---- what a write spares

below_all : (since : List Change) (w : Write) (at : ℕ) (ss : List Seen) → w.at + length w.bytes ≤ at → AreSeenInLine at ss → AllSeen (SparesBlock since w) ss
below_all since w at [] le laid = tt
below_all since w at (s ∷ ss) le laid =
    (record { head = inl (omega (arith, le, laid.0)); says = λ b is set un. inl (omega (arith, le, laid.0)) }, below_all since w (at + s.extent) ss (omega (arith, le)) laid.3)

behind_all : (since : List Change) (w : Write) (q at : ℕ) (ss : List Seen) → q ≤ w.at → AreSeenInLine at ss → AllSeen (λ s. s.place + s.extent ≤ q) ss → AllSeen (SparesBlock since w) ss
behind_all since w q at [] from laid behind = tt
behind_all since w q at (s ∷ ss) from laid behind =
    (record { head = inr (omega (arith, from, laid.1, behind.0)); says = λ b is set un. inr (omega (arith, from, laid.2 b is, behind.0)) }, behind_all since w q (at + s.extent) ss from laid.3 behind.1)

any_behind : (q e at : ℕ) (ss : List Seen) → AreSeenInLine at ss → AnySeen (λ s. (s.place ≡ q) × (s.extent ≡ e)) ss → at ≤ q
any_behind q e at [] laid any = absurd any
any_behind q e at (s ∷ ss) laid (inl one) = omega (arith, one.0, laid.0)
any_behind q e at (s ∷ ss) laid (inr more) = omega (arith, any_behind q e (at + s.extent) ss laid.3 more)

-- inside the block, off its head, and off its body where that is to stay
inside_all : (since : List Change) (w : Write) (q e at : ℕ) (ss : List Seen) → q + 16 ≤ w.at → w.at + length w.bytes ≤ q + e → AreSeenInLine at ss → AnySeen (λ s. (s.place ≡ q) × (s.extent ≡ e)) ss
    → AllSeen (λ s. s.place ≡ q → (b : Body) → s.body ≡ Some b → b.kind ≡ 1 → was_changed true b.key since ≡ false → Spares (s.place + 24) (s.place + room_of b) w) ss → AllSeen (SparesBlock since w) ss
inside_all since w q e at [] from to laid any own = tt
inside_all since w q e at (s ∷ ss) from to laid (inl one) own =
    (record { head = inr (omega (arith, from, one.0)); says = λ b is set un. own.0 one.0 b is set un }, below_all since w (at + s.extent) ss (omega (arith, to, one.0, one.1, laid.0)) laid.3)
inside_all since w q e at (s ∷ ss) from to laid (inr more) own =
    let le = any_behind q e (at + s.extent) ss laid.3 more in
    (record { head = inr (omega (arith, from, le, laid.0, laid.1)); says = λ b is set un. inr (omega (arith, from, le, laid.0, laid.2 b is)) }, inside_all since w q e (at + s.extent) ss from to laid.3 more own.1)

changed_own : (since : List Change) (w : Write) (q : ℕ) (ss : List Seen) → AllSeen (λ s. s.place ≡ q → (b : Body) → s.body ≡ Some b → b.kind ≡ 1 → was_changed true b.key since ≡ true) ss
    → AllSeen (λ s. s.place ≡ q → (b : Body) → s.body ≡ Some b → b.kind ≡ 1 → was_changed true b.key since ≡ false → Spares (s.place + 24) (s.place + room_of b) w) ss
changed_own since w q [] all = tt
changed_own since w q (s ∷ ss) all = (λ at b is set un. absurd (not_both (was_changed true b.key since) (all.0 at b is set) un), changed_own since w q ss all.1)

cell_own : (since : List Change) (w : Write) (q : ℕ) (ss : List Seen) → w.at + length w.bytes ≤ q + 24 → AllSeen (λ s. s.place ≡ q → (b : Body) → s.body ≡ Some b → b.kind ≡ 1 → was_changed true b.key since ≡ false → Spares (s.place + 24) (s.place + room_of b) w) ss
cell_own since w q [] le = tt
cell_own since w q (s ∷ ss) le = (λ at b is set un. inl (omega (arith, le, at)), cell_own since w q ss le)

append_spared : (h : StaticHead) (since : List Change) (p : Past) (w : Write) (q : ℕ) → q ≤ w.at → IsOpen h since p q → has_clear since ≡ false → AllSeen (SparesBlock since w) (seen_in h p.fixed)
append_spared h since p w q le open_ un =
    elim open_.1 [
      | inl behind ↦ behind_all since w q (base_of h.p) (seen_in h p.fixed) le (laid_in h p.fixed) behind
      | inr clear ↦ absurd (not_both (has_clear since) clear un)
    ]

-- where a block may be written is behind the header
open_past : (h : StaticHead) (since : List Change) (p : Past) (q : ℕ) → IsOpen h since p q → static_size ≤ q
open_past h since p q open_ = omega (arith, open_.0)

stood_past : (h : StaticHead) (p : Past) (q e : ℕ) → StoodAt h p q e → static_size ≤ q
stood_past h p q e stood = omega (arith, any_behind q e (base_of h.p) (seen_in h p.fixed) (laid_in h p.fixed) stood)

may_past : (h : StaticHead) (since : List Change) (p : Past) (q e : ℕ) → MayHold h since p q e → static_size ≤ q
may_past h since p q e (inl free) = stood_past h p q e free.stood
may_past h since p q e (inr open_) = open_past h since p q open_

held_all : (h : StaticHead) (since : List Change) (p : Past) (w : Write) (q e : ℕ) → q + 16 ≤ w.at → w.at + length w.bytes ≤ q + e → MayHold h since p q e → has_clear since ≡ false → AllSeen (SparesBlock since w) (seen_in h p.fixed)
held_all h since p w q e from to (inl free) un = inside_all since w q e (base_of h.p) (seen_in h p.fixed) from to (laid_in h p.fixed) free.stood (changed_own since w q (seen_in h p.fixed) free.changed)
held_all h since p w q e from to (inr out) un = append_spared h since p w q (omega (arith, from)) out un

-- ---- one write more

one_more : (P : Write → Type 0) (ws : List Write) (w : Write) → AllWrites P ws → P w → AllWrites P (ws ++ w ∷ [])
one_more P [] w all one = (one, tt)
one_more P (v ∷ ws) w all one = (all.0, one_more P ws w all.1 one)

fair_more : (h : StaticHead) (since : List Change) (p : Past) (w : Write) → IsFairPast h since p → static_size ≤ w.at → WritesPuts h since w → (has_clear since ≡ false → AllSeen (SparesBlock since w) (seen_in h p.fixed)) → IsFairPast h since (with_write w.at w.bytes p)
fair_more h since p w fair past puts spared = record {
  header = fair.header;
  long = fair.long;
  behind = one_more (λ (v : Write). static_size ≤ v.at) p.writes w fair.behind past;
  once = fair.once;
  puts = one_more (WritesPuts h since) p.writes w fair.puts puts;
  length_kept = fair.length_kept;
  spared = λ un. one_more (λ v. AllSeen (SparesBlock since v) (seen_in h p.fixed)) p.writes w (fair.spared un) (spared un);
}

-- a write in front of the blocks says no body behind it
front_alone : (o : Option Body) (t s : Bool) (q : ℕ) (w : Write) (d : Body) → (w.at == q + 24) ≡ t → (w.at == q + 16) ≡ s → w.at ≤ q → body_alone o q w ≡ Some d → ⊥
front_alone (Some a) true s q w d one two le is = omega (arith, told w.at (q + 24) one, le)
front_alone (Some a) false s q w d one two le is = no_some d (ap (λ (b : Bool). if b then Some a else None) (sym one) ∙ is)
front_alone None t true q w d one two le is = omega (arith, told w.at (q + 16) two, le)
front_alone None t false q w d one two le is = no_some d (ap (λ (b : Bool). if b then body_at (drop 8 w.bytes) q else None) (sym two) ∙ is)

pub head_long : (l : List ℕ) (q e : ℕ) → head_at l q ≡ Some e → 16 ≤ length l
head_long l q e is =
    let found = (heads q).found l e is in
    omega (arith, length-head_text e q, ap length found.1, length-take (length (head_text e q)) l)

front_behind : (o : Option ℕ) (t : Bool) (q : ℕ) (w : Write) (d : Body) → head_at w.bytes w.at ≡ o → (w.at == q) ≡ t → w.at + length w.bytes ≤ q → body_behind o q w ≡ Some d → ⊥
front_behind (Some e) true q w d there test le is = omega (arith, told w.at q test, le, head_long w.bytes w.at e there)
front_behind (Some e) false q w d there test le is = no_some d (ap (λ (b : Bool). if b then body_at (drop 24 w.bytes) q else None) (sym test) ∙ is)
front_behind None t q w d there test le is = front_alone (body_at w.bytes (w.at - 24)) (w.at == q + 24) (w.at == q + 16) q w d refl refl (omega (arith, le)) is

front_puts : (h : StaticHead) (since : List Change) (w : Write) → w.at + length w.bytes ≤ base_of h.p → WritesPuts h since w
front_puts h since w le q b from said set = absurd (front_behind (head_at w.bytes w.at) (w.at == q) q w b refl refl (omega (arith, le, from)) said)

put_is : (since : List Change) (a b : Body) → a ≡ b → IsPut since b → a.kind ≡ 1 → was_put a.key a.value since ≡ true
put_is since a b same put set = subst (λ (z : Body). z.kind ≡ 1 → was_put z.key z.value since ≡ true) (sym same) put.1 set

fair_front : (h : StaticHead) (since : List Change) (p : Past) (at : ℕ) (bytes : List ℕ) → IsFairPast h since p → static_size ≤ at → at + length bytes ≤ base_of h.p → IsFairPast h since (with_write at bytes p)
fair_front h since p at bytes fair past le =
    let w : Write = record { at = at; bytes = bytes } in
    fair_more h since p w fair past (front_puts h since w le) (λ un. below_all since w (base_of h.p) (seen_in h p.fixed) le (laid_in h p.fixed))

cell_spared : (h : StaticHead) (since : List Change) (p : Past) (w : Write) (q e : ℕ) → w.at ≡ q + 16 → length w.bytes ≡ 8 → StoodAt h p q e ⊎ IsOpen h since p q → has_clear since ≡ false → AllSeen (SparesBlock since w) (seen_in h p.fixed)
cell_spared h since p w q e at long (inl stood) un =
    inside_all since w q e (base_of h.p) (seen_in h p.fixed) (omega (arith, at)) (omega (arith, at, long, any_long (base_of h.p) (seen_in h p.fixed) (laid_in h p.fixed) stood)) (laid_in h p.fixed) stood (cell_own since w q (seen_in h p.fixed) (omega (arith, at, long)))
  where
    any_long : (at : ℕ) (ss : List Seen) → AreSeenInLine at ss → AnySeen (λ s. (s.place ≡ q) × (s.extent ≡ e)) ss → 48 ≤ e
    any_long at [] laid any = absurd any
    any_long at (s ∷ ss) laid (inl one) = omega (arith, one.1, laid.1)
    any_long at (s ∷ ss) laid (inr more) = any_long (at + s.extent) ss laid.3 more
cell_spared h since p w q e at long (inr out) un = append_spared h since p w q (omega (arith, at)) out un

fair_link : (h : StaticHead) (since : List Change) (p : Past) (q e link : ℕ) → IsFairPast h since p → link < 2 ^ 56 → StoodAt h p q e ⊎ IsOpen h since p q
    → IsFairPast h since (with_write (q + 16) (to_be_bytes w64 link) p)
fair_link h since p q e link fair small stood =
    let w : Write = record { at = q + 16; bytes = to_be_bytes w64 link } in
    fair_more h since p w fair (elim stood [ inl a ↦ omega (arith, stood_past h p q e a) | inr b ↦ omega (arith, open_past h since p q b) ]) (λ r b from said set. absurd (said_cell (q + 16) link r b small said)) (λ un. cell_spared h since p w q e refl refl stood un)

fair_overwrite : (h : StaticHead) (since : List Change) (p : Past) (q e : ℕ) (b : Body) (padding : List ℕ) → IsFairPast h since p → IsPut since b → room_of b + length padding ≤ e → MayHold h since p q e → IsFairPast h since (with_write (q + 24) (body_text b q ++ padding) p)
fair_overwrite h since p q e b padding fair put fits may =
    let w : Write = record { at = q + 24; bytes = body_text b q ++ padding } in
    fair_more h since p w fair (omega (arith, may_past h since p q e may)) (λ r d from said set. put_is since d b (said_overwrite q b padding r d put.0 said).1 put set)
    (λ un. held_all h since p w q e (omega arith) (omega (arith, fits, length-append (body_text b q) padding, length-body_text b q)) may un)

fair_reuse : (h : StaticHead) (since : List Change) (p : Past) (q e link : ℕ) (b : Body) → IsFairPast h since p → link < 2 ^ 56 → IsPut since b → room_of b ≤ e → MayHold h since p q e → IsFairPast h since (with_write (q + 16) (to_be_bytes w64 link ++ body_text b q) p)
fair_reuse h since p q e link b fair small put fits may =
    let w : Write = record { at = q + 16; bytes = to_be_bytes w64 link ++ body_text b q } in
    let long : length (to_be_bytes w64 link) ≡ 8 = refl in
    fair_more h since p w fair (omega (arith, may_past h since p q e may)) (λ r d from said set. put_is since d b (said_reuse q link b r d small put.0 said).1 put set)
    (λ un. held_all h since p w q e (omega arith) (omega (arith, fits, long, length-append (to_be_bytes w64 link) (body_text b q), length-body_text b q)) may un)

fair_append : (h : StaticHead) (since : List Change) (p : Past) (q link : ℕ) (b : Body) → IsFairPast h since p → IsPut since b → IsOpen h since p q → IsFairPast h since (with_write q (block_text b q link) p)
fair_append h since p q link b fair put where_ =
    let w : Write = record { at = q; bytes = block_text b q link } in
    fair_more h since p w fair (open_past h since p q where_) (λ r d from said set. put_is since d b (said_append q link b r d put.0 said).1 put set) (append_spared h since p w q (omega arith) where_)

fair_cut : (h : StaticHead) (since : List Change) (p : Past) (n : ℕ) → IsFairPast h since p → has_clear since ≡ true → static_size ≤ n → IsFairPast h since (with_cut n p)
fair_cut h since p n fair clear past = record {
  header = fair.header;
  long = omega (arith, past, fair.long);
  behind = fair.behind;
  once = fair.once;
  puts = fair.puts;
  length_kept = λ un. absurd (not_both (has_clear since) clear un);
  spared = fair.spared;
}

-- ---- more changes

or_first : (a b c : Bool) → (b ≡ true → c ≡ true) → (a || b) ≡ true → (a || c) ≡ true
or_first true b c go is = refl
or_first false b c go is = go is

pub put_more : (k v : List ℕ) (cs new : List Change) → was_put k v cs ≡ true → was_put k v (cs ++ new) ≡ true
put_more k v [] new is = absurd (cc)
put_more k v (changes.Put x ∷ cs) new is = or_first (same_bytes k x.key && same_bytes v x.value) (was_put k v cs) (was_put k v (cs ++ new)) (λ more. put_more k v cs new more) is
put_more k v (changes.Drop j ∷ cs) new is = put_more k v cs new is
put_more k v (changes.Clear ∷ cs) new is = put_more k v cs new is

or_false : (a b c : Bool) → (c ≡ false → b ≡ false) → (a || c) ≡ false → (a || b) ≡ false
or_false true b c go is = is
or_false false b c go is = go is

pub unchanged_less : (t : Bool) (k : List ℕ) (cs new : List Change) → was_changed t k (cs ++ new) ≡ false → was_changed t k cs ≡ false
unchanged_less t k [] new un = refl
unchanged_less t k (changes.Put x ∷ cs) new un = or_false (same_bytes k x.key) (was_changed t k cs) (was_changed t k (cs ++ new)) (λ more. unchanged_less t k cs new more) un
unchanged_less t k (changes.Drop j ∷ cs) new un = or_false (same_bytes k j) (was_changed t k cs) (was_changed t k (cs ++ new)) (λ more. unchanged_less t k cs new more) un
unchanged_less t k (changes.Clear ∷ cs) new un = or_false t (was_changed t k cs) (was_changed t k (cs ++ new)) (λ more. unchanged_less t k cs new more) un

unclear_less : (cs new : List Change) → has_clear (cs ++ new) ≡ false → has_clear cs ≡ false
unclear_less [] new un = refl
unclear_less (changes.Put x ∷ cs) new un = unclear_less cs new un
unclear_less (changes.Drop j ∷ cs) new un = unclear_less cs new un
unclear_less (changes.Clear ∷ cs) new un = un

fair_since : (h : StaticHead) (since new : List Change) (p : Past) → IsFairPast h since p → IsFairPast h (since ++ new) p
fair_since h since new p fair = record {
  header = fair.header;
  long = fair.long;
  behind = fair.behind;
  once = fair.once;
  puts = all_writes (WritesPuts h since) (WritesPuts h (since ++ new)) p.writes (λ w puts q b from said set. put_more b.key b.value since new (puts q b from said set)) fair.puts;
  length_kept = λ un. fair.length_kept (unclear_less since new un);
  spared = λ un. all_writes (λ w. AllSeen (SparesBlock since w) (seen_in h p.fixed)) (λ w. AllSeen (SparesBlock (since ++ new) w) (seen_in h p.fixed)) p.writes (λ w all.
      all_seen (SparesBlock since w) (SparesBlock (since ++ new) w) (seen_in h p.fixed) (λ s a. record { head = a.head; says = λ b is set unchanged. a.says b is set (unchanged_less true b.key since new unchanged) }) all) (fair.spared (unclear_less since new un));
}

header_fits : (h : StaticHead) (f : List ℕ) → static_at f ≡ Some h → static_size ≤ length f
header_fits h f is = omega (arith, length-static_text h, ap length (statics.found f h is).1, length-take (length (static_text h)) f)

pub stays_fair : (h : StaticHead) → StaysFair h
stays_fair h = record {
  front = fair_front h;
  link = fair_link h;
  overwrite = fair_overwrite h;
  reuse = fair_reuse h;
  append = fair_append h;
  cut = fair_cut h;
  more = fair_since h;
  settled = λ f header once. record { header = header; long = header_fits h f header; behind = tt; once = once; puts = tt; length_kept = λ un. refl; spared = λ un. tt };
}
