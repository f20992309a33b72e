-- How the plain model goes through its blocks.
use Rattle.std.proofs.Common.{◌≡◌, ℕ, zero, suc, ◌+◌, ◌<◌, ◌≤◌, Bool, true, false, List, [], ◌∷◌, ◌++◌, length, take, drop, get_or, Some, refl, sym, ap, subst, ◌∙◌, arith, append_assoc, add-one, if◌then◌else◌}
use Rattle.std.proofs.lemmas.Bool.Decides.{nat_tests}
use Rattle.std.specs.Prelude.{Option, None, option_map, slice_set, ◌^◌, ◌==◌, nat_le}
use Rattle.std.proofs.lemmas.List.{drop_more, take_more, set_split, length-append, length-take, take_at, drop_at}
use Rattle.tk_model.specs.declared.record.Pair.{Pair}
use Rattle.tk_model.specs.declared.record.Change.{Change}
use Rattle.tk_model.specs.declared.record.Change.TheVariants as changes
use Rattle.tk_block.specs.Blocks.{IsSmall, AllSmall, key_of, value_of, room_of, extent_of, extent_for}
use Rattle.tk_block.specs.Layout.{Placed}
use Rattle.tk_block.specs.declared.block.Body.{Body}
use Rattle.tk_update.specs.Blocks.{is_of, block_of, best_void, end_behind, appended, written_at, voided, put_into, put_over, put_block, set_body, void_body, blocks_after_one, blocks_after}

split_at : (m : List Placed) (i : ℕ) (x : Placed) → i < length m → x ≡ get_or m i x → drop i m ≡ x ∷ drop (i + 1) m
split_at m i x inside is = drop_more m i x inside ∙ ap (λ y. y ∷ drop (i + 1) m) (sym is)

longer : (m : List Placed) (i : ℕ) (x : Placed) (rest : List Placed) → i < length m → x ≡ get_or m i x → take (i + 1) m ++ rest ≡ take i m ++ x ∷ rest
longer m i x rest inside is =
    ap (λ front. front ++ rest) (take_more m i x inside ∙ ap (λ y. take i m ++ y ∷ []) (sym is)) ∙ append_assoc (take i m) (x ∷ []) rest

-- the list with another block at i
set_here : (m : List Placed) (i : ℕ) (y : Placed) → i < length m → slice_set m i y ≡ take i m ++ y ∷ drop (i + 1) m
set_here m i y inside = set_split m i y inside ∙ ap (λ j. take i m ++ y ∷ drop j m) (sym (add-one i))

set_front : (m rest : List Placed) (i : ℕ) (y : Placed) → i < length m → take (i + 1) (slice_set m i y) ++ rest ≡ take i m ++ y ∷ rest
set_front m rest i y inside =
    let front = take i m ++ y ∷ [] in
    let long : length front ≡ i + 1 = omega (arith, inside, length-append (take i m) (y ∷ []), length-take i m) in
    ap (λ (l : List Placed). take (i + 1) l ++ rest) (set_here m i y inside ∙ sym (append_assoc (take i m) (y ∷ []) (drop (i + 1) m)))
    ∙ ap (λ (l : List Placed). l ++ rest) (take_at front (drop (i + 1) m) (i + 1) long)
    ∙ append_assoc (take i m) (y ∷ []) rest

set_rest : (m : List Placed) (i : ℕ) (y : Placed) → i < length m → drop (i + 1) (slice_set m i y) ≡ drop (i + 1) m
set_rest m i y inside =
    let front = take i m ++ y ∷ [] in
    let long : length front ≡ i + 1 = omega (arith, inside, length-append (take i m) (y ∷ []), length-take i m) in
    ap (λ (l : List Placed). drop (i + 1) l) (set_here m i y inside ∙ sym (append_assoc (take i m) (y ∷ []) (drop (i + 1) m)))
    ∙ drop_at front (drop (i + 1) m) (i + 1) long

-- ---- where the blocks end

pub end_last : (base : ℕ) (m : List Placed) (i : ℕ) (x : Placed) → i + 1 ≡ length m → x ≡ get_or m i x → end_behind base m ≡ x.place + x.extent
end_last base [] i x last is = absurd (omega (arith, last))
end_last base (y ∷ []) zero x last is = ap (λ (z : Placed). z.place + z.extent) (sym is)
end_last base (y ∷ []) (suc i) x last is = absurd (omega (arith, last))
end_last base (y ∷ z ∷ zs) zero x last is = absurd (omega (arith, last))
end_last base (y ∷ z ∷ zs) (suc i) x last is = end_last (y.place + y.extent) (z ∷ zs) i x (omega (arith, last)) is

-- ---- another body at a place

pub written_here : (place : ℕ) (b : Body) (m : List Placed) (i : ℕ) (x : Placed) → i < length m → x ≡ get_or m i x → (x.place == place) ≡ true → take i m ++ written_at place b (drop i m) ≡ written_at place b m
    → slice_set m i (record { place = x.place; extent = x.extent; body = b }) ≡ written_at place b m
written_here place b m i x inside is at so_far =
    let new : Placed = record { place = x.place; extent = x.extent; body = b } in
    let step : written_at place b (x ∷ drop (i + 1) m) ≡ new ∷ drop (i + 1) m = rw at refl in
    set_here m i new inside ∙ ap (λ (l : List Placed). take i m ++ l) (sym step ∙ ap (written_at place b) (sym (split_at m i x inside is))) ∙ so_far

pub written_later : (place : ℕ) (b : Body) (m : List Placed) (i : ℕ) (x : Placed) → i < length m → x ≡ get_or m i x → (x.place == place) ≡ false → take i m ++ written_at place b (drop i m) ≡ written_at place b m
    → take (i + 1) m ++ written_at place b (drop (i + 1) m) ≡ written_at place b m
written_later place b m i x inside is at so_far =
    let step : written_at place b (x ∷ drop (i + 1) m) ≡ x ∷ written_at place b (drop (i + 1) m) = rw at refl in
    longer m i x (written_at place b (drop (i + 1) m)) inside is ∙ ap (λ (l : List Placed). take i m ++ l) (sym step ∙ ap (written_at place b) (sym (split_at m i x inside is))) ∙ so_far

-- ---- a key's blocks made void

pub voided_here : (k : List ℕ) (n : ℕ) (m old : List Placed) (i : ℕ) (x : Placed) → i < length m → x ≡ get_or m i x → is_of k x.body ≡ true → take i m ++ voided k n (drop i m) ≡ voided k n old
    → let new = slice_set m i (record { place = x.place; extent = x.extent; body = void_body n }) in take (i + 1) new ++ voided k n (drop (i + 1) new) ≡ voided k n old
voided_here k n m old i x inside is its so_far =
    let void : Placed = record { place = x.place; extent = x.extent; body = void_body n } in
    let step : voided k n (x ∷ drop (i + 1) m) ≡ void ∷ voided k n (drop (i + 1) m) = rw its refl in
    ap (λ (l : List Placed). take (i + 1) (slice_set m i void) ++ voided k n l) (set_rest m i void inside)
    ∙ set_front m (voided k n (drop (i + 1) m)) i void inside
    ∙ ap (λ (l : List Placed). take i m ++ l) (sym step ∙ ap (voided k n) (sym (split_at m i x inside is)))
    ∙ so_far

pub voided_later : (k : List ℕ) (n : ℕ) (m old : List Placed) (i : ℕ) (x : Placed) → i < length m → x ≡ get_or m i x → is_of k x.body ≡ false → take i m ++ voided k n (drop i m) ≡ voided k n old
    → take (i + 1) m ++ voided k n (drop (i + 1) m) ≡ voided k n old
voided_later k n m old i x inside is its so_far =
    let step : voided k n (x ∷ drop (i + 1) m) ≡ x ∷ voided k n (drop (i + 1) m) = rw its refl in
    longer m i x (voided k n (drop (i + 1) m)) inside is ∙ ap (λ (l : List Placed). take i m ++ l) (sym step ∙ ap (voided k n) (sym (split_at m i x inside is))) ∙ so_far

-- ---- a put

pub appended_last : (base place extent : ℕ) (b : Body) (m : List Placed) → place ≡ end_behind base m → extent ≡ extent_of b → m ++ record { place = place; extent = extent; body = b } ∷ [] ≡ appended base b m
appended_last base place extent b [] at is = ap (λ (k : ℕ). record { place = k; extent = extent; body = b } ∷ []) at ∙ ap (λ (k : ℕ). record { place = base; extent = k; body = b } ∷ []) is
appended_last base place extent b (x ∷ xs) at is = ap (λ (l : List Placed). x ∷ l) (appended_last (x.place + x.extent) place extent b xs at is)

end_void_if : (t : Bool) (n base : ℕ) (x : Placed) (new old : List Placed) → ((at : ℕ) → end_behind at new ≡ end_behind at old)
    → end_behind base ((if t then record { place = x.place; extent = x.extent; body = void_body n } else x) ∷ new) ≡ end_behind (x.place + x.extent) old
end_void_if true n base x new old go = go (x.place + x.extent)
end_void_if false n base x new old go = go (x.place + x.extent)

pub end_voided : (base : ℕ) (k : List ℕ) (n : ℕ) (m : List Placed) → end_behind base (voided k n m) ≡ end_behind base m
end_voided base k n [] = refl
end_voided base k n (x ∷ xs) = end_void_if (is_of k x.body) n base x (voided k n xs) xs (λ at. end_voided at k n xs)

end_written_if : (t : Bool) (b : Body) (base : ℕ) (x : Placed) (new old : List Placed) → ((at : ℕ) → end_behind at new ≡ end_behind at old)
    → end_behind base (if t then record { place = x.place; extent = x.extent; body = b } ∷ old else x ∷ new) ≡ end_behind (x.place + x.extent) old
end_written_if true b base x new old go = refl
end_written_if false b base x new old go = go (x.place + x.extent)

end_written : (base place : ℕ) (b : Body) (m : List Placed) → end_behind base (written_at place b m) ≡ end_behind base m
end_written base place b [] = refl
end_written base place b (x ∷ xs) = end_written_if (x.place == place) b base x (written_at place b xs) xs (λ at. end_written at place b xs)

end_appended : (base : ℕ) (b : Body) (m : List Placed) → end_behind base (appended base b m) ≡ end_behind base m + extent_of b
end_appended base b [] = refl
end_appended base b (x ∷ xs) = end_appended (x.place + x.extent) b xs

pub put_none : (base n : ℕ) (new : Pair) (m : List Placed) → block_of new.key m ≡ None → put_block base new n m ≡ put_into base (set_body new n) (best_void (room_of (set_body new n)) m) m
put_none base n new m none = ap (λ (o : Option Placed). put_over base new n o m) none

pub put_fits : (base n : ℕ) (new : Pair) (m : List Placed) (x : Placed) → block_of new.key m ≡ Some x → nat_le (room_of (set_body new n)) x.extent ≡ true → put_block base new n m ≡ written_at x.place (set_body new n) m
put_fits base n new m x found fits =
    ap (λ (o : Option Placed). put_over base new n o m) found
    ∙ ap (λ (t : Bool). if t then written_at x.place (set_body new n) m else put_into base (set_body new n) (best_void (room_of (set_body new n)) m) (voided new.key n m)) fits

pub put_moves : (base n : ℕ) (new : Pair) (m : List Placed) (x : Placed) → block_of new.key m ≡ Some x → nat_le (room_of (set_body new n)) x.extent ≡ false
    → put_block base new n m ≡ put_into base (set_body new n) (best_void (room_of (set_body new n)) m) (voided new.key n m)
put_moves base n new m x found fits =
    ap (λ (o : Option Placed). put_over base new n o m) found
    ∙ ap (λ (t : Bool). if t then written_at x.place (set_body new n) m else put_into base (set_body new n) (best_void (room_of (set_body new n)) m) (voided new.key n m)) fits

-- ---- how much longer the file becomes

end_into : (base : ℕ) (b : Body) (o : Option Placed) (m : List Placed) → end_behind base (put_into base b o m) ≤ end_behind base m + extent_of b
end_into base b None m = omega (arith, end_appended base b m)
end_into base b (Some v) m = omega (arith, end_written base v.place b m)

end_fit : (t : Bool) (base n place : ℕ) (k : List ℕ) (b : Body) (o : Option Placed) (m : List Placed) → end_behind base (if t then written_at place b m else put_into base b o (voided k n m)) ≤ end_behind base m + extent_of b
end_fit true base n place k b o m = omega (arith, end_written base place b m)
end_fit false base n place k b o m = omega (arith, end_into base b o (voided k n m), end_voided base k n m)

end_put : (base n : ℕ) (new : Pair) (o : Option Placed) (m : List Placed) → end_behind base (put_over base new n o m) ≤ end_behind base m + extent_of (set_body new n)
end_put base n new None m = end_into base (set_body new n) (best_void (room_of (set_body new n)) m) m
end_put base n new (Some x) m = end_fit (nat_le (room_of (set_body new n)) x.extent) base n x.place new.key (set_body new n) (best_void (room_of (set_body new n)) m) m

extent_small : (room : ℕ) → room ≤ 44 + 65535 + 33554431 → extent_for room ≤ 2 ^ 26
extent_small room small = omega (arith, small)

pub end_one : (base n most : ℕ) (c : Change) (m : List Placed) → IsSmall (key_of c) (value_of c) → base ≤ most → end_behind base m ≤ most → end_behind base (blocks_after_one base n c m) ≤ most + 2 ^ 26
end_one base n most (changes.Put new) m small from to =
    let room : room_of (set_body new n) ≤ 44 + 65535 + 33554431 = omega (arith, small.key_fits, small.value_fits) in
    omega (arith, to, end_put base n new (block_of new.key m) m, extent_small (room_of (set_body new n)) room)
end_one base n most (changes.Drop k) m small from to = omega (arith, to, end_voided base k n m)
end_one base n most changes.Clear m small from to = omega (arith, from)

-- ---- change by change

pub small_at : (cs : List Change) (i : ℕ) (c : Change) → AllSmall cs → i < length cs → c ≡ get_or cs i c → IsSmall (key_of c) (value_of c)
small_at [] i c all inside is = absurd (omega (arith, inside))
small_at (d ∷ ds) zero c all inside is = subst (λ (e : Change). IsSmall (key_of e) (value_of e)) (sym is) all.0
small_at (d ∷ ds) (suc i) c all inside is = small_at ds i c all.1 (omega (arith, inside)) is

pub after_more : (base n : ℕ) (cs : List Change) (i : ℕ) (c : Change) (old new : List Placed) → i < length cs → c ≡ get_or cs i c → new ≡ blocks_after_one base n c old
    → blocks_after base n (drop (i + 1) cs) new ≡ blocks_after base n (drop i cs) old
after_more base n cs i c old new inside is made =
    ap (blocks_after base n (drop (i + 1) cs)) made
    ∙ ap (λ (l : List Change). blocks_after base n l old) (sym (drop_more cs i c inside ∙ ap (λ (d : Change). d ∷ drop (i + 1) cs) (sym is)))

-- what was found is found in the blocks
pub found_in : (k key : List ℕ) (l m : List Placed) (o : Option Placed) → o ≡ block_of key l → key ≡ k → l ≡ m → block_of k m ≡ o
found_in k key l m o is same all = ap (λ (j : List ℕ). block_of j m) (sym same) ∙ ap (block_of key) (sym all) ∙ sym is

pub void_in : (room least : ℕ) (l m : List Placed) (void : Option ℕ) → void ≡ option_map (λ (x : Placed). x.place) (best_void room l) → room ≡ least → l ≡ m → option_map (λ (x : Placed). x.place) (best_void least m) ≡ void
void_in room least l m void is same all = ap (λ (r : ℕ). option_map (λ (x : Placed). x.place) (best_void r m)) (sym same) ∙ ap (λ (xs : List Placed). option_map (λ (x : Placed). x.place) (best_void room xs)) (sym all) ∙ sym is

pub fits_so : (room least extent long : ℕ) → room ≡ least → extent ≡ long → room ≤ extent → nat_le least long ≡ true
fits_so room least extent long one two le = grind (arith, nat_tests, one, two, le)

pub fits_not : (room least extent long : ℕ) → room ≡ least → extent ≡ long → (room ≤ extent → ⊥) → nat_le least long ≡ false
fits_not room least extent long one two le = grind (arith, nat_tests, one, two, le)
