-- A page is read exactly from its text.
use Rattle.std.proofs.Common.{◌≡◌, ℕ, zero, suc, ◌+◌, ◌<◌, ◌≤◌, ◌^◌, Bool, true, false, if◌then◌else◌, List, [], ◌∷◌, ◌++◌, length, take, drop, get_or, Option, Some, None, refl, sym, ap, subst, ◌∙◌, append_assoc, arith, length-append, length-drop, lit<}
use Rattle.std.specs.Prelude.{◌==◌, ◌&&◌, nat_le}
use Rattle.std.specs.List.{flat_map, AllByRecursion}
use Rattle.std.specs.Option.{option_map}
use Rattle.std.specs.Int.{w16, w32, w64, to_be_bytes}
use Rattle.std.proofs.lemmas.List.{take_at, drop_at, take-append-drop, length-take-le, drop-drop, get_or-drop}
use Rattle.std.proofs.lemmas.List.Elements.{recursion_from_All, All-from_recursion}
use Rattle.std.proofs.lemmas.Bool.Decides.{nat_tests}
use Rattle.std.proofs.lemmas.Option.{cond_some}
use Rattle.std.proofs.lemmas.Nat.{from_be_bytes-to_be_bytes_2, from_be_bytes-to_be_bytes_4, from_be_bytes-to_be_bytes_8, be_bytes_2, be_bytes_4, be_bytes_8}
use Rattle.tk_model.specs.declared.record.Pair.{Pair}
use Rattle.tk_page.specs.declared.page.Child.{Child}
use Rattle.tk_page.specs.declared.page.Page.{Page}
use Rattle.tk_page.specs.declared.page.Page.TheVariants.{Leaf, Inner}
use Rattle.tk_model.specs.RecordText.{record_text, record_size, record_at, FitsRecord}
use Rattle.tk_model.proofs.RecordTexts.{AreBytes, length-record, record_found, record_again}
use Rattle.tk_page.specs.Page.{link_text, child_text, front_text, leaf_text, inner_text, page_text, FitsChild, FitsPage, IsFirstKeyEmpty, link_number, link_length, link_in, child_size, child_at, followed_by, items_in, is_first_key_empty, inner_of, leaf_of, count_in, page_in}

two_true : (a b : Bool) → (a && b) ≡ true → (a ≡ true) × (b ≡ true)
two_true true true h = (refl, refl)
two_true true false h = absurd (cc)
two_true false b h = absurd (cc)

le_so : (m n : ℕ) → nat_le m n ≡ true → m ≤ n
le_so m n h = grind (arith, nat_tests)

so_le : (m n : ℕ) → m ≤ n → nat_le m n ≡ true
so_le m n h = grind (arith, nat_tests)

-- ---- items one after another

module _ {A : Type 0} (at : List ℕ → Option A) (size : A → ℕ) (spell : A → List ℕ) (Fits : A → Type 0) where
  -- An item is read exactly: what is found is spelled, and what is spelled is found.
  pub record IsExact : Type 0 where
    pub long : (x : A) → length (spell x) ≡ size x
    pub found : (text : List ℕ) (x : A) → AreBytes text → at text ≡ Some x → Fits x × (text ≡ spell x ++ drop (size x) text)
    pub again : (x : A) (rest : List ℕ) → Fits x → at (spell x ++ rest) ≡ Some x

  abbrev pub IsSpelled : (count : ℕ) → List ℕ → List A → Type 0
  IsSpelled count text xs = (length xs ≡ count) × AllByRecursion Fits xs × (text ≡ flat_map spell xs)

bytes_behind : (n : ℕ) (text : List ℕ) → AreBytes text → AreBytes (drop n text)
bytes_behind n text are i = subst (λ (b : ℕ). b < 256) (sym (get_or-drop n text i 0)) (are (n + i))

tail_some : {A : Type 0} (x : A) (o : Option (List A)) (xs : List A) → option_map (λ ys. x ∷ ys) o ≡ Some xs → (ys : List A) × (o ≡ Some ys) × (xs ≡ x ∷ ys)
tail_some x None xs h = absurd (cc)
tail_some x (Some ys) xs h = (ys, refl, cc)

more_some : {A : Type 0} (o : Option A) (more : A → Option (List A)) (xs : List A) → followed_by o more ≡ Some xs → (x : A) × (ys : List A) × (o ≡ Some x) × (more x ≡ Some ys) × (xs ≡ x ∷ ys)
more_some None more xs h = absurd (cc)
more_some (Some x) more xs h = let t = tail_some x (more x) xs h in (x, t.0, refl, t.1, t.2)

module _ {A : Type 0} (at : List ℕ → Option A) (size : A → ℕ) (spell : A → List ℕ) (Fits : A → Type 0) (exact : IsExact at size spell Fits) where
  pub all_found : (count : ℕ) (text : List ℕ) (xs : List A) → AreBytes text → items_in at size count text ≡ Some xs → IsSpelled at size spell Fits count text xs
  unfolding items_in
  all_found zero [] xs bytes h = let none : xs ≡ [] = cc in subst (λ l. IsSpelled at size spell Fits 0 [] l) (sym none) (refl, tt, refl)
  all_found zero (b ∷ bs) xs bytes h = absurd (cc)
  all_found (suc n) text xs bytes h =
      let m = more_some (at text) (λ x. items_in at size n (drop (size x) text)) xs h in
      let x = m.0 in let ys = m.1 in
      let one = exact.found text x bytes m.2 in
      let rest = all_found n (drop (size x) text) ys (bytes_behind (size x) text bytes) m.3 in
      subst (λ l. IsSpelled at size spell Fits (suc n) text l) (sym m.4) (ap suc rest.0, (one.0, rest.1), one.1 ∙ ap (λ t. spell x ++ t) rest.2)

  pub all_again : (xs : List A) → AllByRecursion Fits xs → items_in at size (length xs) (flat_map spell xs) ≡ Some xs
  unfolding items_in
  all_again [] fit = refl
  all_again (x ∷ xs) fit =
      ap (λ o. followed_by o (λ y. items_in at size (length xs) (drop (size y) (spell x ++ flat_map spell xs)))) (exact.again x (flat_map spell xs) fit.0)
      ∙ ap (λ t. option_map (λ ys. x ∷ ys) (items_in at size (length xs) t)) (drop_at (spell x) (flat_map spell xs) (size x) (exact.long x))
      ∙ ap (λ o. option_map (λ ys. x ∷ ys) o) (all_again xs fit.1)

-- ---- records

fit_two : (a b : ℕ) → a < 256 → b < 256 → AreBytes (a ∷ b ∷ [])
fit_two a b fa fb zero = fa
fit_two a b fa fb (suc zero) = fb
fit_two a b fa fb (suc (suc i)) = lit< tt

fit_four : (a b c d : ℕ) → a < 256 → b < 256 → c < 256 → d < 256 → AreBytes (a ∷ b ∷ c ∷ d ∷ [])
fit_four a b c d fa fb fc fd zero = fa
fit_four a b c d fa fb fc fd (suc zero) = fb
fit_four a b c d fa fb fc fd (suc (suc i)) = fit_two c d fc fd i

pub records_exact : IsExact record_at record_size record_text FitsRecord
records_exact = record { long = length-record; found = record_found; again = record_again }

-- ---- children

length-link : (c : Child) → length (link_text c) ≡ 10
unfolding link_text
length-link c = refl

length-child : (c : Child) → length (child_text c) ≡ child_size c
unfolding child_text
length-child c = omega (arith, length-append (link_text c) c.key, length-link c)

fit_eight : (a b c d e f g h : ℕ) → a < 256 → b < 256 → c < 256 → d < 256 → e < 256 → f < 256 → g < 256 → h < 256 → AreBytes (a ∷ b ∷ c ∷ d ∷ e ∷ f ∷ g ∷ h ∷ [])
fit_eight a b c d e f g h fa fb fc fd fe ff fg fh zero = fa
fit_eight a b c d e f g h fa fb fc fd fe ff fg fh (suc zero) = fb
fit_eight a b c d e f g h fa fb fc fd fe ff fg fh (suc (suc zero)) = fc
fit_eight a b c d e f g h fa fb fc fd fe ff fg fh (suc (suc (suc zero))) = fd
fit_eight a b c d e f g h fa fb fc fd fe ff fg fh (suc (suc (suc (suc i)))) = fit_four e f g h fe ff fg fh i

-- ten bytes are the text of the link that they give
link_of : (text : List ℕ) (x : Child) → AreBytes text → 10 ≤ length text → x.page ≡ link_number text → length x.key ≡ link_length text → text ≡ link_text x ++ drop 10 text
unfolding link_text
link_of [] x fit long n k = absurd (omega arith)
link_of (a ∷ []) x fit long n k = absurd (omega arith)
link_of (a ∷ b ∷ []) x fit long n k = absurd (omega arith)
link_of (a ∷ b ∷ c ∷ []) x fit long n k = absurd (omega arith)
link_of (a ∷ b ∷ c ∷ d ∷ []) x fit long n k = absurd (omega arith)
link_of (a ∷ b ∷ c ∷ d ∷ e ∷ []) x fit long n k = absurd (omega arith)
link_of (a ∷ b ∷ c ∷ d ∷ e ∷ f ∷ []) x fit long n k = absurd (omega arith)
link_of (a ∷ b ∷ c ∷ d ∷ e ∷ f ∷ g ∷ []) x fit long n k = absurd (omega arith)
link_of (a ∷ b ∷ c ∷ d ∷ e ∷ f ∷ g ∷ h ∷ []) x fit long n k = absurd (omega arith)
link_of (a ∷ b ∷ c ∷ d ∷ e ∷ f ∷ g ∷ h ∷ i ∷ []) x fit long n k = absurd (omega arith)
link_of (a ∷ b ∷ c ∷ d ∷ e ∷ f ∷ g ∷ h ∷ i ∷ j ∷ rest) x fit long n k =
    let eight : to_be_bytes w64 x.page ≡ a ∷ b ∷ c ∷ d ∷ e ∷ f ∷ g ∷ h ∷ [] = be_bytes_8 (a ∷ b ∷ c ∷ d ∷ e ∷ f ∷ g ∷ h ∷ []) x.page refl (fit_eight a b c d e f g h (fit 0) (fit 1) (fit 2) (fit 3) (fit 4) (fit 5) (fit 6) (fit 7)) n in
    let two : to_be_bytes w16 (length x.key) ≡ i ∷ j ∷ [] = be_bytes_2 (i ∷ j ∷ []) (length x.key) refl (fit_two i j (fit 8) (fit 9)) k in
    ap (λ (l : List ℕ). (l ++ (i ∷ j ∷ [])) ++ rest) (sym eight) ∙ ap (λ (l : List ℕ). (to_be_bytes w64 x.page ++ l) ++ rest) (sym two)

link_small : (text : List ℕ) → AreBytes text → link_length text ≤ 65535
link_small text fit = omega (arith, fit 8, fit 9)

number_small : (text : List ℕ) → AreBytes text → link_number text < 2 ^ 64
number_small text fit = omega (arith, fit 0, fit 1, fit 2, fit 3, fit 4, fit 5, fit 6, fit 7)

child_found : (text : List ℕ) (x : Child) → AreBytes text → child_at text ≡ Some x → FitsChild x × (text ≡ child_text x ++ drop (child_size x) text)
unfolding child_at child_text
child_found text x bytes h =
    let parts = cond_some _ _ _ h in
    let tests = two_true _ _ parts.0 in
    let ten : 10 ≤ length text = le_so _ _ tests.0 in
    let long : 10 + link_length text ≤ length text = le_so _ _ tests.1 in
    let k : length (link_in text).key ≡ link_length text = length-take-le _ _ (omega (arith, length-drop 10 text)) in
    let whole : text ≡ child_text (link_in text) ++ drop (child_size (link_in text)) text =
    link_of text (link_in text) bytes ten refl k
    ∙ ap (λ l. link_text (link_in text) ++ l)
    (sym (take-append-drop (link_length text) (drop 10 text)) ∙ ap (λ l. (link_in text).key ++ l) (drop-drop (link_length text) 10 text ∙ ap (λ n. drop n text) (omega (arith, k))))
    ∙ sym (append_assoc (link_text (link_in text)) (link_in text).key (drop (child_size (link_in text)) text)) in
    subst (λ (y : Child). FitsChild y × (text ≡ child_text y ++ drop (child_size y) text)) parts.1
    (record { page = number_small text bytes; key = omega (arith, k, link_small text bytes) }, whole)

link_told : (x : Child) (rest : List ℕ) → FitsChild x → link_length (child_text x ++ rest) ≡ length x.key
unfolding child_text link_text
link_told x rest fits = from_be_bytes-to_be_bytes_2 (length x.key) (omega (arith, fits.key))

number_told : (x : Child) (rest : List ℕ) → FitsChild x → link_number (child_text x ++ rest) ≡ x.page
unfolding child_text link_text
number_told x rest fits = from_be_bytes-to_be_bytes_8 x.page fits.page

behind_link : (x : Child) (rest : List ℕ) → drop 10 (child_text x ++ rest) ≡ x.key ++ rest
unfolding child_text link_text
behind_link x rest = refl

child_again : (x : Child) (rest : List ℕ) → FitsChild x → child_at (child_text x ++ rest) ≡ Some x
unfolding child_at
child_again x rest fits =
    let k = link_told x rest fits in
    let n = number_told x rest fits in
    let long : length (child_text x ++ rest) ≡ child_size x + length rest = omega (arith, length-append (child_text x) rest, length-child x) in
    let ten : nat_le 10 (length (child_text x ++ rest)) ≡ true = so_le _ _ (omega (arith, long)) in
    let all : nat_le (10 + link_length (child_text x ++ rest)) (length (child_text x ++ rest)) ≡ true = so_le _ _ (omega (arith, long, k)) in
    let key : take (link_length (child_text x ++ rest)) (drop 10 (child_text x ++ rest)) ≡ x.key =
    ap (λ m. take m (drop 10 (child_text x ++ rest))) k ∙ ap (λ l. take (length x.key) l) (behind_link x rest) ∙ take_at x.key rest (length x.key) refl in
    ap (λ b. if b && nat_le (10 + link_length (child_text x ++ rest)) (length (child_text x ++ rest)) then Some (link_in (child_text x ++ rest)) else None) ten
    ∙ ap (λ b. if b then Some (link_in (child_text x ++ rest)) else None) all
    ∙ ap (λ (y : List ℕ). Some (record { page = link_number (child_text x ++ rest); key = y })) key
    ∙ ap (λ (m : ℕ). Some (record { page = m; key = x.key })) n

pub children_exact : IsExact child_at child_size child_text FitsChild
children_exact = record { long = length-child; found = child_found; again = child_again }

-- ---- pages

length-front : (kind count : ℕ) → length (front_text kind count) ≡ 5
unfolding front_text
length-front kind count = refl

-- five bytes are the front that they give
whole_front : (text : List ℕ) (kind count : ℕ) → AreBytes text → 5 ≤ length text → get_or text 0 0 ≡ kind → count ≡ count_in text → text ≡ front_text kind count ++ drop 5 text
unfolding front_text
whole_front [] kind count fit long k n = absurd (omega arith)
whole_front (a ∷ []) kind count fit long k n = absurd (omega arith)
whole_front (a ∷ b ∷ []) kind count fit long k n = absurd (omega arith)
whole_front (a ∷ b ∷ c ∷ []) kind count fit long k n = absurd (omega arith)
whole_front (a ∷ b ∷ c ∷ d ∷ []) kind count fit long k n = absurd (omega arith)
whole_front (a ∷ b ∷ c ∷ d ∷ e ∷ rest) kind count fit long k n =
    let four : to_be_bytes w32 count ≡ b ∷ c ∷ d ∷ e ∷ [] = be_bytes_4 (b ∷ c ∷ d ∷ e ∷ []) count refl (fit_four b c d e (fit 1) (fit 2) (fit 3) (fit 4)) n in
    ap (λ (x : ℕ). x ∷ b ∷ c ∷ d ∷ e ∷ rest) k ∙ ap (λ (l : List ℕ). kind ∷ (l ++ rest)) (sym four)

count_small : (text : List ℕ) → AreBytes text → count_in text < 2 ^ 32
count_small text fit = omega (arith, fit 1, fit 2, fit 3, fit 4)

count_told : (kind count : ℕ) (rest : List ℕ) → count < 2 ^ 32 → count_in (front_text kind count ++ rest) ≡ count
unfolding front_text
count_told kind count rest small = from_be_bytes-to_be_bytes_4 count small

kind_told : (kind count : ℕ) (rest : List ℕ) → get_or (front_text kind count ++ rest) 0 0 ≡ kind
unfolding front_text
kind_told kind count rest = refl

nil_zero : (n : ℕ) → (suc n == 0) ≡ true → ⊥
nil_zero n e = grind (arith, nat_tests)

nil_so : (l : List ℕ) → (length l == 0) ≡ true → l ≡ []
nil_so [] h = refl
nil_so (b ∷ l) h = absurd (nil_zero (length l) h)

begins_so : (cs : List Child) → is_first_key_empty cs ≡ true → IsFirstKeyEmpty cs
begins_so [] h = tt
begins_so (c ∷ cs) h = nil_so c.key h

so_begins : (cs : List Child) → IsFirstKeyEmpty cs → is_first_key_empty cs ≡ true
so_begins [] h = refl
so_begins (c ∷ cs) h = ap (λ (l : List ℕ). length l == 0) h

abbrev pub Reads : List ℕ → Page → Type 0
Reads text page = FitsPage page × (text ≡ page_text page)

cond_some_by : {A : Type 0} (b : Bool) (o : Option A) (x : A) → (if b then o else None) ≡ Some x → (b ≡ true) × (o ≡ Some x)
cond_some_by true o x h = (refl, h)
cond_some_by false o x h = absurd (cc)

leaf_found : (text : List ℕ) (o : Option (List Pair)) (page : Page) → AreBytes text → 5 ≤ length text → get_or text 0 0 ≡ 1 → items_in record_at record_size (count_in text) (drop 5 text) ≡ o → leaf_of o ≡ Some page → Reads text page
unfolding leaf_text
leaf_found text None page bytes long kind is h = absurd (cc)
leaf_found text (Some ps) page bytes long kind is h =
    let s = all_found record_at record_size record_text FitsRecord records_exact (count_in text) (drop 5 text) ps (bytes_behind 5 text bytes) is in
    let page_is : Leaf ps ≡ page = cc in
    subst (λ (p : Page). Reads text p) page_is
    ((omega (arith, s.0, count_small text bytes), All-from_recursion FitsRecord ps s.1), whole_front text 1 (length ps) bytes long kind s.0 ∙ ap (λ l. front_text 1 (length ps) ++ l) s.2)

inner_found : (text : List ℕ) (o : Option (List Child)) (page : Page) → AreBytes text → 5 ≤ length text → get_or text 0 0 ≡ 2 → items_in child_at child_size (count_in text) (drop 5 text) ≡ o → inner_of o ≡ Some page → Reads text page
unfolding inner_text
inner_found text None page bytes long kind is h = absurd (cc)
inner_found text (Some cs) page bytes long kind is h =
    let s = all_found child_at child_size child_text FitsChild children_exact (count_in text) (drop 5 text) cs (bytes_behind 5 text bytes) is in
    let parts = cond_some _ _ _ h in
    subst (λ (p : Page). Reads text p) parts.1
    ((omega (arith, s.0, count_small text bytes), All-from_recursion FitsChild cs s.1, begins_so cs parts.0), whole_front text 2 (length cs) bytes long kind s.0 ∙ ap (λ l. front_text 2 (length cs) ++ l) s.2)

eq_so : (m n : ℕ) → (m == n) ≡ true → m ≡ n
eq_so m n h = grind (arith, nat_tests)

by_kind : (text : List ℕ) (page : Page) (one two : Bool) → AreBytes text → 5 ≤ length text → (get_or text 0 0 == 1) ≡ one → (get_or text 0 0 == 2) ≡ two
    → (if one then leaf_of (items_in record_at record_size (count_in text) (drop 5 text)) else (if two then inner_of (items_in child_at child_size (count_in text) (drop 5 text)) else None)) ≡ Some page → Reads text page
by_kind text page true two bytes long is_one is_two h = leaf_found text _ page bytes long (eq_so _ _ is_one) refl h
by_kind text page false true bytes long is_one is_two h = inner_found text _ page bytes long (eq_so _ _ is_two) refl h
by_kind text page false false bytes long is_one is_two h = absurd (cc)

-- what is read is spelled
pub page_found : (text : List ℕ) (page : Page) → AreBytes text → page_in text ≡ Some page → FitsPage page × (text ≡ page_text page)
unfolding page_in
page_found text page bytes h =
    let parts = cond_some_by _ _ _ h in
    by_kind text page (get_or text 0 0 == 1) (get_or text 0 0 == 2) bytes (le_so _ _ parts.0) refl refl parts.1

leaf_again : (ps : List Pair) → FitsPage (Leaf ps) → page_in (leaf_text ps) ≡ Some (Leaf ps)
unfolding page_in leaf_text
leaf_again ps fits =
    let text : List ℕ = front_text 1 (length ps) ++ flat_map record_text ps in
    let long : nat_le 5 (length text) ≡ true = so_le _ _ (omega (arith, length-append (front_text 1 (length ps)) (flat_map record_text ps), length-front 1 (length ps))) in
    let kind : get_or text 0 0 ≡ 1 = kind_told 1 (length ps) (flat_map record_text ps) in
    let count : count_in text ≡ length ps = count_told 1 (length ps) (flat_map record_text ps) fits.0 in
    let rest : drop 5 text ≡ flat_map record_text ps = drop_at (front_text 1 (length ps)) (flat_map record_text ps) 5 (length-front 1 (length ps)) in
    ap (λ b. if b then (if get_or text 0 0 == 1 then leaf_of (items_in record_at record_size (count_in text) (drop 5 text)) else (if get_or text 0 0 == 2 then inner_of (items_in child_at child_size (count_in text) (drop 5 text)) else None)) else None) long
    ∙ ap (λ k. if k == 1 then leaf_of (items_in record_at record_size (count_in text) (drop 5 text)) else (if k == 2 then inner_of (items_in child_at child_size (count_in text) (drop 5 text)) else None)) kind
    ∙ ap (λ n. leaf_of (items_in record_at record_size n (drop 5 text))) count
    ∙ ap (λ l. leaf_of (items_in record_at record_size (length ps) l)) rest
    ∙ ap leaf_of (all_again record_at record_size record_text FitsRecord records_exact ps (recursion_from_All FitsRecord ps fits.1))

inner_again : (cs : List Child) → FitsPage (Inner cs) → page_in (inner_text cs) ≡ Some (Inner cs)
unfolding page_in inner_text
inner_again cs fits =
    let text : List ℕ = front_text 2 (length cs) ++ flat_map child_text cs in
    let long : nat_le 5 (length text) ≡ true = so_le _ _ (omega (arith, length-append (front_text 2 (length cs)) (flat_map child_text cs), length-front 2 (length cs))) in
    let kind : get_or text 0 0 ≡ 2 = kind_told 2 (length cs) (flat_map child_text cs) in
    let count : count_in text ≡ length cs = count_told 2 (length cs) (flat_map child_text cs) fits.0 in
    let rest : drop 5 text ≡ flat_map child_text cs = drop_at (front_text 2 (length cs)) (flat_map child_text cs) 5 (length-front 2 (length cs)) in
    ap (λ b. if b then (if get_or text 0 0 == 1 then leaf_of (items_in record_at record_size (count_in text) (drop 5 text)) else (if get_or text 0 0 == 2 then inner_of (items_in child_at child_size (count_in text) (drop 5 text)) else None)) else None) long
    ∙ ap (λ k. if k == 1 then leaf_of (items_in record_at record_size (count_in text) (drop 5 text)) else (if k == 2 then inner_of (items_in child_at child_size (count_in text) (drop 5 text)) else None)) kind
    ∙ ap (λ n. inner_of (items_in child_at child_size n (drop 5 text))) count
    ∙ ap (λ l. inner_of (items_in child_at child_size (length cs) l)) rest
    ∙ ap inner_of (all_again child_at child_size child_text FitsChild children_exact cs (recursion_from_All FitsChild cs fits.1))
    ∙ ap (λ b. if b then Some (Inner cs) else None) (so_begins cs fits.2)

-- what is spelled is read
pub page_again : (page : Page) → FitsPage page → page_in (page_text page) ≡ Some page
page_again (Leaf ps) fits = leaf_again ps fits
page_again (Inner cs) fits = inner_again cs fits
