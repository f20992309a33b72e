-- The pages of a tree lie in the file that has just these.
use Rattle.std.proofs.Common.{◌≡◌, ℕ, zero, suc, ◌+◌, ◌≤◌, ◌<◌, ◌^◌, ◌⊎◌, inl, inr, ⊎_elim, Bool, true, false, List, [], ◌∷◌, ◌++◌, length, Option, Some, None, refl, sym, ap, subst, ◌∙◌, arith}
use Rattle.std.specs.Prelude.{◌==◌, is_some}
use Rattle.std.specs.Int.{w64, from_be_bytes}
use Rattle.std.proofs.lemmas.List.{append-nil}
use Rattle.std.proofs.lemmas.Bool.Decides.{nat_tests}
use Rattle.std.proofs.lemmas.Nat.{from_be_bytes-to_be_bytes_8}
use Rattle.tk_model.specs.Orders.{same_bytes}
use Rattle.tk_model.specs.Records.{find}
use Rattle.tk_model.specs.declared.record.Pair.{Pair}
use Rattle.tk_model.proofs.KeyOrders.{same_told, same_itself}
use Rattle.tk_model.proofs.RecordLaws.{found_head}
use Rattle.tk_page.specs.declared.page.Page.{Page as Spelled}
use Rattle.tk_page.specs.Page.{page_text}
use Rattle.tk_tree.specs.Tree.{KeyedChild, Tree, over, numbers_of, number_of, records_of}
use Rattle.tk_model.specs.declared.record.Order.{Order}
use Rattle.tk_tree.specs.Pages.{number_key, page_of, stored, pages_of, copies, EachChild, FitsTree, LiesIn, TreeState, meta_of, IsStored, Formed}
use Rattle.tk_tree.specs.Reading.{state_in}
use Rattle.tk_tree.proofs.ReadsBack.{state_read}
use Rattle.tk_tree.proofs.PutPages.{first_of, find_append}

-- page numbers that fit are told apart by their keys
pub keys_apart : (m n : ℕ) → m < 2 ^ 64 → n < 2 ^ 64 → same_bytes (number_key m) (number_key n) ≡ true → m ≡ n
unfolding number_key
keys_apart m n fm fn same =
    sym (from_be_bytes-to_be_bytes_8 m fm) ∙ ap (λ l. from_be_bytes w64 l) (same_told (number_key m) (number_key n) same) ∙ from_be_bytes-to_be_bytes_8 n fn

pub copies_append : (m : ℕ) (ns ms : List ℕ) → copies m (ns ++ ms) ≡ copies m ns + copies m ms
copies_append m [] ms = omega arith
copies_append m (n ∷ ns) ms = omega (arith, copies_append m ns ms)

eq_self : (m : ℕ) → (m == m) ≡ true
eq_self m = grind (arith, nat_tests)

one_there : (m : ℕ) (ns : List ℕ) → 1 ≤ copies m (m ∷ ns)
one_there m ns = rw eq_self (omega arith)

some_first : (x y : Option (List ℕ)) → is_some (first_of x y) ≡ true → (is_some x ≡ true) ⊎ (is_some y ≡ true)
some_first None y h = inr h
some_first (Some v) y h = inl refl

-- a page that is found has a number of the tree
abbrev Numbered : List ℕ → List ℕ → Type 0
Numbered key ns = (m : ℕ) × (1 ≤ copies m ns) × (m < 2 ^ 64) × (same_bytes key (number_key m) ≡ true)

more_numbered : (key : List ℕ) (ns ms : List ℕ) → Numbered key ns ⊎ Numbered key ms → Numbered key (ns ++ ms)
more_numbered key ns ms (inl h) = (h.0, omega (arith, h.1, copies_append h.0 ns ms), h.2, h.3)
more_numbered key ns ms (inr h) = (h.0, omega (arith, h.1, copies_append h.0 ns ms), h.2, h.3)

cons_numbered : (key : List ℕ) (n : ℕ) (ns : List ℕ) → Numbered key ns → Numbered key (n ∷ ns)
cons_numbered key n ns h = (h.0, omega (arith, h.1), h.2, h.3)

head_or : (key : List ℕ) (n : ℕ) (page : Spelled) (ps : List Pair) (b : Bool) → same_bytes key (number_key n) ≡ b → is_some (find key (stored n page ∷ ps)) ≡ true → (same_bytes key (number_key n) ≡ true) ⊎ (is_some (find key ps) ≡ true)
head_or key n page ps true is h = inl is
head_or key n page ps false is h = inr (rw is at h)

children_numbered : (key : List ℕ) (n : ℕ) → ((u : Tree n) → FitsTree n u → is_some (find key (pages_of n u)) ≡ true → Numbered key (numbers_of n u))
    → (t : Tree n) (ks : List (KeyedChild (Tree n))) → EachChild (FitsTree n) t ks → is_some (find key (over (pages_of n) t ks)) ≡ true → Numbered key (over (numbers_of n) t ks)
children_numbered key n each t [] fits h =
    let here : is_some (find key (pages_of n t)) ≡ true = ap (λ l. is_some (find key l)) (sym (append-nil (pages_of n t))) ∙ h in
    more_numbered key (numbers_of n t) [] (inl (each t fits here))
children_numbered key n each t (k ∷ ks) fits h =
    let split : is_some (first_of (find key (pages_of n t)) (find key (over (pages_of n) k.tree ks))) ≡ true = ap is_some (sym (find_append key (pages_of n t) (over (pages_of n) k.tree ks))) ∙ h in
    more_numbered key (numbers_of n t) (over (numbers_of n) k.tree ks)
    (⊎_elim (λ a. inl (each t fits.0 a)) (λ b. inr (children_numbered key n each k.tree ks fits.1 b)) (some_first (find key (pages_of n t)) (find key (over (pages_of n) k.tree ks)) split))

found_numbered : (key : List ℕ) (n : ℕ) (t : Tree n) → FitsTree n t → is_some (find key (pages_of n t)) ≡ true → Numbered key (numbers_of n t)
found_numbered key zero t fits h =
    ⊎_elim (λ same. (t.number, one_there t.number [], fits.0, same)) (λ none. absurd (cc)) (head_or key t.number (page_of 0 t) [] (same_bytes key (number_key t.number)) refl h)
found_numbered key (suc n) t fits h =
    ⊎_elim (λ same. (t.number, one_there t.number (over (numbers_of n) t.first t.rest), fits.0, same))
    (λ deeper. cons_numbered key t.number (over (numbers_of n) t.first t.rest) (children_numbered key n (λ u f g. found_numbered key n u f g) t.first t.rest fits.2 deeper))
    (head_or key t.number (page_of (suc n) t) (over (pages_of n) t.first t.rest) (same_bytes key (number_key t.number)) refl h)

-- each page that these have, the file has
abbrev pub Has : (file pages : List Pair) → Type 0
Has file pages = (key value : List ℕ) → find key pages ≡ Some value → find key file ≡ Some value

abbrev pub Once : List ℕ → Type 0
Once ns = (m : ℕ) → copies m ns ≤ 1

is_there : (o : Option (List ℕ)) (v : List ℕ) → o ≡ Some v → is_some o ≡ true
is_there None v e = absurd (cc)
is_there (Some w) v e = refl

none_so : (o : Option (List ℕ)) → (is_some o ≡ true → ⊥) → o ≡ None
none_so None f = refl
none_so (Some v) f = absurd (f refl)

first_part : (file ps qs : List Pair) → Has file (ps ++ qs) → Has file ps
first_part file ps qs has key value is = has key value (find_append key ps qs ∙ ap (λ o. first_of o (find key qs)) is)

second_part : (file ps qs : List Pair) → ((key : List ℕ) → is_some (find key ps) ≡ true → is_some (find key qs) ≡ true → ⊥) → Has file (ps ++ qs) → Has file qs
second_part file ps qs apart has key value is =
    has key value (find_append key ps qs ∙ ap (λ o. first_of o (find key qs)) (none_so (find key ps) (λ there. apart key there (is_there (find key qs) value is))) ∙ is)

-- pages of numbers that stand once are not found twice
apart_by : (key : List ℕ) (ns ms : List ℕ) → Once (ns ++ ms) → Numbered key ns → Numbered key ms → ⊥
apart_by key ns ms once a b =
    let same : a.0 ≡ b.0 = keys_apart a.0 b.0 a.2 b.2 (subst (λ k. same_bytes k (number_key b.0) ≡ true) (same_told key (number_key a.0) a.3) b.3) in
    absurd (omega (arith, once b.0, copies_append b.0 ns ms, b.1, subst (λ m. 1 ≤ copies m ns) same a.1))

once_second : (ns ms : List ℕ) → Once (ns ++ ms) → Once ms
once_second ns ms once m = omega (arith, once m, copies_append m ns ms)

once_first : (ns ms : List ℕ) → Once (ns ++ ms) → Once ns
once_first ns ms once m = omega (arith, once m, copies_append m ns ms)

module _ (file : List Pair) (n : ℕ) (lie : (u : Tree n) → FitsTree n u → Once (numbers_of n u) → Has file (pages_of n u) → LiesIn file n u) where
  children_lie : (t : Tree n) (ks : List (KeyedChild (Tree n))) → EachChild (FitsTree n) t ks → Once (over (numbers_of n) t ks) → Has file (over (pages_of n) t ks) → EachChild (LiesIn file n) t ks
  children_lie t [] fits once has = lie t fits (once_first (numbers_of n t) [] once) (first_part file (pages_of n t) [] has)
  children_lie t (k ∷ ks) fits once has = (
    lie t fits.0 (once_first (numbers_of n t) (over (numbers_of n) k.tree ks) once) (first_part file (pages_of n t) (over (pages_of n) k.tree ks) has),
    children_lie k.tree ks fits.1 (once_second (numbers_of n t) (over (numbers_of n) k.tree ks) once)
        (second_part file (pages_of n t) (over (pages_of n) k.tree ks)
        (λ key a b. apart_by key (numbers_of n t) (over (numbers_of n) k.tree ks) once (found_numbered key n t fits.0 a) (children_numbered key n (λ u f g. found_numbered key n u f g) k.tree ks fits.1 b)) has),
  )

-- the pages of a tree lie in a file that has them
pub tree_lies : (file : List Pair) (n : ℕ) (t : Tree n) → FitsTree n t → Once (numbers_of n t) → Has file (pages_of n t) → LiesIn file n t
tree_lies file zero t fits once has = has (number_key t.number) (page_text (page_of 0 t)) (found_head (number_key t.number) (stored t.number (page_of 0 t)) [] (same_itself (number_key t.number)))
tree_lies file (suc n) t fits once has =
    let own = stored t.number (page_of (suc n) t) ∷ [] in (
      has (number_key t.number) (page_text (page_of (suc n) t)) (found_head (number_key t.number) (stored t.number (page_of (suc n) t)) (over (pages_of n) t.first t.rest) (same_itself (number_key t.number))),
      children_lie file n (λ u f o h. tree_lies file n u f o h) t.first t.rest fits.2 (once_second (t.number ∷ []) (over (numbers_of n) t.first t.rest) once)
          (second_part file own (over (pages_of n) t.first t.rest)
          (λ key a b. apart_by key (t.number ∷ []) (over (numbers_of n) t.first t.rest) once
          (⊎_elim (λ same. (t.number, one_there t.number [], fits.0, same)) (λ none. absurd (cc)) (head_or key t.number (page_of (suc n) t) [] (same_bytes key (number_key t.number)) refl a))
          (children_numbered key n (λ u f g. found_numbered key n u f g) t.first t.rest fits.2 b)) has),
    )

own_number : (n : ℕ) (t : Tree n) → 1 ≤ copies (number_of n t) (numbers_of n t)
own_number zero t = one_there t.number []
own_number (suc n) t = one_there t.number (over (numbers_of n) t.first t.rest)

has_by : (key value : List ℕ) (meta : Pair) (pages : List Pair) (b : Bool) → same_bytes key meta.key ≡ b → (b ≡ true → ⊥) → find key pages ≡ Some value → find key (meta ∷ pages) ≡ Some value
has_by key value meta pages true is no_meta found = absurd (no_meta refl)
has_by key value meta pages false is no_meta found = rw is found

-- a file that has just the pages of a tree has each of them
stored_has : (o : Order) (file : List Pair) (s : TreeState) → IsStored file s → Formed o s → Has file (pages_of s.levels s.top)
stored_has o file s is formed key value found =
    let pages = pages_of s.levels s.top in
    let h = found_numbered key s.levels s.top formed.fits (is_there (find key pages) value found) in
    is key ∙ has_by key value (meta_of s) pages (same_bytes key (number_key 0)) refl
    (λ zero_key. let m_is : h.0 ≡ 0 = keys_apart h.0 0 h.2 (omega arith) (subst (λ k. same_bytes k (number_key 0) ≡ true) (same_told key (number_key h.0) h.3) zero_key) in absurd (omega (arith, m_is, (formed.given.numbers h.0 h.1).0))) found

pub stored_lies : (o : Order) (file : List Pair) (s : TreeState) → IsStored file s → Formed o s → LiesIn file s.levels s.top
stored_lies o file s is formed = tree_lies file s.levels s.top formed.fits formed.given.apart (stored_has o file s is formed)

-- a file that has just the pages of a valid tree is read as this tree
pub file_read : (o : Order) (file : List Pair) (s : TreeState) → IsStored file s → Formed o s → state_in file ≡ Some s
file_read o file s is formed =
    state_read file s (record { root = number_of s.levels s.top; height = s.levels + 1; next = s.next; count = length (records_of s.levels s.top) })
    (record { root = omega (arith, (formed.given.numbers (number_of s.levels s.top) (own_number s.levels s.top)).1, formed.next); next = formed.next; count = formed.count })
    (is (number_key 0) ∙ found_head (number_key 0) (meta_of s) (pages_of s.levels s.top) (same_itself (number_key 0))) refl refl refl formed.fits
    (stored_lies o file s is formed)
