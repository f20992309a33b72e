-- What a search for a value comes to in a file of groups.
use Rattle.std.proofs.Common.{◌≡◌, ◌≢◌, ℕ, ◌+◌, ◌-◌, ◌<◌, ◌≤◌, ◌^◌, List, [], ◌++◌, length, take, drop, refl, sym, ◌∙◌, ap, subst, arith}
use Rattle.std.specs.Prelude.{Bool, true, false, min, max, slice_index, Option, Some, None, IfSome, if◌then◌else◌}
use Rattle.std.specs.Option.{is_some}
use Rattle.std.proofs.lemmas.Bool.{eq-eqb, ne_eqb}
use Rattle.std.proofs.lemmas.List.{length-take}
use Rattle.tk_model.specs.Records.{find, replay}
use Rattle.tk_model.specs.declared.record.Order.TheVariants.{Hash}
use Rattle.tk_model.specs.declared.record.Group.{Group}
use Rattle.tk_store.specs.Store.{Gives, GivesInto}
use Rattle.tk_block.specs.declared.head.StaticHead.{StaticHead}
use Rattle.tk_block.specs.Blocks.{extent_of, room_of}
use Rattle.tk_block.specs.Layout.{Placed, bucket_in, newest}
use Rattle.tk_buckets.specs.Chain.{IsLinked, places_in}
use Rattle.tk_buckets.specs.Lookup.{IsBlockOf, Finds, place_of, read_of_block, read_of_chain}
use Rattle.tk_buckets.specs.declared.lookup.FoundBlock.{FoundBlock}
use Rattle.tk_append.specs.FileText.{IsFile}
use Rattle.tk_append.specs.Log.{blocks_of}
use Rattle.tk_hash.specs.Chain.{chain_of, cost_in, extents, value_in}
use Rattle.tk_hash.specs.Seek.{KnowsFile, HasValue, Sought}
use Rattle.tk_hash.specs.declared.seek.HeldFile.{HeldFile}
use Rattle.tk_hash.proofs.Chains.{found_in_chain}
use Rattle.tk_hash.proofs.HashKeeps.{heads_in}
use Rattle.tk_hash.proofs.Standing.{chain_linked, chain_stands}
use Rattle.tk_hash.proofs.Sought.{Decides, value_none, value_first, cost_all, read_own}

-- the file is as long as is known
pub file_long : (o : Option (List ℕ)) (m : HeldFile) → KnowsFile o m → IfSome o (λ f. length f ≤ m.end)
file_long None m know = tt
file_long (Some f) m know = omega (arith, know.end_is)

-- the head that is held is the chain's
pub linked_told : (o : Option (List ℕ)) (m : HeldFile) (bucket first : ℕ) (groups : List Group) → KnowsFile o m → first ≡ slice_index m.heads.now bucket → bucket < 2 ^ m.head.p
    → IfSome o (λ f. IsFile m.head f groups → IsLinked m.head f first (places_in (chain_of m.head bucket groups)))
linked_told None m bucket first groups know is below = tt
linked_told (Some f) m bucket first groups know is below = λ file.
    let head : first ≡ newest m.head.p bucket 0 (blocks_of m.head groups) = is ∙ (heads_in (Some f) m.head m.heads.now groups know.heads_are file).newest_each bucket below in
    subst (λ (k : ℕ). IsLinked m.head f k (places_in (chain_of m.head bucket groups))) (sym head) (chain_linked m.head f groups bucket below file)

-- so what is told of the chain is told of the file
pub in_file : (h : StaticHead) (groups : List Group) (o : Option (List ℕ)) (P Q : List ℕ → Type 0) → IfSome o (λ f. IsFile h f groups → P f) → IfSome o (λ f. P f → Q f) → IfSome o (λ f. IsFile h f groups → Q f)
in_file h groups None P Q holds known = tt
in_file h groups (Some f) P Q holds known = λ file. known (holds file)

-- what is known of a value that was found
pub of_some : (r : Option FoundBlock) (v : FoundBlock) (P : Type 0) → r ≡ Some v → IfSome r (λ _. P) → P
of_some r v P some known = subst (λ (s : Option FoundBlock). IfSome s (λ _. P)) some known

left_sum : (now before cost read extent r left : ℕ) → now ≤ before + read → read + extent ≤ cost + r → left + r ≤ extent → now + left ≤ before + cost
left_sum now before cost read extent r left most all rest = omega (arith, most, all, rest)

module _ (h : StaticHead) (key : List ℕ) (groups : List Group) where
  abbrev pub chain : List Placed
  chain = chain_of h (bucket_in h.p key) groups

  abbrev pub value : Option (List ℕ)
  value = find key (replay Hash groups [])

  -- a bucket of a key is one of the buckets
  pub cost_told : (o : Option (List ℕ)) (room was now : ℕ) → bucket_in h.p key < 2 ^ h.p → IfSome o (λ f. IsFile h f groups → now ≤ was + read_of_chain f key room (places_in chain)) → IfSome o (λ f. IsFile h f groups → now ≤ was + cost_in h groups key)
  cost_told None room was now below most = tt
  cost_told (Some f) room was now below most = λ file. omega (arith, most file, cost_all h f key room chain (chain_stands h f groups (bucket_in h.p key) below file))

  module _ (buffer : List ℕ) (was now : ℕ) where
    -- what was found and read along the chain
    abbrev pub FoundIn : (room : ℕ) → Option FoundBlock → List ℕ → Type 0
    FoundIn room at f = IsFile h f groups → Finds f key (places_in chain) buffer at

    abbrev pub ReadIn : (room : ℕ) → List ℕ → Type 0
    ReadIn room f = IsFile h f groups → now ≤ was + read_of_chain f key room (places_in chain)

    pub none_told : (o : Option (List ℕ)) (room : ℕ) (at : Option FoundBlock) → bucket_in h.p key < 2 ^ h.p → at ≡ None → IfSome o (FoundIn room at) → IfSome o (λ f. IsFile h f groups → value ≡ None)
    none_told None room at below none found = tt
    none_told (Some f) room at below none found = λ file.
        let nowhere : place_of f key (places_in chain) ≡ None = subst (λ (a : Option FoundBlock). Finds f key (places_in chain) buffer a) none (found file) in
        found_in_chain h groups key ∙ value_none h f key room chain (chain_stands h f groups (bucket_in h.p key) below file) nowhere

    module _ (f : List ℕ) (room : ℕ) (at : Option FoundBlock) (x : FoundBlock) (below : bucket_in h.p key < 2 ^ h.p) (some : at ≡ Some x) (found : FoundIn room at f) (file : IsFile h f groups) where
      finds : Finds f key (places_in chain) buffer (Some x)
      finds = subst (λ (a : Option FoundBlock). Finds f key (places_in chain) buffer a) some (found file)

      pub block_is : IsBlockOf f key buffer x
      block_is = finds.1

      pub decides : Decides h f key room chain block_is.body
      decides = value_first h f key room chain x.place block_is.body (chain_stands h f groups (bucket_in h.p key) below file) block_is.says finds.0

    pub other_told : (o : Option (List ℕ)) (room : ℕ) (at : Option FoundBlock) (x : FoundBlock) → bucket_in h.p key < 2 ^ h.p → at ≡ Some x → x.kind ≢ 1 → IfSome o (FoundIn room at) → IfSome o (λ f. IsFile h f groups → value ≡ None)
    other_told None room at x below some ne found = tt
    other_told (Some f) room at x below some ne found = λ file.
        let b = block_is f room at x below some found file in
        let d = decides f room at x below some found file in
        found_in_chain h groups key ∙ d.value ∙ ap (λ (t : Bool). if t then Some b.body.value else None) (ne_eqb b.body.kind 1 (λ e. ne (b.kind ∙ e)))

    pub value_told : (o : Option (List ℕ)) (room : ℕ) (at : Option FoundBlock) (x : FoundBlock) → bucket_in h.p key < 2 ^ h.p → at ≡ Some x → x.kind ≡ 1 → length buffer ≡ room → 48 ≤ room → 40 + length key ≤ room → IfSome o (FoundIn room at) → IfSome o (ReadIn room)
        → IfSome o (λ f. IsFile h f groups → HasValue key value f buffer was now (cost_in h groups key) x)
    value_told None room at x below some kind long front fits found read = tt
    value_told (Some f) room at x below some kind long front fits found read = λ file.
        let b = block_is f room at x below some found file in
        let d = decides f room at x below some found file in
        let rest : x.value_len - (length buffer - (40 + length key)) + read_of_block key room (Some b.body) ≤ extent_of b.body =
        omega (arith, read_own key room b.body b.key_is, b.value_len, ap length b.key_is, long, front, fits) in
        record {
          block = b;
          value_is = found_in_chain h groups key ∙ d.value ∙ ap (λ (t : Bool). if t then Some b.body.value else None) (eq-eqb b.body.kind 1 (sym b.kind ∙ kind));
          left = left_sum now was (extents chain) (read_of_chain f key room (places_in chain)) (extent_of b.body) (read_of_block key room (Some b.body)) (x.value_len - (length buffer - (40 + length key))) (read file) d.left rest;
        }

    -- ---- what a look-up answers

    module _ (before cost : ℕ) (r : Option FoundBlock) where
      abbrev pub SoughtIn : List ℕ → Type 0
      SoughtIn f = IsFile h f groups → Sought key value f buffer before now cost r

      no_value : (f : List ℕ) → r ≡ None → Sought key value f buffer before now cost r → value ≡ None
      no_value f none sought = subst (λ (s : Option FoundBlock). Sought key value f buffer before now cost s) none sought

      has_value : (f : List ℕ) (v : FoundBlock) → r ≡ Some v → Sought key value f buffer before now cost r → HasValue key value f buffer before now cost v
      has_value f v some sought = subst (λ (s : Option FoundBlock). Sought key value f buffer before now cost s) some sought

      pub has_told : (o : Option (List ℕ)) (found : Bool) → found ≡ is_some r → IfSome o SoughtIn → IfSome o (λ f. IsFile h f groups → found ≡ is_some value)
      has_told None found is sought = tt
      has_told (Some f) found is sought = λ file. is ∙ same_kind f r refl (sought file)
        where
          same_kind : (f : List ℕ) (s : Option FoundBlock) → s ≡ r → Sought key value f buffer before now cost r → is_some r ≡ is_some value
          same_kind f None none s = ap is_some (sym none) ∙ sym (ap is_some (no_value f (sym none) s))
          same_kind f (Some v) some s = ap is_some (sym some) ∙ sym (ap is_some (has_value f v (sym some) s).value_is)

      pub gives_none : (o : Option (List ℕ)) (out : List ℕ) → r ≡ None → IfSome o SoughtIn → IfSome o (λ f. IsFile h f groups → Gives value out out false)
      gives_none None out none sought = tt
      gives_none (Some f) out none sought = λ file. subst (λ (v : Option (List ℕ)). Gives v out out false) (sym (no_value f none (sought file))) (refl, refl)

      pub into_none : (o : Option (List ℕ)) (into : List ℕ) → r ≡ None → IfSome o SoughtIn → IfSome o (λ f. IsFile h f groups → GivesInto value into into None)
      into_none None into none sought = tt
      into_none (Some f) into none sought = λ file. subst (λ (v : Option (List ℕ)). GivesInto v into into None) (sym (no_value f none (sought file))) (refl, refl)

      -- what is given where the value stands
      abbrev pub GivenIn : (short : Type 0) (P : List ℕ → Type 0) → FoundBlock → Option (List ℕ) → Type 0
      GivenIn short P v o = IfSome o (λ f. length f < 2 ^ 64 → short → (x : IsBlockOf f key buffer v) → P x.body.value)

      pub gives_told : (o mid : Option (List ℕ)) (v : FoundBlock) (old new : List ℕ) → mid ≡ o → r ≡ Some v → IfSome o SoughtIn → IfSome mid (λ f. length f < 2 ^ 64 → (x : IsBlockOf f key buffer v) → new ≡ x.body.value)
          → IfSome o (λ f. IsFile h f groups → Gives value old new true)
      gives_told None mid v old new is some sought gives = tt
      gives_told (Some f) mid v old new is some sought gives = λ file.
          let s = has_value f v some (sought file) in
          let here : new ≡ s.block.body.value = subst (λ (o : Option (List ℕ)). IfSome o (λ f. length f < 2 ^ 64 → (x : IsBlockOf f key buffer v) → new ≡ x.body.value)) is gives file.size s.block in
          subst (λ (w : Option (List ℕ)). Gives w old new true) (sym s.value_is) (refl, here)

      pub into_told : (o mid : Option (List ℕ)) (v : FoundBlock) (count : ℕ) (into filled : List ℕ) → mid ≡ o → r ≡ Some v → count ≡ min (length into) v.value_len → IfSome o SoughtIn
          → GivenIn (length (take count into) ≤ v.value_len) (λ value. filled ≡ take (length (take count into)) value) v mid
          → IfSome o (λ f. IsFile h f groups → GivesInto value into (filled ++ drop count into) (Some v.value_len))
      into_told None mid v count into filled is some counted sought gives = tt
      into_told (Some f) mid v count into filled is some counted sought gives = λ file.
          let s = has_value f v some (sought file) in
          let all : length (take count into) ≡ count = omega (arith, length-take count into, counted) in
          let same : count ≡ min (length into) (length s.block.body.value) = counted ∙ ap (min (length into)) s.block.value_len in
          let given : filled ≡ take (length (take count into)) s.block.body.value =
          subst (GivenIn (length (take count into) ≤ v.value_len) (λ value. filled ≡ take (length (take count into)) value) v) is gives file.size (omega (arith, all, counted)) s.block in
          let bytes : filled ≡ take count s.block.body.value = given ∙ ap (λ (n : ℕ). take n s.block.body.value) all in
          subst (λ (w : Option (List ℕ)). GivesInto w into (filled ++ drop count into) (Some v.value_len)) (sym s.value_is)
          (ap (λ (n : ℕ). Some n) s.block.value_len, ap (λ (l : List ℕ). l ++ drop count into) bytes ∙ ap (λ (n : ℕ). take n s.block.body.value ++ drop n into) same)

      -- what was read behind the front and the front are within the block
      pub cost_given : (o : Option (List ℕ)) (v : FoundBlock) (n last : ℕ) → r ≡ Some v → n ≤ v.value_len → last ≤ now + (n - (length buffer - (40 + length key))) → IfSome o SoughtIn → IfSome o (λ f. IsFile h f groups → last ≤ before + cost)
      cost_given None v n last some less most sought = tt
      cost_given (Some f) v n last some less most sought = λ file.
          let s = has_value f v some (sought file) in
          omega (arith, s.left, less, most)
