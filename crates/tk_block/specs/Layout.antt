-- Where blocks stand in a file, how they are linked, and the text of a whole file.
use Rattle.std.specs.Prelude.{ℕ, zero, suc, ◌+◌, ◌^◌, List, [], ◌∷◌, ◌++◌, drop, flat_map, Bool, if◌then◌else◌, ◌==◌, ◌&&◌, ◌||◌}
use Rattle.std.specs.Int.{w64, to_be_bytes}
use Rattle.tk_model.specs.Hashes.{mix_of, bucket_of}
use Rattle.tk_model.specs.declared.record.Group.{Group}
use Rattle.tk_block.specs.Text.{static_text, closing_text, base_of}
use Rattle.tk_block.specs.Blocks.{extent_of, block_text, group_bodies}
use Rattle.tk_block.specs.declared.head.StaticHead.{StaticHead}
use Rattle.tk_block.specs.declared.closing.Closing.{Closing}
use Rattle.tk_block.specs.declared.block.Body.{Body}

-- a block: where it stands, how many bytes it has, and its body
pub record Placed : Type 0 where
  pub place : ℕ
  pub extent : ℕ
  pub body : Body

-- a block as it is appended: of the least extent that fits
abbrev pub placed : (place : ℕ) → Body → Placed
placed place b = record { place = place; extent = extent_of b; body = b }

-- appended blocks that follow one another from a place on
abbrev pub laid : (place : ℕ) → List Body → List Placed
laid place [] = []
laid place (b ∷ bs) = placed place b ∷ laid (place + extent_of b) bs

-- where they end
abbrev pub end_of : (place : ℕ) → List Body → ℕ
end_of place [] = place
end_of place (b ∷ bs) = end_of (place + extent_of b) bs

-- the bucket of a key
abbrev pub bucket_in : (p : ℕ) (key : List ℕ) → ℕ
bucket_in p key = bucket_of (mix_of key) p

-- a set or remove block of this bucket
abbrev pub is_in : (p bucket : ℕ) → Body → Bool
is_in p bucket b = ((b.kind == 1) || (b.kind == 2)) && (bucket_in p b.key == bucket)

-- the newest place of a bucket, behind one block more
abbrev pub renewed : (p bucket found : ℕ) → Placed → ℕ
renewed p bucket found x = if x.body.kind == 4 then 0 else if is_in p bucket x.body then x.place else found

-- the place of the last set or remove block of the bucket after the last clear; before any, the place that was found
abbrev pub newest : (p bucket found : ℕ) → List Placed → ℕ
newest p bucket found [] = found
newest p bucket found (x ∷ xs) = newest p bucket (renewed p bucket found x) xs

-- the link of a block behind others: the newest of its bucket, 0 for a clear
abbrev pub link_of : (p : ℕ) (before : List Placed) → Body → ℕ
link_of p before b = if b.kind == 4 then 0 else newest p (bucket_in p b.key) 0 before

-- the links of blocks behind others
abbrev pub links_of : (p : ℕ) (before : List Placed) → List Placed → List ℕ
links_of p before [] = []
links_of p before (x ∷ xs) = link_of p before x.body ∷ links_of p (before ++ x ∷ []) xs

abbrev pub first_or_none : List ℕ → ℕ
first_or_none [] = 0
first_or_none (x ∷ xs) = x

-- the text of appended blocks with these links
abbrev pub texts : List Placed → (links : List ℕ) → List ℕ
texts [] links = []
texts (x ∷ xs) links = block_text x.body x.place (first_or_none links) ++ texts xs (drop 1 links)

-- the text of a group at a place, with these links
abbrev pub group_text : (g : Group) (place : ℕ) (links : List ℕ) → List ℕ
group_text g place links = texts (laid place (group_bodies g.number g.changes)) links

-- the heads of the first n buckets
abbrev pub heads_below : (p n : ℕ) → List Placed → List ℕ
heads_below p zero blocks = []
heads_below p (suc n) blocks = heads_below p n blocks ++ to_be_bytes w64 (newest p n 0 blocks)

-- the heads of all buckets
unfoldable pub heads_text : (p : ℕ) → List Placed → List ℕ
heads_text p blocks = heads_below p (2 ^ p) blocks

-- the bodies of groups
abbrev pub bodies_of : List Group → List Body
bodies_of groups = flat_map (λ (g : Group). group_bodies g.number g.changes) groups

-- the file of a header and groups, closed with this count of records and this next number
unfoldable pub file_text : (h : StaticHead) (groups : List Group) (count next : ℕ) → List ℕ
file_text h groups count next =
    let blocks = laid (base_of h.p) (bodies_of groups) in
    let closing : Closing = record { size = end_of (base_of h.p) (bodies_of groups); count = count; next = next } in
    (static_text h ++ closing_text closing) ++ (heads_text h.p blocks ++ texts blocks (links_of h.p [] blocks))
