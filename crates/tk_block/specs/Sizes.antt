-- How many bytes the parts of a file and of a block have, and where they begin.
use Rattle.std.specs.Prelude.{ℕ}

-- the static header
abbrev pub static_size : ℕ
static_size = 32

-- where its closing part begins, and its bytes
abbrev pub closing_place : ℕ
closing_place = 32

abbrev pub closing_size : ℕ
closing_size = 32

-- where the kind and the next number stand in a header
abbrev pub kind_place : ℕ
kind_place = 8

abbrev pub next_place : ℕ
next_place = 48

-- where the heads of buckets begin
abbrev pub heads_place : ℕ
heads_place = 64

-- a bucket's head, or the link of a block
abbrev pub cell_size : ℕ
cell_size = 8

-- the head of a block, and the extent in it
abbrev pub head_size : ℕ
head_size = 16

abbrev pub extent_offset : ℕ
extent_offset = 4

-- where link and body begin in a block
abbrev pub link_offset : ℕ
link_offset = 16

abbrev pub body_offset : ℕ
body_offset = 24

-- and the parts of the body: the length of its key, that of its value, its number, its key
abbrev pub key_len_offset : ℕ
key_len_offset = 26

abbrev pub value_len_offset : ℕ
value_len_offset = 28

abbrev pub number_offset : ℕ
number_offset = 32

abbrev pub key_offset : ℕ
key_offset = 40

-- kind, flag, lengths and number
abbrev pub numbers_size : ℕ
numbers_size = 16

-- the check of a body
abbrev pub check_size : ℕ
check_size = 4

-- the bytes of a block beside key, value and padding
abbrev pub block_overhead : ℕ
block_overhead = 44

-- each extent is a multiple of this
abbrev pub extent_unit : ℕ
extent_unit = 8

abbrev pub least_extent : ℕ
least_extent = 48
