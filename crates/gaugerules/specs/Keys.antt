-- The keys, which the data flash holds. Document 01, "Layout and image", "Class 112: ..", and
-- "Transactions", "Words."
use Rattle.std.specs.Prelude.{ℕ, ◌/◌, ◌%◌, Bool, List, [], ◌∷◌, eqb, take, drop}
use Rattle.flashrules.specs.Choice.{differing}
use Rattle.flashrules.specs.Layout.{key_class}
use Rattle.flashrules.specs.Image.{block_bytes}
use Rattle.flashrules.specs.declared.layout.Layout.{Layout}

-- 01: "Class 112: bytes 0 to 3 unseal key, 4 to 7 full access key."
abbrev pub unseal_key : ℕ
unseal_key = 0

abbrev pub full_access_key : ℕ
full_access_key = 4

abbrev pub key_length : ℕ
key_length = 4

-- the bytes of the block that holds them
abbrev pub key_block : ℕ
key_block = 0

abbrev pub keys : Layout → List ℕ → List ℕ
keys l image = block_bytes l image key_class key_block

-- 02, C-14: "bytes 0 to 7" of it: both keys
abbrev pub keys_end : ℕ
keys_end = 8

abbrev pub key_bytes : Layout → List ℕ → List ℕ
key_bytes l image = take keys_end (keys l image)

-- 01: "the four bytes as sent, low byte first": those of two words
abbrev pub as_sent : ℕ → ℕ → List ℕ
as_sent u w = u % 256 ∷ u / 256 ∷ w % 256 ∷ w / 256 ∷ []

-- 01: ".. against the four bytes in flash order", which begin at `at`: equal, so that they differ
-- in no place
unfoldable pub is_key : List ℕ → ℕ → ℕ → ℕ → Bool
is_key bs at u w = eqb (differing (take key_length (drop at bs)) (as_sent u w)) 0
