-- What the definitions amount to, claim by claim. proofs/Laws.antt has a proof of each, under its
-- name in small letters.
use Rattle.std.specs.Prelude.{◌≡◌, ℕ, ◌+◌, ◌%◌, ◌<◌, List, length, slice_index, slice_set}
use Rattle.checksum.specs.Checksum.{total, checksum, checksum_after}

-- 01: "It equals the long way for every window, place and byte": of any length, where the old byte
-- is a byte
abbrev pub ShortWay : Type 0
ShortWay =
    (bs : List ℕ) (i new : ℕ) → i < length bs → slice_index bs i < 256
    → checksum_after (checksum bs) (slice_index bs i) new ≡ checksum (slice_set bs i new)

-- 01: "The sum wraps at 256 by intent": checksum and sum make 255 modulo 256, the long way and the
-- short way
abbrev pub LongWayModulo : Type 0
LongWayModulo = (bs : List ℕ) → (checksum bs + total bs) % 256 ≡ 255

abbrev pub ShortWayModulo : Type 0
ShortWayModulo =
    (bs : List ℕ) (i new : ℕ) → i < length bs → slice_index bs i < 256
    → (checksum_after (checksum bs) (slice_index bs i) new + total (slice_set bs i new)) % 256 ≡ 255
