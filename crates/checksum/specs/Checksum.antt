-- The checksum of bytes, the long way and the short way. Document 01, "Checksum".
use Rattle.std.specs.Prelude.{ℕ, ◌+◌, ◌-◌, ◌%◌, List, [], ◌∷◌}

-- the sum of bytes, whole
abbrev pub total : List ℕ → ℕ
total [] = 0
total (b ∷ bs) = b + total bs

-- 01: "255 less the low eight bits of the sum"; of any number of bytes
abbrev pub checksum : List ℕ → ℕ
checksum bs = 255 - total bs % 256

-- 01: "t = (255 - old checksum - old byte) mod 256 with t never negative": with 256 more it is not,
-- and the remainder is the same
abbrev pub without_old : ℕ → ℕ → ℕ
without_old sum old = (255 + 256 - sum - old) % 256

-- 01: "new checksum = 255 - ((t + new byte) mod 256)"
abbrev pub checksum_after : ℕ → ℕ → ℕ → ℕ
checksum_after sum old new = 255 - (without_old sum old + new) % 256
