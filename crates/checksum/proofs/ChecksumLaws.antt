-- Laws of sums and checksums: the loop that adds up bytes, and the short way.
use Rattle.std.proofs.Common.{◌≡◌, ℕ, zero, suc, ◌+◌, ◌%◌, ◌<◌, List, [], ◌∷◌, ◌++◌, length, get_or, set, replicate, refl, arith}
use Rattle.std.specs.List.{fold}
use Rattle.checksum.specs.Checksum.{total}
use Rattle.checksum.specs.Laws.{ShortWay, LongWayModulo, ShortWayModulo}

-- ---- sums

pub total_append : (xs ys : List ℕ) → total (xs ++ ys) ≡ total xs + total ys
total_append [] ys = omega arith
total_append (x ∷ xs) ys = omega (arith, total_append xs ys)

pub total_zeros : (n : ℕ) → total (replicate n 0) ≡ 0
total_zeros zero = refl
total_zeros (suc n) = omega (arith, total_zeros n)

pub total_set : (bs : List ℕ) (i new : ℕ) → i < length bs → total (set bs i new) + get_or bs i 0 ≡ total bs + new
total_set [] i new h = absurd (omega arith)
total_set (b ∷ bs) zero new h = omega arith
total_set (b ∷ bs) (suc i) new h = omega (arith, total_set bs i new (omega arith))

-- ---- the sum that wraps, byte by byte

wrapped : (sum : ℕ) (bs : List ℕ) → sum < 256 → fold (λ s b. (s + b) % 256) sum bs ≡ (sum + total bs) % 256
wrapped sum [] h = omega arith
wrapped sum (b ∷ bs) h = omega (arith, wrapped ((sum + b) % 256) bs (omega arith))

pub low_total : (bs : List ℕ) → fold (λ s b. (s + b) % 256) 0 bs ≡ total bs % 256
low_total bs = omega (arith, wrapped 0 bs (omega arith))

-- ---- the claims

pub short_way : ShortWay
short_way bs i new h g = let q = total_set bs i new h in omega arith

pub long_way_modulo : LongWayModulo
long_way_modulo bs = omega arith

pub short_way_modulo : ShortWayModulo
short_way_modulo bs i new h g = rw (short_way bs i new h g) (long_way_modulo (set bs i new))
