-- What a lookup answers, case by case: a place, or document 01's refusal.
use Rattle.std.specs.Prelude.{ℕ, Result, Ok, Err}
use Rattle.flashrules.specs.Error.{number}
use Rattle.flashrules.specs.declared.error.Error.{Error}
use Rattle.flashrules.specs.declared.lookup.Place.{Place}

abbrev pub Lookup : Type 0
Lookup = Result Place Error

-- so many bytes from a place of the image on
abbrev pub found : ℕ → ℕ → Lookup
found s n = Ok (record { start = s; len = n })

abbrev pub refused : Error → Lookup
refused e = Err e

-- a choice by the answer: of start and length where it is found, of the error number where it is
-- refused
module _ {A : Type 0} where
  abbrev pub if_found : Lookup → (ℕ → ℕ → A) → (ℕ → A) → A
  if_found (Ok p) f r = f p.start p.len
  if_found (Err e) f r = r (number e)

-- document 01's number (01, "Numbers of the refusals"), 0 where there is none
abbrev pub error_of : Lookup → ℕ
error_of a = if_found a (λ s n. 0) (λ e. e)

-- where it starts, and how many bytes it has; both 0 where it is refused
abbrev pub start_of : Lookup → ℕ
start_of a = if_found a (λ s n. s) (λ e. 0)

abbrev pub length_of : Lookup → ℕ
length_of a = if_found a (λ s n. n) (λ e. 0)
