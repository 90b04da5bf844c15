-- The kinds as the values of one type, and their numbers. Document 01, "The parameter desk":
-- "Kinds: unsigned or two's complement signed, of 1, 2 or 4 bytes".
use Rattle.std.specs.Prelude.{ℕ, cond, eqb, Option, Some, None, Result, Ok, Err}
use Rattle.flashrules.specs.declared.error.Error.{Error}
use Rattle.integers.specs.declared.kind.Kind.{Kind}

abbrev pub number : Kind → ℕ
number Kind.U8 = 1
number Kind.U16 = 2
number Kind.U32 = 4
number Kind.I8 = 0x81
number Kind.I16 = 0x82
number Kind.I32 = 0x84

-- the kind with a number, if there is one
abbrev pub kind_of : ℕ → Option Kind
kind_of n =
    cond (eqb n 1) (Some Kind.U8)
    (cond (eqb n 2) (Some Kind.U16)
    (cond (eqb n 4) (Some Kind.U32)
    (cond (eqb n 0x81) (Some Kind.I8) (cond (eqb n 0x82) (Some Kind.I16) (cond (eqb n 0x84) (Some Kind.I32) None)))))

-- a kind, or 11 for a number that is none
abbrev pub kind_result : Option Kind → Result Kind Error
kind_result (Some k) = Ok k
kind_result None = Err Error.InvalidParameter
