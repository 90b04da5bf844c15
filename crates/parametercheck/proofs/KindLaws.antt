-- Laws of the kind that a row's number tells: it has that number, and of one that tells none the
-- row is not valid.
use lib.Dec.{leb}
use Rattle.std.proofs.Common.{◌≡◌, ℕ, refl, sym, ◌∙◌, true, false, [], ◌∷◌, Option, Some, None, Result, Ok, Err, arith, Fits, w8}
use Rattle.std.specs.Int.Signed.{le_z}
use Rattle.flashrules.specs.Choice.{and}
use Rattle.flashrules.specs.Error.{number as error_number}
use Rattle.flashrules.specs.Layout.{fits}
use Rattle.flashrules.specs.declared.error.Error.{Error}
use Rattle.flashrules.specs.declared.layout.Layout.{Layout}
use Rattle.integers.specs.Kind.{number, kind_of, kind_result}
use Rattle.integers.specs.declared.kind.Kind.{Kind}
use Rattle.integers.proofs.KindLaws.{kind_found, kind_missing, result_some, result_none}
use Rattle.parameterrules.specs.Kind.{width_of, holds}
use Rattle.parameterrules.specs.Parameter.{valid, get_error}
use Rattle.parameterrules.specs.declared.parameter.Parameter.{Parameter}

-- a kind has bytes
pub width_some : (k : Kind) → leb 1 (width_of (number k)) ≡ true
unfolding width_of
width_some Kind.U8 = refl
width_some Kind.U16 = refl
width_some Kind.U32 = refl
width_some Kind.I8 = refl
width_some Kind.I16 = refl
width_some Kind.I32 = refl

pub valid_is : (p : Parameter) → valid p ≡ and (leb 1 (width_of p.kind) ∷ le_z p.min p.max ∷ holds p.kind p.min ∷ holds p.kind p.max ∷ [])
unfolding valid
valid_is p = refl

pub ruleset valids = (width_some, valid_is)

-- ---- a number that is tried

module _ (p : Parameter) (r : Result Kind Error) (t : r ≡ kind_result (kind_of p.kind)) where
  pub kind_number : (k : Kind) → r ≡ Ok k → number k ≡ p.kind
  kind_number k q = kind_found p.kind k (result_some (kind_of p.kind) k (sym t ∙ q))

  module _ (h : Fits w8 p.kind) (e : Error) (q : r ≡ Err e) where
    pub not_valid : false ≡ valid p
    unfolding valid
    not_valid =
        let z : width_of p.kind ≡ 0 = (kind_missing p.kind (let f = h.fits in omega arith)).0 (result_none (kind_of p.kind) e (sym t ∙ q)).0 in
        rw z

    pub get_refused : (l : Layout) (size : ℕ) → fits l size ≡ true → error_number e ≡ get_error l size p
    unfolding get_error
    get_refused l size f = rw (f, ← not_valid, (result_none (kind_of p.kind) e (sym t ∙ q)).1)

pub ruleset kinds = (kind_number, not_valid)
