-- Parameters: when one is valid, where its bytes stand, and what reading and setting it answer and
-- leave. Document 01, "The parameter desk", and "Numbers of the refusals": "For the desk: 10, 11,
-- 4, 12, 13."
use Rattle.std.specs.Prelude.{ℕ, ◌+◌, Bool, true, false, cond, not, List, [], ◌∷◌, ◌++◌, eqb, leb, ltb, length, take, drop, ℤ, pos}
use Rattle.std.proofs.lemmas.List.Edits.{sets}
use Rattle.std.specs.Int.Signed.{le_z}
use Rattle.flashrules.specs.Error.{unknown_class, malformed, invalid_parameter, misplaced_parameter, out_of_range}
use Rattle.flashrules.specs.Refusal.{first_error}
use Rattle.flashrules.specs.Outcome.{Outcome, outcome}
use Rattle.flashrules.specs.Choice.{and}
use Rattle.flashrules.specs.Answer.{if_found, start_of, length_of}
use Rattle.flashrules.specs.Layout.{fits}
use Rattle.flashrules.specs.Lookup.{find_class}
use Rattle.flashrules.specs.declared.layout.Layout.{Layout}
use Rattle.parameterrules.specs.Integer.{to_bytes, from_bytes}
use Rattle.parameterrules.specs.Kind.{width_of, is_signed, holds}
use Rattle.parameterrules.specs.declared.parameter.Parameter.{Parameter}
use Rattle.parameterrules.specs.declared.parameter.ParameterValue.{ParameterValue}

-- 01: "A row is sound when lowest is at most highest and both fit the kind."; of a number that is
-- no kind it is not
unfoldable pub valid : Parameter → Bool
valid p =
    and
    (leb 1 (width_of p.kind)
    ∷ le_z p.min p.max
    ∷ holds p.kind p.min
    ∷ holds p.kind p.max
    ∷ [])

-- 01: "whether it is in range"
unfoldable pub in_range : Parameter → ℤ → Bool
in_range p v = and (le_z p.min v ∷ le_z v p.max ∷ [])

-- ---- refusals

-- 4: "class not in layout"
abbrev pub class_missing : Layout → Parameter → Bool
class_missing l p = if_found (find_class l p.class) (λ s n. false) (λ e. true)

-- 12: 02, C-17, "only for a row that leaves its class", which has so many bytes
abbrev pub leaves_class : Parameter → ℕ → Bool
leaves_class p len = ltb len (p.offset + width_of p.kind)

-- 10, 11, 4, 12. The image has `size` bytes
abbrev pub get_tests : Layout → ℕ → Parameter → List (Bool × ℕ)
get_tests l size p =
    (not (fits l size), malformed)
    ∷ (not (valid p), invalid_parameter)
    ∷ (class_missing l p, unknown_class)
    ∷ (leaves_class p (length_of (find_class l p.class)), misplaced_parameter)
    ∷ []

unfoldable pub get_error : Layout → ℕ → Parameter → ℕ
get_error l size p = first_error (get_tests l size p)

-- then 13: "value to be set is outside its row's range"
abbrev pub set_tests : Layout → ℕ → Parameter → ℤ → List (Bool × ℕ)
set_tests l size p v = get_tests l size p ++ ((not (in_range p v), out_of_range) ∷ [])

unfoldable pub set_error : Layout → ℕ → Parameter → ℤ → ℕ
set_error l size p v = first_error (set_tests l size p v)

-- ---- the bytes

-- where they start in the image
abbrev pub start_in : Layout → Parameter → ℕ
start_in l p = start_of (find_class l p.class) + p.offset

abbrev pub row_bytes : Layout → List ℕ → Parameter → List ℕ
row_bytes l image p = take (width_of p.kind) (drop (start_in l p) image)

-- the value that they hold: "most significant byte first"
unfoldable pub value_in : Layout → List ℕ → Parameter → ℤ
value_in l image p = from_bytes (is_signed p.kind) (row_bytes l image p)

-- ---- reading and setting

abbrev pub parameter_value : ℕ → ℤ → Bool → ParameterValue
parameter_value e v r = record { error = e; value = v; in_range = r }

-- 01: "Reading answers the value and whether it is in range; if refused, 0 and no."
unfoldable pub get : Layout → List ℕ → Parameter → ParameterValue
get l image p =
    let e = get_error l (length image) p in
    let v = value_in l image p in
    cond (eqb e 0) (parameter_value 0 v (in_range p v)) (parameter_value e (pos 0) false)

-- what an accepted setting leaves is `to`; refused, "image untouched"
abbrev pub if_settable : Layout → List ℕ → Parameter → ℤ → List ℕ → Outcome ℕ (List ℕ)
if_settable l image p v to =
    let e = set_error l (length image) p v in cond (eqb e 0) (outcome 0 to) (outcome e image)

-- 01: "Setting changes exactly the bytes of that row"
unfoldable pub set : Layout → List ℕ → Parameter → ℤ → Outcome ℕ (List ℕ)
set l image p v = if_settable l image p v (sets image (start_in l p) (to_bytes (width_of p.kind) v))
