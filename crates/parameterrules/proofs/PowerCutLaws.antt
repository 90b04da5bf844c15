-- What the image between two commits holds, and what is read from it and set in it.
use mathlib.Core.Path.{◌≡◌, ap}
use native.Mathlib.Omega.{arith}
use lib.ListN.{length, take-append-drop}
use Rattle.hextext.proofs.StoreLaws.{sets_again}
use Rattle.flashrules.specs.Outcome.{outcome}
use Rattle.parameterrules.specs.Integer.{to_bytes, from_bytes}
use Rattle.parameterrules.specs.Kind.{width_of, is_signed}
use Rattle.parameterrules.specs.Parameter.{get_error, set_error, start_in, value_in}
use Rattle.parameterrules.specs.Commits.{lower_width, lower_bytes, upper_bytes, between_commits, mixed_bytes}
use Rattle.parameterrules.specs.PowerCut.{CutReplaces, GetAfterCut, SetAfterCut}
use Rattle.parameterrules.proofs.PlaceLaws.{readable, settable, lower_length}
use Rattle.parameterrules.proofs.ParameterLaws.{set_free, set_leaves, replaced, get_reads}

pub cut_replaces : CutReplaces
cut_replaces l image p v h =
    let n = lower_length p v in
    let e = (settable l (length image) p v (set_free l image p v h)).0 in
    rw n at (replaced l image p (readable l (length image) p e) (lower_bytes p v) (omega (arith, n)))

pub get_after_cut : GetAfterCut
unfolding value_in
get_after_cut l image p v h =
    let c = cut_replaces l image p v h in
    let to = between_commits l image p v in
    let signed = is_signed p.kind in
    let e : get_error l (length to) p ≡ 0 = rw c.size (settable l (length image) p v (set_free l image p v h)).0 in
    get_reads l to p (from_bytes signed (mixed_bytes l image p v)) e (ap (from_bytes signed) c.here)

pub set_after_cut : SetAfterCut
set_after_cut l image p v h =
    let e = set_free l image p v h in
    let to = between_commits l image p v in
    let at = start_in l p in
    let bs = to_bytes (width_of p.kind) v in
    let e' : set_error l (length to) p v ≡ 0 = rw (cut_replaces l image p v h).size e in
    let again = sets_again image at (lower_bytes p v) (upper_bytes p v) in
    rw (set_leaves l to p v e', set_leaves l image p v e) (ap (outcome 0) (rw (take-append-drop (lower_width p) bs) at again))
