-- Laws of the text of a list of runs: its lines in the order in which they are written, how long
-- they are, and that they determine the runs.
use Prim.Native.Nat.{ℕ, zero, suc, ◌+◌, ◌*◌, ◌/◌, ◌%◌, ◌≤◌}
use mathlib.Core.Path.{◌≡◌, refl, sym, ap, ◌∙◌}
use mathlib.Core.List.{List, [], ◌∷◌, ◌++◌, append_assoc, head-eq_of_cons-eq, tail-eq_of_cons-eq}
use native.Mathlib.Omega.{arith}
use lib.Dec.{eqb}
use lib.ListN.{length, take, drop, length-append, length-take, length-drop}
use lib.Seq.{take_at, drop_at}
use Rattle.hextext.specs.Hex.{hex, line_feed, hex_line}
use Rattle.hextext.proofs.HexLaws.{hex_append}
use Rattle.hextext.proofs.Laws.{line_length, line_unique}
use Rattle.flashrules.specs.Layout.{Class, paired, classes, size_of}
use Rattle.flashrules.specs.Image.{Bytes}
use Rattle.flashrules.proofs.Picks.{on_cond}
use Rattle.flashrules.proofs.BytesLaws.{bytes_append}
use Rattle.flashrules.proofs.LayoutLaws.{valid_parts, fits_parts}
use Rattle.deltarules.specs.Run.{Run, run, adjoins, prepend, class_runs, image_runs, runs}
use Rattle.deltarules.specs.Text.{run_line, serialize_runs}
use Rattle.deltarules.specs.Laws.{Writable, TextDetermines, RunsTextMost}
use Rattle.deltarules.proofs.ClassLaws.{adjoins_false}

-- ---- one line

-- in the order in which its parts are written
pub run_parts : (i o : ℕ) (old new : List ℕ)
    → run_line (run i o old new) ≡ hex (i ∷ o / 256 ∷ o % 256 ∷ []) ++ (hex old ++ hex_line new)
unfolding run_line
run_parts i o old new =
    rw (hex_append old new, append_assoc (hex old) (hex new) (line_feed ∷ []))

pub run_length : (r : Run) → length (run_line r) ≡ 7 + 2 * length r.old + 2 * length r.new
unfolding run_line
run_length r =
    line_length (r.class ∷ r.offset / 256 ∷ r.offset % 256 ∷ (r.old ++ r.new)) ∙ omega (arith, length-append r.old r.new)

-- ---- the lines of a class

pub runs_length : (r : Run) (rs : List Run) → length (serialize_runs (r ∷ rs)) ≡ 7 + 2 * length r.old + 2 * length r.new + length (serialize_runs rs)
runs_length r rs = length-append (run_line r) (serialize_runs rs) ∙ rw (run_length r)

-- no run begins at o
abbrev NoneAt : ℕ → List Run → Type 0
NoneAt o [] = Unit {0}
NoneAt o (r ∷ rs) = r.offset ≡ o → ⊥

-- how long the text is at most, of runs of n bytes from offset o on: a differing byte costs four
-- digits, and seven characters more where it begins a run; but the byte before a run is equal
record Most (o n : ℕ) (rs : List Run) : Type 0 where
  any : 2 * length (serialize_runs rs) ≤ 11 * n + 11
  later : NoneAt o rs → 2 * length (serialize_runs rs) ≤ 11 * n

prepend_most : (i o x y n : ℕ) (rs : List Run) → Most (o + 1) n rs → Most o (suc n) (prepend i o x y rs)
prepend_most i o x y n [] m = record { any = omega (arith, runs_length (run i o (x ∷ []) (y ∷ [])) []); later = λ h. absurd (h refl) }
prepend_most i o x y n (r ∷ rs) m =
    on_cond (Most o (suc n)) (adjoins o r) _ _
    (λ t. record { any = omega (arith, m.any, runs_length (run i o (x ∷ r.old) (y ∷ r.new)) rs, runs_length r rs); later = λ h. absurd (h refl) })
    (λ t. record { any = omega (arith, m.later (adjoins_false o r t), runs_length (run i o (x ∷ []) (y ∷ [])) (r ∷ rs)); later = λ h. absurd (h refl) })

class_most : (i o : ℕ) (xs ys : List ℕ) → Most o (length xs) (class_runs i o xs ys)
class_most i o [] ys = record { any = omega arith; later = λ h. omega arith }
class_most i o (x ∷ xs) [] = record { any = omega arith; later = λ h. omega arith }
class_most i o (x ∷ xs) (y ∷ ys) =
    let m = class_most i (o + 1) xs ys in
    on_cond (Most o (suc (length xs))) (eqb x y) _ _
    (λ t. record { any = omega (arith, m.any); later = λ h. omega (arith, m.any) })
    (λ t. prepend_most i o x y (length xs) (class_runs i (o + 1) xs ys) m)

-- so eleven characters a byte at most
pub byte_most : (i o : ℕ) (xs ys : List ℕ) → length (serialize_runs (class_runs i o xs ys)) ≤ 11 * length xs
byte_most i o [] ys = omega arith
byte_most i o (x ∷ xs) ys = omega (arith, (class_most i o (x ∷ xs) ys).any)

-- ---- the lines of all classes

pub text_append : (rs ss : List Run) → serialize_runs (rs ++ ss) ≡ serialize_runs rs ++ serialize_runs ss
text_append [] ss = refl
text_append (r ∷ rs) ss = rw (text_append rs ss) (sym (append_assoc (run_line r) (serialize_runs rs) (serialize_runs ss)))

image_most : (cs : List Class) (old new : List ℕ) → length old ≡ size_of cs → 2 * length (serialize_runs (image_runs cs old new)) ≤ 11 * length old + 11 * length cs
image_most [] old new h = omega arith
image_most (c ∷ cs) old new h =
    let n = c.len in
    let rs = class_runs c.id 0 (take n old) (take n new) in
    let ss = image_runs cs (drop n old) (drop n new) in
    rw (text_append rs ss, length-append (serialize_runs rs) (serialize_runs ss))
    (omega (arith, (class_most c.id 0 (take n old) (take n new)).any, length-take n old, length-drop n old, image_most cs (drop n old) (drop n new) (length-drop n old ∙ omega arith)))

pub runs_text_most : RunsTextMost
unfolding runs classes
runs_text_most l old new p =
    let f = fits_parts l (length old) p.first in
    let v = valid_parts l f.0 in
    omega (arith, image_most (classes l) old new f.1, f.1, v.small, v.used, length-take l.count (paired l.ids l.lengths))

-- ---- the runs of a text

abbrev line_of : Run → List ℕ
line_of r = r.class ∷ r.offset / 256 ∷ r.offset % 256 ∷ (r.old ++ r.new)

line_bytes_lem : (r : Run) → Writable r → Bytes (line_of r)
line_bytes_lem r w zero = w.class
line_bytes_lem r w (suc zero) = omega (arith, w.offset)
line_bytes_lem r w (suc (suc zero)) = omega arith
line_bytes_lem r w (suc (suc (suc k))) = bytes_append r.old r.new w.old w.new k

-- two halves of equal length
halves : (a b c d : List ℕ) → length a ≡ length b → length c ≡ length d → a ++ b ≡ c ++ d → (a ≡ c) × (b ≡ d)
halves a b c d h g e =
    let n : length a ≡ length c = let m : length (a ++ b) ≡ length (c ++ d) = rw e in omega (arith, length-append a b, length-append c d) in
    (sym (take_at a b (length c) n) ∙ rw e (take_at c d (length c) refl), sym (drop_at a b (length c) n) ∙ rw e (drop_at c d (length c) refl))

-- the bytes of a line determine its run
one_line : (r s : Run) → Writable r → Writable s → line_of r ≡ line_of s → r ≡ s
one_line r s w v e =
    let c = head-eq_of_cons-eq e in
    let high = head-eq_of_cons-eq (tail-eq_of_cons-eq e) in
    let low = head-eq_of_cons-eq (tail-eq_of_cons-eq (tail-eq_of_cons-eq e)) in
    let o : r.offset ≡ s.offset = omega arith in
    let b = halves r.old r.new s.old s.new w.long v.long (tail-eq_of_cons-eq (tail-eq_of_cons-eq (tail-eq_of_cons-eq e))) in
    λ j. run (c j) (o j) (b.0 j) (b.1 j)

pub text_determines : TextDetermines
unfolding run_line
text_determines [] [] w v e = refl
text_determines [] (s ∷ ss) w v e = absurd (let z : 0 ≡ length (serialize_runs (s ∷ ss)) = ap length e in omega (arith, runs_length s ss))
text_determines (r ∷ rs) [] w v e = absurd (let z : length (serialize_runs (r ∷ rs)) ≡ 0 = ap length e in omega (arith, runs_length r rs))
text_determines (r ∷ rs) (s ∷ ss) w v e =
    let p = line_unique (line_of r) (line_of s) (serialize_runs rs) (serialize_runs ss) (line_bytes_lem r w.0) (line_bytes_lem s v.0) e in
    let first = one_line r s w.0 v.0 p.0 in
    let rest = text_determines rs ss w.1 v.1 p.1 in
    λ j. first j ∷ rest j
