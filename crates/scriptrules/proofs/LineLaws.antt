-- Laws of lines counted: chunk by chunk, and no further than one too many.
use Prim.Native.Nat.{ℕ, ◌+◌}
use mathlib.Core.Path.{◌≡◌, refl, sym, ◌∙◌}
use mathlib.Core.List.{List, [], ◌∷◌, ◌++◌}
use native.Mathlib.Omega.{arith}
use lib.Dec.{eqb, ltb}
use lib.ListN.{length}
use borrow.Author.Tests.{lt-ltb, ltb-true}
use Rattle.flashrules.proofs.Picks.{on_test}
use Rattle.hextext.specs.Hex.{line_feed}
use Rattle.causerules.specs.Notes.{max_lines}
use Rattle.scriptrules.specs.Frame.{lines_after, lines_of}
use Rattle.scriptrules.specs.Session.{report_causes, too_many, count_on}
use Rattle.scriptrules.specs.Laws.{CountChunks, CountTells}

-- as many as there are line feeds, whatever stands before them
lines_length : (line x : List ℕ) → length (lines_after line x) ≡ length (lines_of x)
lines_length line [] = refl
lines_length line (c ∷ cs) =
    on_test (eqb c line_feed) (λ p. rw p)
    (λ p. rw p (lines_length (line ++ (c ∷ [])) cs ∙ sym (lines_length ([] ++ (c ∷ [])) cs)))

pub lines_append : (x y : List ℕ) → length (lines_of (x ++ y)) ≡ length (lines_of x) + length (lines_of y)
lines_append [] y = omega arith
lines_append (c ∷ cs) y =
    on_test (eqb c line_feed) (λ p. rw p (omega (arith, lines_append cs y)))
    (λ p. rw (p, lines_length (c ∷ []) (cs ++ y), lines_length (c ∷ []) cs) (lines_append cs y))

count_append : (report k m n : ℕ) → count_on report (count_on report k m) n ≡ count_on report k (m + n)
count_append report k m n =
    on_test (eqb report report_causes)
    (λ p.
    rw p
    (on_test (ltb max_lines (k + m))
    (λ q.
    let h = ltb-true max_lines (k + m) q in
    rw (q, lt-ltb max_lines (too_many + n) (omega arith), lt-ltb max_lines (k + (m + n)) (omega arith)))
    (λ q. let e : k + m + n ≡ k + (m + n) = omega arith in rw (q, e))))
    (λ p. rw p)

pub count_chunks : CountChunks
count_chunks report k x y = rw (lines_append x y) (count_append report k (length (lines_of x)) (length (lines_of y)))

pub count_tells : CountTells
count_tells report lines =
    let z : 0 + lines ≡ lines = omega arith in
    on_test (eqb report report_causes)
    (λ p.
    rw (p, z)
    (on_test (ltb max_lines lines) (λ q. rw q) (λ q. rw q q)))
    (λ p. rw p)
