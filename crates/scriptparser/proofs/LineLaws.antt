-- Laws of lines counted as the code counts them.
use Rattle.std.proofs.Common.{◌≡◌, ℕ, ◌+◌, cond, eqb, List, [], ◌∷◌, length, refl, sym, ◌∙◌, arith}
use Rattle.std.specs.List.{count_by}
use Rattle.std.proofs.lemmas.List.Recursion.{is_count_by}
use Rattle.flashrules.proofs.Picks.{on_test}
use Rattle.hextext.specs.Hex.{line_feed}
use Rattle.scriptrules.specs.Frame.{lines_of}
use Rattle.scriptrules.proofs.LineLaws.{lines_append}

line_more : (c : ℕ) (cs : List ℕ) → length (lines_of (c ∷ cs)) ≡ cond (eqb c line_feed) (1 + length (lines_of cs)) (length (lines_of cs))
line_more c cs =
    on_test (eqb c line_feed) (λ p. rw p (omega arith))
    (λ p. rw p (let e = rw p at (lines_append (c ∷ []) cs) in omega arith))

pub lines_count : (n : ℕ) (chunk : List ℕ) → n ≡ count_by (λ c. eqb c line_feed) chunk → n ≡ length (lines_of chunk)
lines_count n chunk p = p ∙ sym (is_count_by (λ x. length (lines_of x)) (λ c. eqb c line_feed) refl line_more chunk)

-- what proves `line_feeds`
pub ruleset line_counts = (lines_count)
