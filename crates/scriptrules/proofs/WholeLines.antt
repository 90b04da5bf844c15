-- Laws of the whole lines of a text: the first one, and the text behind it.
use Prim.Native.Nat.{ℕ}
use mathlib.Core.Path.{◌≡◌}
use mathlib.Core.List.{List, [], ◌∷◌, ◌++◌, append_assoc, append-nil}
use native.Mathlib.Omega.{arith}
use lib.Dec.{eqb}
use lib.ListN.{length}
use borrow.Author.Tests.{eqb-true}
use Rattle.flashrules.proofs.Picks.{on_test}
use Rattle.hextext.specs.Hex.{hex, hex_line, line_feed}
use Rattle.scriptrules.specs.Frame.{Frame, frame_bytes, line_of, lines_after, lines_of}
use Rattle.scriptrules.proofs.FrameLaws.{digit_other, Digits, hex_digits}

-- digits go into the line that is not ended
lines_digits : (line x y : List ℕ) → Digits x → lines_after line (x ++ y) ≡ lines_after (line ++ x) y
lines_digits line [] y d = rw append-nil
lines_digits line (c ∷ x) y d = rw (digit_other c d.0, lines_digits (line ++ (c ∷ [])) x y d.1, append_assoc)

-- a line of digits is one
pub lines_one : (bs : List ℕ) → length (lines_of (hex_line bs)) ≡ 1
lines_one bs = rw (lines_digits [] (hex bs) (line_feed ∷ []) (hex_digits bs))

pub lines_line : (f : Frame) (y : List ℕ) → lines_of (line_of f ++ (line_feed ∷ y)) ≡ line_of f ∷ lines_of y
lines_line f y = lines_digits [] (line_of f) (line_feed ∷ y) (hex_digits (frame_bytes f))

-- of a text with a whole line: what is behind its first one
pub record Behind (x line : List ℕ) (lines : List (List ℕ)) : Type 0 where
  pub rest : List ℕ
  pub whole : x ≡ line ++ (line_feed ∷ rest)
  pub more : lines_of rest ≡ lines

pub lines_behind : (line x z : List ℕ) (zs : List (List ℕ)) → lines_after line x ≡ z ∷ zs → Behind (line ++ x) z zs
lines_behind line [] z zs e = let q : ◌≡◌ {A = ℕ} 0 1 = cc in absurd (omega arith)
lines_behind line (c ∷ cs) z zs e =
    on_test (eqb c line_feed)
    (λ t.
    let p : line ∷ lines_of cs ≡ z ∷ zs = rw t at e in
    let a : line ≡ z = cc in
    record { rest = cs; whole = rw (a, eqb-true c line_feed t); more = cc })
    (λ t. rw append_assoc at (lines_behind (line ++ (c ∷ [])) cs z zs (rw t at e)))
