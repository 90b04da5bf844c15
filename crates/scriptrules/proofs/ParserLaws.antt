-- The state machine of a script: what it knows of the line that is not ended, and what one
-- character more makes of it.
use Prim.Native.Nat.{ℕ, suc, ◌+◌, ◌*◌, ◌%◌, ◌≤◌, ◌<◌}
use mathlib.Core.Path.{◌≡◌, refl, sym}
use mathlib.Core.Bool.{true, false, cond, true≢false}
use mathlib.Core.List.{List, [], ◌∷◌, ◌++◌, append-nil, append_assoc}
use native.Mathlib.Omega.{arith}
use lib.Dec.{eqb, leb, ltb}
use lib.ListN.{length, length-append}
use borrow.Author.Tests.{lt-ltb, le-ltb, ltb-true, eqb-true, leb-true, le-leb}
use Rattle.hextext.specs.Hex.{value, pair, line_feed}
use Rattle.hextext.proofs.HexLaws.{value_small}
use Rattle.flashrules.specs.Error.{malformed}
use Rattle.flashrules.proofs.Picks.{and_first, and_rest, on_test, on_cond}
use Rattle.scriptrules.specs.Frame.{read_kind, write_kind, supply_kind, max_frame}
use Rattle.scriptrules.specs.Parser.{state, start, broken, is_digit, is_whole, kind_with, with_digit, with_character, feed_byte, feed, end_error}
use Rattle.scriptrules.specs.Laws.{FeedChunks}
use Rattle.scriptrules.specs.Parser.{Parser}
use Rattle.scriptrules.proofs.FrameLaws.{digit_other, Digits}

-- ---- chunks

pub feed_chunks : FeedChunks
feed_chunks s [] y = refl
feed_chunks s (c ∷ x) y = feed_chunks (feed_byte s c) x y

feed_broken : (x : List ℕ) → feed broken x ≡ broken
unfolding feed_byte
feed_broken [] = refl
feed_broken (c ∷ x) = feed_broken x

pub never_good : {A : Type 0} (x : List ℕ) → (feed broken x).good ≡ true → A
never_good x e = absurd (true≢false (sym (rw feed_broken at e)))

feed_byte_count : (s : Parser) (c : ℕ) → (feed_byte s c).count ≤ s.count + 1
unfolding feed_byte with_character with_digit
feed_byte_count s c =
    on_cond P s.good _ broken
    (λ g.
    on_cond P (eqb c line_feed) _ _ (λ e. on_cond P (is_whole s.kind s.count) start broken (λ w. omega arith) (λ w. omega arith))
    (λ e. on_cond P (is_digit c) _ broken (λ d. on_cond P (ltb s.count (2 * max_frame)) _ broken (λ h. omega arith) (λ h. omega arith)) (λ d. omega arith)))
    (λ g. omega arith)
  where
    P : Parser → Type 0
    P r = r.count ≤ s.count + 1

pub feed_count : (s : Parser) (x : List ℕ) → (feed s x).count ≤ s.count + length x
feed_count s [] = omega arith
feed_count s (c ∷ x) = omega (arith, feed_count (feed_byte s c) x, feed_byte_count s c)

module _ (s : Parser) where
  pub end_good : end_error s ≡ 0 → s.good ≡ true
  unfolding end_error
  end_good e = on_test s.good (λ t. t) (λ t. let z : malformed ≡ 0 = rw t at e in absurd (omega arith))

  pub end_none : end_error s ≡ 0 → s.count ≡ 0
  unfolding end_error
  end_none e = on_test (eqb s.count 0) (eqb-true _ _) (λ t. let z : malformed ≡ 0 = rw (end_good e, t) at e in absurd (omega arith))

-- ---- a line that is not ended

-- the byte of its first two digits
abbrev pub kind_of : List ℕ → ℕ
kind_of [] = 0
kind_of (a ∷ []) = value a
kind_of (a ∷ b ∷ cs) = pair a b

abbrev pub after : List ℕ → Parser
after line = state true (length line) (kind_of line)

-- it may go on, or end
pub record Typed (line : List ℕ) : Type 0 where
  pub digits : Digits line
  pub few : length line ≤ 2 * max_frame

pub typed_none : Typed []
typed_none = record { digits = tt; few = omega arith }

kind_more : (line : List ℕ) (c : ℕ) → cond (ltb (length line) 2) (kind_with (kind_of line) c) (kind_of line) ≡ kind_of (line ++ (c ∷ []))
kind_more [] c = omega arith
kind_more (a ∷ []) c = omega (arith, value_small a)
kind_more (a ∷ b ∷ cs) c = rw (le-ltb (suc (suc (length cs))) 2 (omega arith))

digits_more : (line : List ℕ) (c : ℕ) → Digits line → is_digit c ≡ true → Digits (line ++ (c ∷ []))
digits_more [] c d e = (e, tt)
digits_more (a ∷ line) c d e = (d.0, digits_more line c d.1 e)

module _ (line : List ℕ) (c : ℕ) where
  with_digit_lem : with_digit (length line) (kind_of line) c ≡ cond (ltb (length line) (2 * max_frame)) (after (line ++ (c ∷ []))) broken
  unfolding with_digit
  with_digit_lem = rw (kind_more line c, length-append)

  -- what one character more makes of it
  feed_byte_after : feed_byte (after line) c
      ≡ cond (eqb c line_feed) (cond (is_whole (kind_of line) (length line)) start broken)
      (cond (is_digit c) (cond (ltb (length line) (2 * max_frame)) (after (line ++ (c ∷ []))) broken) broken)
  unfolding feed_byte with_character
  feed_byte_after = rw with_digit_lem

  feed_byte_digit : is_digit c ≡ true → length line < 2 * max_frame → feed_byte (after line) c ≡ after (line ++ (c ∷ []))
  feed_byte_digit e h = rw (feed_byte_after, digit_other c e, e, lt-ltb (length line) (2 * max_frame) h)

  pub on_feed_byte : (P : Parser → Type 0) → Typed line → (eqb c line_feed ≡ true → is_whole (kind_of line) (length line) ≡ true → P start)
      → (eqb c line_feed ≡ false → Typed (line ++ (c ∷ [])) → P (after (line ++ (c ∷ [])))) → P broken → P (feed_byte (after line) c)
  on_feed_byte P t ended more stopped =
      rw feed_byte_after
      (on_cond P (eqb c line_feed) _ _ (λ e. on_cond P (is_whole (kind_of line) (length line)) start broken (ended e) (λ w. stopped))
      (λ e.
      on_cond P (is_digit c) _ broken
      (λ d.
      on_cond P (ltb (length line) (2 * max_frame)) (after (line ++ (c ∷ []))) broken
      (λ h.
      let k = ltb-true (length line) (2 * max_frame) h in
      more e (record { digits = digits_more line c t.digits d; few = rw length-append (omega arith) }))
      (λ h. stopped))
      (λ d. stopped)))

feed_digits : (line x : List ℕ) → Digits x → length line + length x ≤ 2 * max_frame → feed (after line) x ≡ after (line ++ x)
feed_digits line [] d h = rw append-nil
feed_digits line (c ∷ x) d h =
    rw (feed_byte_digit line c d.0 (omega arith)) (rw append_assoc at (feed_digits (line ++ (c ∷ [])) x d.1 (rw length-append (omega arith))))

pub feed_line : (line : List ℕ) → Typed line → feed start line ≡ after line
feed_line line t = feed_digits [] line t.digits (omega arith)

pub feed_byte_end : (line : List ℕ) → is_whole (kind_of line) (length line) ≡ true → feed_byte (after line) line_feed ≡ start
feed_byte_end line w = rw (feed_byte_after line line_feed, w)

-- every character counted, so none of them is a line feed
pub feed_typed : (line x : List ℕ) → Typed line → (feed (after line) x).good ≡ true → (feed (after line) x).count ≡ length line + length x → Typed (line ++ x)
feed_typed line [] t g n = rw append-nil t
feed_typed line (c ∷ x) t g n =
    on_feed_byte line c (λ s. (feed s x).good ≡ true → (feed s x).count ≡ length line + length (c ∷ x) → Typed (line ++ (c ∷ x))) t
    (λ p w h m. absurd (omega (arith, feed_count start x)))
    (λ p u h m. rw append_assoc at (feed_typed (line ++ (c ∷ [])) x u h (omega (arith, length-append line (c ∷ []))))) (λ h m. never_good x h) g n

-- ---- a line that is whole

pub data Whole (kind count : ℕ) : Type 0 where
  reads : kind ≡ read_kind → count ≡ 6 → Whole kind count
  supplies : kind ≡ supply_kind → count ≡ 6 → Whole kind count
  writes : kind ≡ write_kind → 4 ≤ count → count % 2 ≡ 0 → Whole kind count

module _ (kind count : ℕ) where
  pub whole : is_whole kind count ≡ true → Whole kind count
  unfolding is_whole
  whole e =
      on_test (eqb kind read_kind) (λ t. reads (eqb-true _ _ t) (eqb-true count 6 (rw t at e)))
      (λ t.
      on_test (eqb kind supply_kind) (λ u. supplies (eqb-true _ _ u) (eqb-true count 6 (rw (t, u) at e)))
      (λ u.
      let w = rw (t, u) at e in
      let v = and_rest (eqb kind write_kind) _ w in
      writes (eqb-true _ _ (and_first (eqb kind write_kind) _ w)) (leb-true 4 count (and_first (leb 4 count) _ v))
      (eqb-true (count % 2) 0 (and_first (eqb (count % 2) 0) _ (and_rest (leb 4 count) _ v)))))

  pub is_whole_lem : Whole kind count → is_whole kind count ≡ true
  unfolding is_whole
  is_whole_lem (reads k n) = rw (k, n)
  is_whole_lem (supplies k n) = rw (k, n)
  is_whole_lem (writes k n e) = rw (k, le-leb 4 count n, e)

  pub whole_least : Whole kind count → 4 ≤ count
  whole_least (reads k n) = omega arith
  whole_least (supplies k n) = omega arith
  whole_least (writes k n e) = n

  pub whole_even : Whole kind count → count % 2 ≡ 0
  whole_even (reads k n) = rw n
  whole_even (supplies k n) = rw n
  whole_even (writes k n e) = e
