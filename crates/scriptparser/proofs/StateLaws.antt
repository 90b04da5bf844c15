-- The state of the parser, as the code makes it.
use Rattle.std.proofs.Common.{◌≡◌, ◌∙◌, ℕ, true, cond, List, ◌+◌, ◌*◌, ◌<◌, eqb, ltb, get_or, length, refl, sym, drop, true≢false, false, [], ◌∷◌}
use Rattle.std.proofs.lemmas.List.{drop_more}
use borrow.Author.Tests.{eqb-true}
use Rattle.flashrules.proofs.Picks.{on_test, on_cond}
use Rattle.hextext.specs.Hex.{line_feed}
use Rattle.scriptrules.specs.Frame.{max_frame}
use Rattle.scriptrules.specs.Parser.{Parser, state, broken, is_digit, is_whole, start, with_digit, with_character, feed_byte, feed}

-- a line feed is no digit
pub digit_first : (count kind c : ℕ) → is_digit c ≡ true → with_digit count kind c ≡ with_character count kind c
unfolding with_character is_digit
digit_first count kind c p = on_test (eqb c line_feed) (λ e. let q = eqb-true c line_feed e in absurd (true≢false (sym (rw q at p)))) (λ e. rw (e, p))

pub by_character : (count kind c : ℕ)
    → with_character count kind c ≡ cond (eqb c line_feed) (cond (is_whole kind count) start broken)
    (cond (is_digit c) (with_digit count kind c) broken)
unfolding with_character
by_character count kind c = refl

-- what proves `with_character`
pub ruleset characters = (digit_first, by_character)

-- ---- the loop: what is left to parse leads on to the state

pub feed_next : (count kind : ℕ) (xs : List ℕ) (i : ℕ) (r : Parser) → i < length xs → r ≡ with_character count kind (get_or xs i 0)
    → feed r (drop (i + 1) xs) ≡ feed (state true count kind) (drop i xs)
unfolding feed_byte
feed_next count kind xs i r h e = rw (drop_more xs i 0 h, e)

-- what is broken stays broken
pub broken_stays : (xs : List ℕ) → feed broken xs ≡ broken
unfolding feed_byte
broken_stays [] = refl
broken_stays (x ∷ xs) = broken_stays xs

pub feed_stops : (count kind : ℕ) (xs : List ℕ) (i : ℕ) → i < length xs → broken ≡ with_character count kind (get_or xs i 0)
    → broken ≡ feed (state true count kind) (drop i xs)
feed_stops count kind xs i h e = sym (broken_stays (drop (i + 1) xs)) ∙ feed_next count kind xs i broken h e

-- and keeps no numbers
pub broken_left : (n k : ℕ) (xs : List ℕ) (i : ℕ) → i < length xs → broken ≡ feed (state false n k) (drop i xs)
unfolding feed_byte
broken_left n k xs i h = rw (drop_more xs i 0 h) (sym (broken_stays (drop (i + 1) xs)))

-- what proves `feed`
pub ruleset feeds = (broken_stays, feed_next, feed_stops, broken_left)

-- ---- what breaks a rule on the way

-- a state that holds no numbers where it is broken
abbrev pub EmptyIfBroken : Parser → Type 0
EmptyIfBroken s = s.good ≡ false → s ≡ broken

module _ (count kind c : ℕ) where
  digit_breaks : EmptyIfBroken (with_digit count kind c)
  unfolding with_digit
  digit_breaks = on_cond EmptyIfBroken (ltb count (2 * max_frame)) _ broken (λ t e. absurd (true≢false e)) (λ t e. refl)

  character_breaks : EmptyIfBroken (with_character count kind c)
  unfolding with_character
  character_breaks =
      on_cond EmptyIfBroken (eqb c line_feed) _ _
      (λ t. on_cond EmptyIfBroken (is_whole kind count) start broken (λ u e. absurd (true≢false e)) (λ u e. refl))
      (λ t. on_cond EmptyIfBroken (is_digit c) _ broken (λ u. digit_breaks) (λ u e. refl))

-- so a broken state that is led to from the start is `broken`, and a caller may keep it as None
pub feed_breaks : (s : Parser) (xs : List ℕ) → EmptyIfBroken s → EmptyIfBroken (feed s xs)
unfolding feed_byte
feed_breaks s [] h = h
feed_breaks s (x ∷ xs) h =
    feed_breaks (feed_byte s x) xs
    (on_cond EmptyIfBroken s.good (with_character s.count s.kind x) broken (λ t. character_breaks s.count s.kind x) (λ t e. refl))
