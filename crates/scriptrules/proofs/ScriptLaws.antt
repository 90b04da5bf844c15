-- Which lines and which texts are accepted: those of frames that can be sent, and no others.
use Prim.Native.Nat.{ℕ, ◌*◌, ◌≤◌}
use mathlib.Core.Path.{◌≡◌, refl, ◌∙◌}
use mathlib.Core.Bool.{true, false}
use mathlib.Core.List.{List, [], ◌∷◌, ◌++◌, append_assoc, append-nil}
use native.Mathlib.Omega.{arith}
use lib.Dec.{eqb}
use lib.ListN.{length, get_or}
use borrow.Author.Tests.{eqb-true, eq-eqb}
use Rattle.hextext.specs.Hex.{unhex, line_feed}
use Rattle.hextext.proofs.HexLaws.{hex_length, pair_back, unhex_bytes}
use Rattle.flashrules.proofs.Picks.{and_first, and_rest, on_test}
use Rattle.scriptrules.specs.Frame.{Frame, write_frame, read_frame, supply_frame, read_kind, write_kind, supply_kind, frame_bytes, max_frame, line_of, serialize_script}
use Rattle.scriptrules.specs.Frame.{lines_after, lines_of, frame_of, frames_of}
use Rattle.scriptrules.specs.Parser.{start, broken, is_whole, feed, end_error, script, no_script, parse_script, is_frame}
use Rattle.scriptrules.specs.Laws.{Sendable, AllSendable, IsScript, AcceptedScript, IsLine, AcceptedLine}
use Rattle.scriptrules.proofs.FrameLaws.{hex_digits, hex_unhex, unhex_half, line_back, read_back, supply_back, write_back}
use Rattle.scriptrules.proofs.WholeLines.{lines_line}
use Rattle.scriptrules.proofs.ParserLaws.{feed_chunks, never_good, end_good, end_none, kind_of, after, Typed, typed_none, on_feed_byte, feed_line, feed_typed}
use Rattle.scriptrules.proofs.ParserLaws.{feed_byte_end, Whole, reads, supplies, writes, whole, is_whole_lem, whole_least, whole_even}

-- ---- a whole line is the line of its frame

kind_first : (line : List ℕ) → 2 ≤ length line → get_or (unhex line) 0 0 ≡ kind_of line
kind_first [] h = absurd (omega arith)
kind_first (a ∷ []) h = absurd (omega arith)
kind_first (a ∷ b ∷ cs) h = refl

module _ (line : List ℕ) where
  whole_bytes : Whole (kind_of line) (length line) → length (unhex line) * 2 ≡ length line → frame_bytes (frame_of line) ≡ unhex line
  whole_bytes (reads k n) h = read_back (unhex line) (kind_first line (omega arith) ∙ k) (omega arith)
  whole_bytes (supplies k n) h = supply_back (unhex line) (unhex_bytes line) (kind_first line (omega arith) ∙ k) (omega arith)
  whole_bytes (writes k n e) h = write_back (unhex line) (kind_first line (omega arith) ∙ k) (omega arith)

  whole_line : Typed line → is_whole (kind_of line) (length line) ≡ true → IsLine (frame_of line) line
  whole_line t w =
      let v = whole _ _ w in
      let e = whole_even _ _ v in
      let h = unhex_half line e in
      let back = whole_bytes v h in
      record { sendable = record { bytes = rw back (unhex_bytes line); few = rw back (omega (arith, t.few)) }; text = rw back (hex_unhex line t.digits e) }

-- ---- and a frame's line is whole

line_whole : (f : Frame) → is_whole (kind_of (line_of f)) (length (line_of f)) ≡ true
line_whole (read_frame r n) = is_whole_lem _ _ (reads (pair_back read_kind (omega arith)) refl)
line_whole (supply_frame millivolts) = is_whole_lem _ _ (supplies (pair_back supply_kind (omega arith)) refl)
line_whole (write_frame r bytes) =
    let n = hex_length (write_kind ∷ r ∷ bytes) in
    is_whole_lem _ _ (writes (pair_back write_kind (omega arith)) (omega arith) (omega arith))

module _ (f : Frame) (s : Sendable f) where
  line_state : feed start (line_of f) ≡ after (line_of f)
  line_state = feed_line (line_of f) (record { digits = hex_digits (frame_bytes f); few = rw (hex_length (frame_bytes f)) (omega (arith, s.few)) })

  pub line_frame : is_frame (line_of f) ≡ true
  unfolding is_frame
  line_frame = rw (line_state, eq-eqb (length (line_of f)) (length (line_of f)) refl, line_whole f)

  -- with its line feed, it leads from the start to the start
  pub feed_frame : (y : List ℕ) → feed start (line_of f ++ (line_feed ∷ y)) ≡ feed start y
  feed_frame y = feed_chunks start (line_of f) (line_feed ∷ y) ∙ rw (line_state, feed_byte_end (line_of f) (line_whole f))

-- ---- lines, without their line feeds

module _ (line : List ℕ) (e : is_frame line ≡ true) where
  frame_typed : Typed line
  unfolding is_frame
  frame_typed =
      let s = feed start line in
      let n = eqb-true s.count (length line) (and_first (eqb s.count (length line)) _ (and_rest s.good _ e)) in
      feed_typed [] line typed_none (and_first s.good _ e) (omega arith)

  frame_whole : Whole (kind_of line) (length line)
  unfolding is_frame
  frame_whole = whole _ _ (and_first _ _ (rw (feed_line line frame_typed, eq-eqb (length line) (length line) refl) at e))

  pub frame_least : 4 ≤ length line
  frame_least = whole_least _ _ frame_whole

  pub frame_most : length line ≤ 2 * max_frame
  frame_most = frame_typed.few

  pub frame_even : length (unhex line) * 2 ≡ length line
  frame_even = unhex_half line (whole_even _ _ frame_whole)

  frame_line : IsLine (frame_of line) line
  frame_line = whole_line line frame_typed (is_whole_lem _ _ frame_whole)

pub accepted_line : AcceptedLine
accepted_line line f = (λ a. rw a.1 at (frame_line line a.0), λ l. rw (← l.text) (line_frame f l.sendable, line_back f l.sendable))

-- ---- texts

pub feed_script : (fs : List Frame) → AllSendable fs → feed start (serialize_script fs) ≡ start
feed_script [] s = refl
feed_script (f ∷ fs) s = feed_frame f s.0 (serialize_script fs) ∙ feed_script fs s.1

-- the frames of a text that begins with these
pub frames_script : (fs : List Frame) (y : List ℕ) → AllSendable fs → frames_of (lines_of (serialize_script fs ++ y)) ≡ fs ++ frames_of (lines_of y)
frames_script [] y s = refl
frames_script (f ∷ fs) y s = rw (append_assoc (line_of f) (line_feed ∷ serialize_script fs) y, lines_line f (serialize_script fs ++ y), line_back f s.0, frames_script fs y s.1)

frames_back : (fs : List Frame) → AllSendable fs → frames_of (lines_of (serialize_script fs)) ≡ fs
frames_back fs s = simp append-nil at (frames_script fs [] s)

-- a text is that of the frames read from it; `line` stands before it, in its first line
abbrev IsRead : List ℕ → List ℕ → Type 0
IsRead line x = IsScript (frames_of (lines_after line x)) (line ++ x)

module _ (line x : List ℕ) (c : ℕ) where
  read_end : Typed line → eqb c line_feed ≡ true → is_whole (kind_of line) (length line) ≡ true → IsRead [] x → IsRead line (c ∷ x)
  read_end t p w r =
      let l = whole_line line t w in
      rw p (record { sendable = (l.sendable, r.sendable); text = rw (l.text, r.text, eqb-true c line_feed p) })

  read_more : eqb c line_feed ≡ false → IsRead (line ++ (c ∷ [])) x → IsRead line (c ∷ x)
  read_more p r = rw p (rw append_assoc at r)

read_from : (line x : List ℕ) → Typed line → end_error (feed (after line) x) ≡ 0 → IsRead line x
read_from [] [] t e = record { sendable = tt; text = refl }
read_from (a ∷ line) [] t e = absurd (let z = end_none (after (a ∷ line)) e in omega arith)
read_from line (c ∷ x) t e =
    on_feed_byte line c (λ s. end_error (feed s x) ≡ 0 → IsRead line (c ∷ x)) t (λ p w h. read_end line x c t p w (read_from [] x typed_none h))
    (λ p u h. read_more line x c p (read_from (line ++ (c ∷ [])) x u h)) (λ h. never_good x (end_good (feed broken x) h)) e

pub read_script : (x : List ℕ) → end_error (feed start x) ≡ 0 → IsScript (frames_of (lines_of x)) x
read_script x e = read_from [] x typed_none e

module _ (x : List ℕ) (fs : List Frame) where
  parse_is : parse_script x ≡ script fs → IsScript fs x
  unfolding parse_script
  parse_is e =
      on_test (eqb (end_error (feed start x)) 0)
      (λ t.
      let p : script (frames_of (lines_of x)) ≡ script fs = rw t at e in
      let q : frames_of (lines_of x) ≡ fs = cc in
      rw q at (read_script x (eqb-true _ _ t)))
      (λ t. let p : no_script ≡ script fs = rw t at e in let z : ◌≡◌ {A = ℕ} 0 1 = cc in absurd (omega arith))

  is_parsed : IsScript fs x → parse_script x ≡ script fs
  unfolding parse_script end_error
  is_parsed s = rw (← s.text, feed_script fs s.sendable, frames_back fs s.sendable)

pub accepted_script : AcceptedScript
accepted_script x fs = (parse_is x fs, is_parsed x fs)
