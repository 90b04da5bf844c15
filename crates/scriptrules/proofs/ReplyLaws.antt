-- Laws of replies: how long one is, and that none is empty.
use Prim.Native.Nat.{ℕ, ◌≤◌}
use mathlib.Core.Path.{◌≡◌, refl, sym, ap}
use mathlib.Core.List.{List, [], ◌∷◌}
use native.Mathlib.Omega.{arith}
use lib.Dec.{eqb}
use lib.ListN.{length, replicate, length-append, length-take}
use borrow.Author.Tests.{eqb-true}
use Rattle.hextext.proofs.Laws.{line_length}
use Rattle.flashrules.specs.Outcome.{outcome}
use Rattle.flashrules.specs.declared.layout.Layout.{Layout}
use Rattle.flashrules.proofs.Picks.{on_test}
use Rattle.imagerules.specs.File.{ParsedImage, image_file, no_image_file, parse_image}
use Rattle.gaugerules.specs.Register.{registers}
use Rattle.gaugerules.specs.Read.{read_error, read}
use Rattle.gaugerules.specs.Script.{Device, reply}
use Rattle.gaugerules.specs.declared.state.Gauge.{Gauge}
use Rattle.gaugerules.proofs.ReadLaws.{read_free}
use Rattle.scriptrules.specs.Frame.{Frame, write_frame, read_frame, supply_frame}
use Rattle.scriptrules.specs.Parser.{ParsedScript, script, no_script, parse_script}
use Rattle.scriptrules.specs.Reply.{reply_text, max_reply, replies}
use Rattle.scriptrules.specs.Replay.{powered_on, output_of, replay}
use Rattle.scriptrules.specs.Laws.{NothingPrinted}
use Rattle.scriptrules.proofs.ScriptLaws.{accepted_script}

-- ---- one reply

-- a read takes no more bytes than it is lent room for
pub read_accepts : (l : Layout) (image : List ℕ) (g : Gauge) (r n : ℕ) (buffer : List ℕ) → (read l image g r n buffer).answer.accepted ≤ length buffer
unfolding read outcome
read_accepts l image g r n buffer =
    on_test (eqb (read_error l (length image) g r n (length buffer)) 0)
    (λ e. rw e (read_free l (length image) g r n (length buffer) (eqb-true _ _ e)).1) (λ e. rw e (omega arith))

pub reply_length : (l : Layout) (d : Device) (f : Frame) → length (reply_text l d f) ≤ max_reply
unfolding reply_text reply
reply_length l d (write_frame r bytes) = omega arith
reply_length l d (read_frame r n) =
    rw (line_length, length-take) (omega (arith, read_accepts l d.image d.gauge r n (replicate registers 0)))
reply_length l d (supply_frame millivolts) = omega arith

-- a reply has its line feed
reply_some : (l : Layout) (d : Device) (f : Frame) → 1 ≤ length (reply_text l d f)
unfolding reply_text
reply_some l d f = rw line_length (omega arith)

-- ---- what prints nothing

replies_none : (l : Layout) (d : Device) (fs : List Frame) → replies l d fs ≡ [] → fs ≡ []
replies_none l d [] e = refl
replies_none l d (f ∷ fs) e = absurd (omega (arith, reply_some l d f, simp length-append at (ap length e)))

pub nothing_printed : NothingPrinted
unfolding replay
nothing_printed x y e = by (parse_image x) (parse_script y) refl e
  where
    by : (i : ParsedImage) (j : ParsedScript) → parse_script y ≡ j → output_of i j ≡ [] → y ≡ []
    by (image_file l bytes) (script fs) p q = sym ((accepted_script y []).0 (rw (replies_none l (powered_on bytes) fs q) at p)).text
    by (image_file l bytes) no_script p q = absurd (omega (arith, ap length q))
    by no_image_file j p q = absurd (omega (arith, ap length q))
