-- Reply lines as the code puts them into a buffer, and the replies that they are.
use Prim.Native.Nat.{ℕ, ◌+◌, ◌*◌, ◌/◌, ◌%◌, ◌≤◌}
use mathlib.Core.Path.{◌≡◌, refl, ◌∙◌}
use mathlib.Core.List.{List, [], ◌∷◌}
use native.Mathlib.Omega.{arith}
use lib.ListN.{length, take, replicate, length-take}
use lib.Seq.{sets}
use Rattle.hextext.specs.Hex.{digit, hex, hex_line}
use Rattle.hextext.proofs.Laws.{line_length}
use Rattle.hextext.proofs.StoreLaws.{sets_on}
use Rattle.flashrules.specs.Outcome.{outcome}
use Rattle.flashrules.specs.declared.layout.Layout.{Layout}
use Rattle.gaugerules.specs.Register.{registers}
use Rattle.gaugerules.specs.Write.{write}
use Rattle.gaugerules.specs.Read.{read}
use Rattle.gaugerules.specs.Supply.{set_supply}
use Rattle.gaugerules.specs.Script.{reply, after_call}
use Rattle.gaugerules.specs.declared.state.Gauge.{Gauge}
use Rattle.gaugerules.specs.declared.answer.Written.{Written}
use Rattle.gaugerules.specs.Answer.{write_answer, read_answer, supply_answer}
use Rattle.std.specs.Prelude.{Result, Ok, Err}
use Rattle.flashrules.specs.Error.{number, number_or_none}
use Rattle.flashrules.specs.declared.error.Error.{Error}
use Rattle.scriptrules.specs.Frame.{write_frame, read_frame, supply_frame}
use Rattle.scriptrules.specs.Reply.{reply_text, after_frame}
use Rattle.scriptrules.specs.Session.{report_replies, session, runner, frame_text, after_line}
use Rattle.scriptrules.specs.Run.{lend, answered, run_frame}
use Rattle.scriptrules.specs.declared.session.Session.{Session}
use Rattle.scriptrules.proofs.ReplyLaws.{read_accepts}

-- a line behind its first byte
pub line_put : (b : ℕ) (bs r r₁ r₂ : List ℕ) (at : ℕ) → r₁ ≡ sets r at (hex (b ∷ [])) → r₂ ≡ sets r₁ (at + 2) (hex_line bs)
    → r₂ ≡ sets r at (hex_line (b ∷ bs))
line_put b bs r r₁ r₂ at p q = q ∙ sets_on r r₁ at (at + 2) (hex (b ∷ [])) (hex_line bs) p refl

-- two digits tell a number's low eight bits
module _ (n : ℕ) where
  low_high : digit (n % 256 / 16) ≡ digit (n / 16)
  unfolding digit
  low_high = let h : n % 256 / 16 % 16 ≡ n / 16 % 16 = omega arith in rw h

  low_low : digit (n % 256) ≡ digit n
  unfolding digit
  low_low = let h : n % 256 % 16 ≡ n % 16 = omega arith in rw h

module _ (l : Layout) (image : List ℕ) (r : ℕ) where
  pub read_few : (g : Gauge) (v v' : List ℕ) (n : ℕ) (a : Result ℕ Error) → outcome (read_answer a) v' ≡ read l image g r n v
      → (read_answer a).accepted ≤ length v
  unfolding outcome
  read_few g v v' n a p = rw (← p) at (read_accepts l image g r n v)

  module _ (s : Session) where
    pub write_answered : (bytes buffer image' buffer' : List ℕ) (w : Written) (e n c at : ℕ)
        → outcome (write_answer w) image' ≡ write l image s.gauge r bytes → e ≡ number_or_none w.error → n ≡ w.accepted % 256 → c ≡ w.changed % 256
        → buffer' ≡ sets buffer at (hex_line (e ∷ n ∷ c ∷ []))
        → outcome (answered 0 (session w.gauge s.notes) 7) (lend image' buffer') ≡ run_frame l report_replies (runner s image) (write_frame r bytes) buffer at
    unfolding run_frame frame_text after_line reply_text after_frame reply after_call outcome
    write_answered bytes buffer image' buffer' w e n c at p x q t h =
        rw (← p, h, x, q, t, low_high w.accepted, low_low w.accepted, low_high w.changed, low_low w.changed)

    -- a read that was accepted, and one that was refused
    module _ (buffer buffer' v : List ℕ) (a : Result ℕ Error) (n at : ℕ) (p : outcome (read_answer a) v ≡ read l image s.gauge r n (replicate registers 0)) where
      pub read_answered : (k : ℕ) → a ≡ Ok k → (read_answer a).accepted ≤ registers → length v ≡ registers
          → buffer' ≡ sets buffer at (hex_line (0 ∷ take k v))
          → outcome (answered 0 s (3 + 2 * k)) (lend image buffer') ≡ run_frame l report_replies (runner s image) (read_frame r n) buffer at
      unfolding run_frame frame_text after_line reply_text after_frame reply after_call outcome
      read_answered k q h j e =
          let few : k ≤ registers = rw q at h in
          let m : length (hex_line (0 ∷ take k v)) ≡ 3 + 2 * k = line_length (0 ∷ take k v) ∙ rw length-take (omega arith) in
          rw (← p, q, e, ← m)

      pub read_not_answered : (x : Error) → a ≡ Err x → buffer' ≡ sets buffer at (hex_line (number x ∷ []))
          → outcome (answered 0 s 3) (lend image buffer') ≡ run_frame l report_replies (runner s image) (read_frame r n) buffer at
      unfolding run_frame frame_text after_line reply_text after_frame reply after_call outcome
      read_not_answered x q e = rw (← p, q, e)

module _ (l : Layout) (image : List ℕ) (s : Session) where
  pub supply_answered : (buffer buffer' : List ℕ) (x : Result Gauge Error) (e millivolts at : ℕ) (g : Gauge)
      → supply_answer s.gauge x ≡ set_supply l (length image) s.gauge millivolts
      → e ≡ (supply_answer s.gauge x).error → g ≡ (supply_answer s.gauge x).gauge → buffer' ≡ sets buffer at (hex_line (e ∷ []))
      → outcome (answered 0 (session g s.notes) 3) (lend image buffer') ≡ run_frame l report_replies (runner s image) (supply_frame millivolts) buffer at
  unfolding run_frame frame_text after_line reply_text after_frame reply after_call outcome
  supply_answered buffer buffer' x e millivolts at g p q t h = rw (← p, h, q, t)

-- what proves `put_line`, and the replies
pub ruleset put_lines = (line_put)

pub ruleset writes = (write_answered)

pub ruleset reads = (read_few, read_answered, read_not_answered)

pub ruleset supplies = (supply_answered)
