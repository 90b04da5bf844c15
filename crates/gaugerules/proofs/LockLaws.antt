-- The lock of a gauge: what decides which words open it. Only bytes at 0x00 and 0x01 touch it, and
-- a write makes one word at most, since the register after 0x01 takes no write; so a law of writes
-- goes by the word that each makes.
use Prim.Native.Nat.{ℕ, ◌+◌, ◌≤◌, ◌<◌}
use mathlib.Core.Path.{◌≡◌, refl, ◌∙◌}
use mathlib.Core.Bool.{false}
use mathlib.Core.List.{List, [], ◌∷◌}
use native.Mathlib.Omega.{arith}
use lib.Dec.{eqb}
use lib.ListN.{length, get_or, take}
use borrow.Author.Tests.{ne_eqb, eqb-true, eqb-false}
use Rattle.flashrules.specs.Outcome.{Outcome, outcome}
use Rattle.flashrules.specs.declared.layout.Layout.{Layout}
use Rattle.flashrules.proofs.Picks.{on_test}
use Rattle.gaugerules.specs.State.{with_low}
use Rattle.gaugerules.specs.Register.{control_low, control_high, register_of}
use Rattle.gaugerules.specs.Word.{word, obey}
use Rattle.gaugerules.specs.Transfer.{accept}
use Rattle.gaugerules.specs.Write.{write_at, write_byte, write_bytes, call_error, write}
use Rattle.gaugerules.specs.Script.{made}
use Rattle.gaugerules.specs.declared.state.Gauge.{Gauge}
use Rattle.gaugerules.specs.Answer.{WriteAnswer}
use Rattle.gaugerules.proofs.KeptLaws.{Untouched, byte_keeps_part}
use Rattle.gaugerules.proofs.RunLaws.{goes_on, ends_after_word}

-- what a word is obeyed by, beside the keys of the image
pub record Lock : Type 0 where
  pub mode : ℕ
  pub boot : ℕ
  pub low : ℕ
  pub pending : ℕ

abbrev pub lock : Gauge → Lock
lock g = record { mode = g.mode; boot = g.boot; low = g.low; pending = g.pending }

-- ---- a byte at any register but 0x00 and 0x01 leaves the lock

not_control : (r : ℕ) → control_high < r → (eqb r control_low ≡ false) × (eqb r control_high ≡ false)
not_control r h = (ne_eqb r control_low (λ e. omega arith), ne_eqb r control_high (λ e. omega arith))

lock_untouched : Untouched lock
lock_untouched = record { class = λ g i. refl; control = λ g x. refl; load = λ g byte i b w. refl; window = λ g w. refl }

pub byte_keeps : (l : Layout) (image : List ℕ) (g : Gauge) (byte r : ℕ) → control_high < r → lock (write_byte l image g r byte).answer.gauge ≡ lock g
byte_keeps l image g byte r h = byte_keeps_part lock lock_untouched l image g byte r (λ e. absurd (omega arith)) (λ e. absurd (omega arith))

-- so does a run that begins above them, since its registers only grow
pub run_keeps : (l : Layout) (bs image : List ℕ) (g : Gauge) (r n c : ℕ) → control_high < r → lock (write_bytes l image g r n c bs).answer.gauge ≡ lock g
unfolding write_bytes outcome
run_keeps l [] image g r n c h = refl
run_keeps l (b ∷ bs) image g r n c h =
    let s = write_byte l image g r b in
    let e : lock s.answer.gauge ≡ lock g = byte_keeps l image g b r h in
    on_test (eqb s.answer.error 0)
    (λ p. rw p (run_keeps l bs s.lent s.answer.gauge (r + 1) (n + 1) (c + s.answer.changed) (omega arith) ∙ e)) (λ p. rw p e)

-- ---- the run of a write makes one word or none

none_made : (low r : ℕ) (bs : List ℕ) → control_high < r → made low r bs ≡ []
unfolding made
none_made low r [] h = refl
none_made low r (b ∷ bs) h = rw ((not_control r h).0, (not_control r h).1)

module _ (l : Layout) (image : List ℕ) where
  -- a byte at 0x00 is the low byte of the next word
  run_low : (g : Gauge) (b : ℕ) (bs : List ℕ) → write_bytes l image g control_low 0 0 (b ∷ bs) ≡ write_bytes l image (with_low g b) control_high 1 0 bs
  unfolding write_byte write_at register_of outcome
  run_low g b bs = goes_on l image g control_low 0 0 b bs (accept (with_low g b)) image refl refl

  -- a byte at 0x01 makes a word, and no byte after it is accepted
  run_high : (g : Gauge) (n b : ℕ) (bs : List ℕ) → let w = write_bytes l image g control_high n 0 (b ∷ bs) in
      (w.answer.gauge ≡ obey l image g (word g.low b)) × (w.answer.accepted ≡ n + 1)
  unfolding write_bytes write_byte write_at register_of outcome
  run_high g n b [] = (refl, refl)
  run_high g n b (c ∷ bs) = (refl, refl)

  -- so a write there leaves the image
  high_leaves : (g : Gauge) (n : ℕ) (bytes : List ℕ) → (write_bytes l image g control_high n 0 bytes).lent ≡ image
  unfolding write_bytes write_byte write_at register_of outcome
  high_leaves g n [] = refl
  high_leaves g n (b ∷ bs) = (ends_after_word l image (obey l image g (word g.low b)) (n + 1) (0 + 0) bs).1

  low_leaves : (g : Gauge) (bytes : List ℕ) → (write_bytes l image g control_low 0 0 bytes).lent ≡ image
  unfolding write_bytes outcome
  low_leaves g [] = refl
  low_leaves g (b ∷ bs) = rw (run_low g b bs) (high_leaves (with_low g b) 1 bs)

  pub control_leaves : (g : Gauge) (r : ℕ) (bytes : List ℕ) → r ≤ control_high → (write_bytes l image g r 0 0 bytes).lent ≡ image
  control_leaves g r bytes h =
      on_test (eqb r control_low) (λ p. rw (eqb-true r control_low p) (low_leaves g bytes))
      (λ p. let q : r ≡ control_high = omega (arith, eqb-false r control_low p) in rw q (high_leaves g 0 bytes))

-- ---- a law of writes, by the word that each makes

-- what is known of the gauge before, K, and is to be shown of its lock after the words `now`, P; of
-- the bytes sent, B is known
module _ (l : Layout) (image : List ℕ) (B : ℕ → Type 0) (K : Gauge → Type 0) (P : List ℕ → Lock → Type 0)
    (with_low_lem : (g : Gauge) (b : ℕ) → B b → K g → K (with_low g b))
    (no_word : (g : Gauge) → K g → P [] (lock g))
    (one_word : (g : Gauge) (b : ℕ) → B b → K g → P (word g.low b ∷ []) (lock (obey l image g (word g.low b)))) where
  abbrev pub Sends : List ℕ → Type 0
  Sends bytes = (j : ℕ) → B (get_or bytes j 0)

  module _ (g : Gauge) (k : K g) where
    abbrev pub After : ℕ → List ℕ → Outcome WriteAnswer (List ℕ) → Type 0
    After r bytes w = P (made g.low r (take w.answer.accepted bytes)) (lock w.answer.gauge)

    runs_low : (bytes : List ℕ) → Sends bytes → After control_low bytes (write_bytes l image g control_low 0 0 bytes)
    unfolding write_bytes outcome made
    runs_low [] s = no_word g k
    runs_low (b ∷ []) s = rw (run_low l image g b []) (no_word (with_low g b) (with_low_lem g b (s 0) k))
    runs_low (b ∷ c ∷ bs) s =
        let w = run_high l image (with_low g b) 1 c bs in
        rw (run_low l image g b (c ∷ bs), w.0, w.1) (one_word (with_low g b) c (s 1) (with_low_lem g b (s 0) k))

    runs_high : (bytes : List ℕ) → Sends bytes → After control_high bytes (write_bytes l image g control_high 0 0 bytes)
    unfolding write_bytes outcome made
    runs_high [] s = no_word g k
    runs_high (b ∷ bs) s = let w = run_high l image g 0 b bs in rw (w.0, w.1) (one_word g b (s 0) k)

    runs_above : (r : ℕ) (bytes : List ℕ) → control_high < r → After r bytes (write_bytes l image g r 0 0 bytes)
    runs_above r bytes h =
        rw (none_made g.low r (take (write_bytes l image g r 0 0 bytes).answer.accepted bytes) h, run_keeps l bytes image g r 0 0 h) (no_word g k)

    runs : (r : ℕ) (bytes : List ℕ) → Sends bytes → After r bytes (write_bytes l image g r 0 0 bytes)
    runs r bytes s =
        on_test (eqb r control_low) (λ p. rw (eqb-true r control_low p) (runs_low bytes s)) (λ p.
        on_test (eqb r control_high) (λ q. rw (eqb-true r control_high q) (runs_high bytes s)) (λ q.
        runs_above r bytes (omega (arith, eqb-false r control_low p, eqb-false r control_high q))))

    -- a write that fails the checks takes no byte
    pub writes : (r : ℕ) (bytes : List ℕ) → Sends bytes → After r bytes (write l image g r bytes)
    unfolding write outcome made
    writes r bytes s =
        on_test (eqb (call_error l (length image) g r (length bytes)) 0) (λ p. rw p (runs r bytes s)) (λ p. rw p (no_word g k))
