-- Laws of a whole write: it meets 0x60 once or not at all, so that it commits as that byte does;
-- and it is its bytes, one by one.
use Prim.Native.Nat.{ℕ, zero, suc, ◌+◌, ◌-◌, ◌≤◌, ◌<◌}
use mathlib.Core.Path.{◌≡◌, refl, sym, ap, ◌∙◌}
use mathlib.Core.Bool.{true, false, cond}
use mathlib.Core.List.{List, [], ◌∷◌}
use native.Mathlib.Omega.{arith}
use lib.Dec.{eqb}
use lib.ListN.{length, get_or, take}
use borrow.Author.Tests.{eqb-true, eqb-false}
use Rattle.flashrules.specs.Outcome.{Outcome, outcome}
use Rattle.flashrules.specs.Image.{Bytes}
use Rattle.flashrules.specs.declared.layout.Layout.{Layout}
use Rattle.flashrules.proofs.Picks.{on_test}
use Rattle.gaugerules.specs.Register.{block_data_checksum, registers}
use Rattle.gaugerules.specs.Write.{write_byte, written, write_bytes, call_error, write}
use Rattle.gaugerules.specs.Laws.{Good, commits, Committed, Reached, WriteCommits, byte_by_byte, WriteByBytes}
use Rattle.gaugerules.specs.declared.state.Gauge.{Gauge}
use Rattle.gaugerules.specs.Answer.{ByteAnswer}
use Rattle.gaugerules.specs.Answer.{WriteAnswer}
use Rattle.gaugerules.proofs.ByteLaws.{refused_byte, only_commit, accepted_least}
use Rattle.gaugerules.proofs.CommitLaws.{commit_rule}
use Rattle.gaugerules.proofs.RunLaws.{goes_on, stops, called, calls_with}
use Rattle.gaugerules.proofs.ValidLaws.{byte_good}

-- ---- the commit of a run

-- a run in which no byte is accepted at 0x60 leaves the image
run_unreached : (l : Layout) (bs image : List ℕ) (g : Gauge) (r n c : ℕ) → let w = write_bytes l image g r n c bs in
    ((r ≤ block_data_checksum) × (block_data_checksum + n < r + w.answer.accepted) → ⊥) → w.lent ≡ image
unfolding write_bytes outcome
run_unreached l [] image g r n c h = refl
run_unreached l (b ∷ bs) image g r n c h =
    let s = write_byte l image g r b in
    let c' = c + s.answer.changed in
    on_test (eqb s.answer.error 0)
    (λ p.
    let e = goes_on l image g r n c b bs s.answer s.lent refl p in
    let least = accepted_least l bs s.lent s.answer.gauge (r + 1) (n + 1) c' in
    let far = rw e at h in
    on_test (eqb r block_data_checksum) (λ at. absurd (let z = eqb-true r block_data_checksum at in far (omega arith, omega arith)))
    (λ at.
    rw e
    (run_unreached l bs s.lent s.answer.gauge (r + 1) (n + 1) c' (λ k. far (omega (arith, k.0), omega (arith, k.1)))
    ∙ only_commit l image g r b (eqb-false r block_data_checksum at))))
    (λ p. rw (stops l image g r n c b bs s.answer s.lent refl p) (refused_byte l image g r b (eqb-false s.answer.error 0 p)).1)

-- so does one that begins above it
pub run_above : (l : Layout) (bs image : List ℕ) (g : Gauge) (r n c : ℕ) → block_data_checksum < r → (write_bytes l image g r n c bs).lent ≡ image
run_above l bs image g r n c h = run_unreached l bs image g r n c (λ k. omega (arith, k.0))

-- a byte at 0x60 that is accepted commits
byte_commits : (l : Layout) (image : List ℕ) (g : Gauge) (r b : ℕ) → Good l image g → r ≡ block_data_checksum → let s = write_byte l image g r b in
    s.answer.error ≡ 0 → (commits l image g b ≡ true) × Committed l image g s.lent
byte_commits l image g r b o at =
    let rule = commit_rule l image g b o.fits o.valid in
    rw at (λ e. on_test (commits l image g b) (λ c. (c, (rule.0 c).1)) (λ c. absurd ((rule.1 c).0 e)))

-- what is claimed of a run over bs, before whose 0x60 m bytes come: the byte there is accepted if
-- more than these are
abbrev Runs : Layout → List ℕ → ℕ → ℕ → List ℕ → Outcome WriteAnswer (List ℕ) → Gauge → Type 0
Runs l image n m bs w met = n + m < w.answer.accepted → (commits l image met (get_or bs m 0) ≡ true) × Committed l image met w.lent

module _ (l : Layout) (image : List ℕ) (g : Gauge) (r n c b : ℕ) (bs : List ℕ) (o : Good l image g) where
  abbrev s : Outcome ByteAnswer (List ℕ)
  s = write_byte l image g r b

  abbrev run : Outcome WriteAnswer (List ℕ)
  run = write_bytes l image g r n c (b ∷ bs)

  abbrev c' : ℕ
  c' = c + s.answer.changed

  -- the byte is refused: it is the last, and n were accepted
  ends : (m : ℕ) (met : Gauge) → eqb s.answer.error 0 ≡ false → Runs l image n m (b ∷ bs) run met
  unfolding outcome
  ends m met p = rw (stops l image g r n c b bs s.answer s.lent refl p) (λ k. absurd (omega arith))

  -- 0x60 itself
  here : r ≡ block_data_checksum → Runs l image n 0 (b ∷ bs) run g
  unfolding outcome
  here at =
      on_test (eqb s.answer.error 0)
      (λ p.
      let to = s.lent in
      let above = run_above l bs to s.answer.gauge (r + 1) (n + 1) c' (omega arith) in
      let does = byte_commits l image g r b o at (eqb-true s.answer.error 0 p) in
      rw (goes_on l image g r n c b bs s.answer to refl p) (λ _. (does.0, rw above does.1)))
      (λ p. ends 0 g p)

  -- a byte before it leaves the image, and the run goes on
  before : (m : ℕ) → (r ≡ block_data_checksum → ⊥) → eqb s.answer.error 0 ≡ true
      → let h = s.answer.gauge in
      Runs l image (n + 1) m bs (write_bytes l image h (r + 1) (n + 1) c' bs) (write_bytes l image h (r + 1) (n + 1) c' (take m bs)).answer.gauge
      → Runs l image n (suc m) (b ∷ bs) run (write_bytes l image g r n c (b ∷ take m bs)).answer.gauge
  unfolding outcome
  before m other p ih =
      let kept = only_commit l image g r b other in
      let is : s ≡ outcome s.answer image = ap (outcome s.answer) kept in
      rw (goes_on l image g r n c b bs s.answer image is p, goes_on l image g r n c b (take m bs) s.answer image is p)
      (λ k. ih (omega arith))

runs_none : (l : Layout) (image : List ℕ) (g : Gauge) (r n c m : ℕ) (met : Gauge) → Runs l image n m [] (write_bytes l image g r n c []) met
unfolding write_bytes outcome
runs_none l image g r n c m met = λ k. absurd (omega arith)

met_here : (l : Layout) (image : List ℕ) (g : Gauge) (r n c : ℕ) → (write_bytes l image g r n c []).answer.gauge ≡ g
unfolding write_bytes outcome
met_here l image g r n c = refl

runs : (l : Layout) (m : ℕ) (bs : List ℕ) → Bytes bs → (image : List ℕ) (g : Gauge) (r n c : ℕ) → Good l image g → r + m ≡ block_data_checksum
    → Runs l image n m bs (write_bytes l image g r n c bs) (write_bytes l image g r n c (take m bs)).answer.gauge
runs l m [] h image g r n c o e = runs_none l image g r n c m _
runs l zero (b ∷ bs) h image g r n c o e = rw (met_here l image g r n c) (here l image g r n c b bs o (omega arith))
runs l (suc m) (b ∷ bs) h image g r n c o e =
    let t = write_byte l image g r b in
    let other : r ≡ block_data_checksum → ⊥ = λ z. omega arith in
    on_test (eqb t.answer.error 0)
    (λ p.
    let o' : Good l image t.answer.gauge = rw (only_commit l image g r b other) at (byte_good l image g r b (h zero) o) in
    before l image g r n c b bs o m other p
    (runs l m bs (λ k. h (suc k)) image t.answer.gauge (r + 1) (n + 1) (c + t.answer.changed) o' (omega arith)))
    (ends l image g r n c b bs o (suc m) _)

-- ---- the commit of a write

pub write_unreached : (l : Layout) (image : List ℕ) (g : Gauge) (r : ℕ) (bytes : List ℕ) → let w = write l image g r bytes in
    (Reached r w.answer.accepted → ⊥) → w.lent ≡ image
unfolding write outcome
write_unreached l image g r bytes =
    on_test (eqb (call_error l (length image) g r (length bytes)) 0)
    (λ p. rw p (λ h. run_unreached l bytes image g r 0 0 (λ k. h (k.0, omega (arith, k.1)))))
    (λ p. rw p (λ _. refl))

write_reached : (l : Layout) (image : List ℕ) (g : Gauge) (r : ℕ) (bytes : List ℕ) → Bytes bytes → Good l image g
    → let w = write l image g r bytes in
    let met = (write_bytes l image g r 0 0 (take (block_data_checksum - r) bytes)).answer.gauge in
    Reached r w.answer.accepted → (commits l image met (get_or bytes (block_data_checksum - r) 0) ≡ true) × Committed l image met w.lent
unfolding write outcome
write_reached l image g r bytes h o =
    on_test (eqb (call_error l (length image) g r (length bytes)) 0)
    (λ p. rw p (λ k. runs l (block_data_checksum - r) bytes h image g r 0 0 o (omega (arith, k.0)) (omega (arith, k.0, k.1))))
    (λ p. rw p (λ k. absurd (omega (arith, k.0, k.1))))

pub write_commits : WriteCommits
write_commits l image g r bytes h o = (write_reached l image g r bytes h o, write_unreached l image g r bytes)

-- ---- a write is its bytes, one by one

-- a write of one byte does what the byte does
one_write : (l : Layout) (image : List ℕ) (g : Gauge) (r b : ℕ) → Good l image g → r + 1 ≤ registers
    → let s = write_byte l image g r b in let w = write l image g r (b ∷ []) in
    (w.answer.error ≡ s.answer.error) × (w.answer.changed ≡ s.answer.changed) × (w.answer.gauge ≡ s.answer.gauge) × (w.lent ≡ s.lent)
unfolding write write_bytes outcome
one_write l image g r b o h =
    let s = write_byte l image g r b in
    let c = calls_with l (length image) g r 1 (record { fitting = o.fits; sound = o.valid; span = h; some = omega arith }) in
    let none : 0 + s.answer.changed ≡ s.answer.changed = omega arith in
    rw c (on_test (eqb s.answer.error 0) (λ p. rw p (sym (eqb-true _ _ p), none, refl, refl)) (λ p. rw p (refl, none, refl, refl)))

-- a turn of a run by numbers, gauges and images that are equal
same_turn : (next : List ℕ → Gauge → ℕ → Outcome WriteAnswer (List ℕ)) (n c e e' k k' : ℕ) (h h' : Gauge) (to to' : List ℕ)
    → e' ≡ e → k' ≡ k → h' ≡ h → to' ≡ to
    → cond (eqb e 0) (next to h (c + k)) (outcome (written e n (c + k) h) to)
    ≡ cond (eqb e' 0) (next to' h' (c + k')) (outcome (written e' n (c + k') h') to')
same_turn next n c e e' k k' h h' to to' p q r s = rw (p, q, r, s)

by_bytes : (l : Layout) (bs : List ℕ) → Bytes bs → (image : List ℕ) (g : Gauge) (r n c : ℕ) → Good l image g → r + length bs ≤ registers
    → write_bytes l image g r n c bs ≡ byte_by_byte l image g r n c bs
unfolding write_bytes byte_by_byte
by_bytes l [] h image g r n c o k = refl
by_bytes l (b ∷ bs) h image g r n c o k =
    let s = write_byte l image g r b in
    let one = one_write l image g r b o (omega arith) in
    let o' = byte_good l image g r b (h zero) o in
    let c' = c + s.answer.changed in
    let ih = by_bytes l bs (λ j. h (suc j)) s.lent s.answer.gauge (r + 1) (n + 1) c' o' (omega arith) in
    ap (λ (w : Outcome WriteAnswer (List ℕ)). cond (eqb s.answer.error 0) w (outcome (written s.answer.error n c' s.answer.gauge) s.lent)) ih
    ∙ same_turn (λ to g' k'. byte_by_byte l to g' (r + 1) (n + 1) k' bs) n c _ _ _ _ _ _ _ _ one.0 one.1 one.2 one.3

pub write_by_bytes : WriteByBytes
unfolding write
write_by_bytes l image g r bytes hi h e =
    let c = called l (length image) g r (length bytes) e in
    rw e (by_bytes l bytes h image g r 0 0 (record { fits = c.fitting; valid = c.sound; bytes = hi }) c.span)
