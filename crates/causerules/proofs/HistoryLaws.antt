-- Laws of a write's history and of its notes: the history goes byte by byte as the write does, and
-- noting goes byte by byte as the latest byte is looked for.
use Prim.Native.Nat.{ℕ, ◌+◌}
use mathlib.Core.Path.{◌≡◌, refl, sym, ap, ◌∙◌}
use mathlib.Core.Bool.{Bool, cond}
use mathlib.Core.List.{List, [], ◌∷◌, ◌++◌}
use native.Mathlib.Omega.{arith}
use lib.Dec.{eqb}
use lib.ListN.{length}
use borrow.Author.Tests.{eqb-false}
use Rattle.flashrules.specs.Outcome.{outcome}
use Rattle.flashrules.specs.declared.layout.Layout.{Layout}
use Rattle.flashrules.proofs.Picks.{on_test, on_cond}
use Rattle.gaugerules.specs.Write.{write_byte, write_bytes, call_error, write}
use Rattle.gaugerules.specs.declared.state.Gauge.{Gauge}
use Rattle.gaugerules.proofs.Laws.{refused_byte}
use Rattle.causerules.specs.History.{Step, step, byte_steps, write_steps}
use Rattle.causerules.specs.Cause.{latest_or, gives, line_for}
use Rattle.causerules.specs.Notes.{recall, noted, note, note_all}
use Rattle.causerules.specs.Laws.{EachStep, Leads, OfLine, WriteHistory, NotesRemember}
use Rattle.causerules.specs.declared.reason.Reason.{Reason}
use Rattle.causerules.specs.declared.notes.Notes.{Notes}

-- ---- the bytes of a write

-- n bytes were accepted before
run_history : (l : Layout) (line : ℕ) (bs image : List ℕ) (g : Gauge) (r n c : ℕ) → let w = (write_bytes l image g r n c bs).answer in
    let h = byte_steps l image g line r bs in
    (length h + n ≡ w.accepted) × Leads g h w.gauge
unfolding write_bytes byte_steps outcome
run_history l line [] image g r n c = (omega arith, refl)
run_history l line (b ∷ bs) image g r n c =
    let s = write_byte l image g r b in
    let rest = run_history l line bs s.lent s.answer.gauge (r + 1) (n + 1) (c + s.answer.changed) in
    on_test (eqb s.answer.error 0)
    (λ p. rw p (omega (arith, rest.0), (refl, rest.1)))
    (λ p. rw p (omega arith, sym (refused_byte l image g r b (eqb-false s.answer.error 0 p)).0))

whole_history : (l : Layout) (image : List ℕ) (g : Gauge) (line r : ℕ) (bytes : List ℕ) → let w = (write l image g r bytes).answer in
    let h = write_steps l image g line r bytes in
    Leads g h w.gauge × (length h ≡ w.accepted)
unfolding write write_steps outcome
whole_history l image g line r bytes =
    let run = run_history l line bytes image g r 0 0 in
    on_test (eqb (call_error l (length image) g r (length bytes)) 0) (λ p. rw p (run.1, omega (arith, run.0))) (λ p. rw p (refl, refl))

-- what holds of every byte, whatever gauge and image it meets, holds of each one of a history
module _ (l : Layout) (line : ℕ) (Q : Step → Type 0)
    (q : (image : List ℕ) (g : Gauge) (r b : ℕ) → Q (step line r g (write_byte l image g r b).answer.gauge)) where
  each_byte : (bs image : List ℕ) (g : Gauge) (r : ℕ) → EachStep Q (byte_steps l image g line r bs)
  unfolding byte_steps
  each_byte [] image g r = tt
  each_byte (b ∷ bs) image g r =
      let s = write_byte l image g r b in
      on_cond (EachStep Q) (eqb s.answer.error 0) _ _ (λ _. (q image g r b, each_byte bs s.lent s.answer.gauge (r + 1))) (λ _. tt)

  pub each_write : (image : List ℕ) (g : Gauge) (r : ℕ) (bytes : List ℕ) → EachStep Q (write_steps l image g line r bytes)
  unfolding write_steps
  each_write image g r bytes =
      on_cond (EachStep Q) (eqb (call_error l (length image) g r (length bytes)) 0) _ _ (λ _. each_byte bytes image g r) (λ _. tt)

pub write_history : WriteHistory
write_history l image g line r bytes =
    let w = whole_history l image g line r bytes in
    (w.0, w.1, each_write l line (OfLine line) (λ _ _ _ _. refl) image g r bytes)

-- ---- notes

latest_append : (is : Step → Bool) (h more : List Step) (line : ℕ) → latest_or line is (h ++ more) ≡ latest_or (latest_or line is h) is more
latest_append is [] more line = refl
latest_append is (s ∷ h) more line = latest_append is h more (cond (is s) s.line line)

-- no byte gives a refused byte's own line
never : (line : ℕ) (h : List Step) → latest_or line (gives Reason.Itself) h ≡ line
never line [] = refl
never line (s ∷ h) = never line h

pub line_more : (r : Reason) (line : ℕ) (h more : List Step) → line_for r line (h ++ more) ≡ latest_or (line_for r line h) (gives r) more
line_more Reason.Itself line h more = sym (never line more)
line_more Reason.Sealed line h more = latest_append (gives Reason.Sealed) h more 0
line_more Reason.NothingLoaded line h more = latest_append (gives Reason.NothingLoaded) h more 0
line_more Reason.Protected line h more = latest_append (gives Reason.Protected) h more 0
line_more Reason.Class line h more = latest_append (gives Reason.Class) h more 0
line_more Reason.Window line h more = latest_append (gives Reason.Window) h more 0

recall_note : (r : Reason) (n : Notes) (s : Step) → recall (note n s) r ≡ noted n s r
recall_note Reason.Itself n s = refl
recall_note Reason.Sealed n s = refl
recall_note Reason.NothingLoaded n s = refl
recall_note Reason.Protected n s = refl
recall_note Reason.Class n s = refl
recall_note Reason.Window n s = refl

recall_more : (r : Reason) (n : Notes) (more : List Step) → recall (note_all n more) r ≡ latest_or (recall n r) (gives r) more
recall_more r n [] = refl
recall_more r n (s ∷ more) = recall_more r (note n s) more ∙ ap (λ (line : ℕ). latest_or line (gives r) more) (recall_note r n s)

pub notes_line : (n : Notes) (more : List Step) → (note_all n more).line ≡ n.line
notes_line n more = recall_more Reason.Itself n more ∙ never n.line more

pub notes_remember : NotesRemember
notes_remember n h more e r = recall_more r n more ∙ rw (e r, notes_line n more) (sym (line_more r n.line h more))
