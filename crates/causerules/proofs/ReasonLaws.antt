-- A reason holds where it is named, and does not begin to hold without a byte that gives it. Each
-- error goes back to the row of the table that has its number; and bytes that neither write nor
-- load the window leave it, or leave none loaded.
use Prim.Native.Nat.{ℕ, ◌+◌, ◌<◌}
use mathlib.Core.Path.{◌≡◌, refl, sym, ◌∙◌}
use mathlib.Core.Logic.{⊎_elim}
use mathlib.Core.Bool.{Bool, true, false, not, true≢false}
use mathlib.Core.List.{List, [], ◌∷◌}
use native.Mathlib.Omega.{arith}
use lib.Dec.{eqb, leb}
use lib.ListN.{length}
use borrow.Author.Tests.{eqb-true, eqb-false, not-false, eq-eqb, le-leb, lt-leb}
use Rattle.flashrules.specs.Error.{read_only, sealed_register, unknown_class, unknown_block, nothing_loaded, protected_block, wrong_checksum}
use Rattle.flashrules.specs.Error.{invalid_control, protected_keys, low_supply}
use Rattle.flashrules.specs.Choice.{and}
use Rattle.flashrules.specs.Refusal.{first_error}
use Rattle.flashrules.specs.Outcome.{Outcome, outcome}
use Rattle.flashrules.specs.Layout.{fits}
use Rattle.flashrules.specs.declared.layout.Layout.{Layout}
use Rattle.flashrules.proofs.Picks.{pick_last, and_first, and_rest, same_refl, on_cond, on_test}
use Rattle.flashrules.proofs.RefusalLaws.{first_in}
use Rattle.gaugerules.specs.State.{is_sealed, general_access, loaded_of, none_loaded}
use Rattle.gaugerules.specs.Register.{data_flash_class, block_data_checksum, block_data_control, register_of}
use Rattle.gaugerules.specs.Word.{word, obey}
use Rattle.gaugerules.specs.Transfer.{is_protected}
use Rattle.gaugerules.specs.Write.{write_at, write_byte, written, write_bytes, call_tests, call_error, write}
use Rattle.gaugerules.specs.Table.{byte_tests, row2, row3, row4, row5, row6, row7, row8, row9, row16, row17}
use Rattle.gaugerules.specs.declared.state.Gauge.{Gauge}
use Rattle.gaugerules.specs.declared.register.Register.{Register}
use Rattle.gaugerules.specs.Answer.{ByteAnswer}
use Rattle.gaugerules.specs.Answer.{WriteAnswer}
use Rattle.gaugerules.proofs.Laws.{byte_error, refused_byte}
use Rattle.gaugerules.proofs.ByteCases.{on_class, on_control, on_commit, on_word}
use Rattle.gaugerules.proofs.RegisterLaws.{on_register}
use Rattle.gaugerules.proofs.RunLaws.{called}
use Rattle.gaugerules.proofs.ValidLaws.{valid_parts}
use Rattle.gaugerules.proofs.WindowLaws.{Whole, byte_whole}
use Rattle.causerules.specs.History.{Step, step}
use Rattle.causerules.specs.Cause.{begins, gives, sets_at, reason_of}
use Rattle.causerules.specs.Laws.{holds_for, gave_for, Tells, ReasonHolds, ReasonTold}
use Rattle.causerules.specs.declared.reason.Reason.{Reason}
use Rattle.causerules.proofs.HistoryLaws.{each_write}

-- ---- by the error

-- what a byte met that was refused with 8
pub record Mismatched (g : Gauge) (r : ℕ) : Type 0 where
  pub register : r ≡ block_data_checksum
  pub loaded : none_loaded g ≡ false
  pub free : is_protected g ≡ false

module _ (l : Layout) (image : List ℕ) (g : Gauge) (r byte : ℕ) where
  -- so it met 0x60, as no row before its own held
  mismatched : row6 g r ≡ false → row7 g r ≡ false → row8 g r byte ≡ true → Mismatched g r
  mismatched n p d =
      let at = eqb-true r block_data_checksum (and_first _ _ d) in
      record { register = at; loaded = pick_last _ _ refl ∙ rw at at n; free = pick_last _ _ refl ∙ rw at at p }

  -- a proof by the cases of the error, with what its row says of the gauge
  on_row : (P : ℕ → Type 0) → P 0 → P read_only → (is_sealed g ≡ true → P sealed_register) → P invalid_control → P unknown_class → P unknown_block
      → (none_loaded g ≡ true → P nothing_loaded) → (is_protected g ≡ true → P protected_block) → (Mismatched g r → P wrong_checksum) → P protected_keys → P low_supply
      → P (first_error (byte_tests l image g r byte))
  on_row P none p2 p3 p9 p4 p5 p6 p7 p8 p16 p17 =
      on_cond P (row2 r) _ _ (λ _. p2) (λ _.
      on_cond P (row3 g r) _ _ (λ t. p3 (search (and_first, and_rest))) (λ _.
      on_cond P (row9 r byte) _ _ (λ _. p9) (λ _.
      on_cond P (row4 l g r) _ _ (λ _. p4) (λ _.
      on_cond P (row5 l g r byte) _ _ (λ _. p5) (λ _.
      on_cond P (row6 g r) _ _ (λ t. p6 (search (and_first, and_rest))) (λ n.
      on_cond P (row7 g r) _ _ (λ t. p7 (search (and_first, and_rest))) (λ p.
      on_cond P (row8 g r byte) _ _ (λ t. p8 (mismatched n p t)) (λ _.
      on_cond P (row16 l image g r) _ _ (λ _. p16) (λ _.
      on_cond P (row17 g r) _ _ (λ _. p17) (λ _. none))))))))))

module _ (l : Layout) (image : List ℕ) (g : Gauge) (r byte : ℕ) (f : fits l (length image) ≡ true) where
  pub wrong_checksum_lem : (write_byte l image g r byte).answer.error ≡ wrong_checksum → Mismatched g r
  wrong_checksum_lem e =
      on_row l image g r byte (λ e. e ≡ wrong_checksum → Mismatched g r) (λ z. absurd (omega arith)) (λ z. absurd (omega arith))
      (λ _ z. absurd (omega arith)) (λ z. absurd (omega arith)) (λ z. absurd (omega arith)) (λ z. absurd (omega arith))
      (λ _ z. absurd (omega arith)) (λ _ z. absurd (omega arith)) (λ m _. m) (λ z. absurd (omega arith)) (λ z. absurd (omega arith)) (rw (byte_error l image g r byte f) at e)

  holds : let e = (write_byte l image g r byte).answer.error in holds_for (reason_of e g) g g ≡ true
  unfolding reason_of
  holds =
      let class = eq-eqb g.class g.class refl in
      rw (byte_error l image g r byte f)
      (on_row l image g r byte (λ e. holds_for (reason_of e g) g g ≡ true) refl refl (λ s. s) refl class
      (on_cond (λ (why : Reason). holds_for why g g ≡ true) (general_access g) _ _ (λ _. class) (λ _. refl)) (λ n. n) (λ p. p)
      (λ m. rw (m.loaded, same_refl g.window)) refl refl)

abbrev Holds : WriteAnswer → Type 0
Holds w = holds_for (reason_of w.error w.gauge) w.gauge w.gauge ≡ true

-- a refused byte leaves the gauge that it met
run_holds : (l : Layout) (bs image : List ℕ) (g : Gauge) (r n c : ℕ) → fits l (length image) ≡ true → Whole g → Holds (write_bytes l image g r n c bs).answer
unfolding write_bytes write_byte reason_of outcome
run_holds l [] image g r n c f h = refl
run_holds l (b ∷ bs) image g r n c f h =
    let s = write_byte l image g r b in
    let k = byte_whole l image g b h (register_of r) in
    on_test (eqb s.answer.error 0)
    (λ p. rw p (run_holds l bs s.lent s.answer.gauge (r + 1) (n + 1) (c + s.answer.changed) (rw k.1 f) k.0))
    (λ p. rw (p, (refused_byte l image g r b (eqb-false s.answer.error 0 p)).0) (holds l image g r b f))

pub reason_holds : ReasonHolds
unfolding write call_error reason_of outcome
reason_holds l image g r bytes f =
    let tests = call_tests l (length image) g r (length bytes) in
    on_test (eqb (first_error tests) 0)
    (λ p.
    let c = called l (length image) g r (length bytes) (eqb-true _ _ p) in
    rw p (run_holds l bytes image g r 0 0 f (valid_parts l g c.sound).range.window))
    (λ p. rw p (first_in (λ e. Holds (written e 0 0 g)) tests refl (refl, (refl, (refl, tt)))))

-- ---- without a byte that gives it

-- what begins to hold did not hold before
told_begun : (P : Gauge → Bool) (s : Step) → Tells (begins P) (λ t. not (P t.before)) P s
told_begun P s = record {
  picked = λ b p. pick_last _ _ refl ∙ rw p at b;
  other = λ n p. let none = pick_last _ _ refl ∙ rw p at n in (not-false _ none, none);
}

told_class : (met : Gauge) (s : Step) → Tells (gives Reason.Class) (gave_for Reason.Class met) (holds_for Reason.Class met) s
told_class met s = record {
  picked = λ b p. rw (eqb-true s.after.class met.class p) at b;
  other = λ n p.
      let before : eqb s.before.class met.class ≡ true = rw (eqb-true s.before.class s.after.class (not-false _ n)) p in
      (before, rw before);
}

module _ (met g : Gauge) where
  -- a window that stands in a gauge after a byte, with a block loaded, stood there before it
  abbrev Stood : Gauge → Type 0
  Stood k = holds_for Reason.Window met k ≡ true → holds_for Reason.Window met g ≡ true

  -- none stands where none is loaded, so that the test comes to false
  gone : false ≡ true → holds_for Reason.Window met g ≡ true
  gone t = absurd (true≢false (sym t))

  module _ (l : Layout) (image : List ℕ) (byte : ℕ) where
    abbrev ToStood : ByteAnswer → Type 0
    ToStood s = Stood s.gauge

    word_stood : (w : ℕ) → Stood (obey l image g w)
    unfolding loaded_of
    word_stood w = on_word Stood l image g w (λ t. t) gone gone (λ _ t. t) (λ _ t. t) (λ _ _ t. t)

    window_stood : (k : Register) → sets_at k ≡ false → ToStood (write_at k l image g byte).answer
    unfolding write_at outcome loaded_of
    window_stood Register.ControlLow n = λ t. t
    window_stood Register.ControlHigh n = word_stood (word g.low byte)
    window_stood Register.DataFlashClass n = on_class ToStood g byte (λ t. t) (λ _. gone)
    window_stood Register.DataFlashBlock n = absurd (true≢false n)
    window_stood (Register.BlockData k) n = absurd (true≢false n)
    window_stood Register.BlockDataChecksum n =
        on_commit (λ (s : Outcome ByteAnswer (List ℕ)). ToStood s.answer) l image g byte (λ _ t. t) (λ t. t)
    window_stood Register.BlockDataControl n = on_control ToStood g byte (λ t. t) (λ _ _. gone) (λ t. t)
    window_stood Register.Other n = λ t. t

    window_kept : (r : ℕ) → sets_at (register_of r) ≡ false → ToStood (write_byte l image g r byte).answer
    unfolding write_byte
    window_kept r = window_stood (register_of r)

-- the registers that write or load the window
set_at : (r : ℕ) → sets_at (register_of r) ≡ and (leb 0x3F r ∷ leb r 0x5F ∷ [])
set_at r =
    on_register (λ (k : Register). sets_at k ≡ and (leb 0x3F r ∷ leb r 0x5F ∷ [])) r (λ e. rw e) (λ e. rw e) (λ e. rw e) (λ e. rw e)
    (λ k e h. rw (le-leb 0x3F r (omega arith), le-leb r 0x5F (omega arith))) (λ e. rw e) (λ e. rw e)
    (λ _ o.
    ⊎_elim (λ (b : r < data_flash_class). rw (lt-leb 0x3F r (omega arith))) (λ (a : block_data_control < r). rw (le-leb 0x3F r (omega arith), lt-leb r 0x5F (omega arith)))
    o)

told_window : (l : Layout) (image : List ℕ) (met g : Gauge) (line r byte : ℕ)
    → Tells (gives Reason.Window) (gave_for Reason.Window met) (holds_for Reason.Window met) (step line r g (write_byte l image g r byte).answer.gauge)
told_window l image met g line r byte = record {
  picked = λ b _. sym (set_at r) ∙ b;
  other = λ n p. (window_kept met g l image byte r n p, sym (set_at r) ∙ n);
}

-- of any reason, where it is so of the window
pub told : (met : Gauge) (s : Step) → Tells (gives Reason.Window) (gave_for Reason.Window met) (holds_for Reason.Window met) s
    → (why : Reason) → Tells (gives why) (gave_for why met) (holds_for why met) s
told met s w Reason.Itself = record { picked = λ b _. absurd (true≢false (sym b)); other = λ _ _. (refl, refl) }
told met s w Reason.Sealed = told_begun is_sealed s
told met s w Reason.NothingLoaded = told_begun none_loaded s
told met s w Reason.Protected = told_begun is_protected s
told met s w Reason.Class = told_class met s
told met s w Reason.Window = w

pub reason_told : ReasonTold
reason_told l image g line r bytes why met =
    each_write l line (Tells (gives why) (gave_for why met) (holds_for why met))
    (λ image g r b. told met (step line r g _) (told_window l image met g line r b) why) image g r bytes
