-- Laws of the refusals: two good files are refused exactly where their layouts differ.
use Prim.Native.Nat.{ℕ, ◌≤◌}
use mathlib.Core.Path.{◌≡◌, sym, ap, ◌∙◌}
use mathlib.Core.Bool.{true, false}
use mathlib.Core.List.{List}
use native.Mathlib.Omega.{arith}
use lib.ListN.{length, take}
use lib.Seq.{sets, length-take-le}
use borrow.Author.Tests.{le-ltb}
use Rattle.std.specs.Prelude.{Ok, Err}
use Rattle.flashrules.specs.Error.{number, layout_mismatch}
use Rattle.flashrules.specs.Layout.{fits, same_layout}
use Rattle.flashrules.specs.Outcome.{outcome}
use Rattle.flashrules.specs.declared.error.Error.{Error}
use Rattle.flashrules.specs.declared.layout.Layout.{Layout}
use Rattle.flashrules.proofs.ErrorLaws.{number_some, numbers_apart}
use Rattle.flashrules.proofs.Laws.{same_test, same_layout_lem}
use Rattle.flashrules.proofs.Picks.{on_test}
use Rattle.imagerules.specs.Answer.{FileWriteAnswer, write_answer}
use Rattle.imagerules.specs.File.{not_written}
use Rattle.imagerules.proofs.CallLaws.{same_answer}
use Rattle.deltarules.specs.Run.{runs}
use Rattle.deltarules.specs.Text.{serialize_runs, max_runs_text}
use Rattle.deltarules.specs.Compare.{pair_error, compare}
use Rattle.deltarules.proofs.TextLaws.{runs_text_most}
use Rattle.deltarules.proofs.CompareLaws.{compare_within, compare_mismatch}
use Rattle.hostio.proofs.LoadedLaws.{loaded_malformed, loaded_within, front_length, image_fits}

-- what `compare` answers of two good files, and b' what it left of the buffer b
module _ (l : Layout) (old : List ℕ) (l' : Layout) (new b b' : List ℕ) where
  module _ (n : ℕ) (p : outcome (write_answer (Ok n)) b' ≡ compare l old l' new b) (k : length b' ≡ length b) where
    pub list_within : n ≤ length b'
    list_within = rw k (compare_within l old l' new b b' _ p)

    pub list_is : n ≡ length (take n b')
    list_is = sym (length-take-le n b' list_within)

  module _ (f : fits l (length old) ≡ true) (g : fits l' (length new) ≡ true) where
    pub list_same : (n : ℕ) → outcome (write_answer (Ok n)) b' ≡ compare l old l' new b → same_layout l l' ≡ true
    unfolding compare pair_error
    list_same n p =
        on_test (same_layout l l') (λ t. t)
        (λ t.
        let w = write_answer (Ok n) in
        let z : 0 ≡ layout_mismatch = ap (λ (a : FileWriteAnswer). a.error) (same_answer w (not_written layout_mismatch) b' b (rw (f, g, t) at p)) in
        absurd (omega arith))

    pub list_refused : (e : Error) → outcome (write_answer (Err e)) b' ≡ compare l old l' new b → max_runs_text ≤ length b → e ≡ Error.LayoutMismatch
    list_refused e p h =
        numbers_apart e Error.LayoutMismatch (compare_mismatch l old l' new b b' (write_answer (Err e)) p f g h (λ z. omega (arith, number_some e)))

    pub list_other : (e : Error) → outcome (write_answer (Err e)) b' ≡ compare l old l' new b → max_runs_text ≤ length b → same_layout l l' ≡ false
    unfolding compare pair_error
    list_other e p h =
        on_test (same_layout l l')
        (λ t.
        let x = serialize_runs (runs l old new) in
        let same : fits l (length new) ≡ true = (same_layout_lem l l' ((same_test l l').0 t)).fits (length new) ∙ g in
        let room : length x ≤ length b = omega (arith, runs_text_most l old new (record { first = f; second = same })) in
        let w = write_answer (Err e) in
        let v : FileWriteAnswer = record { error = 0; length = length x } in
        let z : number e ≡ 0 = ap (λ (a : FileWriteAnswer). a.error) (same_answer w v b' (sets b 0 x) (rw (f, g, t, le-ltb (length b) (length x) room) at p)) in
        absurd (omega (arith, number_some e)))
        (λ t. t)

-- what proves `show`
pub ruleset shows = (list_within, list_is, list_same, list_refused, list_other)

-- what proves `show_files`
pub ruleset files = (loaded_malformed, loaded_within, front_length, image_fits)
