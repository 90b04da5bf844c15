-- Two different answers of a call have different numbers, so an equation about the numbers leaves
-- nothing of the answer free.
use Rattle.std.specs.Prelude.{ℕ, ◌≡◌, Result, Ok, Err}
use mathlib.Core.Path.{refl, ap}
use native.Mathlib.Omega.{arith}
use Rattle.flashrules.specs.declared.error.Error.{Error}
use Rattle.flashrules.proofs.ErrorLaws.{number_some, numbers_apart, none_apart}
use Rattle.gaugerules.specs.Answer.{ByteAnswer, WriteAnswer, ReadAnswer, SupplyAnswer, byte_answer, write_answer, read_answer, supply_answer}
use Rattle.gaugerules.specs.AnswerLaws.{ByteAnswersApart, WriteAnswersApart, ReadAnswersApart, SupplyAnswersApart}
use Rattle.gaugerules.specs.declared.answer.ByteWritten.{ByteWritten}
use Rattle.gaugerules.specs.declared.answer.Written.{Written}
use Rattle.gaugerules.specs.declared.state.Gauge.{Gauge}

byte_error : (g : Gauge) (r s : Result ByteWritten Error) → byte_answer g r ≡ byte_answer g s → (byte_answer g r).error ≡ (byte_answer g s).error
byte_error g r s p = ap (λ (a : ByteAnswer). a.error) p

pub byte_answers_apart : ByteAnswersApart
byte_answers_apart g (Ok v) (Ok w) p =
    let a : v.changed ≡ w.changed = ap (λ (a : ByteAnswer). a.changed) p in
    let b : v.gauge ≡ w.gauge = ap (λ (a : ByteAnswer). a.gauge) p in
    let c : v ≡ w = λ i. record { changed = a i; gauge = b i } in ap Ok c
byte_answers_apart g (Ok v) (Err f) p = let e = byte_error g (Ok v) (Err f) p in absurd (omega (arith, e, number_some f))
byte_answers_apart g (Err e) (Ok w) p = let f = byte_error g (Err e) (Ok w) p in absurd (omega (arith, f, number_some e))
byte_answers_apart g (Err e) (Err f) p = ap Err (numbers_apart e f (byte_error g (Err e) (Err f) p))

pub write_answers_apart : WriteAnswersApart
write_answers_apart v w p =
    let e : v.error ≡ w.error = none_apart v.error w.error (ap (λ (a : WriteAnswer). a.error) p) in
    let n : v.accepted ≡ w.accepted = ap (λ (a : WriteAnswer). a.accepted) p in
    let c : v.changed ≡ w.changed = ap (λ (a : WriteAnswer). a.changed) p in
    let g : v.gauge ≡ w.gauge = ap (λ (a : WriteAnswer). a.gauge) p in
    λ i. record { error = e i; accepted = n i; changed = c i; gauge = g i }

pub read_answers_apart : ReadAnswersApart
read_answers_apart (Ok n) (Ok m) p = ap Ok (ap (λ (a : ReadAnswer). a.accepted) p)
read_answers_apart (Ok n) (Err f) p = let e = ap (λ (a : ReadAnswer). a.error) p in absurd (omega (arith, e, number_some f))
read_answers_apart (Err e) (Ok m) p = let f = ap (λ (a : ReadAnswer). a.error) p in absurd (omega (arith, f, number_some e))
read_answers_apart (Err e) (Err f) p = ap Err (numbers_apart e f (ap (λ (a : ReadAnswer). a.error) p))

pub supply_answers_apart : SupplyAnswersApart
supply_answers_apart g (Ok h) (Ok k) p = ap Ok (ap (λ (a : SupplyAnswer). a.gauge) p)
supply_answers_apart g (Ok h) (Err f) p = let e = ap (λ (a : SupplyAnswer). a.error) p in absurd (omega (arith, e, number_some f))
supply_answers_apart g (Err e) (Ok k) p = let f = ap (λ (a : SupplyAnswer). a.error) p in absurd (omega (arith, f, number_some e))
supply_answers_apart g (Err e) (Err f) p = ap Err (numbers_apart e f (ap (λ (a : SupplyAnswer). a.error) p))
