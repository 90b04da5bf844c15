-- Two different answers of a call have different numbers.
use Rattle.std.specs.Prelude.{◌≡◌, Result, Ok, Err}
use mathlib.Core.Path.{ap}
use native.Mathlib.Omega.{arith}
use Rattle.flashrules.proofs.ErrorLaws.{number_some, numbers_apart}
use Rattle.parameterrules.specs.AnswerLaws.{ValueAnswersApart}
use Rattle.parameterrules.specs.declared.parameter.ParameterValue.{ParameterValue}

pub value_answers_apart : ValueAnswersApart
value_answers_apart (Ok v) (Ok w) p =
    let x : v.value ≡ w.value = ap (λ (a : ParameterValue). a.value) p in
    let b : v.in_range ≡ w.in_range = ap (λ (a : ParameterValue). a.in_range) p in
    let e : v ≡ w = λ i. record { value = x i; in_range = b i } in ap Ok e
value_answers_apart (Ok v) (Err f) p = let e = ap (λ (a : ParameterValue). a.error) p in absurd (omega (arith, e, number_some f))
value_answers_apart (Err e) (Ok w) p = let f = ap (λ (a : ParameterValue). a.error) p in absurd (omega (arith, f, number_some e))
value_answers_apart (Err e) (Err f) p = ap Err (numbers_apart e f (ap (λ (a : ParameterValue). a.error) p))
