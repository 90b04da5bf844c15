-- Two different answers of a call have different numbers.
use Rattle.std.specs.Prelude.{ℕ, ◌≡◌, Result, Ok, Err}
use mathlib.Core.Path.{ap}
use native.Mathlib.Omega.{arith}
use Rattle.flashrules.proofs.ErrorLaws.{number_some, numbers_apart}
use Rattle.imagerules.specs.Answer.{FileReadAnswer, FileWriteAnswer}
use Rattle.imagerules.specs.AnswerLaws.{FileReadsApart, FileWritesApart}

pub file_reads_apart : FileReadsApart
file_reads_apart (Ok v) (Ok w) p =
    let l : v.layout ≡ w.layout = ap (λ (a : FileReadAnswer). a.layout) p in
    let n : v.length ≡ w.length = ap (λ (a : FileReadAnswer). a.length) p in
    let e : v ≡ w = λ i. record { layout = l i; length = n i } in ap Ok e
file_reads_apart (Ok v) (Err f) p = let e = ap (λ (a : FileReadAnswer). a.error) p in absurd (omega (arith, e, number_some f))
file_reads_apart (Err e) (Ok w) p = let f = ap (λ (a : FileReadAnswer). a.error) p in absurd (omega (arith, f, number_some e))
file_reads_apart (Err e) (Err f) p = ap Err (numbers_apart e f (ap (λ (a : FileReadAnswer). a.error) p))

pub file_writes_apart : FileWritesApart
file_writes_apart (Ok n) (Ok m) p = ap Ok (ap (λ (a : FileWriteAnswer). a.length) p)
file_writes_apart (Ok n) (Err f) p = let e = ap (λ (a : FileWriteAnswer). a.error) p in absurd (omega (arith, e, number_some f))
file_writes_apart (Err e) (Ok m) p = let f = ap (λ (a : FileWriteAnswer). a.error) p in absurd (omega (arith, f, number_some e))
file_writes_apart (Err e) (Err f) p = ap Err (numbers_apart e f (ap (λ (a : FileWriteAnswer). a.error) p))
