-- Two different answers of a call have different numbers, and so have two states of the parser.
use Rattle.std.specs.Prelude.{◌≤◌, ◌≡◌, cond, Result, Ok, Err}
use mathlib.Core.Path.{refl, sym, ap, ◌∙◌}
use mathlib.Core.HLevel.{is_prop→PathP}
use native.Mathlib.Bridge.{le_prop}
use native.Mathlib.Omega.{arith}
use Rattle.flashrules.proofs.ErrorLaws.{number_some, numbers_apart, none_apart}
use Rattle.scriptrules.specs.Answer.{LineAnswer, RunAnswer}
use Rattle.scriptrules.specs.AnswerLaws.{ParsersApart, LineAnswersApart, RunAnswersApart}
use Rattle.scriptrules.specs.Parser.{Parser, parser}
use Rattle.scriptrules.specs.declared.parser.Line.{Line}
use Rattle.scriptrules.specs.Reply.{max_reply}

-- a state, read off its numbers
abbrev state_of : Parser → Result Line Line
state_of p = let s : Line = record { count = p.count; kind = p.kind } in cond p.good (Ok s) (Err s)

state_back : (s : Result Line Line) → state_of (parser s) ≡ s
state_back (Ok s) = refl
state_back (Err s) = refl

pub parsers_apart : ParsersApart
parsers_apart s t p = sym (state_back s) ∙ ap state_of p ∙ state_back t

pub line_answers_apart : LineAnswersApart
line_answers_apart b (Ok v) (Ok w) p =
    let s : v.session ≡ w.session = ap (λ (a : LineAnswer). a.session) p in
    let n : v.length ≡ w.length = ap (λ (a : LineAnswer). a.length) p in
    let e : v ≡ w = λ i. record { session = s i; length = n i; short = is_prop→PathP (λ j. n j ≤ max_reply) (λ j. le_prop) v.short w.short i } in ap Ok e
line_answers_apart b (Ok v) (Err f) p = let e = ap (λ (a : LineAnswer). a.error) p in absurd (omega (arith, e, number_some f))
line_answers_apart b (Err e) (Ok w) p = let f = ap (λ (a : LineAnswer). a.error) p in absurd (omega (arith, f, number_some e))
line_answers_apart b (Err e) (Err f) p = ap Err (numbers_apart e f (ap (λ (a : LineAnswer). a.error) p))

pub run_answers_apart : RunAnswersApart
run_answers_apart v w p =
    let e : v.error ≡ w.error = none_apart v.error w.error (ap (λ (a : RunAnswer). a.error) p) in
    let s : v.session ≡ w.session = ap (λ (a : RunAnswer). a.session) p in
    let k : v.next ≡ w.next = ap (λ (a : RunAnswer). a.next) p in
    let n : v.length ≡ w.length = ap (λ (a : RunAnswer). a.length) p in
    λ i. record { error = e i; session = s i; next = k i; length = n i }
