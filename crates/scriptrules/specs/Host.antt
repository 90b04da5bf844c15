-- A host of the calls: a program that gets a script piece by piece, runs what it has, and prints
-- what that puts out. What it does is a list of events, so that a claim about every list of events
-- is one about every way to cut a script and every buffer lent.
use Rattle.std.specs.Prelude.{ℕ, List, [], ◌∷◌, ◌++◌, take, drop}
use Rattle.flashrules.specs.declared.layout.Layout.{Layout}
use Rattle.scriptrules.specs.Session.{Runner, runner}
use Rattle.scriptrules.specs.Run.{run}

-- more of the script comes; `run` is called on what is held, with a buffer
pub data Event : Type 0 where
  arrives : List ℕ → Event
  runs : List ℕ → Event

-- the session and the image, the text that has come and was not run, and all that was printed
pub record Host : Type 0 where
  pub runner : Runner
  pub held : List ℕ
  pub printed : List ℕ

abbrev pub host : Runner → List ℕ → List ℕ → Host
host b held printed = record { runner = b; held = held; printed = printed }

abbrev pub handle : Layout → ℕ → Host → Event → Host
handle l report h (arrives x) = host h.runner (h.held ++ x) h.printed
handle l report h (runs buffer) =
    let o = run l report h.runner.image h.runner.session h.held buffer in
    host (runner o.answer.session o.lent.image) (drop o.answer.next h.held)
    (h.printed ++ take o.answer.length o.lent.buffer)

abbrev pub handle_all : Layout → ℕ → Host → List Event → Host
handle_all l report h [] = h
handle_all l report h (s ∷ ss) = handle_all l report (handle l report h s) ss

-- all that came
abbrev pub arrived : List Event → List ℕ
arrived [] = []
arrived (arrives x ∷ ss) = x ++ arrived ss
arrived (runs buffer ∷ ss) = arrived ss
