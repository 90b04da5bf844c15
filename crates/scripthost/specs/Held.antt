-- What the second pass does, as events of a host (crate `scriptrules`, specs/Host.antt): by the
-- claim `HostPrints` there, a host that has run all of a script has printed what the papers ask
-- for. No contract can say what is read from a file or printed.
use Rattle.std.specs.Prelude.{◌≡◌, ℕ, ◌-◌, List, [], ◌∷◌, ◌++◌, length, take, drop}
use Rattle.flashrules.specs.declared.layout.Layout.{Layout}
use Rattle.scriptrules.specs.Session.{Runner}
use Rattle.scriptrules.specs.Host.{Event, arrives, runs, host, handle_all}

-- the text that is held: the buffer's bytes from one index up to another
abbrev pub held : List ℕ → ℕ → ℕ → List ℕ
held buffer from to = take (to - from) (drop from buffer)

-- x is y with more behind it
pub record Longer (y x : List ℕ) : Type 0 where
  pub more : List ℕ
  pub whole : x ≡ y ++ more

-- one turn leads from a session with its image and a text held to others: the text is run, with
-- this buffer for the output, and then more may come
pub record Turned (l : Layout) (report : ℕ) (out : List ℕ) (b : Runner) (x : List ℕ) (b' : Runner) (x' : List ℕ) : Type 0 where
  pub more : List ℕ
  pub runner : (handle_all l report (host b x []) (runs out ∷ arrives more ∷ [])).runner ≡ b'
  pub text : (handle_all l report (host b x []) (runs out ∷ arrives more ∷ [])).held ≡ x'

-- some events lead from the one to the other
pub record ByEvents (l : Layout) (report : ℕ) (b : Runner) (x : List ℕ) (b' : Runner) (x' : List ℕ) : Type 0 where
  pub taken : List Event
  pub runner : (handle_all l report (host b x []) taken).runner ≡ b'
  pub text : (handle_all l report (host b x []) taken).held ≡ x'

-- the same where the last text's length and image are told
pub record Passed (l : Layout) (report : ℕ) (b : Runner) (image' : List ℕ) (left : ℕ) : Type 0 where
  pub last : Runner
  pub text : List ℕ
  pub events : ByEvents l report b [] last text
  pub image : last.image ≡ image'
  pub size : length text ≡ left
