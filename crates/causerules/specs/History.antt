-- The history of a script. Document 02, C-13: "The named reason must be proved the true one,
-- against the script's history." It has the bytes that were accepted, and C-16's supplies; what is
-- refused alters nothing, and a read neither.
use Rattle.std.specs.Prelude.{ℕ, ◌+◌, cond, List, [], ◌∷◌, eqb, length}
use Rattle.flashrules.specs.declared.layout.Layout.{Layout}
use Rattle.gaugerules.specs.Register.{registers}
use Rattle.gaugerules.specs.Write.{write_byte, call_error}
use Rattle.gaugerules.specs.Supply.{set_supply}
use Rattle.gaugerules.specs.declared.state.Gauge.{Gauge}

-- one byte, or a supply: the number of its line, its register, and the gauge before and after it
pub record Step : Type 0 where
  pub line : ℕ
  pub register : ℕ
  pub before : Gauge
  pub after : Gauge

abbrev pub step : ℕ → ℕ → Gauge → Gauge → Step
step line r g g' = record { line = line; register = r; before = g; after = g' }

-- a supply has no register, so that this stands for it
abbrev pub no_register : ℕ
no_register = registers

-- of the bytes from register r on, as line `line`: those up to the first refused one
unfoldable pub byte_steps : Layout → List ℕ → Gauge → ℕ → ℕ → List ℕ → List Step
byte_steps l image g line r [] = []
byte_steps l image g line r (b ∷ bs) =
    let s = write_byte l image g r b in
    cond (eqb s.answer.error 0)
    (step line r g s.answer.gauge ∷ byte_steps l s.lent s.answer.gauge line (r + 1) bs) []

-- of a whole write, as line `line`: none where no byte of it is looked at
unfoldable pub write_steps : Layout → List ℕ → Gauge → ℕ → ℕ → List ℕ → List Step
write_steps l image g line r bytes =
    cond (eqb (call_error l (length image) g r (length bytes)) 0) (byte_steps l image g line r bytes) []

-- of a supply call, as line `line`: none where it is refused
unfoldable pub supply_steps : Layout → ℕ → Gauge → ℕ → ℕ → List Step
supply_steps l size g line millivolts =
    let s = set_supply l size g millivolts in cond (eqb s.error 0) (step line no_register g s.gauge ∷ []) []
