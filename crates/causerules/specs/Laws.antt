-- What is claimed of histories and causes, beyond the definitions: that the named line is the true
-- one. proofs/Laws.antt has a proof of each claim, under its name in small letters.
use Rattle.std.specs.Prelude.{ℕ, ◌+◌, ◌≤◌, ◌≡◌, Bool, true, false, not, List, [], ◌∷◌, ◌++◌, eqb, leb, length, take}
use Rattle.checksum.specs.Checksum.{checksum}
use Rattle.flashrules.specs.Error.{wrong_checksum}
use Rattle.flashrules.specs.Refusal.{first_error}
use Rattle.flashrules.specs.Outcome.{outcome}
use Rattle.flashrules.specs.Choice.{and, same, differing}
use Rattle.flashrules.specs.Layout.{fits}
use Rattle.flashrules.specs.Image.{Bytes}
use Rattle.flashrules.specs.declared.layout.Layout.{Layout}
use Rattle.gaugerules.specs.State.{is_sealed, none_loaded}
use Rattle.gaugerules.specs.Transfer.{is_protected, guard_tests}
use Rattle.gaugerules.specs.Write.{written, write}
use Rattle.gaugerules.specs.Supply.{set_supply}
use Rattle.gaugerules.specs.Laws.{Good, Committed}
use Rattle.gaugerules.specs.declared.state.Gauge.{Gauge}
use Rattle.causerules.specs.History.{Step, write_steps, supply_steps}
use Rattle.causerules.specs.Cause.{latest, gives, reason_of, line_for}
use Rattle.causerules.specs.Notes.{recall, note_all}
use Rattle.causerules.specs.declared.reason.Reason.{Reason}
use Rattle.causerules.specs.declared.notes.Notes.{Notes}

-- ---- histories

abbrev pub EachStep : (Step → Type 0) → List Step → Type 0
EachStep P [] = Unit
EachStep P (s ∷ h) = P s × EachStep P h

-- every byte met the gauge that the byte before it left: the first one g, and the last one left g'
abbrev pub Leads : Gauge → List Step → Gauge → Type 0
Leads g [] g' = g ≡ g'
Leads g (s ∷ h) g' = (s.before ≡ g) × Leads s.after h g'

abbrev pub OfLine : ℕ → Step → Type 0
OfLine line s = s.line ≡ line

-- a write's history leads to the gauge that the write leaves, has as many bytes as were accepted,
-- and all of them under its line
abbrev pub WriteHistory : Type 0
WriteHistory =
    (l : Layout) (image : List ℕ) (g : Gauge) (line r : ℕ) (bytes : List ℕ) → let w = (write l image g r bytes).answer in
    let h = write_steps l image g line r bytes in
    Leads g h w.gauge × (length h ≡ w.accepted) × EachStep (OfLine line) h

-- and so does that of a supply call
abbrev pub SupplyHistory : Type 0
SupplyHistory =
    (l : Layout) (size : ℕ) (g : Gauge) (line millivolts : ℕ) → let h = supply_steps l size g line millivolts in
    Leads g h (set_supply l size g millivolts).gauge × EachStep (OfLine line) h

-- ---- notes are worth the history

-- C-13's lines, by the notes
abbrev pub Remembers : Notes → List Step → Type 0
Remembers n h = (r : Reason) → recall n r ≡ line_for r n.line h

-- whatever was noted before: noting more is worth a history with more behind it
abbrev pub NotesRemember : Type 0
NotesRemember = (n : Notes) (h more : List Step) → Remembers n h → Remembers (note_all n more) (h ++ more)

-- a supply gives no reason, so that nothing is noted of it
abbrev pub SupplyRemembered : Type 0
SupplyRemembered =
    (l : Layout) (size : ℕ) (g : Gauge) (line millivolts : ℕ) (n : Notes) (h : List Step) → Remembers n h
    → Remembers n (h ++ supply_steps l size g line millivolts)

-- ---- the named line is the true one

-- what a reason says of a gauge; g is the one that the refused byte met
abbrev pub holds_for : Reason → Gauge → Gauge → Bool
holds_for Reason.Itself g k = true
holds_for Reason.Sealed g k = is_sealed k
holds_for Reason.NothingLoaded g k = none_loaded k
holds_for Reason.Protected g k = is_protected k
holds_for Reason.Class g k = eqb k.class g.class
holds_for Reason.Window g k = and (not (none_loaded k) ∷ same k.window g.window ∷ [])

-- it holds of that gauge, which is the one that the write leaves
abbrev pub ReasonHolds : Type 0
ReasonHolds =
    (l : Layout) (image : List ℕ) (g : Gauge) (r : ℕ) (bytes : List ℕ) → fits l (length image) ≡ true
    → let w = (write l image g r bytes).answer in
    holds_for (reason_of w.error w.gauge) w.gauge w.gauge ≡ true

-- what a byte did that gave it: it wrote or loaded the window, at 0x3F to 0x5F; or what the reason
-- says did not hold before it
abbrev pub gave_for : Reason → Gauge → Step → Bool
gave_for Reason.Itself g s = not (holds_for Reason.Itself g s.before)
gave_for Reason.Sealed g s = not (holds_for Reason.Sealed g s.before)
gave_for Reason.NothingLoaded g s = not (holds_for Reason.NothingLoaded g s.before)
gave_for Reason.Protected g s = not (holds_for Reason.Protected g s.before)
gave_for Reason.Class g s = not (holds_for Reason.Class g s.before)
gave_for Reason.Window g s = and (leb 0x3F s.register ∷ leb s.register 0x5F ∷ [])

abbrev pub HoldsAfter : (Gauge → Bool) → Step → Type 0
HoldsAfter P s = P s.after ≡ true

-- a byte of line n gave it, P held after that one and after every byte since, and none of them gave
-- it
pub record Named (gave : Step → Bool) (P : Gauge → Bool) (h : List Step) (n : ℕ) : Type 0 where
  pub past : List Step
  pub byte : Step
  pub since : List Step
  pub whole : h ≡ past ++ (byte ∷ since)
  pub line : byte.line ≡ n
  pub gives : gave byte ≡ true
  pub held : EachStep (HoldsAfter P) (byte ∷ since)
  pub last : EachStep (λ s. gave s ≡ false) since

-- P has held since line n, or, where n is 0, since power-on: g is the gauge before the history
pub record Since (gave : Step → Bool) (P : Gauge → Bool) (g : Gauge) (h : List Step) (n : ℕ) : Type 0 where
  pub always : n ≡ 0 → (P g ≡ true) × EachStep (HoldsAfter P) h
  pub named : (n ≡ 0 → ⊥) → Named gave P h n

abbrev pub FromOne : Step → Type 0
FromOne s = 1 ≤ s.line

-- a test tells the bytes after which P holds: those that it picks gave it, and before the others P
-- held as well
pub record Tells (is : Step → Bool) (gave : Step → Bool) (P : Gauge → Bool) (s : Step) : Type 0 where
  pub picked : is s ≡ true → P s.after ≡ true → gave s ≡ true
  pub other : is s ≡ false → P s.after ≡ true → (P s.before ≡ true) × (gave s ≡ false)

-- of any P: where it holds at the end, it has held since the line of the latest byte that is picked
abbrev pub LatestSince : Type 0
LatestSince =
    (is : Step → Bool) (gave : Step → Bool) (P : Gauge → Bool) (g : Gauge) (h : List Step) (g' : Gauge) → Leads g h g'
    → EachStep FromOne h
    → EachStep (Tells is gave P) h
    → P g' ≡ true → Since gave P g h (latest is h)

-- so it is of every reason, whatever gauge the refused byte met
abbrev pub ReasonTold : Type 0
ReasonTold =
    (l : Layout) (image : List ℕ) (g : Gauge) (line r : ℕ) (bytes : List ℕ) (why : Reason) (met : Gauge)
    → EachStep (Tells (gives why) (gave_for why met) (holds_for why met)) (write_steps l image g line r bytes)

abbrev pub SupplyTold : Type 0
SupplyTold =
    (l : Layout) (size : ℕ) (g : Gauge) (line millivolts : ℕ) (why : Reason) (met : Gauge)
    → EachStep (Tells (gives why) (gave_for why met) (holds_for why met)) (supply_steps l size g line millivolts)

-- ---- the checksum that would have matched

-- written in place of the byte that was refused, it is accepted and commits; or, where an unsealed
-- gauge would change a key or the supply is low, it is refused with 16 or 17, and nothing but the
-- bytes before it stands
abbrev pub ChecksumMatches : Type 0
ChecksumMatches =
    (l : Layout) (image : List ℕ) (g : Gauge) (r : ℕ) (bytes : List ℕ) → Bytes bytes → Good l image g
    → let w = write l image g r bytes in
    w.answer.error ≡ wrong_checksum → let n = w.answer.accepted in let h = w.answer.gauge in
    let v = write l image g r (take n bytes ++ (checksum h.window ∷ [])) in
    let e = first_error (guard_tests l image h) in
    (e ≡ 0 → (v.answer ≡ written 0 (n + 1) (differing image v.lent) h) × Committed l image h v.lent)
    × ((e ≡ 0 → ⊥) → v ≡ outcome (written e n 0 h) image)
