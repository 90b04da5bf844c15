-- What is claimed of the rules, beyond the rules; demand 3 has a file of its own,
-- specs/Noninterference.antt. proofs/Laws.antt has a proof of each claim, under its name in small
-- letters.
use Rattle.std.specs.Prelude.{ℕ, ◌+◌, ◌-◌, ◌≤◌, ◌<◌, ◌≡◌, ◌⊎◌, ◌↔◌, Bool, true, false, cond, not, List, [], ◌∷◌, eqb, length, get_or, take, drop}
use Rattle.checksum.specs.Checksum.{checksum}
use Rattle.flashrules.specs.Error.{protected_keys, low_supply}
use Rattle.flashrules.specs.Refusal.{first_error}
use Rattle.flashrules.specs.Outcome.{Outcome, outcome}
use Rattle.flashrules.specs.Choice.{and, differing}
use Rattle.flashrules.specs.Answer.{length_of}
use Rattle.flashrules.specs.Layout.{info_class, fits}
use Rattle.flashrules.specs.Lookup.{block_size, find_block}
use Rattle.flashrules.specs.Image.{max_byte, Bytes, block_bytes, as_loaded}
use Rattle.flashrules.specs.Laws.{Within, SameClasses}
use Rattle.flashrules.specs.declared.layout.Layout.{Layout}
use Rattle.gaugerules.specs.State.{info_blocks, has_low_supply, general_access, loaded_of, none_loaded, power_on, load}
use Rattle.gaugerules.specs.Valid.{valid}
use Rattle.gaugerules.specs.Register.{data_flash_block, block_data_checksum}
use Rattle.gaugerules.specs.Keys.{key_length, as_sent, is_key}
use Rattle.gaugerules.specs.Transfer.{byte_written, accept, refuse, is_protected, changes_keys}
use Rattle.gaugerules.specs.Write.{written, write_byte, write_bytes, call_error, write}
use Rattle.gaugerules.specs.Read.{read_bytes, read}
use Rattle.gaugerules.specs.Supply.{set_supply}
use Rattle.gaugerules.specs.Table.{byte_tests}
use Rattle.gaugerules.specs.declared.state.Gauge.{Gauge}
use Rattle.gaugerules.specs.State.{block_loaded}
use Rattle.gaugerules.specs.Answer.{WriteAnswer}

-- ---- a valid gauge over an image of its layout stays so

-- the gauge is valid, and the image is one of the layout and of bytes: no later call is refused
-- with 10 or 15
pub record Good (l : Layout) (image : List ℕ) (g : Gauge) : Type 0 where
  pub fits : fits l (length image) ≡ true
  pub valid : valid l g ≡ true
  pub bytes : Bytes image

abbrev pub PowerOnValid : Type 0
PowerOnValid = (l : Layout) (boot : ℕ) → valid l (power_on boot) ≡ true

abbrev pub ByteGood : Type 0
ByteGood =
    (l : Layout) (image : List ℕ) (g : Gauge) (r byte : ℕ) → byte ≤ max_byte → Good l image g
    → let s = write_byte l image g r byte in Good l s.lent s.answer.gauge

abbrev pub WriteGood : Type 0
WriteGood =
    (l : Layout) (image : List ℕ) (g : Gauge) (r : ℕ) (bytes : List ℕ) → Bytes bytes → Good l image g
    → let w = write l image g r bytes in Good l w.lent w.answer.gauge

-- every image keeps its length
abbrev pub WriteLength : Type 0
WriteLength =
    (l : Layout) (image : List ℕ) (g : Gauge) (r : ℕ) (bytes : List ℕ)
    → length (write l image g r bytes).lent ≡ length image

-- ---- refusals

-- demand 1: "A refused byte alters nothing, the bytes before it stand, a refused read leaves the
-- buffer untouched."
abbrev pub RefusedByte : Type 0
RefusedByte =
    (l : Layout) (image : List ℕ) (g : Gauge) (r byte : ℕ) → let s = write_byte l image g r byte in
    (s.answer.error ≡ 0 → ⊥) → (s.answer.gauge ≡ g) × (s.lent ≡ image)

-- past the checks of the call, the bytes that were accepted, sent alone, are all accepted, answer
-- the same change, and leave the same gauge and image
abbrev pub BytesStand : Type 0
BytesStand =
    (l : Layout) (image : List ℕ) (g : Gauge) (r : ℕ) (bytes : List ℕ) → let w = write_bytes l image g r 0 0 bytes in
    write_bytes l image g r 0 0 (take w.answer.accepted bytes)
    ≡ outcome (written 0 w.answer.accepted w.answer.changed w.answer.gauge) w.lent

abbrev pub ReadRefused : Type 0
ReadRefused =
    (l : Layout) (image : List ℕ) (g : Gauge) (r n : ℕ) (buffer : List ℕ) → let s = read l image g r n buffer in
    (s.answer.error ≡ 0 → ⊥) → (s.answer.accepted ≡ 0) × (s.lent ≡ buffer)

-- an accepted read touches the first n bytes of the buffer alone
abbrev pub ReadAccepted : Type 0
ReadAccepted =
    (l : Layout) (image : List ℕ) (g : Gauge) (r n : ℕ) (buffer : List ℕ) → let s = read l image g r n buffer in
    s.answer.error ≡ 0
    → (s.answer.accepted ≡ n) × (take n s.lent ≡ read_bytes g r n) × (drop n s.lent ≡ drop n buffer)

-- ---- which error a byte has

-- 01: "Each is given when its row says so and never else.", "2 to 9 answer written bytes only", and
-- so do 16 and 17: of any gauge over an image of the layout
abbrev pub ByteError : Type 0
ByteError =
    (l : Layout) (image : List ℕ) (g : Gauge) (r byte : ℕ) → fits l (length image) ≡ true
    → (write_byte l image g r byte).answer.error ≡ first_error (byte_tests l image g r byte)

abbrev pub ByteErrors : Type 0
ByteErrors =
    (l : Layout) (image : List ℕ) (g : Gauge) (r byte : ℕ) → fits l (length image) ≡ true
    → let e = (write_byte l image g r byte).answer.error in
    (e ≡ 0) ⊎ (((2 ≤ e) × (e ≤ 9)) ⊎ ((e ≡ protected_keys) ⊎ (e ≡ low_supply)))

-- 01: "Otherwise 1, 2, 3 load A, B, C": always
abbrev pub InfoLoads : Type 0
InfoLoads =
    (l : Layout) (image : List ℕ) (g : Gauge) (b : ℕ) → fits l (length image) ≡ true → general_access g ≡ false
    → b < info_blocks
    → write_byte l image g data_flash_block (b + 1)
    ≡ outcome (accept (load g (b + 1) info_class b (as_loaded (block_bytes l image info_class b)))) image

-- ---- commits

-- demand 2: "a block is loaded, it is not block A of a sealed gauge, and the byte matches"; C-14:
-- "The rule for commits in demand 2 reads with this condition added."; C-16: "Soundness gains the
-- range, demand 2's commit rule the condition"
abbrev pub commits : Layout → List ℕ → Gauge → ℕ → Bool
commits l image g byte =
    and
    (not (none_loaded g)
    ∷ not (is_protected g)
    ∷ eqb byte (checksum g.window)
    ∷ not (changes_keys l image g)
    ∷ not (has_low_supply g)
    ∷ [])

-- image' is what a commit leaves: the loaded block, which has bytes, holds the window's first ones,
-- and every other byte is what it was
pub record Committed (l : Layout) (image : List ℕ) (g : Gauge) (image' : List ℕ) : Type 0 where
  pub class : ℕ
  pub block : ℕ
  pub loaded : loaded_of g.loaded ≡ block_loaded class block
  pub size : length image' ≡ length image
  pub some : 1 ≤ length_of (find_block l (length image) class block)
  pub here : block_bytes l image' class block ≡ take (length_of (find_block l (length image) class block)) g.window
  pub outside : (j : ℕ) → (Within (find_block l (length image) class block) j → ⊥) → get_or image' j 0 ≡ get_or image j 0

-- a byte at 0x60: accepted exactly if it commits. C-12: it answers "how many bytes of the image
-- differ before and after"
abbrev pub CommitRule : Type 0
CommitRule =
    (l : Layout) (image : List ℕ) (g : Gauge) (byte : ℕ) → fits l (length image) ≡ true → valid l g ≡ true
    → let s = write_byte l image g block_data_checksum byte in
    (commits l image g byte ≡ true
    → (s.answer ≡ byte_written 0 (differing image s.lent) g) × Committed l image g s.lent)
    × (commits l image g byte ≡ false → let e = s.answer.error in (e ≡ 0 → ⊥) × (s ≡ outcome (refuse e g) image))

-- a byte at any other register
abbrev pub OnlyCommit : Type 0
OnlyCommit =
    (l : Layout) (image : List ℕ) (g : Gauge) (r byte : ℕ) → (r ≡ block_data_checksum → ⊥)
    → (write_byte l image g r byte).lent ≡ image

-- 0x60 is among the registers whose bytes were accepted, `n` from r on
abbrev pub Reached : ℕ → ℕ → Type 0
Reached r n = (r ≤ block_data_checksum) × (block_data_checksum < r + n)

-- a whole write: the image changes only if 0x60 was reached and accepted, and then as the commit of
-- that byte leaves it. The gauge that the byte met is the one that the bytes before it left
abbrev pub WriteCommits : Type 0
WriteCommits =
    (l : Layout) (image : List ℕ) (g : Gauge) (r : ℕ) (bytes : List ℕ) → Bytes bytes → Good l image g
    → let w = write l image g r bytes in
    let before = block_data_checksum - r in
    let met = (write_bytes l image g r 0 0 (take before bytes)).answer.gauge in
    (Reached r w.answer.accepted
    → (commits l image met (get_or bytes before 0) ≡ true) × Committed l image met w.lent)
    × ((Reached r w.answer.accepted → ⊥) → w.lent ≡ image)

-- ---- C-12: how many bytes a write changed

-- "how many bytes of the image differ before and after": of one byte, and of a whole write, refused
-- or not
abbrev pub ByteChanged : Type 0
ByteChanged =
    (l : Layout) (image : List ℕ) (g : Gauge) (r byte : ℕ) → let s = write_byte l image g r byte in
    s.answer.changed ≡ differing image s.lent

abbrev pub WriteChanged : Type 0
WriteChanged =
    (l : Layout) (image : List ℕ) (g : Gauge) (r : ℕ) (bytes : List ℕ) → let w = write l image g r bytes in
    w.answer.changed ≡ differing image w.lent

-- "0 unless 0x60 committed"
abbrev pub ChangedNone : Type 0
ChangedNone =
    (l : Layout) (image : List ℕ) (g : Gauge) (r : ℕ) (bytes : List ℕ) → let w = write l image g r bytes in
    (Reached r w.answer.accepted → ⊥) → w.answer.changed ≡ 0

-- "and at most 32"
abbrev pub ChangedMost : Type 0
ChangedMost =
    (l : Layout) (image : List ℕ) (g : Gauge) (r : ℕ) (bytes : List ℕ)
    → (write l image g r bytes).answer.changed ≤ block_size

-- ---- C-15: "the key is equal exactly at 0"

-- the test, that the four bytes from `at` on and the four as sent differ in no place, holds exactly
-- if they are the same
abbrev pub KeyEqual : Type 0
KeyEqual = (bs : List ℕ) (at u w : ℕ) → (is_key bs at u w ≡ true) ↔ (take key_length (drop at bs) ≡ as_sent u w)

-- ---- a write is its bytes, one by one

-- each byte is a write of its own, at the next register; n were accepted before, and they changed c
-- bytes of the image
unfoldable pub byte_by_byte : Layout → List ℕ → Gauge → ℕ → ℕ → ℕ → List ℕ → Outcome WriteAnswer (List ℕ)
byte_by_byte l image g r n c [] = outcome (written 0 n c g) image
byte_by_byte l image g r n c (b ∷ bs) =
    let w = write l image g r (b ∷ []) in
    let c' = c + w.answer.changed in
    cond (eqb w.answer.error 0) (byte_by_byte l w.lent w.answer.gauge (r + 1) (n + 1) c' bs)
    (outcome (written w.answer.error n c' w.answer.gauge) w.lent)

abbrev pub WriteByBytes : Type 0
WriteByBytes =
    (l : Layout) (image : List ℕ) (g : Gauge) (r : ℕ) (bytes : List ℕ) → Bytes image → Bytes bytes
    → call_error l (length image) g r (length bytes) ≡ 0 → write l image g r bytes ≡ byte_by_byte l image g r 0 0 bytes

-- ---- layouts that mean the same are the same to every rule

abbrev pub SameValid : Type 0
SameValid = (l l' : Layout) → SameClasses l l' → (g : Gauge) → valid l g ≡ valid l' g

abbrev pub SameWrite : Type 0
SameWrite =
    (l l' : Layout) → SameClasses l l' → (image : List ℕ) (g : Gauge) (r : ℕ) (bytes : List ℕ)
    → write l image g r bytes ≡ write l' image g r bytes

abbrev pub SameRead : Type 0
SameRead =
    (l l' : Layout) → SameClasses l l' → (image : List ℕ) (g : Gauge) (r n : ℕ) (buffer : List ℕ)
    → read l image g r n buffer ≡ read l' image g r n buffer

abbrev pub SameSupply : Type 0
SameSupply =
    (l l' : Layout) → SameClasses l l' → (size : ℕ) (g : Gauge) (millivolts : ℕ)
    → set_supply l size g millivolts ≡ set_supply l' size g millivolts
