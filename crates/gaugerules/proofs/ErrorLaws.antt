-- Which error a byte has: register by register, the rules answer what the rows of the table say.
use Prim.Native.Nat.{ℕ, ◌+◌, ◌-◌, ◌*◌, ◌≤◌, ◌<◌}
use mathlib.Core.Path.{◌≡◌, refl, ap}
use mathlib.Core.Logic.{◌⊎◌, inl, inr, ⊎_elim}
use mathlib.Core.Bool.{true, false}
use mathlib.Core.List.{List}
use native.Mathlib.Omega.{arith}
use lib.Dec.{eqb, leb, ltb}
use lib.ListN.{length}
use borrow.Author.Tests.{ne_eqb, le-leb, lt-leb}
use Rattle.checksum.specs.Checksum.{checksum}
use Rattle.flashrules.specs.Error.{number, unknown_block, protected_keys, low_supply}
use Rattle.flashrules.specs.Refusal.{first_error}
use Rattle.flashrules.specs.Outcome.{outcome}
use Rattle.flashrules.specs.Layout.{info_class, classes, locate, fits}
use Rattle.flashrules.specs.Lookup.{block_size, find_class, find_block, block_exists}
use Rattle.flashrules.specs.Image.{block_bytes, as_loaded}
use Rattle.flashrules.specs.declared.layout.Layout.{Layout}
use Rattle.flashrules.proofs.Laws.{info_blocks_lem}
use Rattle.flashrules.proofs.LayoutLaws.{fits_parts}
use Rattle.flashrules.proofs.LookupLaws.{locate_refused}
use Rattle.flashrules.proofs.RefusalLaws.{first_in}
use Rattle.flashrules.proofs.Picks.{on_test, on_answer}
use Rattle.gaugerules.specs.State.{control_info, info_blocks, is_sealed, has_low_supply, general_access, none_loaded, load}
use Rattle.gaugerules.specs.Register.{block_data, register_of}
use Rattle.gaugerules.specs.Transfer.{accept, refuse, set_class, load_block, selects_info, select_block, is_protected, changes_keys, edit_error, edit, commit_error, set_control}
use Rattle.gaugerules.specs.Write.{commit, write_at, write_byte}
use Rattle.gaugerules.specs.Table.{byte_tests}
use Rattle.gaugerules.specs.Laws.{ByteError, ByteErrors, InfoLoads}
use Rattle.gaugerules.specs.declared.state.Gauge.{Gauge}
use Rattle.gaugerules.specs.declared.register.Register.{Register}
use Rattle.gaugerules.proofs.RegisterLaws.{on_register}
use Rattle.gaugerules.proofs.LoadedLaws.{info_picked}

-- ---- without general access 1, 2, 3 load

-- a manufacturer info block is found, so its load is accepted
info_found : (l : Layout) (image : List ℕ) (g : Gauge) (byte b : ℕ) → fits l (length image) ≡ true → b < info_blocks
    → load_block l image g byte info_class b ≡ accept (load g byte info_class b (as_loaded (block_bytes l image info_class b)))
unfolding load_block
info_found l image g byte b f h =
    let p = fits_parts l (length image) f in
    let n = info_blocks_lem l b p.0 h in
    on_answer (find_block l (length image) info_class b) (λ s k q. rw q)
    (λ e q. absurd (let z : 0 ≡ block_size = rw (← p.1, q) at n in omega arith))

selects : (b : ℕ) → b < info_blocks → selects_info (b + 1) ≡ true
selects b h = rw (le-leb 1 (b + 1) (omega arith), le-leb (b + 1) info_blocks (omega arith))

pub info_loads : InfoLoads
unfolding write_byte write_at register_of select_block
info_loads l image g b f n h =
    let back : b + 1 - 1 ≡ b = omega arith in
    rw (n, selects b h, back, info_found l image g (b + 1) b f h)

-- ---- by the register

module _ (l : Layout) (image : List ℕ) (g : Gauge) (byte : ℕ) (f : fits l (length image) ≡ true) where
  -- what the rows come to, at this register
  abbrev rows : ℕ → ℕ
  rows r = first_error (byte_tests l image g r byte)

  at_class : (set_class g byte).error ≡ rows 0x3E
  unfolding set_class
  at_class = on_test (is_sealed g) (λ s. rw s) (λ s. rw s)

  at_control : (set_control g byte).error ≡ rows 0x61
  unfolding set_control
  at_control =
      on_test (is_sealed g) (λ s. rw s) (λ s. on_test (leb byte control_info) (λ b. rw (s, b)) (λ b. rw (s, b)))

  -- in general access the lookup decides, as the layout has the class and the class the block
  at_block_general : general_access g ≡ true → (load_block l image g byte g.class byte).error ≡ rows 0x3F
  unfolding load_block find_block find_class block_exists
  at_block_general a =
      let v = (fits_parts l (length image) f).0 in
      on_answer (locate 0 (classes l) g.class)
      (λ s k q. on_test (ltb (block_size * byte) k) (λ u. rw (a, f, v, q, u)) (λ u. rw (a, f, v, q, u)))
      (λ e q. rw (a, f, v, q) (ap number (locate_refused 0 (classes l) g.class e q)))

  select_general : general_access g ≡ true → select_block l image g byte ≡ load_block l image g byte g.class byte
  unfolding select_block
  select_general a = rw a

  select_info : general_access g ≡ false → selects_info byte ≡ true
      → select_block l image g byte ≡ accept (load g byte info_class (byte - 1) (as_loaded (block_bytes l image info_class (byte - 1))))
  unfolding select_block
  select_info a s = rw (a, s) (info_found l image g byte (byte - 1) f (info_picked byte s))

  select_none : general_access g ≡ false → selects_info byte ≡ false → select_block l image g byte ≡ refuse unknown_block g
  unfolding select_block
  select_none a s = rw (a, s)

  at_block : (select_block l image g byte).error ≡ rows 0x3F
  at_block =
      on_test (general_access g) (λ a. rw (select_general a) (at_block_general a))
      (λ a. on_test (selects_info byte) (λ s. rw (select_info a s, a, s)) (λ s. rw (select_none a s, a, s)))

  at_edit : (r k : ℕ) → r ≡ block_data + k → k < block_size → (edit g k byte).error ≡ rows r
  unfolding edit edit_error
  at_edit r k e h =
      rw (
        lt-leb r 0x01 (omega arith),
        le-leb 0x3E r (omega arith),
        le-leb r 0x61 (omega arith),
        ne_eqb r 0x3E (λ z. omega arith),
        ne_eqb r 0x61 (λ z. omega arith),
        ne_eqb r 0x3F (λ z. omega arith),
        le-leb 0x40 r (omega arith),
        le-leb r 0x60 (omega arith),
        ne_eqb r 0x60 (λ z. omega arith),
      )
      (on_test (none_loaded g) (λ n. rw n) (λ n. on_test (is_protected g) (λ p. rw (n, p)) (λ p. rw (n, p))))

  at_checksum : (commit l image g byte).answer.error ≡ rows 0x60
  unfolding commit commit_error outcome
  at_checksum =
      on_test (none_loaded g) (λ n. rw n)
      (λ n.
      on_test (is_protected g) (λ p. rw (n, p))
      (λ p.
      on_test (eqb byte (checksum g.window))
      (λ s.
      on_test (changes_keys l image g) (λ k. rw (n, p, s, k))
      (λ k. on_test (has_low_supply g) (λ u. rw (n, p, s, k, u)) (λ u. rw (n, p, s, k, u))))
      (λ s. rw (n, p, s))))

  at_other : (r : ℕ) → 0x01 < r → (r < 0x3E) ⊎ (0x61 < r) → 2 ≡ rows r
  at_other r h =
      ⊎_elim (λ (u : r < 0x3E). rw (lt-leb r 0x01 h, lt-leb 0x3E r u))
      (λ (u : 0x61 < r). rw (lt-leb r 0x01 h, le-leb 0x3E r (omega arith), lt-leb r 0x61 u))

  at_register : (r : ℕ) → (write_byte l image g r byte).answer.error ≡ rows r
  unfolding write_byte write_at outcome
  at_register r =
      on_register (λ (k : Register). (write_at k l image g byte).answer.error ≡ rows r) r (λ e. rw e) (λ e. rw e) (λ e. rw e at_class)
      (λ e. rw e at_block) (at_edit r) (λ e. rw e at_checksum) (λ e. rw e at_control) (at_other r)

pub byte_error : ByteError
byte_error l image g r byte f = at_register l image g byte f r

-- no row has another number
pub byte_errors : ByteErrors
byte_errors l image g r byte f = rw (byte_error l image g r byte f) any
  where
    Few : ℕ → Type 0
    Few e = (e ≡ 0) ⊎ (((2 ≤ e) × (e ≤ 9)) ⊎ ((e ≡ protected_keys) ⊎ (e ≡ low_supply)))

    row : {e : ℕ} → 2 ≤ e → e ≤ 9 → Few e
    row low high = inr (inl (low, high))

    any : Few (first_error (byte_tests l image g r byte))
    any =
        first_in Few (byte_tests l image g r byte) (inl refl) (
          row (omega arith) (omega arith),
          (
            row (omega arith) (omega arith),
            (
              row (omega arith) (omega arith),
              (
                row (omega arith) (omega arith),
                (
                  row (omega arith) (omega arith),
                  (
                    row (omega arith) (omega arith),
                    (row (omega arith) (omega arith), (row (omega arith) (omega arith), (inr (inr (inl refl)), (inr (inr (inr refl)), tt)))),
                  ),
                ),
              ),
            ),
          ),
        )
