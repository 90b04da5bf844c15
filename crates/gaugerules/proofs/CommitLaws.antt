-- The commit rule: a byte at 0x60 is accepted exactly if it commits, and the image then alters by
-- the store alone.
use Prim.Native.Nat.{ℕ, ◌≤◌}
use mathlib.Core.Path.{◌≡◌, refl, sym, ◌∙◌}
use mathlib.Core.Bool.{true, false, true≢false}
use mathlib.Core.List.{List}
use lib.Dec.{eqb}
use lib.ListN.{length}
use borrow.Author.Tests.{eqb-true, eqb-false, eq-eqb, not-true}
use Rattle.checksum.specs.Checksum.{checksum}
use Rattle.flashrules.specs.Outcome.{outcome}
use Rattle.flashrules.specs.Choice.{differing}
use Rattle.flashrules.specs.Answer.{length_of}
use Rattle.flashrules.specs.Layout.{fits}
use Rattle.flashrules.specs.Lookup.{find_block}
use Rattle.flashrules.specs.declared.layout.Layout.{Layout}
use Rattle.flashrules.proofs.Laws.{block_inside, exists_found, store_length, store_here, store_outside}
use Rattle.flashrules.proofs.Picks.{and_first, and_rest, on_test, on_answer}
use Rattle.gaugerules.specs.State.{has_low_supply, loaded_of, none_loaded}
use Rattle.gaugerules.specs.Valid.{loaded_valid}
use Rattle.gaugerules.specs.Register.{register_of}
use Rattle.gaugerules.specs.Transfer.{byte_written, refuse, is_protected, changes_keys, commit_error, committed}
use Rattle.gaugerules.specs.Write.{commit, write_at, write_byte}
use Rattle.gaugerules.specs.Laws.{commits, Committed, CommitRule}
use Rattle.gaugerules.specs.declared.state.Gauge.{Gauge}
use Rattle.gaugerules.specs.State.{block_loaded}
use Rattle.gaugerules.proofs.LoadedLaws.{none_holds, committable, matches, leaves_keys, well_supplied}
use Rattle.gaugerules.proofs.ValidLaws.{Valid, valid_parts}

-- the refusals of a byte at 0x60 are what `commits` asks, so it is accepted exactly if it commits
commit_error_lem : (l : Layout) (image : List ℕ) (g : Gauge) (byte : ℕ) → eqb (commit_error l image g byte) 0 ≡ commits l image g byte
unfolding commit_error
commit_error_lem l image g byte =
    on_test (eqb (commit_error l image g byte) 0)
    (λ z.
    let e = eqb-true (commit_error l image g byte) 0 z in
    let none = none_holds l image g byte e in
    let free : (none_loaded g ≡ false) × (is_protected g ≡ false) = search none in
    rw (z, free.0, free.1, eq-eqb byte (checksum g.window) (matches l image g byte e), leaves_keys l image g byte e, well_supplied l image g byte e))
    (λ z. on_test (commits l image g byte) (λ c. absurd (eqb-false (commit_error l image g byte) 0 z (commits_free c))) (λ c. rw (z, c)))
  where
    commits_free : commits l image g byte ≡ true → commit_error l image g byte ≡ 0
    commits_free c =
        let t : (none_loaded g ≡ false) × (is_protected g ≡ false) × (byte ≡ checksum g.window) × (changes_keys l image g ≡ false)
        × (has_low_supply g ≡ false) = search (and_first, and_rest, not-true, eqb-true) in
        rw (t.0, t.1, eq-eqb byte (checksum g.window) t.2, t.3, t.4)

module _ (l : Layout) (image : List ℕ) (g : Gauge) (byte : ℕ) where
  -- the loaded block of a valid gauge exists, so the lookup finds it, and what is found has bytes
  loaded_some : fits l (length image) ≡ true → loaded_valid l g ≡ true → (i b : ℕ) → loaded_of g.loaded ≡ block_loaded i b
      → 1 ≤ length_of (find_block l (length image) i b)
  loaded_some f v i b p =
      let exists = rw p at v in
      on_answer (find_block l (length image) i b) (λ s k q. rw q (block_inside l (length image) i b s k q).some)
      (λ e q. absurd (true≢false (sym exists ∙ rw q at (exists_found l (length image) i b f))))

  stored : fits l (length image) ≡ true → Valid l g → (i b : ℕ) → loaded_of g.loaded ≡ block_loaded i b → Committed l image g (committed l image g)
  unfolding committed
  stored f v i b p =
      rw p
      (record {
        class = i;
        block = b;
        loaded = p;
        size = store_length l image i b g.window v.range.window;
        some = loaded_some f v.loaded i b p;
        here = store_here l image i b g.window v.range.window;
        outside = store_outside l image i b g.window v.range.window;
      })

  commit_done : fits l (length image) ≡ true → Valid l g → commits l image g byte ≡ true
      → let s = commit l image g byte in (s.answer ≡ byte_written 0 (differing image s.lent) g) × Committed l image g s.lent
  unfolding commit outcome
  commit_done f v c =
      let q = commit_error_lem l image g byte ∙ c in
      let e = committable l image g byte (eqb-true _ _ q) in
      rw q (refl, stored f v e.class e.block e.loaded)

  commit_refused : commits l image g byte ≡ false → let s = commit l image g byte in let e = s.answer.error in
      (e ≡ 0 → ⊥) × (s ≡ outcome (refuse e g) image)
  unfolding commit outcome
  commit_refused c =
      let p = commit_error_lem l image g byte ∙ c in
      rw p (eqb-false (commit_error l image g byte) 0 p, refl)

pub commit_rule : CommitRule
unfolding write_byte write_at register_of
commit_rule l image g byte f e = (commit_done l image g byte f (valid_parts l g e), commit_refused l image g byte)
