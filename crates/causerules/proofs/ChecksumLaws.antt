-- The checksum that would have matched: only a byte at 0x60 is refused with 8, and there alone for
-- its number, so that the right one in its place commits or is refused with what comes behind 8.
-- The bytes before it leave the image.
use Prim.Native.Nat.{ℕ, zero, suc, ◌+◌, ◌<◌}
use mathlib.Core.Path.{◌≡◌, refl, ap, ◌∙◌}
use mathlib.Core.Bool.{true, false}
use mathlib.Core.List.{List, [], ◌∷◌, ◌++◌}
use native.Mathlib.Omega.{arith}
use lib.Dec.{eqb}
use lib.ListN.{length, take, length-append}
use lib.Seq.{length-take-le}
use borrow.Author.Tests.{eqb-true, eqb-false, eq-eqb, ne_eqb}
use Rattle.checksum.specs.Checksum.{checksum}
use Rattle.flashrules.specs.Error.{wrong_checksum}
use Rattle.flashrules.specs.Refusal.{first_error}
use Rattle.flashrules.specs.Outcome.{Outcome, outcome}
use Rattle.flashrules.specs.Choice.{differing}
use Rattle.flashrules.specs.Image.{Bytes}
use Rattle.flashrules.specs.declared.layout.Layout.{Layout}
use Rattle.flashrules.proofs.Laws.{no_error}
use Rattle.flashrules.proofs.Picks.{on_test}
use Rattle.flashrules.proofs.RefusalLaws.{first_in}
use Rattle.flashrules.proofs.DifferingLaws.{differing_self}
use Rattle.gaugerules.specs.Register.{block_data_checksum, register_of}
use Rattle.gaugerules.specs.Transfer.{byte_written, refuse, guard_tests, commit_error}
use Rattle.gaugerules.specs.Write.{commit, write_at, write_byte, written, write_bytes, call_tests, call_error, write}
use Rattle.gaugerules.specs.Laws.{Good, commits, Committed}
use Rattle.gaugerules.specs.declared.state.Gauge.{Gauge}
use Rattle.gaugerules.specs.Answer.{ByteAnswer}
use Rattle.gaugerules.specs.Answer.{WriteAnswer}
use Rattle.gaugerules.proofs.Laws.{refused_byte, only_commit, byte_good, commit_rule, write_changed}
use Rattle.gaugerules.proofs.RunLaws.{goes_on, stops, called, calls_with}
use Rattle.causerules.specs.Laws.{ChecksumMatches}
use Rattle.causerules.proofs.ReasonLaws.{Mismatched, wrong_checksum_lem}

-- the bytes bs, with the right checksum in place of the one behind the first `count`
abbrev righted : ℕ → List ℕ → Gauge → List ℕ
righted count bs g = take count bs ++ (checksum g.window ∷ [])

-- the refusal behind 8
abbrev guarded : Layout → List ℕ → Gauge → ℕ
guarded l image g = first_error (guard_tests l image g)

-- one byte more than n is accepted, and commits what gauge g has; or it is refused with that
abbrev Rights : Layout → List ℕ → ℕ → Gauge → Outcome WriteAnswer (List ℕ) → Type 0
Rights l image n g v =
    let e = guarded l image g in
    (e ≡ 0 → (v.answer ≡ written 0 (n + 1) v.answer.changed g) × Committed l image g v.lent)
    × ((e ≡ 0 → ⊥) → (v.answer ≡ written e n v.answer.changed g) × (v.lent ≡ image))

-- what is claimed of a run over bs from r on, before which n were accepted
record Right (l : Layout) (image : List ℕ) (r n : ℕ) (bs : List ℕ) (w : WriteAnswer) (run : List ℕ → Outcome WriteAnswer (List ℕ)) : Type 0 where
  count : ℕ
  accepted : w.accepted ≡ n + count
  there : r + count ≡ block_data_checksum
  more : count < length bs
  rights : Rights l image w.accepted w.gauge (run (righted count bs w.gauge))

-- c bytes of the image were changed before
abbrev Runs : Layout → List ℕ → Gauge → ℕ → ℕ → ℕ → List ℕ → Type 0
Runs l image g r n c bs =
    let w = (write_bytes l image g r n c bs).answer in
    w.error ≡ wrong_checksum → Right l image r n bs w (write_bytes l image g r n c)

module _ (l : Layout) (image : List ℕ) (g : Gauge) (r n c : ℕ) where
  runs_none : Runs l image g r n c []
  unfolding write_bytes outcome
  runs_none e = absurd (omega arith)

  -- the right checksum itself, in place of the byte that was refused
  abbrev sum : ℕ
  sum = checksum g.window

  right_commits : Good l image g → Mismatched g r → guarded l image g ≡ 0
      → let v = write_bytes l image g r n c (sum ∷ []) in (v.answer ≡ written 0 (n + 1) v.answer.changed g) × Committed l image g v.lent
  unfolding write_bytes outcome
  right_commits o m k =
      let t = write_byte l image g block_data_checksum sum in
      let free = (no_error (guard_tests l image g) (omega arith, (omega arith, tt))).0 k in
      let all : commits l image g sum ≡ true = rw (m.loaded, m.free, eq-eqb sum sum refl, free.0, free.1.0) in
      let does = (commit_rule l image g sum o.fits o.valid).0 all in
      let is : t ≡ outcome (byte_written 0 (differing image t.lent) g) t.lent = ap (λ (s : ByteAnswer). outcome s t.lent) does.0 in
      rw (m.register, goes_on l image g block_data_checksum n c sum [] _ t.lent is refl) (refl, does.1)

  right_refused : Mismatched g r → (guarded l image g ≡ 0 → ⊥)
      → let v = write_bytes l image g r n c (sum ∷ []) in (v.answer ≡ written (guarded l image g) n v.answer.changed g) × (v.lent ≡ image)
  unfolding write_byte write_at register_of commit commit_error outcome
  right_refused m k =
      let e = guarded l image g in
      let some = ne_eqb e 0 k in
      let is : write_byte l image g block_data_checksum sum ≡ outcome (refuse e g) image = rw (m.loaded, m.free, eq-eqb sum sum refl, some) in
      rw (m.register, stops l image g block_data_checksum n c sum [] (refuse e g) image is some) (refl, refl)

  right : Good l image g → Mismatched g r → Rights l image n g (write_bytes l image g r n c (sum ∷ []))
  right o m = (right_commits o m, right_refused m)

  module _ (b : ℕ) (bs : List ℕ) where
    abbrev s : Outcome ByteAnswer (List ℕ)
    s = write_byte l image g r b

    -- the byte is refused
    here : Good l image g → eqb s.answer.error 0 ≡ false → Runs l image g r n c (b ∷ bs)
    unfolding outcome
    here o p =
        rw (stops l image g r n c b bs s.answer s.lent refl p)
        (λ e.
        let m = wrong_checksum_lem l image g r b o.fits e in
        record {
          count = 0;
          accepted = omega arith;
          there = omega (arith, m.register);
          more = omega arith;
          rights = rw (refused_byte l image g r b (eqb-false s.answer.error 0 p)).0 (right o m);
        })

    -- a byte before that one leaves the image
    before : (w : WriteAnswer) → eqb s.answer.error 0 ≡ true
        → Right l s.lent (r + 1) (n + 1) bs w (write_bytes l s.lent s.answer.gauge (r + 1) (n + 1) (c + s.answer.changed))
        → Right l image r n (b ∷ bs) w (write_bytes l image g r n c)
    unfolding outcome
    before w p rest =
        let kept = only_commit l image g r b (λ z. omega (arith, rest.there)) in
        let to = righted rest.count bs w.gauge in
        record {
          count = suc rest.count;
          accepted = omega (arith, rest.accepted);
          there = omega (arith, rest.there);
          more = omega (arith, rest.more);
          rights = rw (goes_on l image g r n c b to s.answer s.lent refl p, kept) (rw kept at rest.rights);
        }

    turn : Good l image g → Runs l s.lent s.answer.gauge (r + 1) (n + 1) (c + s.answer.changed) bs → Runs l image g r n c (b ∷ bs)
    unfolding outcome
    turn o rest =
        on_test (eqb s.answer.error 0)
        (λ p. rw (goes_on l image g r n c b bs s.answer s.lent refl p) (λ e. before _ p (rest e))) (here o)

runs : (l : Layout) (bs : List ℕ) → Bytes bs → (image : List ℕ) (g : Gauge) (r n c : ℕ) → Good l image g → Runs l image g r n c bs
runs l [] h image g r n c o = runs_none l image g r n c
runs l (b ∷ bs) h image g r n c o =
    let s = write_byte l image g r b in
    turn l image g r n c b bs o
    (runs l bs (λ k. h (suc k)) s.lent s.answer.gauge (r + 1) (n + 1) (c + s.answer.changed) (byte_good l image g r b (h zero) o))

-- ---- the whole write

-- the call as a whole is never refused with 8
not_called : (l : Layout) (size : ℕ) (g : Gauge) (r n : ℕ) → call_error l size g r n ≡ wrong_checksum → ⊥
unfolding call_error
not_called l size g r n =
    first_in (λ e. e ≡ wrong_checksum → ⊥) (call_tests l size g r n) (λ z. omega arith)
    ((λ z. omega arith), ((λ z. omega arith), ((λ z. omega arith), tt)))

write_right : (l : Layout) (image : List ℕ) (g : Gauge) (r : ℕ) (bytes : List ℕ) → Bytes bytes → Good l image g
    → let w = (write l image g r bytes).answer in
    w.error ≡ wrong_checksum → Rights l image w.accepted w.gauge (write l image g r (righted w.accepted bytes w.gauge))
unfolding write outcome
write_right l image g r bytes h o =
    on_test (eqb (call_error l (length image) g r (length bytes)) 0)
    (λ p.
    rw p
    (λ e.
    let w = (write_bytes l image g r 0 0 bytes).answer in
    let right = runs l bytes h image g r 0 0 o e in
    let is : w.accepted ≡ right.count = omega (arith, right.accepted) in
    let to = righted right.count bytes w.gauge in
    let long : length to ≡ right.count + 1 =
    length-append (take right.count bytes) _ ∙ rw (length-take-le right.count bytes (omega (arith, right.more))) in
    let c = called l (length image) g r (length bytes) (eqb-true _ _ p) in
    let calls =
    calls_with l (length image) g r (length to)
    (record { fitting = c.fitting; sound = c.sound; span = omega (arith, c.span, right.more); some = omega arith }) in
    rw (is, calls) (rw is at right.rights)))
    (λ p. rw p (λ e. absurd (not_called l (length image) g r (length bytes) e)))

pub checksum_matches : ChecksumMatches
unfolding outcome
checksum_matches l image g r bytes h o e =
    let w = (write l image g r bytes).answer in
    let to = righted w.accepted bytes w.gauge in
    let v = write l image g r to in
    let right = write_right l image g r bytes h o e in
    let changed = write_changed l image g r to in (
      λ k. ((right.0 k).0 ∙ ap (λ (n : ℕ). written 0 (w.accepted + 1) n w.gauge) changed, (right.0 k).1),
      λ k.
          let kept = right.1 k in
          let none : v.answer.changed ≡ 0 = changed ∙ rw kept.1 (differing_self image) in
          let e = guarded l image w.gauge in
          let is : v.answer ≡ written e w.accepted 0 w.gauge = kept.0 ∙ ap (λ (n : ℕ). written e w.accepted n w.gauge) none in
          ap (λ (a : WriteAnswer). outcome a v.lent) is ∙ ap (outcome (written e w.accepted 0 w.gauge)) kept.1,
    )
