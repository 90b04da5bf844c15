-- The list of runs is determined: two lists of maximal runs that ascend and have the same bytes are
-- one list.
use Prim.Native.Nat.{ℕ, ◌+◌, ◌≤◌, ◌<◌}
use mathlib.Core.Path.{◌≡◌, refl, sym, ◌∙◌}
use mathlib.Core.Logic.{◌⊎◌, inl, inr, ⊎_elim}
use mathlib.Core.Bool.{true, cond}
use mathlib.Core.List.{List, [], ◌∷◌}
use native.Mathlib.Omega.{arith}
use native.Mathlib.Decide.{dec_lt}
use lib.Dec.{eqb}
use lib.ListN.{length}
use borrow.Author.Tests.{eqb-true, leb-true, eq-eqb}
use Rattle.flashrules.proofs.Picks.{on_test, and_first, and_rest}
use Rattle.flashrules.specs.declared.layout.Layout.{Layout}
use Rattle.deltarules.specs.Run.{Run, run, runs}
use Rattle.deltarules.specs.Delta.{byte_at, in_run, runs_with, Each, RunOf, Below, Ascending}
use Rattle.deltarules.specs.Laws.{RunsDetermined}
use Rattle.deltarules.proofs.EachLaws.{in_run_lem}
use Rattle.deltarules.proofs.ImageLaws.{runs_delta}

-- ---- the first run of a list

-- it begins at a byte or before it
abbrev AtMost : Run → ℕ → ℕ → Type 0
AtMost r i k = (r.class < i) ⊎ ((r.class ≡ i) × (r.offset ≤ k))

module _ (i k : ℕ) (r : Run) (t : in_run i k r ≡ true) where
  class_of : r.class ≡ i
  class_of = eqb-true r.class i (and_first _ _ t)

  begins : r.offset ≤ k
  begins = leb-true r.offset k (and_first _ _ (and_rest (eqb r.class i) _ t))

-- before each byte of the runs behind it
above : (r : Run) (rs : List Run) (i k : ℕ) → Each (Below r) rs → 1 ≤ runs_with i k rs → AtMost r i k
above r [] i k e h = absurd (omega arith)
above r (s ∷ rs) i k e h =
    on_test (in_run i k s)
    (λ t.
    let c = class_of i k s t in
    let b = begins i k s t in
    ⊎_elim (λ (d : r.class < s.class). inl (omega arith)) (λ (d : (r.class ≡ s.class) × (r.offset < s.offset)). inr (d.0 ∙ c, omega (arith, d.1))) e.0)
    (λ t. above r rs i k e.1 (let g : 1 ≤ 0 + runs_with i k rs = rw t at h in omega arith))

first_at : (r : Run) (rs : List Run) (i k : ℕ) → Each (Below r) rs → 1 ≤ runs_with i k (r ∷ rs) → AtMost r i k
first_at r rs i k e h =
    on_test (in_run i k r) (λ t. inr (class_of i k r t, begins i k r t))
    (λ t. above r rs i k e (let g : 1 ≤ 0 + runs_with i k rs = rw t at h in omega arith))

both_at : (r s : Run) → AtMost r s.class s.offset → AtMost s r.class r.offset → (r.class ≡ s.class) × (r.offset ≡ s.offset)
both_at r s a b =
    ⊎_elim (λ (d : r.class < s.class). ⊎_elim (λ (e : s.class < r.class). absurd (omega arith)) (λ (e : (s.class ≡ r.class) × (s.offset ≤ r.offset)). absurd (omega (arith, e.0))) b)
    (λ (d : (r.class ≡ s.class) × (r.offset ≤ s.offset)).
    ⊎_elim (λ (e : s.class < r.class). absurd (omega (arith, d.0))) (λ (e : (s.class ≡ r.class) × (s.offset ≤ r.offset)). (d.0, omega (arith, d.1, e.1))) b)
    a

-- ---- two lists with the same bytes

covered : (i k : ℕ) (r : Run) (rs : List Run) → r.class ≡ i → r.offset ≤ k → k < r.offset + length r.old → 1 ≤ runs_with i k (r ∷ rs)
covered i k r rs c h g = rw (in_run_lem i k r c h g) (omega arith)

module _ (l : Layout) (old new : List ℕ) where
  -- no byte of the list is equal
  abbrev Differs : List Run → Type 0
  Differs rs = (i k : ℕ) → 1 ≤ runs_with i k rs → byte_at l old i k ≡ byte_at l new i k → ⊥

  -- a run that begins where another does is no longer than that
  no_longer : (r s : Run) (rs : List Run) → RunOf l old new r → Differs (s ∷ rs) → r.class ≡ s.class → r.offset ≡ s.offset → length s.old ≤ length r.old
  no_longer r s rs f d c o =
      elim (dec_lt (length r.old) (length s.old)) [
        | yes h ↦ absurd (d r.class (r.offset + length r.old) (covered r.class (r.offset + length r.old) s rs (sym c) (omega arith) (omega arith)) f.behind)
        | no h ↦ omega arith
      ]

  -- its place determines it
  one_run : (r s : Run) → RunOf l old new r → RunOf l old new s → r.class ≡ s.class → r.offset ≡ s.offset → length r.old ≡ length s.old → r ≡ s
  one_run r s f g c o n =
      let a : r.old ≡ s.old = f.old_bytes ∙ rw (c, o, n) (sym g.old_bytes) in
      let b : r.new ≡ s.new = f.new_bytes ∙ rw (c, o, n) (sym g.new_bytes) in
      λ j. run (c j) (o j) (a j) (b j)

  one_list : (rs ss : List Run) → Each (RunOf l old new) rs → Each (RunOf l old new) ss → Ascending rs → Ascending ss → Differs rs
      → ((i k : ℕ) → runs_with i k rs ≡ runs_with i k ss) → rs ≡ ss
  one_list [] [] e f a b d c = refl
  one_list [] (s ∷ ss) e f a b d c =
      absurd (omega (arith, c s.class s.offset, covered s.class s.offset s ss refl (omega arith) (omega (arith, f.0.some))))
  one_list (r ∷ rs) [] e f a b d c =
      absurd (omega (arith, c r.class r.offset, covered r.class r.offset r rs refl (omega arith) (omega (arith, e.0.some))))
  one_list (r ∷ rs) (s ∷ ss) e f a b d c =
      let at_s = covered s.class s.offset s ss refl (omega arith) (omega (arith, f.0.some)) in
      let at_r = covered r.class r.offset r rs refl (omega arith) (omega (arith, e.0.some)) in
      let place = both_at r s (first_at r rs s.class s.offset a.0 (omega (arith, c s.class s.offset))) (first_at s ss r.class r.offset b.0 (omega (arith, c r.class r.offset))) in
      let d' : Differs (s ∷ ss) = λ i k h. d i k (omega (arith, c i k)) in
      let n = no_longer r s ss e.0 d' place.0 place.1 in
      let m = no_longer s r rs f.0 d (sym place.0) (sym place.1) in
      let first : r ≡ s = one_run r s e.0 f.0 place.0 place.1 (omega arith) in
      let rest : rs ≡ ss = one_list rs ss e.1 f.1 a.1 b.1 (λ i k h. d i k (omega arith)) (λ i k. let g : ◌≡◌ {A = ℕ} (cond (in_run i k r) 1 0) (cond (in_run i k s) 1 0) = rw first in omega (arith, c i k)) in
      λ j. first j ∷ rest j

pub runs_determined : RunsDetermined
runs_determined l old new p rs =
    let made = runs_delta l old new p in (
      λ d.
          let differs : Differs l old new rs = λ i k h q. let z : runs_with i k rs ≡ 0 = d.exact i k ∙ rw (eq-eqb (byte_at l old i k) (byte_at l new i k) q) in omega arith in
          one_list l old new rs (runs l old new) d.each made.each d.ascending made.ascending differs (λ i k. d.exact i k ∙ sym (made.exact i k)),
      λ e. rw e made,
    )
