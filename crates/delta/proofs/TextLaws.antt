-- Laws of the functions that put the text of the runs: one line out of its parts, and the loops
-- over the runs of a class and over the classes.
use Rattle.std.proofs.Common.{ℕ, ◌+◌, ◌-◌, ◌*◌, ◌/◌, ◌%◌, ◌≤◌, ◌<◌, ◌≡◌, refl, ap, ◌∙◌, true, false, List, [], ◌∷◌, ◌++◌, arith, length, take, drop, length-append, length-take-le, length-drop, drop_of_length-le, drop-drop}
use Rattle.std.proofs.lemmas.List.Edits.{sets}
use Rattle.hextext.specs.Hex.{hex, hex_line}
use Rattle.hextext.proofs.StoreLaws.{sets_on}
use Rattle.hextext.proofs.Laws.{hex_length}
use Rattle.flashrules.specs.Layout.{Class, max_image_length, classes, size_of, fits}
use Rattle.flashrules.specs.declared.layout.Layout.{Layout}
use Rattle.flashrules.proofs.LayoutLaws.{valid_parts, fits_parts}
use Rattle.layout.proofs.EntryLaws.{left_next}
use Rattle.deltarules.specs.Run.{run, class_runs, image_runs, runs}
use Rattle.deltarules.specs.Text.{run_line, serialize_runs}
use Rattle.deltarules.proofs.TextLaws.{run_parts, run_length, byte_most, text_append}
use Rattle.delta.specs.Span.{span}
use Rattle.delta.proofs.SpanLaws.{runs_skip, skip_apart, runs_run}

-- ---- one line

pub run_put : (i o at : ℕ) (old new r r₁ r₂ r₃ : List ℕ) → r₁ ≡ sets r at (hex (i ∷ o / 256 ∷ o % 256 ∷ [])) → r₂ ≡ sets r₁ (at + 6) (hex old)
    → r₃ ≡ sets r₂ (at + 6 + 2 * length old) (hex_line new) → r₃ ≡ sets r at (run_line (run i o old new))
run_put i o at old new r r₁ r₂ r₃ p q t =
    rw (run_parts i o old new)
    (t ∙ sets_on r₁ r₂ (at + 6) (at + 6 + 2 * length old) (hex old) (hex_line new) q (rw (hex_length old))
    ∙ sets_on r r₁ at (at + 6) (hex (i ∷ o / 256 ∷ o % 256 ∷ [])) (hex old ++ hex_line new) p refl)

-- ---- the runs of a class

-- the text of the runs from an offset on
abbrev text_from : ℕ → ℕ → List ℕ → List ℕ → List ℕ
text_from i from old new = serialize_runs (class_runs i from (drop from old) (drop from new))

-- the equal bytes from `to` on end at `from`: they have no text, and behind them two bytes differ
module _ (old new : List ℕ) (to from : ℕ) (p : from ≡ to + span true (drop to old) (drop to new)) where
  skip_text : (i : ℕ) → text_from i from old new ≡ text_from i to old new
  skip_text i =
      let e = span true (drop to old) (drop to new) in
      rw (p, ← drop-drop e to old, ← drop-drop e to new, ← runs_skip i to (drop to old) (drop to new))

  skip_next : length old ≡ length new → from < length old → 1 ≤ span false (drop from old) (drop from new)
  skip_next l h =
      let e = span true (drop to old) (drop to new) in
      rw (p, ← drop-drop e to old, ← drop-drop e to new)
      (skip_apart (drop to old) (drop to new) (rw (length-drop, length-drop, l)) (rw length-drop (omega arith)))

-- what holds at the head of the loop: at the run that begins at `from` and whose line goes to `at`
-- of the buffer
pub record RunAt (i at₀ : ℕ) (old new r₀ : List ℕ) (from at : ℕ) (r : List ℕ) : Type 0 where
  pub both : length old ≡ length new
  pub inside : from ≤ length old
  pub apart : from < length old → 1 ≤ span false (drop from old) (drop from new)
  pub place : at + length (text_from i from old new) ≡ at₀ + length (text_from i 0 old new)
  pub long : length r ≡ length r₀
  pub same : sets r at (text_from i from old new) ≡ sets r₀ at₀ (text_from i 0 old new)

pub run_start : (i at from : ℕ) (old new r : List ℕ) → length old ≡ length new → from ≡ 0 + span true (drop 0 old) (drop 0 new) → from ≤ length old
    → RunAt i at old new r from at r
run_start i at from old new r l p h = record {
  both = l;
  inside = h;
  apart = skip_next old new 0 from p l;
  place = rw (skip_text old new 0 from p i);
  long = refl;
  same = rw (skip_text old new 0 from p i);
}

module _ (i at₀ : ℕ) (old new r₀ : List ℕ) (from at : ℕ) (r : List ℕ) (v : RunAt i at₀ old new r₀ from at r) where
  pub run_room : at₀ + 11 * length old ≤ 11 * max_image_length → at ≤ 11 * max_image_length
  run_room h = omega (arith, v.place, byte_most i 0 old new)

  module _ (h : length old ≤ from) where
    none_left : text_from i from old new ≡ []
    none_left = rw (drop_of_length-le old {i = from} h)

    pub run_end : at ≡ at₀ + length (text_from i 0 old new)
    run_end = let g = rw none_left at v.place in omega arith

    pub run_most : at ≤ at₀ + 11 * length old
    run_most = omega (arith, run_end, byte_most i 0 old new)

    pub run_text : r ≡ sets r₀ at₀ (text_from i 0 old new)
    run_text = rw none_left at v.same

  module _ (h : from < length old) (to : ℕ) (p : to ≡ from + span false (drop from old) (drop from new)) where
    pub run_less : (from' : ℕ) → to ≤ from' → length old - from' < length old - from
    run_less from' g = omega (arith, v.apart h)

    next_text : text_from i from old new ≡ run_line (run i from (take (to - from) (drop from old)) (take (to - from) (drop from new))) ++ text_from i to old new
    next_text =
        let d = span false (drop from old) (drop from new) in
        let n : to - from ≡ d = omega arith in
        rw (n, p, ← drop-drop d from old, ← drop-drop d from new) (ap serialize_runs (runs_run i from (drop from old) (drop from new) (v.apart h)))

    module _ (part part' : List ℕ) (q : part ≡ take (to - from) (drop from old)) (q' : part' ≡ take (to - from) (drop from new)) where
      part_text : text_from i from old new ≡ run_line (run i from part part') ++ text_from i to old new
      part_text = rw (q, q') next_text

      pub run_next : (r' : List ℕ) (at' from' : ℕ) → length part ≡ length part' → length r' ≡ length r → r' ≡ sets r at (run_line (run i from part part'))
          → at' ≡ at + (7 + 4 * length part) → from' ≡ to + span true (drop to old) (drop to new) → from' ≤ length old
          → RunAt i at₀ old new r₀ from' at' r'
      run_next r' at' from' m k e a p' g =
          let x = run i from part part' in
          let t : at' ≡ at + length (run_line x) = a ∙ rw (run_length x, ← m) (omega arith) in
          let s = skip_text old new to from' p' i in
          record {
            both = v.both;
            inside = g;
            apart = skip_next old new to from' p' v.both;
            place = (let u = length-append (run_line x) (text_from i to old new) in rw s (omega (arith, rw part_text at v.place)));
            long = k ∙ v.long;
            same = rw s (sets_on r r' at at' (run_line x) (text_from i to old new) e t ∙ rw part_text at v.same);
          }

-- what proves `put_class`
pub ruleset class_runs_put = (run_start, run_room, run_less, run_next, run_end, run_most, run_text)

-- ---- the classes of an image

-- what holds at the head of the loop: these classes are left, and these bytes of the two images,
-- and their lines go to `at` of the buffer
pub record ClassAt (l : Layout) (old new r₀ : List ℕ) (cs : List Class) (left left' : List ℕ) (at : ℕ) (r : List ℕ) : Type 0 where
  pub size : size_of cs ≡ length left
  pub room : at + 11 * length left ≤ 11 * max_image_length
  pub place : at + length (serialize_runs (image_runs cs left left')) ≡ length (serialize_runs (runs l old new))
  pub long : length r ≡ length r₀
  pub same : sets r at (serialize_runs (image_runs cs left left')) ≡ sets r₀ 0 (serialize_runs (runs l old new))

pub class_start : (l : Layout) (old new r : List ℕ) (cs : List Class) → cs ≡ classes l → fits l (length old) ≡ true
    → ClassAt l old new r cs old new 0 r
unfolding runs
class_start l old new r cs e f =
    let p = fits_parts l (length old) f in
    let v = valid_parts l p.0 in
    rw e
    record { size = omega (arith, p.1); room = omega (arith, p.1, v.small); place = omega arith; long = refl; same = refl }

module _ (l : Layout) (old new r₀ : List ℕ) (cs : List Class) (left left' : List ℕ) (at : ℕ) (r : List ℕ) (v : ClassAt l old new r₀ cs left left' at r) where
  module _ (e : cs ≡ []) where
    pub class_end : at ≡ length (serialize_runs (runs l old new))
    class_end = let g = rw e at v.place in omega arith

    pub class_text_lem : r ≡ sets r₀ 0 (serialize_runs (runs l old new))
    class_text_lem = rw e at v.same

  module _ (c : Class) (cs' : List Class) (e : cs ≡ c ∷ cs') where
    pub part_inside : c.len ≤ length left
    part_inside = let g = rw e at v.size in omega arith

    module _ (part part' rest rest' : List ℕ) (p : part ≡ take c.len left) (p' : part' ≡ take c.len left') (q : rest ≡ drop c.len left) (q' : rest' ≡ drop c.len left') where
      lp : length part ≡ c.len
      lp = rw p (length-take-le c.len left part_inside)

      lq : length rest + c.len ≡ length left
      lq = rw (q, length-drop) (omega (arith, part_inside))

      pub class_next : (r' : List ℕ) (at' : ℕ) → length r' ≡ length r → r' ≡ sets r at (serialize_runs (class_runs c.id 0 part part'))
          → at' ≡ at + length (serialize_runs (class_runs c.id 0 part part')) → at' ≤ at + 11 * length part
          → ClassAt l old new r₀ cs' rest rest' at' r'
      class_next r' at' k g a m =
          let x = class_runs c.id 0 part part' in
          let y = image_runs cs' rest rest' in
          let t : serialize_runs (image_runs cs left left') ≡ serialize_runs x ++ serialize_runs y = rw (e, p, p', q, q', text_append) in
          record {
            size = (let z = rw e at v.size in omega (arith, lq));
            room = omega (arith, lp, lq, v.room);
            place = (let u = length-append (serialize_runs x) (serialize_runs y) in omega (arith, rw t at v.place));
            long = k ∙ v.long;
            same = sets_on r r' at at' (serialize_runs x) (serialize_runs y) g a ∙ rw t at v.same;
          }

-- what proves that a class can be put
pub ruleset parts = (part_inside, left_next)
