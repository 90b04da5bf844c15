-- Laws of what the calls leave: a write by its error, a read by its error, one behind the other,
-- and layouts that are written alike.
use Prim.Native.Nat.{ℕ, ◌≤◌}
use mathlib.Core.Path.{◌≡◌, refl, ap}
use mathlib.Core.Bool.{true, false}
use mathlib.Core.List.{List}
use native.Mathlib.Omega.{arith}
use lib.Dec.{ltb}
use lib.ListN.{length, take}
use lib.Seq.{sets, length-sets}
use borrow.Author.Tests.{ltb-true, ltb-false, le-ltb}
use Rattle.hextext.proofs.StoreLaws.{sets_start}
use Rattle.flashrules.specs.Error.{malformed, short_buffer}
use Rattle.flashrules.specs.Outcome.{Outcome, outcome}
use Rattle.flashrules.specs.Layout.{max_image_length, fits}
use Rattle.flashrules.specs.declared.layout.Layout.{Layout}
use Rattle.flashrules.proofs.Laws.{same_layout_lem}
use Rattle.flashrules.proofs.LayoutLaws.{valid_parts, fits_parts}
use Rattle.flashrules.proofs.Picks.{on_test, on_cond}
use Rattle.imagerules.specs.Text.{serialize_image, max_text}
use Rattle.imagerules.specs.File.{ParsedImage, image_file, no_image_file, parse_image, not_read, read_parsed, read, not_written, write}
use Rattle.imagerules.specs.Laws.{WriteThenRead, ReadThenWrite, SameText}
use Rattle.imagerules.specs.Answer.{FileReadAnswer}
use Rattle.imagerules.specs.Answer.{FileWriteAnswer}
use Rattle.imagerules.proofs.TextLaws.{text_length_lem, text_most}
use Rattle.imagerules.proofs.RoundTrip.{written_read, accepted_text}

-- the parts of an outcome
module _ {A : Type 0} (a a' : A) (r r' : List ℕ) (p : outcome a r ≡ outcome a' r') where
  pub same_answer : a ≡ a'
  unfolding outcome
  same_answer = ap (λ (o : Outcome A (List ℕ)). o.answer) p

  same_lent : r ≡ r'
  unfolding outcome
  same_lent = ap (λ (o : Outcome A (List ℕ)). o.lent) p

-- ---- a write: w is its answer, and r' what it left of the buffer r

-- what one leaves that was accepted
pub record Wrote (l : Layout) (image r' : List ℕ) (n : ℕ) : Type 0 where
  pub fit : fits l (length image) ≡ true
  pub room : n ≤ length r'
  pub text : take n r' ≡ serialize_image l image

module _ (l : Layout) (image r r' : List ℕ) (w : FileWriteAnswer) (p : outcome w r' ≡ write l image r) where
  error_is : (v : FileWriteAnswer) (b : List ℕ) → outcome w r' ≡ outcome v b → w.error ≡ v.error
  error_is v b q = ap (λ (a : FileWriteAnswer). a.error) (same_answer w v r' b q)

  pub wrote : w.error ≡ 0 → Wrote l image r' w.length
  unfolding write
  wrote e =
      let x = serialize_image l image in
      on_test (fits l (length image))
      (λ t.
      on_test (ltb (length r) (length x)) (λ u. absurd (omega (arith, error_is (not_written short_buffer) r (rw (t, u) at p))))
      (λ u.
      let v : FileWriteAnswer = record { error = 0; length = length x } in
      let q : outcome w r' ≡ outcome v (sets r 0 x) = rw (t, u) at p in
      let h = ltb-false (length r) (length x) u in
      let n : w.length ≡ length x = ap (λ (a : FileWriteAnswer). a.length) (same_answer w v r' (sets r 0 x) q) in
      let b : r' ≡ sets r 0 x = same_lent w v r' (sets r 0 x) q in
      record { fit = t; room = rw (b, length-sets r 0 x) (omega arith); text = rw (n, b) (sets_start r x h) }))
      (λ t. absurd (omega (arith, error_is (not_written malformed) r (rw t at p))))

  -- with room for the longest text only an image is refused that does not go with its layout
  pub not_wrote : max_text ≤ length r → (w.error ≡ 0 → ⊥) → fits l (length image) ≡ false
  unfolding write
  not_wrote h e =
      let x = serialize_image l image in
      on_test (fits l (length image))
      (λ t.
      let m = text_most l (fits_parts l (length image) t).0 in
      on_test (ltb (length r) (length x)) (λ u. absurd (omega (arith, ltb-true (length r) (length x) u, text_length_lem l image t)))
      (λ u. absurd (e (error_is (record { error = 0; length = length x }) (sets r 0 x) (rw (t, u) at p)))))
      (λ t. t)

-- ---- a read: a is its answer, and r' what it left of the buffer r

-- what one leaves that was accepted
record WasRead (x r' : List ℕ) (a : FileReadAnswer) : Type 0 where
  image : List ℕ
  parsed : parse_image x ≡ image_file a.layout image
  long : a.length ≡ length image
  front : take a.length r' ≡ image

module _ (x r r' : List ℕ) (a : FileReadAnswer) (p : outcome a r' ≡ read x r) where
  was_read : a.error ≡ 0 → WasRead x r' a
  unfolding read
  was_read e = by (parse_image x) refl p
    where
      by : (j : ParsedImage) → parse_image x ≡ j → outcome a r' ≡ read_parsed j r → WasRead x r' a
      by no_image_file q s = absurd (omega (arith, ap (λ (a : FileReadAnswer). a.error) (same_answer a (not_read malformed) r' r s)))
      by (image_file l image) q s =
          on_test (ltb (length r) (length image))
          (λ u. absurd (omega (arith, ap (λ (a : FileReadAnswer). a.error) (same_answer a (not_read short_buffer) r' r (rw u at s)))))
          (λ u.
          let v : FileReadAnswer = record { error = 0; layout = l; length = length image } in
          let o : outcome a r' ≡ outcome v (sets r 0 image) = rw u at s in
          let ea : a ≡ v = same_answer a v r' (sets r 0 image) o in
          let eb : r' ≡ sets r 0 image = same_lent a v r' (sets r 0 image) o in
          record { image = image; parsed = rw ea q; long = rw ea; front = rw (ea, eb) (sets_start r image (ltb-false (length r) (length image) u)) })

-- the image goes with the layout
pub read_fits : (x buffer buffer' : List ℕ) (r : FileReadAnswer) → outcome r buffer' ≡ read x buffer → r.error ≡ 0 → fits r.layout r.length ≡ true
read_fits x buffer buffer' r p e =
    let v = was_read x buffer buffer' r p e in
    rw v.long ((accepted_text x r.layout v.image).0 v.parsed).fitting.fit

-- an image that was read is within the buffer
pub read_within : (x buffer buffer' : List ℕ) (r : FileReadAnswer) → outcome r buffer' ≡ read x buffer → r.length ≤ length buffer
unfolding read outcome
read_within x buffer buffer' r p = rw (← ap (λ (o : Outcome FileReadAnswer (List ℕ)). o.answer.length) p) at (by (parse_image x))
  where
    by : (j : ParsedImage) → (read_parsed j buffer).answer.length ≤ length buffer
    by (image_file l image) =
        on_cond (λ (o : Outcome FileReadAnswer (List ℕ)). o.answer.length ≤ length buffer) (ltb (length buffer) (length image)) _ _ (λ t. omega arith) (λ t. ltb-false _ _ t)
    by no_image_file = omega arith

-- with room for the largest image only a text is refused that is none of an image
pub read_malformed : (x buffer buffer' : List ℕ) (r : FileReadAnswer) → outcome r buffer' ≡ read x buffer → max_image_length ≤ length buffer
    → (r.error ≡ 0 → ⊥) → r.error ≡ malformed
unfolding read
read_malformed x buffer buffer' r p h d = by (parse_image x) refl p
  where
    is : (v : FileReadAnswer) (c : List ℕ) → outcome r buffer' ≡ outcome v c → r.error ≡ v.error
    is v c q = ap (λ (a : FileReadAnswer). a.error) (same_answer r v buffer' c q)

    by : (j : ParsedImage) → parse_image x ≡ j → outcome r buffer' ≡ read_parsed j buffer → r.error ≡ malformed
    by no_image_file q s = is (not_read malformed) buffer s
    by (image_file l image) q s =
        let f = fits_parts l (length image) ((accepted_text x l image).0 q).fitting.fit in
        let room : length image ≤ length buffer = omega (arith, f.1, (valid_parts l f.0).small) in
        absurd (d (is (record { error = 0; layout = l; length = length image }) (sets buffer 0 image) (rw (le-ltb (length buffer) (length image) room) at s)))

-- ---- one behind the other

pub write_then_read : WriteThenRead
unfolding read outcome
write_then_read l image first second t e h =
    let w = write l image first in
    rw ((wrote l image first w.lent w.answer refl e).text, written_read l image t, le-ltb (length second) (length image) h)

pub read_then_write : ReadThenWrite
unfolding write outcome
read_then_write x first second e h =
    let r = read x first in
    let v = was_read x first r.lent r.answer refl e in
    let t = (accepted_text x r.answer.layout v.image).0 v.parsed in
    rw (v.front, t.fitting.fit, t.text, le-ltb (length second) (length x) h)

-- ---- layouts that mean the same

pub same_text : SameText
unfolding write serialize_image
same_text l l' s image buffer = rw ((same_layout_lem l l' s).fits (length image), s.classes)
