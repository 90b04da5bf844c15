-- The round trip of texts: what is written is read back, and what is accepted is written out as the
-- very same text.
use Prim.Native.Nat.{ℕ, zero, suc, ◌*◌, ◌≤◌}
use mathlib.Core.Path.{◌≡◌, refl, sym, ap, ◌∙◌}
use mathlib.Core.Bool.{true}
use mathlib.Core.List.{List, [], ◌∷◌, ◌++◌}
use native.Mathlib.Omega.{arith}
use lib.Dec.{eqb, ltb}
use lib.ListN.{length, take, drop, get_or, replicate, length-set}
use lib.Seq.{length-take-le}
use Rattle.hextext.proofs.StoreLaws.{sets_start}
use Rattle.hextext.proofs.HexLaws.{unhex_bytes, value_small}
use Rattle.flashrules.specs.Layout.{max_classes, paired, classes, valid, fits, no_classes}
use Rattle.flashrules.specs.Image.{Bytes, max_byte}
use Rattle.flashrules.specs.declared.layout.Layout.{Layout}
use Rattle.flashrules.proofs.LayoutLaws.{valid_parts, fits_parts}
use Rattle.flashrules.proofs.Picks.{same_refl, same_eq, and_first, and_rest, on_test, on_cond}
use Rattle.flashrules.proofs.BytesLaws.{bytes_append, bytes_set, bytes_zeros}
use Rattle.imagerules.specs.Text.{serialize_image, max_lines}
use Rattle.imagerules.specs.Candidate.{width, class_byte, line_bytes, next_line, is_last, longer, another, add_line, Content, content, gather, candidate}
use Rattle.imagerules.specs.File.{holds, ParsedImage, image_file, no_image_file, parse_image, check_error}
use Rattle.imagerules.specs.Laws.{Fitting, in_use, cleared, WrittenRead, IsText, AcceptedText, TextOfSome, CheckAccepts, OneOnly, AcceptedLength}
use Rattle.imagerules.proofs.TextLaws.{text_length_lem, text_most}
use Rattle.imagerules.proofs.ClassLaws.{candidate_text}

-- ---- a cleared layout has the same classes

take_use : (n : ℕ) (xs : List ℕ) → n ≤ max_classes → length xs ≡ max_classes → take n (in_use n xs) ≡ take n xs
take_use n xs h e =
    let t : length (take n xs) ≡ n = length-take-le n xs (omega arith) in
    rw t at (sets_start (replicate max_classes 0) (take n xs) (omega arith))

take_paired : (n : ℕ) (is ns : List ℕ) → take n (paired is ns) ≡ paired (take n is) (take n ns)
take_paired zero is ns = refl
take_paired (suc n) [] ns = refl
take_paired (suc n) (i ∷ is) [] = refl
take_paired (suc n) (i ∷ is) (k ∷ ns) = rw (take_paired n is ns)

module _ (l : Layout) (image : List ℕ) (t : Fitting l image) where
  classes_cleared : classes (cleared l) ≡ classes l
  unfolding classes
  classes_cleared =
      let u = (valid_parts l (fits_parts l (length image) t.fit).0).used in
      take_paired l.count (in_use l.count l.ids) (in_use l.count l.lengths)
      ∙ rw (take_use l.count l.ids u t.ids, take_use l.count l.lengths u t.lengths) (sym (take_paired l.count l.ids l.lengths))

  fits_cleared : fits (cleared l) (length image) ≡ true
  unfolding fits valid
  fits_cleared = rw classes_cleared t.fit

  text_cleared : serialize_image (cleared l) image ≡ serialize_image l image
  unfolding serialize_image
  text_cleared = rw classes_cleared

-- ---- what a candidate is, whatever the text: bytes, and a layout whose arrays are whole

record Arrays (l : Layout) : Type 0 where
  ids : length l.ids ≡ max_classes
  lengths : length l.lengths ≡ max_classes
  classes : Bytes l.ids

add_arrays : (l : Layout) (i n : ℕ) → i ≤ max_byte → Arrays l → Arrays (add_line l i n)
unfolding add_line
add_arrays l i n h w =
    on_cond Arrays (is_last l i) (longer l n) (another l i n) (λ e. record { ids = w.ids; lengths = rw length-set w.lengths; classes = w.classes })
    (λ e. on_cond Arrays (ltb l.count max_classes) _ l
    (λ u. record { ids = rw length-set w.ids; lengths = rw length-set w.lengths; classes = bytes_set l.ids l.count i h w.classes })
    (λ u. w))

abbrev Typed : Content → Type 0
Typed g = Arrays g.layout × Bytes g.bytes

gather_typed : (f : ℕ) (l : Layout) (bs x : List ℕ) → Arrays l → Bytes bs → Typed (gather f l bs x)
gather_typed zero l bs x w h = (w, h)
gather_typed (suc f) l bs x w h =
    on_cond Typed (eqb (width x) 0) (content l bs) _ (λ e. (w, h))
    (λ e. gather_typed f (add_line l (class_byte x) (width x)) (bs ++ line_bytes x) (next_line x)
    (add_arrays l (class_byte x) (width x) (omega (arith, value_small (get_or x 0 0), value_small (get_or x 1 0))) w)
    (bytes_append bs (line_bytes x) h (unhex_bytes (take (2 * width x) (drop 4 x)))))

candidate_typed : (x : List ℕ) → Typed (candidate x)
unfolding candidate
candidate_typed x = gather_typed max_lines no_classes [] x (record { ids = refl; lengths = refl; classes = bytes_zeros max_classes }) (λ k. omega arith)

-- ---- as to texts

pub written_read : WrittenRead
unfolding parse_image holds
written_read l image t = rw (candidate_text l image t, fits_cleared l image t, text_cleared l image t, same_refl (serialize_image l image))

-- what a candidate that holds is
held : (g : Content) (x : List ℕ) → holds g x ≡ true → Typed g → Fitting g.layout g.bytes × (serialize_image g.layout g.bytes ≡ x)
unfolding holds
held g x e t =
    let h = and_first (fits g.layout (length g.bytes)) _ e in
    let s = and_first _ _ (and_rest (fits g.layout (length g.bytes)) _ e) in
    (record { ids = t.0.ids; lengths = t.0.lengths; classes = t.0.classes; bytes = t.1; fit = h }, same_eq (serialize_image g.layout g.bytes) x s)

module _ (x : List ℕ) (l : Layout) (image : List ℕ) where
  read_text : parse_image x ≡ image_file l image → Fitting l image × (serialize_image l image ≡ x)
  unfolding parse_image
  read_text e =
      on_test (holds (candidate x) x) (λ t. taken (rw t at e) (held (candidate x) x t (candidate_typed x)))
      (λ t. let p : no_image_file ≡ image_file l image = rw t at e in let z : ◌≡◌ {A = ℕ} 0 1 = cc in absurd (omega arith))
    where
      taken : image_file (candidate x).layout (candidate x).bytes ≡ image_file l image → Fitting (candidate x).layout (candidate x).bytes × (serialize_image (candidate x).layout (candidate x).bytes ≡ x)
          → Fitting l image × (serialize_image l image ≡ x)
      taken p h =
          let el : (candidate x).layout ≡ l = cc in
          let ei : (candidate x).bytes ≡ image = cc in
          rw (el, ei) at h

  read_is : parse_image x ≡ image_file l image → IsText l image x
  read_is e =
      let h = read_text e in
      let w = written_read l image h.0 in
      let c : cleared l ≡ l = cc (ap parse_image h.1) in
      record { fitting = h.0; clear = c; text = h.1 }

  is_read : IsText l image x → parse_image x ≡ image_file l image
  is_read t = cc (written_read l image t.fitting, ap parse_image t.text)

pub accepted_text : AcceptedText
accepted_text x l image = (read_is x l image, is_read x l image)

pub check_accepts : CheckAccepts
check_accepts x = (λ e. by (parse_image x) refl e, λ t. rw (← t.text, written_read t.layout t.image t.fitting))
  where
    by : (j : ParsedImage) → parse_image x ≡ j → check_error j ≡ 0 → TextOfSome x
    by no_image_file p e = absurd (omega arith)
    by (image_file l image) p e = let t = read_is x l image p in record { layout = l; image = image; fitting = t.fitting; text = t.text }

pub one_only : OneOnly
one_only l l' image image' t t' e =
    let p = written_read l image t in
    let q = written_read l' image' t' in
    (cc (ap parse_image e), cc (ap parse_image e))

pub accepted_length : AcceptedLength
accepted_length x e =
    let t = (check_accepts x).0 e in
    let f = t.fitting.fit in
    rw (← t.text, text_length_lem t.layout t.image f) (text_most t.layout (fits_parts t.layout (length t.image) f).0)
