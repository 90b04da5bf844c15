-- Laws of the candidate of the text of a class, and of all classes: it has each class once, with
-- all its bytes.
use Prim.Native.Nat.{ℕ, zero, suc, ◌+◌, ◌-◌, ◌*◌, ◌%◌, ◌≤◌, ◌<◌}
use mathlib.Core.Path.{◌≡◌, refl, ap, ◌∙◌}
use mathlib.Core.Bool.{true, false}
use mathlib.Core.List.{List, [], ◌∷◌, ◌++◌, append_assoc, append-nil}
use native.Mathlib.Omega.{arith}
use native.Mathlib.Nat.{add-zero, zero-add}
use native.Mathlib.Numerals.{add-one}
use lib.Dec.{eqb}
use lib.ListN.{length, take, drop, get_or, set, length-drop, length-set, length-take, take-append-drop}
use lib.Seq.{sets, length-take-le, set-set, set-get_or, get_or-set_same}
use borrow.Author.Tests.{lt-ltb, le-leb, ne_eqb, eq-eqb, leb-true}
use Rattle.hextext.specs.Scan.{index_of}
use Rattle.flashrules.specs.Layout.{max_classes, max_class_length, Class, paired, classes, size_of, in_order, ordered, no_classes}
use Rattle.flashrules.specs.Choice.{and}
use Rattle.flashrules.specs.Lookup.{block_size}
use Rattle.flashrules.specs.Image.{Bytes, max_byte}
use Rattle.flashrules.specs.declared.layout.Layout.{Layout}
use Rattle.flashrules.proofs.LayoutLaws.{valid_parts, fits_parts}
use Rattle.flashrules.proofs.Picks.{and_first, and_rest}
use Rattle.flashrules.proofs.BytesLaws.{bytes_take, bytes_drop}
use Rattle.imagerules.specs.Text.{line, lines, block_count, block_lines, class_text, class_texts, serialize_image, max_lines}
use Rattle.imagerules.specs.Candidate.{width, is_last, longer, add_line, content, gather, candidate}
use Rattle.imagerules.specs.Laws.{Fitting, cleared}
use Rattle.imagerules.proofs.TextLaws.{ordered_sized, line_count, line_most}
use Rattle.imagerules.proofs.LineLaws.{gather_line}

nothing : (bs : List ℕ) → length bs ≡ 0 → bs ≡ []
nothing [] e = refl
nothing (b ∷ bs) e = absurd (omega arith)

-- ---- the last class

-- its length
abbrev last : Layout → ℕ
last l = get_or l.lengths (l.count - 1) 0

longer_none : (l : Layout) → last l ≤ max_class_length → longer l 0 ≡ l
longer_none l s = let e : (last l + 0) % 65536 ≡ last l = omega arith in rw (e, set-get_or)

longer_more : (l : Layout) (m n : ℕ) → l.count - 1 < length l.lengths → last l + (m + n) ≤ max_class_length → longer (longer l m) n ≡ longer l (m + n)
longer_more l m n h s =
    let e : ((last l + m) % 65536 + n) % 65536 ≡ (last l + (m + n)) % 65536 = omega arith in
    rw (set-set, get_or-set_same l.lengths (l.count - 1) ((last l + m) % 65536) 0 h, e)

-- ---- the lines of a class

-- the first one, whatever comes behind it
first_line : (m f i b : ℕ) (l : Layout) (d bs s r : List ℕ) → i ≤ max_byte → Bytes bs → 1 ≤ length bs
    → gather (suc m + f) l d ((line i b (take block_size bs) ++ s) ++ r) ≡ gather (m + f) (add_line l i (length (take block_size bs))) (d ++ take block_size bs) (s ++ r)
first_line m f i b l d bs s r hi hb one =
    let n = length-take block_size bs in
    let e : suc m + f ≡ suc (m + f) = omega arith in
    rw (append_assoc (line i b (take block_size bs)) s r, e) (gather_line i b (take block_size bs) (s ++ r) hi (bytes_take block_size bs hb) (omega arith) (omega arith) (m + f) l d)

-- those of the last class make it longer
grows : (m f i b : ℕ) (l : Layout) (d bs r : List ℕ) → i ≤ max_byte → Bytes bs → block_size * m < length bs + block_size → length bs ≤ block_size * m
    → l.count - 1 < length l.lengths → last l + length bs ≤ max_class_length → is_last l i ≡ true
    → gather (m + f) l d (lines m i b bs ++ r) ≡ gather f (longer l (length bs)) (d ++ bs) r
unfolding add_line
grows zero f i b l d bs r hi hb low high h s t = rw (nothing bs (omega arith), append-nil, zero-add, longer_none l (omega arith))
grows (suc m) f i b l d bs r hi hb low high h s t =
    let n = length-take block_size bs in
    let g = length-drop block_size bs in
    let e : length (take block_size bs) + length (drop block_size bs) ≡ length bs = omega arith in
    let k = get_or-set_same l.lengths (l.count - 1) ((last l + length (take block_size bs)) % 65536) 0 h in
    first_line m f i b l d bs (lines m i (b + 1) (drop block_size bs)) r hi hb (omega arith)
    ∙ rw t
    (grows m f i (b + 1) (longer l (length (take block_size bs))) (d ++ take block_size bs) (drop block_size bs) r hi (bytes_drop block_size bs hb) (omega arith) (omega arith) (rw length-set h) (omega arith) t
    ∙ rw (longer_more l (length (take block_size bs)) (length (drop block_size bs)) h (omega arith), e, append_assoc, take-append-drop))

-- ---- another class

-- its entry is the first that is not in use
abbrev begun : Layout → ℕ → ℕ → Layout
begun l i n = record { count = l.count + 1; ids = set l.ids l.count i; lengths = set l.lengths l.count n }

-- what the candidate has so far: arrays that are whole, with an entry left
record Room (l : Layout) : Type 0 where
  ids : length l.ids ≡ max_classes
  lengths : length l.lengths ≡ max_classes
  left : l.count < max_classes

module _ (l : Layout) (i : ℕ) (w : Room l) where
  back : l.count + 1 - 1 ≡ l.count
  back = omega arith

  begun_last : (n j : ℕ) → is_last (begun l i n) j ≡ and (eqb i j ∷ [])
  begun_last n j = rw (le-leb 1 (l.count + 1) (omega arith), back, get_or-set_same l.ids l.count i 0 (omega arith))

  begun_longer : (m n : ℕ) → m + n ≤ max_class_length → longer (begun l i m) n ≡ begun l i (m + n)
  begun_longer m n s =
      let e : (m + n) % 65536 ≡ m + n = omega arith in
      rw (back, set-set, get_or-set_same l.lengths l.count m 0 (omega arith), e)

  -- the lines of a class that is not the last make an entry, with all its bytes
  opens : (f : ℕ) (d bs r : List ℕ) → i ≤ max_byte → Bytes bs → 1 ≤ length bs → length bs ≤ max_class_length → is_last l i ≡ false
      → gather (block_count (length bs) + f) l d (class_text i bs ++ r) ≡ gather f (begun l i (length bs)) (d ++ bs) r
  unfolding add_line block_lines
  opens f d bs r hi hb one most t =
      let b = take block_size bs in
      let s = drop block_size bs in
      let n = length-take block_size bs in
      let g = length-drop block_size bs in
      let e : length b + length s ≡ length bs = omega arith in
      let m : block_count (length bs) ≡ suc (block_count (length s)) = omega arith in
      let k : last (begun l i (length b)) ≡ length b = rw back (get_or-set_same l.lengths l.count (length b) 0 (omega arith)) in
      rw m
      (first_line (block_count (length s)) f i 0 l d bs (lines (block_count (length s)) i 1 s) r hi hb one
      ∙ rw (t, lt-ltb l.count max_classes w.left)
      (grows (block_count (length s)) f i 1 (begun l i (length b)) (d ++ b) s r hi (bytes_drop block_size bs hb) (omega arith) (omega arith) (rw length-set (omega arith)) (omega arith)
      (begun_last (length b) i ∙ rw (eq-eqb i i refl))
      ∙ rw (begun_longer (length b) (length s) (omega arith), e, append_assoc, take-append-drop)))

-- ---- all classes

gather_end : (f : ℕ) (l : Layout) (d : List ℕ) → gather f l d [] ≡ content l d
unfolding width index_of
gather_end zero l d = refl
gather_end (suc f) l d = refl

-- the layout with n classes more
abbrev joined : Layout → ℕ → List ℕ → List ℕ → Layout
joined l n is ns = record { count = l.count + n; ids = sets l.ids l.count (take n is); lengths = sets l.lengths l.count (take n ns) }

-- the identifiers of the classes are above that of the last one
gather_texts : (n f lo : ℕ) (is ns : List ℕ) (l : Layout) (d bs : List ℕ) → n ≤ length is → n ≤ length ns → Bytes is → Bytes bs
    → ordered lo (take n (paired is ns)) ≡ true → length bs ≡ size_of (take n (paired is ns)) → length l.ids ≡ max_classes → length l.lengths ≡ max_classes
    → l.count + n ≤ max_classes → ((i : ℕ) → lo ≤ i → is_last l i ≡ false)
    → gather (line_count (take n (paired is ns)) + f) l d (class_texts (take n (paired is ns)) bs) ≡ content (joined l n is ns) (d ++ bs)
gather_texts zero f lo is ns l d bs h g hi hb o e u v c b = rw (nothing bs e, append-nil, zero-add, add-zero) (gather_end f l d)
gather_texts (suc n) f lo [] ns l d bs h g hi hb o e u v c b = absurd (omega arith)
gather_texts (suc n) f lo (i ∷ is) [] l d bs h g hi hb o e u v c b = absurd (omega arith)
gather_texts (suc n) f lo (i ∷ is) (k ∷ ns) l d bs h g hi hb o e u v c b =
    let cs = take n (paired is ns) in
    let x : Class = record { id = i; len = k } in
    let z = ordered_sized lo (x ∷ cs) o in
    let t : length (take k bs) ≡ k = length-take-le k bs (omega arith) in
    let w : Room l = record { ids = u; lengths = v; left = omega arith } in
    let low : lo ≤ i = leb-true lo i (and_first _ _ (and_first (in_order lo x) _ o)) in
    let a : block_count k + line_count cs + f ≡ block_count (length (take k bs)) + (line_count cs + f) = rw t (omega arith) in
    let p : l.count + 1 + n ≡ l.count + suc n = omega arith in
    rw a
    (opens l i w (line_count cs + f) d (take k bs) (class_texts cs (drop k bs)) (hi 0) (bytes_take k bs hb) (omega arith) (omega arith) (b i low)
    ∙ gather_texts n f (i + 1) is ns (begun l i (length (take k bs))) (d ++ take k bs) (drop k bs) (omega arith) (omega arith) (λ j. hi (suc j)) (bytes_drop k bs hb)
    (and_rest (in_order lo x) _ o) (rw length-drop (omega arith)) (rw length-set u) (rw length-set v) (omega arith)
    (λ j q. begun_last l i w (length (take k bs)) j ∙ rw (ne_eqb i j (λ r. omega arith)))
    ∙ rw (t, p, append_assoc, take-append-drop, add-one))

pub candidate_text : (l : Layout) (image : List ℕ) → Fitting l image → candidate (serialize_image l image) ≡ content (cleared l) image
unfolding candidate serialize_image classes
candidate_text l image t =
    let p = fits_parts l (length image) t.fit in
    let v = valid_parts l p.0 in
    let cs = classes l in
    let m : line_count cs ≤ max_lines = line_most l p.0 in
    let f : max_lines ≡ line_count cs + (max_lines - line_count cs) = omega arith in
    ap (λ (k : ℕ). gather k no_classes [] (class_texts cs image)) f
    ∙ gather_texts l.count (max_lines - line_count cs) 0 l.ids l.lengths no_classes [] image (omega arith) (omega arith) t.classes t.bytes v.order p.1 refl refl (omega arith) (λ i h. refl)
    ∙ rw zero-add
