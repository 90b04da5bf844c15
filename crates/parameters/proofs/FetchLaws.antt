-- What the calls give that read a parameter's bytes. The premises are what the callees ensure, word
-- for word.
use Prim.Native.Nat.{ℕ, ◌+◌, ◌-◌, ◌/◌, ◌%◌, ◌≤◌, ◌<◌}
use mathlib.Core.Path.{◌≡◌, refl, sym, ap, ◌∙◌}
use mathlib.Core.List.{List, [], ◌++◌, append_assoc, append-nil}
use native.Mathlib.Omega.{arith}
use lib.ListN.{length, get_or, take, drop, take-append-drop}
use lib.Seq.{take_at, take_all, drop_at, drop-length, take-add, drop-drop, length-take-le}
use lib.IntN.{ℤ}
use mir.Syntax.{w8}
use mir.Val.{Fits}
use borrow.Author.Tests.{lt-ltb}
use Rattle.flashrules.specs.Outcome.{outcome}
use Rattle.flashrules.specs.Answer.{start_of}
use Rattle.flashrules.specs.Layout.{max_image_length}
use Rattle.flashrules.specs.Lookup.{block_size, find_class}
use Rattle.flashrules.specs.Image.{max_byte}
use Rattle.flashrules.specs.declared.layout.Layout.{Layout}
use Rattle.flashrules.proofs.PartLaws.{part_length}
use Rattle.gaugerules.specs.Register.{block_data}
use Rattle.gaugerules.specs.Read.{read}
use Rattle.gaugerules.specs.Script.{Device, device, after_call}
use Rattle.gaugerules.specs.BlockAccess.{block_selected}
use Rattle.gaugerules.specs.declared.state.Gauge.{Gauge}
use Rattle.parameterrules.specs.Integer.{from_bytes}
use Rattle.parameterrules.specs.Kind.{width_of, is_signed}
use Rattle.parameterrules.specs.Parameter.{get_error, start_in, row_bytes, value_in}
use Rattle.parameterrules.specs.Commits.{lower_width}
use Rattle.parameterrules.specs.declared.parameter.Parameter.{Parameter}
use Rattle.parameterrules.proofs.PlaceLaws.{Readable, readable, bytes_end, InBlock, in_lower, in_upper}
use Rattle.parameterrules.proofs.GaugeLaws.{Open, block_selects, selected_open, block_reads}
use Rattle.parameters.specs.Access.{opened, selected_at}
use Rattle.parameters.proofs.RowLaws.{byte_of, open_gauge, powered_selects, powered_open}

-- ---- what is read

-- of a block
module _ (l : Layout) (image : List ℕ) (g : Gauge) (i at n : ℕ) (o : Open l image g) (b : InBlock l (length image) i at n) (hc : i ≤ max_byte) (g₁ : Gauge) (image₁ : List ℕ)
    (q : device g₁ image₁ ≡ selected_at l (device g image) i at) where
  selected : device g₁ image₁ ≡ device (block_selected l image g i (at / block_size)) image
  unfolding after_call outcome
  selected = q ∙ rw (block_selects l image g i at n o b hc).accepted

  received : (z to : List ℕ) → n ≡ length z → to ≡ (read l image₁ g₁ (block_data + at % block_size) (length z) z).lent
      → to ≡ take n (drop (start_of (find_class l i) + at) image)
  unfolding outcome
  received z to m e =
      let gauge : g₁ ≡ block_selected l image g i (at / block_size) = ap (λ (d : Device). d.gauge) selected in
      let same : image₁ ≡ image = ap (λ (d : Device). d.image) selected in
      let none : drop n z ≡ [] = rw m (drop-length z) in
      e ∙ rw (gauge, same, ← m, block_reads l image g i at n o b hc z (omega arith), none, append-nil)

-- of a parameter
module _ (l : Layout) (image : List ℕ) (p : Parameter) (e : get_error l (length image) p ≡ 0) (h : (j : ℕ) → Fits w8 (get_or image j 0)) (hc : Fits w8 p.class) where
  at_row : Readable l (length image) p
  at_row = readable l (length image) p e

  stands : Open l image open_gauge
  stands = powered_open l image at_row.fitting h

  is_open : opened l image ≡ device open_gauge image
  unfolding after_call outcome
  is_open = rw (powered_selects l image at_row.fitting h).accepted

  row_split : row_bytes l image p ≡ take (lower_width p) (drop (start_in l p) image) ++ take (width_of p.kind - lower_width p) (drop (start_in l p + lower_width p) image)
  row_split =
      let whole : width_of p.kind ≡ lower_width p + (width_of p.kind - lower_width p) = omega arith in
      ap (λ (w : ℕ). take w (drop (start_in l p) image)) whole
      ∙ rw (take-add (lower_width p) (width_of p.kind - lower_width p) (drop (start_in l p) image), drop-drop (lower_width p) (start_in l p) image)

  lower_long : length (take (lower_width p) (drop (start_in l p) image)) ≡ lower_width p
  lower_long = part_length image (start_in l p) (lower_width p) (omega (arith, bytes_end l (length image) p at_row))

  row_long : length (row_bytes l image p) ≡ width_of p.kind
  row_long = part_length image (start_in l p) (width_of p.kind) (bytes_end l (length image) p at_row)

  -- a gauge just powered on loads the lower block, and those of the bytes that lie there are read
  module _ {g₀ : Gauge} {image₀ : List ℕ} (o : device g₀ image₀ ≡ opened l image) {at : ℕ} (w : at ≡ p.offset) {g : Gauge} {image₁ : List ℕ}
      (q : device g image₁ ≡ selected_at l (device g₀ image₀) p.class at) {k : ℕ} (a : k ≡ lower_width p) (z : List ℕ) {b : List ℕ} (m : k ≡ length z)
      (r : b ≡ (read l image₁ g (block_data + at % block_size) (length z) z).lent) where
    by_open : device g image₁ ≡ selected_at l (device open_gauge image) p.class p.offset
    by_open = rw (w, o, is_open) at q

    in_lower_block : InBlock l (length image) p.class p.offset (lower_width p)
    in_lower_block = in_lower l (length image) p at_row

    is_lower : device g image₁ ≡ device (block_selected l image open_gauge p.class (p.offset / block_size)) image
    is_lower = selected l image open_gauge p.class p.offset (lower_width p) stands in_lower_block (byte_of p.class hc) g image₁ by_open

    lower_read : b ≡ take (lower_width p) (row_bytes l image p)
    lower_read =
        received l image open_gauge p.class p.offset (lower_width p) stands in_lower_block (byte_of p.class hc) g image₁ by_open z b (sym a ∙ m) (rw w at r)
        ∙ rw (row_split, take_at _ (take (width_of p.kind - lower_width p) (drop (start_in l p + lower_width p) image)) (lower_width p) lower_long)

    -- they are all
    pub fetches_one : (zs : List ℕ) → (k < width_of p.kind → ⊥) → take (width_of p.kind) (b ++ zs) ≡ row_bytes l image p
    fetches_one zs s =
        let row = row_bytes l image p in
        let all : lower_width p ≡ width_of p.kind = omega (arith, s) in
        let whole : b ≡ row = lower_read ∙ rw all (take_all (width_of p.kind) row (omega (arith, row_long))) in
        rw whole (take_at row zs (width_of p.kind) row_long)

    -- then it loads the upper block, and the others are read there
    module _ (s : k < width_of p.kind) {g₂ : Gauge} {image₂ : List ℕ} (q₂ : device g₂ image₂ ≡ selected_at l (device g image₁) p.class (at + k))
        (z₂ : List ℕ) {b₂ : List ℕ} (m₂ : width_of p.kind - k ≡ length z₂) (r₂ : b₂ ≡ (read l image₂ g₂ (block_data + (at + k) % block_size) (length z₂) z₂).lent) where
      behind : drop (lower_width p) (row_bytes l image p) ≡ take (width_of p.kind - lower_width p) (drop (start_in l p + lower_width p) image)
      behind = rw (row_split, drop_at (take (lower_width p) (drop (start_in l p) image)) _ (lower_width p) lower_long)

      upper_read : b₂ ≡ drop (lower_width p) (row_bytes l image p)
      upper_read =
          let from = p.offset + lower_width p in
          let n = width_of p.kind - lower_width p in
          let still = selected_open l image open_gauge p.class p.offset (lower_width p) stands in_lower_block (byte_of p.class hc) in
          let place = in_upper l (length image) p at_row (lt-ltb (lower_width p) (width_of p.kind) (rw a at s)) in
          let start : start_of (find_class l p.class) + from ≡ start_in l p + lower_width p = omega arith in
          let loaded = rw (a, w, is_lower) at q₂ in
          rw (behind, ← start)
          (received l image (block_selected l image open_gauge p.class (p.offset / block_size)) p.class from n still place (byte_of p.class hc) g₂ image₂ loaded z₂ b₂ (rw a at m₂)
          (rw (a, w) at r₂))

      pub fetches_both : (zs us : List ℕ) → take (width_of p.kind) (take k (b ++ zs) ++ (b₂ ++ us)) ≡ row_bytes l image p
      fetches_both zs us =
          let row = row_bytes l image p in
          let front : length b ≡ k = rw lower_read (length-take-le (lower_width p) row (omega (arith, row_long)) ∙ sym a) in
          let whole : b ++ b₂ ≡ row = rw (lower_read, upper_read) (take-append-drop (lower_width p) row) in
          rw (take_at b zs k front, ← append_assoc b b₂ us, whole) (take_at row us (width_of p.kind) row_long)

-- ---- a copy of the image, in front of a buffer that has room for every image

pub image_small : (l : Layout) (image : List ℕ) (p : Parameter) → get_error l (length image) p ≡ 0 → length image ≤ max_image_length
image_small l image p e = (readable l (length image) p e).small

-- an image copied to the front of a buffer
module _ (l : Layout) (image : List ℕ) (p : Parameter) (buffer copy : List ℕ) (c : copy ≡ image ++ drop (length image) buffer) where
  copied : take (length image) copy ≡ image
  copied = rw c (take_at image (drop (length image) buffer) (length image) refl)

  pub value_read : (n : ℕ) → n ≡ p.kind → (bytes : List ℕ) (v : ℤ) → take (width_of p.kind) bytes ≡ row_bytes l (take (length image) copy) p
      → v ≡ from_bytes (is_signed n) (take (width_of n) bytes) → v ≡ value_in l image p
  unfolding value_in
  value_read n k bytes v f e = rw (k, f, copied) at e

pub ruleset copies = (image_small, length-take-le)
