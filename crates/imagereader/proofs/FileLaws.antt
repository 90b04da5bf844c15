-- Laws of the calls: a text held to the text that is written again, and the answers.
use Rattle.std.proofs.Common.{◌≡◌, ℕ, ◌<◌, ◌≤◌, true, false, cond, List, [], ◌∷◌, ◌++◌, eqb, length, take, drop, refl, sym, ◌∙◌, zero-add, arith, length-take-le, le-ltb, lt-ltb}
use Rattle.std.specs.Prelude.{Ok, Err}
use lib.Pointwise.{pointwise}
use lib.Seq.{sets, sets-eq}
use Rattle.flashrules.specs.Error.{malformed, short_buffer}
use Rattle.flashrules.specs.Outcome.{outcome}
use Rattle.flashrules.specs.Choice.{same}
use Rattle.flashrules.specs.declared.error.Error.{Error}
use Rattle.flashrules.specs.declared.layout.Layout.{Layout}
use Rattle.flashrules.proofs.ErrorLaws.{number_some}
use Rattle.flashrules.proofs.Picks.{on_test}
use Rattle.imagerules.specs.Text.{serialize_image, max_text}
use Rattle.imagerules.specs.Candidate.{content, candidate}
use Rattle.imagerules.specs.File.{holds, image_file, no_image_file, parse_image, check_error, not_read, read, write}
use Rattle.imagerules.specs.Answer.{write_answer}
use Rattle.imagerules.proofs.CallLaws.{wrote, not_wrote}

-- ---- the comparison

same_is : (xs ys : List ℕ) → pointwise eqb xs ys ≡ cond (same xs ys) true false
same_is [] [] = refl
same_is [] (y ∷ ys) = refl
same_is (x ∷ xs) [] = refl
same_is (x ∷ xs) (y ∷ ys) =
    on_test (eqb x y) (λ t. rw (t, same_is xs ys) (on_test (same xs ys) (λ s. rw s) (λ s. rw s))) (λ t. rw t)

-- r' is what `write` left of the buffer r
module _ (l : Layout) (image x r r' : List ℕ) where
  module _ (n : ℕ) (p : outcome (write_answer (Ok n)) r' ≡ write l image r) where
    pub size_within : n ≤ length r'
    size_within = (wrote l image r r' _ p refl).room

    pub size_is : n ≡ length (take n r')
    size_is = sym (length-take-le n r' size_within)

    pub text_is : pointwise eqb (take n r') x ≡ holds (content l image) x
    unfolding holds
    text_is =
        let v = wrote l image r r' _ p refl in
        rw (v.fit, v.text) (same_is (serialize_image l image) x)

  pub text_not : (e : Error) → outcome (write_answer (Err e)) r' ≡ write l image r → max_text ≤ length r → false ≡ holds (content l image) x
  unfolding holds
  text_not e p h = rw (not_wrote l image r r' _ p h (λ z. omega (arith, number_some e)))

-- what proves `is_text_of`
pub ruleset texts = (size_within, size_is, text_is, text_not)

-- ---- what is parsed

module _ (x : List ℕ) where
  parse_bad : holds (candidate x) x ≡ false → parse_image x ≡ no_image_file
  unfolding parse_image
  parse_bad e = rw e

  parse_good : holds (candidate x) x ≡ true → parse_image x ≡ image_file (candidate x).layout (candidate x).bytes
  unfolding parse_image
  parse_good e = rw e

  pub check_bad : holds (candidate x) x ≡ false → check_error (parse_image x) ≡ malformed
  check_bad e = rw (parse_bad e)

  pub check_good : holds (candidate x) x ≡ true → check_error (parse_image x) ≡ 0
  check_good e = rw (parse_good e)

-- what proves `check`
pub ruleset checks = (check_bad, check_good)

-- ---- reading

module _ (x r : List ℕ) where
  pub read_bad : holds (candidate x) x ≡ false → outcome (not_read malformed) r ≡ read x r
  unfolding read
  read_bad e = rw (parse_bad x e)

  module _ (e : holds (candidate x) x ≡ true) (l : Layout) (d : List ℕ) (n : ℕ) (p : content l (take n d) ≡ candidate x) (h : n ≤ length d) where
    good : parse_image x ≡ image_file l (take n d)
    good = parse_good x e ∙ rw (← p)

    long : length (take n d) ≡ n
    long = length-take-le n d h

    pub read_short : length r < n → outcome (not_read short_buffer) r ≡ read x r
    unfolding read
    read_short u = rw (good, long, lt-ltb (length r) n u)

    -- the image is the part that was copied to the front
    pub read_good : n ≤ length r → outcome (record { error = 0; layout = l; length = n }) (take n d ++ drop n r) ≡ read x r
    unfolding read
    read_good u =
        let w : take n d ++ drop n r ≡ sets r 0 (take n d) = rw (sets-eq (take n d) r 0 (omega (arith, long)), zero-add, long) in
        rw (good, long, le-ltb (length r) n u, w)

-- what proves `read`
pub ruleset reads = (read_bad, read_short, read_good)
