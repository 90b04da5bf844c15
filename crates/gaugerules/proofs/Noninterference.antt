-- Demand 3: an invariant of two gauges in one sealed state over two images, kept by a byte, by a
-- write, by a call, and so along a script. It is kept since a sealed gauge loads the manufacturer
-- info blocks alone, where the images agree, and stores into blocks B and C alone.
use Prim.Native.Nat.{ℕ, ◌+◌, ◌-◌, ◌<◌}
use mathlib.Core.Path.{◌≡◌, refl, sym, ap, ◌∙◌}
use mathlib.Core.Bool.{true, false, cond, true≢false}
use mathlib.Core.Logic.{◌⊎◌, inl, inr, ⊎_elim}
use mathlib.Core.List.{List, [], ◌∷◌}
use native.Mathlib.Omega.{arith}
use lib.Dec.{eqb, ltb}
use lib.ListN.{length, length-set}
use borrow.Author.Tests.{eqb-true, eqb-false, ltb-true}
use Rattle.flashrules.specs.Error.{read_only, sealed_register, unknown_block}
use Rattle.flashrules.specs.Outcome.{Outcome, outcome}
use Rattle.flashrules.specs.Choice.{and, differing}
use Rattle.flashrules.specs.Layout.{info_class, fits}
use Rattle.flashrules.specs.Lookup.{block_size}
use Rattle.flashrules.specs.Image.{block_bytes, as_loaded, store_block}
use Rattle.flashrules.specs.Laws.{SameClasses}
use Rattle.flashrules.specs.declared.layout.Layout.{Layout}
use Rattle.flashrules.proofs.Laws.{loaded_length, store_length, store_here, store_outside, store_elsewhere, store_differing, same_layout_lem}
use Rattle.flashrules.proofs.LayoutLaws.{fits_parts}
use Rattle.flashrules.proofs.Picks.{and_first, and_rest, on_test, on_cond}
use Rattle.gaugerules.specs.State.{sealed, boot_sealed, no_block, control_info, info_blocks, block_a, block_b, block_c}
use Rattle.gaugerules.specs.State.{is_sealed, is_full_access, none_pending, loaded_of, with_low, power_on, restart}
use Rattle.gaugerules.specs.Valid.{valid, only_info_loaded}
use Rattle.gaugerules.specs.Register.{register_of}
use Rattle.gaugerules.specs.Keys.{keys, is_key}
use Rattle.gaugerules.specs.Word.{word, status_word, seal_word, reset_word, key_wanted, waits, key_word, with_status, obey}
use Rattle.gaugerules.specs.Transfer.{byte_written, accept, refuse, set_class, load_block, selects_info, select_block, is_protected, edit}
use Rattle.gaugerules.specs.Transfer.{changes_keys, commit_error, committed, set_control}
use Rattle.gaugerules.specs.Write.{commit, write_at, write_byte, written, write_bytes, call_error, write}
use Rattle.gaugerules.specs.Read.{read}
use Rattle.gaugerules.specs.Supply.{set_supply}
use Rattle.gaugerules.specs.Script.{Device, device, Call, to_write, to_read, to_supply, reply, after_call, unseals}
use Rattle.gaugerules.specs.Noninterference.{Agree, Kept, Indistinguishable, SealedNoninterference, Noninterference}
use Rattle.gaugerules.specs.declared.state.Gauge.{Gauge}
use Rattle.gaugerules.specs.State.{Loaded, block_loaded}
use Rattle.std.specs.Prelude.{None}
use Rattle.gaugerules.specs.declared.register.Register.{Register}
use Rattle.gaugerules.specs.Answer.{ByteAnswer}
use Rattle.gaugerules.specs.Answer.{WriteAnswer}
use Rattle.gaugerules.proofs.Picks.{on_loaded}
use Rattle.gaugerules.proofs.LoadedLaws.{load_view, info_picked, Editable, committable}
use Rattle.gaugerules.proofs.ByteCases.{on_edit, on_load}
use Rattle.gaugerules.proofs.RunLaws.{goes_on, stops, ends_after_word, is_control_high}
use Rattle.gaugerules.proofs.ValidLaws.{valid_parts, power_on_valid}
use Rattle.gaugerules.proofs.SupplyCases.{on_supply}
use Rattle.gaugerules.proofs.SameLayouts.{same_reply, same_after}

-- ---- the gauge: sealed, and no block is loaded but a manufacturer info block

-- a manufacturer info block, by the view
record InfoBlock (a : Loaded) : Type 0 where
  number : ℕ
  few : number < info_blocks
  is : a ≡ block_loaded info_class number

abbrev InfoLoaded : Gauge → Type 0
InfoLoaded g = (loaded_of g.loaded ≡ None) ⊎ InfoBlock (loaded_of g.loaded)

record Quiet (g : Gauge) : Type 0 where
  is_sealed_lem : is_sealed g ≡ true
  info : InfoLoaded g
  whole : length g.window ≡ block_size

none_not_block : (i b : ℕ) → None ≡ block_loaded i b → ⊥
none_not_block i b p = let z : ◌≡◌ {A = ℕ} 0 1 = cc in omega arith

info_loaded : (g : Gauge) → only_info_loaded g ≡ true → InfoLoaded g
info_loaded g e =
    on_loaded (loaded_of g.loaded) (λ p. inl p)
    (λ i b p.
    let t : and (eqb i info_class ∷ ltb b info_blocks ∷ []) ≡ true = rw p at e in
    let q : (i ≡ info_class) × (b < info_blocks) = search (and_first, and_rest, eqb-true, ltb-true) in
    inr (record { number = b; few = q.1; is = p ∙ ap (λ (k : ℕ). block_loaded k b) q.0 }))

valid_quiet : (l : Layout) (g : Gauge) → valid l g ≡ true → is_sealed g ≡ true → Quiet g
valid_quiet l g e s =
    let v = valid_parts l g e in
    let t : and (eqb g.control control_info ∷ only_info_loaded g ∷ []) ≡ true = rw s at v.sealed in
    record { is_sealed_lem = s; info = info_loaded g (search (and_first, and_rest)); whole = v.range.window }

unloaded : loaded_of no_block ≡ None
unfolding loaded_of
unloaded = refl

-- ---- what bytes do to a quiet gauge, over any image

-- what a word leaves that is not taken for the key
abbrev heard : Gauge → ℕ → Gauge
heard g w =
    cond (eqb w status_word) (with_status g)
    (cond (eqb w seal_word) (restart g boot_sealed) (cond (eqb w reset_word) (restart g g.boot) (waits g w)))

module _ (g : Gauge) (w : ℕ) (q : Quiet g) where
  module _ (l : Layout) (image : List ℕ) where
    key_waits : is_sealed (key_word l image g w) ≡ true → key_word l image g w ≡ waits g w
    unfolding key_word
    key_waits =
        rw not_full
        (on_cond P (none_pending g) _ _ (λ _ _. refl)
        (λ _. on_cond P (is_key (keys l image) (key_wanted g) g.pending w) _ _ (λ _ s. absurd (true≢false (sym (rw q.is_sealed_lem at s)))) (λ _ _. refl)))
      where
        P : Gauge → Type 0
        P c = is_sealed c ≡ true → c ≡ waits g w

        not_full : is_full_access g ≡ false
        not_full = rw (eqb-true g.mode sealed q.is_sealed_lem)

    -- the image decides one thing of a word, whether it unseals
    word_heard : is_sealed (obey l image g w) ≡ true → obey l image g w ≡ heard g w
    unfolding obey
    word_heard s =
        on_test (eqb w status_word) (λ a. rw a)
        (λ a.
        on_test (eqb w seal_word) (λ b. rw (a, b))
        (λ b. on_test (eqb w reset_word) (λ c. rw (a, b, c)) (λ c. rw (a, b, c) (key_waits (rw (a, b, c) at s)))))

  heard_quiet : is_sealed (heard g w) ≡ true → Quiet (heard g w)
  heard_quiet =
      on_cond P (eqb w status_word) _ _ (λ _ s. record { is_sealed_lem = s; info = q.info; whole = q.whole })
      (λ _.
      on_cond P (eqb w seal_word) _ _ (λ _. fresh boot_sealed)
      (λ _. on_cond P (eqb w reset_word) _ _ (λ _. fresh g.boot) (λ _ s. record { is_sealed_lem = s; info = q.info; whole = q.whole })))
    where
      P : Gauge → Type 0
      P c = is_sealed c ≡ true → Quiet c

      fresh : (boot : ℕ) → P (restart g boot)
      fresh boot s = record { is_sealed_lem = s; info = inl unloaded; whole = refl }

module _ (g : Gauge) (byte : ℕ) (q : Quiet g) where
  class_refused : set_class g byte ≡ refuse sealed_register g
  unfolding set_class
  class_refused = rw q.is_sealed_lem

  control_refused : set_control g byte ≡ refuse sealed_register g
  unfolding set_control
  control_refused = rw q.is_sealed_lem

  abbrev ToQuiet : ByteAnswer → Type 0
  ToQuiet s = Quiet s.gauge

  edit_quiet : (k : ℕ) → ToQuiet (edit g k byte)
  edit_quiet k =
      on_edit ToQuiet g byte k (λ _. record { is_sealed_lem = q.is_sealed_lem; info = q.info; whole = length-set g.window k byte ∙ q.whole }) q

  module _ (l : Layout) where
    load_quiet : (image : List ℕ) (b : ℕ) → b < info_blocks → ToQuiet (load_block l image g byte info_class b)
    load_quiet image b h =
        on_load ToQuiet g byte l image info_class b
        (λ s k p.
        record {
          is_sealed_lem = q.is_sealed_lem;
          info = inr (record { number = b; few = h; is = load_view g byte info_class b (as_loaded (block_bytes l image info_class b)) (omega arith) (omega arith) });
          whole = loaded_length l image info_class b;
        })
        (λ e. q)

    load_same : (image₁ image₂ : List ℕ) (i b : ℕ) → length image₁ ≡ length image₂ → block_bytes l image₁ i b ≡ block_bytes l image₂ i b
        → load_block l image₁ g byte i b ≡ load_block l image₂ g byte i b
    unfolding load_block
    load_same image₁ image₂ i b e p = rw (e, p)

    -- no general access
    select_is : (image : List ℕ) → select_block l image g byte ≡ cond (selects_info byte) (load_block l image g byte info_class (byte - 1)) (refuse unknown_block g)
    unfolding select_block
    select_is image = rw q.is_sealed_lem

    select_quiet : (image : List ℕ) → ToQuiet (select_block l image g byte)
    select_quiet image =
        rw (select_is image)
        (on_cond ToQuiet (selects_info byte) _ _ (λ t. load_quiet image (byte - 1) (info_picked byte t)) (λ _. q))

    select_same : (image₁ image₂ : List ℕ) → length image₁ ≡ length image₂ → Agree l image₁ image₂ → select_block l image₁ g byte ≡ select_block l image₂ g byte
    select_same image₁ image₂ e a =
        rw (select_is image₁, select_is image₂)
        (on_test (selects_info byte) (λ t. rw t (load_same image₁ image₂ info_class (byte - 1) e (a.info (byte - 1) (info_picked byte t)))) (λ t. rw t))

  -- a commit is of block B or C: block A of a sealed gauge is protected
  commit_into : Editable g → (b : ℕ) → loaded_of g.loaded ≡ block_loaded info_class b → b < info_blocks → (b ≡ block_b) ⊎ (b ≡ block_c)
  unfolding is_protected
  commit_into e b p h =
      on_test (eqb b block_a) (λ a. absurd (true≢false (rw (q.is_sealed_lem, p, a) at e.free)))
      (λ a. on_test (eqb b block_b) (λ c. inl (eqb-true _ _ c)) (λ c. inr (omega (arith, eqb-false b block_a a, eqb-false b block_b c))))

  loaded_info : Editable g → InfoBlock (loaded_of g.loaded)
  loaded_info e =
      ⊎_elim (λ n. absurd (none_not_block e.class e.block (sym n ∙ e.loaded))) (λ (i : InfoBlock (loaded_of g.loaded)). i) q.info

-- ---- a supply call

supply_quiet : (l : Layout) (size : ℕ) (g : Gauge) (millivolts : ℕ) → Quiet g → Quiet (set_supply l size g millivolts).gauge
supply_quiet l size g millivolts q =
    on_supply l size g millivolts (λ s. Quiet s.gauge) (λ _. record { is_sealed_lem = q.is_sealed_lem; info = q.info; whole = q.whole }) (λ e. q)

-- ---- a store of one window into one info block of two images

module _ (l : Layout) (w : List ℕ) (b : ℕ) (lw : length w ≡ block_size) where
  agree_stored : (image₁ image₂ : List ℕ) → length image₁ ≡ length image₂ → Agree l image₁ image₂
      → Agree l (store_block l image₁ info_class b w) (store_block l image₂ info_class b w)
  agree_stored image₁ image₂ e a = record {
    info = λ c h.
        on_test (eqb b c)
        (λ t. rw (← (eqb-true b c t), store_here l image₁ info_class b w lw, store_here l image₂ info_class b w lw, e))
        (λ t.
        let d : (info_class ≡ info_class) × (b ≡ c) → ⊥ = λ p. eqb-false b c t p.1 in
        rw (store_elsewhere l image₁ info_class b w lw info_class c d, store_elsewhere l image₂ info_class b w lw info_class c d) (a.info c h));
  }

  kept_stored : (start image : List ℕ) → (b ≡ block_b) ⊎ (b ≡ block_c) → Kept l start image → Kept l start (store_block l image info_class b w)
  kept_stored start image h k = record {
    size = store_length l image info_class b w lw ∙ k.size;
    outside = λ j nb nc. store_outside l image info_class b w lw j (rw k.size (⊎_elim (λ e. rw e nb) (λ e. rw e nc) h)) ∙ k.outside j nb nc;
  }

-- ---- a run that unseals, and the calls by themselves

-- the byte that unseals is the last one accepted, so the run does not end sealed
run_unseals : (l : Layout) (image : List ℕ) (g : Gauge) (r n c b : ℕ) (bs : List ℕ) → register_of r ≡ Register.ControlHigh
    → is_sealed (obey l image g (word g.low b)) ≡ false → is_sealed (write_bytes l image g r n c (b ∷ bs)).answer.gauge ≡ true → ⊥
unfolding write_byte write_at
run_unseals l image g r n c b bs k o h =
    let d = obey l image g (word g.low b) in
    let p : write_bytes l image g r n c (b ∷ bs) ≡ write_bytes l image d (r + 1) (n + 1) (c + 0) bs =
    goes_on l image g r n c b bs (accept d) image (rw k) refl in
    let e : (write_bytes l image d (r + 1) (n + 1) (c + 0) bs).answer.gauge ≡ d =
    rw (is_control_high r k) (ends_after_word l image d (n + 1) (c + 0) bs).0 in
    true≢false (sym (rw (p, e) at h) ∙ o)

write_is : (l : Layout) (image : List ℕ) (g : Gauge) (r : ℕ) (bs : List ℕ) (e : ℕ) → call_error l (length image) g r (length bs) ≡ e
    → write l image g r bs ≡ cond (eqb e 0) (write_bytes l image g r 0 0 bs) (outcome (written e 0 0 g) image)
unfolding write
write_is l image g r bs e p = rw p

-- a read asks of the image only its length
read_same : (l : Layout) (g : Gauge) (image₁ image₂ : List ℕ) (r n : ℕ) (buffer : List ℕ) → length image₁ ≡ length image₂
    → read l image₁ g r n buffer ≡ read l image₂ g r n buffer
unfolding read
read_same l g image₁ image₂ r n buffer e = rw e

stays_sealed : (l : Layout) (d : Device) (c : Call) → is_sealed d.gauge ≡ true → unseals l d c ≡ false → is_sealed (after_call l d c).gauge ≡ true
unfolding unseals
stays_sealed l d c s u = on_test (is_sealed (after_call l d c).gauge) (λ h. h) (λ h. absurd (true≢false (rw (s, h) at u)))

-- ---- two devices, which began with the images start₁ and start₂

module _ (l : Layout) (start₁ start₂ : List ℕ) where
  -- what the invariant says of the images; of the gauge that both have, it says that it is quiet
  record Agreeing (image₁ image₂ : List ℕ) : Type 0 where
    fits₁ : fits l (length image₁) ≡ true
    fits₂ : fits l (length image₂) ≡ true
    agree : Agree l image₁ image₂
    kept₁ : Kept l start₁ image₁
    kept₂ : Kept l start₂ image₂

  same_length : {image₁ image₂ : List ℕ} → Agreeing image₁ image₂ → length image₁ ≡ length image₂
  same_length t = (fits_parts l _ t.fits₁).1 ∙ sym (fits_parts l _ t.fits₂).1

  -- both devices come to one answer, with one gauge
  record Both (A : Type 0) (gauge_of : A → Gauge) (s₁ s₂ : Outcome A (List ℕ)) : Type 0 where
    answer : A
    image₁ : List ℕ
    image₂ : List ℕ
    is₁ : s₁ ≡ outcome answer image₁
    is₂ : s₂ ≡ outcome answer image₂
    quiet : Quiet (gauge_of answer)
    agreeing : Agreeing image₁ image₂

  -- ---- one byte

  abbrev BothBytes : Outcome ByteAnswer (List ℕ) → Outcome ByteAnswer (List ℕ) → Type 0
  BothBytes s₁ s₂ = Both ByteAnswer (λ b. b.gauge) s₁ s₂

  module _ (image₁ image₂ : List ℕ) (t : Agreeing image₁ image₂) (g : Gauge) (byte : ℕ) (q : Quiet g) where
    -- the images stay
    to : {s₁ s₂ : Outcome ByteAnswer (List ℕ)} (s : ByteAnswer) → s₁ ≡ outcome s image₁ → s₂ ≡ outcome s image₂ → Quiet s.gauge → BothBytes s₁ s₂
    to s p₁ p₂ c = record { answer = s; image₁ = image₁; image₂ = image₂; is₁ = p₁; is₂ = p₂; quiet = c; agreeing = t }

    committed_agreeing : Editable g → Agreeing (committed l image₁ g) (committed l image₂ g)
    unfolding committed
    committed_agreeing e =
        let i = loaded_info g byte q e in
        let b = i.number in
        let into = commit_into g byte q e b i.is i.few in
        rw i.is
        (record {
          fits₁ = rw (store_length l image₁ info_class b g.window q.whole) t.fits₁;
          fits₂ = rw (store_length l image₂ info_class b g.window q.whole) t.fits₂;
          agree = agree_stored l g.window b q.whole image₁ image₂ (same_length t) t.agree;
          kept₁ = kept_stored l g.window b q.whole start₁ image₁ into t.kept₁;
          kept₂ = kept_stored l g.window b q.whole start₂ image₂ into t.kept₂;
        })

    -- how many bytes a commit changes is told by the block that it stores into
    same_changed : Editable g → differing image₁ (committed l image₁ g) ≡ differing image₂ (committed l image₂ g)
    unfolding committed
    same_changed e =
        let i = loaded_info g byte q e in
        let b = i.number in
        rw (i.is, store_differing l image₁ info_class b g.window q.whole, store_differing l image₂ info_class b g.window q.whole, t.agree.info b i.few)

    -- the refusals of a commit ask nothing of the image: 16 is never given to a sealed gauge
    same_error : commit_error l image₁ g byte ≡ commit_error l image₂ g byte
    unfolding commit_error changes_keys
    same_error = rw (eqb-true g.mode sealed q.is_sealed_lem)

    at_checksum : BothBytes (commit l image₁ g byte) (commit l image₂ g byte)
    unfolding commit
    at_checksum =
        on_test (eqb (commit_error l image₁ g byte) 0)
        (λ h.
        let e = committable l image₁ g byte (eqb-true _ _ h) in
        record {
          answer = byte_written 0 (differing image₁ (committed l image₁ g)) g;
          image₁ = committed l image₁ g;
          image₂ = committed l image₂ g;
          is₁ = rw h;
          is₂ = rw (← same_error, h, same_changed e);
          quiet = q;
          agreeing = committed_agreeing e;
        })
        (λ h. to (refuse (commit_error l image₁ g byte) g) (rw h) (rw (← same_error, h)) q)

    abbrev Unseals : List ℕ → Type 0
    Unseals image = is_sealed (obey l image g (word g.low byte)) ≡ false

    at_word : BothBytes (write_at Register.ControlHigh l image₁ g byte) (write_at Register.ControlHigh l image₂ g byte) ⊎ (Unseals image₁ ⊎ Unseals image₂)
    unfolding write_at
    at_word =
        let w = word g.low byte in
        on_test (is_sealed (obey l image₁ g w))
        (λ s₁.
        on_test (is_sealed (obey l image₂ g w))
        (λ s₂.
        let p₁ = word_heard g w q l image₁ s₁ in
        let p₂ = word_heard g w q l image₂ s₂ in
        inl (to (accept (heard g w)) (rw p₁) (rw p₂) (heard_quiet g w q (rw p₁ at s₁))))
        (λ s₂. inr (inr s₂)))
        (λ s₁. inr (inl s₁))

    at_register : (k : Register) → BothBytes (write_at k l image₁ g byte) (write_at k l image₂ g byte) ⊎ ((k ≡ Register.ControlHigh) × (Unseals image₁ ⊎ Unseals image₂))
    unfolding write_at
    at_register Register.ControlLow = inl (to (accept (with_low g byte)) refl refl (record { is_sealed_lem = q.is_sealed_lem; info = q.info; whole = q.whole }))
    at_register Register.ControlHigh = ⊎_elim (λ b. inl b) (λ o. inr (refl, o)) at_word
    at_register Register.DataFlashClass = inl (to (refuse sealed_register g) (rw (class_refused g byte q)) (rw (class_refused g byte q)) q)
    at_register Register.DataFlashBlock =
        inl (to (select_block l image₁ g byte) refl (rw (select_same g byte q l image₁ image₂ (same_length t) t.agree)) (select_quiet g byte q l image₁))
    at_register (Register.BlockData k) = inl (to (edit g k byte) refl refl (edit_quiet g byte q k))
    at_register Register.BlockDataChecksum = inl at_checksum
    at_register Register.BlockDataControl = inl (to (refuse sealed_register g) (rw (control_refused g byte q)) (rw (control_refused g byte q)) q)
    at_register Register.Other = inl (to (refuse read_only g) refl refl q)

  -- ---- a write

  abbrev BothRan : Outcome WriteAnswer (List ℕ) → Outcome WriteAnswer (List ℕ) → Type 0
  BothRan w₁ w₂ = Both WriteAnswer (λ w. w.gauge) w₁ w₂

  -- what is claimed of the runs over bs
  abbrev SameRuns : List ℕ → Type 0
  SameRuns bs =
      (g : Gauge) (image₁ image₂ : List ℕ) (r n c : ℕ) → Quiet g → Agreeing image₁ image₂
      → is_sealed (write_bytes l image₁ g r n c bs).answer.gauge ≡ true → is_sealed (write_bytes l image₂ g r n c bs).answer.gauge ≡ true
      → BothRan (write_bytes l image₁ g r n c bs) (write_bytes l image₂ g r n c bs)

  one_more : (b : ℕ) (bs : List ℕ) → SameRuns bs → SameRuns (b ∷ bs)
  unfolding write_byte
  one_more b bs ih g image₁ image₂ r n c q t h₁ h₂ =
      ⊎_elim (λ s. on_test (eqb s.answer.error 0) (more s) (last s))
      (λ o.
      ⊎_elim (λ u. absurd (run_unseals l image₁ g r n c b bs o.0 u h₁)) (λ u. absurd (run_unseals l image₂ g r n c b bs o.0 u h₂)) o.1)
      (at_register image₁ image₂ t g b q (register_of r))
    where
      First : Type 0
      First = BothBytes (write_byte l image₁ g r b) (write_byte l image₂ g r b)

      Goal : Type 0
      Goal = BothRan (write_bytes l image₁ g r n c (b ∷ bs)) (write_bytes l image₂ g r n c (b ∷ bs))

      more : (s : First) → eqb s.answer.error 0 ≡ true → Goal
      more s h =
          let p₁ = goes_on l image₁ g r n c b bs s.answer s.image₁ s.is₁ h in
          let p₂ = goes_on l image₂ g r n c b bs s.answer s.image₂ s.is₂ h in
          rw (p₁, p₂)
          (ih s.answer.gauge s.image₁ s.image₂ (r + 1) (n + 1) (c + s.answer.changed) s.quiet s.agreeing (rw p₁ at h₁) (rw p₂ at h₂))

      last : (s : First) → eqb s.answer.error 0 ≡ false → Goal
      last s h = record {
        answer = written s.answer.error n (c + s.answer.changed) s.answer.gauge;
        image₁ = s.image₁;
        image₂ = s.image₂;
        is₁ = stops l image₁ g r n c b bs s.answer s.image₁ s.is₁ h;
        is₂ = stops l image₂ g r n c b bs s.answer s.image₂ s.is₂ h;
        quiet = s.quiet;
        agreeing = s.agreeing;
      }

  runs : (bs : List ℕ) → SameRuns bs
  unfolding write_bytes
  runs [] = λ g image₁ image₂ r n c q t h₁ h₂.
      record { answer = written 0 n c g; image₁ = image₁; image₂ = image₂; is₁ = refl; is₂ = refl; quiet = q; agreeing = t }
  runs (b ∷ bs) = one_more b bs (runs bs)

  writes : (g : Gauge) (image₁ image₂ : List ℕ) (r : ℕ) (bs : List ℕ) → Quiet g → Agreeing image₁ image₂
      → is_sealed (write l image₁ g r bs).answer.gauge ≡ true → is_sealed (write l image₂ g r bs).answer.gauge ≡ true
      → BothRan (write l image₁ g r bs) (write l image₂ g r bs)
  writes g image₁ image₂ r bs q t h₁ h₂ =
      on_test (eqb e 0)
      (λ h.
      let p₁ : write l image₁ g r bs ≡ write_bytes l image₁ g r 0 0 bs = rw h at is₁ in
      let p₂ : write l image₂ g r bs ≡ write_bytes l image₂ g r 0 0 bs = rw h at is₂ in
      rw (p₁, p₂) (runs bs g image₁ image₂ r 0 0 q t (rw p₁ at h₁) (rw p₂ at h₂)))
      (λ h. record { answer = written e 0 0 g; image₁ = image₁; image₂ = image₂; is₁ = rw h at is₁; is₂ = rw h at is₂; quiet = q; agreeing = t })
    where
      e : ℕ
      e = call_error l (length image₁) g r (length bs)

      is₁ : write l image₁ g r bs ≡ cond (eqb e 0) (write_bytes l image₁ g r 0 0 bs) (outcome (written e 0 0 g) image₁)
      is₁ = write_is l image₁ g r bs e refl

      is₂ : write l image₂ g r bs ≡ cond (eqb e 0) (write_bytes l image₂ g r 0 0 bs) (outcome (written e 0 0 g) image₂)
      is₂ = write_is l image₂ g r bs e (rw (same_length t))

  -- ---- a script

  script : (cs : List Call) (g : Gauge) (image₁ image₂ : List ℕ) → Quiet g → Agreeing image₁ image₂
      → Indistinguishable l l start₁ start₂ (device g image₁) (device g image₂) cs
  unfolding reply after_call outcome
  script [] g image₁ image₂ q t = tt
  script (to_write r bs ∷ cs) g image₁ image₂ q t = λ u₁ u₂.
      let s₁ = stays_sealed l (device g image₁) (to_write r bs) q.is_sealed_lem u₁ in
      let s₂ = stays_sealed l (device g image₂) (to_write r bs) q.is_sealed_lem u₂ in
      let w = writes g image₁ image₂ r bs q t s₁ s₂ in
      let v = w.agreeing in
      rw (w.is₁, w.is₂) (refl, v.agree, v.kept₁, v.kept₂, script cs w.answer.gauge w.image₁ w.image₂ w.quiet v)
  script (to_read r n buffer ∷ cs) g image₁ image₂ q t = λ u₁ u₂.
      (rw (read_same l g image₁ image₂ r n buffer (same_length t)), t.agree, t.kept₁, t.kept₂, script cs g image₁ image₂ q t)
  script (to_supply millivolts ∷ cs) g image₁ image₂ q t = λ u₁ u₂.
      let s = set_supply l (length image₁) g millivolts in
      rw (← same_length t) (refl, t.agree, t.kept₁, t.kept₂, script cs s.gauge image₁ image₂ (supply_quiet l (length image₁) g millivolts q) t)

-- ---- two layouts that mean the same

same_unseals : (l l' : Layout) → SameClasses l l' → (d : Device) (c : Call) → unseals l d c ≡ unseals l' d c
unfolding unseals
same_unseals l l' s d c = rw (same_after l l' s d c)

other_layout : (l₁ l₂ : Layout) (start₁ start₂ : List ℕ) → SameClasses l₁ l₂ → (cs : List Call) (d₁ d₂ : Device)
    → Indistinguishable l₁ l₁ start₁ start₂ d₁ d₂ cs → Indistinguishable l₁ l₂ start₁ start₂ d₁ d₂ cs
other_layout l₁ l₂ start₁ start₂ s [] d₁ d₂ i = tt
other_layout l₁ l₂ start₁ start₂ s (c ∷ cs) d₁ d₂ i = λ u₁ u₂.
    let h = i u₁ (same_unseals l₁ l₂ s d₂ c ∙ u₂) in
    let rest = other_layout l₁ l₂ start₁ start₂ s cs (after_call l₁ d₁ c) (after_call l₁ d₂ c) h.4 in
    rw (← same_reply l₁ l₂ s d₂ c, ← same_after l₁ l₂ s d₂ c) (h.0, h.1, h.2, h.3, rest)

pub sealed_noninterference : SealedNoninterference
sealed_noninterference l₁ l₂ image₁ image₂ g same f₁ f₂ v s a cs =
    other_layout l₁ l₂ image₁ image₂ same cs (device g image₁) (device g image₂)
    (script l₁ image₁ image₂ cs g image₁ image₂ (valid_quiet l₁ g v s)
    (record {
      fits₁ = f₁;
      fits₂ = (same_layout_lem l₁ l₂ same).fits (length image₂) ∙ f₂;
      agree = a;
      kept₁ = record { size = refl; outside = λ j nb nc. refl };
      kept₂ = record { size = refl; outside = λ j nb nc. refl };
    }))

pub noninterference : Noninterference
noninterference l₁ l₂ image₁ image₂ same f₁ f₂ a =
    sealed_noninterference l₁ l₂ image₁ image₂ (power_on boot_sealed) same f₁ f₂ (power_on_valid l₁ boot_sealed) refl a
