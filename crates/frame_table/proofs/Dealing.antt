-- The first seat of a table, and the seats that are cut off it.
use Rattle.std.proofs.Common.{◌≡◌, ℕ, ◌+◌, ◌-◌, ◌<◌, Bool, true, false, List, [], ◌∷◌, Option, Some, None, refl, ap, arith, sym, ◌∙◌, subst}
use Rattle.std.specs.Prelude.{if◌then◌else◌}
use Rattle.atomic_table.specs.Table.{Me}
use Rattle.atomic_table.specs.Seated.{TableId}
use Rattle.frame_model.specs.declared.key.Key.{Key}
use Rattle.frame_table.specs.declared.rule.Watch.{Watch}
use Rattle.frame_model.specs.declared.view.View.{View}
use Rattle.frame_words.specs.declared.geometry.Geometry.{Geometry}
use Rattle.frame_model.specs.Key.{key_of, AreRanges, IsKey}
use Rattle.frame_model.specs.Words.{bits_place, bit_word_of, bit_of}
use Rattle.frame_core.specs.Image.{Contents, IsImage}
use Rattle.frame_model.specs.View.{idle, IsViewOf}
use Rattle.frame_model.specs.Fit.{Fit}
use Rattle.frame_model.specs.Steps.{next}
use Rattle.frame_model.specs.Seats.{part_share, left_by}
use Rattle.frame_model.specs.Events.{last_seen}
use Rattle.frame_model.specs.Rebuilt.{IsRebuilt}
use Rattle.frame_model.specs.Openings.{reopener, IsSealedOpening}
use Rattle.frame_model.proofs.Opening.{sealed_fits, reopening_fits}
use Rattle.frame_table.specs.declared.rule.Origin.{Origin}
use Rattle.frame_table.specs.Rule.{key_from, first_view, watch, FitsAmong}
use Rattle.frame_table.specs.Seats.{AreLaid, IsSeat}
use Rattle.frame_table.specs.Openings.{unsealed_key, moved}

-- a memory that was in use before has a lawful key
pub unsealed_is_key : (g : Geometry) → IsKey (unsealed_key g)
unfolding AreRanges
unsealed_is_key g = record {
  sizes = record {
    some_children = g.some_children;
    few_children = g.few_children;
    some_cores = g.some_cores;
    few_cores = g.few_cores;
    last_child = omega (arith, g.last_child_begun);
    inside = omega (arith, g.frames_in_children);
  };
  ranges = tt;
  few_ranges = omega arith;
  unsealed = λ e. refl;
}

nothing_read : (i seen : ℕ) {P : Type 0} → last_seen [] i ≡ Some seen → P
unfolding last_seen
nothing_read i seen e = absurd (cc)

laid_none : (key : Key) → AreLaid key []
laid_none key = record {
  entries = λ c seen h e. nothing_read _ seen e;
  trees = λ t seen h e. nothing_read _ seen e;
  locals = λ k seen tree resting h e. nothing_read _ seen e;
}

-- a seat that has read nothing
pub fresh_seat : (id : TableId) (key : Key) (seat : TableId) (me : Me (Unit {0}) Watch) (v : View) (known : Option (List ℕ))
    → seat ≡ id → me ≡ (watch v [] known, []) → v.about ≡ Some key → ∥ IsViewOf key v ∥₁
    → ((words : List ℕ) → known ≡ Some words → ∥ FitsAmong key words v ∥₁) → IsSeat id key seat me
fresh_seat id key seat me v known at is about view fits = subst (IsSeat id key seat) (sym is)
    (record { table = at; bare = refl; about = about; is_view = view; laid = laid_none key; fits = fits })

-- who knows no words
pub knows_none : (key : Key) (v : View) (known : Option (List ℕ)) → known ≡ None
    → (words : List ℕ) → known ≡ Some words → ∥ FitsAmong key words v ∥₁
knows_none key v known none words some = absurd (cc)

-- the first seat, from which a share was cut off
pub dealt : (key : Key) (m s r : ℕ) (v w : View) → v ≡ moved m (idle key s) → w ≡ left_by next (part_share 1) v → s - 1 ≡ r
    → w ≡ moved w.moves (idle key r)
dealt key m s r v w is cut less =
    let e : w ≡ moved (m + 1) (idle key (s - 1)) = cut ∙ ap (left_by next (part_share 1)) is in
    let n : w.moves ≡ m + 1 = ap (λ (u : View). u.moves) e in
    e ∙ (ap (λ k. moved k (idle key (s - 1))) (sym n) ∙ ap (λ k. moved w.moves (idle key k)) less)

abbrev key_with : Contents → List (ℕ × ℕ) → Bool → Key
key_with image ranges sealed = record {
  children = image.geometry.children;
  cores = image.geometry.cores;
  frames = image.geometry.frames;
  ranges = ranges;
  sealed = sealed;
}

-- the rule at the opening, by what the table is told
abbrev Opens : List ℕ → Contents → List (ℕ × ℕ) → Bool → Type 0
Opens words image ranges sealed =
    Fit (key_with image ranges sealed) image.geometry.cores words
    ((if sealed then idle (key_with image ranges sealed) image.geometry.cores else reopener (key_with image ranges sealed) image.words
    image.geometry.cores) ∷ [])

pub opens_at : (o : Origin) (image : Contents) → o.image.value ≡ image → o.ranges.value.items ≡ [] → o.sealed ≡ false
    → 0 < image.geometry.cores
    → IsRebuilt (unsealed_key image.geometry) image.words image.words → IsImage (key_of image.geometry) image.words
    → Fit (key_from o) (key_from o).cores image.words (first_view o ∷ [])
unfolding bit_of bit_word_of bits_place
opens_at o image is none unsealed cores exact laid =
    let first : Opens image.words image [] false = reopening_fits (unsealed_key image.geometry) image.words image.geometry.cores cores
    (record { unsealed = refl; exact = exact; past_end = laid.past_end }) in
    let second : Opens image.words image [] o.sealed = subst (λ b. Opens image.words image [] b) (sym unsealed) first in
    let third : Opens image.words image o.ranges.value.items o.sealed = subst (λ r. Opens image.words image r o.sealed) (sym none) second in
    subst (λ i. Opens image.words i o.ranges.value.items o.sealed) (sym is) third

pub opens_sealed : (o : Origin) (image : Contents) → o.image.value ≡ image → o.sealed ≡ true → 0 < image.geometry.cores
    → IsSealedOpening (key_with image o.ranges.value.items true) image.words
    → Fit (key_from o) (key_from o).cores image.words (first_view o ∷ [])
opens_sealed o image is closed cores opening =
    let first : Opens image.words image o.ranges.value.items true = sealed_fits (key_with image o.ranges.value.items true) image.words
    image.geometry.cores cores opening in
    let second : Opens image.words image o.ranges.value.items o.sealed = subst (λ b. Opens image.words image o.ranges.value.items b)
    (sym closed) first in
    subst (λ i. Opens image.words i o.ranges.value.items o.sealed) (sym is) second
