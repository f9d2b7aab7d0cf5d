-- How plain moves begin: nothing is out and nothing is in flight.
use Rattle.std.proofs.Common.{◌≡◌, ℕ, zero, suc, pos, ◌<◌, ◌≤◌, List, [], ◌∷◌, None}
use Rattle.std.proofs.Common.{inr, length, false, get_or, replicate, refl, ap, sym, subst, ◌∙◌, arith}
use Rattle.std.proofs.Math.Logic.{∥∥₁_map}
use Rattle.std.proofs.lemmas.List.Sums.{sum_by-cons}
use Rattle.frame_words.specs.declared.geometry.Geometry.{Geometry}
use Rattle.frame_model.specs.declared.block.FrameBlock.{FrameBlock}
use Rattle.frame_model.specs.declared.key.Key.{Key}
use Rattle.frame_model.specs.declared.view.View.{View}
use Rattle.std.specs.List.{sum_by, All}
use Rattle.std.proofs.lemmas.List.Elements.{All-cons, All-nil}
use Rattle.frame_model.specs.Key.{key_of, frame_count}
use Rattle.frame_model.specs.Words.{bits_place, bit_word_of, bit_of}
use Rattle.frame_core.specs.Image.{IsImage}
use Rattle.frame_model.specs.Rebuilt.{IsRebuilt}
use Rattle.frame_model.specs.View.{idle, ground_with, fixed_ground}
use Rattle.frame_model.specs.Openings.{held_blocks, reopener, IsSealedOpening}
use Rattle.frame_model.specs.Fit.{total, Fit}
use Rattle.frame_model.proofs.Opening.{sealed_fits, reopening_fits}
use Rattle.frame_model.proofs.Steps.Cutting.{part_ground_keeps}
use Rattle.plain_moves.specs.declared.plain.party.Party.{Party}
use Rattle.plain_moves.specs.declared.plain.party.Company.{Company}
use Rattle.plain_moves.specs.Plain.{plain_key, is_out_byte, out_count, plain_view, HasNoShare, IsOutIn, AreOf, Agrees, FitsIdle}
use Rattle.plain_moves.specs.Plain.{FitsReopened}
use Rattle.plain_moves.proofs.PlainOuts.{byte_none}

pub zero_at : (n i : ℕ) → ◌≡◌ {A = ℕ} (get_or (replicate n 0) i 0) 0
zero_at zero i = refl
zero_at (suc n) zero = refl
zero_at (suc n) (suc i) = zero_at n i

zero_count : (n : ℕ) → out_count (replicate n 0) ≡ 0
unfolding out_count
zero_count zero = refl
zero_count (suc n) = omega (arith, sum_by-cons is_out_byte 0 (replicate n 0), byte_none, zero_count n)

pub starts : (key : Key) (share : ℕ) (bytes : List ℕ) (own : List FrameBlock) (filled : List ℕ) (n : ℕ)
    → share ≡ key.cores → bytes ≡ replicate n 0 → own ≡ [] → filled ≡ []
    → plain_view key share bytes None None None own filled 0 0 ≡ idle key key.cores
starts key share bytes own filled n es eb eo ef =
    let z : out_count bytes ≡ 0 = ap out_count eb ∙ zero_count n in
    λ i. record (idle key (es i)) { lent = pos (z i); own = eo i; filled = ef i }

none_share : (xs : List View) → sum_by (λ u. u.share) xs ≡ 0 → All HasNoShare xs
none_share [] e = All-nil HasNoShare
none_share (u ∷ us) e =
    let s = sum_by-cons (λ (w : View). w.share) u us in
    All-cons HasNoShare u us (omega (arith, s, e)) (none_share us (omega (arith, s, e)))

-- where the own view has all shares, the company is nobody
no_party : (key : Key) (words : List ℕ) (v : View) (others : List View)
    → v.share ≡ key.cores → Fit key key.cores words (v ∷ others) → AreOf key [] others
unfolding total AreOf
no_party key words v others all fit =
    let count : View → ℕ = λ w. w.share in
    let a = sum_by-cons count (fixed_ground key) (v ∷ others) in
    let b = sum_by-cons count v others in
    none_share others (omega (arith, a, b, all, fit.shares_add_up))

-- with an idle own view, and no block out, the state agrees
pub opened : (key : Key) (them : Company) (words bytes : List ℕ) (v : View) (n : ℕ)
    → them.parties.items ≡ [] → them.outs.items ≡ [] → ∥ FitsIdle key words ∥₁ → bytes ≡ replicate n 0 → v ≡ idle key key.cores
    → ∥ Agrees key them words bytes v ∥₁
opened key them words bytes v n ep eo fits eb ev =
    ∥∥₁_map fits (λ (f : FitsIdle key words).
    let fit : Fit key key.cores words (v ∷ f.0) =
    subst (λ (u : View). Fit key key.cores words (u ∷ f.0)) (sym ev) f.1 in
    record {
      others = f.0;
      shares = key.cores;
      fit = fit;
      outs = λ b out. absurd (none_out b out);
      their_outs = λ b out. absurd (omega (arith, out.0, ap (λ (l : List ℕ). length l) eo));
      not_both = λ x. inr (ap (λ (l : List ℕ). get_or l x 0) eo);
      parties = subst (λ (ps : List Party). AreOf key ps f.0) (sym ep) (no_party key words v f.0 (ap (λ (u : View). u.share) ev) fit);
    })
  where
    none_out : (b : FrameBlock) → IsOutIn bytes b → ⊥
    none_out b out =
        omega (arith, out.1, ap (λ (l : List ℕ). get_or l b.frame 0) eb, zero_at n b.frame)

-- the words of a sealed opening fit with an idle own view
pub sealed_opens : (key : Key) (words : List ℕ) → 0 < key.cores → IsSealedOpening key words
    → ∥ FitsIdle key words ∥₁
sealed_opens key words some opening = ∣ ([], sealed_fits key words key.cores some opening) ∣₁

-- words with exact counters fit with an idle own view and the ground
pub reopened : (key : Key) (words : List ℕ) → key.sealed ≡ false → 0 < key.cores
    → IsRebuilt key words words → ((x : ℕ) → key.frames ≤ x → x < frame_count key → bit_of key words x ≡ 1)
    → FitsReopened key words
reopened key words unsealed some exact past =
    let v : View = reopener key words key.cores in
    let fit = reopening_fits key words key.cores some (record { unsealed = unsealed; exact = exact; past_end = past }) in
    part_ground_keeps (λ n. n) key key.cores words (v ∷ []) 0 v fit refl
    (record { share = some; is_ground = refl })

-- as those of an image with exact counters do
pub reopened_image : (g : Geometry) (words : List ℕ) → IsImage (key_of g) words
    → IsRebuilt (plain_key g false) words words → FitsReopened (plain_key g false) words
unfolding bit_of bit_word_of bits_place
reopened_image g words image exact = reopened (plain_key g false) words refl g.some_cores exact image.past_end

pub reopened_idle : (key : Key) (words : List ℕ) → FitsReopened key words → ∥ FitsIdle key words ∥₁
reopened_idle key words fit = ∣ (ground_with key (held_blocks key words) ∷ [], fit) ∣₁
