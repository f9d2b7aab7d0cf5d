-- A company comes beside the own view: parties with nothing in flight.
use Rattle.std.proofs.Common.{◌≡◌, inr, ℕ, suc, ◌+◌, ◌/◌, ◌<◌, List, [], ◌∷◌, Some, get_or, replicate, refl, ap, sym, subst, ◌∙◌, arith}
use Rattle.std.specs.List.{All}
use Rattle.std.proofs.Math.Logic.{∥∥₁_map}
use Rattle.std.proofs.lemmas.List.Sums.{sum_by-cons}
use Rattle.std.proofs.lemmas.List.Elements.{All-head, All-tail, All-cons}
use borrow.Author.Differences.{up, down}
use Rattle.frame_model.specs.declared.block.FrameBlock.{FrameBlock}
use Rattle.frame_model.specs.declared.key.Key.{Key}
use Rattle.frame_model.specs.declared.view.View.{View}
use Rattle.frame_model.specs.Block.{smalls}
use Rattle.frame_model.specs.View.{small_in, whole_in, ground_small_in, marks, charged_in, paid_on, reserves, blocks_out, ground_in, idle}
use Rattle.frame_model.specs.View.{IsViewOf}
use Rattle.frame_model.specs.Fit.{total, Fit}
use Rattle.frame_model.proofs.Amounts.{count_none, is_at_none, names_none}
use Rattle.frame_model.proofs.Blocks.{smalls_none, wholes_none}
use Rattle.frame_model.proofs.Keeps.{total_is}
use Rattle.frame_model.proofs.Steps.Shared.{ground_none, none_out}
use Rattle.frame_model.proofs.Steps.Seats.{ground_no, idle_is}
use Rattle.plain_moves.specs.declared.plain.party.Party.{Party}
use Rattle.plain_moves.specs.declared.plain.party.Company.{Company}
use Rattle.plain_moves.specs.Plain.{IsFresh, IsOutIn, IsOf, AreOf, HaveHolders, Agrees}
use Rattle.plain_moves.proofs.PlainOpening.{zero_at}

module _ (key : Key) (words : List ℕ) (v : View) where
  module _ (us : List View) (shares n : ℕ) (has : 0 < n) (fit : Fit key shares words (v ∷ us)) where
    abbrev one : View
    one = idle key n

    same : (f : View → ℕ) → f one ≡ 0 → total key f (v ∷ one ∷ us) ≡ total key f (v ∷ us)
    same f none = omega (
      arith,
      total_is key f (v ∷ one ∷ us),
      total_is key f (v ∷ us),
      sum_by-cons f v (one ∷ us),
      sum_by-cons f v us,
      sum_by-cons f one us,
      none,
    )

    more : (f : View → ℕ) → total key f (v ∷ one ∷ us) ≡ total key f (v ∷ us) + f one
    more f = omega (
      arith,
      total_is key f (v ∷ one ∷ us),
      total_is key f (v ∷ us),
      sum_by-cons f v (one ∷ us),
      sum_by-cons f v us,
      sum_by-cons f one us,
    )

    -- one with shares of its own and nothing in flight
    newcomer : Fit key (shares + n) words (v ∷ one ∷ us)
    newcomer = record {
      wholes = λ c h. same (whole_in c) (omega (arith, wholes_none c)) ∙ fit.wholes c h;
      bits = λ x h. same (marks x) (omega (arith, smalls_none x, names_none (x / 64))) ∙ fit.bits x h;
      apart = λ x h. omega (arith, same (small_in x) (omega (arith, smalls_none x)), fit.apart x h);
      entries_add_up = λ c h. omega (arith, same (charged_in c) (count_none c), fit.entries_add_up c h);
      trees_add_up = λ t h. omega (arith, same (paid_on t) (count_none t), fit.trees_add_up t h);
      reserved_once = λ t h. omega (arith, same (reserves t) (is_at_none t), fit.reserved_once t h);
      shares_add_up = omega (arith, more (λ w. w.share), fit.shares_add_up);
      lents_add_up = omega (
        arith,
        same (λ w. up w.lent) refl,
        same (λ w. down w.lent) refl,
        same blocks_out (none_out one has),
        fit.lents_add_up,
      );
      one_ground = same ground_in (ground_no one refl) ∙ fit.one_ground;
      past_end = λ x ge h. same (ground_small_in x) (ap (smalls x) (ground_none one refl) ∙ smalls_none x) ∙ fit.past_end x ge h;
      each = All-cons (IsViewOf key) v (one ∷ us) (All-head (IsViewOf key) v us fit.each)
          (All-cons (IsViewOf key) one us (idle_is key (Some key) n refl has) (All-tail (IsViewOf key) v us fit.each));
      words_in_range = fit.words_in_range;
    }

  -- the words fit with the views of these parties too
  record Beside (bytes : List ℕ) (ps : List Party) : Type 0 where
    views : List View
    shares : ℕ
    fit : Fit key shares words (v ∷ views)
    of : AreOf key ps views
    held : HaveHolders key bytes views

  fresh_of : (p : Party) → IsFresh p → IsOf key p (idle key p.share)
  fresh_of p f = record {
    named = refl;
    share = refl;
    not_ground = refl;
    paid = sym f.idle.paid;
    charged = sym f.idle.charged;
    reserving = sym f.idle.reserving;
    own = sym f.idle.own;
    kept = refl;
    filled = sym f.filled;
  }

  seated : (bytes : List ℕ) (ps : List Party) → All IsFresh ps → (us : List View) (shares : ℕ)
      → Fit key shares words (v ∷ us) → AreOf key [] us → HaveHolders key bytes us → Beside bytes ps
  unfolding AreOf
  seated bytes [] fresh us shares fit of held = record { views = us; shares = shares; fit = fit; of = of; held = held }
  seated bytes (p ∷ ps) fresh us shares fit of held =
      let b = seated bytes ps (All-tail IsFresh p ps fresh) us shares fit of held in
      record {
        views = idle key p.share ∷ b.views;
        shares = b.shares + p.share;
        fit = newcomer b.views b.shares p.share p.some b.fit;
        of = (fresh_of p (All-head IsFresh p ps fresh), b.of);
        held = λ d out. (suc (b.held d out).0, (b.held d out).1);
      }

-- with a fresh company, and no block out on its side, the state agrees as before
pub admitted : (key : Key) (old new : Company) (words bytes : List ℕ) (v : View) (n : ℕ) → old.parties.items ≡ []
    → All IsFresh new.parties.items → new.outs.items ≡ replicate n 0
    → ∥ Agrees key old words bytes v ∥₁ → ∥ Agrees key new words bytes v ∥₁
admitted key old new words bytes v n none fresh zeros agrees = ∥∥₁_map agrees (λ (a : Agrees key old words bytes v).
    let of : AreOf key [] a.others = subst (λ (ps : List Party). AreOf key ps a.others) none a.parties in
    let b = seated key words v bytes new.parties.items fresh a.others a.shares a.fit of a.outs in
    record {
      others = b.views;
      shares = b.shares;
      fit = b.fit;
      outs = b.held;
      their_outs = λ d out. absurd (none_out_there d out);
      not_both = λ x. inr (ap (λ (l : List ℕ). get_or l x 0) zeros ∙ zero_at n x);
      parties = b.of;
    })
  where
    none_out_there : (d : FrameBlock) → IsOutIn new.outs.items d → ⊥
    none_out_there d out = omega (arith, out.1, ap (λ (l : List ℕ). get_or l d.frame 0) zeros, zero_at n d.frame)
