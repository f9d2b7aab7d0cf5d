-- What the parts of the search bring, step by step: what no step changes, counts, views and frames at once.
use Rattle.std.proofs.Common.{◌≡◌, ℕ, ◌+◌, ◌*◌, ◌^◌, ◌<◌, ◌≤◌, List, Option, refl, ap, sym, subst, ◌∙◌, arith}
use Rattle.std.specs.Prelude.{ℤ, Bool, IfSome, Some, None, slice_index}
use Rattle.frame_model.specs.declared.block.FrameBlock.{FrameBlock}
use Rattle.frame_model.specs.declared.key.Key.{Key}
use Rattle.frame_model.specs.declared.place.Place.{Place}
use Rattle.frame_model.specs.declared.view.View.{View}
use Rattle.frame_model.specs.Key.{tree_count}
use Rattle.frame_model.specs.View.{counted, IsIdle}
use Rattle.frame_model.specs.Block.{IsBlock}
use Rattle.frame_model.specs.Holding.{IsFreeBlock}
use Rattle.frame_words.specs.Words.{rest_in}
use Rattle.frame_model.specs.Words.{local_place}
use Rattle.frame_model.specs.Steps.{Kind, place, swap_local}
use Rattle.frame_core.specs.Moves.{place_of, Changes}
use Rattle.frame_core.specs.Mover.{Mover, LiesInside, Keeps, Ticks, Loads, Tries, Makes, Swaps}
use Rattle.low_frames.specs.Bounds.{attempt}
use Rattle.low_frames.specs.Takes.{Counts, IsAsBefore, IsSure, StaysSure}
use Rattle.low_frames.proofs.AloneLemmas.{at_known}
use Rattle.low_frames.specs.Alone.{FindsOf, WordsTake, NoneIsFree}
use Rattle.low_frames.specs.Gives.{Gives}
use Rattle.low_frames.specs.Outcomes.{TakesOut, TakesNothing, MayTakeOf, HasNoBootFrame}
use Rattle.low_frames.proofs.TakeLemmas.{counts_none, counts_one, load_then, try_then, make_then, then_counts, wider, keeps_none}
use Rattle.low_frames.proofs.TakeLemmas.{keeps_both, others_both, still_as_before}
use Rattle.low_frames.proofs.Sure.{sure_none, sure_both, sure_load, sure_make}
use Rattle.core_frames.specs.Bounds.{most_to_drain, most_in_pass}
use Rattle.core_frames.specs.Alone.{SameFrames, KeepsFrames, IsPassedBy, IsDrained}
use Rattle.core_frames.specs.Search.{IsBlockOf, HasLentOne, HasReserved}
use Rattle.core_frames.specs.Searches.{GivesBy, IsKnown, HasMade, Brings, Misses, Searches, TriesTree, MayRefund, MaySearch}
use Rattle.core_frames.proofs.KeptFrames.{if_some, if_none, IsUpper, upper_local, keeps_load, keeps_then, keeps_found, keeps_change}
use Rattle.core_frames.proofs.KeptFrames.{keeps_exchange, keeps_then_taken, taken_then_keeps, given_then_keeps}
use Rattle.core_frames.proofs.SureSteps.{sure_try, sure_swap}
use Rattle.core_frames.proofs.AloneSearch.{swap_changes, reserved_keeps, drained_keeps}
use Rattle.core_frames.proofs.KeptFrames as kept
use Rattle.core_frames.proofs.Carried.{Carries, paid_there, then_lent, before_twice, idle_still}

-- a swap leaves the frames as they were
swap_kept : (key now : Key) (core : ℕ) (put answer : Option (ℕ × ℕ)) (old new : Option (List ℕ)) → now ≡ key → core < key.cores
    → IfSome old (λ ws. (rest_in (slice_index ws (local_place now core)) ≡ answer) × Changes now (swap_local core put) (Some ws) new)
    → KeepsFrames key old new
swap_kept key now core put answer old new same inside h =
    keeps_change key now (swap_local core put) old new same (upper_local key core inside)
    (swap_changes now (swap_local core put) (λ ws. rest_in (slice_index ws (local_place now core)) ≡ answer) old new h)

module _ {T H : Type 0} {t : ℕ → ℕ} {exact : ℕ → Type 0} (ticks : Ticks t exact) where
  -- nothing yet
  pub begun : (a : Mover T H) → Brings exact 0 IsAsBefore (SameFrames a.key) a a
  begun a = record {
    keeps = keeps_none a;
    counts = counts_none t exact ticks a;
    sure = sure_none a;
    view = refl;
    alone = λ alone. kept.keeps_none a.key a.words;
  }

  -- then a load
  pub load_brings : {a b c : Mover T H} {p : Place} {found : ℕ} (n k : ℕ) → n + 1 ≤ k → (b.is_alone → b.is_undisturbed)
      → Brings exact n IsAsBefore (SameFrames a.key) a b → Loads t p found b c → Brings exact k IsAsBefore (SameFrames a.key) a c
  load_brings {a} {b} {c} {p} {found} n k h calm f l = record {
    keeps = keeps_both f.keeps l.keeps;
    counts = load_then t exact ticks n k h f.counts l;
    sure = sure_both f.sure (sure_load calm l);
    view = still_as_before a.view b.view c.view (t b.view.moves) b.view.lost f.view l.view;
    alone = λ alone.
        keeps_then a.key a.words b.words c.words (f.alone alone)
        (keeps_load a.key (place_of b.key p) found b.words c.words (l.words (calm (f.keeps.stays_alone alone))));
  }

  -- then an exchange on a word of the upper level, which turns the view so
  pub try_brings : {a b c : Mover T H} {kind : Kind} {seen : ℕ} {made : Bool}
      {U : View → View → Type 0} (V : View → View → Type 0) (n k : ℕ)
      → n + 1 ≤ k → (b.is_alone → b.is_undisturbed) → IsUpper a.key (place a.key kind) → Brings exact n U (SameFrames a.key) a b
      → (IsSure a → IsKnown (place b.key kind) seen b) → Tries t kind seen made b c
      → V a.view c.view → Brings exact k V (SameFrames a.key) a c
  try_brings {a} {b} {c} {kind} {seen} {made} V n k h calm up f known l v = record {
    keeps = keeps_both f.keeps l.keeps;
    counts = try_then t exact ticks n k h f.counts l;
    sure = sure_try calm f.sure known l;
    view = v;
    alone = λ alone.
        keeps_then a.key a.words b.words c.words (f.alone alone)
        (keeps_exchange a.key b.key kind seen made b.words c.words f.keeps.same_key up (l.words (calm (f.keeps.stays_alone alone))));
  }

  -- then a change of a word of the upper level, which turns the view so
  pub make_brings : {a b c : Mover T H} {kind : Kind} {U : View → View → Type 0} (V : View → View → Type 0) (n k : ℕ) → n + 1 ≤ k
      → (b.is_alone → b.is_undisturbed) → IsUpper a.key (place a.key kind) → Brings exact n U (SameFrames a.key) a b → Makes t kind b c
      → V a.view c.view → Brings exact k V (SameFrames a.key) a c
  make_brings {a} {b} {c} {kind} V n k h calm up f l v = record {
    keeps = keeps_both f.keeps l.keeps;
    counts = make_then t exact ticks n k h f.counts l;
    sure = sure_both f.sure (sure_make calm l);
    view = v;
    alone = λ alone.
        keeps_then a.key a.words b.words c.words (f.alone alone)
        (keeps_change a.key b.key kind b.words c.words f.keeps.same_key up (l.words (calm (f.keeps.stays_alone alone))));
  }

  -- then another part, after which the view is so
  pub brings_both : {a b c : Mover T H} {U X : View → View → Type 0} (V : View → View → Type 0) (n m k : ℕ) → n + m ≤ k
      → Brings exact n U (SameFrames a.key) a b → Brings exact m X (SameFrames b.key) b c → V a.view c.view
      → Brings exact k V (SameFrames a.key) a c
  brings_both {a} {b} {c} V n m k h f l v = record {
    keeps = keeps_both f.keeps l.keeps;
    counts = then_counts t exact ticks n m k h f.counts l.counts;
    sure = sure_both f.sure l.sure;
    view = v;
    alone = λ alone.
        keeps_then a.key a.words b.words c.words (f.alone alone)
        (subst (λ i. KeepsFrames i b.words c.words) f.keeps.same_key (l.alone (f.keeps.stays_alone alone)));
  }

  -- in more moves
  pub brings_within : {a b : Mover T H} {V : View → View → Type 0} {W : List ℕ → List ℕ → Type 0} (n k : ℕ) → n ≤ k → Brings exact n V W a b
      → Brings exact k V W a b
  brings_within n k h f = record {
    keeps = f.keeps;
    counts = wider t exact ticks n k h f.counts;
    sure = f.sure;
    view = f.view;
    alone = f.alone;
  }

  pub swap_counts : {a b : Mover T H} {core : ℕ} {put answer : Option (ℕ × ℕ)} → Swaps t core put answer a b → Counts exact 1 a b
  swap_counts {a} {b} l = counts_one t exact ticks a b (ap (λ v. v.moves) l.view.2) (ap (λ v. v.lost) l.view.2) l.missed

  -- then a swap of a local word, which turns the view so
  pub swap_brings : {a b c : Mover T H} {core : ℕ} {put answer : Option (ℕ × ℕ)} {U : View → View → Type 0} (V : View → View → Type 0)
      (n k : ℕ) → n + 1 ≤ k → (b.is_alone → b.is_undisturbed) → core < a.key.cores → Brings exact n U (SameFrames a.key) a b
      → Swaps t core put answer b c → V a.view c.view → Brings exact k V (SameFrames a.key) a c
  swap_brings {a} {b} {c} {core} {put} {answer} V n k h calm inside f l v = record {
    keeps = keeps_both f.keeps l.keeps;
    counts = then_counts t exact ticks n 1 k h f.counts (swap_counts l);
    sure = sure_both f.sure (sure_swap calm l);
    view = v;
    alone = λ alone.
        keeps_then a.key a.words b.words c.words (f.alone alone)
        (swap_kept a.key b.key core put answer b.words c.words f.keeps.same_key inside (l.words (calm (f.keeps.stays_alone alone))));
  }

  -- one move
  pub made_one : (a b : Mover T H) → b.view.moves ≡ t a.view.moves → HasMade exact 1 1 a b
  made_one a b e h = omega (arith, e, ticks.up a.view.moves (ticks.below a.view.moves (a.view.moves + 1) (omega arith) h))

  -- no fewer moves than before
  pub made_none : {a b : Mover T H} (n : ℕ) → Counts exact n a b → HasMade exact 0 n a b
  made_none {a} {b} n f h = omega (arith, f.rises h)

  -- moves, and moves after them
  pub made_both : (a b c : Mover T H) (least more j n most after k : ℕ) → j ≤ least + more → most ≤ k → n + after ≤ k → Counts exact n a b
      → HasMade exact least most a b → HasMade exact more after b c → HasMade exact j k a c
  made_both a b c least more j n most after k e x y counts f g h =
      omega (
        arith,
        e,
        f (ticks.below (a.view.moves + most) (a.view.moves + k) (omega (arith, x)) h),
        g (ticks.below (b.view.moves + after) (a.view.moves + k) (omega (arith, y, counts.moves)) h),
      )

  -- nothing was found, and no frame changed
  pub missed_frames : {a b : Mover T H} (n : ℕ) → Brings exact n IsAsBefore (SameFrames a.key) a b
      → Misses exact 0 n (KeepsFrames a.key) a b
  missed_frames {a} {b} n f = record { view = f.view; made = made_none n f.counts; alone = f.alone }

  pub none_brings : {a b : Mover T H} {In : FrameBlock → Type 0} (n : ℕ)
      → Keeps a b → Counts exact n a b → StaysSure a b → TakesNothing In a b
      → Brings exact n IsAsBefore (SameFrames a.key) a b
  none_brings {a} {b} {In} n keeps counts sure none = record {
    keeps = keeps;
    counts = counts;
    sure = sure;
    view = none.view;
    alone = λ alone. keeps_found a.key (NoneIsFree a.key In) a.words b.words (none.alone alone);
  }

  -- at least so many moves of more
  pub made_within : (a b : Mover T H) (least n k : ℕ) → n ≤ k → HasMade exact least n a b → HasMade exact least k a b
  made_within a b least n k few f h = f (ticks.below (a.view.moves + n) (a.view.moves + k) (omega (arith, few)) h)

-- What is asked where frames of a tree are paid.

module _ {T H : Type 0} (a b : Mover T H) (tree n : ℕ) (r : Option ℕ) (k : ℤ) (same : b.key ≡ a.key) (there : tree < tree_count a.key)
    (idle : IsIdle a.view) (e : Carries a.view (counted tree n) r k b.view) where
  pub may_take : (order : ℕ) → order ≤ 9 → 2 ^ order ≤ n → MayTakeOf tree order b
  may_take order most enough = record {
    tree = subst (λ (i : Key). tree < tree_count i) (sym same) there;
    order = most;
    share = omega (arith, ap (λ (x : View). x.share) e, idle.share);
    charged = ap (λ x. x.charged) e ∙ idle.charged;
    own = ap (λ x. x.own) e ∙ idle.own;
    paid = omega (arith, paid_there tree n b.view (ap (λ x. x.paid) e), enough);
  }

  pub may_refund : (core : ℕ) → core < a.key.cores → MayRefund core tree n b
  may_refund core inside = record {
    core = subst (λ (i : Key). core < i.cores) (sym same) inside;
    tree = subst (λ (i : Key). tree < tree_count i) (sym same) there;
    share = omega (arith, ap (λ (x : View). x.share) e, idle.share);
    paid = ap (λ x. x.paid) e;
  }

-- A block was taken after steps that left the frames as they were.
pub out_after : {T H : Type 0} {block_of : H → FrameBlock} {In : FrameBlock → Type 0}
    {U : View → View → Type 0} {held : H} {a b c : Mover T H}
    (V : View → View → Type 0) (order : ℕ) → Keeps a b → b.view.kept ≡ a.view.kept → (a.is_alone → KeepsFrames a.key a.words b.words)
    → IsBlockOf b.key order (block_of held) → V a.view c.view → TakesOut block_of In U held b c
    → TakesOut block_of (IsBlockOf a.key order) V held a c
out_after {T} {H} {block_of} {In} {U} {held} {a} {b} {c} V order keeps kept same is v out =
    let one : IsBlockOf a.key order (block_of held) = subst (λ k. IsBlockOf k order (block_of held)) keeps.same_key is in
    record {
      view = v;
      is_out = out.is_out;
      is_one = one;
      apart = subst (λ l. IsFreeBlock l (block_of held)) kept out.apart;
      no_boot_frame = subst (λ k. HasNoBootFrame k (block_of held)) keeps.same_key out.no_boot_frame;
      inside = subst (λ k. LiesInside k (block_of held)) keeps.same_key out.inside;
      alone = λ alone.
          keeps_then_taken a.key a.words b.words c.words (block_of held) one.is_block (same alone)
          (subst (λ k. WordsTake k b.words c.words (block_of held)) keeps.same_key (out.alone (keeps.stays_alone alone)));
    }

-- and steps that left them so came after
pub out_still : {T H : Type 0} {block_of : H → FrameBlock} {In : FrameBlock → Type 0}
    {exact : ℕ → Type 0} {n : ℕ} {U X : View → View → Type 0}
    {held : H} {a b c : Mover T H} (V : View → View → Type 0) → IsBlock a.key (block_of held) → Keeps a b → TakesOut block_of In U held a b
    → Brings exact n X (SameFrames b.key) b c → V a.view c.view → TakesOut block_of In V held a c
out_still {T} {H} {block_of} {In} {exact} {n} {U} {X} {held} {a} {b} {c} V is keeps out f v = record {
  view = v;
  is_out = f.keeps.stay_out held out.is_out;
  is_one = out.is_one;
  apart = out.apart;
  no_boot_frame = out.no_boot_frame;
  inside = out.inside;
  alone = λ alone.
      taken_then_keeps a.key a.words b.words c.words (block_of held) is (out.alone alone)
      (subst (λ k. KeepsFrames k b.words c.words) keeps.same_key (f.alone (keeps.stays_alone alone)));
}

-- A pass that found no block, and what comes after it.

-- a block was taken after steps that left all as it was
pub out_then : {T H : Type 0} {block_of : H → FrameBlock} {order : ℕ} {held : H} {a b c : Mover T H} → Keeps a b → IsAsBefore a.view b.view
    → (a.is_alone → KeepsFrames a.key a.words b.words) → TakesOut block_of (IsBlockOf b.key order) HasLentOne held b c
    → TakesOut block_of (IsBlockOf a.key order) HasLentOne held a c
out_then {T} {H} {block_of} {order} {held} {a} {b} {c} keeps before same out =
    out_after HasLentOne order keeps (ap (λ v. v.kept) before) same out.is_one (then_lent a.view b.view c.view before out.view) out

module _ {T H : Type 0} {t : ℕ → ℕ} {exact : ℕ → Type 0} (ticks : Ticks t exact) where
  -- two searches, of which the first missed
  pub searched_twice : {a b c : Mover T H} {block_of : H → FrameBlock} {order : ℕ} {R S : Option (List ℕ) → Option (List ℕ) → Type 0}
      {answer : Option H} (least more all n m most : ℕ) → all ≤ least + more → n + m ≤ most
      → Searches block_of exact least n order R None a b → (a.is_alone → KeepsFrames a.key a.words b.words)
      → (Q : Option (List ℕ) → Option (List ℕ) → Type 0) → (R a.words b.words → S b.words c.words → Q a.words c.words)
      → Searches block_of exact more m order S answer b c → Searches block_of exact all most order Q answer a c
  searched_twice {a} {b} {c} {block_of} {order} {R} {S} {answer} least more all n m most enough few f same Q then s = record {
    keeps = keeps_both f.keeps s.keeps;
    counts = then_counts t exact ticks n m most few f.counts s.counts;
    sure = sure_both f.sure s.sure;
    some = if_some answer (λ held. TakesOut block_of (IsBlockOf b.key order) HasLentOne held b c)
        (λ held. TakesOut block_of (IsBlockOf a.key order) HasLentOne held a c) s.some (λ held out. out_then f.keeps f.none.view same out);
    none = if_none answer (Misses exact more m S b c) (Misses exact all most Q a c) s.none
        (λ x. record {
          view = before_twice a.view b.view c.view f.none.view x.view;
          made = made_both ticks a b c least more all n n m most enough (omega (arith, few)) few f.counts f.none.made x.made;
          alone = λ alone. then (f.none.alone alone) (x.alone (f.keeps.stays_alone alone));
        });
  }

  -- a part that found nothing and kept the frames
  pub missed_brings : {a b : Mover T H} {block_of : H → FrameBlock} {least order : ℕ} {R : Option (List ℕ) → Option (List ℕ) → Type 0}
      (n k : ℕ) → n ≤ k → Searches block_of exact least n order R None a b → (R a.words b.words → KeepsFrames a.key a.words b.words)
      → Brings exact k IsAsBefore (SameFrames a.key) a b
  missed_brings n k h f same = record {
    keeps = f.keeps;
    counts = wider t exact ticks n k h f.counts;
    sure = f.sure;
    view = f.none.view;
    alone = λ alone. same (f.none.alone alone);
  }

  -- a pass over all trees that found nothing
  pub pass_brings : {a b c : Mover T H} {block_of : H → FrameBlock} {least order : ℕ} {P : List ℕ → Type 0} (n k : ℕ)
      → n + most_in_pass a.key ≤ k → Brings exact n IsAsBefore (SameFrames a.key) a b
      → Searches block_of exact least (most_in_pass b.key) order (FindsOf P) None b c → Brings exact k IsAsBefore (SameFrames a.key) a c
  pass_brings {a} {b} {c} {P = P} n k h f s =
      brings_both ticks IsAsBefore n (most_in_pass b.key) k (omega (arith, h, ap tree_count f.keeps.same_key)) f
      (missed_brings (most_in_pass b.key) (most_in_pass b.key) (omega arith) s (keeps_found b.key P b.words c.words))
      (before_twice a.view b.view c.view f.view s.none.view)

  -- a reserved tree, and one that was passed by
  pub got_brings : {a b : Mover T H} {tree least most free : ℕ} → tree < tree_count a.key → TriesTree exact tree least most (Some free) a b
      → Brings exact attempt (HasReserved tree free) (SameFrames a.key) a b
  got_brings {a} {b} {tree} {least} {most} {free} inside f = record {
    keeps = f.gets.keeps;
    counts = f.gets.counts;
    sure = f.gets.sure;
    view = f.gets.some.view;
    alone = λ alone. reserved_keeps a.key tree free a.words b.words inside (f.gets.alone_some alone);
  }

  pub passed_brings : {a b : Mover T H} {tree least most : ℕ} (k : ℕ) → attempt ≤ k → TriesTree exact tree least most None a b
      → Brings exact k IsAsBefore (SameFrames a.key) a b
  passed_brings {a} {b} {tree} {least} {most} k h f = record {
    keeps = f.gets.keeps;
    counts = wider t exact ticks attempt k h f.gets.counts;
    sure = f.gets.sure;
    view = f.gets.none;
    alone = λ alone. keeps_found a.key (IsPassedBy a.key tree least most) a.words b.words (f.gets.alone_none alone);
  }

  -- the drain leaves the frames as they were
  pub drained_brings : {a b c : Mover T H} (n k : ℕ) → n + most_to_drain * a.key.cores ≤ k → Brings exact n IsAsBefore (SameFrames a.key) a b
      → Brings exact (most_to_drain * b.key.cores) IsAsBefore (IsDrained b.key) b c → Brings exact k IsAsBefore (SameFrames a.key) a c
  drained_brings {a} {b} {c} n k h f d = record {
    keeps = keeps_both f.keeps d.keeps;
    counts = then_counts t exact ticks n (most_to_drain * b.key.cores) k
        (omega (arith, h, ap (λ (i : Key). i.cores) f.keeps.same_key)) f.counts d.counts;
    sure = sure_both f.sure d.sure;
    view = before_twice a.view b.view c.view f.view d.view;
    alone = λ alone.
        keeps_then a.key a.words b.words c.words (f.alone alone)
        (drained_keeps a.key b.key b.words c.words f.keeps.same_key (d.alone (f.keeps.stays_alone alone)));
  }

  -- a pass over all trees that found a block
  pub pass_out : {a b c : Mover T H} {block_of : H → FrameBlock} {held : H} {order : ℕ} {R : Option (List ℕ) → Option (List ℕ) → Type 0}
      {least : ℕ} (more : ℕ) (Q : Option (List ℕ) → Option (List ℕ) → Type 0) (n k : ℕ) → n + most_in_pass a.key ≤ k
      → Brings exact n IsAsBefore (SameFrames a.key) a b
      → Searches block_of exact least (most_in_pass b.key) order R (Some held) b c
      → Searches block_of exact more k order Q (Some held) a c
  pass_out {a} {b} {c} more Q n k h f s = record {
    keeps = keeps_both f.keeps s.keeps;
    counts = then_counts t exact ticks n (most_in_pass b.key) k (omega (arith, h, ap tree_count f.keeps.same_key)) f.counts s.counts;
    sure = sure_both f.sure s.sure;
    some = out_then f.keeps f.view f.alone s.some;
    none = tt;
  }

-- what may be searched may be searched still
pub may_search : {T H : Type 0} {a b : Mover T H} {core order : ℕ} → MaySearch core order a → Keeps a b → IsAsBefore a.view b.view
    → MaySearch core order b
may_search {T} {H} {a} {b} {core} {order} may keeps before = record {
  core = subst (λ (i : Key). core < i.cores) (sym keeps.same_key) may.core;
  order = may.order;
  idle = idle_still a.view b.view may.idle before;
}

-- A give, and what comes after it.

pub given_low : {T H : Type 0} {exact : ℕ → Type 0} {n : ℕ} {a b : Mover T H}
    {block_of : H → FrameBlock} {held : H} {U : View → View → Type 0}
    → Gives block_of exact n U held a b → GivesBy block_of exact n U held a b
given_low g = record { keeps = g.keeps; counts = g.counts; back = g.back; knows = λ a. g.knows; alone_given = g.alone_given }

pub given_then : {T H : Type 0} {t : ℕ → ℕ} {exact : ℕ → Type 0}
    (ticks : Ticks t exact) {a b c : Mover T H} {block_of : H → FrameBlock} {held : H}
    {U X : View → View → Type 0} (V : View → View → Type 0) (n m k : ℕ) → n + m ≤ k → IsBlock a.key (block_of held)
    → GivesBy block_of exact n U held a b → Brings exact m X (SameFrames b.key) b c → V a.view c.view → GivesBy block_of exact k V held a c
given_then {T} {H} {t} {exact} ticks {a} {b} {c} {block_of} {held} V n m k h is give f v = record {
  keeps = others_both give.keeps f.keeps;
  counts = then_counts t exact ticks n m k h give.counts f.counts;
  back = v;
  knows = λ alone.
      let t = give.knows alone in
      let u = at_known b.words (λ ws. (us : List ℕ) × ((c.words ≡ Some us) × SameFrames b.key ws us)) t.0 t.1
      (f.alone (give.keeps.stays_alone alone)) in (u.0, u.1.0);
  alone_given = λ alone.
      given_then_keeps a.key a.words b.words c.words (block_of held) is (give.alone_given alone)
      (subst (λ i. KeepsFrames i b.words c.words) give.keeps.same_key (f.alone (give.keeps.stays_alone alone)));
}
