use Rattle.std.proofs.Common.{◌≡◌, inl, inr, ⊎_elim, ◌+◌, ◌-◌, ◌*◌, ◌/◌, ◌<◌, ◌≤◌, [], refl, ap, sym, subst, ◌∙◌, arith}
use Rattle.frame_model.specs.declared.key.Key.{Key}
use Rattle.frame_model.specs.declared.view.View.{View}
use Rattle.frame_model.specs.View.{charged_in}
use Rattle.low_frames.specs.Takes.{IsAsBefore}
use Rattle.low_frames.specs.Singles.{HasTakenSome, HasLentSome, TakesSingles}
use Rattle.low_frames.proofs.TakeLemmas.{still_as_before, keeps_both}
use Rattle.low_frames.proofs.Counts.{both_counts, load_counts, make_counts}
use Rattle.low_frames.proofs.ViewLemmas.{charged_of}
use Rattle.low_frames.proofs.SinglesLemmas.{lowered_count, lent_none_of, lent_all, lent_some, may_take_charged, none_singles, then_nothing, nothing_then}
use Rattle.std.proofs.lemmas.List.{append-nil}
use Rattle.frame_model.specs.Words.{free_of, huge_of}
use Rattle.frame_model.specs.Steps.{refund}
use Rattle.low_frames.specs.Alone.{HasTooFew, IsCharged}
use Rattle.low_frames.specs.SinglesAlone.{AreHeld, HoldsMoreOf, TakesUpTo, ClaimsOfChild}
use Rattle.low_frames.proofs.RoomLemmas.{range_alone}
use Rattle.low_frames.proofs.RoomLemmas.Charged.{charge_left}
use Rattle.low_frames.proofs.SinglesAlone.{free_here, found_here, changed_here, turns_both, holds_none, holds_both, still_held, child_held, charge_holds, refund_holds}
use Rattle.low_frames.proofs.singles.take_some_in.Goals as goal

pub returns-then-charged-eq0-clause-takes : goal.returns-then-charged-eq0-clause-takes
returns-then-charged-eq0-clause-takes g c =
    let M = g.M.Moves in
    let ticks = g.met.M.Moves.ticks in
    let m = M.at c.args.m.now in
    let u = M.at c.load.new.self in
    let load = c.load.ensures in
    let before : IsAsBefore m.view u.view = still_as_before m.view m.view u.view (M.tick m.view.moves) m.view.lost refl load.view in
    then_nothing ticks
    (none_singles ticks {V = IsAsBefore} {F = HoldsMoreOf m.key} m c.args.out.now.items refl
    (λ ws. holds_none m.key ws ws (λ x. refl) (λ d. refl)))
    load.keeps (load_counts ticks load) (lent_none_of (c.args.child / 8) m.view u.view before) (omega arith)
    (λ alone. free_here c.args.child c.load.result c.lane-entry.result c.entry_free.result m.words u.words
    (load.words (g.met.M.Moves.stays_alone c.args.m.now alone)) c.lane-entry.ensures.value c.entry_free.ensures.value)
    (λ alone bs ws us vs d e p q. record {
      holds = subst (HoldsMoreOf m.key bs ws) (sym q.0) p;
      none_left = λ h.
          subst (AreHeld m.key (512 * c.args.child) 512) (sym q.0)
          (child_held m.is_alone m.key us m.view (g.met.M.Moves.fits c.args.m.now us e) alone c.args.child c.requires.may.child
          c.requires.may.charged (inr (omega (arith, q.1, c.min-charged.ensures, c.if-charged-eq0.true, h))));
    })

pub returns-then-not-try_charge-clause-takes : goal.returns-then-not-try_charge-clause-takes
returns-then-not-try_charge-clause-takes g c =
    let M = g.M.Moves in
    let ticks = g.met.M.Moves.ticks in
    let m = M.at c.args.m.now in
    let u = M.at c.load.new.self in
    let w = M.at c.try_charge.new.m in
    let load = c.load.ensures in
    let tried = c.if-not-try_charge.ensures in
    let child = c.args.child in
    let before : IsAsBefore m.view u.view = still_as_before m.view m.view u.view (M.tick m.view.moves) m.view.lost refl load.view in
    let still : IsAsBefore m.view w.view = still_as_before m.view u.view w.view w.view.moves w.view.lost before tried.view in
    then_nothing ticks
    (none_singles ticks {V = IsAsBefore} {F = HoldsMoreOf m.key} m c.args.out.now.items refl
    (λ ws. holds_none m.key ws ws (λ x. refl) (λ d. refl)))
    (keeps_both load.keeps tried.keeps) (both_counts ticks (load_counts ticks load) tried.counts)
    (lent_none_of (child / 8) m.view w.view still) (omega arith)
    (λ alone. turns_both {T = λ ws vs. (vs ≡ ws) × HasTooFew child 1 ws} m.words u.words w.words
    (free_here child c.load.result c.lane-entry.result c.entry_free.result m.words u.words
    (load.words (g.met.M.Moves.stays_alone c.args.m.now alone)) c.lane-entry.ensures.value c.entry_free.ensures.value)
    (found_here _ u.words w.words (tried.alone (load.keeps.stays_alone alone)))
    (λ ws us vs d e f p q. (
      q.0 ∙ p.0,
      ⊎_elim
          (λ huge. inl (sym (ap (λ l. huge_of l child) (q.0 ∙ p.0)) ∙ huge))
          (λ less. absurd (omega (arith, less, ap (λ l. free_of l child) (q.0 ∙ p.0), p.1, c.min-charged.ensures)))
          q.1,
    )))
    (λ alone bs ws us vs d e p q. record {
      holds = subst (HoldsMoreOf m.key bs ws) (sym q.0) p;
      none_left = λ h.
          subst (AreHeld m.key (512 * child) 512) (sym q.0)
          (child_held m.is_alone m.key us m.view (g.met.M.Moves.fits c.args.m.now us e) alone child c.requires.may.child
          c.requires.may.charged q.1);
    })

pub take_charged-got-requires-clause-may : goal.take_charged-got-requires-clause-may
take_charged-got-requires-clause-may g c =
    let M = g.M.Moves in
    let m = M.at c.args.m.now in
    let u = M.at c.load.new.self in
    let w = M.at c.try_charge.new.m in
    let load = c.load.ensures in
    let tried = c.if-not-try_charge.ensures in
    let before : IsAsBefore m.view u.view = still_as_before m.view m.view u.view (M.tick m.view.moves) m.view.lost refl load.view in
    may_take_charged m u w c.args.child c.args.n c.min-charged.result c.requires.may (omega (arith, c.min-charged.ensures))
    (keeps_both load.keeps tried.keeps) before tried.view

pub refund-requires : goal.refund-requires
refund-requires g c =
    let M = g.M.Moves in
    let m = M.at c.args.m.now in
    let u = M.at c.load.new.self in
    let w = M.at c.try_charge.new.m in
    let x = M.at c.take_charged-got.new.m in
    let load = c.load.ensures in
    let tried = c.if-not-try_charge.ensures in
    let takes = c.take_charged-got.ensures.takes in
    let before : IsAsBefore m.view u.view = still_as_before m.view m.view u.view (M.tick m.view.moves) m.view.lost refl load.view in
    let none = ap (λ (v : View). v.charged) before ∙ c.requires.may.charged in
    record {
      share = subst (λ s. 0 < s) (sym (ap (λ (v : View). v.share) takes.view ∙ ap (λ (v : View). v.share) tried.view
          ∙ ap (λ (v : View). v.share) before)) c.requires.may.share;
      may = record {
        inside = subst (λ (k : Key). c.args.child < k.children)
            (sym (takes.keeps.same_key ∙ tried.keeps.same_key ∙ load.keeps.same_key)) c.requires.may.child;
        charged = omega (
          arith,
          ap (λ (v : View). charged_in c.args.child v) takes.view,
          lowered_count c.args.child c.take_charged-got.result w.view.charged,
          charged_of c.args.child c.min-charged.result u.view w.view tried.view none,
        );
      };
    }

pub returns-then-got-charged-clause-takes : goal.returns-then-got-charged-clause-takes
returns-then-got-charged-clause-takes g c =
    let M = g.M.Moves in
    let B = g.M.Held.HeldBlock.block_of in
    let ticks = g.met.M.Moves.ticks in
    let fits = g.met.M.Moves.fits in
    let m = M.at c.args.m.now in
    let u = M.at c.load.new.self in
    let w = M.at c.try_charge.new.m in
    let x = M.at c.take_charged-got.new.m in
    let z = M.at c.refund.new.self in
    let load = c.load.ensures in
    let tried = c.if-not-try_charge.ensures in
    let takes = c.take_charged-got.ensures.takes in
    let back = c.refund.ensures in
    let k = c.take_charged-got.result in
    let n = c.min-charged.result in
    let child = c.args.child in
    let inside = c.requires.may.child in
    let to_w : w.key ≡ m.key = tried.keeps.same_key ∙ load.keeps.same_key in
    let to_x : x.key ≡ m.key = takes.keeps.same_key ∙ to_w in
    let before : IsAsBefore m.view u.view = still_as_before m.view m.view u.view (M.tick m.view.moves) m.view.lost refl load.view in
    let none = ap (λ (v : View). v.charged) before ∙ c.requires.may.charged in
    let kept : w.view.kept ≡ m.view.kept = ap (λ (v : View). v.kept) tried.view ∙ ap (λ (v : View). v.kept) before in
    let left : n - k ≤ charged_in child x.view =
    omega (
      arith,
      ap (λ (v : View). charged_in child v) takes.view,
      lowered_count child k w.view.charged,
      charged_of child n u.view w.view tried.view none,
    ) in
    let taken : TakesSingles B M.is_exact (child / 8) (9 + (64 + k)) (λ v y. y ≡ x.view)
    (TakesUpTo m.key (512 * child) 512 k n) k c.args.out.now.items c.take_charged-got.new.out.items m x =
    nothing_then ticks (keeps_both load.keeps tried.keeps) (both_counts ticks (load_counts ticks load) tried.counts) takes kept refl
    (omega arith)
    (λ alone. turns_both {T = IsCharged m.key child n} m.words u.words w.words
    (free_here child c.load.result c.lane-entry.result c.entry_free.result m.words u.words
    (load.words (g.met.M.Moves.stays_alone c.args.m.now alone)) c.lane-entry.ensures.value c.entry_free.ensures.value)
    (tried.alone (load.keeps.stays_alone alone))
    (λ ws us vs d e f p q. subst (λ l. IsCharged l child n ws vs) load.keeps.same_key
    (subst (λ l. IsCharged u.key child n l vs) p.0 q)))
    (λ alone bs ws us vs d h p r.
    let q : ClaimsOfChild m.key child k n bs us vs = subst (λ l. ClaimsOfChild l child k n bs us vs) to_w r in
    record {
      holds = holds_both m.key [] bs ws us vs
          (charge_holds m.key ws us child n (range_alone m.is_alone m.key ws m.view (fits c.args.m.now ws d)) inside p) q.takes.holds;
      none_left = q.takes.none_left;
    }) in
    then_nothing ticks taken back.keeps (make_counts ticks back)
    (lent_some M.tick child n k m.view u.view w.view x.view z.view c.requires.may.charged c.if-got-charged.true
    before tried.view takes.view back.view)
    (omega arith)
    (λ alone. changed_here x.key (refund child (n - k)) x.words z.words
    (back.words (g.met.M.Moves.stays_alone c.take_charged-got.new.m alone)))
    (λ alone bs ws us vs d e p q.
    let same : HoldsMoreOf m.key [] us vs =
    subst (λ l. HoldsMoreOf l [] us vs) to_x
    (refund_holds x.is_alone x.key us vs x.view child (n - k) (fits c.take_charged-got.new.m us e)
    (subst (λ (l : Key). child < l.children) (sym to_x) inside) left q) in
    record {
      holds = subst (λ l. HoldsMoreOf m.key l ws vs) (append-nil bs) (holds_both m.key bs [] ws us vs p.holds same);
      none_left = λ h. still_held m.key [] us vs (512 * child) 512 same (p.none_left c.if-got-charged.true);
    })

pub returns-else-got-charged-clause-takes : goal.returns-else-got-charged-clause-takes
returns-else-got-charged-clause-takes g c =
    let M = g.M.Moves in
    let ticks = g.met.M.Moves.ticks in
    let fits = g.met.M.Moves.fits in
    let m = M.at c.args.m.now in
    let u = M.at c.load.new.self in
    let w = M.at c.try_charge.new.m in
    let x = M.at c.take_charged-got.new.m in
    let load = c.load.ensures in
    let tried = c.if-not-try_charge.ensures in
    let takes = c.take_charged-got.ensures.takes in
    let k = c.take_charged-got.result in
    let n = c.min-charged.result in
    let child = c.args.child in
    let inside = c.requires.may.child in
    let to_w : w.key ≡ m.key = tried.keeps.same_key ∙ load.keeps.same_key in
    let to_x : x.key ≡ m.key = takes.keeps.same_key ∙ to_w in
    let before : IsAsBefore m.view u.view = still_as_before m.view m.view u.view (M.tick m.view.moves) m.view.lost refl load.view in
    let kept : w.view.kept ≡ m.view.kept = ap (λ (v : View). v.kept) tried.view ∙ ap (λ (v : View). v.kept) before in
    let all : n ≡ k = omega (arith, c.if-got-charged.false, c.take_charged-got.ensures.few) in
    let lent : HasLentSome (child / 8) n m.view x.view =
    lent_all child n m.view u.view w.view x.view c.requires.may.charged before tried.view
    (subst (λ i. HasTakenSome child i w.view x.view) (sym all) takes.view) in
    nothing_then ticks (keeps_both load.keeps tried.keeps) (both_counts ticks (load_counts ticks load) tried.counts) takes kept
    (subst (λ i. HasLentSome (child / 8) i m.view x.view) all lent)
    (omega arith)
    (λ alone. turns_both {T = λ ws vs. (free_of ws child ≡ c.entry_free.result) × IsCharged m.key child n ws vs} m.words u.words w.words
    (free_here child c.load.result c.lane-entry.result c.entry_free.result m.words u.words
    (load.words (g.met.M.Moves.stays_alone c.args.m.now alone)) c.lane-entry.ensures.value c.entry_free.ensures.value)
    (tried.alone (load.keeps.stays_alone alone))
    (λ ws us vs d e f p q. (
      p.1,
      subst (λ l. IsCharged l child n ws vs) load.keeps.same_key (subst (λ l. IsCharged u.key child n l vs) p.0 q),
    )))
    (λ alone bs ws us vs d h p r.
    let q : ClaimsOfChild m.key child k n bs us vs = subst (λ l. ClaimsOfChild l child k n bs us vs) to_w r in
    let range = range_alone m.is_alone m.key ws m.view (fits c.args.m.now ws d) in
    record {
      holds = holds_both m.key [] bs ws us vs (charge_holds m.key ws us child n range inside p.1) q.takes.holds;
      none_left = λ few.
          subst (λ l. AreHeld l (512 * child) 512 vs) to_x
          (child_held x.is_alone x.key vs x.view (fits c.take_charged-got.new.m vs h)
          (takes.keeps.stays_alone (tried.keeps.stays_alone (load.keeps.stays_alone alone))) child
          (subst (λ (l : Key). child < l.children) (sym to_x) inside)
          (ap (λ (v : View). v.charged) lent ∙ c.requires.may.charged)
          (inr (omega (
            arith,
            q.entries child inside,
            charge_left m.key ws us child n range inside p.1,
            p.0,
            c.min-charged.ensures,
            all,
            few,
          ))));
    })
