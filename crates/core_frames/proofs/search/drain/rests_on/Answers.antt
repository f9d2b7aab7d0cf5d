use Rattle.std.proofs.Common.{◌≡◌, Some, None, ap, sym, subst, ◌∙◌}
use Rattle.std.specs.Prelude.{MatchBool, nat_eq}
use Rattle.frame_words.specs.Words.{rest_in}
use Rattle.frame_model.specs.Words.{is_on}
use Rattle.frame_model.proofs.Amounts.{is_on_none}
use Rattle.core_frames.proofs.PlaceLemmas.{is_on_some}
use Rattle.core_frames.proofs.search.drain.rests_on.Goals as goal

pub returns-in-Some : goal.returns-in-Some
returns-in-Some c =
    let own = c.in-Some.own in
    let tree = c.args.tree in
    let is : rest_in c.args.seen ≡ Some (own, c.in-Some._resting) = cc in
    subst (λ r. MatchBool (nat_eq own tree) (is_on tree r ≡ 1) (is_on tree r ≡ 0)) (sym is) (is_on_some tree own c.in-Some._resting)

pub returns-in-None : goal.returns-in-None
returns-in-None c =
    let is : rest_in c.args.seen ≡ None = cc in
    ap (is_on c.args.tree) is ∙ is_on_none c.args.tree
