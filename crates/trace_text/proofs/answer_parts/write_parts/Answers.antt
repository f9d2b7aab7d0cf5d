use Rattle.std.proofs.Common.{◌≡◌, ◌<◌, ◌∙◌, ◌+◌, ◌*◌, ◌++◌, ◌∷◌, [], List, ℕ, ap, arith, length, length-append, refl, rules, sym}
use Rattle.std.specs.List.{flat_map}
use Rattle.std.proofs.lemmas.Bool.Decides.{nat_tests}
use Rattle.std.proofs.lemmas.Grind.{flat_map-append}
use Rattle.std.proofs.lemmas.List.{append-nil, append_assoc}
use Rattle.trace_text.specs.AnswerText.{answer_rows_text}
use Rattle.trace_text.proofs.Behind.{answer_rows_both}
use Rattle.trace_text.proofs.answer_parts.write_parts.Goals as goal

pub loop-rest-init : goal.loop-rest-init
loop-rest-init g c = rw (c.requires.none, c.new-text.ensures.items) refl

pub loop-rest-smaller-then-not-is_empty : goal.loop-rest-smaller-then-not-is_empty
loop-rest-smaller-then-not-is_empty g c =
    let rest = c.loop-rest.rest.now in
    let behind = c.split_at.result.1.now in
    let going = c.loop-rest.going.items in
    let threads = ap length c.in_ok-keep.ensures.kept in
    let some = c.if-not-is_empty.ensures in
    let part : 0 < length c.split_at.result.0.now = grind (arith, nat_tests) in
    let less : length behind * 2 + length c.keep.new.going.items < length rest * 2 + length going =
    omega (arith, c.split_at.ensures.back_len, c.split_at.ensures.front_len, threads, length-append going (c.in_ok-child.child ∷ []), part) in
    less

pub loop-rest-preserved-then-not-is_empty : goal.loop-rest-preserved-then-not-is_empty
loop-rest-preserved-then-not-is_empty g c =
    let going = c.loop-rest.going.items in
    let part = c.split_at.result.0.now in
    let behind = c.split_at.result.1.now in
    rw (
      c.in_ok-keep.ensures.kept,
      flat_map-append (λ h. answer_rows_text h.promise.answers.now) going (c.in_ok-child.child ∷ []),
      c.in_ok-child.ensures.promise,
      append-nil (answer_rows_text part),
      append_assoc (flat_map (λ h. answer_rows_text h.promise.answers.now) going) (answer_rows_text part) (answer_rows_text behind),
      ← answer_rows_both part behind,
      ← c.split_at.ensures.by_index.0,
    )
    c.loop-rest.invariant

pub loop-rest-smaller : goal.loop-rest-smaller
loop-rest-smaller g c =
    let rest = c.loop-rest.rest.now in
    let threads = ap length c.in-Some.ensures.items in
    let less : length rest * 2 + length c.pop_front.new.self.items < length rest * 2 + length c.loop-rest.going.items =
    omega (arith, threads) in
    less

pub loop-rest-preserved : goal.loop-rest-preserved
loop-rest-preserved g c =
    let text = c.loop-rest.text.items in
    let made = answer_rows_text c.in-Some.child.promise.answers.now in
    let others = flat_map (λ h. answer_rows_text h.promise.answers.now) c.pop_front.new.self.items in
    let rest = answer_rows_text c.loop-rest.rest.now in
    let so_far = rw c.in-Some.ensures.items at c.loop-rest.invariant in
    rw (c.in_ok-append.ensures.items, c.in_ok-more.ensures.0)
    (so_far ∙ ap (λ (t : List ℕ). text ++ t) (append_assoc made others rest) ∙ sym (append_assoc text made (others ++ rest)))

pub returns-clause-text : goal.returns-clause-text
returns-clause-text g c =
    let none : c.loop-rest.going.items ≡ [] = search rules in
    let so_far = rw none at c.loop-rest.invariant in
    rw (c.in_ok-append-2.ensures.items, c.in_ok-last.ensures.text) (sym so_far)
