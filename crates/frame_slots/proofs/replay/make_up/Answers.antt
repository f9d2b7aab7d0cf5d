use Rattle.std.proofs.Common.{◌≡◌, ℕ, ◌+◌, ◌^◌, List, [], ◌∷◌, ◌++◌, length, take, sym, subst, ap, ◌∙◌, arith, rules}
use Rattle.std.proofs.lemmas.List.{take_more}
use Rattle.std.proofs.Math.Seq.{take-length}
use Rattle.frame_table.specs.declared.block.Block.{Block}
use Rattle.frame_slots.specs.Reopenings.{MakeUp, waiting_blocks}
use Rattle.frame_slots.proofs.Replaying.{made_more, nothing_made}
use Rattle.frame_slots.proofs.replay.make_up.Goals as goal

pub loop-held-init : goal.loop-held-init
loop-held-init c = nothing_made

pub loop-held-preserved : goal.loop-held-preserved
loop-held-preserved c =
    let blocks : List Block = c.args.blocks.now in
    let i : ℕ = c.loop-held.held-index in
    let b : Block = c.held-item.result in
    let more : take i blocks ++ b ∷ [] ≡ take (i + 1) blocks =
    ap (λ (a : Block). take i blocks ++ a ∷ []) c.held-item.is ∙ sym (take_more blocks i b c.loop-held-test.true) in
    let size : 2 ^ c.order.result ≡ 2 ^ b.order = ap (λ (n : ℕ). 2 ^ n) c.order.ensures in
    let next : c.loop-held.end + 2 ^ b.order ≡ c.in-Some.next =
    omega (arith, c.in-Some.ensures.1, c.frames_of.ensures.value, size) in
    let begins : b.frame ≡ c.loop-held.end = omega (arith, c.if-frame-end.false, c.frame.ensures) in
    subst (λ (n : ℕ). MakeUp n (waiting_blocks (take (i + 1) blocks))) next
    (subst (λ (bs : List Block). MakeUp (c.loop-held.end + 2 ^ b.order) (waiting_blocks bs)) more
    (made_more c.loop-held.end (take i blocks) b c.loop-held.invariant begins))

pub returns : goal.returns
returns c =
    λ t.
    let blocks : List Block = c.args.blocks.now in
    let last : c.loop-held.held-index ≡ length blocks = omega (arith, c.loop-held-test.false, c.loop-held.auto.held-index-end) in
    let all : take c.loop-held.held-index blocks ≡ blocks =
    ap (λ (n : ℕ). take n blocks) last ∙ take-length blocks in
    let end : c.loop-held.end ≡ c.args.frames = search rules in
    subst (λ (n : ℕ). MakeUp n (waiting_blocks blocks)) end
    (subst (λ (bs : List Block). MakeUp c.loop-held.end (waiting_blocks bs)) all c.loop-held.invariant)
