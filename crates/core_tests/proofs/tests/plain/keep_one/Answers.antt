use Rattle.std.proofs.Common.{◌≡◌, ◌∷◌, refl, arith}
use Rattle.std.proofs.lemmas.List.Sorted.{Contains-permutation}
use Rattle.core_tests.proofs.tests.plain.keep_one.Goals as goal

pub keep-requires-clause-out : goal.keep-requires-clause-out
keep-requires-clause-out c =
    Contains-permutation (c.in-Ok.block ∷ c.args.allocator.now.out) c.take.new.self.out c.in-Ok.block
    c.in-Ok.ensures.out (0, omega arith, refl)
