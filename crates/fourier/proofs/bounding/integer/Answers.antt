use Rattle.std.proofs.Common.{arith}
use Rattle.std.specs.Int.{w128}
use Rattle.std.specs.Prelude.{FitsSigned, unsigned_abs}
use Rattle.std.proofs.lemmas.Int.{to_z-of_z, ints}
use Rattle.fourier.proofs.BoundLemmas.{gcd-one}
use Rattle.fourier.proofs.bounding.integer.Goals as goal

pub invariant_of-result : goal.invariant_of-result
invariant_of-result c =
    let f : FitsSigned w128 c.args.number = c.ranges.number in
    simp to_z-of_z (record { positive = omega (arith, ints); num_fits = c.requires; reduced = gcd-one (unsigned_abs c.args.number) })
