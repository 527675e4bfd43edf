use Rattle.std.proofs.Common.{rules}
use Rattle.std.specs.Int.{w128}
use Rattle.std.specs.Prelude.{FitsSigned}
use Rattle.std.proofs.lemmas.Int.{to_z-of_z}
use Rattle.fourier.proofs.ValueLemmas.{multiple_pos, if_some}
use Rattle.fourier.proofs.scaling.multiple.Goals as goal

pub returns-clause-positive : goal.returns-clause-positive
returns-clause-positive c =
    let fa : FitsSigned w128 c.args.a = c.ranges.a in
    let fb : FitsSigned w128 c.args.b = c.ranges.b in
    let fq : FitsSigned w128 c.quotient.result = search rules in
    let ea = simp to_z-of_z at c.unsigned_abs.ensures.value in
    let eb = simp to_z-of_z at c.unsigned_abs-2.ensures.value in
    let eg = rw (ea, eb) at c.gcd-shared.ensures.value in
    let eq = rw eg at (simp to_z-of_z at c.quotient.ensures) in
    let all = rw eq at (simp to_z-of_z at c.times.ensures) in
    if_some c.times.result _ _ all (multiple_pos c.args.a c.args.b c.requires.a c.requires.b)
