use Rattle.std.proofs.Common.{ℤ, pos, arith, get_or, rules, subst}
use Rattle.std.specs.Int.{w128}
use Rattle.std.specs.Prelude.{FitsSigned}
use Rattle.std.proofs.lemmas.Int.{to_z-of_z}
use Rattle.termination_model.proofs.Lists.{from_places, place_below, there}
use Rattle.cert_assembly.specs.Ranges.{IsBelow}
use Rattle.cert_assembly.proofs.PlaceLaws.{places_more}
use Rattle.cert_assembly.proofs.ranges.are_bounded.Goals as goal

pub loop-number-preserved : goal.loop-number-preserved
loop-number-preserved c =
    let numbers = c.args.numbers.now in
    let n = c.loop-number.number-index in
    let x : ℤ = get_or numbers n (pos 0) in
    let fits : FitsSigned w128 x = search rules in
    places_more IsBelow numbers n x (there numbers n (pos 0) c.loop-number-test.true) (subst IsBelow (to_z-of_z w128 x fits) c.is_bounded.ensures) c.loop-number.invariant

pub returns : goal.returns
returns c =
    let numbers = c.args.numbers.now in
    from_places IsBelow numbers (λ i x e. let less = place_below numbers i x e in c.loop-number.invariant i x (omega (arith, less)) e)
