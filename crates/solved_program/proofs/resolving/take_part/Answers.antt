use Rattle.std.proofs.Common.{List, map, subst}
use Rattle.linear_rows.specs.declared.multipliers.Multipliers.{Multipliers}
use Rattle.solved_program.specs.Taken.{AreTaken, place_of}
use Rattle.solved_program.proofs.Resolved.{on_ok_is}
use Rattle.solved_program.proofs.resolving.take_part.Goals as goal

pub returns : goal.returns
returns g c = on_ok_is c.push.result _ _
    (λ h. record {
      each = c.in_ok-take_rows.ensures.each;
      rows = c.in_ok-take_rows.ensures.taken;
      count = c.in_ok-take_proofs.ensures.each;
      proofs = subst (λ (from : List (List Multipliers)). AreTaken (map place_of c.args.own.now) from c.args.solved.now.sizes.proofs c.take_proofs.new.to) c.as_slice.ensures.value c.in_ok-take_proofs.ensures.taken;
      steps = h;
    })
    c.push.ensures.ok
