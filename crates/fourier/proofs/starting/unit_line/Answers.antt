use Rattle.std.proofs.Common.{ap, ◌∙◌, ◌++◌, ◌∷◌, []}
use Rattle.std.specs.Int.{w128}
use Rattle.std.specs.Prelude.{FitsSigned}
use Rattle.std.proofs.lemmas.Int.{to_z-of_z}
use Rattle.fourier.proofs.StartRows.{unit_line_is}
use Rattle.fourier.proofs.starting.unit_line.Goals as goal

pub returns : goal.returns
returns c =
    let f : FitsSigned w128 c.args.constant = c.ranges.constant in
    let pushed = simp to_z-of_z at c.in_ok-push.ensures in
    unit_line_is c.args.constant c.args.count c.args.many c.args.place c.push.new.self c.push_units.new.line c.push_zeros.new.self c.requires
    (pushed ∙ ap (λ l. l ++ c.args.constant ∷ []) c.new-line.ensures) c.in_ok-push_units.ensures c.in_ok-push_zeros.ensures
