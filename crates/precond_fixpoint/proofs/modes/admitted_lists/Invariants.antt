use Rattle.std.proofs.Common.{◌≡◌, take}
use Rattle.std.specs.List.{filter}
use Rattle.bool_diagrams.specs.Cubes.{truth_rows}
use Rattle.termination_model.specs.claims.Descent.{mode_row}
use Rattle.precond_fixpoint.proofs.modes.admitted_lists.Given as goal

-- the admitted ones of the lists so far
abbrev pub invariant-loop-args : goal.invariant-loop-args
invariant-loop-args l = l.admitted.items ≡ filter (λ args. truth_rows l.table l.set (mode_row args 1 l.arity)) (take l.args-index l.lists)
