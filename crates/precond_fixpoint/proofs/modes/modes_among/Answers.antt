use Rattle.std.proofs.Common.{◌≡◌, IfOk, List, ℕ, map, subst, sym, ◌∙◌}
use Rattle.bool_diagrams.specs.Cubes.{truth_rows}
use Rattle.precond_fixpoint.proofs.EmptyMode.{empty_mode}
use Rattle.precond_fixpoint.specs.Solving.{arguments_of}
use Rattle.precond_fixpoint.proofs.modes.modes_among.Goals as goal

pub returns-then-admits : goal.returns-then-admits
returns-then-admits c =
    let set = truth_rows c.args.table.now c.args.set in
    subst (λ (ms : List (List ℕ)). IfOk c.empty_mode.result (λ list. map arguments_of list ≡ ms)) (sym (empty_mode c.args.arity set (sym c.admits.ensures ∙ c.if-admits.true))) c.empty_mode.ensures
