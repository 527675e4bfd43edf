use Rattle.std.proofs.Common.{◌≡◌, ◌∙◌, Option, sym, ap}
use Rattle.cti_terms.specs.declared.builtins.Arith.{Arith}
use Rattle.number_columns.specs.Numeric.{is_evaluated}
use Rattle.number_columns.proofs.numeric.evaluate_if_builtin.Goals as goal

pub returns-in-Some-clause-meeting : goal.returns-in-Some-clause-meeting
returns-in-Some-clause-meeting c = λ k start place there h.
    c.evaluate_atom.ensures.meeting c.args.p.now.arithmetic k start place c.in-Some.field-0 there (sym c.builtin.ensures ∙ c.in-Some.is) (sym c.arith.ensures) h

pub returns-in-Some-clause-evaluated : goal.returns-in-Some-clause-evaluated
returns-in-Some-clause-evaluated c = λ kind is x n argument term lt met at ev.
    c.evaluate_atom.ensures.evaluated x n argument term lt met at (ap (λ (o : Option Arith). is_evaluated o x term) c.arith.ensures ∙ ev)
