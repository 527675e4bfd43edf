use Rattle.std.proofs.Common.{ℤ, List, subst, sym, ap, ◌∙◌}
use Rattle.linear_rows.specs.Plain.{plain_rows}
use Rattle.linear_rows.specs.declared.row.Rows.{Rows}
use Rattle.polyhedra.specs.Making.{SaysImage}
use Rattle.size_chains.specs.Stepping.{IsStep}
use Rattle.size_chains.proofs.noting.note_on.Goals as goal

pub returns-clause-image : goal.returns-clause-image
returns-clause-image g c =
    let copied = ap (λ (r : Rows). plain_rows r.list) (c.in_ok-image.ensures.ok ∙ c.in_ok-copy.ensures) ∙ c.rows.ensures.rows in
    subst (λ (rs : List (List ℤ)). SaysImage g.D.Domain.speaks c.args.system.now rs c.in_ok-made.made.weak) (sym copied) c.in_ok-made.ensures.rows

pub returns-clause-step : goal.returns-clause-step
returns-clause-step g c =
    let copied = ap (λ (r : Rows). plain_rows r.list) (c.in_ok-image.ensures.ok ∙ c.in_ok-copy.ensures) ∙ c.rows.ensures.rows in
    subst (λ (rs : List (List ℤ)). IsStep g.D.Domain.width g.D.Domain.listed g.D.Domain.speaks c.args.system.now c.args.pass (g.D.Domain.listed c.args.old.now) rs c.args.filled c.in_ok-stepped.stepped) (sym copied) c.in_ok-stepped.ensures
