use Rattle.std.proofs.Common.{◌≡◌, ℤ, true, List, length, subst, sym}
use Rattle.std.specs.Prelude.{All}
use Rattle.linear_rows.specs.Replacing.{row_fits}
use Rattle.linear_rows.specs.declared.multipliers.Multipliers.{Multipliers}
use Rattle.linear_rows.specs.declared.row.Rows.{Rows}
use Rattle.termination_model.specs.sizes.Sizes.{rows_of}
use Rattle.numeric_model.specs.Proved.{AreProved}
use Rattle.numeric_model.specs.States.{own_from}
use Rattle.numeric_model.proofs.Chaining.{last_proved, rows_fit}
use Rattle.numeric_model.proofs.solving.solve.Goals as goal

pub returns-clause-proofs : goal.returns-clause-proofs
returns-clause-proofs g c =
    let e = g.N.Norm.expression c.args.norm.now in
    let s = c.in_ok-state.state in
    let proved = last_proved g.D.Domain.width g.D.Domain.listed g.D.Domain.speaks e c.args.p.now c.args.comps.now c.clauses-program.ensures.sound c.requires (own_from c.args.comps.now (length c.args.comps.now.members)) s c.in_ok-state.ensures.state c.in_ok-state.ensures.chained in
    subst (λ (rows : List Rows). AreProved e (rows_of rows) c.args.p.now.clauses c.into_chain.result.sizes.proofs) (sym c.into_chain.ensures.rows)
    (subst (λ (proofs : List (List Multipliers)). AreProved e (rows_of s.sizes.rows) c.args.p.now.clauses proofs) (sym c.into_chain.ensures.proofs) proved)

pub returns-clause-fits : goal.returns-clause-fits
returns-clause-fits g c = λ q.
    let s = c.in_ok-state.state in
    let fit = rows_fit g.D.Domain.width g.D.Domain.listed g.D.Domain.speaks (g.N.Norm.expression c.args.norm.now) c.args.p.now c.args.comps.now c.requires (own_from c.args.comps.now (length c.args.comps.now.members)) s c.in_ok-state.ensures.state c.in_ok-state.ensures.chained q in
    subst (λ (rows : List Rows). All (λ (r : List ℤ). row_fits r ≡ true) (rows_of rows q)) (sym c.into_chain.ensures.rows) fit
