use Rattle.std.proofs.Common.{◌≡◌, ℤ, true, List, length, subst, sym}
use Rattle.std.specs.Prelude.{All}
use Rattle.linear_rows.specs.Replacing.{row_fits}
use Rattle.linear_rows.specs.declared.multipliers.Multipliers.{Multipliers}
use Rattle.linear_rows.specs.declared.row.Rows.{Rows}
use Rattle.termination_model.specs.sizes.Sizes.{rows_of}
use Rattle.size_chains.specs.Proved.{AreProved}
use Rattle.size_chains.specs.States.{own_from}
use Rattle.size_chains.proofs.Chaining.{last_proved, rows_fit}
use Rattle.size_chains.proofs.solving.solve.Goals as goal

pub returns-clause-proofs : goal.returns-clause-proofs
returns-clause-proofs g c =
    let e = g.S.ClauseSystems.systems c.args.systems.now in
    let s = c.in_ok-state.state in
    let proved = last_proved g.D.Domain.width g.D.Domain.listed g.D.Domain.speaks e (g.S.ClauseSystems.listing c.args.systems.now) c.args.comps.now c.program-program.ensures.sound c.requires c.program-program.ensures.lawful (own_from c.args.comps.now (length c.args.comps.now.members)) s c.in_ok-state.ensures.state c.in_ok-state.ensures.chained in
    subst (λ (rows : List Rows). AreProved e (rows_of rows) (g.S.ClauseSystems.listing c.args.systems.now).clauses c.into_chain.result.sizes.proofs) (sym c.into_chain.ensures.rows)
    (subst (λ (proofs : List (List Multipliers)). AreProved e (rows_of s.sizes.rows) (g.S.ClauseSystems.listing c.args.systems.now).clauses proofs) (sym c.into_chain.ensures.proofs) proved)

pub returns-clause-fits : goal.returns-clause-fits
returns-clause-fits g c = λ q.
    let s = c.in_ok-state.state in
    let fit = rows_fit g.D.Domain.width g.D.Domain.listed g.D.Domain.speaks (g.S.ClauseSystems.systems c.args.systems.now) (g.S.ClauseSystems.listing c.args.systems.now) c.args.comps.now c.requires (own_from c.args.comps.now (length c.args.comps.now.members)) s c.in_ok-state.ensures.state c.in_ok-state.ensures.chained q in
    subst (λ (rows : List Rows). All (λ (r : List ℤ). row_fits r ≡ true) (rows_of rows q)) (sym c.into_chain.ensures.rows) fit
