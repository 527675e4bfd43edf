use Rattle.std.proofs.Common.{◌≡◌, ◌-◌, slice_get, Some, refl, ap, sym, ◌∙◌}
use Rattle.cti_terms.specs.Listing.{Listing}
use Rattle.cti_terms.specs.declared.clauses.Clause.{Clause}
use Rattle.linear_rows.specs.declared.system.System.{System}
use Rattle.termination_model.specs.sizes.Sizes.{rows_of}
use Rattle.size_chains.specs.Making.{IsMade, IsTied}
use Rattle.size_chains.proofs.Makes.{columns_are, columns_at, few_are, made}
use Rattle.size_chains.proofs.Results.{ok_map}
use Rattle.size_chains.proofs.making.system_of.Goals as goal

pub tied-requires-clause-columns : goal.tied-requires-clause-columns
tied-requires-clause-columns g c =
    let k = c.clause-clause.result.now in
    let e = g.S.ClauseSystems.systems c.args.systems.now in
    let there = ap (λ (p : Listing). slice_get p.clauses (c.args.k - 1)) (sym c.program.ensures.same) ∙ c.clause-clause.ensures.there in
    columns_are e (rows_of c.args.sizes.now.rows) k (columns_at e _ _ refl c.program.ensures.lawful (c.args.k - 1) k there) c.in_ok-system.system (c.in_ok-system.ensures k there)

pub tied-requires-clause-few : goal.tied-requires-clause-few
tied-requires-clause-few g c =
    let k = c.clause-clause.result.now in
    let e = g.S.ClauseSystems.systems c.args.systems.now in
    let there = ap (λ (p : Listing). slice_get p.clauses (c.args.k - 1)) (sym c.program.ensures.same) ∙ c.clause-clause.ensures.there in
    few_are e (rows_of c.args.sizes.now.rows) k (columns_at e _ _ refl c.program.ensures.lawful (c.args.k - 1) k there) c.in_ok-system.system (c.in_ok-system.ensures k there)

pub tied-requires-clause-width : goal.tied-requires-clause-width
tied-requires-clause-width g c =
    let k = c.clause-clause.result.now in
    let there = ap (λ (p : Listing). slice_get p.clauses (c.args.k - 1)) (sym c.program.ensures.same) ∙ c.clause-clause.ensures.there in
    (c.in_ok-system.ensures k there).width

pub tied-requires-clause-widths : goal.tied-requires-clause-widths
tied-requires-clause-widths g c =
    let k = c.clause-clause.result.now in
    let there = ap (λ (p : Listing). slice_get p.clauses (c.args.k - 1)) (sym c.program.ensures.same) ∙ c.clause-clause.ensures.there in
    (c.in_ok-system.ensures k there).widths

pub returns : goal.returns
returns g c =
    let e = g.S.ClauseSystems.systems c.args.systems.now in
    let p = g.S.ClauseSystems.listing c.args.systems.now in
    let rows = rows_of c.args.sizes.now.rows in
    ok_map (IsTied c.in_ok-system.system) (λ (s : System). (k : Clause) → slice_get p.clauses (c.args.k - 1) ≡ Some k → IsMade e rows k s)
    (λ s tied k there. made e rows k (columns_at e _ _ refl c.program.ensures.lawful (c.args.k - 1) k there) c.in_ok-system.system (c.in_ok-system.ensures k there) s tied)
    c.tied.result c.tied.ensures
