use Rattle.std.proofs.Common.{◌≡◌, ◌-◌, map, slice_get, Some, subst}
use Rattle.cti_terms.specs.declared.clauses.Clause.{Clause}
use Rattle.linear_rows.specs.Plain.{plain_rows}
use Rattle.termination_model.specs.sizes.Sizes.{rows_of}
use Rattle.termination_model.proofs.Lists.{one_element}
use Rattle.size_chains.specs.Making.{IsClauseSystem, plain_or_none}
use Rattle.size_chains.specs.Norms.{all_some, norm_systems}
use Rattle.size_chains.specs.declared.clause_system.ClauseSystem.{ClauseSystem}
use Rattle.size_chains.proofs.NormLaws.{norm_made}
use Rattle.size_chains.proofs.Results.{ok_four}
use Rattle.size_chains.proofs.norms.NormSystemsClauseSystems.system.Goals as goal

pub returns : goal.returns
returns g c =
    let p = c.args.self.now.program.now in
    let e = g.N.Norm.expression c.args.self.now.norm.now in
    let rows = rows_of c.args.sizes.now.rows in
    let k = c.clause.result.now in
    let there = c.clause.ensures.there in
    let s = c.in_ok-made.made in
    let f = c.in_ok-made.ensures in
    ok_four (λ (x : ClauseSystem). x.naturals ≡ s.variables) (λ x. x.rows ≡ s.rows) (λ x. x.wide ≡ s.wide) (λ x. map plain_or_none x.head ≡ all_some (plain_rows s.head.list))
    (λ x. (c' : Clause) → slice_get p.clauses (c.args.k - 1) ≡ Some c' → IsClauseSystem (norm_systems p e) rows c' x)
    (λ x n r w h c' at. subst (λ (y : Clause). IsClauseSystem (norm_systems p e) rows y x) (one_element p.clauses (c.args.k - 1) k c' there at)
    (norm_made p e rows k s c.len-atoms.result c.len-atoms.ensures (f.variables k there) f.widths (f.rows k there) (f.wide k there) (f.head k there) x n r w h))
    c.with_columns.result c.with_columns.ensures.naturals c.with_columns.ensures.rows c.with_columns.ensures.wide c.with_columns.ensures.head
