use Rattle.std.proofs.Common.{◌≡◌, ◌-◌, slice_get, Some, subst}
use Rattle.cti_terms.specs.declared.clauses.Clause.{Clause}
use Rattle.number_columns.specs.ColumnLists.{counts_at}
use Rattle.size_chains.specs.Making.{IsClauseSystem}
use Rattle.termination_model.proofs.Lists.{one_element}
use Rattle.termination_model.specs.sizes.Sizes.{rows_of}
use Rattle.column_systems.specs.ColumnSystems.{column_systems}
use Rattle.column_systems.proofs.Made.{column_made}
use Rattle.column_systems.proofs.column_systems.ColumnSystemsClauseSystems.system.Goals as goal

pub returns : goal.returns
returns g c =
    let p = c.self.inside.program.now in
    let columns = c.self.inside.columns.now in
    let m = g.C.Columns.columns columns in
    let kinds = counts_at (g.C.Columns.count columns) (g.C.Columns.listed columns) in
    let rows = rows_of c.args.sizes.now.rows in
    let clause = c.clause.result.now in
    let there = c.clause.ensures.there in
    let s = c.in_ok-made.made in
    let f = c.in_ok-made.ensures in
    let r = c.into_parts-rows.result in
    subst
    (λ v. (k : Clause)
    → slice_get v.0.clauses (c.args.k - 1) ≡ Some k
    → IsClauseSystem (column_systems (g.C.Columns.columns v.1) (counts_at (g.C.Columns.count v.1) (g.C.Columns.listed v.1))) rows k (record { naturals = r.0.width; rows = r.0; head = r.1; wide = s.wide }))
    c.self.view_is
    (λ k at.
    subst (λ (y : Clause). IsClauseSystem (column_systems m kinds) rows y (record { naturals = r.0.width; rows = r.0; head = r.1; wide = s.wide })) (one_element p.clauses (c.args.k - 1) clause k there at)
    (column_made m kinds rows clause s c.len-atoms.result c.len-atoms.ensures (f.variables clause there) f.width (f.rows clause there) (f.wide clause there) (f.head clause there) r.0 r.1 c.into_parts-rows.ensures.rows c.into_parts-rows.ensures.head))
