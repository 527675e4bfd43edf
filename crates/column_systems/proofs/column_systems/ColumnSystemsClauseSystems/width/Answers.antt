use Rattle.std.proofs.Common.{◌≡◌, ◌≤◌, ◌<◌, List, length, map, ap, sym, subst, ◌∙◌}
use Rattle.std.specs.Prelude.{sum}
use Rattle.number_columns.specs.ColumnLists.{counts_at}
use Rattle.number_columns.specs.declared.kind.Kind.{Kind}
use Rattle.column_systems.proofs.Lawful.{few_kinds, listed_kinds}
use Rattle.column_systems.proofs.column_systems.ColumnSystemsClauseSystems.width.Goals as goal

pub width_of-requires-clause-few : goal.width_of-requires-clause-few
width_of-requires-clause-few g c =
    let p = c.self.inside.program.now in
    let columns = c.self.inside.columns.now in
    let count = g.C.Columns.count columns in
    let kinds = g.C.Columns.listed columns in
    let prog = c.preds-program.ensures.sound in
    let have = c.self.invariant.kinds_are in
    let there = subst (λ v. c.args.q.0 < length v.0.preds) (sym c.self.view_is) c.requires in
    subst (λ (ks : List Kind). length ks ≤ 12) (listed_kinds p prog count kinds have c.args.q.0 c.kinds.result.now c.get-kinds.result.now c.as_slice.result.now c.kinds.ensures c.get-kinds.ensures c.as_slice.ensures)
    (few_kinds p prog count kinds have c.args.q.0 there)

pub returns : goal.returns
returns g c =
    let p = c.self.inside.program.now in
    let columns = c.self.inside.columns.now in
    let count = g.C.Columns.count columns in
    let kinds = g.C.Columns.listed columns in
    let prog = c.preds-program.ensures.sound in
    let have = c.self.invariant.kinds_are in
    subst (λ v. c.width_of.result ≡ sum (counts_at (g.C.Columns.count v.1) (g.C.Columns.listed v.1) c.args.q.0)) c.self.view_is
    (c.width_of.ensures count c.self.invariant.size_is c.self.invariant.number_is
    ∙ ap (λ (ks : List Kind). sum (map count ks)) (sym (listed_kinds p prog count kinds have c.args.q.0 c.kinds.result.now c.get-kinds.result.now c.as_slice.result.now c.kinds.ensures c.get-kinds.ensures c.as_slice.ensures)))
