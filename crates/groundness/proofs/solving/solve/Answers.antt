use Rattle.std.proofs.Common.{◌≡◌, List, length, drop, ap, sym, subst, ◌∙◌, arith}
use Rattle.std.proofs.lemmas.List.{length-replicate, take_at}
use Rattle.bool_diagrams.specs.declared.diagram.Diagram.{Diagram}
use Rattle.truth_rows.specs.Sets.{AreSets, family_of}
use Rattle.groundness.specs.Components.{HasNoRows}
use Rattle.groundness.proofs.NoRows.{start_none, start_sets}
use Rattle.groundness.proofs.solving.solve.Goals as goal

pub solve_all-requires-clause-marks : goal.solve_all-requires-clause-marks
solve_all-requires-clause-marks g c = ap length c.in_ok-marks.ensures ∙ length-replicate c.clauses.result _ ∙ c.clauses.ensures.count

pub solve_all-requires-clause-sets : goal.solve_all-requires-clause-sets
solve_all-requires-clause-sets g c =
    subst (AreSets c.args.p.now.preds c.args.table.now) (sym (c.deref_mut.ensures.value ∙ c.in_ok-sets.ensures.items_if_clones_equal (λ y same. same)))
    (start_sets c.args.p.now.preds c.args.table.now c.preds.result c.truth.result c.truth.ensures.known c.truth.ensures.rows c.preds.ensures.count)

pub solve_all-requires-clause-none : goal.solve_all-requires-clause-none
solve_all-requires-clause-none g c =
    subst (λ (xs : List Diagram). HasNoRows (family_of c.args.p.now.preds c.args.table.now xs)) (sym (c.deref_mut.ensures.value ∙ c.in_ok-sets.ensures.items_if_clones_equal (λ y same. same)))
    (start_none c.args.p.now.preds c.args.table.now c.preds.result c.truth.result c.truth.ensures.known c.truth.ensures.rows)

pub returns-clause-sets : goal.returns-clause-sets
returns-clause-sets g c =
    let new = c.solve_all.new.sets in
    let a = c.in_ok-solve_all.ensures in
    let same : length new ≡ c.in_ok-sets.sets.len = omega (arith, a.sets.each, c.preds.ensures.count, c.in_ok-sets.ensures.len, c.in_ok-sets.sets.ok.0) in
    rw (take_at new (drop (length new) c.in_ok-sets.sets.items) c.in_ok-sets.sets.len same) a.sets

pub returns-clause-least : goal.returns-clause-least
returns-clause-least g c =
    let new = c.solve_all.new.sets in
    let a = c.in_ok-solve_all.ensures in
    let same : length new ≡ c.in_ok-sets.sets.len = omega (arith, a.sets.each, c.preds.ensures.count, c.in_ok-sets.ensures.len, c.in_ok-sets.sets.ok.0) in
    rw (take_at new (drop (length new) c.in_ok-sets.sets.items) c.in_ok-sets.sets.len same) a.least
