use Rattle.std.proofs.Common.{List, ap, subst, sym, ◌∙◌}
use Rattle.std.specs.List.{AllByRecursion}
use Rattle.carried_mappings.specs.FoundMappings.{KeepFound}
use Rattle.cert_assembly.specs.Ranges.{IsFoundBelow}
use Rattle.level_systems.specs.declared.found.Found.{Found}
use Rattle.report.specs.Assembly.{AreFound as AreFoundOf}
use Rattle.report.specs.Levels.{level_list}
use Rattle.term_size.specs.Occurrences.{size_row}
use Rattle.termination_model.specs.sizes.Sizes.{rows_of}
use Rattle.kept_program.proofs.KeptLaws.{found_of}
use Rattle.kept_program.proofs.resolving.resolve_numbers.Goals as goal

pub returns-clause-numbers : goal.returns-clause-numbers
returns-clause-numbers c =
    let p = c.args.edit.now.after.now in
    let comps = c.args.edit.now.components.now in
    let rows = c.in_ok-sizes.sizes.sizes.rows in
    let found = found_of size_row p comps rows c.in_ok-found.found c.in_ok-found.ensures.found in
    record {
      sizes = c.in_ok-sizes.ensures.solved;
      found = c.in_ok-found.ensures.found;
      levels = c.in_ok-levels.ensures.levels ∙ ap (level_list p comps) c.as_slice-3.ensures;
      levels_are = c.in_ok-levels.ensures.shape size_row rows (subst (λ (fs : List Found). AreFoundOf size_row p comps rows fs) (sym c.as_slice-3.ensures) found);
      proofs_below = c.bounded.ensures;
      found_below = subst (λ (fs : List Found). AllByRecursion IsFoundBelow fs) c.as_slice-2.ensures c.all_bounded.ensures;
    }

pub returns-clause-kept : goal.returns-clause-kept
returns-clause-kept c =
    let e = c.args.edit.now in
    let old = c.args.old.now in
    record {
      rows = c.in_ok-sizes.ensures.kept;
      found = subst (λ (fs : List Found). KeepFound e (rows_of old.sizes.sizes.rows) (rows_of c.in_ok-sizes.sizes.sizes.rows) fs c.in_ok-found.found) c.as_slice.ensures c.in_ok-found.ensures.kept;
    }
