use Rattle.std.proofs.Common.{◌≡◌, List, subst, sym}
use Rattle.bool_diagrams.proofs.CallerLemmas.{keeps_twice}
use Rattle.bool_diagrams.specs.declared.diagram.Diagram.{Diagram}
use Rattle.cti_terms.specs.Tree.{truth}
use Rattle.number_tests.specs.declared.level_part.LevelPart.{LevelPart}
use Rattle.precond_fixpoint.specs.Solving.{AreModes, IsSolved}
use Rattle.precond_fixpoint.specs.declared.mode.Mode.{Mode}
use Rattle.solved_program.proofs.GroundRows.{solved_later}
use Rattle.termination_model.specs.grounds.Grounds.{Family}
use Rattle.truth_rows.specs.Sets.{family_of}
use Rattle.solved_program.specs.Standing.{KeepValues}
use Rattle.kept_program.proofs.Families.{grown_sets, moved_family}
use Rattle.kept_program.proofs.KeptLaws.{sets_later}
use Rattle.kept_program.proofs.resolving.resolve_sets.Goals as goal

pub resolve_preconditions-requires-clause-old : goal.resolve_preconditions-requires-clause-old
resolve_preconditions-requires-clause-old c =
    let p = c.args.edit.now.before.now in
    let comps = c.args.edit.now.components_before.now in
    let old = c.args.old.now in
    let T = c.args.table.now in
    let T' = c.resolve_grounds.new.table in
    let later = sets_later p comps old.numbers.levels T T' old.sets.grounds.items old.sets.preconditions old.sets.modes c.in_ok-grounds.ensures.keeps c.requires.old.sets in
    record {
      sets_are = later.mapping_sets;
      allowed_are = later.allowed;
      greatest = λ d lt.
          subst (λ (gs : List Diagram). IsSolved truth p comps (family_of p.preds T' gs) c.as_slice.result.now T' old.sets.preconditions.sets d) (sym c.deref-2.ensures.value)
          (subst (λ (ls : List (List LevelPart)). IsSolved truth p comps (family_of p.preds T' old.sets.grounds.items) ls T' old.sets.preconditions.sets d) (sym c.as_slice.ensures) (later.greatest d lt));
    }

pub resolve_modes-requires-clause-modes : goal.resolve_modes-requires-clause-modes
resolve_modes-requires-clause-modes c =
    let p = c.args.edit.now.before.now in
    let comps = c.args.edit.now.components_before.now in
    let old = c.args.old.now in
    let T = c.args.table.now in
    let T' = c.resolve_grounds.new.table in
    let T2 = c.resolve_preconditions.new.table in
    let keeps = keeps_twice T T' T2 c.in_ok-grounds.ensures.keeps c.in_ok-preconditions.ensures.keeps in
    let later = sets_later p comps old.numbers.levels T T2 old.sets.grounds.items old.sets.preconditions old.sets.modes keeps c.requires.old.sets in
    let here : AreModes p.preds (family_of p.preds T2 old.sets.preconditions.allowed) old.sets.modes = subst (λ (f : Family). AreModes p.preds f old.sets.modes) (sym later.allowed.rows) later.modes in
    subst (λ (ds : List Diagram). AreModes p.preds (family_of p.preds T2 ds) c.as_slice-4.result.now) (sym c.as_slice-3.ensures)
    (subst (λ (ms : List (List Mode)). AreModes p.preds (family_of p.preds T2 old.sets.preconditions.allowed) ms) (sym c.as_slice-4.ensures) here)

pub returns-clause-sets : goal.returns-clause-sets
returns-clause-sets c =
    let p = c.args.edit.now.after.now in
    let comps = c.args.edit.now.components.now in
    let levels = c.args.numbers.now.levels in
    let T' = c.resolve_grounds.new.table in
    let T2 = c.resolve_preconditions.new.table in
    let grounds = c.in_ok-grounds.grounds.items in
    let pre = c.in_ok-preconditions.preconditions in
    let solved = c.in_ok-preconditions.ensures.solved in
    record {
      grounds = solved_later truth p comps T' T2 c.in_ok-preconditions.ensures.keeps grounds c.in_ok-grounds.ensures.solved;
      mapping_sets = solved.sets_are;
      allowed = solved.allowed_are;
      greatest = λ d lt.
          subst (λ (gs : List Diagram). IsSolved truth p comps (family_of p.preds T2 gs) levels T2 pre.sets d) c.deref-3.ensures.value
          (subst (λ (ls : List (List LevelPart)). IsSolved truth p comps (family_of p.preds T2 c.deref-3.result.now) ls T2 pre.sets d) c.as_slice-2.ensures (solved.greatest d lt));
      modes = subst (λ (f : Family). AreModes p.preds f c.in_ok-modes.modes) solved.allowed_are.rows
          (subst (λ (ds : List Diagram). AreModes p.preds (family_of p.preds T2 ds) c.in_ok-modes.modes) c.as_slice-5.ensures c.in_ok-modes.ensures);
    }

pub returns-clause-grounds : goal.returns-clause-grounds
returns-clause-grounds c =
    let e = c.args.edit.now in
    let p = e.before.now in
    let new = e.after.now in
    let T = c.args.table.now in
    let T' = c.resolve_grounds.new.table in
    let T2 = c.resolve_preconditions.new.table in
    let grounds = c.in_ok-grounds.grounds.items in
    let are = c.in_ok-grounds.ensures.solved.sets_are in
    let same : family_of new.preds T2 grounds ≡ family_of new.preds T' grounds = moved_family new.preds T' T2 grounds grounds are (grown_sets new.preds T' T2 grounds c.in_ok-preconditions.ensures.keeps are) in
    subst (λ (f : Family). KeepValues e (family_of p.preds T c.args.old.now.sets.grounds.items) f) (sym same)
    (subst (λ (ds : List Diagram). KeepValues e (family_of p.preds T ds) (family_of new.preds T' grounds)) c.deref.ensures.value c.in_ok-grounds.ensures.kept)
