-- What is kept of a program stays right where its sets move to another table, and makes a certificate.
use Rattle.std.proofs.Common.{◌≡◌, ℕ, ℤ, List, length, None, ap, sym, subst, ◌∙◌}
use Rattle.bool_diagrams.specs.Rows.{Keeps}
use Rattle.bool_diagrams.specs.Tree.{Tree as Rows}
use Rattle.bool_diagrams.specs.declared.diagram.Diagram.{Diagram}
use Rattle.call_components.specs.Partition.{Partition, AreComponents}
use Rattle.carried_preconditions.specs.declared.preconditions.SolvedPreconditions.{SolvedPreconditions}
use Rattle.cert_assembly.specs.Spelled.{mode_lists, spelled_list, spelled_lists}
use Rattle.cti_terms.specs.Listing.{IsProgram, Listing}
use Rattle.cti_terms.specs.Tree.{Tree, truth}
use Rattle.exact128.specs.Fits.{fits}
use Rattle.level_systems.specs.declared.found.Found.{Found}
use Rattle.linear_rows.specs.Blown.{all_of}
use Rattle.linear_rows.specs.declared.row.Rows.{Rows as SizeRows}
use Rattle.number_tests.specs.Levels.{coefficients_of}
use Rattle.number_tests.specs.declared.level_part.LevelPart.{LevelPart}
use Rattle.precond_fixpoint.specs.Greatest.{IsGreatestIn}
use Rattle.precond_fixpoint.specs.Solving.{AreModes, allowed_family, is_member, pre_family}
use Rattle.precond_fixpoint.specs.declared.mode.Mode.{Mode}
use Rattle.report.specs.Assembly.{AreFound as AreFoundOf}
use Rattle.report.specs.Levels.{fall_list, level_list, refutation_list}
use Rattle.report.specs.Solution.{IsSolution}
use Rattle.solved_program.specs.Grounds.{AreLeastTo}
use Rattle.solved_program.proofs.GroundRows.{solved_grounds_are_least}
use Rattle.solved_program.proofs.SolvedLaws.{solved_sizes_are_proved}
use Rattle.term_size.specs.Occurrences.{size_row}
use Rattle.termination_model.specs.grounds.Grounds.{Family}
use Rattle.termination_model.specs.sizes.Sizes.{rows_of}
use Rattle.truth_rows.specs.Sets.{family_of}
use Rattle.cti_terms.specs.declared.predicates.Pred.{Pred}
use Rattle.moved_diagrams.proofs.Moves.{moved_later, own_later}
use Rattle.moved_diagrams.specs.Moved.{AreMovedSets}
use Rattle.carried_mappings.specs.FoundMappings.{AreFound}
use Rattle.kept_program.specs.Kept.{AreSetsOf, IsKept, findings_in, parts_of}
use Rattle.kept_program.specs.Renewing.{AreMovedPreconditions}
use Rattle.kept_program.specs.declared.kept.Kept.{Kept}
use Rattle.kept_program.specs.declared.kept.KeptNumbers.{KeptNumbers}
use Rattle.kept_program.specs.declared.kept.KeptSets.{KeptSets}
use Rattle.kept_program.proofs.Families.{grown_lists, grown_sets, moved_allowed, moved_are_lists, moved_are_sets, moved_count, moved_family, moved_pre, moved_spelled, moved_spelled_lists}

-- ---- sets in another table
module _ (p : Listing) (comps : Partition) (levels : List (List LevelPart)) (T T' : List Rows) (old_grounds grounds : List Diagram) (old_pre pre : SolvedPreconditions) (lists : List (List Mode))
    (K : AreSetsOf p comps levels T old_grounds old_pre lists) (G : AreMovedSets p.preds T old_grounds T' grounds) (P : AreMovedPreconditions p.preds T old_pre T' pre) where
  ground_family : family_of p.preds T' grounds ≡ family_of p.preds T old_grounds
  ground_family = moved_family p.preds T T' old_grounds grounds K.grounds.sets_are G

  allowed_same : allowed_family p.preds T' pre.sets ≡ allowed_family p.preds T old_pre.sets
  allowed_same = moved_allowed p.preds T T' old_pre.sets pre.sets K.mapping_sets P.sets

  greatest_moved : (c m : ℕ) → IsGreatestIn truth p (is_member comps c) (allowed_family p.preds T old_pre.sets) (family_of p.preds T old_grounds) (coefficients_of levels m) (pre_family p.preds T old_pre.sets m)
      → IsGreatestIn truth p (is_member comps c) (allowed_family p.preds T' pre.sets) (family_of p.preds T' grounds) (coefficients_of levels m) (pre_family p.preds T' pre.sets m)
  greatest_moved c m g =
      let M = is_member comps c in
      let C = coefficients_of levels m in
      subst (λ (f : Family). IsGreatestIn truth p M (allowed_family p.preds T' pre.sets) (family_of p.preds T' grounds) C f) (sym (moved_pre p.preds T T' old_pre.sets pre.sets K.mapping_sets P.sets m))
      (subst (λ (f : Family). IsGreatestIn truth p M (allowed_family p.preds T' pre.sets) f C (pre_family p.preds T old_pre.sets m)) (sym ground_family)
      (subst (λ (f : Family). IsGreatestIn truth p M f (family_of p.preds T old_grounds) C (pre_family p.preds T old_pre.sets m)) (sym allowed_same) g))

  -- they are right there, too
  pub sets_moved : AreSetsOf p comps levels T' grounds pre lists
  sets_moved = record {
    grounds = record {
      sets_are = moved_are_sets p.preds T T' old_grounds grounds K.grounds.sets_are G;
      least = subst (λ (f : Family). AreLeastTo truth p comps (length comps.members) f) (sym ground_family) K.grounds.least;
    };
    mapping_sets = moved_are_lists p.preds T T' old_pre.sets pre.sets K.mapping_sets P.sets;
    allowed = record {
      sets = moved_are_sets p.preds T T' old_pre.allowed pre.allowed K.allowed.sets P.allowed;
      rows = moved_family p.preds T T' old_pre.allowed pre.allowed K.allowed.sets P.allowed ∙ K.allowed.rows ∙ sym allowed_same;
    };
    greatest = λ c lt. record {
      counts = λ q in_it. moved_count p.preds T T' old_pre.sets pre.sets K.mapping_sets P.sets q ∙ (K.greatest c lt).counts q in_it;
      greatest = λ q m in_it few. greatest_moved c m ((K.greatest c lt).greatest q m in_it few);
    };
    modes = subst (λ (f : Family). AreModes p.preds f lists) (sym allowed_same) K.modes;
  }

  -- and are spelled alike
  pub parts_moved : (n : KeptNumbers) (k k' : KeptSets) → k.grounds.items ≡ old_grounds → k.preconditions ≡ old_pre → k.modes ≡ lists → k'.grounds.items ≡ grounds → k'.preconditions ≡ pre → k'.modes ≡ lists
      → parts_of p comps T' (record { numbers = n; sets = k' }) ≡ parts_of p comps T (record { numbers = n; sets = k })
  parts_moved n k k' g0 p0 m0 g1 p1 m1 =
      let G1 = ap (spelled_list p.preds T') g1 ∙ moved_spelled p.preds T T' old_grounds grounds K.grounds.sets_are G ∙ sym (ap (spelled_list p.preds T) g0) in
      let P1 = ap (λ (x : SolvedPreconditions). spelled_lists p.preds T' x.sets) p1 ∙ moved_spelled_lists p.preds T T' old_pre.sets pre.sets K.mapping_sets P.sets ∙ sym (ap (λ (x : SolvedPreconditions). spelled_lists p.preds T x.sets) p0) in
      let M1 = ap mode_lists m1 ∙ sym (ap mode_lists m0) in
      λ i. record {
        program = p;
        components = comps;
        parts = record {
          norm = None;
          modes = M1 i;
          rows = n.sizes.sizes.rows;
          row_proofs = n.sizes.sizes.proofs;
          grounds = G1 i;
          levels = level_list p comps n.found;
          falls = fall_list p comps n.found;
          preconditions = P1 i;
          refutations = refutation_list p comps n.found;
        };
        steps = n.sizes.steps;
        found = n.found;
      }

-- ---- sets whose table grows
module _ (p : Listing) (comps : Partition) (levels : List (List LevelPart)) (T T' : List Rows) (grounds : List Diagram) (pre : SolvedPreconditions) (lists : List (List Mode)) (grow : Keeps T T')
    (K : AreSetsOf p comps levels T grounds pre lists) where
  still_grounds : AreMovedSets p.preds T grounds T' grounds
  still_grounds = grown_sets p.preds T T' grounds grow K.grounds.sets_are

  still_pre : AreMovedPreconditions p.preds T pre T' pre
  still_pre = record { sets = grown_lists p.preds T T' pre.sets grow K.mapping_sets; allowed = grown_sets p.preds T T' pre.allowed grow K.allowed.sets }

  pub sets_later : AreSetsOf p comps levels T' grounds pre lists
  sets_later = sets_moved p comps levels T T' grounds grounds pre pre lists K still_grounds still_pre

  pub parts_later : (n : KeptNumbers) (k : KeptSets) → k.grounds.items ≡ grounds → k.preconditions ≡ pre → k.modes ≡ lists
      → parts_of p comps T' (record { numbers = n; sets = k }) ≡ parts_of p comps T (record { numbers = n; sets = k })
  parts_later n k g is m = parts_moved p comps levels T T' grounds grounds pre pre lists K still_grounds still_pre n k k g is m g is m

-- ---- mappings, in the words of certificates
pub found_of : (expression : ℕ → Tree → List ℤ) (p : Listing) (comps : Partition) (rows : List SizeRows) (found : List Found) → AreFound expression p comps (rows_of rows) found → AreFoundOf expression p comps rows found
found_of expression p comps rows found h = record { each = h.each; are = λ c f at is. (h.found c f at).recursive is }

-- ---- the certificate
pub solution_kept : (p : Listing) (comps : Partition) (T : List Rows) (k : Kept) → IsProgram p → AreComponents p comps → IsKept p comps T k → IsSolution p comps (findings_in T k)
solution_kept p comps T k prog are h =
    let n = h.numbers in
    let s = h.sets in
    let proved = solved_sizes_are_proved (all_of fits) size_row p comps k.numbers.sizes prog are n.sizes in
    record {
      chain = record { legal = proved.0; sizes = n.sizes.rows; proofs = proved.1; fits = proved.2 };
      found = found_of size_row p comps k.numbers.sizes.sizes.rows k.numbers.found n.found;
      levels = n.levels;
      sets = record {
        ground_sets = s.grounds.sets_are;
        least = solved_grounds_are_least truth p comps T k.sets.grounds.items prog are s.grounds;
        levels_are = n.levels_are;
        mapping_sets = s.mapping_sets;
        solved = s.greatest;
        modes_are = s.modes;
      };
      below = record { proofs = n.proofs_below; found = n.found_below };
    }

-- ---- what has moved stays moved while its table grows
pub pre_later : (preds : List Pred) (T : List Rows) (old : SolvedPreconditions) (new later : List Rows) (pre : SolvedPreconditions) → Keeps new later → AreMovedPreconditions preds T old new pre → AreMovedPreconditions preds T old later pre
pre_later preds T old new later pre k m = record {
  sets = record { each = m.sets.each; own = λ q own at x sets px ls. own_later x.arity T sets new later own k (m.sets.own q own at x sets px ls) };
  allowed = record { each = m.allowed.each; at = λ q e at x d px was. moved_later x.arity T d new later e k (m.allowed.at q e at x d px was) };
}
