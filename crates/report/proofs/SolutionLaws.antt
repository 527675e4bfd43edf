-- The facts of a solution are a valid and exact certificate, and print its modes.
use Rattle.std.proofs.Common.{◌≡◌, ◌≢◌, ◌+◌, ℕ, zero, suc, List, [], ◌∷◌, ◌++◌, map, slice_get, None, Some, refl, ap, subst, arith, ◌∙◌}
use Rattle.std.specs.List.{AllPairs, flat_map}
use Rattle.call_components.specs.Partition.{AreComponents, Partition}
use Rattle.cert_assembly.specs.Assembly.{HaveSets, SetsAreSolved}
use Rattle.cert_assembly.specs.Spelled.{mode_lists}
use Rattle.cert_checker.specs.Bounding.{ModesAreBounded}
use Rattle.cert_checker.specs.Valid.{IsValid}
use Rattle.cert_structure.specs.Numbered.{lines_from}
use Rattle.cert_structure.specs.Order.{fall_facts, ground_facts, level_facts, pre_facts, pred_text, proof_facts, refuted_facts, size_facts}
use Rattle.cert_structure.specs.Structure.{AreNamed}
use Rattle.cert_structure.specs.declared.parts.Parts.{Parts}
use Rattle.certificate.specs.declared.fact.Fact.{Fact}
use Rattle.certificate.specs.declared.fact.Fact.TheVariants.{Terminates}
use Rattle.cti_terms.specs.Listing.{IsProgram, Listing}
use Rattle.cti_terms.specs.Tree.{truth}
use Rattle.number_tests.specs.declared.level_part.LevelPart.{LevelPart}
use Rattle.precond_fixpoint.specs.Solving.{arguments_of}
use Rattle.report.proofs.AssembledParts.{assembled}
use Rattle.report.proofs.BelowLaws.{falls_below, levels_below, refutations_below}
use Rattle.report.proofs.Inferred.{exact_facts, norm_facts, valid_facts}
use Rattle.report.specs.Assembly.{AreBounded, ArePartsOf, IsAssembled}
use Rattle.report.specs.Solution.{Findings, IsExactCertificate, IsSolution, SolutionsPrintModes, solution_facts, solution_notes, solution_parts}
use Rattle.report.specs.declared.assembling.Assembled.{Assembled}
use Rattle.term_size.specs.declared.any_norm.AnyNorm.TheVariants.{Terms}
use Rattle.term_size.specs.declared.any_norm.NormName.TheVariants as norm
use Rattle.termination_model.proofs.Lists.{mapped_place}

module _ (p : Listing) (names : List (List ℕ)) (comps : Partition) (s : Findings) (program : IsProgram p) (components : AreComponents p comps) (is : IsSolution p comps s) where
  abbrev parts_here : Assembled
  parts_here = record { parts = solution_parts p comps s; steps = flat_map (λ own. own) s.steps; found = s.found }

  sets_here : HaveSets truth p comps (solution_parts p comps s)
  sets_here = record {
    first = s.table;
    last = s.table;
    grounds = s.grounds;
    sets = s.sets;
    lists = s.modes;
    solved = subst (λ (ls : List (List LevelPart)). SetsAreSolved truth p comps ls s.table s.table s.grounds s.sets s.modes) is.levels is.sets;
    spelled = record { levels_are = refl; grounds_are = refl; sets_are = refl; modes_are = refl };
  }

  parts_are : ArePartsOf (Terms (record {})) None p comps s.sizes s.found (solution_parts p comps s)
  parts_are = record { norm = refl; rows = refl; row_proofs = refl; levels = refl; falls = refl; refutations = refl; sets = sets_here }

  parts_below : AreBounded (solution_parts p comps s)
  parts_below = record {
    row_proofs = is.below.proofs;
    levels = levels_below s.found is.below.found p comps;
    falls = falls_below s.found is.below.found p comps;
    refutations = refutations_below s.found is.below.found p comps;
  }

  solution_is_assembled : IsAssembled p names comps parts_here
  solution_is_assembled =
      assembled (Terms (record {})) None p names comps s.sizes s.found (solution_parts p comps s) (flat_map (λ own. own) s.steps)
      program components is.chain.legal is.chain.sizes is.chain.proofs is.chain.fits is.found parts_are parts_below refl

  module _ (named : AreNamed names p.preds) (distinct : AllPairs (λ a b. a ≢ b) names)
      (bounds : (p : Listing) (names : List (List ℕ)) (facts : List Fact) → IsProgram p → AreNamed names p.preds → AllPairs (λ a b. a ≢ b) names → IsValid p names facts → ModesAreBounded p names facts) where
    pub solution_is_exact : IsExactCertificate p names (solution_facts p names comps s)
    solution_is_exact =
        let facts = solution_facts p names comps s in
        let valid = valid_facts p names comps program components parts_here solution_is_assembled facts refl in
        record {
          valid = valid;
          exact = exact_facts p names comps program components parts_here solution_is_assembled facts refl;
          bounded = bounds p names facts program named distinct valid;
          of_term_size = norm_facts p names comps program components parts_here solution_is_assembled facts refl norm.Term refl;
        }

-- ---- modes
line_at : {X : Type 0} (line : ℕ → X → Fact) (i : ℕ) (xs : List X) (rest : List Fact) (q : ℕ) (x : X) → slice_get xs q ≡ Some x → slice_get (lines_from i line xs ++ rest) q ≡ Some (line (i + q) x)
line_at line i [] rest q x e = cc
line_at line i (y ∷ xs) rest zero x e =
    let same : y ≡ x = cc in
    let here : i ≡ i + 0 = omega arith in
    λ t. Some (line (here t) (same t))
line_at line i (y ∷ xs) rest (suc q) x e =
    let next : suc i + q ≡ i + suc q = omega arith in
    line_at line (suc i) xs rest q x e ∙ ap (λ n. Some (line n x)) next

-- the facts after those of modes
abbrev after_modes : Listing → List (List ℕ) → Parts → List Fact → List Fact
after_modes p names parts notes =
    size_facts p names parts.rows
    ++ (proof_facts parts.row_proofs
    ++ (ground_facts p names parts.grounds
    ++ (level_facts p names parts.levels
    ++ (fall_facts parts.falls
    ++ (pre_facts p names parts.preconditions
    ++ (refuted_facts p names parts.refutations
    ++ notes))))))

pub modes_are_printed : SolutionsPrintModes
modes_are_printed p names comps s q own e =
    let line = λ (a : ℕ) (ms : List (List ℕ)). Terminates (pred_text p names a) ms in
    let rest = after_modes p names (solution_parts p comps s) (solution_notes p names comps s) in
    let here : 0 + q ≡ q = omega arith in
    line_at line 0 (mode_lists s.modes) rest q (map arguments_of own) (mapped_place (map arguments_of) s.modes q own e)
    ∙ ap (λ a. Some (line a (map arguments_of own))) here
