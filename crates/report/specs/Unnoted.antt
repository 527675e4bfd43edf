-- Private.
-- Where no note of an exact certificate says that something of a component was given up, the component's modes are the
-- best over all its linear mappings.
--
-- To believe: nothing. The law leads from a whole certificate to what `BestModes` says of its parts.
use Rattle.std.specs.Prelude.{◌≡◌, ℕ, IsTrue, List, slice_get, Some}
use Rattle.std.specs.List.{AllByRecursion}
use Rattle.call_components.specs.Partition.{IsIn}
use Rattle.cert_assembly.specs.ExactModes.{admitted_by}
use Rattle.cert_checker.specs.Norms.{norm_in}
use Rattle.cert_structure.specs.Order.{pred_text}
use Rattle.cert_structure.specs.Shape.{first_of, is_recursive, items_of}
use Rattle.certificate.specs.declared.fact.Fact.{Fact}
use Rattle.certificate.specs.declared.fact.Fact.TheVariants as fact
use Rattle.cti_terms.specs.Listing.{IsProgram, Listing}
use Rattle.cti_terms.specs.declared.predicates.Pred.{Pred}
use Rattle.linear_rows.specs.Members.{In}
use Rattle.precond_fixpoint.specs.Greatest.{Solved}
use Rattle.term_size.specs.AnyNorm.{any_row, any_truth}
use Rattle.termination_model.specs.grounds.Modes.{modes}
use Rattle.report.specs.Exact.{IsExact}
use Rattle.report.specs.ExactMappings.{HaveEachSupport, IsSolvedMapping}

-- no fact says of the component that q leads that a support was given up, or that it has too many positions to try all
pub record IsUnnoted (p : Listing) (names : List (List ℕ)) (q : ℕ) (facts : List Fact) : Type 0 where
  pub blown : (support : List (List ℕ)) → In (fact.Blown (pred_text p names q) support) facts → ⊥
  pub large : (positions : ℕ) → In (fact.Large (pred_text p names q) positions) facts → ⊥

-- then the modes of each member are those that any list of decreasing mappings gives, in which each support occurs
abbrev pub UnnotedAreBest : Type 0
UnnotedAreBest =
    (p : Listing) (names : List (List ℕ)) (facts : List Fact) → IsProgram p → (exact : IsExact p names facts)
    → (let comps = exact.comps in
    let parts = exact.parts in
    let norm = norm_in names parts.norm in
    (c q : ℕ) → IsIn comps c q → IsTrue (is_recursive comps q) → first_of comps q ≡ q → IsUnnoted p names q facts
    → (r : ℕ) (d : Pred) → IsIn comps c r → slice_get p.preds r ≡ Some d
    → (ns : List Solved) → AllByRecursion (IsSolvedMapping (any_row norm) p comps parts (any_truth norm) c) ns → HaveEachSupport (any_row norm) p comps parts (any_truth norm) c ns
    → items_of parts.modes r ≡ modes d.arity (admitted_by ns r))
