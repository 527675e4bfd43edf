-- Of a program without predicates nothing is kept, and that is right.
use Rattle.std.proofs.Common.{◌≡◌, ℕ, Bool, List, [], length, map, slice_get, Some, ap, sym, subst, ◌∙◌, arith}
use Rattle.std.specs.List.{AllByRecursion, list_any}
use Rattle.bool_diagrams.specs.Tree.{Tree as Rows}
use Rattle.bool_diagrams.specs.declared.diagram.Diagram.{Diagram}
use Rattle.call_components.specs.Partition.{Partition, AreComponents}
use Rattle.cert_assembly.specs.Ranges.{AreMultipliersBelow, IsFoundBelow}
use Rattle.level_systems.specs.declared.found.Found.{Found}
use Rattle.linear_rows.specs.declared.multipliers.Multipliers.{Multipliers}
use Rattle.cti_terms.specs.Listing.{Listing}
use Rattle.cti_terms.specs.declared.predicates.Pred.{Pred}
use Rattle.exact128.specs.Fits.{fits}
use Rattle.linear_rows.specs.Blown.{all_of}
use Rattle.linear_rows.specs.Step.{columns}
use Rattle.number_tests.specs.Levels.{items_of}
use Rattle.precond_fixpoint.proofs.PlaceLaws.{items_there}
use Rattle.precond_fixpoint.specs.Solving.{allowed_family}
use Rattle.report.specs.Levels.{level_list, levels_at}
use Rattle.solved_program.proofs.Empty.{no_components, none_solved}
use Rattle.term_size.specs.Occurrences.{size_row}
use Rattle.termination_model.proofs.Lists.{place_below}
use Rattle.termination_model.specs.mappings.View.{all_upper}
use Rattle.truth_rows.specs.Sets.{AreSets, family_of, has_row}
use Rattle.kept_program.specs.Kept.{IsKept, IsNothing}
use Rattle.kept_program.specs.declared.kept.Kept.{Kept}

pub nothing_kept : (p : Listing) (comps : Partition) (T : List Rows) (k : Kept) → AreComponents p comps → p.preds ≡ [] → p.clauses ≡ [] → IsNothing k → IsKept p comps T k
nothing_kept p comps T k are preds clauses none = record {
  numbers = record {
    sizes = none_solved (all_of fits) size_row p comps k.numbers.sizes are preds clauses none.steps none.rows none.proofs;
    found = record { each = ap length none.found ∙ sym no_comps; found = λ c f at. absurd (no_place k.numbers.found none.found c f at) };
    levels = none.levels ∙ sym empty_levels;
    levels_are = record {
      parts = record {
        each = ap length none.levels ∙ sym (ap length preds);
        wide = λ q m x part px at. absurd (no_place p.preds preds q x px);
      };
      together = λ c a b in_a in_b. ap length (no_items k.numbers.levels none.levels a) ∙ sym (ap length (no_items k.numbers.levels none.levels b));
    };
    proofs_below = subst (λ (xs : List (List Multipliers)). AllByRecursion (AllByRecursion AreMultipliersBelow) xs) (sym none.proofs) tt;
    found_below = subst (λ (xs : List Found). AllByRecursion IsFoundBelow xs) (sym none.found) tt;
  };
  sets = record {
    grounds = record {
      sets_are = no_sets k.sets.grounds.items none.grounds;
      least = λ c lt. absurd (omega (arith, lt, no_comps));
    };
    mapping_sets = record {
      each = ap length none.sets ∙ sym (ap length preds);
      known = λ q m d at. absurd (omega (arith, items_there k.sets.preconditions.sets q m d at, ap length none.sets));
      reads = λ q m n d at arity. absurd (omega (arith, items_there k.sets.preconditions.sets q m d at, ap length none.sets));
    };
    allowed = record { sets = no_sets k.sets.preconditions.allowed none.allowed; rows = λ i q row. no_rows q row i };
    greatest = λ c lt. absurd (omega (arith, lt, no_comps));
    modes = record {
      each = ap length none.modes ∙ sym (ap length preds);
      minimal = λ q x px. absurd (no_place p.preds preds q x px);
    };
  };
}
  where
    no_comps : length comps.members ≡ 0
    no_comps = no_components p comps are preds

    no_place : {X : Type 0} (xs : List X) → xs ≡ [] → (i : ℕ) (x : X) → slice_get xs i ≡ Some x → ⊥
    no_place xs is i x at = (let lt = place_below xs i x at in let l = ap length is in omega (arith, lt, l))

    no_items : {X : Type 0} (xs : List (List X)) → xs ≡ [] → (i : ℕ) → items_of xs i ≡ []
    no_items xs is i = ap (λ ys. items_of ys i) is

    empty_levels : level_list p comps k.numbers.found ≡ []
    empty_levels = ap (λ (n : ℕ). map (levels_at p comps k.numbers.found) (columns 0 n)) (ap length preds)

    no_sets : (ds : List Diagram) → ds ≡ [] → AreSets p.preds T ds
    no_sets ds is = record {
      each = ap length is ∙ sym (ap length preds);
      known = λ q d at. absurd (no_place ds is q d at);
      reads = λ q n d at arity. absurd (no_place ds is q d at);
    }

    no_rows : (q : ℕ) (row : List Bool) → family_of p.preds T k.sets.preconditions.allowed q row ≡ allowed_family p.preds T k.sets.preconditions.sets q row
    no_rows q row =
        ap (λ (xs : List Pred). has_row (slice_get xs q) T (slice_get k.sets.preconditions.allowed q) row) preds
        ∙ sym (ap (λ (ds : List Diagram). list_any (λ d. all_upper (has_row (slice_get p.preds q) T (Some d)) row) ds) (no_items k.sets.preconditions.sets none.sets q))
