-- What is known of preconditions stays while the table grows.
use Rattle.std.proofs.Common.{◌≡◌, ℕ, suc, Bool, List, refl, sym, subst, arith}
use Rattle.bool_diagrams.specs.declared.diagram.Diagram.{Diagram}
use Rattle.bool_diagrams.specs.Rows.{Keeps}
use Rattle.bool_diagrams.specs.Tree.{Tree as Rows}
use Rattle.call_components.specs.Partition.{Partition, AreComponents}
use Rattle.cti_terms.specs.Listing.{Listing, IsProgram}
use Rattle.cti_terms.specs.Tree.{Tree}
use Rattle.cti_terms.specs.declared.predicates.Pred.{Pred}
use Rattle.precond_fixpoint.specs.Solving.{IsSolved}
use Rattle.precond_fixpoint.proofs.ComponentLaws.{solved_after}
use Rattle.precond_fixpoint.proofs.FamilyLaws.{mapping_sets_later, unions_later}
use Rattle.termination_model.specs.grounds.Grounds.{Family}
use Rattle.truth_rows.specs.Sets.{AreSets, family_of}
use Rattle.truth_rows.proofs.CallerLemmas.{family_later, sets_later}
use Rattle.carried_preconditions.specs.Resolving.{AreSources}
use Rattle.carried_preconditions.specs.Same.{coefficient_lists, input_values}
use Rattle.carried_preconditions.specs.Solved.{AreInputs, ArePreconditions, rows_with}
use Rattle.carried_preconditions.specs.declared.preconditions.Inputs.{Inputs}
use Rattle.carried_preconditions.specs.declared.preconditions.SolvedPreconditions.{SolvedPreconditions}
use Rattle.carried_preconditions.specs.declared.sources.PreconditionSources.{PreconditionSources}

-- values of predicates
module _ (preds : List Pred) (T T2 : List Rows) (K : Keeps T T2) (inputs : Inputs) (G : AreSets preds T inputs.grounds.now) where
  pub inputs_same : input_values preds T2 inputs ≡ input_values preds T inputs
  inputs_same = (let g = family_later preds T T2 K inputs.grounds.now G.known in λ i q. (g i q, coefficient_lists inputs.levels.now q))

  pub rows_same : (allowed : List Diagram) → AreSets preds T allowed → rows_with preds T2 inputs allowed ≡ rows_with preds T inputs allowed
  rows_same allowed A = (
      let g = family_later preds T T2 K inputs.grounds.now G.known in
      let a = family_later preds T T2 K allowed A.known in
      λ i q. (g i q, a i q))

pub are_inputs_later : (p : Listing) (comps : Partition) (T T2 : List Rows) → Keeps T T2 → (inputs : Inputs) → AreInputs p comps T inputs → AreInputs p comps T2 inputs
are_inputs_later p comps T T2 K inputs I = record { grounds_are = sets_later p.preds T T2 K inputs.grounds.now I.grounds_are; levels_are = I.levels_are }

pub sources_later : {N : Type 0} (s : PreconditionSources N) (T T2 : List Rows) → Keeps T T2 → AreSources s T → AreSources s T2
sources_later s T T2 K S = record {
  clauses = S.clauses;
  ranks = S.ranks;
  heads = S.heads;
  users = S.users;
  before = are_inputs_later s.clauses.now.edit.now.before.now s.clauses.now.edit.now.components_before.now T T2 K s.before.now.inputs S.before;
  inputs = are_inputs_later s.clauses.now.edit.now.after.now s.clauses.now.edit.now.components.now T T2 K s.inputs.now S.inputs;
}

module _ (truth : (ℕ → Bool) → Tree → Bool) (p : Listing) (comps : Partition) (prog : IsProgram p) (are : AreComponents p comps) (T T2 : List Rows) (K : Keeps T T2) (inputs : Inputs) (I : AreInputs p comps T inputs) where
  pub preconditions_later : (solved : SolvedPreconditions) → ArePreconditions truth p comps T inputs solved → ArePreconditions truth p comps T2 inputs solved
  preconditions_later solved P = record {
    sets_are = mapping_sets_later T T2 K p.preds solved.sets P.sets_are;
    allowed_are = unions_later p.preds T T2 K solved.sets P.sets_are solved.allowed P.allowed_are;
    greatest = λ c lt.
        let G = family_of p.preds T inputs.grounds.now in
        let same = family_later p.preds T T2 K inputs.grounds.now I.grounds_are.known in
        subst (λ (g : Family). IsSolved truth p comps g inputs.levels.now T2 solved.sets c) (sym same)
        (solved_after truth p comps G inputs.levels.now T T2 K solved.sets solved.sets P.sets_are (suc c) (λ q off. refl) prog are c (omega arith) (P.greatest c lt));
  }
