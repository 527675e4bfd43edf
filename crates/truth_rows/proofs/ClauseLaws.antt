-- The rows that a clause gives, by its steps.
use Rattle.std.proofs.Common.{◌≡◌, ◌↔◌, ℕ, ◌<◌, Bool, IsTrue, ℤ, List, length, sym, subst}
use Rattle.bool_diagrams.specs.declared.diagram.Diagram.{Diagram}
use Rattle.bool_diagrams.specs.Cubes.{truth_rows}
use Rattle.bool_diagrams.specs.Rows.{Keeps}
use Rattle.bool_diagrams.specs.Tree.{Tree as Rows}
use Rattle.cti_terms.specs.declared.clauses.Clause.{Clause}
use Rattle.cti_terms.specs.Tree.{Tree}
use Rattle.term_size.specs.Norm.{IsNorm}
use Rattle.truth_rows.specs.Ready.{HasAtoms, IsReadyClause}
use Rattle.truth_rows.proofs.ArgumentLaws.{truths_agree}
use Rattle.truth_rows.proofs.AtomLaws.{atom_later, ready_later}

pub ready_clause_later : (old new : List Rows) → Keeps old new → (sets : List Diagram) (k : Clause) → IsReadyClause old sets k → IsReadyClause new sets k
ready_clause_later old new keeps sets k ready = record {
  few = ready.few;
  head = ready_later old new keeps sets k.vars k.head ready.head;
  body = λ j b at. ready_later old new keeps sets k.vars b (ready.body j b at);
}

pub atoms_later : (truth : (ℕ → Bool) → Tree → Bool) (old new : List Rows) → Keeps old new → (sets : List Diagram) (k : Clause) → IsReadyClause old sets k → (v : ℕ → Bool) (n : ℕ)
    → HasAtoms truth new sets v k.body n ↔ HasAtoms truth old sets v k.body n
atoms_later truth old new keeps sets k ready v n = (
  λ h. λ j b lt at. (atom_later old new keeps sets k.vars b (ready.body j b at) truth v).0 (h j b lt at),
  λ h. λ j b lt at. (atom_later old new keeps sets k.vars b (ready.body j b at) truth v).1 (h j b lt at),
)

module _ (size : (ℕ → ℕ) → Tree → ℕ) (truth : (ℕ → Bool) → Tree → Bool) (expression : ℕ → Tree → List ℤ) (norm : IsNorm size truth expression) where
  pub atoms_agree : (trees : List Rows) (sets : List Diagram) (k : Clause) → IsReadyClause trees sets k → (v w : ℕ → Bool) → ((x : ℕ) → x < k.vars → w x ≡ v x)
      → HasAtoms truth trees sets v k.body (length k.body) → HasAtoms truth trees sets w k.body (length k.body)
  atoms_agree trees sets k ready v w agree h = λ j b lt at d f.
      let e = truths_agree size truth expression norm k.vars b.args w v (ready.body j b at).below agree in
      subst (λ (xs : List Bool). IsTrue (truth_rows trees d xs)) (sym e) (h j b lt at d f)
