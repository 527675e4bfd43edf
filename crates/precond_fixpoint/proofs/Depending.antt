-- Values that break the rule depend on the clause's variables alone.
use Rattle.std.proofs.Common.{◌≡◌, ℕ, ◌<◌, Bool, if◌then◌else◌, IsTrue, ℤ, List, sym, subst}
use Rattle.bool_diagrams.specs.declared.diagram.Diagram.{Diagram}
use Rattle.bool_diagrams.specs.Cubes.{truth_rows}
use Rattle.bool_diagrams.specs.Tree.{Tree as Rows}
use Rattle.cti_terms.specs.declared.atom_list.Atom.{Atom}
use Rattle.cti_terms.specs.declared.clauses.Clause.{Clause}
use Rattle.cti_terms.specs.Tree.{Tree, is_below}
use Rattle.std.specs.List.{AllByRecursion}
use Rattle.term_size.specs.Norm.{IsNorm}
use Rattle.truth_rows.specs.Ready.{HasAtom, IsReadyClause}
use Rattle.truth_rows.specs.Rules.{same_rank}
use Rattle.truth_rows.proofs.ArgumentLaws.{truths_agree}
use Rattle.precond_fixpoint.specs.Breaking.{Breaks}

module _ (size : (ℕ → ℕ) → Tree → ℕ) (truth : (ℕ → Bool) → Tree → Bool) (expression : ℕ → Tree → List ℤ) (norm : IsNorm size truth expression) (trees : List Rows) where
  atom_agrees : (sets : List Diagram) (vars : ℕ) (b : Atom) → AllByRecursion (λ t. IsTrue (is_below vars t)) b.args → (v w : ℕ → Bool) → ((x : ℕ) → x < vars → w x ≡ v x)
      → HasAtom truth trees sets v b → HasAtom truth trees sets w b
  atom_agrees sets vars b below v w agree h d f =
      let e = truths_agree size truth expression norm vars b.args w v below agree in
      subst (λ (xs : List Bool). IsTrue (truth_rows trees d xs)) (sym e) (h d f)

  pub breaks_agree : (ranks : List ℕ) (grounds pre allowed : List Diagram) (k : Clause) → IsReadyClause trees grounds k → (v w : ℕ → Bool) → ((x : ℕ) → x < k.vars → w x ≡ v x)
      → Breaks truth trees ranks grounds pre allowed k v → Breaks truth trees ranks grounds pre allowed k w
  breaks_agree ranks grounds pre allowed k ready v w agree h =
      let one = h.1.1 in
      let b = one.call in
      let below = (ready.body h.1.0 b one.there).below in (
        atom_agrees pre k.vars k.head ready.head.below v w agree h.0,
        (
          h.1.0,
          record {
            call = b;
            there = one.there;
            reached = λ j a lt at. atom_agrees grounds k.vars a (ready.body j a at).below v w agree (one.reached j a lt at);
            outside = λ has. one.outside (atom_agrees (if same_rank ranks b.pred.0 k.head.pred.0 then pre else allowed) k.vars b below w v (λ x l. sym (agree x l)) has);
          },
        ),
      )
