-- What the sets of a program's predicates have.
use Rattle.std.proofs.Common.{◌≡◌, ℕ, suc, ◌<◌, ◌≤◌, ◌==◌, Bool, false, IsTrue, List, [], ◌∷◌, length, map, slice_get, Option, None, Some, IsSomeAnd, refl, arith, eqb-true}
use Rattle.std.proofs.lemmas.Bool.{and_parts, eq-eqb}
use Rattle.bool_diagrams.specs.declared.diagram.Diagram.{Diagram}
use Rattle.bool_diagrams.specs.Cubes.{truth_rows, values_of}
use Rattle.bool_diagrams.specs.Tree.{Tree as Rows}
use Rattle.cti_terms.specs.declared.atom_list.Atom.{Atom}
use Rattle.cti_terms.specs.declared.clauses.Clause.{Clause}
use Rattle.cti_terms.specs.declared.predicates.Pred.{Pred}
use Rattle.cti_terms.specs.Listing.{Listing, IsAtom, IsClause, IsProgram, atom_nodes}
use Rattle.cti_terms.specs.Tree.{Tree}
use Rattle.truth_rows.specs.Ready.{HasTruths, IsReady, IsReadyClause}
use Rattle.truth_rows.specs.Sets.{AreSets, family_of, has_row}
use Rattle.termination_model.proofs.Lists.{by_places, indexed, mapped_place, place_below, sum_part}
use Rattle.truth_rows.proofs.RowLaws.{both}

abbrev pub none : Diagram
none = record { 0 = 0 }

pub some_is : {X : Type 0} → (Q : X → Type 0) (o : Option X) → IsSomeAnd o Q → (x : X) × (o ≡ Some x) × Q x
some_is Q None h = absurd h
some_is Q (Some x) h = (x, refl, h)

-- a row of the family, and what it is read from
pub family_in : (preds : List Pred) (trees : List Rows) (sets : List Diagram) (q : ℕ) (row : List Bool) → IsTrue (family_of preds trees sets q row)
    → (p : Pred) × (d : Diagram) × (slice_get preds q ≡ Some p) × (slice_get sets q ≡ Some d) × (p.arity ≡ length row) × IsTrue (truth_rows trees d row)
family_in preds trees sets q row h = go (slice_get preds q) (slice_get sets q) refl refl h
  where
    go : (a : Option Pred) (b : Option Diagram) → slice_get preds q ≡ a → slice_get sets q ≡ b → IsTrue (has_row a trees b row)
        → (p : Pred) × (d : Diagram) × (slice_get preds q ≡ Some p) × (slice_get sets q ≡ Some d) × (p.arity ≡ length row) × IsTrue (truth_rows trees d row)
    go None b e f h = cc
    go (Some p) None e f h = cc
    go (Some p) (Some d) e f h = let a = and_parts (p.arity == length row) (truth_rows trees d row) h in (p, d, e, f, eqb-true p.arity (length row) a.0, a.1)

pub family_put : (preds : List Pred) (trees : List Rows) (sets : List Diagram) (q : ℕ) (row : List Bool) (p : Pred) (d : Diagram) → slice_get preds q ≡ Some p → slice_get sets q ≡ Some d → p.arity ≡ length row → IsTrue (truth_rows trees d row)
    → IsTrue (family_of preds trees sets q row)
family_put preds trees sets q row p d e f a h = rw (e, f) (both (p.arity == length row) (truth_rows trees d row) (eq-eqb p.arity (length row) a) h)

-- a row whose values are truths is the truth row
pub row_is : (truth : (ℕ → Bool) → Tree → Bool) (v : ℕ → Bool) (row : List Bool) (ts : List Tree) → length row ≡ length ts → HasTruths truth v (values_of row) ts (length ts) → row ≡ map (truth v) ts
row_is truth v [] [] e h = refl
row_is truth v [] (t ∷ ts) e h = absurd (omega arith)
row_is truth v (b ∷ row) [] e h = absurd (omega arith)
row_is truth v (b ∷ row) (t ∷ ts) e h =
    let first : b ≡ truth v t = h 0 t (omega arith) refl in
    let rest = row_is truth v row ts (omega arith) (λ j u lt at. h (suc j) u (omega arith) at) in
    λ i. first i ∷ rest i

pub truths_of : (truth : (ℕ → Bool) → Tree → Bool) (v : ℕ → Bool) (ts : List Tree) → HasTruths truth v (values_of (map (truth v) ts)) ts (length ts)
truths_of truth v ts = λ j t lt at. indexed (map (truth v) ts) j (truth v t) false (mapped_place (truth v) ts j t at)

module _ (p : Listing) (program : IsProgram p) (trees : List Rows) (sets : List Diagram) (S : AreSets p.preds trees sets) where
  pub atom_there : (vars : ℕ) (b : Atom) → IsAtom p.preds vars b → b.pred.0 < length sets
  atom_there vars b a = let s = some_is (λ (q : Pred). q.arity ≡ length b.args) (slice_get p.preds b.pred.0) a.arity in let lt = place_below p.preds b.pred.0 s.0 s.1 in omega (arith, S.each)

  pub atom_narrow : (vars : ℕ) (b : Atom) → IsAtom p.preds vars b → length b.args ≤ 12
  atom_narrow vars b a =
      let s = some_is (λ (q : Pred). q.arity ≡ length b.args) (slice_get p.preds b.pred.0) a.arity in
      let n = by_places (λ (q : Pred). q.arity ≤ 12) p.preds program.arities b.pred.0 s.0 s.1 in
      omega (arith, n, s.2)

  pub atom_ready : (vars : ℕ) (b : Atom) → IsAtom p.preds vars b → atom_nodes b ≤ 2097152 → IsReady trees sets vars b
  atom_ready vars b a small = record {
    there = atom_there vars b a;
    known = λ d e. (S.known b.pred.0 d e, S.reads b.pred.0 (length b.args) d e a.arity);
    narrow = atom_narrow vars b a;
    below = a.below;
    small = small;
  }

  pub ready : (k : Clause) → IsClause p.preds k → IsReadyClause trees sets k
  ready k c = record {
    few = c.few;
    head = atom_ready k.vars k.head c.head (omega (arith, c.small));
    body = λ j b at. atom_ready k.vars b (by_places (IsAtom p.preds k.vars) k.body c.body j b at) (omega (arith, c.small, sum_part atom_nodes k.body j b at));
  }
