-- Multipliers over a clause's system, as the code makes it, prove the rows of the clause's head.
use Rattle.std.proofs.Common.{ℕ, ℤ, List, [], ◌∷◌, Option, None, Some, subst}
use Rattle.cti_terms.specs.Tree.{Tree}
use Rattle.cti_terms.specs.declared.clauses.Clause.{Clause}
use Rattle.linear_rows.specs.Plain.{plain_rows}
use Rattle.linear_rows.specs.declared.multipliers.Multipliers.{Multipliers}
use Rattle.linear_rows.specs.declared.system.System.{System}
use Rattle.polyhedra.specs.Making.{AreShown}
use Rattle.linear_rows.specs.Showing.{Shows}
use Rattle.linear_rows.specs.Replacing.{substituted}
use Rattle.termination_model.specs.sizes.Systems.{row_over}
use Rattle.termination_model.specs.sizes.ShortSystems.{short_system}
use Rattle.numeric_model.specs.Proved.{AreShownOver}
use Rattle.numeric_model.specs.Stepping.{IfNone}
use Rattle.numeric_model.proofs.Translate.{IsOf}

pub none_map : {D P Q : Type 0} → (P → Q) → (o : Option D) → IfNone P o → IfNone Q o
none_map f None h = f h
none_map f (Some d) h = tt

module _ (expression : ℕ → Tree → List ℤ) (rows : ℕ → List (List ℤ)) (k : Clause) (s : System) (is : IsOf expression rows k s) where
  abbrev over : List ℤ → List ℤ
  over = row_over expression k.vars k.head.args

  one_over : (r : List ℤ) (m : Multipliers) → Shows (plain_rows s.rows.list) (substituted s.variables (plain_rows s.head.list) r) m
      → Shows (short_system expression rows k.vars k.body) (over r) m
  one_over r m h =
      subst (λ (x : List (List ℤ)). Shows (short_system expression rows k.vars k.body) (substituted k.vars x r) m) is.head
      (subst (λ (x : List (List ℤ)). Shows x (substituted k.vars (plain_rows s.head.list) r) m) is.body
      (subst (λ (x : ℕ). Shows (plain_rows s.rows.list) (substituted x (plain_rows s.head.list) r) m) is.variables h))

  pub shown_over : (old : List (List ℤ)) (by : List Multipliers) → AreShown s old by → AreShownOver (short_system expression rows k.vars k.body) over old by
  shown_over [] [] h = tt
  shown_over [] (m ∷ ms) h = absurd h
  shown_over (r ∷ rs) [] h = absurd h
  shown_over (r ∷ rs) (m ∷ ms) h = (one_over r m h.0, shown_over rs ms h.1)
