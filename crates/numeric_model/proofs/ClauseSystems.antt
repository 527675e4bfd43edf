-- The system of a clause's whole body, as the code makes it.
use Rattle.std.proofs.Common.{◌≡◌, ℕ, zero, suc, ℤ, pos, Bool, List, [], ◌∷◌, map, take, length, IsTrue, refl, ap, sym, subst, ◌∙◌, arith}
use Rattle.std.specs.Prelude.{All, ◌≤ℤ◌}
use Rattle.std.specs.List.{AllByRecursion}
use Rattle.std.proofs.lemmas.List.{length-map}
use Rattle.cti_terms.specs.Tree.{Tree, is_below}
use Rattle.cti_terms.specs.declared.clauses.Clause.{Clause}
use Rattle.linear_rows.specs.Plain.{HaveWidth, plain_rows}
use Rattle.linear_rows.specs.declared.system.System.{System}
use Rattle.term_size.specs.Norm.{IsNorm}
use Rattle.termination_model.specs.sizes.Sizes.{wide_system}
use Rattle.termination_model.specs.sizes.ShortSystems.{short_system}
use Rattle.polyhedra.specs.Telling.{IsSystem, HasNaturalHead}
use Rattle.polyhedra.specs.Making.{arity_of}
use Rattle.redundant_rows.proofs.RowLists.{long_rows}
use Rattle.numeric_model.proofs.Naturals.{expressions_natural}
use Rattle.numeric_model.proofs.Translate.{IsOf}

all_taken : {X : Type 0} → (n : ℕ) (xs : List X) → length xs ≡ n → take n xs ≡ xs
all_taken zero [] l = refl
all_taken (suc n) [] l = refl
all_taken zero (x ∷ xs) l = absurd (omega arith)
all_taken (suc n) (x ∷ xs) l = ap (λ s. x ∷ s) (all_taken n xs (omega arith))

pub system_is : (s : System) → (s.rows.width ≡ s.variables) × (s.head.width ≡ s.variables) × HaveWidth s.variables s.rows.list × HaveWidth s.variables s.head.list → IsSystem s
system_is s w = record { rows_width = w.0; head_width = w.1; rows = long_rows s.variables s.rows.list w.2; head = long_rows s.variables s.head.list w.3 }

pub of_clause : (expression : ℕ → Tree → List ℤ) (rows : ℕ → List (List ℤ)) (k : Clause) (s : System) (j : ℕ) → j ≡ length k.body → s.variables ≡ k.vars
    → plain_rows s.rows.list ≡ short_system expression rows k.vars (take j k.body) → s.wide ≡ wide_system expression rows k.vars (take j k.body) → plain_rows s.head.list ≡ map (expression k.vars) k.head.args → IsOf expression rows k s
of_clause expression rows k s j je ve re we he =
    let whole : take j k.body ≡ k.body = all_taken j k.body (sym je) in
    record {
      variables = ve;
      body = re ∙ ap (short_system expression rows k.vars) whole;
      wide = we ∙ ap (wide_system expression rows k.vars) whole;
      head = he;
    }

pub natural_head : (size : (ℕ → ℕ) → Tree → ℕ) (truth : (ℕ → Bool) → Tree → Bool) (expression : ℕ → Tree → List ℤ) → IsNorm size truth expression → (rows : ℕ → List (List ℤ)) (k : Clause) (s : System) → IsOf expression rows k s
    → AllByRecursion (λ (x : Tree). IsTrue (is_below k.vars x)) k.head.args → HasNaturalHead s
natural_head size truth expression norm rows k s is below =
    subst (λ (es : List (List ℤ)). All (λ (r : List ℤ). All (λ (x : ℤ). pos 0 ≤ℤ x) r) es) (sym is.head) (expressions_natural size truth expression norm k.vars k.head.args below)

pub arity_is : (expression : ℕ → Tree → List ℤ) (rows : ℕ → List (List ℤ)) (k : Clause) (s : System) → IsOf expression rows k s → arity_of s ≡ length k.head.args
arity_is expression rows k s is = ap length is.head ∙ length-map k.head.args (expression k.vars)
