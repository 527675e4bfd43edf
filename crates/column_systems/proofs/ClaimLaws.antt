-- Systems over columns are those of claims, and the rows of built-in predicates are stated.
use Rattle.std.proofs.Common.{◌≡◌, ℕ, ◌<◌, ℤ, true, List, [], ◌∷◌, ◌++◌, map, length, slice_get, Option, None, Some, refl, ap, sym, subst, ◌∙◌, arith}
use Rattle.std.specs.Prelude.{IsSomeAnd}
use Rattle.std.specs.List.{AllByRecursion}
use Rattle.cti_terms.specs.declared.builtins.Builtin.{Builtin}
use Rattle.cti_terms.specs.declared.builtins.Builtin.TheVariants.{Is, Equal, NotEqual, Less, AtMost, Greater, AtLeast}
use Rattle.cti_terms.specs.declared.predicates.Pred.{Pred}
use Rattle.linear_rows.specs.Members.{In}
use Rattle.linear_rows.specs.Plain.{HaveWidth}
use Rattle.linear_rows.specs.Replacing.{row_fits}
use Rattle.number_columns.specs.ColumnLists.{kinds_at}
use Rattle.number_columns.specs.declared.kind.Kind.{Kind}
use Rattle.number_columns.specs.declared.kind.Kind.TheVariants.{Number}
use Rattle.size_chains.proofs.Keeping.{last_rows_are_stated}
use Rattle.termination_model.proofs.ChainSieves.{all_of}
use Rattle.termination_model.specs.columns.ColumnClaims.{atom_row, numbers_of}
use Rattle.termination_model.specs.columns.ColumnRows.{or_zeros}
use Rattle.termination_model.specs.columns.Measures.{stated_rows as stated_values}
use Rattle.termination_model.specs.sizes.ShortSystems.{short_row}
use Rattle.termination_model.specs.sizes.Stated.{stated_rows}
use Rattle.column_systems.specs.ColumnSystems.{column_systems}
use Rattle.column_systems.specs.Laws.{KindsAreNumbers, NormsAreFew, NumbersAreEvaluated, RowsAreShort, RowsAreStated, SizesAreOfColumns, SystemsAreOfClaims, ThreeAreFew}

pub systems_are_of_claims : SystemsAreOfClaims
systems_are_of_claims c k [] = refl
systems_are_of_claims c k (b ∷ bs) = ap (λ (s : List (List ℤ)). map (λ r. or_zeros (numbers_of c k.vars) (atom_row c k.vars b r)) (c.rows b.pred.0) ++ s) (systems_are_of_claims c k bs)

pub rows_are_short : RowsAreShort
rows_are_short c k x is = is.body ∙ ap (map short_row) (systems_are_of_claims c k k.body)

pub sizes_are_of_columns : SizesAreOfColumns
sizes_are_of_columns m kinds preds rows are = record {
  each = are.each;
  width = λ q r at. let h = are.width q r at in subst (λ (n : ℕ). HaveWidth n r.list) (sym h.0) h.1;
}

pub rows_are_stated : RowsAreStated
rows_are_stated speaks p comps steps c prog chain q b is kinds =
    let same = last_rows_are_stated speaks (column_systems c.columns c.kinds) p comps steps c.rows prog chain q b is in
    record {
      kinds = kinds;
      rows = all_of (λ (r : List ℤ). In r (c.columns.stated b)) (c.rows q) (λ r i. subst (In r) same i);
    }

two_of : (xs : List Kind) → length xs ≡ 2 → ((i : ℕ) (k : Kind) → i < 2 → slice_get xs i ≡ Some k → k ≡ Number) → xs ≡ Number ∷ (Number ∷ [])
two_of [] l h = absurd (omega (arith, l))
two_of (x ∷ []) l h = absurd (omega (arith, l))
two_of (x ∷ (y ∷ [])) l h = let first = h 0 x (omega arith) refl in let second = h 1 y (omega arith) refl in λ i. first i ∷ (second i ∷ [])
two_of (x ∷ (y ∷ (z ∷ zs))) l h = absurd (omega (arith, l))

pub kinds_are_numbers : KindsAreNumbers
kinds_are_numbers p kinds prog are q b is = go (slice_get p.preds q) refl (prog.binary q b is)
  where
    go : (o : Option Pred) → slice_get p.preds q ≡ o → IsSomeAnd o (λ d. d.arity ≡ 2) → kinds_at kinds q ≡ Number ∷ (Number ∷ [])
    go None e h = absurd h
    go (Some d) e h =
        two_of (kinds_at kinds q) (are.have.arity q d e ∙ h) (λ i k lt at. (are.exact q i k at).1 (λ s closed. closed.builtin q b is i lt))

pub numbers_are_evaluated : NumbersAreEvaluated
numbers_are_evaluated p m count kinds numbers evaluated q b is = ap (map count) (numbers q b is) ∙ sym evaluated

pub three_are_few : ThreeAreFew
three_are_few o = record { size = omega arith; number = omega arith; stated = stated_three }
  where
    stated_three : (b : Builtin) → AllByRecursion (λ (r : List ℤ). (length r ≡ 7) × (row_fits r ≡ true)) (stated_values b)
    stated_three Is = ((refl, refl), ((refl, refl), ((refl, refl), ((refl, refl), ((refl, refl), tt)))))
    stated_three Equal = ((refl, refl), ((refl, refl), tt))
    stated_three NotEqual = tt
    stated_three Less = ((refl, refl), tt)
    stated_three AtMost = ((refl, refl), tt)
    stated_three Greater = ((refl, refl), tt)
    stated_three AtLeast = ((refl, refl), tt)

pub norms_are_few : NormsAreFew
norms_are_few size expression = record { size = omega arith; number = omega arith; stated = stated_one }
  where
    stated_one : (b : Builtin) → AllByRecursion (λ (r : List ℤ). (length r ≡ 3) × (row_fits r ≡ true)) (stated_rows b)
    stated_one Is = ((refl, refl), tt)
    stated_one Equal = tt
    stated_one NotEqual = tt
    stated_one Less = tt
    stated_one AtMost = tt
    stated_one Greater = tt
    stated_one AtLeast = tt
