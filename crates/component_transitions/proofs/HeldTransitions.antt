-- A call that the code has collected is held.
use Rattle.std.proofs.Common.{◌≡◌, ℕ, zero, suc, ◌+◌, ◌-◌, ◌*◌, ◌≤◌, ◌||◌, not, ℤ, pos, ◌≤ℤ◌, Bool, true, false, IsTrue, List, [], ◌∷◌, ◌++◌, map, take, length, slice_get, Option, None, Some, inl, inr, refl, ap, sym, subst, ◌∙◌, arith}
use Rattle.std.specs.Prelude.{All, sum}
use Rattle.std.specs.List.{AllByRecursion}
use Rattle.std.specs.Prelude.{IsSomeAnd}
use Rattle.cti_terms.specs.Listing.{Listing, IsAtom}
use Rattle.cti_terms.specs.declared.predicates.Pred.{Pred}
use Rattle.cti_terms.specs.Tree.{Tree, is_below}
use Rattle.cti_terms.specs.declared.atom_list.Atom.{Atom}
use Rattle.cti_terms.specs.declared.builtins.Arith.{Arith}
use Rattle.cti_terms.specs.declared.clauses.Clause.{Clause}
use Rattle.level_systems.proofs.OwnCallLaws.{narrow_same, wide_row}
use Rattle.level_systems.specs.Pairs.{call_at, clause_at}
use Rattle.linear_rows.specs.Irredundant.{TestIsBlown}
use Rattle.linear_rows.specs.Plain.{plain_row}
use Rattle.linear_rows.specs.Replacing.{row_fits}
use Rattle.linear_rows.specs.Showing.{bottom_row}
use Rattle.linear_rows.specs.declared.row.Row.{Row}
use Rattle.number_columns.specs.ColumnLists.{HasLength, HaveKinds, HaveLength, columns_over, counts_at, kinds_at, plain_column}
use Rattle.number_columns.specs.declared.kind.Kind.{Kind}
use Rattle.number_columns.specs.ColumnSystems.{of_sizes, short_rows}
use Rattle.number_columns.proofs.ArgumentLaws.{length_columns}
use Rattle.number_tests.specs.Refuting.{atom_or_none, clause_or_none}
use Rattle.number_turns.specs.Recalled.{IsNatural, column_of}
use Rattle.std.proofs.lemmas.List.{length-map}
use Rattle.termination_model.specs.chains.ChainRows.{HasPoint as HasRowPoint}
use Rattle.transitions.specs.StuckSets.{HasPoint}
use Rattle.transitions.specs.Transitions.{Transition}
use Rattle.termination_model.specs.columns.ColumnClaims.{system}
use Rattle.termination_model.specs.columns.ColumnRows.{or_empty}
use Rattle.termination_model.specs.columns.Columns.{Columns, AreColumns, columns_of, counted}
use Rattle.termination_model.specs.sizes.ShortSystems.{short_row}
use Rattle.termination_model.specs.sizes.Sizes.{wide_rows}
use Rattle.component_transitions.specs.OwnTransitions.{IsGivenUp, IsHeldAs, IsHeldBy, transition_at, transition_of}
use Rattle.component_transitions.specs.declared.own_transition.OwnTransition.{OwnTransition}
use Rattle.component_transitions.proofs.NaturalColumns.{expression_natural}

-- ---- rows that fit
fit_first : (a b : Bool) → (not a || b) ≡ false → (a ≡ true) × (b ≡ false)
fit_first true b h = (refl, h)
fit_first false b h = absurd (cc)

pub narrow_all : (rs : List (List ℤ)) → wide_rows rs ≡ false → AllByRecursion (λ (r : List ℤ). row_fits r ≡ true) rs
narrow_all [] e = tt
narrow_all (x ∷ rs) e = let h = fit_first (row_fits x) (wide_rows rs) e in (h.0, narrow_all rs h.1)

pub short_all : (rs : List (List ℤ)) → wide_rows rs ≡ false → AllByRecursion (λ (r : List ℤ). row_fits r ≡ true) (map short_row rs)
short_all rs e = subst (AllByRecursion (λ (r : List ℤ). row_fits r ≡ true)) (sym (narrow_same rs e)) (narrow_all rs e)

-- ---- columns
pub columns_same : (cs : List (Option Row)) → map column_of cs ≡ map plain_column cs
columns_same [] = refl
columns_same (None ∷ cs) = ap (λ (es : List (Option (List ℤ))). None ∷ es) (columns_same cs)
columns_same (Some r ∷ cs) = ap (λ (es : List (Option (List ℤ))). Some (plain_row r) ∷ es) (columns_same cs)

pub count_over : (m : Columns) (kinds : ℕ → List ℕ) (vars : ℕ) (a : Atom) → length (kinds a.pred.0) ≡ length a.args → length (columns_over m kinds vars a) ≡ sum (kinds a.pred.0)
count_over m kinds vars a l = length_columns (kinds a.pred.0) (map (m.expression vars) a.args) (l ∙ sym (same a.args))
  where
    same : (ts : List Tree) → length (map (m.expression vars) ts) ≡ length ts
    same [] = refl
    same (t ∷ ts) = ap suc (same ts)

pub short_columns : (n : ℕ) (es : List (Option (List ℤ))) → HaveLength n es → AllByRecursion (λ (e : Option (List ℤ)). length (or_empty e) ≤ suc n) es
short_columns n [] h = tt
short_columns n (None ∷ es) h = (omega arith, short_columns n es h.1)
short_columns n (Some e ∷ es) h = let l = h.0 in (omega (arith, l), short_columns n es h.1)

module _ (o : Option Arith) (truth : (ℕ → Bool) → Tree → Bool) (m : Columns) (are : AreColumns o truth m) (vars : ℕ) where
  natural_counted : (t : Tree) → IsTrue (is_below vars t) → (i k : ℕ) → AllByRecursion IsNatural (counted i k (m.expression vars t))
  natural_counted t below i zero = tt
  natural_counted t below i (suc k) = (one (m.expression vars t i) refl, natural_counted t below (suc i) k)
    where
      one : (e : Option (List ℤ)) → m.expression vars t i ≡ e → IsNatural e
      one None is = λ d k l. absurd (omega arith)
      one (Some e) is = expression_natural o truth m are vars t below i e is

  all_append : (es fs : List (Option (List ℤ))) → AllByRecursion IsNatural es → AllByRecursion IsNatural fs → AllByRecursion IsNatural (es ++ fs)
  all_append [] fs h k = k
  all_append (e ∷ es) fs h k = (h.0, all_append es fs h.1 k)

  pub natural_columns : (ks : List ℕ) (ts : List Tree) → AllByRecursion (λ t. IsTrue (is_below vars t)) ts → AllByRecursion IsNatural (columns_of ks (map (m.expression vars) ts))
  natural_columns [] ts below = tt
  natural_columns (k ∷ ks) [] below = tt
  natural_columns (k ∷ ks) (t ∷ ts) below = all_append (counted 0 k (m.expression vars t)) (columns_of ks (map (m.expression vars) ts)) (natural_counted t below.0 0 k) (natural_columns ks ts below.1)

  length_counted_rows : (t : Tree) (i k : ℕ) → HaveLength (vars * m.width) (counted i k (m.expression vars t))
  length_counted_rows t i zero = tt
  length_counted_rows t i (suc k) = (one (m.expression vars t i) refl, length_counted_rows t (suc i) k)
    where
      one : (e : Option (List ℤ)) → m.expression vars t i ≡ e → HasLength (vars * m.width) e
      one None is = tt
      one (Some e) is = (are.expressions vars t i e is).0

  lengths_append : (es fs : List (Option (List ℤ))) → HaveLength (vars * m.width) es → HaveLength (vars * m.width) fs → HaveLength (vars * m.width) (es ++ fs)
  lengths_append [] fs h k = k
  lengths_append (e ∷ es) fs h k = (h.0, lengths_append es fs h.1 k)

  pub lengths_over : (ks : List ℕ) (ts : List Tree) → HaveLength (vars * m.width) (columns_of ks (map (m.expression vars) ts))
  lengths_over [] ts = tt
  lengths_over (k ∷ ks) [] = tt
  lengths_over (k ∷ ks) (t ∷ ts) = lengths_append (counted 0 k (m.expression vars t)) (columns_of ks (map (m.expression vars) ts)) (length_counted_rows t 0 k) (lengths_over ks ts)

-- ---- kinds and points
pub arity_of : (preds : List Pred) (kinds : List (List Kind)) (count : Kind → ℕ) → HaveKinds preds kinds → (vars : ℕ) (a : Atom) → IsAtom preds vars a → length (counts_at count kinds a.pred.0) ≡ length a.args
arity_of preds kinds count have vars a is = length-map (kinds_at kinds a.pred.0) count ∙ go (slice_get preds a.pred.0) refl is.arity
  where
    go : (o : Option Pred) → slice_get preds a.pred.0 ≡ o → IsSomeAnd o (λ d. d.arity ≡ length a.args) → length (kinds_at kinds a.pred.0) ≡ length a.args
    go None e h = absurd h
    go (Some d) e h = have.arity a.pred.0 d e ∙ h

pub point_there : (τ : Transition) → HasRowPoint τ.vars τ.rows → HasPoint τ
point_there τ h = (h.t, h.w, h.some, (h.long, h.hold))

-- ---- by the numbers of clause and call
module _ (m : Columns) (kinds : ℕ → List ℕ) (rows : ℕ → List (List ℤ)) (p : Listing) where
  pub held_as : (k j : ℕ) (clause : Clause) (call : Atom) (own : OwnTransition) → own.clause ≡ k → own.call ≡ j → slice_get p.clauses (k - 1) ≡ Some clause → slice_get clause.body (j - 1) ≡ Some call
      → IsHeldBy m kinds rows p clause call own → IsHeldAs m kinds rows p k j own
  held_as k j clause call own ek ej there at held =
      let same : clause_at p k ≡ clause = ap clause_or_none there in
      let called : call_at p k j ≡ call = ap (λ (x : Clause). atom_or_none (slice_get x.body (j - 1))) same ∙ ap atom_or_none at in (
        ek,
        ej,
        subst (λ (n : ℕ). IsHeldBy m kinds rows p (clause_at p n) (call_at p n own.call) own) (sym ek)
            (subst (λ (n : ℕ). IsHeldBy m kinds rows p (clause_at p k) (call_at p k n) own) (sym ej)
            (subst (λ (x : Clause). IsHeldBy m kinds rows p x (call_at p k j) own) (sym same) (subst (λ (y : Atom). IsHeldBy m kinds rows p clause y own) (sym called) held))),
      )

  pub given_up_wide : (k j : ℕ) (clause : Clause) → slice_get p.clauses (k - 1) ≡ Some clause → wide_rows (system (of_sizes m kinds rows) clause.vars (take (j - 1) clause.body)) ≡ true → IsGivenUp m kinds rows p k j
  given_up_wide k j clause there wide =
      let same : clause_at p k ≡ clause = ap clause_or_none there in
      let w = wide_row (system (of_sizes m kinds rows) (clause_at p k).vars (take (j - 1) (clause_at p k).body)) (ap (λ (x : Clause). wide_rows (system (of_sizes m kinds rows) x.vars (take (j - 1) x.body))) same ∙ wide) in
      inl w

  pub given_up_blown : (k j : ℕ) (clause : Clause) → slice_get p.clauses (k - 1) ≡ Some clause
      → TestIsBlown (clause.vars * m.width) (short_rows m kinds rows clause.vars (take (j - 1) clause.body)) (bottom_row (clause.vars * m.width)) → IsGivenUp m kinds rows p k j
  given_up_blown k j clause there blown =
      let same : clause_at p k ≡ clause = ap clause_or_none there in
      inr (subst (λ (x : Clause). TestIsBlown (x.vars * m.width) (short_rows m kinds rows x.vars (take (j - 1) x.body)) (bottom_row (x.vars * m.width))) (sym same) blown)
