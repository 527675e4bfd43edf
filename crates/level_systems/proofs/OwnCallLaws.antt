-- A call that the code has collected is held.
use Rattle.std.proofs.Common.{◌≡◌, ℕ, zero, suc, ◌-◌, ◌<◌, ◌≤ℤ◌, ◌||◌, not, ℤ, pos, Bool, true, false, IsTrue, List, [], ◌∷◌, map, take, drop, length, slice_get, slice_index_or, Some, inl, inr, refl, ap, sym, subst, ◌∙◌, arith}
use Rattle.std.specs.Prelude.{All}
use Rattle.std.specs.List.{AllByRecursion}
use Rattle.exact128.specs.Sums.{entry}
use Rattle.cti_terms.specs.Listing.{Listing}
use Rattle.cti_terms.specs.Tree.{Tree, is_below}
use Rattle.cti_terms.specs.declared.atom_list.Atom.{Atom}
use Rattle.cti_terms.specs.declared.clauses.Clause.{Clause}
use Rattle.linear_rows.specs.Irredundant.{TestIsBlown}
use Rattle.linear_rows.specs.Members.{In}
use Rattle.linear_rows.specs.Showing.{bottom_row}
use Rattle.linear_rows.specs.Plain.{plain_row, plain_rows}
use Rattle.linear_rows.specs.declared.row.Row.{Row}
use Rattle.linear_rows.specs.declared.row.Rows.{Rows}
use Rattle.number_tests.specs.Refuting.{atom_or_none, clause_or_none}
use Rattle.term_size.specs.Norm.{IsNorm}
use Rattle.termination_model.specs.sizes.Sizes.{wide_rows}
use Rattle.termination_model.specs.sizes.Systems.{row_fits, system}
use Rattle.termination_model.specs.sizes.ShortSystems.{short_row}
use Rattle.termination_model.proofs.Naturals.{sizes_are_natural}
use Rattle.level_systems.specs.Held.{AreSizes, IsGivenUp, IsHeldAs, IsHeldBy}
use Rattle.level_systems.specs.Pairs.{call_at, clause_at}
use Rattle.level_systems.specs.declared.own_call.OwnCall.{OwnCall}
use Rattle.level_systems.proofs.Falls.{short_same}

-- ---- rows that fit
not_false : (a b : Bool) → (not a || b) ≡ false → a ≡ true
not_false true b h = refl
not_false false b h = cc

rest_false : (a b : Bool) → (not a || b) ≡ false → b ≡ false
rest_false true b h = h
rest_false false b h = cc

pub narrow_fit : (rs : List (List ℤ)) → wide_rows rs ≡ false → (r : List ℤ) → In r rs → row_fits r ≡ true
narrow_fit [] e r i = absurd i
narrow_fit (x ∷ rs) e r (inl s) = subst (λ (y : List ℤ). row_fits y ≡ true) s (not_false (row_fits x) (wide_rows rs) e)
narrow_fit (x ∷ rs) e r (inr i) = narrow_fit rs (rest_false (row_fits x) (wide_rows rs) e) r i

pub narrow_same : (rs : List (List ℤ)) → wide_rows rs ≡ false → map short_row rs ≡ rs
narrow_same rs e = short_same rs (narrow_fit rs e)

pub wide_row : (rs : List (List ℤ)) → wide_rows rs ≡ true → (r : List ℤ) × In r rs × (row_fits r ≡ false)
wide_row [] e = cc
wide_row (x ∷ rs) e = go (row_fits x) refl e (wide_row rs)
  where
    go : (b : Bool) → row_fits x ≡ b → (not b || wide_rows rs) ≡ true → (wide_rows rs ≡ true → (r : List ℤ) × In r rs × (row_fits r ≡ false)) → (r : List ℤ) × In r (x ∷ rs) × (row_fits r ≡ false)
    go true s h rec = let w = rec h in (w.0, inr w.1, w.2)
    go false s h rec = (x, inl refl, s)

-- ---- sizes are natural
module _ (size : (ℕ → ℕ) → Tree → ℕ) (truth : (ℕ → Bool) → Tree → Bool) (expression : ℕ → Tree → List ℤ) (norm : IsNorm size truth expression) (vars : ℕ) where
  natural_rows : (rs : List Row) (ts : List Tree) → AllByRecursion (λ t. IsTrue (is_below vars t)) ts → plain_rows rs ≡ map (expression vars) ts → (x : ℕ) → x < suc vars
      → All (λ (r : Row). (x < length (plain_row r)) × (pos 0 ≤ℤ entry (plain_row r) x)) rs
  natural_rows [] ts below e x lt k d l = absurd (omega arith)
  natural_rows (r ∷ rs) [] below e x lt k d l = let n : suc (length (plain_rows rs)) ≡ 0 = ap length e in absurd (omega (arith, n))
  natural_rows (r ∷ rs) (t ∷ ts) below e x lt zero d l =
      let same : plain_row r ≡ expression vars t = ap (λ (s : List (List ℤ)). slice_index_or s 0 []) e in
      let long : length (plain_row r) ≡ suc vars = ap length same ∙ norm.width vars t in
      (omega (arith, lt, long), subst (λ (row : List ℤ). pos 0 ≤ℤ entry row x) (sym same) (sizes_are_natural size truth expression norm vars t below.0 x))
  natural_rows (r ∷ rs) (t ∷ ts) below e x lt (suc k) d l = natural_rows rs ts below.1 (ap (drop 1) e) x lt k d (omega (arith, l))

  pub are_sizes : (rows : Rows) (ts : List Tree) → AllByRecursion (λ t. IsTrue (is_below vars t)) ts → plain_rows rows.list ≡ map (expression vars) ts → (x : ℕ) → x < suc vars → AreSizes x rows
  are_sizes rows ts below e x lt = natural_rows rows.list ts below e x lt

-- ---- by the numbers of clause and call
module _ (expression : ℕ → Tree → List ℤ) (p : Listing) (rows : ℕ → List (List ℤ)) where
  pub held_as : (k j : ℕ) (clause : Clause) (call : Atom) (own : OwnCall) → own.clause ≡ k → own.call ≡ j → slice_get p.clauses (k - 1) ≡ Some clause → slice_get clause.body (j - 1) ≡ Some call
      → IsHeldBy expression p rows clause call own → IsHeldAs expression p rows k j own
  held_as k j clause call own ek ej there at held =
      let same : clause_at p k ≡ clause = ap clause_or_none there in
      let called : call_at p k j ≡ call = ap (λ (x : Clause). atom_or_none (slice_get x.body (j - 1))) same ∙ ap atom_or_none at in (
        ek,
        ej,
        subst (λ (n : ℕ). IsHeldBy expression p rows (clause_at p n) (call_at p n own.call) own) (sym ek)
            (subst (λ (n : ℕ). IsHeldBy expression p rows (clause_at p k) (call_at p k n) own) (sym ej)
            (subst (λ (x : Clause). IsHeldBy expression p rows x (call_at p k j) own) (sym same) (subst (λ (y : Atom). IsHeldBy expression p rows clause y own) (sym called) held))),
      )

  pub given_up_wide : (k j : ℕ) (clause : Clause) → slice_get p.clauses (k - 1) ≡ Some clause → wide_rows (system expression rows clause.vars (take (j - 1) clause.body)) ≡ true → IsGivenUp expression p rows k j
  given_up_wide k j clause there e =
      let same : clause_at p k ≡ clause = ap clause_or_none there in
      inl (wide_row (system expression rows (clause_at p k).vars (take (j - 1) (clause_at p k).body)) (ap (λ (x : Clause). wide_rows (system expression rows x.vars (take (j - 1) x.body))) same ∙ e))

  pub given_up_blown : (k j : ℕ) (clause : Clause) → slice_get p.clauses (k - 1) ≡ Some clause → TestIsBlown clause.vars (system expression rows clause.vars (take (j - 1) clause.body)) (bottom_row clause.vars) → IsGivenUp expression p rows k j
  given_up_blown k j clause there t =
      let same : clause_at p k ≡ clause = ap clause_or_none there in
      inr (subst (λ (x : Clause). TestIsBlown x.vars (system expression rows x.vars (take (j - 1) x.body)) (bottom_row x.vars)) (sym same) t)
