-- What has no reason to fail holds: multipliers, points, sums of refutations, and the modes of a predicate.
use Rattle.std.proofs.Common.{◌≡◌, ◌<◌, ◌≤◌, ◌≤ℤ◌, inl, inr, ℕ, zero, suc, ◌*ℤ◌, ℤ, pos, Bool, true, false, IsTrue, List, [], ◌∷◌, take, length, unsigned_abs, ◌^◌, refl, subst, arith}
use Rattle.std.proofs.lemmas.Bool.{cases_lt}
use Rattle.std.proofs.lemmas.Int.{by_lt_z, ints}
use Rattle.std.specs.List.{AllByRecursion}
use Rattle.call_components.specs.Partition.{Partition}
use Rattle.cert_modes.specs.Failing.{Admits, Closes, KeepsPreconditions, ModesFail, PredHolds}
use Rattle.cert_modes.specs.Modes.{allowed, coefficients_of}
use Rattle.cert_modes.specs.declared.fault.ModeReason.{ModeReason}
use Rattle.cert_modes.specs.declared.fault.ModeReason.TheVariants as mode
use Rattle.cert_structure.specs.Shape.{arity_in, items_of}
use Rattle.cert_structure.specs.declared.parts.Parts.{Parts}
use Rattle.cti_terms.specs.Listing.{Listing}
use Rattle.cti_terms.specs.Tree.{Tree}
use Rattle.cti_terms.specs.declared.clauses.Clause.{Clause}
use Rattle.exact128.specs.Fits.{Fits}
use Rattle.exact128.specs.Sums.{DotFits, dot, entry}
use Rattle.linear_rows.specs.Proves.{ColumnFits, goal_number, rest_number}
use Rattle.linear_rows.specs.Rows.{column}
use Rattle.linear_rows.specs.Showing.{IsShown}
use Rattle.linear_rows.specs.Verdict.{ColumnSays}
use Rattle.linear_rows.specs.declared.multipliers.Multipliers.{Multipliers}
use Rattle.linear_rows.specs.declared.multipliers.Proof.TheVariants as proof
use Rattle.linear_rows.specs.declared.point.Point.{Point}
use Rattle.number_tests.specs.Failing.{MultipliersFail, PointFails, RowsFit, SumsFail, fails, fails_point, fails_sums, wide, wide_point, wide_sums, wide_target}
use Rattle.number_tests.specs.Refuting.{PairFits, PairsFit, RowHolds, RowsHold, SumsFit, SumsRefute, ValueFits, call_loads, call_of, clause_of, head_loads, numbers_of, sizes_at}
use Rattle.number_tests.specs.declared.flaw.Flaw.{Flaw}
use Rattle.number_tests.specs.declared.flaw.Flaw.TheVariants as flaw
use Rattle.number_tests.specs.declared.pair_point.PairPoint.{PairPoint}
use Rattle.termination_model.specs.claims.Claims.{SomeOf}
use Rattle.termination_model.specs.claims.Descent.{mode_row}
use Rattle.termination_model.specs.mappings.Refutation.{Load, gather}
use Rattle.termination_model.specs.sizes.Rows.{Covers}
use Rattle.termination_model.specs.sizes.Systems.{row_fits, system}
use Rattle.cert_checker.proofs.Stable.{IsStable, some_or_none, stable_all, stable_at_most, stable_both, stable_less, stable_true}

stable_fits : (z : ℤ) → IsStable (Fits z)
stable_fits z = stable_less (unsigned_abs z) (2 ^ 127)

stable_dot : (n : ℕ) (xs ys : List ℤ) → IsStable (DotFits n xs ys)
stable_dot n xs ys h = record {
  products = λ k lt. stable_fits (entry xs k *ℤ entry ys k) (λ no. h (λ d. no (d.products k lt)));
  sums = λ k le. stable_fits (dot (take k xs) (take k ys)) (λ no. h (λ d. no (d.sums k le)));
}

-- multipliers show a target where no column of it, and no number of it, is at fault
module _ (rows : List (List ℤ)) (by : Multipliers) (target : List ℤ) (none : (f : Flaw) → ¬ MultipliersFail rows by.list target by.scale f) where
  stable_column : (k : ℕ) → IsStable (ColumnFits rows by.list target by.scale k)
  stable_column k h = record {
    sums = stable_dot (length rows) by.list (column rows k) (λ no. h (λ d. no d.sums));
    goal = stable_fits (goal_number by.scale target k) (λ no. h (λ d. no d.goal));
    rest = stable_fits (rest_number rows by.list target by.scale k) (λ no. h (λ d. no d.rest));
  }

  target_fits : row_fits target ≡ true
  target_fits = which (row_fits target) refl
    where
      which : (b : Bool) → row_fits target ≡ b → row_fits target ≡ true
      which true e = e
      which false e = absurd (none flaw.Wide (wide_target e))

  abbrev Says : ℕ → Type 0
  Says k = ColumnSays rows by.list target by.scale proof.Holds k

  next_column : (n : ℕ) → n < length target → ((k : ℕ) → k < n → Says k) → Says n
  next_column n lt earlier =
      let fit = stable_column n (λ unfit. none flaw.Wide (wide target_fits (n, lt, earlier, unfit))) in
      (fit, by_lt_z (rest_number rows by.list target by.scale n) (pos 0) (λ below. absurd (none flaw.Fails (fails target_fits (n, lt, earlier, (fit, below))))) (λ holds. holds))

  each_column : (n : ℕ) → n ≤ length target → (k : ℕ) → k < n → Says k
  each_column zero le k lt = absurd (omega (arith, lt))
  each_column (suc n) le k lt = elim (cases_lt k n) [
    | inl less ↦ each_column n (omega (arith, le)) k less
    | inr most ↦ (let last : n ≡ k = omega (arith, lt, most) in subst Says last (next_column n (omega (arith, le)) (each_column n (omega (arith, le)))))
  ]

  pub shown : IsShown rows target by
  shown = record {
    target_fits = target_fits;
    proves = λ k lt. (each_column (length target) (omega arith) k lt).1;
    numbers_fit = λ k lt. (each_column (length target) (omega arith) k lt).0;
  }

module _ (expression : ℕ → Tree → List ℤ) where
  stable_row : (x : Point) (row : List ℤ) → IsStable (RowHolds x row)
  stable_row x row h = record {
    numbers_fit = stable_true (row_fits row) (λ no. h (λ r. no r.numbers_fit));
    value_fits = stable_dot (length row) row (numbers_of x) (λ no. h (λ r. no r.value_fits));
    holds = stable_at_most (pos 0) (dot row (numbers_of x)) (λ no. h (λ r. no r.holds));
  }

  -- rows hold at a point that is not at fault
  pub rows_unfailing : (rows : ℕ → List (List ℤ)) (c : Clause) (j : ℕ) (x : Point) → ((f : Flaw) → ¬ PointFails expression rows c j x f) → RowsHold expression rows c j x
  rows_unfailing rows c j x none =
      let all = system expression rows c.vars (take j c.body) in
      let fit : RowsFit expression rows c j x =
      stable_all (λ row. (row_fits row ≡ true) × ValueFits x row)
      (λ row. stable_both (row_fits row ≡ true) (ValueFits x row) (stable_true (row_fits row)) (stable_dot (length row) row (numbers_of x))) all (λ unfit. none flaw.Wide (wide_point unfit)) in
      stable_all (RowHolds x) (stable_row x) all (λ no. none flaw.Fails (fails_point fit no))

  module _ (p : Listing) where
    stable_values : (x : Point) (es : List (List ℤ)) → IsStable (AllByRecursion (ValueFits x) es)
    stable_values x = stable_all (ValueFits x) (λ e. stable_dot (length e) e (numbers_of x))

    stable_pair : (x : PairPoint) → IsStable (PairFits expression p x)
    stable_pair x =
        stable_both (AllByRecursion (ValueFits x.point) (sizes_at expression (clause_of p x).head x.point)) (AllByRecursion (ValueFits x.point) (sizes_at expression (call_of p x) x.point))
        (stable_values x.point (sizes_at expression (clause_of p x).head x.point)) (stable_values x.point (sizes_at expression (call_of p x) x.point))

    stable_sums : (hs : List Load) → IsStable (SumsFit hs)
    stable_sums hs h k q = stable_true (row_fits (gather q (take k hs))) (λ no. h (λ sums. no (sums k q)))

    stable_pairs : (xs : List PairPoint) → IsStable (PairsFit expression p xs)
    stable_pairs xs h = record {
      values = stable_all (PairFits expression p) stable_pair xs (λ no. h (λ f. no f.values));
      heads = stable_sums (head_loads expression p xs) (λ no. h (λ f. no f.heads));
      calls = stable_sums (call_loads expression p xs) (λ no. h (λ f. no f.calls));
    }

    abbrev IsPositive : PairPoint → Type 0
    IsPositive x = pos 1 ≤ℤ x.point.t

    stable_positive : (xs : List PairPoint) → IsStable (SomeOf IsPositive xs)
    stable_positive xs h =
        elim (some_or_none IsPositive (λ x. by_lt_z x.point.t (pos 1) (λ below. inr (λ holds. omega (arith, ints, below, holds))) (λ holds. inl holds)) xs) [
          | inl some ↦ some
          | inr none ↦ absurd (h none)
        ]

    -- sums that are not at fault refute
    pub sums_unfailing : (members : List ℕ) (xs : List PairPoint) → ((f : Flaw) → ¬ SumsFail expression p members xs f) → SumsRefute expression p members xs
    sums_unfailing members xs none = record {
      positive = stable_positive xs (λ no. fail (λ sums. no sums.positive));
      fit = fit;
      columns = λ q has i. stable_at_most (entry (gather q (head_loads expression p xs)) i) (entry (gather q (call_loads expression p xs)) i) (λ no. fail (λ sums. no (sums.columns q has i)));
    }
      where
        fit : PairsFit expression p xs
        fit = stable_pairs xs (λ unfit. none flaw.Wide (wide_sums unfit))

        fail : ¬ (¬ SumsRefute expression p members xs)
        fail never = none flaw.Fails (fails_sums fit never)

stable_covers : (cs : List ℕ) (bs : List Bool) → IsStable (Covers cs bs)
stable_covers [] bs h = tt
stable_covers (c ∷ cs) [] h = tt
stable_covers (c ∷ cs) (b ∷ bs) h = (λ lt. stable_true b (λ no. h (λ all. no (all.0 lt))), stable_covers cs bs (λ no. h (λ all. no all.1)))

module _ (truth : (ℕ → Bool) → Tree → Bool) (p : Listing) (comps : Partition) (parts : Parts) (q : ℕ) where
  stable_closes : IsStable (Closes truth p comps parts q)
  stable_closes h = record {
    clauses = λ k c e same v body. stable_true _ (λ no. h (λ closes. no (closes.clauses k c e same v body)));
    builtin = λ b is. stable_true _ (λ no. h (λ closes. no (closes.builtin b is)));
  }

  stable_keeps : IsStable (KeepsPreconditions truth p comps parts q)
  stable_keeps h = record {
    covered = λ m row has. stable_covers (coefficients_of parts.levels m q) row (λ no. h (λ keeps. no (keeps.covered m row has)));
    rule = λ m k c e same v head j b at earlier. stable_true _ (λ no. h (λ keeps. no (keeps.rule m k c e same v head j b at earlier)));
  }

  stable_admits : IsStable (Admits truth p comps parts q)
  stable_admits = stable_all (λ mode. IsTrue (allowed p parts q (mode_row mode 1 (arity_in p q)))) (λ mode. stable_true (allowed p parts q (mode_row mode 1 (arity_in p q)))) (items_of parts.modes q)

  -- the modes of a predicate hold where they do not fail
  pub modes_unfailing : ((m : ModeReason) → ¬ ModesFail truth p comps parts q m) → PredHolds truth p comps parts q
  modes_unfailing none = record { closed = stable_closes (none mode.Ground); keeps = stable_keeps (none mode.Precondition); modes = stable_admits (none mode.Mode) }
