-- Flaws of multipliers and points: what is shown has none, and nothing has two.
use Rattle.std.specs.Io.Iter.{u64_saturate}
use Rattle.std.proofs.Common.{◌≡◌, inl, inr, ℕ, suc, ◌<◌, ◌≤◌, ℤ, Bool, true, false, List, [], ◌∷◌, map, length, slice_get, Some, refl, sym, ap, subst, ◌∙◌, arith}
use Rattle.std.proofs.lemmas.Bool.{cases_lt}
use Rattle.std.proofs.lemmas.Int.{ints}
use Rattle.linear_rows.specs.Proves.{AllColumnsFit, ColumnFits, Proves}
use Rattle.std.proofs.Math.Seq.{take-length}
use Rattle.cti_terms.specs.Listing.{Listing}
use Rattle.cti_terms.specs.Tree.{Tree}
use Rattle.cti_terms.specs.declared.clauses.Clause.{Clause}
use Rattle.cert_structure.specs.Order.{by_line}
use Rattle.linear_rows.specs.Plain.{plain_row, plain_rows}
use Rattle.linear_rows.specs.Showing.{IsShown}
use Rattle.linear_rows.specs.Verdict.{FirstSays}
use Rattle.linear_rows.specs.declared.multipliers.Multipliers.{Multipliers}
use Rattle.linear_rows.specs.declared.multipliers.Proof.TheVariants as proof
use Rattle.linear_rows.specs.declared.row.Row.{Row}
use Rattle.linear_rows.specs.declared.row.Rows.{Rows}
use Rattle.linear_rows.specs.declared.system.System.{System}
use Rattle.number_tests.proofs.ColumnLengths.{an_element}
use Rattle.number_tests.proofs.RowSteps.{head_columns}
use Rattle.number_tests.specs.Failing.{MultipliersFail, fails, wide, wide_target}
use Rattle.number_tests.specs.Proved.{RowIsKept}
use Rattle.number_tests.specs.Systems.{IsSystemUpTo}
use Rattle.number_tests.specs.declared.flaw.Flaw.{Flaw}
use Rattle.number_tests.specs.declared.flaw.Flaw.TheVariants as flaw
use Rattle.term_size.specs.Norm.{IsNorm}
use Rattle.termination_model.proofs.Lists.{one_element, place_below}
use Rattle.termination_model.proofs.RowColumns.{columns_replace}
use Rattle.termination_model.proofs.SystemLaws.{widths}
use Rattle.termination_model.specs.sizes.Replacing.{AreColumns, over_columns}
use Rattle.termination_model.specs.sizes.Sizes.{rows_of}
use Rattle.termination_model.specs.sizes.Systems.{row_fits, row_over}
use Rattle.termination_model.specs.sizes.ShortSystems.{short_system}
use Rattle.cert_checker.specs.Fault.{RowFails, reason_number, reason_of}
use Rattle.cert_checker.specs.Finding.{ByFails, Finds, NoneFails}
use Rattle.cert_checker.specs.declared.fault.Fault.{Fault}
use Rattle.cert_checker.specs.declared.reason.Reason.{Reason}
use Rattle.cert_checker.specs.declared.reason.Reason.TheVariants as reason
use Rattle.cert_checker.proofs.FindLaws.{finds_fact}

module _ (rows : List (List ℤ)) (ms target : List ℤ) (scale : ℤ) where
  -- the first column that does not hold says one thing
  apart : FirstSays rows ms target scale proof.Wide → FirstSays rows ms target scale proof.Fails → ⊥
  apart (k, lt, before, unfit) (j, less, earlier, under) = elim (cases_lt k j) [
    | inl first ↦ unfit (earlier k first).0
    | inr later ↦ elim (cases_lt j k) [
      | inl last ↦ (let holds = (before j last).1 in let below = under.1 in omega (arith, ints, holds, below))
      | inr same ↦ (let is : j ≡ k = omega (arith, later, same) in unfit (subst (λ (i : ℕ). ColumnFits rows ms target scale i) is under.0))
    ]
  ]

  -- what is shown does not fail
  pub shown_holds : (by : Multipliers) → by.list ≡ ms → by.scale ≡ scale → IsShown rows target by → (f : Flaw) → ¬ MultipliersFail rows ms target scale f
  shown_holds by list scaled shown f failing =
      let fit : row_fits target ≡ true = shown.target_fits in
      let numbers = subst (λ (s : ℤ). AllColumnsFit rows ms target s) scaled (subst (λ (l : List ℤ). AllColumnsFit rows l target by.scale) list shown.numbers_fit) in
      let proves = subst (λ (s : ℤ). Proves rows ms target s) scaled (subst (λ (l : List ℤ). Proves rows l target by.scale) list shown.proves) in
      never fit numbers proves f failing
    where
      never : row_fits target ≡ true → AllColumnsFit rows ms target scale → Proves rows ms target scale → (f : Flaw) → ¬ MultipliersFail rows ms target scale f
      never fit numbers proves flaw.Wide (wide_target too_wide) = let both : false ≡ true = sym too_wide ∙ fit in cc
      never fit numbers proves flaw.Wide (wide fitting (k, lt, before, too_wide)) = too_wide (numbers k lt)
      never fit numbers proves flaw.Fails (fails fitting (k, lt, before, below)) = let holds = proves k lt in let under = below.1 in omega (arith, ints, holds, under)

  pub one_flaw : (f g : Flaw) → MultipliersFail rows ms target scale f → MultipliersFail rows ms target scale g → f ≡ g
  one_flaw flaw.Wide flaw.Wide a b = refl
  one_flaw flaw.Fails flaw.Fails a b = refl
  one_flaw flaw.Wide flaw.Fails (wide_target too_wide) (fails fitting says) = let both : false ≡ true = sym too_wide ∙ fitting in cc
  one_flaw flaw.Wide flaw.Fails (wide fit says) (fails fitting other) = absurd (apart says other)
  one_flaw flaw.Fails flaw.Wide (fails fitting says) (wide_target too_wide) = let both : false ≡ true = sym too_wide ∙ fitting in cc
  one_flaw flaw.Fails flaw.Wide (fails fitting other) (wide fit says) = absurd (apart says other)

-- reasons that are equal have one number
pub same_number : (a b : Reason) → a ≡ b → reason_number a ≤ reason_number b
same_number a b e = let n = ap reason_number e in omega (arith, n)

-- a row of a clause's head over the clause's variables, and the system, as the code has them
module _ (size : (ℕ → ℕ) → Tree → ℕ) (truth : (ℕ → Bool) → Tree → Bool) (expression : ℕ → Tree → List ℤ) (norm : IsNorm size truth expression) where
  pub row_moved : (T : List (List ℤ) → List ℤ → Type 0) (sizes : List Rows) (c : Clause) (s : System) (columns : List (List ℤ)) (row : Row)
      → IsSystemUpTo expression (rows_of sizes) c (length c.body) s → AreColumns (plain_rows s.head.list) s.head.width columns
      → T (plain_rows s.rows.list) (over_columns columns (plain_row row)) → T (short_system expression (rows_of sizes) c.vars c.body) (row_over expression c.vars c.head.args (plain_row row))
  row_moved T sizes c s columns row is are told =
      let own = head_columns size truth expression norm (rows_of sizes) c (length c.body) s columns is are in
      let same : over_columns columns (plain_row row) ≡ row_over expression c.vars c.head.args (plain_row row) =
      columns_replace c.vars (map (expression c.vars) c.head.args) columns (plain_row row) (widths size truth expression norm c.vars c.head.args) own in
      let rows : plain_rows s.rows.list ≡ short_system expression (rows_of sizes) c.vars c.body = is.rows ∙ ap (short_system expression (rows_of sizes) c.vars) (take-length c.body) in
      subst (λ (rs : List (List ℤ)). T rs (row_over expression c.vars c.head.args (plain_row row))) rows (subst (T (plain_rows s.rows.list)) same told)

module _ (expression : ℕ → Tree → List ℤ) (p : Listing) (rows : List Rows) (k i : ℕ) (c : Clause) (at : slice_get p.clauses k ≡ Some c)
    (row : List ℤ) (there : slice_get (rows_of rows c.head.pred.0) i ≡ Some row) (by : Multipliers) where
  -- why the multipliers of this clause and this row fail
  row_fails : (why : Reason) → RowFails expression p rows (suc k) (suc i) by.list by.scale why
      → (f : Flaw) × MultipliersFail (short_system expression (rows_of rows) c.vars c.body) by.list (row_over expression c.vars c.head.args row) by.scale f × (why ≡ reason_of f reason.SizeRow)
  row_fails why fault =
      let clause : fault.clause ≡ c = one_element p.clauses k fault.clause c fault.there at in
      let own : slice_get (rows_of rows c.head.pred.0) i ≡ Some fault.row = subst (λ (x : Clause). slice_get (rows_of rows x.head.pred.0) i ≡ Some fault.row) clause fault.row_there in
      let same : fault.row ≡ row = one_element (rows_of rows c.head.pred.0) i fault.row row own there in (
        fault.flaw,
        subst (λ (r : List ℤ). MultipliersFail (short_system expression (rows_of rows) c.vars c.body) by.list (row_over expression c.vars c.head.args r) by.scale fault.flaw) same
            (subst (λ (x : Clause). MultipliersFail (short_system expression (rows_of rows) x.vars x.body) by.list (row_over expression x.vars x.head.args fault.row) by.scale fault.flaw) clause fault.fails),
        fault.why_is,
      )

  kept_row : RowIsKept expression rows c row by → NoneFails (ByFails expression p rows) (by_line k i by ∷ [])
  kept_row kept = (
    λ why fault.
        let (f, failing, is) = row_fails why fault in
        shown_holds (short_system expression (rows_of rows) c.vars c.body) by.list (row_over expression c.vars c.head.args row) by.scale by refl refl kept f failing,
    tt,
  )

  pub failing_row : (f : Flaw) → MultipliersFail (short_system expression (rows_of rows) c.vars c.body) by.list (row_over expression c.vars c.head.args row) by.scale f
      → (fault : Fault) → fault.reason ≡ reason_of f reason.SizeRow → fault.line ≡ u64_saturate fault.line → Finds (ByFails expression p rows) fault.line (by_line k i by ∷ []) (Some fault)
  failing_row f failing fault because line =
      finds_fact (ByFails expression p rows) fault.line (by_line k i by) fault line
      (record { clause = c; there = at; row = row; row_there = there; flaw = f; fails = failing; why_is = because })
      (λ other also.
      let (g, others, is) = row_fails other also in
      let same : f ≡ g = one_flaw (short_system expression (rows_of rows) c.vars c.body) by.list (row_over expression c.vars c.head.args row) by.scale f g failing others in
      same_number fault.reason other (because ∙ ap (λ (x : Flaw). reason_of x reason.SizeRow) same ∙ sym is))

-- rows that are kept, up to a place, do not fail
pub kept_before : (expression : ℕ → Tree → List ℤ) (p : Listing) (rows : List Rows) (k : ℕ) (c : Clause) → slice_get p.clauses k ≡ Some c → (ms : List Multipliers) (n : ℕ) → length ms ≡ length (rows_of rows c.head.pred.0)
    → ((i : ℕ) → i < n → (row : List ℤ) (by : Multipliers) → slice_get (rows_of rows c.head.pred.0) i ≡ Some row → slice_get ms i ≡ Some by → RowIsKept expression rows c row by)
    → (i : ℕ) → i < n → (by : Multipliers) → slice_get ms i ≡ Some by → NoneFails (ByFails expression p rows) (by_line k i by ∷ [])
kept_before expression p rows k c at ms n count kept i lt by e =
    let (row, there) = an_element (rows_of rows c.head.pred.0) i (omega (arith, place_below ms i by e, count)) in
    kept_row expression p rows k i c at row there by (kept i lt row by there e)
