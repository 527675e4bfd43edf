-- To believe, for the command.
-- Which fact of a certificate is the first at fault, and why: where the structure is right, the first that claims what
-- does not hold.
--
-- To believe: all of this file, where the fault that is named is to be the first one.
use Rattle.std.specs.Prelude.{◌≡◌, ℕ, ◌-◌, ◌<◌, ◌≤◌, ℤ, Bool, false, List, length, take, slice_get, Option, Some}
use Rattle.call_components.specs.Partition.{AreComponents, IsIn, Partition}
use Rattle.certificate.specs.declared.fact.Fact.{Fact}
use Rattle.certificate.specs.declared.fact.Fact.TheVariants as fact
use Rattle.certificate.specs.declared.pred_text.PredText.{PredText}
use Rattle.cert_structure.specs.Order.{pred_text}
use Rattle.cert_structure.specs.Structure.{IsStructured}
use Rattle.cert_structure.specs.declared.parts.Parts.{Parts}
use Rattle.fact_reading.specs.declared.stop.StructureReason.{StructureReason}
use Rattle.cert_modes.specs.Failing.{ModesFail}
use Rattle.cert_modes.specs.declared.fault.ModeReason.{ModeReason}
use Rattle.cti_terms.specs.Arithmetic.{kind_of}
use Rattle.cti_terms.specs.Listing.{Listing, numbered}
use Rattle.cti_terms.specs.Tree.{Tree}
use Rattle.cti_terms.specs.declared.atom_list.Atom.{Atom}
use Rattle.cti_terms.specs.declared.builtins.Builtin.{Builtin}
use Rattle.cti_terms.specs.declared.clauses.Clause.{Clause}
use Rattle.linear_rows.specs.Members.{In}
use Rattle.linear_rows.specs.declared.point.Point.{Point}
use Rattle.linear_rows.specs.declared.row.Rows.{Rows}
use Rattle.number_tests.specs.Failing.{MultipliersFail, PointFails, SumsFail}
use Rattle.number_tests.specs.Proved.{fall_of}
use Rattle.number_tests.specs.Shape.{list_at}
use Rattle.number_tests.specs.declared.flaw.Flaw.{Flaw}
use Rattle.number_tests.specs.declared.flaw.Flaw.TheVariants as flaw
use Rattle.number_tests.specs.declared.level_part.LevelPart.{LevelPart}
use Rattle.number_tests.specs.declared.refutation.Refutation.{Refutation}
use Rattle.term_size.specs.AnyNorm.{any_row, any_truth}
use Rattle.termination_model.specs.sizes.Sizes.{rows_of}
use Rattle.termination_model.specs.sizes.Stated.{stated_rows}
use Rattle.termination_model.specs.sizes.Systems.{row_over}
use Rattle.termination_model.specs.sizes.ShortSystems.{short_system}
use Rattle.cert_checker.specs.ModeFaults.{mode_reason}
use Rattle.cert_checker.specs.Norms.{norm_in}
use Rattle.cert_checker.specs.Proved.{IsZero}
use Rattle.cert_checker.specs.Shape.{AreTogether}
use Rattle.cert_checker.specs.StructureFaults.{HasStructureFault, structure_reason}
use Rattle.cert_checker.specs.declared.reason.Reason.{Reason}
use Rattle.cert_checker.specs.declared.reason.Reason.TheVariants as reason

-- the number of a reason
abbrev pub reason_number : Reason → ℕ
reason_number reason.Version = 1
reason_number reason.Missing = 2
reason_number reason.Extra = 3
reason_number reason.Shape = 4
reason_number reason.SizeRow = 5
reason_number reason.Measure = 6
reason_number reason.Ground = 7
reason_number reason.Precondition = 8
reason_number reason.Mode = 9
reason_number reason.Refutation = 10
reason_number reason.Wide = 11

-- why numbers fail: the given reason, or that one does not fit
abbrev pub reason_of : Flaw → Reason → Reason
reason_of flaw.Fails failing = failing
reason_of flaw.Wide failing = reason.Wide

module _ (expression : ℕ → Tree → List ℤ) (p : Listing) where
  -- the multipliers of a clause, counted from 1, do not show that it keeps a size row of its head
  pub record RowFails (rows : List Rows) (k i : ℕ) (ms : List ℤ) (scale : ℤ) (why : Reason) : Type 0 where
    pub clause : Clause
    pub there : numbered p.clauses k ≡ Some clause
    pub row : List ℤ
    pub row_there : numbered (rows_of rows clause.head.pred.0) i ≡ Some row
    pub flaw : Flaw
    pub fails : MultipliersFail (short_system expression (rows_of rows) clause.vars clause.body) ms (row_over expression clause.vars clause.head.args row) scale flaw
    pub why_is : why ≡ reason_of flaw reason.SizeRow

  -- the multipliers of a call to the clause's own component do not show that a mapping falls from the head to it
  pub record FallFails (comps : Partition) (rows : List Rows) (levels : List (List LevelPart)) (k j m : ℕ) (ms : List ℤ) (scale : ℤ) (why : Reason) : Type 0 where
    pub clause : Clause
    pub there : numbered p.clauses k ≡ Some clause
    pub call : Atom
    pub call_there : numbered clause.body j ≡ Some call
    pub own : AreTogether comps clause.head.pred.0 call.pred.0
    pub head_part : LevelPart
    pub head_there : numbered (list_at levels clause.head.pred.0) m ≡ Some head_part
    pub call_part : LevelPart
    pub part_there : numbered (list_at levels call.pred.0) m ≡ Some call_part
    pub flaw : Flaw
    pub fails : MultipliersFail (short_system expression (rows_of rows) clause.vars (take (j - 1) clause.body)) ms (fall_of expression clause call head_part call_part) scale flaw
    pub why_is : why ≡ reason_of flaw reason.Measure

  -- some row of the atoms before a call does not hold at a point
  pub record RowsFailAt (rows : List Rows) (k j : ℕ) (x : Point) (why : Reason) : Type 0 where
    pub clause : Clause
    pub there : numbered p.clauses k ≡ Some clause
    pub flaw : Flaw
    pub fails : PointFails expression (rows_of rows) clause (j - 1) x flaw
    pub why_is : why ≡ reason_of flaw reason.Refutation

module _ (p : Listing) (names : List (List ℕ)) where
  -- the predicate of a text
  abbrev pub IsNamed : PredText → ℕ → Type 0
  IsNamed text q = (q < length p.preds) × (text ≡ pred_text p names q)

  -- a size row of a built-in predicate is none of those that are stated of it
  pub record RowIsForeign (text : PredText) (row : List ℤ) (why : Reason) : Type 0 where
    pub q : ℕ
    pub named : IsNamed text q
    pub kind : Builtin
    pub builtin : kind_of p.arithmetic q ≡ Some kind
    pub foreign : ¬ In row (stated_rows kind)
    pub why_is : why ≡ reason.SizeRow

  -- a mapping of a component that is not recursive is not 0
  pub record MeasureFails (comps : Partition) (text : PredText) (l : LevelPart) (why : Reason) : Type 0 where
    pub q : ℕ
    pub named : IsNamed text q
    pub c : ℕ
    pub is_in : IsIn comps c q
    pub none : slice_get comps.recursive c ≡ Some false
    pub not_zero : ¬ IsZero l
    pub why_is : why ≡ reason.Measure

  -- the sums of a refutation refute nothing
  pub record RefutationFails (expression : ℕ → Tree → List ℤ) (comps : Partition) (refutations : List (Option Refutation)) (text : PredText) (why : Reason) : Type 0 where
    pub q : ℕ
    pub named : IsNamed text q
    pub r : Refutation
    pub there : slice_get refutations q ≡ Some (Some r)
    pub c : ℕ
    pub is_in : IsIn comps c q
    pub members : List ℕ
    pub are_members : slice_get comps.members c ≡ Some members
    pub flaw : Flaw
    pub fails : SumsFail expression p members r.points flaw
    pub why_is : why ≡ reason_of flaw reason.Refutation

  -- the modes of a predicate do not hold
  pub record PredFails (truth : (ℕ → Bool) → Tree → Bool) (comps : Partition) (parts : Parts) (text : PredText) (why : Reason) : Type 0 where
    pub q : ℕ
    pub named : IsNamed text q
    pub mode : ModeReason
    pub fails : ModesFail truth p comps parts q mode
    pub why_is : why ≡ mode_reason mode

  -- what a fact of the parts claims does not hold
  abbrev pub FactFails : ((ℕ → Bool) → Tree → Bool) → (ℕ → Tree → List ℤ) → Partition → Parts → Fact → Reason → Type 0
  FactFails truth expression comps parts (fact.Terminates text modes) why = PredFails truth comps parts text why
  FactFails truth expression comps parts (fact.Size text i row) why = RowIsForeign text row why
  FactFails truth expression comps parts (fact.By k i scale ms) why = RowFails expression p parts.rows k i ms scale why
  FactFails truth expression comps parts (fact.Measure text m coeffs offset) why = MeasureFails comps text (record { coeffs = coeffs; offset = offset }) why
  FactFails truth expression comps parts (fact.Falls k j m scale ms) why = FallFails expression p comps parts.rows parts.levels k j m ms scale why
  FactFails truth expression comps parts (fact.Refuted text n) why = RefutationFails expression comps parts.refutations text why
  FactFails truth expression comps parts (fact.Point k j t w) why = RowsFailAt expression p parts.rows k j (record { t = t; w = w }) why
  FactFails truth expression comps parts (fact.At k j t w) why = RowsFailAt expression p parts.rows k j (record { t = t; w = w }) why
  FactFails truth expression comps parts _ why = ⊥

-- the same by the norm of the parts
abbrev pub ClaimFails : Listing → List (List ℕ) → Partition → Parts → Fact → Reason → Type 0
ClaimFails p names comps parts = FactFails p names (any_truth (norm_in names parts.norm)) (any_row (norm_in names parts.norm)) comps parts

-- the first of the facts that fails, counted from 0, and the smallest reason why
pub record IsFirstAt (Fails : Fact → Reason → Type 0) (facts : List Fact) (n : ℕ) (why : Reason) : Type 0 where
  pub fact : Fact
  pub there : slice_get facts n ≡ Some fact
  pub fails : Fails fact why
  pub smallest : (other : Reason) → Fails fact other → reason_number why ≤ reason_number other
  pub earlier : (i : ℕ) (f : Fact) (other : Reason) → i < n → slice_get facts i ≡ Some f → ¬ Fails f other

-- the fact of this line, counted from 1, is the first one that claims what does not hold, and this is why
pub record IsValueFault (p : Listing) (names : List (List ℕ)) (facts : List Fact) (line : ℕ) (why : Reason) : Type 0 where
  pub comps : Partition
  pub components : AreComponents p comps
  pub parts : Parts
  pub structured : IsStructured p names comps parts facts
  pub counted : 1 ≤ line
  pub first : IsFirstAt (ClaimFails p names comps parts) facts (line - 1) why

-- the first fault of a certificate: its structure is wrong at this line, or else the fact of the line claims what does
-- not hold
pub data IsFault (p : Listing) (names : List (List ℕ)) (facts : List Fact) (line : ℕ) : Reason → Type 0 where
  wrong_structure : (why : StructureReason) → HasStructureFault p names facts line why → IsFault p names facts line (structure_reason why)
  failing_fact : (why : Reason) → IsValueFault p names facts line why → IsFault p names facts line why
