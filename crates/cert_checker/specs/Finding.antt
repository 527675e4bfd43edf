-- Private.
-- What the tests find among facts. Nothing here has to be believed.
use Rattle.std.specs.Io.Iter.{u64_saturate}
use Rattle.std.specs.Prelude.{◌≡◌, ℕ, ◌+◌, ℤ, List, ◌∷◌, length, Option, None, Some}
use Rattle.std.specs.List.{AllByRecursion}
use Rattle.certificate.specs.declared.fact.Fact.{Fact}
use Rattle.certificate.specs.declared.pred_text.PredText.{PredText}
use Rattle.cert_structure.specs.Numbered.{facts_from}
use Rattle.cert_structure.specs.Order.{point_facts}
use Rattle.number_tests.specs.Failing.{MultipliersFail, SumsFail}
use Rattle.number_tests.specs.Targets.{fall_weights}
use Rattle.number_tests.specs.declared.flaw.Flaw.{Flaw}
use Rattle.number_tests.specs.declared.level_part.LevelPart.{LevelPart}
use Rattle.number_tests.specs.declared.pair_point.PairPoint.{PairPoint}
use Rattle.termination_model.specs.sizes.Replacing.{over_columns}
use Rattle.certificate.specs.declared.fact.Fact.TheVariants as fact
use Rattle.cert_structure.specs.declared.parts.Parts.{Parts}
use Rattle.cti_terms.specs.Listing.{Listing, numbered}
use Rattle.cti_terms.specs.Tree.{Tree}
use Rattle.cti_terms.specs.declared.builtins.Builtin.{Builtin}
use Rattle.linear_rows.specs.Members.{In}
use Rattle.linear_rows.specs.declared.row.Rows.{Rows}
use Rattle.call_components.specs.Partition.{Partition}
use Rattle.termination_model.specs.sizes.Stated.{stated_rows}
use Rattle.cert_checker.specs.Fault.{FallFails, IsFirstAt, MeasureFails, RefutationFails, RowFails, RowIsForeign, RowsFailAt, reason_of}
use Rattle.cert_checker.specs.Proved.{IsZero}
use Rattle.cert_checker.specs.declared.fault.Fault.{Fault}
use Rattle.cert_checker.specs.declared.reason.Reason.{Reason}
use Rattle.cert_checker.specs.declared.reason.Reason.TheVariants as reason

-- the facts of each kind that fail, and no others
abbrev pub IsForeign : Builtin → Fact → Reason → Type 0
IsForeign kind (fact.Size text i row) why = (¬ In row (stated_rows kind)) × (why ≡ reason.SizeRow)
IsForeign kind _ why = ⊥

abbrev pub SizesFail : Listing → List (List ℕ) → Fact → Reason → Type 0
SizesFail p names (fact.Size text i row) why = RowIsForeign p names text row why
SizesFail p names _ why = ⊥

abbrev pub ByFails : (ℕ → Tree → List ℤ) → Listing → List Rows → Fact → Reason → Type 0
ByFails expression p rows (fact.By k i scale ms) why = RowFails expression p rows k i ms scale why
ByFails expression p rows _ why = ⊥

abbrev pub PartsFail : Fact → Reason → Type 0
PartsFail (fact.Measure text m coeffs offset) why = (¬ IsZero (record { coeffs = coeffs; offset = offset })) × (why ≡ reason.Measure)
PartsFail _ why = ⊥

abbrev pub MeasuresFail : Listing → List (List ℕ) → Partition → Fact → Reason → Type 0
MeasuresFail p names comps (fact.Measure text m coeffs offset) why = MeasureFails p names comps text (record { coeffs = coeffs; offset = offset }) why
MeasuresFail p names comps _ why = ⊥

abbrev pub FallsFail : (ℕ → Tree → List ℤ) → Listing → Partition → Parts → Fact → Reason → Type 0
FallsFail expression p comps parts (fact.Falls k j m scale ms) why = FallFails expression p comps parts.rows parts.levels k j m ms scale why
FallsFail expression p comps parts _ why = ⊥

abbrev pub RefutationsFail : (ℕ → Tree → List ℤ) → Listing → List (List ℕ) → Partition → Parts → Fact → Reason → Type 0
RefutationsFail expression p names comps parts (fact.Refuted text n) why = RefutationFails p names expression comps parts.refutations text why
RefutationsFail expression p names comps parts (fact.Point k j t w) why = RowsFailAt expression p parts.rows k j (record { t = t; w = w }) why
RefutationsFail expression p names comps parts (fact.At k j t w) why = RowsFailAt expression p parts.rows k j (record { t = t; w = w }) why
RefutationsFail expression p names comps parts _ why = ⊥

-- a refutation of a predicate, and its points
abbrev pub group_facts : PredText → List PairPoint → List Fact
group_facts pred points = fact.Refuted pred (length points) ∷ facts_from 0 (λ _ x. point_facts x) points

-- what fails of them, by the members of the component
abbrev pub GroupFails : (ℕ → Tree → List ℤ) → Listing → List Rows → List ℕ → List PairPoint → Fact → Reason → Type 0
GroupFails expression p rows members points (fact.Refuted text n) why = (f : Flaw) × SumsFail expression p members points f × (why ≡ reason_of f reason.Refutation)
GroupFails expression p rows members points (fact.Point k j t w) why = RowsFailAt expression p rows k j (record { t = t; w = w }) why
GroupFails expression p rows members points (fact.At k j t w) why = RowsFailAt expression p rows k j (record { t = t; w = w }) why
GroupFails expression p rows members points _ why = ⊥

-- a mapping's multipliers do not show its fall over these rows and columns
pub record MappingFails (rows columns : List (List ℤ)) (heads calls : List LevelPart) (m : ℕ) (ms : List ℤ) (scale : ℤ) (why : Reason) : Type 0 where
  pub head : LevelPart
  pub head_there : numbered heads m ≡ Some head
  pub call : LevelPart
  pub call_there : numbered calls m ≡ Some call
  pub flaw : Flaw
  pub fails : MultipliersFail rows ms (over_columns columns (fall_weights head call)) scale flaw
  pub why_is : why ≡ reason_of flaw reason.Measure

abbrev pub MappingsFail : List (List ℤ) → List (List ℤ) → List LevelPart → List LevelPart → Fact → Reason → Type 0
MappingsFail rows columns heads calls (fact.Falls k j m scale ms) why = MappingFails rows columns heads calls m ms scale why
MappingsFail rows columns heads calls _ why = ⊥

module _ (Fails : Fact → Reason → Type 0) where
  -- no fact fails
  abbrev pub NoneFails : List Fact → Type 0
  NoneFails facts = AllByRecursion (λ f. (why : Reason) → ¬ Fails f why) facts

  -- the fault is that of the first fact that fails, where the first fact has this line; without a fault none fails
  abbrev pub Finds : ℕ → List Fact → Option Fault → Type 0
  Finds first facts None = NoneFails facts
  Finds first facts (Some f) = (n : ℕ) × (f.line ≡ u64_saturate (first + n)) × IsFirstAt Fails facts n f.reason
