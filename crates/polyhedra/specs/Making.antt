-- Private.
-- What images, joins and kept rows are, in terms of the rows that a value lists.
--
-- The rows that a domain speaks of are given by a test, `speaks`.
--
-- To believe: `SaysImage`, `SaysJoin`, `SaysKept`.
use Rattle.std.specs.Prelude.{◌≡◌, ℕ, suc, ◌⊎◌, ◌↔◌, ℤ, Bool, true, false, List, [], ◌∷◌, length, None}
use Rattle.std.specs.List.{AllByRecursion}
use Rattle.linear_rows.specs.Plain.{plain_rows}
use Rattle.linear_rows.specs.Rows.{HoldsOn}
use Rattle.linear_rows.specs.Systems.{image_blown, image_left, join_blown}
use Rattle.linear_rows.specs.Irredundant.{IsIrredundant, TestIsBlown}
use Rattle.linear_rows.specs.declared.multipliers.Multipliers.{Multipliers}
use Rattle.linear_rows.specs.declared.system.System.{System}
use Rattle.linear_rows.specs.declared.point.Point.{Point}
use Rattle.termination_model.specs.claims.Claims.{SomeOf}
use Rattle.termination_model.specs.chains.ChainRows.{bottom_row, HasPoint, HasSublist, AreSpoken, IsBlown, IsJoin}
use Rattle.linear_rows.specs.Showing.{Shows}
use Rattle.polyhedra.specs.declared.widened.Widened.{Widened}
use Rattle.polyhedra.specs.Telling.{FailsOn, IsBlownOn, at_head}

abbrev pub arity_of : System → ℕ
arity_of s = length (plain_rows s.head.list)

-- a row over the head's arguments holds on a clause's system
abbrev pub HoldsFor : System → List ℤ → Type 0
HoldsFor s row = HoldsOn (suc s.variables) (plain_rows s.rows.list) (at_head s row)

-- an irredundant sublist of the rows that elimination leaves, on which the same rows hold as on the system
pub record IsImageOf (speaks : List ℤ → Bool) (s : System) (rows : List (List ℤ)) : Type 0 where
  pub narrow : s.wide ≡ false
  pub decided : image_blown s.variables (plain_rows s.head.list) (plain_rows s.rows.list) ≡ None
  pub part : HasSublist (image_left s.variables (plain_rows s.head.list) (plain_rows s.rows.list)) rows
  pub irredundant : IsIrredundant (arity_of s) rows
  pub spoken : AreSpoken speaks (arity_of s) rows
  pub same : (r : List ℤ) → length r ≡ suc (arity_of s) → speaks r ≡ true → HoldsOn (suc (arity_of s)) rows r ↔ HoldsFor s r

-- the image's system is blown: a row of the clause's system did not fit, or a step of the elimination is blown
abbrev pub ImageIsBlown : System → Type 0
ImageIsBlown s = (s.wide ≡ true) ⊎ IsBlown (image_blown s.variables (plain_rows s.head.list) (plain_rows s.rows.list))

-- an image, and a weak one, which has no rows
abbrev pub SaysImage : (List ℤ → Bool) → System → List (List ℤ) → Bool → Type 0
SaysImage speaks s rows false = IsImageOf speaks s rows
SaysImage speaks s rows true = ImageIsBlown s × (rows ≡ [])

-- the same rows hold on a join as on both, and where neither is empty it is an irredundant sublist of those left
pub record IsJoinOf (speaks : List ℤ → Bool) (n : ℕ) (first second rows : List (List ℤ)) : Type 0 where
  pub same : (r : List ℤ) → length r ≡ suc n → speaks r ≡ true → HoldsOn (suc n) rows r ↔ (HoldsOn (suc n) first r × HoldsOn (suc n) second r)
  pub spoken : AreSpoken speaks n rows
  pub listed : HasPoint n first → HasPoint n second → IsJoin speaks n first second rows

-- a join, and a weak one, which has no rows
abbrev pub SaysJoin : (List ℤ → Bool) → ℕ → List (List ℤ) → List (List ℤ) → List (List ℤ) → Bool → Type 0
SaysJoin speaks n first second rows false = IsJoinOf speaks n first second rows
SaysJoin speaks n first second rows true =
    (rows ≡ []) × (IsBlown (join_blown n first second) ⊎ (TestIsBlown n first (bottom_row n) ⊎ TestIsBlown n second (bottom_row n)))

-- multipliers for each row, in order, which prove it for the head
abbrev pub AreShown : System → List (List ℤ) → List Multipliers → Type 0
AreShown s [] [] = Unit {0}
AreShown s [] (m ∷ ms) = ⊥
AreShown s (r ∷ rs) [] = ⊥
AreShown s (r ∷ rs) (m ∷ ms) = Shows (plain_rows s.rows.list) (at_head s r) m × AreShown s rs ms

abbrev pub Fails : System → List ℤ → Type 0
Fails s row = (p : Point) × FailsOn s row p

-- each row of the first list is in the second or in the third, in order
abbrev pub Splits : List (List ℤ) → List (List ℤ) → List (List ℤ) → Type 0
Splits [] kept lost = (kept ≡ []) × (lost ≡ [])
Splits (x ∷ xs) kept lost =
    ((ks : List (List ℤ)) × (kept ≡ x ∷ ks) × Splits xs ks lost)
    ⊎ ((ls : List (List ℤ)) × (lost ≡ x ∷ ls) × Splits xs kept ls)

-- why a row is lost: it fails, where some are known to fail, or its test is blown, where some are
abbrev pub IsLost : System → Bool → Bool → List ℤ → Type 0
IsLost s failed weak row = ((failed ≡ true) × Fails s row) ⊎ ((weak ≡ true) × IsBlownOn s row)

-- the rows that are kept, with their proofs, and those that are lost: whether some fail, and the tests of some are
-- blown
pub record SaysKept (s : System) (old rows : List (List ℤ)) (failed weak : Bool) (by : List Multipliers) : Type 0 where
  pub lost : List (List ℤ)
  pub split : Splits old rows lost
  pub why : AllByRecursion (IsLost s failed weak) lost
  pub fails : failed ≡ true → SomeOf (Fails s) lost
  pub blown : weak ≡ true → SomeOf (IsBlownOn s) lost
  pub shown : AreShown s rows by

abbrev pub SaysWidened : {D : Type 0} → (D → List (List ℤ)) → System → D → Widened D → Type 0
SaysWidened listed s old new = SaysKept s (listed old) (listed new.value) new.failed new.weak new.by
