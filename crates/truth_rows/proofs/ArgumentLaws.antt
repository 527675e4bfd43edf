-- The arguments of an atom in the place of the variables of a set.
use Rattle.std.proofs.Common.{◌≡◌, ℕ, zero, suc, ◌+◌, ◌<◌, ◌≤◌, ◌==◌, Bool, true, false, ◌&&◌, ◌||◌, if◌then◌else◌, IsTrue, nat_lt, ℤ, List, [], ◌∷◌, length, map, take, inl, inr, ltb-true, slice_get, slice_index_or, Some, refl, ap, sym, ◌∙◌, arith}
use Rattle.std.proofs.lemmas.Bool.{cases_eq, eq-eqb}
use Rattle.std.proofs.lemmas.Bool.Decides.{nat_tests}
use Rattle.std.specs.List.{AllByRecursion}
use Rattle.bool_diagrams.specs.Cubes.{values_of}
use Rattle.bool_diagrams.specs.Tree.{with_value}
use Rattle.bool_diagrams.specs.Rows.{iff}
use Rattle.bool_diagrams.specs.Renaming.{renamed}
use Rattle.cti_terms.specs.Tree.{Tree, is_below}
use Rattle.term_size.specs.Norm.{IsNorm}
use Rattle.truth_rows.proofs.NormLaws.{truth_agrees}
use Rattle.termination_model.proofs.Lists.{by_places, indexed, mapped_place}
use Rattle.truth_rows.proofs.RowLaws.{decided, with_same, with_other}

-- the truth of the first n arguments, and beyond them the variables that stand for arguments
abbrev pub mixed : ((ℕ → Bool) → Tree → Bool) → List Tree → (ℕ → Bool) → ℕ → ℕ → Bool
mixed truth ts row n j = if nat_lt j n then slice_index_or (map (truth row) ts) j false else row (48 + j)

-- the given number of numbers from a on
abbrev pub numbers_from : ℕ → ℕ → List ℕ
numbers_from a zero = []
numbers_from a (suc n) = a ∷ numbers_from (suc a) n

pub renamed_numbers : (a b m n j : ℕ) → j < m → m ≤ n → renamed (take m (numbers_from a n)) (take m (numbers_from b n)) (a + j) ≡ b + j
renamed_numbers a b zero n j lt le = absurd (omega arith)
renamed_numbers a b (suc m) zero j lt le = absurd (omega arith)
renamed_numbers a b (suc m) (suc n) zero lt le = let e : (a + 0 == a) ≡ true = eq-eqb (a + 0) a (omega arith) in rw e (omega arith)
renamed_numbers a b (suc m) (suc n) (suc i) lt le =
    let e : (a + suc i == a) ≡ false = grind (arith, nat_tests) in
    let r = renamed_numbers (suc a) (suc b) m n i (omega arith) (omega arith) in
    let s : suc a + i ≡ a + suc i = omega arith in
    let t : suc b + i ≡ b + suc i = omega arith in
    rw e (ap (renamed (take m (numbers_from (suc a) n)) (take m (numbers_from (suc b) n))) (sym s) ∙ r ∙ t)

-- the variables from 0 on, with the names from 48 on, and back
pub from_zero : (m v : ℕ) → v < m → m ≤ 12 → renamed (take m (numbers_from 0 12)) (take m (numbers_from 48 12)) v ≡ 48 + v
from_zero m v lt le =
    let z : v ≡ 0 + v = omega arith in
    ap (renamed (take m (numbers_from 0 12)) (take m (numbers_from 48 12))) z ∙ renamed_numbers 0 48 m 12 v lt le

pub to_zero : (m j : ℕ) → j < m → m ≤ 12 → renamed (take m (numbers_from 48 12)) (take m (numbers_from 0 12)) (48 + j) ≡ j
to_zero m j lt le = renamed_numbers 48 0 m 12 j lt le ∙ omega arith

pub number_at : (a n j : ℕ) → j < n → slice_index_or (numbers_from a n) j 0 ≡ a + j
number_at a zero j lt = absurd (omega arith)
number_at a (suc n) zero lt = omega arith
number_at a (suc n) (suc i) lt = omega (arith, number_at (suc a) n i (omega arith))

tested : (j n : ℕ) → j < n → nat_lt j n ≡ true
tested j n lt = grind (arith, nat_tests)

not_tested : (j n : ℕ) → n ≤ j → nat_lt j n ≡ false
not_tested j n le = grind (arith, nat_tests)

module _ (size : (ℕ → ℕ) → Tree → ℕ) (truth : (ℕ → Bool) → Tree → Bool) (expression : ℕ → Tree → List ℤ) (norm : IsNorm size truth expression) where
  pub truths_agree : (n : ℕ) (ts : List Tree) (v w : ℕ → Bool) → AllByRecursion (λ t. IsTrue (is_below n t)) ts → ((x : ℕ) → x < n → v x ≡ w x) → map (truth v) ts ≡ map (truth w) ts
  truths_agree n [] v w below agree = refl
  truths_agree n (t ∷ ts) v w below agree =
      let first = truth_agrees size truth expression norm n t v w below.0 agree in
      let rest = truths_agree n ts v w below.1 agree in
      λ i. first i ∷ rest i

  pub mixed_start : (ts : List Tree) (row : ℕ → Bool) (j : ℕ) → row (48 + j) ≡ mixed truth ts row 0 j
  mixed_start ts row j = let e = not_tested j 0 (omega arith) in rw e refl

  pub mixed_end : (ts : List Tree) (row : ℕ → Bool) (n j : ℕ) → j < n → mixed truth ts row n j ≡ values_of (map (truth row) ts) j
  mixed_end ts row n j lt = let e = tested j n lt in rw e refl

  -- one more argument
  pub mixed_more : (vars : ℕ) (ts : List Tree) (row : ℕ → Bool) (i : ℕ) (t : Tree) (j : ℕ) → vars ≤ 48 → AllByRecursion (λ t. IsTrue (is_below vars t)) ts → slice_get ts i ≡ Some t
      → mixed truth ts (with_value row (48 + i) (truth row t)) i j ≡ mixed truth ts row (i + 1) j
  mixed_more vars ts row i t j few below at = elim (cases_eq j i) [
    | inl same ↦
        let off = not_tested j i (omega arith) in
        let on = tested j (i + 1) (omega arith) in
        let k : with_value row (48 + i) (truth row t) (48 + j) ≡ truth row t = ap (λ m. with_value row (48 + i) (truth row t) (48 + m)) same ∙ with_same row (48 + i) (truth row t) in
        let l : slice_index_or (map (truth row) ts) j false ≡ truth row t = ap (λ m. slice_index_or (map (truth row) ts) m false) same ∙ indexed (map (truth row) ts) i (truth row t) false (mapped_place (truth row) ts i t at) in
        rw (off, on, k, l) refl
    | inr other ↦ go other (nat_lt j i) refl
  ]
    where
      row' : ℕ → Bool
      row' = with_value row (48 + i) (truth row t)

      go : ((j ≡ i) → ⊥) → (b : Bool) → nat_lt j i ≡ b → mixed truth ts (with_value row (48 + i) (truth row t)) i j ≡ mixed truth ts row (i + 1) j
      go other true e =
          let before : j < i = ltb-true j i e in
          let on = tested j (i + 1) (omega arith) in
          let same = truths_agree vars ts (with_value row (48 + i) (truth row t)) row below (λ x lt. with_other row (48 + i) (truth row t) x (λ is. omega arith)) in
          rw (e, on) (ap (λ xs. slice_index_or xs j false) same)
      go other false e =
          let past : i < j = grind (arith, nat_tests) in
          let off = not_tested j (i + 1) (omega arith) in
          rw (e, off) (with_other row (48 + i) (truth row t) (48 + j) (λ is. omega arith))

  pub argument_step : (set bound : (ℕ → Bool) → Bool) (vars : ℕ) (ts : List Tree) (i : ℕ) (t : Tree) → vars ≤ 48 → AllByRecursion (λ t. IsTrue (is_below vars t)) ts → slice_get ts i ≡ Some t
      → ((row other : ℕ → Bool) → ((v : ℕ) → v < length ts → row v ≡ other v) → set row ≡ set other)
      → ((row : ℕ → Bool) → bound row ≡ (set (mixed truth ts row i) && iff (row (48 + i)) (truth row t)))
      → (row : ℕ → Bool) → (bound (with_value row (48 + i) false) || bound (with_value row (48 + i) true)) ≡ set (mixed truth ts row (i + 1))
  argument_step set bound vars ts i t few below at reads h row =
      (λ k. part false k || part true k) ∙ decided (λ b. set (mixed truth ts (with_value row (48 + i) b) i)) (truth row t)
      ∙ reads (mixed truth ts (with_value row (48 + i) (truth row t)) i) (mixed truth ts row (i + 1)) (λ j lt. mixed_more vars ts row i t j few below at)
    where
      part : (b : Bool) → bound (with_value row (48 + i) b) ≡ (set (mixed truth ts (with_value row (48 + i) b) i) && iff b (truth row t))
      part b =
          let own = with_same row (48 + i) b in
          let tr = truth_agrees size truth expression norm vars t (with_value row (48 + i) b) row (by_places (λ t. IsTrue (is_below vars t)) ts below i t at) (λ x lt. with_other row (48 + i) b x (λ is. omega arith)) in
          h (with_value row (48 + i) b) ∙ (λ k. set (mixed truth ts (with_value row (48 + i) b) i) && iff (own k) (tr k))
