-- Laws of marks: what waits, how many marks are left, and how much work.
use Rattle.std.proofs.Common.{◌≡◌, ◌⊎◌, inl, inr, ℕ, zero, suc, ◌+◌, ◌*◌, ◌<◌, ◌≤◌, Bool, true, false, List, [], ◌∷◌, ◌++◌, length, replicate, slice_get, slice_set, Some, refl, ap, sym, subst, ◌∙◌, arith}
use Rattle.std.proofs.lemmas.Bool.{cases_eq}
use Rattle.std.proofs.lemmas.List.{length-set}
use Rattle.std.proofs.Math.Nat.{mul-le-mul_right, suc-mul}
use Rattle.truth_rows.proofs.ListLaws.{set_elsewhere, set_there}
use Rattle.groundness.specs.Marks.{AreWaiting, IsMarked, marks_left}

pub pushed_before : {X : Type 0} → (xs : List X) (x : X) (i : ℕ) (y : X) → slice_get xs i ≡ Some y → slice_get (xs ++ x ∷ []) i ≡ Some y
pushed_before [] x i y e = cc
pushed_before (z ∷ xs) x zero y e = e
pushed_before (z ∷ xs) x (suc i) y e = pushed_before xs x i y e

pub pushed_last : {X : Type 0} → (xs : List X) (x : X) → slice_get (xs ++ x ∷ []) (length xs) ≡ Some x
pushed_last [] x = refl
pushed_last (z ∷ xs) x = pushed_last xs x

pub pushed_cases : {X : Type 0} → (xs : List X) (x : X) (i : ℕ) (y : X) → slice_get (xs ++ x ∷ []) i ≡ Some y → (slice_get xs i ≡ Some y) ⊎ (x ≡ y)
pushed_cases [] x zero y e = let is : x ≡ y = cc in inr is
pushed_cases [] x (suc i) y e = cc
pushed_cases (z ∷ xs) x zero y e = inl e
pushed_cases (z ∷ xs) x (suc i) y e = pushed_cases xs x i y e

-- a clause that waits once more
pub waiting_more : (marks : List Bool) (waiting : List ℕ) (k : ℕ) → k < length marks → AreWaiting marks waiting → AreWaiting marks (waiting ++ k ∷ [])
waiting_more marks waiting k lt w = record {
  within = λ i j e. elim (pushed_cases waiting k i j e) [
    | inl before ↦ w.within i j before
    | inr last ↦ subst (λ m. m < length marks) last lt
  ];
  all = λ j m. let s = w.all j m in (s.0, pushed_before waiting k s.0 j s.1);
}

pub marked_there : (marks : List Bool) (k : ℕ) → k < length marks → IsMarked (slice_set marks k true) k
marked_there marks k lt = set_there marks k true lt

pub marked_more : (marks : List Bool) (k : ℕ) → k < length marks → (j : ℕ) → IsMarked marks j → IsMarked (slice_set marks k true) j
marked_more marks k lt j m = elim (cases_eq j k) [
  | inl same ↦ ap (slice_get (slice_set marks k true)) same ∙ set_there marks k true lt
  | inr other ↦ set_elsewhere marks k j true other ∙ m
]

pub waiting_marked : (marks : List Bool) (waiting : List ℕ) (k : ℕ) → k < length marks → AreWaiting marks waiting → AreWaiting (slice_set marks k true) (waiting ++ k ∷ [])
waiting_marked marks waiting k lt w =
    let long = length-set marks k true in
    record {
      within = λ i j e. let below = (waiting_more marks waiting k lt w).within i j e in omega arith;
      all = λ j m. elim (cases_eq j k) [
        | inl same ↦ (length waiting, pushed_last waiting k ∙ ap Some (sym same))
        | inr other ↦ let s = w.all j (sym (set_elsewhere marks k j true other) ∙ m) in (s.0, pushed_before waiting k s.0 j s.1)
      ];
    }

-- the last that waits has no mark, or its mark is taken
pub waiting_unmarked : (marks : List Bool) (waiting : List ℕ) (k : ℕ) → (IsMarked marks k → ⊥) → AreWaiting marks (waiting ++ k ∷ []) → AreWaiting marks waiting
waiting_unmarked marks waiting k off w = record {
  within = λ i j e. w.within i j (pushed_before waiting k i j e);
  all = λ j m.
      let s = w.all j m in
      elim (pushed_cases waiting k s.0 j s.1) [
        | inl before ↦ (s.0, before)
        | inr last ↦ absurd (off (subst (IsMarked marks) (sym last) m))
      ];
}

pub waiting_taken : (marks : List Bool) (waiting : List ℕ) (k : ℕ) → k < length marks → AreWaiting marks (waiting ++ k ∷ []) → AreWaiting (slice_set marks k false) waiting
waiting_taken marks waiting k lt w =
    let long = length-set marks k false in
    record {
      within = λ i j e. let below = w.within i j (pushed_before waiting k i j e) in omega arith;
      all = λ j m. elim (cases_eq j k) [
        | inl same ↦
            let off = set_there marks k false lt in
            let on : slice_get (slice_set marks k false) k ≡ Some true = ap (slice_get (slice_set marks k false)) (sym same) ∙ m in
            absurd (cc)
        | inr other ↦
            let s = w.all j (sym (set_elsewhere marks k j false other) ∙ m) in
            elim (pushed_cases waiting k s.0 j s.1) [
              | inl before ↦ (s.0, before)
              | inr last ↦ absurd (other (sym last))
            ]
      ];
    }

pub none_marked : (marks : List Bool) → AreWaiting marks [] → (j : ℕ) → IsMarked marks j → ⊥
none_marked marks w j m = let s = w.all j m in let e = s.1 in cc

not_marked : (n j : ℕ) → IsMarked (replicate n false) j → ⊥
not_marked zero j m = cc
not_marked (suc n) zero m = cc
not_marked (suc n) (suc j) m = not_marked n j m

-- or none has a mark, and none waits
pub waiting_none : (n : ℕ) → AreWaiting (replicate n false) []
waiting_none n = record { within = λ i j e. cc; all = λ j m. absurd (not_marked n j m) }

pub marked_at : (n j : ℕ) → j < n → IsMarked (replicate n true) j
marked_at zero j lt = absurd (omega arith)
marked_at (suc n) zero lt = refl
marked_at (suc n) (suc j) lt = marked_at n j (omega arith)

-- how many marks are left
pub left_le : (marks : List Bool) → marks_left marks ≤ length marks
unfolding marks_left
left_le [] = omega arith
left_le (true ∷ marks) = omega (arith, left_le marks)
left_le (false ∷ marks) = omega (arith, left_le marks)

pub left_taken : (marks : List Bool) (k : ℕ) → IsMarked marks k → marks_left (slice_set marks k false) < marks_left marks
unfolding marks_left
left_taken [] k m = cc
left_taken (true ∷ marks) zero m = omega arith
left_taken (false ∷ marks) zero m = cc
left_taken (true ∷ marks) (suc k) m = omega (arith, left_taken marks k m)
left_taken (false ∷ marks) (suc k) m = left_taken marks k m

-- a row that is added is worth more than all marks
pub less_work : (a b : ℕ) (new old : List Bool) → a < b → length new ≡ length old → a * suc (length new) + marks_left new < b * suc (length old) + marks_left old
less_work a b new old lt long =
    let left = left_le new in
    let each : suc a * suc (length old) ≤ b * suc (length old) = mul-le-mul_right (suc (length old)) (omega arith) in
    let one = suc-mul a (suc (length old)) in
    let same : a * suc (length new) ≡ a * suc (length old) = ap (λ n. a * suc n) long in
    omega arith

pub less_marks : (a b : ℕ) (new old : List Bool) → a ≡ b → length new ≡ length old → marks_left new < marks_left old → a * suc (length new) + marks_left new < b * suc (length old) + marks_left old
less_marks a b new old same long lt =
    let e : a * suc (length new) ≡ b * suc (length old) = (λ i. same i * suc (long i)) in
    omega arith
