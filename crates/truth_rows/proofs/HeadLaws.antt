-- The truth rows of a head, by the steps that find them.
use Rattle.std.proofs.Common.{◌≡◌, ◌↔◌, inl, inr, ℕ, ◌+◌, ◌<◌, ◌≤◌, Bool, true, false, if◌then◌else◌, IsTrue, nat_lt, ℤ, List, length, refl, ap, sym, ◌∙◌, arith}
use Rattle.std.proofs.lemmas.Bool.Decides.{nat_tests}
use Rattle.cti_terms.specs.Tree.{Tree, is_below}
use Rattle.std.specs.List.{AllByRecursion}
use Rattle.term_size.specs.Norm.{IsNorm}
use Rattle.truth_rows.specs.Ends.{ArePlacedOrSame}
use Rattle.truth_rows.specs.Ready.{HasTruths}
use Rattle.truth_rows.proofs.NormLaws.{truth_agrees}
use Rattle.termination_model.proofs.Lists.{by_places}
use Rattle.truth_rows.proofs.Somewhere.{IsSomewhere}

-- v below n, and from there on the row
upon : ℕ → (ℕ → Bool) → (ℕ → Bool) → ℕ → Bool
upon n v row x = if nat_lt x n then v x else row x

upon_below : (n : ℕ) (v row : ℕ → Bool) (x : ℕ) → x < n → upon n v row x ≡ v x
unfolding upon
upon_below n v row x lt = let e : nat_lt x n ≡ true = grind (arith, nat_tests) in rw e refl

upon_above : (n : ℕ) (v row : ℕ → Bool) (x : ℕ) → n ≤ x → upon n v row x ≡ row x
unfolding upon
upon_above n v row x le = let e : nat_lt x n ≡ false = grind (arith, nat_tests) in rw e refl

-- values that have of each term its truth in its place, or the same truth, have the row of the truths
pub truths_of_placed : (truth : (ℕ → Bool) → Tree → Bool) (v u row : ℕ → Bool) (ts : List Tree) → ArePlacedOrSame truth v u ts → ((x : ℕ) → 48 ≤ x → v x ≡ u x) → ((j : ℕ) → j < length ts → u (48 + j) ≡ row j)
    → HasTruths truth u row ts (length ts) → HasTruths truth v row ts (length ts)
truths_of_placed truth v u row ts placed over at h j t lt there = elim (placed j t there) [
  | inl e ↦ sym (at j lt) ∙ sym (over (48 + j) (omega arith)) ∙ e
  | inr e ↦ h j t lt there ∙ sym e
]

module _ (size : (ℕ → ℕ) → Tree → ℕ) (truth : (ℕ → Bool) → Tree → Bool) (expression : ℕ → Tree → List ℤ) (norm : IsNorm size truth expression) where
  -- the truths of values are those of others that agree with them, in the places where these have the row
  pub placed_truths : (vars : ℕ) (ts : List Tree) → AllByRecursion (λ t. IsTrue (is_below vars t)) ts → (v row w : ℕ → Bool) → ((x : ℕ) → x < vars → w x ≡ v x) → ((j : ℕ) → j < length ts → w (48 + j) ≡ row j)
      → HasTruths truth v row ts (length ts) → HasTruths truth w (λ j. w (48 + j)) ts (length ts)
  placed_truths vars ts below v row w agree at truths j u lt there =
      at j lt ∙ truths j u lt there ∙ sym (truth_agrees size truth expression norm vars u w v (by_places (λ t. IsTrue (is_below vars t)) ts below j u there) agree)

module _ (truth : (ℕ → Bool) → Tree → Bool) (vars : ℕ) (ts : List Tree) (few : vars ≤ 48) (values bound given : (ℕ → Bool) → Bool)
    (S : (row : ℕ → Bool) → IsTrue (given row) ↔ IsSomewhere bound vars row)
    (name : ℕ → ℕ) (names : (j : ℕ) → j < length ts → name (48 + j) ≡ j) (row : ℕ → Bool) where
  -- a row that is given comes from some values
  pub head_from : ((v : ℕ → Bool) → IsTrue (bound v) → (u : ℕ → Bool) × ((x : ℕ) → 48 ≤ x → u x ≡ v x) × IsTrue (values u) × HasTruths truth u (λ j. u (48 + j)) ts (length ts))
      → IsTrue (given (λ v. row (name v))) → (v : ℕ → Bool) × ((j : ℕ) → j < length ts → v (48 + j) ≡ row j) × IsTrue (values v) × HasTruths truth v row ts (length ts)
  head_from some t =
      let s = (S (λ v. row (name v))).0 t in
      let h = some s.0 s.2 in
      let at : (j : ℕ) → j < length ts → h.0 (48 + j) ≡ row j = λ j lt. h.1 (48 + j) (omega arith) ∙ s.1 (48 + j) (omega arith) ∙ ap row (names j lt) in
      (h.0, at, h.2, λ j u lt there. sym (at j lt) ∙ h.3 j u lt there)

  -- values of the set give the row of their truths
  pub head_to : (size : (ℕ → ℕ) → Tree → ℕ) (expression : ℕ → Tree → List ℤ) → IsNorm size truth expression → AllByRecursion (λ t. IsTrue (is_below vars t)) ts
      → ((v : ℕ → Bool) → IsTrue (values v) → HasTruths truth v (λ j. v (48 + j)) ts (length ts) → IsTrue (bound v))
      → (v : ℕ → Bool) → ((w : ℕ → Bool) → ((x : ℕ) → x < vars → w x ≡ v x) → ((j : ℕ) → j < length ts → w (48 + j) ≡ row j) → IsTrue (values w)) → HasTruths truth v row ts (length ts)
      → IsTrue (given (λ v. row (name v)))
  head_to size expression norm below all v like truths =
      let rest : ℕ → Bool = λ x. row (name x) in
      let w = upon vars v rest in
      let agree = upon_below vars v rest in
      let at : (j : ℕ) → j < length ts → w (48 + j) ≡ row j = λ j lt. upon_above vars v rest (48 + j) (omega arith) ∙ ap row (names j lt) in
      (S rest).1 (w, upon_above vars v rest, all w (like w agree at) (placed_truths size truth expression norm vars ts below v row w agree at truths))
