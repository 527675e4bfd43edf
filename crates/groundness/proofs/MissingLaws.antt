-- Fewer rows are missing where a row is added.
use Rattle.std.proofs.Common.{◌≡◌, ℕ, zero, suc, ◌<◌, ◌≤◌, Bool, true, false, if◌then◌else◌, IsTrue, List, [], ◌∷◌, length, slice_get, slice_set, Some, inl, inr, refl, ap, arith}
use Rattle.std.proofs.lemmas.Bool.{cases_eq}
use Rattle.bool_diagrams.specs.declared.diagram.Diagram.{Diagram}
use Rattle.bool_diagrams.specs.Cubes.{rests, truth_rows, values_of}
use Rattle.bool_diagrams.specs.Rows.{IsDiagram, Keeps}
use Rattle.bool_diagrams.specs.Tree.{Tree as Rows}
use Rattle.bool_diagrams.proofs.CallerLemmas.{holds_later}
use Rattle.cti_terms.specs.declared.predicates.Pred.{Pred}
use Rattle.groundness.specs.Missing.{missing, all_missing}

bits_le : (a b : Bool) → (IsTrue a → IsTrue b) → (if b then 0 else 1) ≤ (if a then 0 else 1)
bits_le true true h = omega arith
bits_le true false h = let e = h refl in cc
bits_le false true h = omega arith
bits_le false false h = omega arith

bits_same : (a b : Bool) → (if a then 0 else 1) ≤ (if b then 0 else 1) → IsTrue b → IsTrue a
bits_same true b le t = refl
bits_same false true le t = absurd (omega arith)
bits_same false false le t = t

missing_le : (n : ℕ) (s s' : List Bool → Bool) → ((row : List Bool) → IsTrue (s row) → IsTrue (s' row)) → missing n s' ≤ missing n s
unfolding missing
missing_le zero s s' h = bits_le (s []) (s' []) (h [])
missing_le (suc n) s s' h = omega (arith, missing_le n (rests false s) (rests false s') (λ row. h (false ∷ row)), missing_le n (rests true s) (rests true s') (λ row. h (true ∷ row)))

missing_same : (n : ℕ) (s s' : List Bool → Bool) → ((row : List Bool) → IsTrue (s row) → IsTrue (s' row)) → missing n s ≤ missing n s' → (row : List Bool) → length row ≡ n → IsTrue (s' row) → IsTrue (s row)
unfolding missing
missing_same zero s s' h le [] l t = bits_same (s []) (s' []) le t
missing_same zero s s' h le (b ∷ row) l t = absurd (omega arith)
missing_same (suc n) s s' h le [] l t = absurd (omega arith)
missing_same (suc n) s s' h le (false ∷ row) l t =
    missing_same n (rests false s) (rests false s') (λ r. h (false ∷ r)) (omega (arith, missing_le n (rests true s) (rests true s') (λ r. h (true ∷ r)))) row (omega arith) t
missing_same (suc n) s s' h le (true ∷ row) l t =
    missing_same n (rests true s) (rests true s') (λ r. h (true ∷ r)) (omega (arith, missing_le n (rests false s) (rests false s') (λ r. h (false ∷ r)))) row (omega arith) t

pub missing_less : (n : ℕ) (s s' : List Bool → Bool) → ((row : List Bool) → IsTrue (s row) → IsTrue (s' row)) → (((row : List Bool) → length row ≡ n → IsTrue (s' row) → IsTrue (s row)) → ⊥) → missing n s' < missing n s
missing_less n s s' h apart =
    let le = missing_le n s s' h in
    elim (cases_eq (missing n s') (missing n s)) [
      | inl same ↦ absurd (apart (missing_same n s s' h (omega arith)))
      | inr other ↦ omega arith
    ]

rows_later : (T T2 : List Rows) → Keeps T T2 → (d : Diagram) → IsDiagram T d → truth_rows T2 d ≡ truth_rows T d
rows_later T T2 K d known = λ i row. holds_later T T2 d K known (values_of row) i

pub all_missing_kept : (preds : List Pred) (T T2 : List Rows) → Keeps T T2 → (sets : List Diagram) → ((r : ℕ) (d : Diagram) → slice_get sets r ≡ Some d → IsDiagram T d) → all_missing preds T2 sets ≡ all_missing preds T sets
unfolding all_missing
all_missing_kept [] T T2 K sets known = refl
all_missing_kept (p ∷ preds) T T2 K [] known = refl
all_missing_kept (p ∷ preds) T T2 K (d ∷ sets) known =
    let e = ap (missing p.arity) (rows_later T T2 K d (known 0 d refl)) in
    let r = all_missing_kept preds T T2 K sets (λ r d h. known (suc r) d h) in
    omega (arith, e, r)

pub all_missing_set : (preds : List Pred) (T T2 : List Rows) → Keeps T T2 → (sets : List Diagram) (q : ℕ) (x : Pred) (old joined : Diagram) → slice_get preds q ≡ Some x → slice_get sets q ≡ Some old → ((r : ℕ) (d : Diagram) → slice_get sets r ≡ Some d → IsDiagram T d)
    → missing x.arity (truth_rows T2 joined) < missing x.arity (truth_rows T old) → all_missing preds T2 (slice_set sets q joined) < all_missing preds T sets
unfolding all_missing
all_missing_set [] T T2 K sets q x old joined e f known less = cc
all_missing_set (p ∷ preds) T T2 K [] q x old joined e f known less = cc
all_missing_set (p ∷ preds) T T2 K (d ∷ sets) zero x old joined e f known less =
    let ip : p ≡ x = cc in
    let id : d ≡ old = cc in
    let a = ap (λ (y : Pred). missing y.arity (truth_rows T2 joined)) ip in
    let b = ap (λ (y : Pred). missing y.arity (truth_rows T d)) ip in
    let b' = ap (λ (y : Diagram). missing x.arity (truth_rows T y)) id in
    let r = all_missing_kept preds T T2 K sets (λ r d h. known (suc r) d h) in
    omega (arith, a, b, b', r, less)
all_missing_set (p ∷ preds) T T2 K (d ∷ sets) (suc q) x old joined e f known less =
    let h = ap (missing p.arity) (rows_later T T2 K d (known 0 d refl)) in
    let r = all_missing_set preds T T2 K sets q x old joined e f (λ r d h. known (suc r) d h) less in
    omega (arith, h, r)
