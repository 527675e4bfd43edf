-- The numbers of a column's expression are natural, since its value is at each valuation.
use Rattle.std.proofs.Common.{◌≡◌, ℕ, zero, suc, ◌+◌, ◌*◌, ◌≤◌, ◌<◌, ℤ, pos, ◌+ℤ◌, ◌*ℤ◌, ◌≤ℤ◌, Bool, IsTrue, List, [], ◌∷◌, ◌++◌, map, take, drop, length, Some, refl, ap, sym, subst, ◌∙◌, arith}
use Rattle.std.specs.Prelude.{All, slice_index_or, Option}
use Rattle.std.specs.List.{AllByRecursion}
use Rattle.std.proofs.lemmas.Int.{ints}
use Rattle.std.proofs.lemmas.List.{take-append-drop, length-drop}
use lib.IntN.{*ℤ_comm}
use Rattle.cti_terms.specs.Tree.{Tree, is_below}
use Rattle.cti_terms.specs.declared.builtins.Arith.{Arith}
use Rattle.exact128.specs.Sums.{dot, entry}
use Rattle.termination_model.specs.columns.Columns.{Valuation, Columns, AreColumns, counted, numbers, numbers_from}
use Rattle.termination_model.proofs.Naturals.{never_below}
use Rattle.transitions.proofs.Spikes.{nothing, spike, dot_nothing, dot_spike, length_nothing, length_spike}

dot_right : (cs : List ℤ) (w : List ℕ) → dot cs (map pos w) ≡ dot (map pos w) cs
unfolding dot
dot_right [] [] = refl
dot_right [] (x ∷ w) = refl
dot_right (c ∷ cs) [] = refl
dot_right (c ∷ cs) (x ∷ w) = let rest = dot_right cs w in let turned = *ℤ_comm c (pos x) in omega (arith, ints, rest, turned)

-- ---- each list of naturals is that of a valuation
abbrev of_list : ℕ → List ℕ → Valuation
of_list width w zero m = slice_index_or w m 0
of_list width w (suc x) m = of_list width (drop width w) x m

take_step : (w : List ℕ) (i k : ℕ) → i < length w → slice_index_or w i 0 ∷ take k (drop (suc i) w) ≡ take (suc k) (drop i w)
take_step [] i k l = absurd (omega arith)
take_step (x ∷ w) zero k l = refl
take_step (x ∷ w) (suc i) k l = take_step w i k (omega (arith, l))

counted_same : (i k : ℕ) (w : List ℕ) → i + k ≤ length w → counted i k (λ m. slice_index_or w m 0) ≡ take k (drop i w)
counted_same i zero w l = refl
counted_same i (suc k) w l = ap (λ (xs : List ℕ). slice_index_or w i 0 ∷ xs) (counted_same (suc i) k w (omega (arith, l))) ∙ take_step w i k (omega (arith, l))

numbers_after : (width x n : ℕ) (s : Valuation) → numbers_from width (suc x) n s ≡ numbers_from width x n (λ y. s (suc y))
numbers_after width x zero s = refl
numbers_after width x (suc n) s = ap (λ (xs : List ℕ). counted 0 width (s (suc x)) ++ xs) (numbers_after width (suc x) n s)

numbers_listed : (width n : ℕ) (w : List ℕ) → length w ≡ n * width → numbers width n (of_list width w) ≡ w
numbers_listed width zero [] l = refl
numbers_listed width zero (x ∷ w) l = absurd (omega (arith, l))
numbers_listed width (suc n) w l =
    let e = length-drop width w in
    let first : counted 0 width (λ m. slice_index_or w m 0) ≡ take width w = counted_same 0 width w (omega (arith, l)) in
    let rest : numbers_from width 1 n (of_list width w) ≡ drop width w = numbers_after width 0 n (of_list width w) ∙ numbers_listed width n (drop width w) (omega (arith, l, e)) in
    (λ i. first i ++ rest i) ∙ take-append-drop width w

-- ---- naturals from all valuations
module _ (o : Option Arith) (truth : (ℕ → Bool) → Tree → Bool) (m : Columns) (are : AreColumns o truth m) (vars : ℕ) (t : Tree) (below : IsTrue (is_below vars t)) (j : ℕ) where
  value_natural : (e : List ℤ) → m.expression vars t j ≡ Some e → (w : List ℕ) → length w ≡ vars * m.width → pos 0 ≤ℤ dot e (pos 1 ∷ map pos w)
  value_natural e is w l =
      let value = (are.expressions vars t j e is).1 below (of_list m.width w) in
      let same = numbers_listed m.width vars w l in
      subst (λ (z : ℤ). pos 0 ≤ℤ z) (sym (ap (λ (ws : List ℕ). dot e (pos 1 ∷ map pos ws)) (sym same) ∙ value)) (omega (arith, ints))

  entry_natural : (e : List ℤ) → length e ≡ suc (vars * m.width) → ((w : List ℕ) → length w ≡ vars * m.width → pos 0 ≤ℤ dot e (pos 1 ∷ map pos w)) → (k : ℕ) → pos 0 ≤ℤ entry e k
  unfolding dot
  entry_natural [] l h k = omega (arith, ints)
  entry_natural (b ∷ cs) l h zero =
      let v = h (nothing (vars * m.width)) (length_nothing (vars * m.width)) in
      let none = dot_right cs (nothing (vars * m.width)) ∙ dot_nothing (vars * m.width) cs in
      omega (arith, ints, v, none)
  entry_natural (b ∷ cs) l h (suc k) = never_below b (entry cs k) (λ n.
      let v = h (spike (vars * m.width) k n) (length_spike (vars * m.width) k n) in
      let one = dot_right cs (spike (vars * m.width) k n) ∙ dot_spike (vars * m.width) k n cs (omega (arith, l)) in
      omega (arith, ints, v, one))

all_entries : (e : List ℤ) → ((k : ℕ) → pos 0 ≤ℤ entry e k) → All (λ z. pos 0 ≤ℤ z) e
all_entries [] h k d l = absurd (omega arith)
all_entries (x ∷ e) h zero d l = h 0
all_entries (x ∷ e) h (suc k) d l = all_entries e (λ i. h (suc i)) k d (omega (arith, l))

-- the numbers of an expression are natural
pub expression_natural : (o : Option Arith) (truth : (ℕ → Bool) → Tree → Bool) (m : Columns) → AreColumns o truth m → (vars : ℕ) (t : Tree) → IsTrue (is_below vars t) → (j : ℕ) (e : List ℤ)
    → m.expression vars t j ≡ Some e → All (λ z. pos 0 ≤ℤ z) e
expression_natural o truth m are vars t below j e is =
    all_entries e (entry_natural o truth m are vars t below j e (are.expressions vars t j e is).0 (value_natural o truth m are vars t below j e is))
