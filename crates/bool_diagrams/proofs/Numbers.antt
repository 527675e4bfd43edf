-- Diagrams with the same rows below 2^64 have the same rows.
use Rattle.std.proofs.Common.{◌≡◌, ◌↔◌, IsTrue, nat_eq, ℕ, zero, suc, ◌+◌, ◌*◌, ◌/◌, ◌%◌, ◌^◌, ◌<◌, ◌==◌, Bool, true, false, if◌then◌else◌, List, [], ◌∷◌, length, refl, sym, ◌∙◌, inl, inr, arith}
use Rattle.std.proofs.Math.Nat.{pow-suc}
use Rattle.std.proofs.lemmas.Bool.{cases_eq}
use Rattle.std.proofs.lemmas.Nat.Bits.{bit_at_lowest, bit_at-suc}
use Rattle.bool_diagrams.specs.declared.node.Node.{Node}
use Rattle.bool_diagrams.specs.Tree.{Tree, leaf, branch, value, IsFrom, IsReduced, SameRows}
use Rattle.bool_diagrams.specs.Rows.{IsOf, bit_of, tree}
use Rattle.bool_diagrams.specs.Nodes.{IsSound, trees}
use Rattle.bool_diagrams.proofs.CubeLemmas.{IsBelow, value_agrees}
use Rattle.bool_diagrams.proofs.Tables.{same_exactly}
use Rattle.bool_diagrams.proofs.Nodes.{of_nodes, nodes_of, reduced, tree_constant, tree_newest, tree_older}

-- every variable is one of the 64
pub in_range : (nodes : List Node) (i : ℕ) → IsSound nodes → IsOf (trees nodes) i → IsBelow 64 (tree (trees nodes) i)
in_range [] i s lt = rw (tree_constant (trees []) i (of_nodes [] i lt)) tt
in_range (n ∷ older) i s lt =
    let lt' = of_nodes (n ∷ older) i lt in
    elim (cases_eq i (length older + 2)) [
      | inl e ↦ rw (tree_newest n older i e) (s.0.in_range, in_range older n.low s.2 s.0.low_of, in_range older n.high s.2 s.0.high_of)
      | inr ne ↦ let of = nodes_of older i (omega arith) in rw (tree_older n older i of) (in_range older i s.2 of)
    ]

-- the number with the bits of a row
number_of : ℕ → (ℕ → Bool) → ℕ
number_of zero row = 0
number_of (suc k) row = (if row 0 then 1 else 0) + 2 * number_of k (λ v. row (suc v))

doubled_fits : (b : Bool) (m p : ℕ) → m < p → (if b then 1 else 0) + 2 * m < p * 2
doubled_fits true m p lt = omega arith
doubled_fits false m p lt = omega arith

number_fits : (k : ℕ) (row : ℕ → Bool) → number_of k row < 2 ^ k
unfolding number_of
number_fits zero row = omega arith
number_fits (suc k) row = rw (pow-suc 2 k) (doubled_fits (row 0) (number_of k (λ v. row (suc v))) (2 ^ k) (number_fits k (λ v. row (suc v))))

lowest : (b : Bool) (m : ℕ) → (((if b then 1 else 0) + 2 * m) % 2 == 1) ≡ b
lowest true m = let e : (1 + 2 * m) % 2 ≡ 1 = omega arith in rw e refl
lowest false m = let e : (0 + 2 * m) % 2 ≡ 0 = omega arith in rw e refl

upper : (b : Bool) (m : ℕ) → ((if b then 1 else 0) + 2 * m) / 2 ≡ m
upper true m = omega arith
upper false m = omega arith

bit_of-number_of : (k : ℕ) (row : ℕ → Bool) (v : ℕ) → v < k → bit_of (number_of k row) v ≡ row v
unfolding number_of
bit_of-number_of zero row v lt = absurd (omega arith)
bit_of-number_of (suc k) row zero lt = rw (bit_at_lowest ((if row 0 then 1 else 0) + 2 * number_of k (λ v. row (suc v)))) (lowest (row 0) (number_of k (λ v. row (suc v))))
bit_of-number_of (suc k) row (suc i) lt =
    rw (bit_at-suc ((if row 0 then 1 else 0) + 2 * number_of k (λ v. row (suc v))) i, upper (row 0) (number_of k (λ v. row (suc v))))
    (bit_of-number_of k (λ v. row (suc v)) i (omega arith))

from_zero : (t : Tree) → IsFrom 0 t
from_zero (leaf b) = tt
from_zero (branch v low high) = omega arith

at_number : (w : ℕ) (t : Tree) (row : ℕ → Bool) → IsReduced t → IsBelow w t → value t row ≡ value t (bit_of (number_of w row))
at_number w t row r below = value_agrees 0 w t row (bit_of (number_of w row)) r (from_zero t) below (λ v le lt. sym (bit_of-number_of w row v lt))

same_below : (w : ℕ) (s t : Tree) → IsReduced s → IsReduced t → IsBelow w s → IsBelow w t
    → ((number : ℕ) → number < 2 ^ w → value s (bit_of number) ≡ value t (bit_of number)) → SameRows s t
same_below w s t r q s_below t_below same = λ row.
    at_number w s row r s_below ∙ same (number_of w row) (number_fits w row) ∙ sym (at_number w t row q t_below)

-- diagrams with the same numbers have the same rows
pub same_numbers : (nodes : List Node) (a b : ℕ) → IsSound nodes → IsOf (trees nodes) a → IsOf (trees nodes) b
    → ((number : ℕ) → number < 2 ^ 64 → value (tree (trees nodes) a) (bit_of number) ≡ value (tree (trees nodes) b) (bit_of number))
    → SameRows (tree (trees nodes) a) (tree (trees nodes) b)
same_numbers nodes a b s la lb same =
    same_below 64 (tree (trees nodes) a) (tree (trees nodes) b) (reduced nodes a s la) (reduced nodes b s lb) (in_range nodes a s la) (in_range nodes b s lb) same

-- equal numbers of nodes exactly where the rows below 2^64 are equal
pub numbers_exactly : (nodes : List Node) (a b : ℕ) → IsSound nodes → IsOf (trees nodes) a → IsOf (trees nodes) b
    → IsTrue (nat_eq a b) ↔ ((number : ℕ) → number < 2 ^ 64 → value (tree (trees nodes) a) (bit_of number) ≡ value (tree (trees nodes) b) (bit_of number))
numbers_exactly nodes a b s la lb =
    let exact = same_exactly nodes a b s la lb in
    (λ t. λ number lt. exact.0 t (bit_of number), λ same. exact.1 (same_numbers nodes a b s la lb same))
