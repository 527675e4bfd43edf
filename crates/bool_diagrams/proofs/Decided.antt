-- Joining with a constant, or with itself.
use Rattle.std.proofs.Common.{◌≡◌, ◌⊎◌, ℕ, ◌&&◌, ◌||◌, Bool, true, false, not, Some, inl, inr, refl, arith}
use Rattle.bool_diagrams.specs.declared.connective.Connective.{Connective}
use Rattle.bool_diagrams.specs.declared.connective.Connective.TheVariants.{And, Or, Iff}
use Rattle.bool_diagrams.specs.Joins.{IsDecided, neutral, absorbing, with_itself}
use Rattle.bool_diagrams.specs.Rows.{iff}
use Rattle.bool_diagrams.proofs.Nodes.{tree_constant}

and_false : (x : Bool) → (x && false) ≡ false
and_false true = refl
and_false false = refl

and_true : (x : Bool) → (x && true) ≡ x
and_true true = refl
and_true false = refl

pub or_false : (x : Bool) → (x || false) ≡ x
or_false true = refl
or_false false = refl

or_true : (x : Bool) → (x || true) ≡ true
or_true true = refl
or_true false = refl

iff_true : (x : Bool) → iff x true ≡ x
iff_true true = refl
iff_true false = refl

and_self : (x : Bool) → (x && x) ≡ x
and_self true = refl
and_self false = refl

or_self : (x : Bool) → (x || x) ≡ x
or_self true = refl
or_self false = refl

iff_self : (x : Bool) → iff x x ≡ true
iff_self true = refl
iff_self false = refl

-- no row on the right is the rows that the left lacks
pub iff_false : (x : Bool) → iff x false ≡ not x
iff_false true = refl
iff_false false = refl

pub passes_left : (c : Connective) (a b : ℕ) → a ≡ neutral c → IsDecided c a b b
passes_left And a b e ts la lb = let is = tree_constant ts 1 (omega arith) in record { of = lb; rows = λ row. rw (e, is) refl; from = λ v h k. k }
passes_left Or a b e ts la lb = let is = tree_constant ts 0 (omega arith) in record { of = lb; rows = λ row. rw (e, is) refl; from = λ v h k. k }
passes_left Iff a b e ts la lb = let is = tree_constant ts 1 (omega arith) in record { of = lb; rows = λ row. rw (e, is) refl; from = λ v h k. k }

pub passes_right : (c : Connective) (a b : ℕ) → b ≡ neutral c → IsDecided c a b a
passes_right And a b e ts la lb = let is = tree_constant ts 1 (omega arith) in record { of = la; rows = λ row. rw (e, is, and_true) refl; from = λ v h k. h }
passes_right Or a b e ts la lb = let is = tree_constant ts 0 (omega arith) in record { of = la; rows = λ row. rw (e, is, or_false) refl; from = λ v h k. h }
passes_right Iff a b e ts la lb = let is = tree_constant ts 1 (omega arith) in record { of = la; rows = λ row. rw (e, is, iff_true) refl; from = λ v h k. h }

pub itself : (c : Connective) (a b : ℕ) → a ≡ b → IsDecided c a b (with_itself c a)
itself And a b e ts la lb = record { of = la; rows = λ row. rw (← e, and_self) refl; from = λ v h k. h }
itself Or a b e ts la lb = record { of = la; rows = λ row. rw (← e, or_self) refl; from = λ v h k. h }
itself Iff a b e ts la lb = let is = tree_constant ts 1 (omega arith) in record { of = omega arith; rows = λ row. rw (← e, iff_self, is) refl; from = λ v h k. rw is tt }

pub stops : (c : Connective) (a b z : ℕ) → absorbing c ≡ Some z → (a ≡ z) ⊎ (b ≡ z) → IsDecided c a b z
stops And a b z e which ts la lb =
    let zero_is : z ≡ 0 = cc in
    let is = tree_constant ts 0 (omega arith) in
    record {
      of = omega arith;
      rows = λ row. elim which [ inl a_is ↦ rw (a_is, zero_is, is) refl | inr b_is ↦ rw (b_is, zero_is, is, and_false) refl ];
      from = λ v h k. rw (zero_is, is) tt;
    }
stops Or a b z e which ts la lb =
    let one_is : z ≡ 1 = cc in
    let is = tree_constant ts 1 (omega arith) in
    record {
      of = omega arith;
      rows = λ row. elim which [ inl a_is ↦ rw (a_is, one_is, is) refl | inr b_is ↦ rw (b_is, one_is, is, or_true) refl ];
      from = λ v h k. rw (one_is, is) tt;
    }
stops Iff a b z e which ts la lb = cc
