-- What was made of two halves.
use Rattle.std.proofs.Common.{◌≡◌, ℕ, ◌+◌, ◌≤◌, Bool, true, false, if◌then◌else◌, List, refl, ◌∙◌, arith}
use Rattle.std.proofs.lemmas.Bool.{ne_eqb}
use Rattle.bool_diagrams.specs.declared.connective.Connective.{Connective}
use Rattle.bool_diagrams.specs.declared.node.Node.{Node}
use Rattle.bool_diagrams.specs.Tree.{Tree, value, with_value, IsFrom, IsReduced}
use Rattle.bool_diagrams.specs.Rows.{IsOf, Keeps, tree}
use Rattle.bool_diagrams.specs.Joins.{Chooses, Stands, Joins, Quantifies, joined, with_itself}
use Rattle.bool_diagrams.proofs.Canonical.{at_value, reads_later, from_later}
use Rattle.bool_diagrams.proofs.Decided.{itself}
use Rattle.bool_diagrams.proofs.Nodes.{keeps_twice}

-- what was joined of two halves starts after the variable
pub half_from : (c : Connective) (old mid new : List Tree) (v x y i : ℕ) → Keeps old mid → Keeps mid new → IsOf old x → IsOf old y
    → IsFrom (v + 1) (tree old x) → IsFrom (v + 1) (tree old y) → Joins mid c x y i → IsFrom (v + 1) (tree new i)
half_from c old mid new v x y i k1 k2 x_of y_of f h j =
    let x_is = k1.trees x x_of in
    let y_is = k1.trees y y_of in
    let i_is = k2.trees i j.of in
    rw i_is (j.from (v + 1) (rw x_is f) (rw y_is h))

other_value : (row : ℕ → Bool) (v u : ℕ) (b : Bool) → (u ≡ v → ⊥) → with_value row v b u ≡ row u
other_value row v u b apart = rw (ne_eqb u v apart) refl

-- a diagram that does not ask the variable, quantified
pub unasked : (c : Connective) (ts : List Tree) (a v : ℕ) → IsOf ts a → IsReduced (tree ts a) → IsFrom (v + 1) (tree ts a) → Quantifies ts c a v (with_itself c a)
unasked c ts a v of red from =
    let d = itself c a a refl ts of of in
    record {
      of = d.of;
      rows = λ row. rw (reads_later (tree ts a) row v false red from, reads_later (tree ts a) row v true red from) (d.rows row);
      from = λ w h. d.from w h h;
    }

-- a node that asks the variable, quantified
pub asked : (c : Connective) (old new : List Tree) (a i : ℕ) (n : Node) → IsOf old a → IsReduced (tree old a) → Stands old a n → Keeps old new → IsOf old n.low → IsOf old n.high
    → Joins new c n.low n.high i → Quantifies new c a n.variable i
asked c old new a i n of red s k low_of high_of j =
    let red' = rw s.spells at red in
    let a_is = k.trees a of ∙ s.spells in
    let low_is = k.trees n.low low_of in
    let high_is = k.trees n.high high_of in
    record {
      of = j.of;
      rows = λ row.
          rw (
            a_is,
            at_value row n.variable false,
            at_value row n.variable true,
            reads_later (tree old n.low) row n.variable false red'.3 s.low_from,
            reads_later (tree old n.high) row n.variable true red'.4 s.high_from,
            ← low_is,
            ← high_is,
          ) (j.rows row);
      from = λ w h.
          let le : w ≤ n.variable = rw a_is at h in
          j.from w (rw low_is (from_later (tree old n.low) w (n.variable + 1) (omega arith) s.low_from)) (rw high_is (from_later (tree old n.high) w (n.variable + 1) (omega arith) s.high_from));
    }

-- what was quantified of a half starts after the node's variable
pub quantified_from : (c : Connective) (old mid new : List Tree) (u v x i : ℕ) → Keeps old mid → Keeps mid new → IsOf old x
    → IsFrom (u + 1) (tree old x) → Quantifies mid c x v i → IsFrom (u + 1) (tree new i)
quantified_from c old mid new u v x i k1 k2 x_of f q =
    let x_is = k1.trees x x_of in
    let i_is = k2.trees i q.of in
    rw i_is (q.from (u + 1) (rw x_is f))

-- a node that asks another variable first, from its halves
pub quantified_over : (c : Connective) (old s1 s2 new : List Tree) (a v low high i : ℕ) (n : Node) → IsOf old a → Stands old a n → IsOf old n.low → IsOf old n.high → (n.variable ≡ v → ⊥)
    → Keeps old s1 → Quantifies s1 c n.low v low → Keeps s1 s2 → Quantifies s2 c n.high v high → Keeps s2 new → Chooses s2 new n.variable low high i
    → Quantifies new c a v i
quantified_over c old s1 s2 new a v low high i n of s low_of high_of apart k1 q1 k2 q2 k3 made =
    let k12 = keeps_twice old s1 s2 k1 k2 in
    let k = keeps_twice old s2 new k12 k3 in
    let a_is = k.trees a of ∙ s.spells in
    record {
      of = made.of;
      rows = λ row.
          made.rows row ∙ (elim (row n.variable) as (λ b. row n.variable ≡ b
          → (if b then value (tree s2 high) row else value (tree s2 low) row) ≡ joined c (value (tree new a) (with_value row v false)) (value (tree new a) (with_value row v true))) [
            | true ↦ λ e. rw (a_is, other_value row v n.variable false apart, other_value row v n.variable true apart, e, ← k12.trees n.high high_of) (q2.rows row)
            | false ↦ λ e. rw (a_is, other_value row v n.variable false apart, other_value row v n.variable true apart, e, k2.trees low q1.of, ← k1.trees n.low low_of) (q1.rows row)
          ]) refl;
      from = λ w h. made.from w (rw a_is at h);
    }

-- a node's halves are known
pub low_known : (ts : List Tree) (i : ℕ) (n : Node) → Stands ts i n → IsOf ts n.low
low_known ts i n s = let of = s.of in let below = s.low_below in omega arith

pub high_known : (ts : List Tree) (i : ℕ) (n : Node) → Stands ts i n → IsOf ts n.high
high_known ts i n s = let of = s.of in let below = s.high_below in omega arith
