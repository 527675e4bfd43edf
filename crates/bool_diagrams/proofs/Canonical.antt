-- Reduced trees with the same rows are the same.
use Rattle.std.proofs.Common.{◌≡◌, ◌⊎◌, ℕ, ◌+◌, ◌≤◌, Bool, true, false, refl, sym, ◌∙◌, ap, subst, inl, inr, arith}
use Rattle.std.proofs.lemmas.Bool.Decides.{nat_tests}
use Rattle.bool_diagrams.specs.Tree.{Tree, leaf, branch, value, with_value, IsFrom, IsReduced, SameRows}

pub at_value : (row : ℕ → Bool) (v : ℕ) (b : Bool) → with_value row v b v ≡ b
at_value row v b = grind (arith, nat_tests)

pub off_value : (row : ℕ → Bool) (v u : ℕ) (b : Bool) → v + 1 ≤ u → with_value row v b u ≡ row u
off_value row v u b lt = grind (arith, nat_tests)

-- a tree has one value on rows that agree everywhere
pub value_same : (t : Tree) (row other : ℕ → Bool) → ((v : ℕ) → row v ≡ other v) → value t row ≡ value t other
value_same (leaf b) row other agree = refl
value_same (branch v low high) row other agree =
    let low_same = value_same low row other agree in
    let high_same = value_same high row other agree in
    rw (agree v, low_same, high_same) refl

pub from_later : (t : Tree) (v w : ℕ) → v ≤ w → IsFrom w t → IsFrom v t
from_later (leaf b) v w le f = tt
from_later (branch u low high) v w le f = omega arith

-- a tree from v + 1 on does not read v
pub reads_later : (t : Tree) (row : ℕ → Bool) (v : ℕ) (b : Bool) → IsReduced t → IsFrom (v + 1) t → value t (with_value row v b) ≡ value t row
reads_later (leaf c) row v b r f = refl
reads_later (branch w low high) row v b r f =
    let low_same = reads_later low row v b r.3 (from_later low (v + 1) (w + 1) (omega arith) r.0) in
    let high_same = reads_later high row v b r.4 (from_later high (v + 1) (w + 1) (omega arith) r.1) in
    let at = off_value row v w b f in
    rw (at, low_same, high_same) refl

-- the branches of a tree, by rows
low_rows : (v : ℕ) (low high t : Tree) → IsReduced (branch v low high) → IsReduced t → IsFrom (v + 1) t → SameRows (branch v low high) t → SameRows low t
low_rows v low high t r q f same = λ row.
    let at = at_value row v false in
    let whole = same (with_value row v false) in
    let left = reads_later low row v false r.3 r.0 in
    let right = reads_later t row v false q f in
    sym left ∙ rw at at whole ∙ right

high_rows : (v : ℕ) (low high t : Tree) → IsReduced (branch v low high) → IsReduced t → IsFrom (v + 1) t → SameRows (branch v low high) t → SameRows high t
high_rows v low high t r q f same = λ row.
    let at = at_value row v true in
    let whole = same (with_value row v true) in
    let left = reads_later high row v true r.4 r.1 in
    let right = reads_later t row v true q f in
    sym left ∙ rw at at whole ∙ right

swapped : (s t : Tree) → SameRows s t → SameRows t s
swapped s t same = λ row. sym (same row)

-- a constant is a leaf
constant : (s : Tree) (b : Bool) → IsReduced s → SameRows s (leaf b) → s ≡ leaf b
constant (leaf c) b r same = ap leaf (same (λ _. true))
constant (branch v low high) b r same =
    let low_is = constant low b r.3 (low_rows v low high (leaf b) r tt tt same) in
    let high_is = constant high b r.4 (high_rows v low high (leaf b) r tt tt same) in
    absurd (r.2 (low_is ∙ sym high_is))

abbrev IsOnly : Tree → Type 0
IsOnly t = (s : Tree) → IsReduced s → SameRows s t → s ≡ t

both_low : (v : ℕ) (a b c d : Tree) → IsReduced (branch v a b) → IsReduced (branch v c d) → SameRows (branch v a b) (branch v c d) → SameRows a c
both_low v a b c d r q same = λ row.
    let at = at_value row v false in
    let whole = rw at at (same (with_value row v false)) in
    sym (reads_later a row v false r.3 r.0) ∙ whole ∙ reads_later c row v false q.3 q.0

both_high : (v : ℕ) (a b c d : Tree) → IsReduced (branch v a b) → IsReduced (branch v c d) → SameRows (branch v a b) (branch v c d) → SameRows b d
both_high v a b c d r q same = λ row.
    let at = at_value row v true in
    let whole = rw at at (same (with_value row v true)) in
    sym (reads_later b row v true r.4 r.1) ∙ whole ∙ reads_later d row v true q.4 q.1

order : (v w : ℕ) → (v ≡ w) ⊎ ((v + 1 ≤ w) ⊎ (w + 1 ≤ v))
order v w = grind arith

only_branch : (w : ℕ) (low high : Tree) → IsReduced (branch w low high) → IsOnly low → IsOnly high → IsOnly (branch w low high)
only_branch w low high q only_low only_high (leaf b) r same = sym (constant (branch w low high) b q (swapped (leaf b) (branch w low high) same))
only_branch w low high q only_low only_high (branch v a b) r same =
    elim (order v w) [
      | inl e ↦
          let P : ℕ → Type 0 = λ u. IsReduced (branch u a b) × SameRows (branch u a b) (branch w low high) in
          let here : P w = subst P e (r, same) in
          let low_is = only_low a r.3 (both_low w a b low high here.0 q here.1) in
          let high_is = only_high b r.4 (both_high w a b low high here.0 q here.1) in
          rw (e, low_is, high_is) refl
      | inr (inl lt) ↦
          let a_is = only_branch w low high q only_low only_high a r.3 (low_rows v a b (branch w low high) r q lt same) in
          let b_is = only_branch w low high q only_low only_high b r.4 (high_rows v a b (branch w low high) r q lt same) in
          absurd (r.2 (a_is ∙ sym b_is))
      | inr (inr lt) ↦
          let back = swapped (branch v a b) (branch w low high) same in
          let low_is = only_low (branch v a b) r (swapped low (branch v a b) (low_rows w low high (branch v a b) q r lt back)) in
          let high_is = only_high (branch v a b) r (swapped high (branch v a b) (high_rows w low high (branch v a b) q r lt back)) in
          absurd (q.2 (sym low_is ∙ high_is))
    ]

-- reduced trees with the same rows are one tree
pub same_tree : (t s : Tree) → IsReduced t → IsReduced s → SameRows s t → s ≡ t
same_tree (leaf b) s q r same = constant s b r same
same_tree (branch w low high) s q r same =
    only_branch w low high q (λ u. same_tree low u q.3) (λ u. same_tree high u q.4) s r same
