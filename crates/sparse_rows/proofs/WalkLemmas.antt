-- Walks over a row, a number at a time.
use Rattle.std.proofs.Common.{◌≡◌, ℕ, suc, ℤ, pos, List, [], ◌∷◌, ◌+◌, ◌-◌, ◌<◌, ◌≤◌, drop, length, get_or, sym, ap, ◌∙◌, arith}
use Rattle.exact128.specs.Sums.{entry}
use Rattle.linear_rows.specs.Solving.{zeros}
use Rattle.sparse_rows.specs.Sparse.{spread, first_zeros, rest_at, StandsAt}
use Rattle.sparse_rows.specs.declared.part.Part.{Part}
use Rattle.sparse_rows.specs.declared.part.Place.{Place}
use Rattle.sparse_rows.proofs.SparseLemmas.{begins, walk_zeros, walk_number, nothing_left}

-- a place before which one number less has been seen
pub record Next (parts : List Part) (tail : ℕ) (p : Place) (x : ℤ) (q : Place) : Type 0 where
  pub number : x ≡ entry (rest_at parts tail p) 0
  pub rest : (k : ℕ) → entry (rest_at parts tail q) k ≡ entry (rest_at parts tail p) (suc k)

seen : (parts : List Part) (tail : ℕ) (p : Place) (number : ℤ) (q : Place) → rest_at parts tail p ≡ number ∷ rest_at parts tail q → Next parts tail p number q
seen parts tail p number q e = record {
  number = sym (ap (λ l. entry l 0) e);
  rest = λ k. sym (ap (λ l. entry l (suc k)) e);
}

pub next_zero : (parts : List Part) (tail : ℕ) (p : Place) (before : ℕ) → 0 < p.before → before ≡ p.before - 1 → Next parts tail p (pos 0) (record { index = p.index; before = before })
next_zero parts tail p before h e = seen parts tail p (pos 0) (record { index = p.index; before = before }) (walk_zeros parts tail 0 p before h (omega arith))

pub next_number : (parts : List Part) (tail : ℕ) (p q : Place) (x : Part) → p.before ≡ 0 → p.index < length parts → x ≡ get_or parts p.index x → q.index ≡ p.index + 1 → q.before ≡ first_zeros (drop (p.index + 1) parts) tail → Next parts tail p x.number q
next_number parts tail p q x e h ex ei eb = seen parts tail p x.number q (walk_number parts tail 0 p q x e h ex ei eb)

pub next_past : (parts : List Part) (tail : ℕ) (p : Place) → p.before ≡ 0 → length parts ≤ p.index → Next parts tail p (pos 0) p
next_past parts tail p e h =
    let none : rest_at parts tail p ≡ [] = nothing_left parts tail p h ∙ ap zeros e in
    record {
      number = sym (ap (λ l. entry l 0) none);
      rest = λ k. ap (λ l. entry l k) none ∙ sym (ap (λ l. entry l (suc k)) none);
    }

-- where a walk stands
pub stands_first : (parts : List Part) (tail : ℕ) (p : Place) → p.index ≡ 0 → p.before ≡ first_zeros (drop 0 parts) tail → StandsAt parts tail 0 p
stands_first parts tail p ei eb = λ k. ap (λ l. entry l k) (begins parts tail 0 p ei eb) ∙ ap (entry (spread parts tail)) (at_zero k)
  where
    at_zero : (k : ℕ) → k ≡ 0 + k
    at_zero k = omega arith

pub stands_next : (parts : List Part) (tail at : ℕ) (p q : Place) → StandsAt parts tail at p → ((k : ℕ) → entry (rest_at parts tail q) k ≡ entry (rest_at parts tail p) (suc k)) → StandsAt parts tail (at + 1) q
stands_next parts tail at p q s h = λ k. h k ∙ s (suc k) ∙ ap (entry (spread parts tail)) (one_more k)
  where
    one_more : (k : ℕ) → at + suc k ≡ at + 1 + k
    one_more k = omega arith

pub stands_here : (parts : List Part) (tail at : ℕ) (p : Place) (number : ℤ) → StandsAt parts tail at p → number ≡ entry (rest_at parts tail p) 0 → number ≡ entry (spread parts tail) at
stands_here parts tail at p number s e = e ∙ s 0 ∙ ap (entry (spread parts tail)) none
  where
    none : at + 0 ≡ at
    none = omega arith
