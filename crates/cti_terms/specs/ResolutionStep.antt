-- Private.
-- A step of left-to-right resolution as a relation, in which no function unifies.
--
-- `resolution_is_a_function` of `src/laws.rt` says that this and `resolve` are one.
use Rattle.std.specs.Prelude.{◌≡◌, ℕ, zero, suc, ◌+◌, List, [], ◌∷◌, ◌++◌, map, slice_get, Some, IsSomeAnd}
use Rattle.cti_terms.specs.declared.atom_list.Atom.{Atom}
use Rattle.cti_terms.specs.declared.clauses.Clause.{Clause}
use Rattle.cti_terms.specs.declared.derivation.Goal.{Goal}
use Rattle.cti_terms.specs.Arithmetic.{Arithmetic, passes}
use Rattle.cti_terms.specs.Listing.{Listing}
use Rattle.cti_terms.specs.Unify.{Binding, Unifies, applied}
use Rattle.cti_terms.specs.Resolve.{over, raised, head_equations}

-- bs unifies the first atom with the raised head of the clause, which leaves the goal h
pub record Leaves (a : Atom) (rest : List Atom) (n : ℕ) (c : Clause) (bs : List Binding) (h : Goal) : Type 0 where
  pub pred : a.pred.0 ≡ c.head.pred.0
  pub unifies : Unifies (head_equations a n c) bs
  pub atoms : h.atoms ≡ map (over (applied bs)) (map (raised n) c.body ++ rest)
  pub fresh : h.fresh ≡ n + c.vars

-- the same of a goal's atoms, which are not none
abbrev pub LeavesFrom : List Atom → ℕ → Clause → List Binding → Goal → Type 0
LeavesFrom [] n c bs h = ⊥
LeavesFrom (a ∷ rest) n c bs h = Leaves a rest n c bs h

-- the first atom succeeds by itself by bs, and leaves the goal h
pub record Passes (ar : Arithmetic) (a : Atom) (rest : List Atom) (n : ℕ) (bs : List Binding) (h : Goal) : Type 0 where
  pub passes : passes ar a ≡ Some bs
  pub atoms : h.atoms ≡ map (over (applied bs)) rest
  pub fresh : h.fresh ≡ n

-- the same of a goal's atoms, which are not none
abbrev pub PassesFrom : Arithmetic → List Atom → ℕ → List Binding → Goal → Type 0
PassesFrom ar [] n bs h = ⊥
PassesFrom ar (a ∷ rest) n bs h = Passes ar a rest n bs h

-- the number resolves the goal by bs, and leaves h: 0 by itself, the others by a clause
abbrev pub Resolves : Listing → Goal → ℕ → List Binding → Goal → Type 0
Resolves p g zero bs h = PassesFrom p.arithmetic g.atoms g.fresh bs h
Resolves p g (suc i) bs h = IsSomeAnd (slice_get p.clauses i) (λ c. LeavesFrom g.atoms g.fresh c bs h)
