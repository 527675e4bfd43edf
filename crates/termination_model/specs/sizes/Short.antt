-- Private.
-- What is shown by multipliers, over short systems.
--
-- `proofs_show` of `src/laws.rt` says that claims so shown are claims that show queries to end.
--
-- To believe: nothing.
use Rattle.std.specs.Prelude.{◌≡◌, ℕ, zero, suc, ◌≤ℤ◌, ℤ, pos, List, [], ◌∷◌, take, slice_get, Some, All}
use Rattle.std.specs.List.{AllByRecursion}
use Rattle.linear_rows.specs.Proves.{Proves}
use Rattle.cti_terms.specs.declared.atom_list.Atom.{Atom}
use Rattle.cti_terms.specs.declared.clauses.Clause.{Clause}
use Rattle.cti_terms.specs.Listing.{Listing, IsProgram}
use Rattle.term_size.specs.Norm.{IsNorm}
use Rattle.termination_model.specs.grounds.Grounds.{IsClosed}
use Rattle.termination_model.specs.claims.Claims.{Mapping, Measure, Claims, IsRanked, IsCovered, KeepsRule, fall_row, Shows}
use Rattle.termination_model.specs.sizes.Stated.{AreStated}
use Rattle.termination_model.specs.sizes.Systems.{row_over}
use Rattle.termination_model.specs.sizes.ShortSystems.{short_system}

-- some multipliers show that the row holds where the rows do, or that these hold nowhere
abbrev pub Provable : List (List ℤ) → List ℤ → Type 0
Provable rows target = (ms : List ℤ) × (d : ℕ) × All (λ m. pos 0 ≤ℤ m) ms × Proves rows ms target (pos d)

abbrev pub SizesProved : Claims → Clause → Type 0
SizesProved c k = AllByRecursion (λ (r : List ℤ). Provable (short_system c.expression c.rows k.vars k.body) (row_over c.expression k.vars k.head.args r)) (c.rows k.head.pred.0)

abbrev pub FallsProved : Claims → Clause → List (List ℤ) → Atom → ℕ → List Mapping → Type 0
FallsProved c k rows b i [] = ⊥
FallsProved c k rows b zero (l ∷ ls) = Provable rows (fall_row c k b 1 l)
FallsProved c k rows b (suc i) (l ∷ ls) = Provable rows (fall_row c k b 0 l) × FallsProved c k rows b i ls

abbrev pub DescendsProved : Claims → Measure → Clause → Type 0
DescendsProved c m k =
    (j : ℕ) (b : Atom) → slice_get k.body j ≡ Some b → c.rank b.pred.0 ≡ c.rank k.head.pred.0
    → (i : ℕ) × FallsProved c k (short_system c.expression c.rows k.vars (take j k.body)) b i m.mappings

-- what a checker tests of a measure of the component r
pub record ServesProved (p : Listing) (c : Claims) (r : ℕ) (m : Measure) : Type 0 where
  pub covered : IsCovered c r m
  pub descends : AllByRecursion (λ (k : Clause). c.rank k.head.pred.0 ≡ r → DescendsProved c m k) p.clauses
  pub rule : AllByRecursion (λ (k : Clause). c.rank k.head.pred.0 ≡ r → KeepsRule c m k) p.clauses

pub record ShowsProved (p : Listing) (c : Claims) : Type 0 where
  pub norm : IsNorm c.size c.truth c.expression
  pub ranked : AllByRecursion (IsRanked c) p.clauses
  pub sizes : AllByRecursion (SizesProved c) p.clauses
  pub closed : IsClosed c.truth p c.grounds
  pub stated : AreStated p.arithmetic c.rows
  pub measures : (r : ℕ) → AllByRecursion (ServesProved p c r) (c.measures r)

abbrev pub ProofsShow : Type 0
ProofsShow = (p : Listing) (c : Claims) → IsProgram p → ShowsProved p c → Shows p c
