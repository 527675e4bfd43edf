-- To believe, for the modes.
-- What is claimed of a program's predicates, and what makes the claims show that queries end.
--
-- Claims are functions on predicate numbers: size rows, ground rows, and for each component its measures. A measure is
-- a list of mappings, whose levels are compared in lexicographic order, with a set of truth rows for each predicate.
-- A single mapping that decreases is the list of one. Predicates of one rank are a component.
--
-- To believe: nothing, where only `Bounded` is wanted. `Shows` lists what has to be shown of claims so that queries
-- end. Source: level mappings and preconditions as in Mesnard and Neumerkel 2001, and Sohn and Van Gelder 1991.
use Rattle.std.specs.Prelude.{◌≡◌, ℕ, zero, suc, ◌<◌, ◌≤◌, ℤ, pos, negsuc, Bool, true, ◌⊎◌, List, [], ◌∷◌, map, take, slice_get, Some}
use Rattle.std.specs.List.{AllByRecursion}
use Rattle.cti_terms.specs.Tree.{Tree}
use Rattle.cti_terms.specs.declared.atom_list.Atom.{Atom}
use Rattle.cti_terms.specs.declared.clauses.Clause.{Clause}
use Rattle.cti_terms.specs.Listing.{Listing}
use Rattle.linear_rows.specs.Rows.{Holds, HoldsOn}
use Rattle.term_size.specs.Norm.{IsNorm}
use Rattle.termination_model.specs.grounds.Grounds.{Family, truth_row, IsGround, IsClosed}
use Rattle.termination_model.specs.sizes.Rows.{scaled, added, IsUpper, Covers}
use Rattle.termination_model.specs.sizes.Stated.{AreStated}
use Rattle.termination_model.specs.sizes.Systems.{row_over, system}

-- a natural coefficient for each argument of a predicate, and an offset
pub record Mapping : Type 0 where
  pub coefficients : ℕ → List ℕ
  pub offset : ℕ → ℕ

-- mappings whose levels are compared in order, and the truth rows from which calls stay in what is allowed
pub record Measure : Type 0 where
  pub mappings : List Mapping
  pub pre : Family

-- A norm, by its size, its truth and its size expression; the rank of each predicate, which is its component; and what
-- is claimed of predicates and components: size rows, ground rows, measures
pub record Claims : Type 0 where
  pub size : (ℕ → ℕ) → Tree → ℕ
  pub truth : (ℕ → Bool) → Tree → Bool
  pub rank : ℕ → ℕ
  pub expression : ℕ → Tree → List ℤ
  pub rows : ℕ → List (List ℤ)
  pub grounds : Family
  pub measures : ℕ → List Measure

-- one element at least
abbrev pub SomeOf : {X : Type 0} → (X → Type 0) → List X → Type 0
SomeOf P [] = ⊥
SomeOf P (x ∷ xs) = P x ⊎ SomeOf P xs

-- the sizes of an atom's arguments
abbrev pub sizes : Claims → (ℕ → ℕ) → Atom → List ℕ
sizes c s a = map (c.size s) a.args

-- the size rows of an atom's predicate hold at the sizes of its arguments
abbrev pub IsSized : Claims → (ℕ → ℕ) → Atom → Type 0
IsSized c s a = AllByRecursion (λ (r : List ℤ). Holds r 1 (sizes c s a)) (c.rows a.pred.0)

-- where the sizes of a clause's body obey the size rows, those of its head do
abbrev pub IsInductive : Claims → Clause → Type 0
IsInductive c k = (s : ℕ → ℕ) → AllByRecursion (IsSized c s) k.body → IsSized c s k.head

-- a clause calls nothing of a higher rank
abbrev pub IsRanked : Claims → Clause → Type 0
IsRanked c k = AllByRecursion (λ (b : Atom). c.rank b.pred.0 ≤ c.rank k.head.pred.0) k.body

-- the level of an atom, as a row over this number of variables
abbrev pub level_row : Claims → ℕ → Mapping → Atom → List ℤ
level_row c vars l a = row_over c.expression vars a.args (pos (l.offset a.pred.0) ∷ map pos (l.coefficients a.pred.0))

-- level of the head, less that of the call, less d
abbrev pub fall_row : Claims → Clause → Atom → ℕ → Mapping → List ℤ
fall_row c k b d l = added (level_row c k.vars l k.head) (scaled (negsuc 0) (added (level_row c k.vars l b) (pos d ∷ [])))

-- where the rows hold, the mapping at place i falls, and none before it rises
abbrev pub FallsOn : Claims → Clause → List (List ℤ) → Atom → ℕ → List Mapping → Type 0
FallsOn c k rows b i [] = ⊥
FallsOn c k rows b zero (l ∷ ls) = HoldsOn (suc k.vars) rows (fall_row c k b 1 l)
FallsOn c k rows b (suc i) (l ∷ ls) = HoldsOn (suc k.vars) rows (fall_row c k b 0 l) × FallsOn c k rows b i ls

-- each call in the component falls at some place, where the size rows of the atoms before it hold
abbrev pub Descends : Claims → Measure → Clause → Type 0
Descends c m k =
    (j : ℕ) (b : Atom) → slice_get k.body j ≡ Some b → c.rank b.pred.0 ≡ c.rank k.head.pred.0
    → (i : ℕ) × FallsOn c k (system c.expression c.rows k.vars (take j k.body)) b i m.mappings

-- some measure has the row and all rows upper to it
abbrev pub Admits : Claims → ℕ → List Bool → Type 0
Admits c q bs = SomeOf (λ (m : Measure). (us : List Bool) → IsUpper us bs → m.pre q us ≡ true) (c.measures (c.rank q))

-- from a row of the head, each call has a row in turn, or below the component one that is admitted
abbrev pub KeepsRule : Claims → Measure → Clause → Type 0
KeepsRule c m k =
    (v : ℕ → Bool) → m.pre k.head.pred.0 (truth_row c.truth v k.head) ≡ true
    → (j : ℕ) (b : Atom) → slice_get k.body j ≡ Some b → AllByRecursion (IsGround c.truth c.grounds v) (take j k.body)
    → (c.rank b.pred.0 ≡ c.rank k.head.pred.0 → m.pre b.pred.0 (truth_row c.truth v b) ≡ true)
    × (c.rank b.pred.0 < c.rank k.head.pred.0 → Admits c b.pred.0 (truth_row c.truth v b))

-- a row of a measure is true wherever a coefficient is positive
abbrev pub IsCovered : Claims → ℕ → Measure → Type 0
IsCovered c r m = (q : ℕ) (bs : List Bool) → c.rank q ≡ r → m.pre q bs ≡ true → AllByRecursion (λ (l : Mapping). Covers (l.coefficients q) bs) m.mappings

-- what is asked of a measure of the component r
pub record Serves (p : Listing) (c : Claims) (r : ℕ) (m : Measure) : Type 0 where
  pub covered : IsCovered c r m
  pub descends : AllByRecursion (λ (k : Clause). c.rank k.head.pred.0 ≡ r → Descends c m k) p.clauses
  pub rule : AllByRecursion (λ (k : Clause). c.rank k.head.pred.0 ≡ r → KeepsRule c m k) p.clauses

pub record Shows (p : Listing) (c : Claims) : Type 0 where
  pub norm : IsNorm c.size c.truth c.expression
  pub ranked : AllByRecursion (IsRanked c) p.clauses
  pub inductive : AllByRecursion (IsInductive c) p.clauses
  pub closed : IsClosed c.truth p c.grounds
  pub stated : AreStated p.arithmetic c.rows
  pub measures : (r : ℕ) → AllByRecursion (Serves p c r) (c.measures r)
