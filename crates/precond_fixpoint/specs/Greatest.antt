-- To believe, for the modes.
-- The greatest preconditions of a component for a mapping, and why smaller supports are better.
--
-- A component is given by the test of its members, a mapping by its coefficients. What is allowed of lower predicates
-- is given. A row of a predicate has as many values as the predicate has arguments.
--
-- To believe: `KeepsIn`, `IsGreatestIn`.
-- Source: preconditions as in Mesnard and Neumerkel 2001, one greatest solution for each mapping.
use Rattle.std.specs.Prelude.{◌≡◌, ℕ, ◌<◌, Bool, true, if◌then◌else◌, IsTrue, List, [], ◌∷◌, length, map, take, slice_get, Some, ◌⊎◌}
use Rattle.std.specs.List.{AllByRecursion}
use Rattle.cti_terms.specs.Tree.{Tree}
use Rattle.cti_terms.specs.Listing.{Listing}
use Rattle.cti_terms.specs.declared.atom_list.Atom.{Atom}
use Rattle.cti_terms.specs.declared.clauses.Clause.{Clause}
use Rattle.termination_model.specs.mappings.Coefficients.{coefficient}
use Rattle.termination_model.specs.grounds.Grounds.{Family, HasArity, truth_row, IsGround}
use Rattle.termination_model.specs.sizes.Rows.{Covers, IsUpper}
use Rattle.truth_rows.specs.Rules.{KeepsSets}

module _ (truth : (ℕ → Bool) → Tree → Bool) (p : Listing) (is_member : ℕ → Bool) (allowed grounds : Family) where
  -- the rows are true at positive coefficients, and keep the rule in the clauses of the members
  pub record KeepsIn (coefficients : ℕ → List ℕ) (pre : Family) : Type 0 where
    pub covered : (q : ℕ) (row : List Bool) → is_member q ≡ true → IsTrue (pre q row) → Covers (coefficients q) row
    pub rule : AllByRecursion (λ (k : Clause). is_member k.head.pred.0 ≡ true → KeepsSets truth pre allowed grounds is_member k) p.clauses

  -- each row of a member that the first family has, the second has too
  abbrev pub IsInsideIn : Family → Family → Type 0
  IsInsideIn f g = (q : ℕ) (row : List Bool) → is_member q ≡ true → HasArity p.preds q (length row) → IsTrue (f q row) → IsTrue (g q row)

  -- and no family that keeps the rule has more rows of members
  pub record IsGreatestIn (coefficients : ℕ → List ℕ) (pre : Family) : Type 0 where
    pub keeps : KeepsIn coefficients pre
    pub greatest : (other : Family) → KeepsIn coefficients other → IsInsideIn other pre

  -- what is removed is in no family that keeps the rule
  abbrev pub RemovesOnlyBroken : (ℕ → List ℕ) → Family → Family → Type 0
  RemovesOnlyBroken coefficients old new = (other : Family) → KeepsIn coefficients other → IsInsideIn other old → IsInsideIn other new

  -- some values give the head of a clause this row, and reach a call that is not in its set
  pub record IsBroken (pre : Family) (k : Clause) (row : List Bool) : Type 0 where
    pub values : ℕ → Bool
    pub head : truth_row truth values k.head ≡ row
    pub place : ℕ
    pub call : Atom
    pub there : slice_get k.body place ≡ Some call
    pub reached : AllByRecursion (IsGround truth grounds values) (take place k.body)
    pub outside : IsGround truth (if is_member call.pred.0 then pre else allowed) values call → ⊥

  -- some measure has the row and all that are upper to it, where measures are sets of rows
  abbrev pub AreAdmittedIn : List Family → ℕ → List Bool → Type 0
  AreAdmittedIn [] q row = ⊥
  AreAdmittedIn (f ∷ fs) q row = ((us : List Bool) → IsUpper us row → IsTrue (f q us)) ⊎ AreAdmittedIn fs q row

-- among members the support of the first coefficients is part of that of the second
abbrev pub IsWithinIn : (ℕ → Bool) → (ℕ → List ℕ) → (ℕ → List ℕ) → Type 0
IsWithinIn is_member cs ds = (q i : ℕ) → is_member q ≡ true → 0 < coefficient (cs q) i → 0 < coefficient (ds q) i

module _ (truth : (ℕ → Bool) → Tree → Bool) (p : Listing) (is_member : ℕ → Bool) (allowed grounds : Family) where
  -- the laws of the search from all covering rows downward
  pub record Search (coefficients : ℕ → List ℕ) : Type 0 where
    -- a family that keeps the rule is inside one that has every covering row
    pub start : (all other : Family) → ((q : ℕ) (row : List Bool) → is_member q ≡ true → HasArity p.preds q (length row) → Covers (coefficients q) row → IsTrue (all q row))
        → KeepsIn truth p is_member allowed grounds coefficients other → IsInsideIn truth p is_member allowed grounds other all
    -- removing broken rows of a clause removes only rows that no such family has
    pub step : (old new : Family) (i : ℕ) (k : Clause) → slice_get p.clauses i ≡ Some k → is_member k.head.pred.0 ≡ true
        → ((q : ℕ) (row : List Bool) → is_member q ≡ true → HasArity p.preds q (length row) → IsTrue (old q row) → IsTrue (new q row) ⊎ ((q ≡ k.head.pred.0) × IsBroken truth p is_member allowed grounds old k row))
        → ((j : ℕ) (b : Atom) → slice_get k.body j ≡ Some b → HasArity p.preds b.pred.0 (length b.args))
        → RemovesOnlyBroken truth p is_member allowed grounds coefficients old new
    -- where the last family keeps the rule it is the greatest
    pub last : (all last : Family) → ((other : Family) → KeepsIn truth p is_member allowed grounds coefficients other → IsInsideIn truth p is_member allowed grounds other all)
        → RemovesOnlyBroken truth p is_member allowed grounds coefficients all last → KeepsIn truth p is_member allowed grounds coefficients last
        → IsGreatestIn truth p is_member allowed grounds coefficients last

abbrev pub Searches : Type 0
Searches = (truth : (ℕ → Bool) → Tree → Bool) (p : Listing) (is_member : ℕ → Bool) (allowed grounds : Family) (coefficients : ℕ → List ℕ)
    → Search truth p is_member allowed grounds coefficients

-- mappings with their rows
abbrev pub Solved : Type 0
Solved = (ℕ → List ℕ) × Family

abbrev pub families : List Solved → List Family
families ss = map (λ (s : Solved). s.1) ss

abbrev pub SomeSolved : (Solved → Type 0) → List Solved → Type 0
SomeSolved P [] = ⊥
SomeSolved P (s ∷ ss) = P s ⊎ SomeSolved P ss

-- mappings one of which lies within each of the others admit at least what these admit
abbrev pub SmallerIsBetterIn : Type 0
SmallerIsBetterIn = (truth : (ℕ → Bool) → Tree → Bool) (p : Listing) (is_member : ℕ → Bool) (allowed grounds : Family) (ms ns : List Solved)
    → AllByRecursion (λ (m : Solved). IsGreatestIn truth p is_member allowed grounds m.0 m.1) ms
    → AllByRecursion (λ (n : Solved). KeepsIn truth p is_member allowed grounds n.0 n.1) ns
    → AllByRecursion (λ (n : Solved). SomeSolved (λ (m : Solved). IsWithinIn is_member m.0 n.0) ms) ns
    → (q : ℕ) (row : List Bool) → is_member q ≡ true → HasArity p.preds q (length row)
    → AreAdmittedIn truth p is_member allowed grounds (families ns) q row → AreAdmittedIn truth p is_member allowed grounds (families ms) q row

-- the rows of a mapping are among those of one that lies within it
abbrev pub LargerInside : Type 0
LargerInside = (truth : (ℕ → Bool) → Tree → Bool) (p : Listing) (is_member : ℕ → Bool) (allowed grounds : Family) (m n : Solved)
    → IsGreatestIn truth p is_member allowed grounds m.0 m.1 → KeepsIn truth p is_member allowed grounds n.0 n.1 → IsWithinIn is_member m.0 n.0
    → IsInsideIn truth p is_member allowed grounds n.1 m.1
