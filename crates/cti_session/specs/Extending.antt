-- Private.
-- Clauses that are added one after the other.
--
-- To believe: `first_fault`.
use Rattle.std.specs.Prelude.{◌≡◌, ◌+◌, ℕ, suc, List, [], ◌∷◌, ◌++◌, length, map, Option, None}
use Rattle.std.specs.List.{AllByRecursion}
use Rattle.clause_normal.specs.Definite.{added_fault}
use Rattle.clause_normal.specs.NormalForm.{Fault, first_of}
use Rattle.prolog_reader.specs.Fit.{IsFit}
use Rattle.prolog_terms.specs.Clauses.{Clause}
use Rattle.prolog_terms.specs.Terms.{clause_of}
use Rattle.prolog_terms.specs.declared.clause.ReadClause.{ReadClause}
use Rattle.edit_texts.specs.Snapshot.{nodes_in}

-- the first fault of clauses that are added to n clauses, one after the other
abbrev pub first_fault : List (List ℕ) → ℕ → List Clause → Option Fault
first_fault names n [] = None
first_fault names n (c ∷ cs) = first_of (added_fault names n c) (first_fault names (suc n) cs)

-- a list begins with another one
pub record StartsWith {X : Type 0} (xs ys : List X) : Type 0 where
  pub rest : List X
  pub is : ys ≡ xs ++ rest

-- these clauses stand after the old ones, and have so many nodes together
pub record IsPushed (old more now : List ReadClause) (nodes : ℕ) : Type 0 where
  pub clauses : now ≡ old ++ more
  pub counted : nodes ≡ nodes_in (map clause_of more)

-- of these clauses those before the rest stand after the old ones, and none of them had a fault there
pub record ArePushed (names : List (List ℕ)) (old more rest now : List ReadClause) (nodes : ℕ) : Type 0 where
  pub done : List ReadClause
  pub is : now ≡ old ++ done
  pub split : more ≡ done ++ rest
  pub fit : AllByRecursion (IsFit (length names)) (map clause_of rest)
  pub counted : nodes + nodes_in (map clause_of rest) ≡ nodes_in (map clause_of more)
  pub so_far : first_fault names (length old) (map clause_of more) ≡ first_fault names (length now) (map clause_of rest)
