-- Private.
-- What lets a session take the clauses of a text, one after another. Nothing here has to be believed.
use Rattle.std.specs.Prelude.{◌<◌, ◌≤◌, ◌+◌, ◌-◌, ◌^◌, ℕ, List, length}
use Rattle.std.specs.List.{AllByRecursion}
use Rattle.edit_texts.specs.Snapshot.{Snapshot, HasProgram, nodes_in}
use Rattle.prolog_reader.specs.Fit.{IsFit}
use Rattle.prolog_terms.specs.Clauses.{Clause}

-- the session has the program of its clauses, and those that are left are fit, with no more nodes in all than a text
-- has
pub record IsReady (names : List (List ℕ)) (s : Snapshot) (left : List Clause) : Type 0 where
  pub program : HasProgram names s
  pub room : length names < 2 ^ 32 - 3
  pub fit : AllByRecursion (IsFit (length names)) left
  pub small : nodes_in s.clauses + nodes_in left ≤ 2097152
