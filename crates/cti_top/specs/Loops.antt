-- To believe, for a loop.
-- What is printed where a loop of a query is looked for.
--
-- The derivations that are looked at are those by clauses, of at most so many steps, in the order of a search. Printed
-- is the first of the first 100,000 that is a loop, in its two parts; or that none is, and how many there are; or that
-- none of the first 100,000 is, and there are more.
--
-- Where a loop is printed, its first part and then its second, however often, is a derivation of the query, which so is
-- not bounded. That follows from the loop. It is said besides, so that who wants to know that a query does not end has
-- nothing to read but what derivations are.
--
-- To believe: all of this file, over the goal of a query, `clause_nodes`, `GoesOn`, `IsFirstLoop`, `IsWithoutLoop` and
-- `IsStopped` of loop_finder, `positions_text` of certificate, and `Bounded` of cti_terms.
use Rattle.std.specs.Prelude.{◌≡◌, ℕ, List, ◌++◌, codes, decimal}
use Rattle.certificate.specs.Text.{positions_text}
use Rattle.cti_terms.specs.Derive.{Bounded}
use Rattle.cti_terms.specs.Listing.{Listing}
use Rattle.cti_terms.specs.declared.derivation.Goal.{Goal}
use Rattle.loop_finder.specs.ClauseNodes.{clause_nodes}
use Rattle.loop_finder.specs.Looked.{IsFirstLoop, IsWithoutLoop, IsStopped}
use Rattle.loop_finder.specs.Loop.{GoesOn}
use Rattle.cti_top.specs.Queries.{Known, IsQueryOf}
use Rattle.cti_top.specs.Runs.{IsKnown}
use Rattle.cti_top.specs.declared.status.Status.{Status}
use Rattle.cti_top.specs.declared.status.Status.TheVariants.{Done, No, Stopped}

-- the lines, each with its newline
abbrev pub loop_line : List ℕ → List ℕ → List ℕ
loop_line before cycle = codes "loop(" ++ positions_text before ++ codes "," ++ positions_text cycle ++ codes ").\n"

abbrev pub no_loop_line : ℕ → List ℕ
no_loop_line n = codes "no_loop(" ++ decimal n ++ codes ").\n"

abbrev pub stopped_line : List ℕ
stopped_line = codes "stopped(100000).\n"

-- the text is what is printed for a goal of a program and derivations of at most d steps, with this status
pub data IsTextOfLoop (p : Listing) (g : Goal) (d : ℕ) (status : Status) (text : List ℕ) : Type 0 where
  found : (before cycle : List ℕ) → IsFirstLoop p g 100000 (clause_nodes p d g) before cycle → GoesOn p g before cycle → ¬ Bounded p g → status ≡ Done
      → text ≡ loop_line before cycle → IsTextOfLoop p g d status text
  none : (n : ℕ) → IsWithoutLoop p g 100000 (clause_nodes p d g) n → status ≡ No → text ≡ no_loop_line n → IsTextOfLoop p g d status text
  more : IsStopped p g 100000 (clause_nodes p d g) → status ≡ Stopped → text ≡ stopped_line → IsTextOfLoop p g d status text

-- the text is what is printed for a query of the program that these bytes are
pub record IsLoopSearchOf (bytes query : List ℕ) (d : ℕ) (status : Status) (text : List ℕ) : Type 0 where
  pub known : Known
  pub is : IsKnown bytes known
  pub names : List (List ℕ)
  pub program : Listing
  pub goal : Goal
  pub asked : IsQueryOf known query names program goal
  pub looked : IsTextOfLoop program goal d status text
