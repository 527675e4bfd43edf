-- To believe, for the command.
-- What is printed for a query: its answers among the nodes looked at, how many nodes there were, and whether there are
-- more.
--
-- To believe: all of this file, over the goal of a query, `run_lines` of term_text, `told` of ld_resolver, and
-- `answers`, `visited_nodes`, `longest`, `HasWide` and `HasMoreNodes` of cti_terms.
use Rattle.std.specs.Prelude.{◌≡◌, ◌⊎◌, ℕ, List, map, length}
use Rattle.cti_terms.specs.Listing.{Listing}
use Rattle.cti_terms.specs.Answers.{answers, visited_nodes, HasWide}
use Rattle.cti_terms.specs.Nodes.{HasMoreNodes, longest}
use Rattle.cti_terms.specs.declared.derivation.Goal.{Goal}
use Rattle.ld_resolver.specs.Told.{told}
use Rattle.ld_resolver.specs.declared.running.Ending.{Ending}
use Rattle.ld_resolver.specs.declared.running.Ending.TheVariants as ending
use Rattle.term_text.specs.RunLines.{run_lines}
use Rattle.cti_top.specs.Programs.{IsProgramOf}
use Rattle.cti_top.specs.Queries.{Known, IsQueryOf, IsQueryRefused}
use Rattle.cti_top.specs.declared.status.Status.{Status}
use Rattle.cti_top.specs.declared.status.Status.TheVariants.{Done, Stopped, Overflow}

-- the empty derivation or one of the first n nodes leaves a wide goal; or none does, and a goal has more than n nodes,
-- or it has not
pub data Ends (p : Listing) (g : Goal) (n : ℕ) : Status → Ending → Type 0 where
  wide : HasWide p g n → Ends p g n Overflow ending.Overflow
  more : ¬ HasWide p g n → HasMoreNodes p g n → Ends p g n Stopped ending.Stopped
  no_more : ¬ HasWide p g n → ¬ HasMoreNodes p g n → Ends p g n Done ending.Finished

-- the text is what is printed for a goal of a program and n nodes, with this status
pub record IsTextOfRun (names : List (List ℕ)) (p : Listing) (g : Goal) (n : ℕ) (status : Status) (text : List ℕ) : Type 0 where
  pub ending : Ending
  pub ends : Ends p g n status ending
  pub printed : text ≡ run_lines names p (map told (answers p g n)) (length (visited_nodes p g n)) (longest (visited_nodes p g n)) ending

-- a goal has no more than n nodes, and what is printed for it and n nodes goes with the status Done or Overflow
pub record IsFinished (p : Listing) (g : Goal) (n : ℕ) : Type 0 where
  pub enough : ¬ HasMoreNodes p g n
  pub done : (names : List (List ℕ)) (status : Status) (text : List ℕ) → IsTextOfRun names p g n status text → (status ≡ Done) ⊎ (status ≡ Overflow)

-- the bytes are the text of this program
abbrev pub IsKnown : List ℕ → Known → Type 0
IsKnown bytes known = IsProgramOf bytes known.names known.program known.table

-- the text is what is printed for a query of the program that these bytes are
pub record IsTextOfQuery (bytes query : List ℕ) (n : ℕ) (status : Status) (text : List ℕ) : Type 0 where
  pub known : Known
  pub is : IsKnown bytes known
  pub names : List (List ℕ)
  pub program : Listing
  pub goal : Goal
  pub asked : IsQueryOf known query names program goal
  pub ran : IsTextOfRun names program goal n status text

-- the query is refused, as one of the program that these bytes are, for a fault of this kind at this byte
pub record IsRefusedQuery (bytes query : List ℕ) (kind at : ℕ) : Type 0 where
  pub known : Known
  pub is : IsKnown bytes known
  pub refused : IsQueryRefused known query kind at
