-- Private.
-- The text of a whole run, and how it ended. The command says the same in words of its own: nothing here has to be
-- believed.
use Rattle.std.specs.Prelude.{◌≡◌, ◌↔◌, ℕ, List, map, length}
use Rattle.cti_terms.specs.declared.derivation.Goal.{Goal}
use Rattle.cti_terms.specs.Listing.{Listing}
use Rattle.cti_terms.specs.Nodes.{HasMoreNodes, longest}
use Rattle.cti_terms.specs.Answers.{answers, visited_nodes, HasWide}
use Rattle.ld_resolver.specs.declared.running.Ending.{Ending}
use Rattle.ld_resolver.specs.declared.running.Ending.TheVariants.{Finished, Stopped, Overflow}
use Rattle.ld_resolver.specs.Told.{told}
use Rattle.term_text.specs.RunLines.{run_lines}

-- the text is the lines of the run of a goal within n nodes, which ended so
pub record IsRunText (names : List (List ℕ)) (p : Listing) (g : Goal) (n : ℕ) (text : List ℕ) (ending : Ending) : Type 0 where
  pub lines : text ≡ run_lines names p (map told (answers p g n)) (length (visited_nodes p g n)) (longest (visited_nodes p g n)) ending
  pub stopped : (ending ≡ Stopped) ↔ ((¬ HasWide p g n) × HasMoreNodes p g n)
  pub finished : (ending ≡ Finished) ↔ ((¬ HasWide p g n) × (¬ HasMoreNodes p g n))
  pub overflow : (ending ≡ Overflow) ↔ HasWide p g n
