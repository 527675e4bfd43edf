-- What is written where a loop was looked for.
use Rattle.std.proofs.Common.{◌≡◌, ℕ, List}
use Rattle.cti_terms.specs.Derive.{Bounded}
use Rattle.cti_terms.specs.Listing.{Listing}
use Rattle.cti_terms.specs.declared.derivation.Goal.{Goal}
use Rattle.loop_finder.specs.ClauseNodes.{clause_nodes}
use Rattle.loop_finder.specs.Finding.{IsLooked, IfLoop}
use Rattle.loop_finder.specs.Loop.{GoesOn}
use Rattle.loop_finder.specs.declared.finding.Looked.{Looked}
use Rattle.loop_finder.specs.declared.finding.Looked.TheVariants as looked
use Rattle.cti_top.specs.Answers.{looked_line, looked_status}
use Rattle.cti_top.specs.Loops.{IsTextOfLoop, found, none, more}
use Rattle.cti_top.specs.declared.status.Status.{Status}

-- the line of what was found, with its status
pub looked_as : (p : Listing) (g : Goal) (d : ℕ) (l : Looked) (status : Status) (text : List ℕ) → IsLooked p g (clause_nodes p d g) l → IfLoop (GoesOn p g) l
    → IfLoop (λ before cycle. Bounded p g → ⊥) l → status ≡ looked_status l → text ≡ looked_line l → IsTextOfLoop p g d status text
looked_as p g d (looked.Loop before cycle) status text is on unbounded s t = found before.items cycle.items is on unbounded s t
looked_as p g d (looked.NoLoop steps) status text is on unbounded s t = none steps is s t
looked_as p g d looked.Stopped status text is on unbounded s t = more is s t
