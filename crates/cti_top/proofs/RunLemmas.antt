-- How a run ends.
use Rattle.std.proofs.Common.{refl, ◌≡◌, ℕ}
use Rattle.std.specs.Prelude.{◌↔◌}
use Rattle.cti_terms.specs.Listing.{Listing}
use Rattle.cti_terms.specs.Answers.{HasWide}
use Rattle.cti_terms.specs.Nodes.{HasMoreNodes}
use Rattle.cti_terms.specs.declared.derivation.Goal.{Goal}
use Rattle.ld_resolver.specs.declared.running.Ending.{Ending}
use Rattle.ld_resolver.specs.declared.running.Ending.TheVariants as ending
use Rattle.cti_top.specs.Answers.{status_of}
use Rattle.cti_top.specs.Runs.{Ends, wide, more, no_more}

-- the ending says whether a goal was wide, and whether there are more nodes
pub ends_as : (p : Listing) (g : Goal) (n : ℕ) (e : Ending) → (e ≡ ending.Stopped) ↔ ((¬ HasWide p g n) × HasMoreNodes p g n)
    → (e ≡ ending.Finished) ↔ ((¬ HasWide p g n) × (¬ HasMoreNodes p g n)) → (e ≡ ending.Overflow) ↔ HasWide p g n → Ends p g n (status_of e) e
ends_as p g n ending.Stopped stopped finished overflow = let h = stopped.0 refl in more h.0 h.1
ends_as p g n ending.Finished stopped finished overflow = let h = finished.0 refl in no_more h.0 h.1
ends_as p g n ending.Overflow stopped finished overflow = wide (overflow.0 refl)
