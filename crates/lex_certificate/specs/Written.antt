-- Private.
-- The second half of the facts of parts, as they are written. Nothing here has to be believed.
use Rattle.std.specs.Prelude.{ℕ, List, ◌++◌}
use Rattle.cti_terms.specs.Listing.{Listing}
use Rattle.lex_certificate.specs.declared.fact.LexFact.{LexFact}
use Rattle.lex_certificate.specs.declared.parts.LexParts.{LexParts}
use Rattle.lex_certificate.specs.Order.{level_facts, drop_facts, pre_facts, stuck_facts}

abbrev pub list_facts : Listing → List (List ℕ) → LexParts → List LexFact
list_facts p names parts = level_facts p names parts.lists ++ drop_facts parts.drops ++ pre_facts p names parts.preconditions ++ stuck_facts p names parts.stuck
