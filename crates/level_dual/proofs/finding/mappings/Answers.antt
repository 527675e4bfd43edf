use Rattle.std.proofs.Common.{◌∙◌, sym}
use Rattle.component_clauses.proofs.OwnClauses.{its_clauses}
use Rattle.level_dual.proofs.finding.mappings.Goals as goal

pub component_mappings-requires-clause-clauses : goal.component_mappings-requires-clause-clauses
component_mappings-requires-clause-clauses g c = its_clauses _ c.in_ok-own.own.items c.requires.components c.in_ok-own.ensures c.requires.inner c.index.result.now (sym (c.as_slice.ensures ∙ c.index.ensures))
