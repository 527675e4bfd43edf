use Rattle.std.proofs.Common.{sym}
use Rattle.component_clauses.proofs.OwnClauses.{its_clauses}
use Rattle.carried_mappings.proofs.resolving.MappingSources.searched.Goals as goal

pub component_mappings-requires-clause-clauses : goal.component_mappings-requires-clause-clauses
component_mappings-requires-clause-clauses g c =
    let s = c.args.self.now.sources in
    its_clauses _ s.own.now c.requires.sources.sources.edit.components c.requires.sources.sources.own c.requires.inner c.index-self-c.result (sym c.as_slice.ensures)
