use Rattle.termination_model.specs.sizes.Sizes.{rows_of}
use Rattle.carried_mappings.specs.FoundMappings.{AreFoundTo, AreKeptFound}
use Rattle.carried_mappings.proofs.resolving.MappingSources.resolve_all.Given as goal

abbrev pub invariant-loop-c : goal.invariant-loop-c
invariant-loop-c g l = record {
  found : AreFoundTo (g.N.Norm.expression l.norm) l.self.sources.edit.now.after.now l.self.sources.edit.now.components.now (rows_of l.self.sizes.now.rows) l.c l.all;
  kept : AreKeptFound l.self l.all;
}
