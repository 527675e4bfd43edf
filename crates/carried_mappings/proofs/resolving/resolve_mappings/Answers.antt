use Rattle.std.proofs.Common.{subst, sym}
use Rattle.component_clauses.specs.Numbered.{AreOwnClauses}
use Rattle.carried_mappings.proofs.resolving.resolve_mappings.Goals as goal

pub resolve_sources-requires-clause-sources : goal.resolve_sources-requires-clause-sources
resolve_sources-requires-clause-sources g c =
    let e = c.args.edit.now in
    record {
      edit = c.requires.edit;
      rows = c.requires.old.rows;
      proofs = c.requires.old.proofs;
      each = c.requires.old.each;
      own_before = subst (AreOwnClauses e.before.now e.components_before.now) (sym c.as_slice.ensures.value) c.in_ok-own_before.ensures;
      own = subst (AreOwnClauses e.after.now e.components.now) (sym c.as_slice-2.ensures.value) c.in_ok-own.ensures;
    }
