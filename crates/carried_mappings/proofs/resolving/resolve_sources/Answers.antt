use Rattle.std.proofs.Common.{length, subst, sym}
use Rattle.termination_model.specs.sizes.Sizes.{rows_of}
use Rattle.solved_program.specs.Marks.{AreMarkedTo}
use Rattle.carried_mappings.proofs.Resolved.{parts_at}
use Rattle.carried_mappings.proofs.resolving.resolve_sources.Goals as goal

pub resolve_all-requires-clause-sources : goal.resolve_all-requires-clause-sources
resolve_all-requires-clause-sources g c =
    let s = c.args.sources in
    let e = s.edit.now in
    let rows_before = rows_of s.old.now.sizes.rows in
    record {
      sources = c.requires.sources;
      rows = c.requires.rows;
      stayed = subst (AreMarkedTo e (length e.components.now.members) rows_before (rows_of c.args.sizes.now.rows)) (sym c.as_slice.ensures.value) c.in_ok-stayed.ensures;
      each = c.requires.found.each;
      parts = λ k x at. parts_at (g.N.Norm.expression c.args.norm.now) e.before.now e.components_before.now rows_before c.requires.sources.edit.components_before c.args.found.now c.requires.found k x at;
      others = λ k x at not_so. (c.requires.found.found k x at).other not_so;
    }
