use Rattle.std.proofs.Common.{arith}
use Rattle.carried_preconditions.proofs.Later.{preconditions_later, sources_later}
use Rattle.carried_preconditions.proofs.resolving.resolve_each.Goals as goal

pub resolve-requires : goal.resolve-requires
resolve-requires g c =
    let s = c.args.sources.now in
    let e = s.clauses.now.edit.now in
    record {
      sources = sources_later s c.args.table.now c.loop-c.table c.loop-c.invariant.keeps c.requires.sources;
      old = preconditions_later (g.N.Norm.truth s.norm.now) e.before.now e.components_before.now c.clauses-before.ensures.sound c.requires.sources.clauses.edit.components_before c.args.table.now c.loop-c.table c.loop-c.invariant.keeps
          s.before.now.inputs c.requires.sources.before s.before.now.solved.now c.requires.old;
      inner = omega (arith, c.count-c-end.ensures, c.loop-c-test.true);
      found = c.loop-c.invariant.found;
    }
