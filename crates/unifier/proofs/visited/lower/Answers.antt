use Rattle.std.proofs.Common.{false, slice_index_or, arith, ◌∙◌}
use Rattle.std.proofs.lemmas.List.{get_or_default, length-set}
use Rattle.unifier.proofs.VisitLaws.{among_within, flags_less}
use Rattle.unifier.proofs.visited.lower.Goals as goal

pub index_mut-requires : goal.index_mut-requires
index_mut-requires c =
    let flags = c.loop-variable.flags in
    let ys = c.args.variables.now in
    let i = c.loop-variable.variable-index in
    let y = slice_index_or ys i 0 in
    let h = among_within c.args.flags.now.items ys i y c.requires c.loop-variable-test.true (get_or_default ys i 0 y c.loop-variable-test.true) in
    omega (arith, h, c.loop-variable.invariant.size, flags.ok.0)

pub loop-variable-preserved : goal.loop-variable-preserved
loop-variable-preserved c =
    let flags = c.loop-variable.flags in
    let ys = c.args.variables.now in
    let i = c.loop-variable.variable-index in
    let y = slice_index_or ys i 0 in
    let e = get_or_default ys i 0 y c.loop-variable-test.true in
    let h = among_within c.args.flags.now.items ys i y c.requires c.loop-variable-test.true e in
    record {
      up = flags_less flags.items ys i y c.loop-variable.invariant.up c.loop-variable-test.true e (omega (arith, h, c.loop-variable.invariant.size));
      size = length-set flags.items y false ∙ c.loop-variable.invariant.size;
    }
