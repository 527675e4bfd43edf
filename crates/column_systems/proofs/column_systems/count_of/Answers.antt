use Rattle.std.proofs.Common.{◌∙◌, arith}
use Rattle.std.specs.Prelude.{pos}
use Rattle.cti_terms.specs.Spell.{tree_of}
use Rattle.cti_terms.specs.declared.syntax.Term.TheVariants.{Int}
use Rattle.column_systems.proofs.Lawful.{count_is}
use Rattle.column_systems.proofs.column_systems.count_of.Goals as goal

pub overflow_cast-result : goal.overflow_cast-result
overflow_cast-result g c =
    let n = g.C.Columns.count c.args.columns.now c.args.kind in
    let is = count_is c.new-list.result c.add_columns.new.list n ((g.C.Columns.columns c.args.columns.now).expression 0 (tree_of (Int (pos 0)))) c.new-list.ensures c.in_ok-add_columns.ensures in
    let few = c.requires in
    let long = c.len.ensures in
    omega (arith, is, few, long)

pub returns : goal.returns
returns g c =
    let n = g.C.Columns.count c.args.columns.now c.args.kind in
    c.len.ensures ∙ count_is c.new-list.result c.add_columns.new.list n ((g.C.Columns.columns c.args.columns.now).expression 0 (tree_of (Int (pos 0)))) c.new-list.ensures c.in_ok-add_columns.ensures
