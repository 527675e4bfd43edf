use Rattle.std.proofs.Common.{◌∙◌, ap}
use Rattle.prove_structure.specs.Walk.{read_whole}
use Rattle.prove_structure.proofs.WholeLemmas.{found_parts, found_all, whole_back}
use Rattle.prove_structure.proofs.reading.parts_of.Goals as goal

pub returns-clause-found : goal.returns-clause-found
returns-clause-found c =
    let read = rw c.as_slice.ensures at c.whole.ensures in
    found_parts c.args.p.now c.args.names.now c.args.comps.now c.requires.components c.args.c.now.facts c.whole.result read

pub returns-clause-only : goal.returns-clause-only
returns-clause-only c parts is =
    let read = rw c.as_slice.ensures at c.whole.ensures in
    let back = whole_back c.args.p.now c.args.names.now c.args.comps.now c.requires.components c.told_apart.ensures parts is.notes is.shape is.are_notes in
    found_all c.args.p.now c.args.names.now c.args.comps.now c.requires.components c.args.c.now.facts c.whole.result parts
    (ap (read_whole c.args.p.now c.args.names.now c.args.comps.now) is.is ∙ back) read
