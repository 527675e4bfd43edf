use Rattle.std.proofs.Common.{length, refl, ◌∙◌, arith}
use Rattle.bool_diagrams.specs.declared.cube.Cell.TheVariants.{Zero, One}
use Rattle.bool_diagrams.specs.Rows.{tree}
use Rattle.bool_diagrams.proofs.Halves.{low_known, high_known}
use Rattle.bool_diagrams.proofs.Nodes.{tree_constant}
use Rattle.bool_diagrams.proofs.WalkLemmas.{filled, length-filled, walked_none, walked_all, walked_node, half_ready, low_ready, high_ready, level_first, cut_back, pushed}
use Rattle.bool_diagrams.proofs.table.Table.+walk.Goals as goal

pub returns-then-number-eq0-clause-found : goal.returns-then-number-eq0-clause-found
returns-then-number-eq0-clause-found t c =
    walked_none c.args.prefix.now.items c.args.width (tree c.args.self.now c.args.number) c.args.found.now.items c.requires.level
    (rw c.if-number-eq0.true (tree_constant c.args.self.now 0 (omega arith)))

pub returns-then-number-eq1-clause-found : goal.returns-then-number-eq1-clause-found
returns-then-number-eq1-clause-found t c =
    walked_all c.args.prefix.now.items c.resize.new.self.items c.args.width (tree c.args.self.now c.args.number) c.args.found.now.items c.push.new.self.items c.requires.level
    (rw c.if-number-eq1.true (tree_constant c.args.self.now 1 (omega arith)))
    (filled c.args.prefix.now.items c.resize.new.self.items _ c.args.width c.args.prefix.now.ok.0 c.requires.level c.in_ok-resize.ensures.items)
    (c.in_ok-push.ensures.items ∙ rw (c.new.ensures, c.in_ok-from_slice.ensures.items, c.deref.ensures.value) refl)

pub walk-requires : goal.walk-requires
walk-requires t c =
    let s = c.node_of-node.ensures.stands in
    let v = c.node_of-node.result.variable in
    let p = c.args.prefix.now.items in
    let q = c.resize-2.new.self.items in
    let le = level_first c.args.self.now c.args.number (length p) c.node_of-node.result s c.requires.from in
    let len = length-filled p q v le (filled p q _ v c.args.prefix.now.ok.0 le c.in_ok-resize-2.ensures.items) in
    let ready = half_ready c.args.self.now c.args.width c.args.number c.node_of-node.result p q c.push-2.new.self.items Zero s
    c.node_of-node.ensures.reduced c.requires.reads len c.in_ok-push-2.ensures.items in (
      let less = s.low_below in omega arith,
      (low_known _ _ _ s, (ready.1, (rw ready.0 s.low_from, low_ready c.args.self.now c.args.width c.args.number c.node_of-node.result s c.node_of-node.ensures.reduced c.requires.reads))),
    )

pub walk-requires-2 : goal.walk-requires-2
walk-requires-2 t c =
    let s = c.node_of-node.ensures.stands in
    let v = c.node_of-node.result.variable in
    let p = c.args.prefix.now.items in
    let q = c.resize-2.new.self.items in
    let le = level_first c.args.self.now c.args.number (length p) c.node_of-node.result s c.requires.from in
    let len = length-filled p q v le (filled p q _ v c.args.prefix.now.ok.0 le c.in_ok-resize-2.ensures.items) in
    let cut = cut_back c.walk.new.prefix.items q c.push-2.new.self.items c.truncate-2.new.self.items v Zero len c.in_ok-push-2.ensures.items c.in_ok-walk.ensures.prefix c.truncate-2.ensures.items in
    let ready = half_ready c.args.self.now c.args.width c.args.number c.node_of-node.result p q c.push-3.new.self.items One s
    c.node_of-node.ensures.reduced c.requires.reads len (pushed q c.truncate-2.new.self.items c.push-3.new.self.items One cut c.in_ok-push-3.ensures.items) in (
      let less = s.high_below in omega arith,
      (high_known _ _ _ s, (ready.1, (rw ready.0 s.high_from, high_ready c.args.self.now c.args.width c.args.number c.node_of-node.result s c.node_of-node.ensures.reduced c.requires.reads))),
    )

pub returns-clause-found : goal.returns-clause-found
returns-clause-found t c =
    let s = c.node_of-node.ensures.stands in
    let v = c.node_of-node.result.variable in
    let p = c.args.prefix.now.items in
    let q = c.resize-2.new.self.items in
    let le = level_first c.args.self.now c.args.number (length p) c.node_of-node.result s c.requires.from in
    let filled_is = filled p q _ v c.args.prefix.now.ok.0 le c.in_ok-resize-2.ensures.items in
    let len = length-filled p q v le filled_is in
    let cut = cut_back c.walk.new.prefix.items q c.push-2.new.self.items c.truncate-2.new.self.items v Zero len c.in_ok-push-2.ensures.items c.in_ok-walk.ensures.prefix c.truncate-2.ensures.items in
    rw s.spells (
    walked_node p q c.push-2.new.self.items c.push-3.new.self.items c.args.width v (tree c.args.self.now c.node_of-node.result.low) (tree c.args.self.now c.node_of-node.result.high)
    c.args.found.now.items c.walk.new.found.items c.walk-2.new.found.items le (rw s.spells at c.node_of-node.ensures.reduced) (rw s.spells at c.requires.reads) filled_is
    c.in_ok-push-2.ensures.items c.in_ok-walk.ensures.found (pushed q c.truncate-2.new.self.items c.push-3.new.self.items One cut c.in_ok-push-3.ensures.items) c.in_ok-walk-2.ensures.found
    )
