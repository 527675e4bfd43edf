use Rattle.std.proofs.Common.{rules, sym, arith, pos, ◌∙◌, ap}
use Rattle.std.specs.Int.{w128}
use Rattle.std.specs.Prelude.{FitsSigned, int_le}
use Rattle.std.proofs.lemmas.Int.{to_z-of_z}
use Rattle.sparse_rows.proofs.NumberTests.{trivial_is, trivial_not}
use Rattle.sparse_rows.proofs.cleaning.is_trivial.Goals as goal

pub returns-then-not-is_zero : goal.returns-then-not-is_zero
returns-then-not-is_zero c =
    let f : FitsSigned w128 c.entry.result = search rules in
    let e = simp to_z-of_z at c.if-not-is_zero.ensures in
    sym (trivial_not c.args.last c.args.row.now c.loop-j.j (omega arith) (cc (e)))

pub returns : goal.returns
returns c =
    let f : FitsSigned w128 c.entry-2.result = search rules in
    let e = simp to_z-of_z at c.at_most.ensures in
    e ∙ ap (λ z. int_le (pos 0) z) c.entry-2.ensures ∙ trivial_is c.args.last c.args.row.now (λ j l. c.loop-j.invariant j (omega arith))
