use Rattle.std.proofs.Common.{◌++◌, length, arith, ap, ◌∙◌, length-append}
use Rattle.linear_rows.specs.Solving.{zeros}
use Rattle.sparse_rows.specs.Sparse.{spread}
use Rattle.sparse_rows.proofs.SparseLemmas.{spread-zeros, tail_within}
use Rattle.linear_rows.proofs.Refutes.{length-zeros}
use Rattle.sparse_rows.proofs.line.Line.push_zeros.Goals as goal

pub overflow_add-self : goal.overflow_add-self
overflow_add-self c =
    let l = c.in-Some.ensures in
    omega (arith, tail_within c.self.inside.parts.items c.self.inside.tail, c.self.invariant, l)

pub invariant_of-self : goal.invariant_of-self
invariant_of-self c =
    let l = c.in-Some.ensures in
    omega (arith, l, c.self.invariant, ap length (spread-zeros c.self.inside.parts.items c.self.inside.tail c.args.count), length-append (spread c.self.inside.parts.items c.self.inside.tail) (zeros c.args.count), length-zeros c.args.count)

pub returns : goal.returns
returns c = spread-zeros c.self.inside.parts.items c.self.inside.tail c.args.count ∙ ap (λ l. l ++ zeros c.args.count) c.self.view_is
