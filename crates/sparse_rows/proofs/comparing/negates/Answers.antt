use Rattle.std.proofs.Common.{rules, sym, arith}
use Rattle.std.specs.Int.{w128}
use Rattle.std.specs.Prelude.{FitsSigned}
use Rattle.std.proofs.lemmas.Int.{to_z-of_z}
use Rattle.sparse_rows.specs.Sparse.{spread}
use Rattle.sparse_rows.proofs.NumberTests.{negates_from, negates_not}
use Rattle.sparse_rows.proofs.WalkLemmas.{stands_first, stands_here}
use Rattle.sparse_rows.proofs.comparing.negates.Goals as goal

pub loop-j-init : goal.loop-j-init
loop-j-init c = record {
  same = λ j l. absurd (omega (arith, l));
  p = stands_first c.args.r.now c.args.r_tail c.place_at-p.result c.place_at-p.ensures.index c.place_at-p.ensures.before;
  q = stands_first c.args.s.now c.args.s_tail c.place_at-q.result c.place_at-q.ensures.index c.place_at-q.ensures.before;
}

pub returns-then-not-opposite : goal.returns-then-not-opposite
returns-then-not-opposite c =
    let f : FitsSigned w128 c.next-x.result.0 = search rules in
    let g : FitsSigned w128 c.next-y.result.0 = search rules in
    let e = simp to_z-of_z at c.if-not-opposite.ensures in
    let x = stands_here c.args.r.now c.args.r_tail c.loop-j._j c.loop-j.p c.next-x.result.0 c.loop-j.invariant.p c.next-x.ensures.number in
    let y = stands_here c.args.s.now c.args.s_tail c.loop-j._j c.loop-j.q c.next-y.result.0 c.loop-j.invariant.q c.next-y.ensures.number in
    sym (negates_not c.args.many (spread c.args.r.now c.args.r_tail) (spread c.args.s.now c.args.s_tail) c.loop-j._j (omega arith) (cc (e, x, y)))

pub returns : goal.returns
returns c = sym (negates_from c.args.many (spread c.args.r.now c.args.r_tail) (spread c.args.s.now c.args.s_tail) (λ j l. c.loop-j.invariant.same j (omega arith)))
