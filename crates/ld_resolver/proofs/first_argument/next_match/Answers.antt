use Rattle.std.proofs.Common.{arith}
use Rattle.cti_terms.specs.Resolve.{raised}
use Rattle.ld_resolver.proofs.ChainLaws.{numbered_within}
use Rattle.ld_resolver.proofs.FirstArgumentLaws.{next_later, next_matches}
use Rattle.ld_resolver.proofs.first_argument.next_match.Goals as goal

pub returns-then-clauses-number : goal.returns-then-clauses-number
returns-then-clauses-number c = λ fresh k first. next_matches c.args.program.now c.args.bindings.now (raised c.args.base c.args.atom.now) fresh k c.args.next c.requires.ordinary first

pub loop-shape-init : goal.loop-shape-init
loop-shape-init c = record {
  from_one = c.requires.next;
  next = λ fresh k first. next_matches c.args.program.now c.args.bindings.now (raised c.args.base c.args.atom.now) fresh k c.args.next c.requires.ordinary first;
}

pub returns-in_default : goal.returns-in_default
returns-in_default c = λ fresh k first. next_matches c.args.program.now c.args.bindings.now (raised c.args.base c.args.atom.now) fresh k c.args.next c.requires.ordinary first

pub loop-shape-preserved : goal.loop-shape-preserved
loop-shape-preserved c =
    let p = c.args.program.now in
    let number = c.loop-shape.number in
    let skipped = c.is_skipped.ensures c.loop-shape-test.true p c.requires.chain in
    let first_out = skipped 0 in
    let from_here = (c.after-number.ensures p c.requires.chain first_out.0 first_out.1).from in
    record {
      from_one = omega (arith, from_here);
      next = λ fresh k first.
          let out = skipped fresh in
          let after = c.after-number.ensures p c.requires.chain out.0 out.1 in
          next_later p c.args.bindings.now (raised c.args.base c.args.atom.now) fresh k number c.after-number.result c.in-Some.shape out.0 c.requires.ordinary (c.loop-shape.invariant.next fresh k first) out.1 out.2 c.in-Some.ensures after;
    }

pub after-number-requires-clause-last : goal.after-number-requires-clause-last
after-number-requires-clause-last c =
    let p = c.args.program.now in
    let out = c.is_skipped.ensures c.loop-shape-test.true p c.requires.chain 0 in
    let within = numbered_within p.clauses c.loop-shape.number out.0 out.1 in
    omega (arith, within, c.requires.chain.chained.each_clause)

pub loop-shape-smaller : goal.loop-shape-smaller
loop-shape-smaller c =
    let p = c.args.program.now in
    let out = c.is_skipped.ensures c.loop-shape-test.true p c.requires.chain 0 in
    let within = numbered_within p.clauses c.loop-shape.number out.0 out.1 in
    let after = c.after-number.ensures p c.requires.chain out.0 out.1 in
    omega (arith, within, after.from)
