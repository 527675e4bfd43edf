use Rattle.std.proofs.Common.{List, length, ap, sym, arith}
use Rattle.prolog_grammar.specs.Machine.{Frame}
use Rattle.prolog_grammar.specs.Placed.{Part}
use Rattle.prolog_operators.specs.Meanings.{infix_of}
use Rattle.term_parser.specs.Views.{part_view}
use Rattle.term_parser.proofs.WalkLemmas.{leads_infix}
use Rattle.term_parser.proofs.parser.Parser.after_term.Goals as goal

pub returns-in-Some : goal.returns-in-Some
returns-in-Some c = leads_infix c.args.self.now c.closing.self c.take_infix.new.self c.args.bound c.closing.bound (part_view c.args.part) (part_view c.closing.part) c.args.priority c.closing.priority c.args.token.now
    c.in-Some.name.0 (infix_of c.in-Some.op) c.take_infix.result c.closing.invariant.0 c.closing.invariant.1 c.closing.invariant.2 (sym c.in-Some.ensures) c.take_infix.ensures

pub closing-smaller : goal.closing-smaller
closing-smaller c = omega (arith, ap (λ (k : List (Frame Part)). length k) c.in-Some-Operator.ensures.top)
