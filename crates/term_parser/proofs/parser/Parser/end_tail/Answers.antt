use Rattle.std.proofs.Common.{suc, map, arith}
use Rattle.prolog_grammar.specs.Run.{height}
use Rattle.term_parser.specs.Views.{part_view}
use Rattle.term_parser.specs.Parsing.{frames}
use Rattle.term_parser.proofs.StackLemmas.{past_parts}
use Rattle.term_parser.proofs.parser.Parser.end_tail.Goals as goal

pub operand_done-requires : goal.operand_done-requires
operand_done-requires c = record {
  under = (c.requires.inside.0, omega (arith, c.requires.inside.1, past_parts (map part_view c.args.parts.items) (suc (height (frames c.args.self.now)))));
}
