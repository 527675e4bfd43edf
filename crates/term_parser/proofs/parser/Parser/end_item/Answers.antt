use Rattle.std.proofs.Common.{suc, map, ap, arith, List}
use Rattle.prolog_grammar.specs.Run.{height, items_past}
use Rattle.term_parser.specs.declared.part.Part.{Part}
use Rattle.term_parser.specs.Views.{part_view}
use Rattle.term_parser.specs.Parsing.{frames}
use Rattle.term_parser.proofs.StackLemmas.{past_parts, past_push}
use Rattle.term_parser.proofs.parser.Parser.end_item.Goals as goal

pub open-requires : goal.open-requires
open-requires c =
    let h = suc (height (frames c.args.self.now)) in
    let pushed = ap (λ (ts : List Part). items_past (map part_view ts) h) c.in_ok-push.ensures.items in
    record { inside = (c.requires.inside.0, omega (arith, c.requires.inside.1, pushed, past_push c.args.parts.items c.args.part h)) }

pub open-requires-in-Bar : goal.open-requires-in-Bar
open-requires-in-Bar c =
    let h = suc (height (frames c.args.self.now)) in
    let pushed = ap (λ (ts : List Part). items_past (map part_view ts) h) c.in_ok-push.ensures.items in
    record { inside = (c.requires.inside.0, omega (arith, c.requires.inside.1, pushed, past_push c.args.parts.items c.args.part h)) }

pub operand_done-requires : goal.operand_done-requires
operand_done-requires c = record {
  under = (c.requires.inside.0, omega (arith, c.requires.inside.1, past_parts (map part_view c.args.parts.items) (suc (height (frames c.args.self.now)))));
}
