use Rattle.std.proofs.Common.{◌≡◌, length, map}
use Rattle.prolog_grammar.specs.Placed.{chain}
use Rattle.term_parser.specs.Views.{part_view, known_of}
use Rattle.term_parser.proofs.part.chain.Given as goal

-- the chain of what is left is that of all
abbrev pub invariant-cells : goal.invariant-cells
invariant-cells l = chain 1000 (known_of l.names) l.at (map part_view l.parts.items) (part_view l.tail)
    ≡ chain 1000 (known_of l.fn.names) l.fn.at (map part_view l.fn.parts.items) (part_view l.fn.tail)

abbrev pub decreases-cells : goal.decreases-cells
decreases-cells l = length l.parts.items
