use Rattle.std.proofs.Common.{◌≡◌, length, map}
use Rattle.prolog_grammar.specs.Placed.{no_trees}
use Rattle.term_parser.specs.Views.{part_view}
use Rattle.term_parser.proofs.MachineLemmas.{onto, back, depth_onto}
use Rattle.term_parser.proofs.part.arguments.Given as goal

-- the arguments that are left, with those that were taken after them, are all
abbrev pub invariant-arguments : goal.invariant-arguments
invariant-arguments l = record {
  terms : onto (map part_view l.parts.items) (back no_trees l.terms.items) ≡ onto (map part_view l.fn.parts.items) no_trees;
  depth : depth_onto (map part_view l.parts.items) l.depth ≡ depth_onto (map part_view l.fn.parts.items) 0;
}

abbrev pub decreases-arguments : goal.decreases-arguments
decreases-arguments l = length l.parts.items
