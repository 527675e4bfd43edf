use Rattle.std.proofs.Common.{◌≡◌, Some}
use Rattle.prolog_terms.specs.Clauses.{nodes}
use Rattle.prolog_terms.specs.Terms.{tree_of}
use Rattle.prolog_operators.specs.Meanings.{table_of}
use Rattle.prolog_reader.specs.Directive.{listed, effect_of}
use Rattle.prolog_reader.specs.Knowing.{words_view}
use Rattle.prolog_reader.proofs.directives.set_listed.Given as goal

-- the rest of the list does from here what all of it does from the start
abbrev pub invariant-cells : goal.invariant-cells
invariant-cells l =
    effect_of (words_view l.fn.words) (table_of l.ops) (Some l.fn.priority) (Some l.fn.kind) (listed (words_view l.fn.words) (tree_of l.rest))
    ≡ effect_of (words_view l.fn.words) (table_of l.fn.ops) (Some l.fn.priority) (Some l.fn.kind) (listed (words_view l.fn.words) (tree_of l.fn.list))

abbrev pub decreases-cells : goal.decreases-cells
decreases-cells l = nodes (tree_of l.rest)
