use Rattle.std.proofs.Common.{◌≡◌, map, take, pos}
use Rattle.prolog_grammar.specs.Placed.{Int, single_at}
use Rattle.term_parser.specs.Views.{part_view}
use Rattle.term_parser.proofs.part.text.Given as goal

-- an integer for each code so far
abbrev pub invariant-codes : goal.invariant-codes
invariant-codes l = map part_view l.parts.items ≡ map (λ c. single_at 1000 l.at (Int (pos c))) (take l.code-index l.codes)
