use Rattle.std.proofs.Common.{◌≡◌, length}
use Rattle.term_parser.specs.Limits.{most_openers}
use Rattle.term_parser.specs.Views.{part_view}
use Rattle.term_parser.specs.Parsing.{frames, IsUnder, term_move}
use Rattle.term_parser.proofs.parser.Parser.after_term.Given as goal

-- what the token does here is what it does at the start
abbrev pub invariant-closing : goal.invariant-closing
invariant-closing l = (term_move l.self l.bound (part_view l.part) l.priority l.token
    ≡ term_move l.fn.self l.fn.bound (part_view l.fn.part) l.fn.priority l.fn.token)
    × (l.self.ops ≡ l.fn.self.ops) × (l.self.names ≡ l.fn.self.names) × IsUnder most_openers l.self

abbrev pub decreases-closing : goal.decreases-closing
decreases-closing l = length (frames l.self)
