use Rattle.std.proofs.Common.{◌∙◌, Some, map, sym, ap}
use Rattle.cti_terms.specs.Spell.{tree_of}
use Rattle.number_columns.specs.Links.{ThisPair}
use Rattle.number_columns.specs.Meeting.{NumberPair}
use Rattle.number_columns.proofs.LinkLaws.{links_wider}
use Rattle.number_columns.proofs.numeric.evaluate_variable.Goals as goal

pub returns-then-has_evaluated-clause-links : goal.returns-then-has_evaluated-clause-links
returns-then-has_evaluated-clause-links c =
    let some = c.has_evaluated.ensures.some c.if-has_evaluated.true in
    links_wider (NumberPair c.args.arith (map tree_of c.args.args.now) c.args.variable c.args.first) (ThisPair 0 c.in-Some.node) c.args.links.now.parents.items c.link.new.self.parents.items
    (λ n m p. (p.0, c.in-Some.is ∙ ap Some (sym p.1), some.0, some.1, some.2, some.3)) c.link.ensures.links
