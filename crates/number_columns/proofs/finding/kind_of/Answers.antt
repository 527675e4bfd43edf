use Rattle.std.proofs.Common.{◌≡◌, ◌∙◌, ℕ, sym, arith}
use Rattle.number_columns.specs.Links.{parent}
use Rattle.number_columns.proofs.RootLaws.{root_is, root_of, roots_respect}
use Rattle.number_columns.proofs.finding.kind_of.Goals as goal

pub returns-else-find-eq-NUMBERS-clause-kind : goal.returns-else-find-eq-NUMBERS-clause-kind
returns-else-find-eq-NUMBERS-clause-kind c =
    let new = c.find.new.self.parents.items in
    let falling = c.find.ensures.links.falling in
    let r = c.find.result in
    let respects = c.find.ensures.links.keeps (root_of new) (roots_respect new falling) in
    let none : parent new 0 ≡ 0 = omega (arith, falling 0 (omega (arith, c.requires.known, c.find.ensures.links.count))) in
    (root_of new, respects, λ e. c.if-find-eq-NUMBERS.false (sym (root_is new falling r c.find.ensures.root) ∙ c.find.ensures.linked (root_of new) respects ∙ e ∙ root_is new falling 0 none))
