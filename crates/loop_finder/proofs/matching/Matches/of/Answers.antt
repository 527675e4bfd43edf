use Rattle.std.proofs.Common.{None, Some, sym, ap, ◌∙◌}
use Rattle.std.specs.Option.{option_copied}
use Rattle.loop_finder.proofs.MatchesLaws.{found_as}
use Rattle.loop_finder.proofs.matching.Matches.of.Goals as goal

pub returns-in-Some : goal.returns-in-Some
returns-in-Some c = found_as c.args.self.now c.self.inside.items.entries c.args.variable (Some c.in-Some.known.now) c.self.view_is (sym (ap option_copied c.in-Some.is) ∙ c.get.ensures.value)

pub returns-in-None : goal.returns-in-None
returns-in-None c = found_as c.args.self.now c.self.inside.items.entries c.args.variable None c.self.view_is (sym (ap option_copied c.in-None.is) ∙ c.get.ensures.value)
