use Rattle.std.proofs.Common.{ℕ, List, ◌<◌, length, set, true, sym, ◌∙◌, subst, arith}
use Rattle.unifier.specs.Visits.{AreFlags}
use Rattle.unifier.proofs.VisitLaws.{flags_more}
use Rattle.unifier.proofs.visited.Visited.visit.Goals as goal

pub invariant_of-self-2 : goal.invariant_of-self-2
invariant_of-self-2 c =
    let flags = c.grow.new.flags in
    let room : c.args.variable < length flags.items = omega (arith, c.in_ok-grow.ensures.room, flags.ok.0) in
    let more = flags_more flags.items c.self.inside.variables.items c.args.variable (λ x. c.grow.ensures.same x ∙ c.self.invariant x) room in
    subst (λ (ys : List ℕ). AreFlags (set flags.items c.args.variable true) ys) (sym c.in_ok-push.ensures.items) more
