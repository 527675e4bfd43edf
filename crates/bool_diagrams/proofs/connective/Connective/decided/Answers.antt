use Rattle.std.proofs.Common.{inl, inr, sym, ◌∙◌}
use Rattle.bool_diagrams.proofs.Decided.{passes_left, passes_right, itself, stops}
use Rattle.bool_diagrams.proofs.connective.Connective.decided.Goals as goal

pub returns-then-a-passes-clause-some : goal.returns-then-a-passes-clause-some
returns-then-a-passes-clause-some c = passes_left c.args.self c.args.a c.args.b (c.if-a-passes.true ∙ c.neutral-passes.ensures)

pub returns-then-b-passes-clause-some : goal.returns-then-b-passes-clause-some
returns-then-b-passes-clause-some c = passes_right c.args.self c.args.a c.args.b (c.if-b-passes.true ∙ c.neutral-passes.ensures)

pub returns-then-a-b-clause-some : goal.returns-then-a-b-clause-some
returns-then-a-b-clause-some c = rw c.with_itself.ensures (itself c.args.self c.args.a c.args.b c.if-a-b.true)

pub returns-then-a-stops-clause-some : goal.returns-then-a-stops-clause-some
returns-then-a-stops-clause-some c =
    stops c.args.self c.args.a c.args.b c.in_ok-stops.stops (sym c.absorbing.ensures ∙ c.in_ok-stops.was)
    (elim c.then-a-stops.either [ inl e ↦ inl e | inr p ↦ inr p.1 ])
