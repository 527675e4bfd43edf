use Rattle.std.proofs.Common.{ℕ, sym, ◌∙◌, subst}
use Rattle.unifier.specs.Raised.{raised_tree}
use Rattle.unifier.specs.Store.{full}
use Rattle.unifier.specs.Remembered.{Entails, above}
use Rattle.unifier.proofs.unification.open_arguments.Goals as goal

pub returns-clause-known : goal.returns-clause-known
returns-clause-known c = λ s es entailed known.
    c.in_ok-open.ensures s es
    (subst (λ (n : ℕ). Entails (above n es) (full s (raised_tree c.args.terms.0)) (full s (raised_tree c.args.terms.1))) (sym (c.len.ensures ∙ c.args.stack.now.ok.0)) entailed)
    known
