use Rattle.std.proofs.Common.{[], ◌∷◌, inl, inr, reverse, refl, ap, ◌∙◌, arith}
use Rattle.std.proofs.lemmas.List.{reverse-append}
use Rattle.ld_resolver.proofs.search.put_back.Goals as goal

pub returns-in_ok-push : goal.returns-in_ok-push
returns-in_ok-push c = inl (ap reverse c.in_ok-push.ensures.items ∙ reverse-append c.args.choices.now.items (c.args.choice ∷ []))

pub returns-else-choice-clauses : goal.returns-else-choice-clauses
returns-else-choice-clauses c = inr (refl, omega (arith, c.if-choice-clauses.false, c.clauses.ensures.count))
