use Rattle.std.proofs.Common.{ℕ, Some, Contains, inl, inr, List, ap, sym, subst, ◌∙◌, arith}
use Rattle.term_size.proofs.list_size.end_set.Goals as goal

pub returns-in-Some : goal.returns-in-Some
returns-in-Some c = λ x. (
  λ m. elim ((c.insert.ensures x).0 m) [
    | inl old ↦ let none = subst (λ (xs : List ℕ). Contains xs x) c.new-set.ensures old in absurd (omega (arith, none.1))
    | inr same ↦ c.in-Some.is ∙ ap Some (sym same)
  ],
  λ e. (c.insert.ensures x).1 (inr (let f = sym c.in-Some.is ∙ e in cc)),
)
