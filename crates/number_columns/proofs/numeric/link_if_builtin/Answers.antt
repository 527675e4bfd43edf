use Rattle.std.proofs.Common.{◌≡◌, ◌∙◌, ◌<◌, ℕ, Some, inl, inr, sym, ap, arith}
use Rattle.std.proofs.lemmas.Bool.{cases_eq}
use Rattle.cti_terms.specs.Arithmetic.{kind_of}
use Rattle.number_columns.specs.Links.{AreLinked, ThisPair, node_of}
use Rattle.number_columns.specs.Meeting.{BuiltinPairs}
use Rattle.number_columns.proofs.LinkLaws.{links_then}
use Rattle.number_columns.proofs.numeric.link_if_builtin.Goals as goal

pub returns-in-Some-clause-links : goal.returns-in-Some-clause-links
returns-in-Some-clause-links c =
    let ar = c.args.p.now.arithmetic in
    let q = c.args.pred.0 in
    let is : kind_of ar q ≡ Some c.in-Some.field-0 = sym c.builtin.ensures ∙ c.in-Some.is in
    links_then (BuiltinPairs ar) (ThisPair 0 c.node_of.result) (ThisPair 0 c.node_of-in-Some.result) c.args.links.now.parents.items c.link.new.self.parents.items c.link-in-Some.new.self.parents.items
    (λ n m p. (p.0, q, 0, c.in-Some.field-0, is, omega arith, p.1 ∙ c.node_of.ensures)) (λ n m p. (p.0, q, 1, c.in-Some.field-0, is, omega arith, p.1 ∙ c.node_of-in-Some.ensures)) c.link.ensures.links c.link-in-Some.ensures.links

pub returns-in-Some-clause-closed : goal.returns-in-Some-clause-closed
returns-in-Some-clause-closed c = λ kind is i lt f h. elim (cases_eq i 0) [
  | inl zero ↦ c.link.ensures.linked f (c.link-in-Some.ensures.links.keeps f h) ∙ ap f c.node_of.ensures ∙ ap (λ (j : ℕ). f (node_of c.args.pred.0 j)) (sym zero)
  | inr ne ↦ (
      let one : 1 ≡ i = omega (arith, lt, ne) in
      c.link-in-Some.ensures.linked f h ∙ ap f c.node_of-in-Some.ensures ∙ ap (λ (j : ℕ). f (node_of c.args.pred.0 j)) one
      )
]
