use Rattle.std.proofs.Common.{◌≡◌, ◌∙◌, ◌+◌, ◌-◌, ℕ, List, Some, slice_get, inl, inr, sym, ap, subst, arith}
use Rattle.std.proofs.lemmas.Bool.{cases_eq}
use Rattle.cti_terms.specs.Arithmetic.{Arithmetic}
use Rattle.cti_terms.specs.declared.clauses.Clause.{Clause}
use Rattle.number_columns.specs.Links.{LinksMore}
use Rattle.number_columns.specs.Meeting.{ClausePairs, HasLinks, KeepsLinks, ProgramPairs}
use Rattle.number_columns.proofs.LinkLaws.{links_then}
use Rattle.number_columns.proofs.numeric.link_clauses.Goals as goal

links_kept : (ar : Arithmetic) (k : Clause) (a b : List ℕ) → KeepsLinks a b → HasLinks ar k a → HasLinks ar k b
links_kept ar k a b keeps h = record {
  shared = λ x q i r j s t f g. h.shared x q i r j s t f (keeps f g);
  evaluated = λ x q i s e f g. h.evaluated x q i s e f (keeps f g);
}

pub loop-k-preserved : goal.loop-k-preserved
loop-k-preserved c =
    let p = c.args.p.now in
    let k = c.loop-k.k in
    let own = c.clause.result.now in
    let inv = c.loop-k.invariant in
    let more = c.in_ok-link_clause.ensures in
    let a = c.loop-k.links.parents.items in
    let b = c.link_clause.new.links.parents.items in
    let place : k ≡ k + 1 - 1 = omega arith in
    let there : slice_get p.clauses k ≡ Some own = ap (slice_get p.clauses) place ∙ c.clause.ensures.there in
    let here : LinksMore (ClausePairs p.arithmetic own) a b = more.links in
    let linked : HasLinks p.arithmetic own b = more.closed in
    record {
      links = links_then (ProgramPairs p) (ProgramPairs p) (ClausePairs p.arithmetic own) c.args.links.now.parents.items a b (λ n m x. x) (λ n m x. (k, own, there, x)) inv.links here;
      closed = λ j other lt at. elim (cases_eq j k) [
        | inl same ↦ (
            let is : own ≡ other = (let e : Some own ≡ Some other = sym there ∙ ap (slice_get p.clauses) (sym same) ∙ at in cc) in
            subst (λ (z : Clause). HasLinks p.arithmetic z b) is linked
            )
        | inr ne ↦ links_kept p.arithmetic other a b here.keeps (inv.closed j other (omega (arith, lt, ne)) at)
      ];
    }
