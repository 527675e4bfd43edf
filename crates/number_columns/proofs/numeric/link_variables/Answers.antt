use Rattle.std.proofs.Common.{◌≡◌, ◌∙◌, ◌∷◌, ◌+◌, ◌<◌, ℕ, suc, zero, List, Option, Some, length, slice_get, refl, sym, ap, subst, arith}
use Rattle.cti_terms.specs.Tree.{Variable}
use Rattle.cti_terms.specs.declared.atom_list.Atom.{Atom}
use Rattle.cti_terms.specs.declared.clauses.Clause.{Clause}
use Rattle.termination_model.proofs.Lists.{place_below}
use Rattle.number_columns.specs.Links.{AreLinked, NoPair, Respects, node_of}
use Rattle.number_columns.specs.Meeting.{ClausePairs, AllEvaluated, AllMet, HasLinks, IsMeeting, IsMet, KeepsLinks}
use Rattle.number_columns.specs.Numeric.{IsEvaluatedIn, Stands}
use Rattle.cti_terms.specs.Arithmetic.{Arithmetic}
use Rattle.number_columns.proofs.LinkLaws.{links_none, links_wider}
use Rattle.number_columns.proofs.numeric.link_variables.Goals as goal

-- where all positions are met, and all that is evaluated is linked to numbers, the clause has its links
module _ (ar : Arithmetic) (k : Clause) (ps more : List ℕ) (first : List (Option ℕ)) (met : AllMet ps first (length k.body + 1) (k.head ∷ k.body)) (keeps : KeepsLinks ps more) (evaluated : AllEvaluated ar more first (length k.body) k.body) where
  met_at : (x q i : ℕ) → Stands k x q i → IsMet ps first x (node_of q i)
  met_at x q i s =
      let below : s.place < length k.body + 1 = omega (arith, place_below (k.head ∷ k.body) s.place s.atom s.there) in
      subst (λ (r : ℕ). IsMet ps first x (node_of r i)) s.pred (met s.place s.atom below s.there i x (place_below s.atom.args i (Variable x) s.argument) s.argument)

  shared : (x q i r j : ℕ) → Stands k x q i → Stands k x r j → AreLinked more (node_of q i) (node_of r j)
  shared x q i r j s t f h =
      let a = met_at x q i s in
      let b = met_at x r j t in
      let same : a.0 ≡ b.0 = (let e : Some (Some a.0) ≡ Some (Some b.0) = sym a.1 ∙ b.1 in cc) in
      sym (a.2 f (keeps f h)) ∙ ap f same ∙ b.2 f (keeps f h)

  to_numbers : (x q i : ℕ) → Stands k x q i → IsEvaluatedIn ar k x → AreLinked more 0 (node_of q i)
  to_numbers x q i s e f h =
      let a = met_at x q i s in
      let there = evaluated e.place e.atom e.kind (place_below k.body e.place e.atom e.there) e.there e.builtin x a.0 e.argument e.term (place_below first x (Some a.0) a.1) a.1 e.at e.evaluated f h in
      there ∙ a.2 f (keeps f h)

  have_links : HasLinks ar k more
  have_links = record { shared = shared; evaluated = to_numbers }

pub returns-clause-links : goal.returns-clause-links
returns-clause-links c =
    let ar = c.args.p.now.arithmetic in
    let k = c.args.clause.now in
    let old = c.args.links.now.parents.items in
    let begun : IsMeeting ar k old old c.args.first.now = record { links = links_wider (ClausePairs ar k) NoPair old old (λ n m p. absurd p) (links_none old c.requires.falling); stands = λ x n e. absurd (c.requires.none x n e) } in
    let done : IsMeeting ar k old c.evaluate_clause.new.links.parents.items c.meet_clause.new.first = c.evaluate_clause.ensures.meeting old (c.meet_clause.ensures.meeting ar old begun) in
    links_wider (ClausePairs ar k) (ClausePairs ar k) old c.evaluate_clause.new.links.parents.items (λ n m p. p) done.links

pub returns-clause-closed : goal.returns-clause-closed
returns-clause-closed c =
    have_links c.args.p.now.arithmetic c.args.clause.now c.meet_clause.new.links.parents.items c.evaluate_clause.new.links.parents.items c.meet_clause.new.first c.meet_clause.ensures.met c.evaluate_clause.ensures.keeps c.evaluate_clause.ensures.evaluated
