use Rattle.std.proofs.Common.{◌≡◌, suc, ◌≤◌, [], ◌∷◌, reverse, Some, ap, ◌∙◌, arith}
use Rattle.std.proofs.lemmas.List.{reverse-append}
use Rattle.cti_terms.specs.Listing.{numbered}
use Rattle.ld_resolver.specs.Chain.{IsNext}
use Rattle.ld_resolver.proofs.ChainLaws.{clause_at}
use Rattle.ld_resolver.proofs.search.take_clause.Goals.{After-after-after}
use Rattle.ld_resolver.proofs.search.take_clause.Goals as goal

-- the last choice, the clause of its number, and the next clause of that predicate
module _ (c : After-after-after) where
  was : reverse c.args.choices.now.items ≡ c.in-Some.choice ∷ reverse c.pop.new.self.items
  was = ap reverse c.in-Some.ensures.items ∙ reverse-append c.pop.new.self.items (c.in-Some.choice ∷ [])

  first : 1 ≤ c.in-Some.choice.next
  first = omega (arith, c.if-choice-eq0.false)

  there : numbered c.args.program.now.clauses c.in-Some.choice.next ≡ Some c.clause-clause.result.now
  there = clause_at c.args.program.now.clauses c.in-Some.choice.next c.clause-clause.result.now first c.clause-clause.ensures.there

  pred : c.in-Some.choice.atom.now.pred.0 ≡ c.clause-clause.result.now.head.pred.0
  pred = (rw was at c.requires.numbered).0.1 c.clause-clause.result.now there

  after : IsNext c.args.program.now c.clause-clause.result.now.head.pred.0 (suc c.in-Some.choice.next) c.after-after.result
  after = c.after-after.ensures c.args.program.now c.requires.chain c.clause-clause.result.now there

pub next_match-next-requires-clause-next : goal.next_match-next-requires-clause-next
next_match-next-requires-clause-next c = omega (arith, (after (goal.at.next_match-next-requires-clause-next c).After-after-after).from)

pub next_match-next-requires-clause-ordinary : goal.next_match-next-requires-clause-ordinary
next_match-next-requires-clause-ordinary c = rw (pred (goal.at.next_match-next-requires-clause-ordinary c).After-after-after) c.clause-clause.ensures.ordinary

pub returns : goal.returns
returns c =
    let at = (goal.at.returns c).After-after-after in
    record {
      below = reverse c.pop.new.self.items;
      m = c.next_match-next.result;
      was = was at;
      is = c.in_ok-put_back.ensures;
      first = first at;
      within = omega (arith, c.if-choice-clauses.false, c.clauses.ensures.count);
      there = c.clause-clause.ensures.there;
      clause = c.clause-clause.ensures.sound;
      pred = pred at;
      back = c.undo.ensures;
      next = rw c.undo.ensures at (c.next_match-next.ensures c.in-Some.choice.fresh (suc c.in-Some.choice.next) (rw (pred at) (after at)));
    }
