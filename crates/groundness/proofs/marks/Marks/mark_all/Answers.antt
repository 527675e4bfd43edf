use Rattle.std.proofs.Common.{ℕ, slice_index_or, arith, ◌∙◌}
use Rattle.truth_rows.proofs.ListLaws.{from_index, up_to_more}
use Rattle.termination_model.proofs.Lists.{there}
use Rattle.groundness.specs.Marks.{IsMarked}
use Rattle.groundness.proofs.marks.Marks.mark_all.Goals as goal
use Rattle.std.proofs.lemmas.List.Elements.{Contains-get_or}

pub mark-requires : goal.mark-requires
mark-requires c =
    let n = c.loop-clause.clause-index in
    omega (arith, c.requires (slice_index_or c.args.clauses.now n 0) (Contains-get_or c.args.clauses.now n 0 c.loop-clause-test.true), c.loop-clause.invariant.each)

pub loop-clause-preserved : goal.loop-clause-preserved
loop-clause-preserved c =
    let n = c.loop-clause.clause-index in
    let i = c.loop-clause.invariant in
    let at = there c.args.clauses.now n 0 c.loop-clause-test.true in
    record {
      each = c.mark.ensures.each ∙ i.each;
      marked = λ m j. up_to_more (λ (k x : ℕ). IsMarked c.mark.new.self x) c.args.clauses.now n (slice_index_or c.args.clauses.now n 0) at (λ k x lt e. c.mark.ensures.more x (i.marked k x lt e)) c.in_ok-mark.ensures.marked m j;
      more = λ j m. c.mark.ensures.more j (i.more j m);
    }

pub returns-clause-marked : goal.returns-clause-marked
returns-clause-marked c = λ j h.
    c.loop-clause.invariant.marked h.0 j (omega (arith, h.1, c.loop-clause-test.false)) (from_index c.args.clauses.now h.0 j j h.1 h.2)
