use Rattle.std.proofs.Common.{ℕ, List, Contains, get_or, sym, subst, ◌∙◌, arith}
use Rattle.cti_terms.specs.declared.predicates.PredId.{PredId}
use Rattle.groundness.specs.Marks.{HasUser, IsMarked}
use Rattle.truth_rows.proofs.ListLaws.{up_to_more}
use Rattle.termination_model.proofs.Lists.{place_below, there}
use Rattle.groundness.proofs.marks.Marks.mark_members.Goals as goal

pub mark_all-requires : goal.mark_all-requires
mark_all-requires c = λ j h. omega (arith, c.requires _ j (subst (λ (xs : List ℕ). Contains xs j) c.of.ensures h), c.loop-member.invariant.each)

pub loop-member-preserved : goal.loop-member-preserved
loop-member-preserved c =
    let n = c.loop-member.member-index in
    let a : PredId = get_or c.args.members.now n (record { 0 = 0 }) in
    let i = c.loop-member.invariant in
    let e = c.mark_all.ensures in
    let at = there c.args.members.now n (record { 0 = 0 }) c.loop-member-test.true in
    record {
      each = e.each ∙ i.each;
      marked = up_to_more (λ (m : ℕ) (x : PredId). (j : ℕ) → HasUser c.args.heads.now x.0 j → IsMarked c.mark_all.new.self j) c.args.members.now n a at
          (λ m x lt f j h. e.more j (i.marked m x lt f j h))
          (λ j h. c.in_ok-mark_all.ensures.marked j (subst (λ (xs : List ℕ). Contains xs j) (sym c.of.ensures) h));
    }

pub returns-clause-marked : goal.returns-clause-marked
returns-clause-marked c = λ m j a at h. c.loop-member.invariant.marked m a (omega (arith, place_below c.args.members.now m a at, c.loop-member-test.false)) at j h
