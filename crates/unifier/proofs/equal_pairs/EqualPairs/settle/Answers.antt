use Rattle.std.proofs.Common.{◌-◌, ◌<◌, vec_len, sym, ◌∙◌, subst, arith}
use Rattle.std.specs.List.{AllByRecursion}
use Rattle.unifier.specs.Remembered.{IsEntailed}
use Rattle.unifier.proofs.RememberedLaws.{all_taken, settled}
use Rattle.unifier.proofs.equal_pairs.EqualPairs.settle.Goals as goal

pub returns-then-pair-left : goal.returns-then-pair-left
returns-then-pair-left c = λ s es few m.
    let old = c.loop-pair.invariant s es few m in
    record {
      equal = old.equal;
      under_way = subst (AllByRecursion (IsEntailed s es)) (c.in-Some.ensures.items ∙ sym c.in_ok-push.ensures.items) old.under_way;
    }

pub loop-pair-preserved : goal.loop-pair-preserved
loop-pair-preserved c = λ s es few m.
    let past : c.args.left < c.in-Some.pair.below = omega (arith, c.if-pair-left.false) in
    settled s es c.loop-pair.self c.add.new.self c.pop.new.self.items c.in-Some.pair c.args.left c.in-Some.ensures.items c.add.ensures.under_way c.in_ok-add.ensures.equal past few (c.loop-pair.invariant s es few m)

pub returns : goal.returns
returns c = λ s es few m.
    let old = c.loop-pair.invariant s es few m in
    record {
      equal = old.equal;
      under_way = subst (AllByRecursion (IsEntailed s es)) (sym c.pop.ensures.rest) (all_taken (IsEntailed s es) (vec_len c.loop-pair.self.under_way - 1) c.loop-pair.self.under_way.items old.under_way);
    }
