use Rattle.std.proofs.Common.{◌&&◌, ℕ, nat_lt, List, length, sym, arith}
use Rattle.precond_fixpoint.proofs.ModeLaws.{any_false}
use Rattle.termination_model.specs.grounds.Modes.{is_part}
use Rattle.termination_model.proofs.Lists.{place_below}
use Rattle.precond_fixpoint.proofs.modes.has_less.Goals as goal

pub returns : goal.returns
returns c =
    sym (any_false (λ (less : List ℕ). nat_lt (length less) (length c.args.args.now) && is_part less c.args.args.now) c.args.lists.now
    (λ i less e. c.loop-less.invariant i less (omega (arith, place_below c.args.lists.now i less e, c.loop-less-test.false)) e))
