use Rattle.std.proofs.Common.{◌≡◌, ◌+◌, suc, ℤ, List, drop, slice_get, Some, sym, subst, arith}
use Rattle.std.specs.Borrow.{Bor}
use Rattle.termination_model.proofs.Lists.{at_place}
use Rattle.level_systems.specs.Turned.{held_of}
use Rattle.level_systems.specs.declared.own_call.OwnCall.{OwnCall}
use Rattle.level_dual.proofs.PointLists.{rest_whole}
use Rattle.lex_turns.specs.Sticking.{AreLong, ArePlain}
use Rattle.lex_turns.proofs.PlainPoints.{held_here, long_rest, plain_end, plain_first}
use Rattle.lex_turns.proofs.stuck.points_of.Goals as goal

pub loop-own-preserved : goal.loop-own-preserved
loop-own-preserved c =
    let rest = c.args.rest.now in
    let i = c.loop-own.own-index in
    let own : Bor OwnCall = c.own-item.result in
    let at : slice_get rest i ≡ Some own = at_place rest i own c.loop-own-test.true c.own-item.is in
    let numbers : List ℤ = c.loop-own.numbers.now in
    let n = own.now.rows.width + 1 in
    let long : n ≡ suc own.now.rows.width = omega arith in
    let here = held_here rest i own at in
    let left = rest_whole n numbers in
    let inv = c.loop-own.invariant in
    record {
      rest = λ ys h.
          plain_first own.now (held_of (drop (i + 1) rest)) numbers n c.in_ok-point_at.field-0 c.loop-own.points c.push.new.self ys long c.in_ok-point_at.ensures
          (subst (λ (zs : List ℤ). ArePlain (held_of (drop (i + 1) rest)) zs ys) left h) c.in_ok-push.ensures.ok (ArePlain (held_of rest) c.args.numbers.now)
          (λ zs p. inv.rest zs (subst (λ (owns : List OwnCall). ArePlain owns numbers zs) (sym here) p));
      long = λ h.
          subst (AreLong (held_of (drop (i + 1) rest))) (sym left)
          (long_rest own.now (held_of (drop (i + 1) rest)) numbers n long (subst (λ (owns : List OwnCall). AreLong owns numbers) here (inv.long h)));
    }

pub returns : goal.returns
returns c =
    plain_end c.args.rest.now c.loop-own.own-index c.loop-own.numbers.now c.loop-own.points c.loop-own-test.false (ArePlain (held_of c.args.rest.now) c.args.numbers.now) c.loop-own.invariant.rest
