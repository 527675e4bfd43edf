use Rattle.std.proofs.Common.{Bool, List, sym, subst}
use Rattle.level_dual.specs.Vanishing.{Vanishes}
use Rattle.level_dual.proofs.VanishLaws.{call_silent}
use Rattle.level_dual.proofs.vanishing.spread_along.Goals as goal

pub returns-then-is_ray : goal.returns-then-is_ray
returns-then-is_ray c = λ l keeps v.
    let own = c.args.own.now in
    let ray = c.is_ray.ensures c.if-is_ray.true in
    let live = c.is_reached.ensures c.if-not-is_reached.false in
    let silent = c.is_head_silent.ensures c.if-not-is_head_silent.false l (subst (λ (xs : List Bool). Vanishes c.args.places.now.positions.now xs l) (sym c.as_slice.ensures.value) v) in
    c.mark_call.ensures l (call_silent l own c.args.ray.now keeps live ray (λ x lt. (c.requires.natural x lt).1) silent) v
