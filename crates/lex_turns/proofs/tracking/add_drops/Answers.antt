use Rattle.std.proofs.Common.{◌≡◌, ◌≤◌, ◌<◌, List, length, slice_get, Some, true, subst, ◌∙◌, arith}
use Rattle.level_systems.specs.Turned.{all_rows}
use Rattle.level_systems.specs.declared.own_call.OwnCall.{OwnCall}
use Rattle.lex_turns.proofs.TrackedCalls.{gone_at, kept_gone, skipped}
use Rattle.lex_turns.proofs.tracking.add_drops.Goals as goal

pub loop-i-preserved-then-gone-i : goal.loop-i-preserved-then-gone-i
loop-i-preserved-then-gone-i c =
    let calls = c.args.calls.now in
    let gone = c.args.gone.now in
    let i = c.loop-i.i in
    let inv = c.loop-i.invariant in
    let lt : i < length calls = omega arith in
    let at : slice_get gone i ≡ Some true = gone_at gone i true (omega (arith, c.requires.gone)) c.if-gone-i.true in
    record {
      long = inv.long;
      room = subst (λ (os : List OwnCall). all_rows os ≤ length c.loop-i.values.now) (kept_gone calls gone i lt at) inv.room;
      made = skipped calls gone c.loop-i.values.now c.loop-i.drops.items i lt c.requires.gone inv.long at ∙ inv.made;
    }
