use Rattle.std.proofs.Common.{◌≡◌, ◌+◌, ◌<◌, ◌++◌, ◌∷◌, [], List, drop, length, slice_get, Some, true, false, ap, sym, ◌∙◌, arith}
use Rattle.std.specs.Borrow.{Bor}
use Rattle.termination_model.proofs.Lists.{append_assoc, at_place, map_push}
use Rattle.level_systems.specs.Turned.{held_of}
use Rattle.level_systems.specs.declared.own_call.OwnCall.{OwnCall}
use Rattle.lex_turns.specs.Tracking.{kept}
use Rattle.lex_turns.proofs.TrackedCalls.{gone_at, kept_gone, kept_here}
use Rattle.lex_turns.proofs.tracking.kept.Goals as goal

pub loop-i-preserved-then-gone-i : goal.loop-i-preserved-then-gone-i
loop-i-preserved-then-gone-i c =
    let calls = c.args.calls.now in
    let gone = c.args.gone.now in
    let i = c.loop-i.i in
    let at : slice_get gone i ≡ Some true = gone_at gone i true (omega (arith, c.requires)) c.if-gone-i.true in
    let lt : i < length calls = omega arith in
    ap (λ s. held_of c.loop-i.rest.items ++ s) (sym (kept_gone calls gone i lt at)) ∙ c.loop-i.invariant

pub loop-i-preserved : goal.loop-i-preserved
loop-i-preserved c =
    let calls = c.args.calls.now in
    let gone = c.args.gone.now in
    let i = c.loop-i.i in
    let own : OwnCall = c.index-calls-i.result in
    let lt : i < length calls = c.loop-i-test.true in
    let there : slice_get calls i ≡ Some own = at_place calls i own lt c.index-calls-i.is in
    let at : slice_get gone i ≡ Some false = gone_at gone i false (omega (arith, c.requires, lt)) c.if-gone-i.false in
    let later = kept (drop (i + 1) calls) (drop (i + 1) gone) in
    ap (λ (os : List (Bor OwnCall)). held_of os ++ later) c.in_ok-push.ensures.items ∙ ap (λ (os : List OwnCall). os ++ later) (map_push (λ (b : Bor OwnCall). b.now) c.loop-i.rest.items _)
    ∙ append_assoc (held_of c.loop-i.rest.items) (own ∷ []) later ∙ ap (λ (os : List OwnCall). held_of c.loop-i.rest.items ++ os) (sym (kept_here calls gone i own there at)) ∙ c.loop-i.invariant
