use Rattle.std.proofs.Common.{◌≡◌, ◌+◌, ◌++◌, ◌∷◌, [], Bool, List, Some, length, slice_get, take, ap, sym, subst, ◌∙◌}
use Rattle.std.proofs.lemmas.List.{length-append}
use Rattle.termination_model.proofs.Lists.{at_place, taken_more}
use Rattle.level_systems.specs.declared.own_call.OwnCall.{OwnCall}
use Rattle.lex_turns.specs.Coursing.{KeepReached}
use Rattle.lex_turns.proofs.Leaving.{push_reached}
use Rattle.lex_turns.proofs.needing.all_but.Goals as goal

pub loop-i-preserved : goal.loop-i-preserved
loop-i-preserved c =
    let calls = c.as_slice-calls.result.now in
    let i = c.loop-i.i in
    let own : OwnCall = c.index-calls-i.result in
    let at : slice_get calls i ≡ Some own = at_place calls i own c.loop-i-test.true c.index-calls-i.is in
    let more : take (i + 1) calls ≡ take i calls ++ own ∷ [] = taken_more calls i own at in
    let long = c.loop-i.invariant.long in
    let gone = c.loop-i.gone.items in
    record {
      long = ap length c.in_ok-push.ensures.items ∙ length-append gone (c.is_out-out.result ∷ []) ∙ ap (λ n. n + 1) long ∙ sym (length-append (take i calls) (own ∷ [])) ∙ ap length (sym more);
      reached = subst (λ (gs : List Bool). KeepReached (take (i + 1) calls) gs) (sym c.in_ok-push.ensures.items)
          (subst (λ (os : List OwnCall). KeepReached os (gone ++ c.is_out-out.result ∷ [])) (sym more) (push_reached (take i calls) gone own c.is_out-out.result long c.loop-i.invariant.reached c.is_out-out.ensures));
    }
