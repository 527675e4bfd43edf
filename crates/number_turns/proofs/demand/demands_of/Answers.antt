use Rattle.std.proofs.Common.{◌≡◌, ◌+◌, ◌++◌, ◌∷◌, [], false, map, take, length, slice_get, Some, ap, sym, ◌∙◌, arith}
use Rattle.std.specs.Borrow.{Bor}
use Rattle.std.specs.Prelude.{slice_index_or}
use Rattle.std.proofs.lemmas.List.{length-map, length-take-le}
use Rattle.termination_model.proofs.Lists.{at_place, by_places, map_push, mapped_place, taken_more}
use Rattle.transitions.specs.Turns.{targets}
use Rattle.number_turns.specs.Demanding.{HoldsNumbers, targets_by}
use Rattle.number_turns.specs.Recalled.{held_of, recalled, recalled_of}
use Rattle.number_turns.specs.declared.transition.Transition.{Transition}
use Rattle.number_turns.proofs.TargetLists.{targets_more}
use Rattle.number_turns.proofs.demand.demands_of.Goals as goal

pub loop-i-preserved : goal.loop-i-preserved
loop-i-preserved c =
    let τs = c.args.transitions.now in
    let marks = c.args.marks.now in
    let i = c.loop-i.i in
    let τ : Bor Transition = c.index-transitions-i.result in
    let at : slice_get τs i ≡ Some τ = at_place τs i τ c.loop-i-test.true c.index-transitions-i.is in
    let own : HoldsNumbers τ.now = by_places HoldsNumbers (held_of τs) c.requires i τ.now (mapped_place (λ (b : Bor Transition). b.now) τs i τ at) in
    let more : recalled_of (take (i + 1) τs) ≡ recalled_of (take i τs) ++ recalled τ.now ∷ [] =
    ap recalled_of (taken_more τs i τ at) ∙ ap (map recalled) (map_push (λ (b : Bor Transition). b.now) (take i τs) τ) ∙ map_push recalled (held_of (take i τs)) τ.now in
    let long : length (recalled_of (take i τs)) ≡ i =
    length-map (held_of (take i τs)) recalled ∙ length-map (take i τs) (λ (b : Bor Transition). b.now) ∙ length-take-le i τs (omega (arith, c.loop-i-test.true)) in
    record {
      targets = λ fs.
          c.in_ok-add_demands.ensures.targets fs
          ∙ (λ j. c.loop-i.invariant.targets fs j ++ targets_by fs (c.is_marked.ensures j) (recalled τ.now))
          ∙ (λ j. targets fs (recalled_of (take i τs)) marks ++ targets_by fs (slice_index_or marks (sym long j) false) (recalled τ.now))
          ∙ sym (targets_more fs (recalled_of (take i τs)) (recalled τ.now) marks)
          ∙ sym (ap (λ xs. targets fs xs marks) more);
      numbers = c.in_ok-add_demands.ensures.numbers own c.loop-i.invariant.numbers;
    }
