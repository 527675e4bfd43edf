use Rattle.std.proofs.Common.{◌≡◌, ◌++◌, map, ap, ◌∙◌, arith, suc}
use Rattle.termination_model.specs.grounds.Modes.{chosen}
use Rattle.termination_model.proofs.ChosenLists.{sets_all, sets_below, sets_more, sets_none}
use Rattle.termination_model.proofs.choosing.number_sets.Goals as goal

pub loop-count-init : goal.loop-count-init
loop-count-init c = record { sets = c.new-sets.ensures ∙ sets_none c.args.last; numbers = c.new-numbers.ensures.items }

pub loop-count-preserved : goal.loop-count-preserved
loop-count-preserved c =
    let i = c.loop-count.invariant in
    record {
      sets = c.in_ok-add_chosen.ensures.sets ∙ (λ j. i.sets j ++ map (λ args. i.numbers j ++ args) (chosen c.loop-count.count 1 c.args.last)) ∙ sets_more c.args.last c.loop-count.count;
      numbers = c.in_ok-add_chosen.ensures.same ∙ i.numbers;
    }

pub returns : goal.returns
returns c =
    let end : c.loop-count.count ≡ suc c.args.last = omega arith in
    c.loop-count.invariant.sets ∙ ap (sets_below c.args.last) end ∙ sets_all c.args.last c.args.last
