use Rattle.std.proofs.Common.{◌≡◌, ◌++◌, ◌+◌, ◌-◌, map, take, length, ◌∙◌}
use Rattle.std.proofs.lemmas.Result.{on_ok_weaker}
use Rattle.termination_model.specs.grounds.Modes.{chosen}
use Rattle.termination_model.proofs.ChosenLists.{chosen_added, cut_off}
use Rattle.termination_model.proofs.choosing.+add_chosen.Goals as goal

pub returns-clause-sets : goal.returns-clause-sets
returns-clause-sets t c =
    let numbers = c.args.numbers.now.items in
    let pushed = c.in_ok-push.ensures.items in
    let first : c.add_chosen.new.sets ≡ c.args.sets.now ++ map (λ args. c.push.new.self.items ++ args) (chosen (c.args.count - 1) (c.args.from + 1) (c.args.room - 1)) = c.in_ok-add_chosen.ensures.sets in
    let cut : c.truncate.new.self.items ≡ numbers = c.truncate.ensures.items ∙ (λ i. take (length (c.as_slice-length.ensures.value i)) ((c.in_ok-add_chosen.ensures.same ∙ pushed) i)) ∙ cut_off numbers c.args.from in
    let both = first ∙ (λ i. c.args.sets.now ++ map (λ args. pushed i ++ args) (chosen (c.args.count - 1) (c.args.from + 1) (c.args.room - 1))) in
    on_ok_weaker c.add_chosen-2.result
    (λ e. e ∙ (λ i. both i ++ map (λ args. cut i ++ args) (chosen c.args.count (c.args.from + 1) (c.args.room - 1)))
    ∙ chosen_added numbers c.args.sets.now c.args.count c.args.from c.args.room c.if-count-eq0.false c.if-room-eq0.false)
    c.add_chosen-2.ensures.sets
