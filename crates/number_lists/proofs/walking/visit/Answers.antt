use Rattle.std.proofs.Common.{◌++◌, ◌∷◌, [], suc, take, length, map, sym, subst, ◌∙◌}
use Rattle.termination_model.specs.grounds.Modes.{chosen_up_to}
use Rattle.number_turns.specs.Recalled.{recalled}
use Rattle.number_lists.specs.Found.{IsChosen, IsWithin}
use Rattle.number_lists.specs.Walked.{IsWalkedTo}
use Rattle.number_lists.proofs.ListWalk.{below_void, given_up_on, listed_on, passed_on, void_on}
use Rattle.number_lists.proofs.walking.visit.Goals.{in-List+in_ok-copied-in-List+in_ok-push-in-List+in_ok-push-in-List-2, in-Nothing, in-GivenUp+in_ok-copied-in-GivenUp+in_ok-push-in-GivenUp}
use Rattle.number_lists.proofs.walking.visit.Goals as goal

pub returns-then-is_passed : goal.returns-then-is_passed
returns-then-is_passed c = λ width are i at void w.
    let x = c.args.system.now in
    passed_on x.members.now x.positions.now (map recalled x.transitions.now) width i c.args.set.now c.args.walked.now at w (sym c.is_passed.ensures ∙ c.if-is_passed.true)

pub returns-then-is_below : goal.returns-then-is_below
returns-then-is_below c = λ width are i at void w.
    let x = c.args.system.now in
    let τs = map recalled x.transitions.now in
    void_on x.members.now x.positions.now τs width i c.args.set.now c.args.walked.now at w
    (below_void x.members.now x.positions.now τs width c.args.set.now c.args.void.now void (sym c.is_below.ensures ∙ c.if-is_below.true))

pub returns : goal.returns
returns c = λ width are i at void w.
    let x = c.args.system.now in
    let members = x.members.now in
    let positions = x.positions.now in
    let τs = map recalled x.transitions.now in
    let s = c.args.set.now in
    let old = c.args.walked.now in
    let order = take (suc i) (chosen_up_to (length positions) (length positions)) in
    let fresh = sym c.is_passed.ensures ∙ c.if-is_passed.false in
    let within = c.in_ok-list.ensures.within width are in
    let chosen = c.in_ok-list.ensures.chosen width are in
    elim c.match-branch-2.branch [
      | in-List+in_ok-copied-in-List+in_ok-push-in-List+in_ok-push-in-List-2 v ↦
          subst (IsWalkedTo members positions τs width order) (sym v.walked-is)
          (listed_on members positions τs width i s old at w fresh v.in-List.list (subst (IsWithin members positions τs width s) v.in-List.is within) (subst (IsChosen members positions τs width s) v.in-List.is chosen)
          v.push.new.self v.push-in-List.new.self (v.in_ok-push-in-List.ensures.ok ∙ (λ j. old.found ++ v.in_ok-copied-in-List.ensures j ∷ [])) v.in_ok-push-in-List-2.ensures.ok)
      | in-Nothing v ↦
          subst (IsWalkedTo members positions τs width order) (sym v.walked-is)
          (let nothing = subst (IsWithin members positions τs width s) v.in-Nothing.is within in void_on members positions τs width i s old at w nothing.1)
      | in-GivenUp+in_ok-copied-in-GivenUp+in_ok-push-in-GivenUp v ↦
          subst (IsWalkedTo members positions τs width order) (sym v.walked-is)
          (given_up_on members positions τs width i s old at w fresh (subst (IsWithin members positions τs width s) v.in-GivenUp.is within, subst (IsChosen members positions τs width s) v.in-GivenUp.is chosen)
          v.push-in-GivenUp.new.self (v.in_ok-push-in-GivenUp.ensures.ok ∙ (λ j. old.blown ++ v.in_ok-copied-in-GivenUp.ensures j ∷ [])))
    ]
