use Rattle.std.proofs.Common.{◌++◌, ◌∷◌, [], sym, subst, ◌∙◌}
use Rattle.lex_turns.specs.Found.{IsChosen, IsWithin}
use Rattle.lex_turns.proofs.ListWalk.{below_void, given_up_on, listed_on, passed_on, void_on}
use Rattle.lex_turns.proofs.walking.visit.Goals as goal

pub returns-then-is_passed : goal.returns-then-is_passed
returns-then-is_passed c = λ size truth expression comps rows r h i at void w.
    passed_on size truth expression c.args.p.now comps rows r c.args.component.now h i c.args.set.now c.args.walked.now at w (sym c.is_passed.ensures ∙ c.if-is_passed.true)

pub returns-then-is_below : goal.returns-then-is_below
returns-then-is_below c = λ size truth expression comps rows r h i at void w.
    let p = c.args.p.now in
    let x = c.args.component.now in
    void_on size truth expression p comps rows r x h i c.args.set.now c.args.walked.now at w
    (below_void size truth expression p comps rows r x h c.args.set.now c.args.void.now void (sym c.is_below.ensures ∙ c.if-is_below.true))

pub returns-in_ok-push-in-List-2 : goal.returns-in_ok-push-in-List-2
returns-in_ok-push-in-List-2 c = λ size truth expression comps rows r h i at void w.
    let p = c.args.p.now in
    let s = c.args.set.now in
    let found = subst (IsWithin expression p comps rows r s) c.in-List.is (c.in_ok-list.ensures.within size truth expression comps rows r h) in
    let chosen = subst (IsChosen expression p comps rows r s) c.in-List.is (c.in_ok-list.ensures.chosen size truth expression comps rows r h) in
    listed_on size truth expression p comps rows r c.args.component.now h i s c.args.walked.now at w (sym c.is_passed.ensures ∙ c.if-is_passed.false) c.in-List.list found chosen
    c.push.new.self c.push-in-List.new.self (c.in_ok-push-in-List.ensures.ok ∙ (λ j. c.args.walked.now.found ++ c.in_ok-copied-in-List.ensures j ∷ [])) c.in_ok-push-in-List-2.ensures.ok

pub returns-in-Nothing : goal.returns-in-Nothing
returns-in-Nothing c = λ size truth expression comps rows r h i at void w.
    void_on size truth expression c.args.p.now comps rows r c.args.component.now h i c.args.set.now c.args.walked.now at w
    (subst (IsWithin expression c.args.p.now comps rows r c.args.set.now) c.in-Nothing.is (c.in_ok-list.ensures.within size truth expression comps rows r h))

pub returns-in_ok-push-in-GivenUp : goal.returns-in_ok-push-in-GivenUp
returns-in_ok-push-in-GivenUp c = λ size truth expression comps rows r h i at void w.
    given_up_on size truth expression c.args.p.now comps rows r c.args.component.now h i c.args.set.now c.args.walked.now at w (sym c.is_passed.ensures ∙ c.if-is_passed.false) (
      subst (IsWithin expression c.args.p.now comps rows r c.args.set.now) c.in-GivenUp.is (c.in_ok-list.ensures.within size truth expression comps rows r h),
      subst (IsChosen expression c.args.p.now comps rows r c.args.set.now) c.in-GivenUp.is (c.in_ok-list.ensures.chosen size truth expression comps rows r h),
    ) c.push-in-GivenUp.new.self
    (c.in_ok-push-in-GivenUp.ensures.ok ∙ (λ j. c.args.walked.now.blown ++ c.in_ok-copied-in-GivenUp.ensures j ∷ []))
