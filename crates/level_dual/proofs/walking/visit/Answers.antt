use Rattle.std.proofs.Common.{◌++◌, ◌∷◌, [], length, sym, subst, ◌∙◌}
use Rattle.level_systems.specs.Searched.{IsAnswer}
use Rattle.level_dual.proofs.NeededLaws.{lacking}
use Rattle.level_dual.proofs.WalkLaws.{given_up_on, mapped_on, passed_on, refuted_on, sets}
use Rattle.level_dual.proofs.walking.visit.Goals as goal

pub returns-then-is_passed : goal.returns-then-is_passed
returns-then-is_passed c = λ size truth expression comps rows r h i at needed w.
    passed_on size truth expression c.args.p.now comps rows r c.args.component.now h i c.args.set.now c.args.walked.now at w (sym c.is_passed.ensures ∙ c.if-is_passed.true)

pub returns-then-not-is_part : goal.returns-then-not-is_part
returns-then-not-is_part c = λ size truth expression comps rows r h i at needed w.
    let p = c.args.p.now in
    let x = c.args.component.now in
    refuted_on size truth expression p comps rows r x h i c.args.set.now c.args.walked.now at w
    (lacking expression p comps rows r (length x.positions.items) (sets size truth expression p comps rows r x h) c.args.needed.now needed c.args.set.now (sym c.is_part.ensures ∙ c.if-not-is_part.true))

pub returns-in_ok-push-in-Mapping-2 : goal.returns-in_ok-push-in-Mapping-2
returns-in_ok-push-in-Mapping-2 c = λ size truth expression comps rows r h i at needed w.
    let found = subst (IsAnswer expression c.args.p.now comps rows r c.args.set.now) c.in-Mapping.is (c.in_ok-mapping.ensures size truth expression comps rows r h) in
    mapped_on size truth expression c.args.p.now comps rows r c.args.component.now h i c.args.set.now c.args.walked.now at w (sym c.is_passed.ensures ∙ c.if-is_passed.false) c.in-Mapping.mapping found
    c.push.new.self c.push-in-Mapping.new.self (c.in_ok-push-in-Mapping.ensures.ok ∙ (λ j. c.args.walked.now.found ++ c.in_ok-copied-in-Mapping.ensures j ∷ [])) c.in_ok-push-in-Mapping-2.ensures.ok

pub returns-in-Refuted : goal.returns-in-Refuted
returns-in-Refuted c = λ size truth expression comps rows r h i at needed w.
    refuted_on size truth expression c.args.p.now comps rows r c.args.component.now h i c.args.set.now c.args.walked.now at w
    (subst (IsAnswer expression c.args.p.now comps rows r c.args.set.now) c.in-Refuted.is (c.in_ok-mapping.ensures size truth expression comps rows r h))

pub returns-in_ok-push-in-Blown : goal.returns-in_ok-push-in-Blown
returns-in_ok-push-in-Blown c = λ size truth expression comps rows r h i at needed w.
    given_up_on size truth expression c.args.p.now comps rows r c.args.component.now h i c.args.set.now c.args.walked.now at w (sym c.is_passed.ensures ∙ c.if-is_passed.false)
    (subst (IsAnswer expression c.args.p.now comps rows r c.args.set.now) c.in-Blown.is (c.in_ok-mapping.ensures size truth expression comps rows r h)) c.push-in-Blown.new.self
    (c.in_ok-push-in-Blown.ensures.ok ∙ (λ j. c.args.walked.now.blown ++ c.in_ok-copied-in-Blown.ensures j ∷ []))
