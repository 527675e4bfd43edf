use Rattle.std.proofs.Common.{◌↔◌, ◌<◌, Bool, IsTrue, List, ℕ, length, map, ◌∷◌, [], None, true, inl, refl, subst, sym, ◌∙◌}
use Rattle.level_dual.proofs.Results.{if_ok}
use Rattle.number_turns.specs.Recalled.{recalled}
use Rattle.number_lists.specs.FoundLists.{AreFoundLists, MayBeMissing}
use Rattle.number_lists.specs.declared.measure_list.MeasureList.{MeasureList}
use Rattle.number_lists.proofs.ListCases.{wide_lists}
use Rattle.number_lists.proofs.deciding.of_given_up.Goals as goal

pub returns-then-is_large : goal.returns-then-is_large
returns-then-is_large c = λ width are given.
    let x = c.args.system.now in
    let τs = map recalled x.transitions.now in
    let large = subst (λ (b : Bool). IsTrue b ↔ (12 < length x.positions.now)) c.if-is_large.true c.is_large.ensures in
    let blown = c.in_ok-one_set.ensures ∙ (λ j. c.requires.full j ∷ []) in
    subst (λ (ls : List MeasureList). AreFoundLists x.members.now x.positions.now τs width (record { lists = ls; stuck = None; blown = c.in_ok-one_set.field-0; large = true })) (sym c.new.ensures)
    (subst (λ (sets : List (List ℕ)). AreFoundLists x.members.now x.positions.now τs width (record { lists = []; stuck = None; blown = sets; large = true })) (sym blown)
    (wide_lists x.members.now x.positions.now τs width true large (inl refl) (subst (MayBeMissing x.members.now x.positions.now τs) c.requires.full given)))

pub returns : goal.returns
returns c =
    if_ok c.find_small.result (λ f is. λ width are given.
    let x = c.args.system.now in
    let large = subst (λ (b : Bool). IsTrue b ↔ (12 < length x.positions.now)) c.if-is_large.false c.is_large.ensures in
    is width are large (λ yes. given) (λ no none. cc)) c.find_small.ensures
