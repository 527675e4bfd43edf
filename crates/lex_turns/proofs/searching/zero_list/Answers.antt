use Rattle.std.proofs.Common.{◌≡◌, ◌++◌, ◌∷◌, [], List, map, ap, subst, ◌∙◌}
use Rattle.call_components.specs.Numbers.{number_of}
use Rattle.cti_terms.specs.declared.predicates.PredId.{PredId}
use Rattle.level_systems.specs.declared.measure.Measure.{Measure}
use Rattle.lex_turns.specs.Zeros.{AreZeros}
use Rattle.lex_turns.proofs.Courses.{zero_list_at, zeros_fall}
use Rattle.lex_turns.proofs.TurnMaking.{all_among, ready_among}
use Rattle.lex_turns.proofs.searching.zero_list.Goals as goal

pub returns-clause-ended : goal.returns-clause-ended
returns-clause-ended c = λ at is size truth expression comps rows r h.
    let x = c.args.component.now in
    let p = c.args.p.now in
    let ms = c.in_ok-measures.measures in
    let zeros = subst (λ (qs : List PredId). AreZeros p (map number_of qs) ms) c.as_slice.ensures.value c.in_ok-measures.ensures in
    let falls = zeros_fall size truth expression p comps rows r x h ms zeros in
    let one : c.push.new.self ≡ ms ∷ [] = c.in_ok-push.ensures.ok ∙ ap (λ (nss : List (List Measure)). nss ++ ms ∷ []) c.new-list.ensures in
    zero_list_at size truth expression p comps rows r x h at (c.args.course) (record { measures = c.push.new.self; drops = c.from_vec.result }) is c.requires.measures c.requires.none
    (ready_among p x c.requires.sound x.calls.items (all_among x.calls.items)) ms zeros falls one c.from_vec.ensures
