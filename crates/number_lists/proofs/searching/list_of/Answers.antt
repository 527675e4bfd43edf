use Rattle.std.proofs.Common.{◌≡◌, ◌++◌, ◌∷◌, [], List, ap, ◌∙◌}
use Rattle.number_lists.specs.declared.mapping.Mapping.{Mapping}
use Rattle.number_lists.specs.declared.measure_list.MeasureList.{MeasureList}
use Rattle.number_lists.proofs.Courses.{not_nil}
use Rattle.number_lists.proofs.ListEnds.{turns_list, zero_list}
use Rattle.number_lists.proofs.searching.list_of.Goals.{then-is_empty+in_ok-push, else-is_empty}
use Rattle.number_lists.proofs.searching.list_of.Goals as goal

pub returns : goal.returns
returns c = λ fs is.
    let l : MeasureList = record { mappings = c.if-is_empty.mappings; places = c.from_vec.result } in
    let course = c.args.course in
    elim c.if-is_empty.branch [
      | then-is_empty+in_ok-push w ↦
          let zero : Mapping = record { features = w.new.result; numbers = w.new-then-is_empty.result } in
          let empty : course.mappings ≡ [] = c.is_empty.ensures.0 w.if-is_empty.true in
          let plain : zero ≡ record { features = []; numbers = [] } = λ j. record { features = w.new.ensures j; numbers = w.new-then-is_empty.ensures j } in
          zero_list fs c.args.transitions.now course is c.requires.none l c.from_vec.ensures zero empty plain
          (w.mappings-is ∙ w.in_ok-push.ensures.ok ∙ ap (λ (ms : List Mapping). ms ++ zero ∷ []) empty)
      | else-is_empty w ↦
          turns_list fs c.args.transitions.now course is c.requires.none l c.from_vec.ensures (not_nil course.mappings c.is_empty.result c.is_empty.ensures.1 w.if-is_empty.false) w.mappings-is
    ]
