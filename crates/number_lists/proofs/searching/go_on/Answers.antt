use Rattle.std.proofs.Common.{◌≡◌, ◌≤◌, Bool, List, length, map, ap, subst, ◌∙◌, arith}
use Rattle.std.specs.Prelude.{vec_len}
use Rattle.number_turns.specs.Recalled.{recalled_of, spelled}
use Rattle.number_lists.specs.Coursing.{IsStep, rest_of}
use Rattle.number_lists.proofs.Courses.{advanced, not_begun, not_zero, some_kept}
use Rattle.number_lists.proofs.searching.go_on.Goals as goal

pub returns-in-Made-clause-course : goal.returns-in-Made-clause-course
returns-in-Made-clause-course c =
    let τs = c.args.transitions.now in
    let cs = map spelled c.args.candidates.now in
    let old = c.args.course.now in
    let told = subst (IsStep cs τs old.gone.items) c.in-Made.is (subst (λ (gs : List Bool). IsStep cs τs gs c.in_ok-made.field-0) c.as_slice-gone.ensures.value c.in_ok-made.ensures) in
    let slice = c.as_slice-2.result.now in
    let same : recalled_of slice ≡ rest_of τs old.gone.items = ap recalled_of c.as_slice-2.ensures.value ∙ c.in_ok-rest.ensures ∙ ap (rest_of τs) c.as_slice.ensures.value in
    let long : length slice ≡ vec_len c.in_ok-rest.rest = c.as_slice-2.ensures.len in
    let kept : 1 ≤ vec_len c.in_ok-rest.rest = not_zero (vec_len c.in_ok-rest.rest) c.is_empty.result c.is_empty.ensures c.if-is_empty.false in
    let some = some_kept τs old.gone.items slice same (omega (arith, long, kept)) in
    (advanced cs τs old c.advance.new.course c.in-Made.made c.requires.course some told.0 c.in_ok-advance-in-Made.ensures.mappings told.1 c.in_ok-advance-in-Made.ensures).0

pub returns-in-Made-clause-next : goal.returns-in-Made-clause-next
returns-in-Made-clause-next c =
    let τs = c.args.transitions.now in
    let cs = map spelled c.args.candidates.now in
    let old = c.args.course.now in
    let told = subst (IsStep cs τs old.gone.items) c.in-Made.is (subst (λ (gs : List Bool). IsStep cs τs gs c.in_ok-made.field-0) c.as_slice-gone.ensures.value c.in_ok-made.ensures) in
    let slice = c.as_slice-2.result.now in
    let same : recalled_of slice ≡ rest_of τs old.gone.items = ap recalled_of c.as_slice-2.ensures.value ∙ c.in_ok-rest.ensures ∙ ap (rest_of τs) c.as_slice.ensures.value in
    let long : length slice ≡ vec_len c.in_ok-rest.rest = c.as_slice-2.ensures.len in
    let kept : 1 ≤ vec_len c.in_ok-rest.rest = not_zero (vec_len c.in_ok-rest.rest) c.is_empty.result c.is_empty.ensures c.if-is_empty.false in
    let some = some_kept τs old.gone.items slice same (omega (arith, long, kept)) in
    (advanced cs τs old c.advance.new.course c.in-Made.made c.requires.course some told.0 c.in_ok-advance-in-Made.ensures.mappings told.1 c.in_ok-advance-in-Made.ensures).1

pub returns-clause-next : goal.returns-clause-next
returns-clause-next c =
    let τs = c.args.transitions.now in
    let cs = map spelled c.args.candidates.now in
    let old = c.args.course.now in
    let told = subst (IsStep cs τs old.gone.items) c.in-Blown.is (subst (λ (gs : List Bool). IsStep cs τs gs c.in_ok-made.field-0) c.as_slice-gone.ensures.value c.in_ok-made.ensures) in
    let slice = c.as_slice-2.result.now in
    let same : recalled_of slice ≡ rest_of τs old.gone.items = ap recalled_of c.as_slice-2.ensures.value ∙ c.in_ok-rest.ensures ∙ ap (rest_of τs) c.as_slice.ensures.value in
    let long : length slice ≡ vec_len c.in_ok-rest.rest = c.as_slice-2.ensures.len in
    let kept : 1 ≤ vec_len c.in_ok-rest.rest = not_zero (vec_len c.in_ok-rest.rest) c.is_empty.result c.is_empty.ensures c.if-is_empty.false in
    let some = some_kept τs old.gone.items slice same (omega (arith, long, kept)) in
    (told.0, not_begun cs τs old c.requires.course some told.1)
