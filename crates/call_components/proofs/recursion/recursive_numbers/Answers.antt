use Rattle.std.proofs.Common.{◌≡◌, ◌<◌, ◌↔◌, ℕ, Bool, true, List, length, slice_get, set, ◌+◌, Some, refl, ap, sym, subst, ◌∙◌, arith, length-set}
use Rattle.std.proofs.lemmas.Option.{slice_get_read}
use Rattle.call_components.specs.Members.{CallsWithin}
use Rattle.call_components.proofs.MemberLaws.{answers_yes, answers_no, found_there, found_here}
use Rattle.call_components.proofs.recursion.recursive_numbers.Goals as goal
use Rattle.call_components.proofs.recursion.recursive_numbers.Goals.{then-has_number, else-has_number}

pub loop-caller-preserved : goal.loop-caller-preserved
loop-caller-preserved c =
    let rows = c.args.table.now in
    let of = c.args.numbering.now.of in
    let count = c.args.numbering.now.count in
    let k = c.loop-caller.caller in
    let number = c.index-number.result.now in
    let answers = c.loop-caller.answers.items in
    let each : length answers ≡ count = c.loop-caller.invariant.count in
    let within : k < length of.items = omega (arith, c.requires.each) in
    let at : slice_get of.items k ≡ Some number = slice_get_read of.items (length of.items) k number refl within c.index-number.ensures in
    let below : number < count = subst (λ (x : ℕ). x < count) (sym c.index-number.ensures) (c.requires.below k number within) in
    let old : (x : ℕ) → x < length answers → (slice_get answers x ≡ Some true) ↔ CallsWithin rows of.items x k = λ x l. c.loop-caller.invariant.answer x (omega arith) in
    elim c.if-has_number.branch [
      | then-has_number w ↦
          let new : c.if-has_number.answers.items ≡ set answers number true = ap (λ v. v.items) w.answers-is in
          record {
            count = ap length new ∙ length-set answers number true ∙ each;
            answer = λ x l. subst (λ (xs : List Bool). (slice_get xs x ≡ Some true) ↔ CallsWithin rows of.items x (k + 1)) (sym new)
                (answers_yes rows of.items answers k number at old (found_there rows k number c.row.result.now c.as_slice.result.now of.items c.row.ensures c.as_slice.ensures.value (w.if-has_number.ensures.0 refl)) (omega arith) x (omega arith));
          }
      | else-has_number w ↦
          let new : c.if-has_number.answers.items ≡ answers = ap (λ v. v.items) w.answers-is in
          record {
            count = ap length new ∙ each;
            answer = λ x l. subst (λ (xs : List Bool). (slice_get xs x ≡ Some true) ↔ CallsWithin rows of.items x (k + 1)) (sym new)
                (answers_no rows of.items answers k number at old (λ h. (let no_call = w.if-has_number.ensures.1 (found_here rows k number c.row.result.now c.as_slice.result.now of.items c.row.ensures c.as_slice.ensures.value h) in cc)) x (omega arith));
          }
    ]
