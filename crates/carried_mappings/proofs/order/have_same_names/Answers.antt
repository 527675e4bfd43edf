use Rattle.std.proofs.Common.{◌≡◌, arith, get_or, length, refl, subst}
use Rattle.cti_terms.specs.declared.predicates.PredId.{PredId}
use Rattle.termination_model.proofs.Lists.{there}
use Rattle.solved_program.proofs.Comparisons.{SameTo, none_same, same_more}
use Rattle.carried_mappings.proofs.Orders.{AreNamesakes, named_at, named_length, named_of_places}
use Rattle.carried_mappings.proofs.order.have_same_names.Goals as goal

abbrev none : PredId
none = record { 0 = 0 }

pub loop-i-init : goal.loop-i-init
loop-i-init c = none_same (AreNamesakes c.args.edit.now.before.now c.args.edit.now.after.now) c.args.before.now c.args.after.now

pub loop-i-preserved : goal.loop-i-preserved
loop-i-preserved c =
    let p = c.args.edit.now.before.now in
    let new = c.args.edit.now.after.now in
    let xs = c.args.before.now in
    let ys = c.args.after.now in
    let n = c.loop-i.i in
    same_more (AreNamesakes p new) n xs ys (get_or xs n none) (get_or ys n none) c.loop-i.invariant (there xs n none (omega arith)) (there ys n none (omega arith))
    (c.is_namesake.ensures.0 c.if-not-is_namesake.false)

pub returns-then-before-after : goal.returns-then-before-after
returns-then-before-after c = (
  λ is. cc,
  λ same. absurd (c.if-before-after.true (named_length c.args.edit.now.before.now c.args.edit.now.after.now c.args.before.now c.args.after.now same)),
)

pub returns-then-not-is_namesake : goal.returns-then-not-is_namesake
returns-then-not-is_namesake c =
    let p = c.args.edit.now.before.now in
    let new = c.args.edit.now.after.now in
    let xs = c.args.before.now in
    let ys = c.args.after.now in
    let n = c.loop-i.i in (
      λ is. cc,
      λ same.
          let names = named_at p new xs ys same n (get_or xs n none) (get_or ys n none) (there xs n none (omega arith)) (there ys n none (omega arith)) in
          let right = c.is_namesake.ensures.1 names in
          let wrong = c.if-not-is_namesake.true in
          cc,
    )

pub returns : goal.returns
returns c =
    let p = c.args.edit.now.before.now in
    let new = c.args.edit.now.after.now in
    let xs = c.args.before.now in
    let ys = c.args.after.now in
    let l : length xs ≡ length ys = omega arith in
    let n : c.loop-i.i ≡ length xs = omega arith in
    (λ is. named_of_places p new xs ys l (subst (λ k. SameTo (AreNamesakes p new) k xs ys) n c.loop-i.invariant), λ same. refl)
