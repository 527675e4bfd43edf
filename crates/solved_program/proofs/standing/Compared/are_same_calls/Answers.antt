use Rattle.std.proofs.Common.{◌≡◌, ◌<◌, arith, get_or, length, refl, subst}
use Rattle.cti_terms.specs.declared.atom_list.Atom.{Atom}
use Rattle.termination_model.proofs.Lists.{by_places, there}
use Rattle.solved_program.specs.Comparing.{IsTheSameCall}
use Rattle.solved_program.specs.declared.standing.Compared.{Compared}
use Rattle.solved_program.proofs.Comparisons.{SameTo, call_at, calls_length, calls_of_places, none_same, same_more}
use Rattle.solved_program.proofs.standing.Compared.are_same_calls.Goals as goal

abbrev Alike : Compared → Atom → Atom → Type 0
Alike s b e = IsTheSameCall s b.pred.0 e.pred.0

pub loop-i-init : goal.loop-i-init
loop-i-init c = none_same (Alike c.args.self.now) c.args.before.now c.args.after.now

pub is_same_call-requires-clause-before : goal.is_same_call-requires-clause-before
is_same_call-requires-clause-before c =
    let xs = c.args.before.now in
    let x = get_or xs c.loop-i.i c.index-before-i.result in
    by_places (λ (b : Atom). b.pred.0 < length c.args.self.now.edit.now.before.now.preds) xs c.requires.before c.loop-i.i x (there xs c.loop-i.i c.index-before-i.result (omega arith))

pub is_same_call-requires-clause-after : goal.is_same_call-requires-clause-after
is_same_call-requires-clause-after c =
    let ys = c.args.after.now in
    let y = get_or ys c.loop-i.i c.index-after-i.result in
    by_places (λ (b : Atom). b.pred.0 < length c.args.self.now.edit.now.after.now.preds) ys c.requires.after c.loop-i.i y (there ys c.loop-i.i c.index-after-i.result (omega arith))

pub loop-i-preserved : goal.loop-i-preserved
loop-i-preserved c =
    let xs = c.args.before.now in
    let ys = c.args.after.now in
    let n = c.loop-i.i in
    let x = get_or xs n c.index-before-i.result in
    let y = get_or ys n c.index-after-i.result in
    same_more (Alike c.args.self.now) n xs ys x y c.loop-i.invariant (there xs n c.index-before-i.result (omega arith)) (there ys n c.index-after-i.result (omega arith)) (c.is_same_call.ensures.0 c.if-not-is_same_call.false)

pub returns-then-before-after : goal.returns-then-before-after
returns-then-before-after c = (
  λ is. cc,
  λ same. let l = calls_length c.args.self.now c.args.before.now c.args.after.now same in absurd (omega arith),
)

pub returns-then-not-is_same_call : goal.returns-then-not-is_same_call
returns-then-not-is_same_call c =
    let xs = c.args.before.now in
    let ys = c.args.after.now in
    let n = c.loop-i.i in
    let x = get_or xs n c.index-before-i.result in
    let y = get_or ys n c.index-after-i.result in (
      λ is. cc,
      λ same.
          let right = c.is_same_call.ensures.1 (call_at c.args.self.now xs ys same n x y (there xs n c.index-before-i.result (omega arith)) (there ys n c.index-after-i.result (omega arith))) in
          let wrong = c.if-not-is_same_call.true in
          cc,
    )

pub returns : goal.returns
returns c =
    let xs = c.args.before.now in
    let ys = c.args.after.now in
    let l : length xs ≡ length ys = omega arith in
    let n : c.loop-i.i ≡ length xs = omega arith in
    (λ is. calls_of_places c.args.self.now xs ys l (subst (λ k. SameTo (Alike c.args.self.now) k xs ys) n c.loop-i.invariant), λ same. refl)
