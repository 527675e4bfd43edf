use Rattle.std.proofs.Common.{◌+◌, ℕ, List, ap, sym, subst, ◌∙◌}
use Rattle.level_dual.specs.Vanishing.{AreMarkedOrIn}
use Rattle.level_dual.proofs.VanishLaws.{listed_more, marked_more}
use Rattle.level_dual.proofs.vanishing.unmarked.Goals.{then-not-has_mark+in_ok-push, else-not-has_mark}
use Rattle.level_dual.proofs.vanishing.unmarked.Goals as goal

pub loop-k-preserved : goal.loop-k-preserved
loop-k-preserved c =
    let k = c.loop-k.k in
    let marks = c.args.marks.now in
    let s = c.loop-k.numbers.items in
    elim c.if-not-has_mark.branch [
      | then-not-has_mark+in_ok-push w ↦
          subst (λ (ns : List ℕ). AreMarkedOrIn (k + 1) marks ns) (sym (ap (λ v. v.items) w.numbers-is ∙ w.in_ok-push.ensures.items)) (listed_more k marks s c.loop-k.invariant)
      | else-not-has_mark w ↦
          subst (λ (ns : List ℕ). AreMarkedOrIn (k + 1) marks ns) (sym (ap (λ v. v.items) w.numbers-is)) (marked_more k marks s c.loop-k.invariant (c.has_mark.ensures w.if-not-has_mark.false))
    ]
