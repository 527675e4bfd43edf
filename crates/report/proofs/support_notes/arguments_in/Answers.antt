use Rattle.std.proofs.Common.{◌≡◌, ◌+◌, ◌-◌, ◌++◌, ◌∷◌, [], ℕ, Bool, if◌then◌else◌, ap, ◌∙◌, nat_eq}
use Rattle.std.specs.List.{list_any}
use Rattle.report.specs.SupportNotes.{arguments_in}
use Rattle.cert_assembly.proofs.NoteLaws.{added}
use Rattle.report.proofs.NoteLaws.{arguments_step}
use Rattle.report.proofs.support_notes.arguments_in.Goals as goal

pub loop-a-preserved : goal.loop-a-preserved
loop-a-preserved c =
    let s = c.args.set.now in
    let first = c.args.first in
    let a = c.loop-a.a in
    let n = c.args.arity in
    let wanted : c.has_position-wanted.result ≡ list_any (λ x. nat_eq (first + a) x) s = c.has_position-wanted.ensures ∙ ap (λ (n : ℕ). list_any (λ x. nat_eq (first + n) x) s) c.from.ensures in
    added _ _ _ (arguments_in s (first + (a + 1)) ((a + 1) + 1) (n - (a + 1))) (arguments_in s (first + a) (a + 1) (n - a)) _
    (c.in_ok-push_if.ensures ∙ ap (λ (b : Bool). c.loop-a.arguments ++ (if b then (a + 1) ∷ [] else [])) wanted)
    (arguments_step s first a n c.loop-a-test.true) c.loop-a.invariant
