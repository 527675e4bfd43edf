use Rattle.std.proofs.Common.{rules, ◌≡◌, ℤ, List, ap, ◌∙◌, ◌++◌, ◌∷◌, [], append_assoc, Result, Ok, Err}
use Rattle.std.specs.Int.{w128}
use Rattle.std.specs.Prelude.{FitsSigned, OnOk}
use Rattle.std.proofs.lemmas.Int.{to_z-of_z}
use Rattle.linear_rows.specs.Solving.{zeros}
use Rattle.redundant_rows.proofs.appending.push_alone.Goals as goal

on_ok : {X E : Type 0} (P Q : Type 0) → (P → Q) → (r : Result X E) → OnOk r P → OnOk r Q
on_ok P Q f (Ok x) h = f h
on_ok P Q f (Err e) h = h

pub returns : goal.returns
returns c =
    let f : FitsSigned w128 c.args.number = search rules in
    let pushed = simp to_z-of_z at c.in_ok-push.ensures.ok in
    let old = c.args.numbers.now in
    let before = zeros c.args.before in
    let after = zeros c.args.after in
    on_ok (c.push_zeros-2.new.numbers ≡ c.push.new.self ++ after) (c.push_zeros-2.new.numbers ≡ old ++ (before ++ c.args.number ∷ after))
    (λ e. e ∙ ap (λ (s : List ℤ). s ++ after) (pushed ∙ ap (λ (s : List ℤ). s ++ c.args.number ∷ []) c.in_ok-push_zeros.ensures) ∙ append_assoc (old ++ before) (c.args.number ∷ []) after ∙ append_assoc old before (c.args.number ∷ after))
    c.push_zeros-2.result c.push_zeros-2.ensures
