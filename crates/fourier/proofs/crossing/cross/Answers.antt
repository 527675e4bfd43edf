use Rattle.std.proofs.Common.{rules, ◌≡◌, sym, ◌∙◌, ap, true, Ok, Err, Result}
use Rattle.std.specs.Int.{w128}
use Rattle.std.specs.Prelude.{FitsSigned, IfOk, neg_ℤ}
use Rattle.std.proofs.lemmas.Int.{to_z-of_z}
use Rattle.linear_rows.specs.Elimination.{crossed}
use Rattle.linear_rows.specs.Blown.{blend_fits, crossed_fits}
use Rattle.fourier.proofs.Factors.{factors}
use Rattle.fourier.proofs.crossing.cross.Goals as goal

if_ok : {A E : Type 0} (r : Result A E) (P Q : A → Type 0) → ((a : A) → P a → Q a) → IfOk r P → IfOk r Q
if_ok (Ok x) P Q f h = f x h
if_ok (Err e) P Q f h = h

pub returns-clause-row : goal.returns-clause-row
returns-clause-row c =
    let fu : FitsSigned w128 c.entry-up.result = search rules in
    let fs : FitsSigned w128 c.entry.result = search rules in
    let fd : FitsSigned w128 c.negated-down.result = search rules in
    let fq : FitsSigned w128 c.quotient.result = search rules in
    let fp : FitsSigned w128 c.quotient-2.result = search rules in
    let ed = (simp to_z-of_z at c.negated-down.ensures) ∙ ap neg_ℤ c.entry.ensures in
    let ex = simp to_z-of_z at c.unsigned_abs.ensures.value in
    let ey = simp to_z-of_z at c.unsigned_abs-2.ensures.value in
    let ea = simp to_z-of_z at c.quotient.ensures in
    let eb = simp to_z-of_z at c.quotient-2.ensures in
    let f = factors c.args.k c.args.r.now c.args.s.now c.entry-up.result c.negated-down.result c.quotient.result c.quotient-2.result c.gcd-shared.result c.unsigned_abs.result c.unsigned_abs-2.result
    c.requires.long c.entry-up.ensures ed ex ey c.gcd-shared.ensures.value ea eb in
    if_ok c.blend.result _ (λ q. q ≡ crossed c.args.k c.args.r.now c.args.s.now) (λ q e. e ∙ f.row) (simp to_z-of_z at c.blend.ensures.sum)

pub returns-clause-fits : goal.returns-clause-fits
returns-clause-fits c =
    let fu : FitsSigned w128 c.entry-up.result = search rules in
    let fs : FitsSigned w128 c.entry.result = search rules in
    let fd : FitsSigned w128 c.negated-down.result = search rules in
    let fq : FitsSigned w128 c.quotient.result = search rules in
    let fp : FitsSigned w128 c.quotient-2.result = search rules in
    let ed = (simp to_z-of_z at c.negated-down.ensures) ∙ ap neg_ℤ c.entry.ensures in
    let ex = simp to_z-of_z at c.unsigned_abs.ensures.value in
    let ey = simp to_z-of_z at c.unsigned_abs-2.ensures.value in
    let ea = simp to_z-of_z at c.quotient.ensures in
    let eb = simp to_z-of_z at c.quotient-2.ensures in
    let f = factors c.args.k c.args.r.now c.args.s.now c.entry-up.result c.negated-down.result c.quotient.result c.quotient-2.result c.gcd-shared.result c.unsigned_abs.result c.unsigned_abs-2.result
    c.requires.long c.entry-up.ensures ed ex ey c.gcd-shared.ensures.value ea eb in
    if_ok c.blend.result (λ _. blend_fits c.quotient.result c.quotient-2.result c.args.r.now c.args.s.now ≡ true) (λ _. crossed_fits c.args.k c.args.r.now c.args.s.now ≡ true) (λ _ h. sym f.fit ∙ h) (simp to_z-of_z at c.blend.ensures.fits)

pub returns-clause-wide : goal.returns-clause-wide
returns-clause-wide c =
    let fu : FitsSigned w128 c.entry-up.result = search rules in
    let fs : FitsSigned w128 c.entry.result = search rules in
    let fd : FitsSigned w128 c.negated-down.result = search rules in
    let fq : FitsSigned w128 c.quotient.result = search rules in
    let fp : FitsSigned w128 c.quotient-2.result = search rules in
    let ed = (simp to_z-of_z at c.negated-down.ensures) ∙ ap neg_ℤ c.entry.ensures in
    let ex = simp to_z-of_z at c.unsigned_abs.ensures.value in
    let ey = simp to_z-of_z at c.unsigned_abs-2.ensures.value in
    let ea = simp to_z-of_z at c.quotient.ensures in
    let eb = simp to_z-of_z at c.quotient-2.ensures in
    let f = factors c.args.k c.args.r.now c.args.s.now c.entry-up.result c.negated-down.result c.quotient.result c.quotient-2.result c.gcd-shared.result c.unsigned_abs.result c.unsigned_abs-2.result
    c.requires.long c.entry-up.ensures ed ex ey c.gcd-shared.ensures.value ea eb in
    λ is. sym f.fit ∙ (simp to_z-of_z at c.blend.ensures.wide) is
