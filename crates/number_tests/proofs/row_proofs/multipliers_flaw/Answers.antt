use Rattle.std.proofs.Common.{rules, ◌≡◌, ◌↔◌, ℤ, List, Option, Some, IfSome, sym, subst}
use Rattle.linear_rows.specs.Plain.{plain_row, plain_rows}
use Rattle.linear_rows.specs.Verdict.{Says}
use Rattle.linear_rows.specs.Proves.{AllColumnsFit, Proves}
use Rattle.linear_rows.specs.declared.multipliers.Proof.TheVariants as proof
use Rattle.termination_model.specs.sizes.Replacing.{IsRowIfFits}
use Rattle.number_tests.specs.Failing.{MultipliersFail, wide_target}
use Rattle.number_tests.specs.declared.flaw.Flaw.{Flaw}
use Rattle.number_tests.proofs.FlawLaws.{flaw_fails}
use Rattle.number_tests.proofs.row_proofs.multipliers_flaw.Goals as goal

pub returns-in_default-clause-fails : goal.returns-in_default-clause-fails
returns-in_default-clause-fails c = λ z is. wide_target (subst (IsRowIfFits z) c.in_default.is is)

pub returns-clause-shows : goal.returns-clause-shows
returns-clause-shows c = λ z is.
    let rows = plain_rows c.args.rows.now.list in
    let by = c.args.by.now in
    let at : IsRowIfFits z (Some c.in-Some.target) = subst (IsRowIfFits z) c.in-Some.is is in
    let holds : (c.proves.result ≡ proof.Holds) ↔ (Proves rows by.list (plain_row c.in-Some.target) by.scale × AllColumnsFit rows by.list (plain_row c.in-Some.target) by.scale) = search rules in
    let tells = subst (λ (t : List ℤ). (c.proves.result ≡ proof.Holds) ↔ (Proves rows by.list t by.scale × AllColumnsFit rows by.list t by.scale)) at.0 holds in (
      λ none. let p = tells.0 (c.flaw_of.ensures.none.0 none) in record { target_fits = at.1; proves = p.0; numbers_fit = p.1 },
      λ shown. c.flaw_of.ensures.none.1 (tells.1 (shown.proves, shown.numbers_fit)),
    )

pub returns-clause-fails : goal.returns-clause-fails
returns-clause-fails c = λ z is.
    let rows = plain_rows c.args.rows.now.list in
    let by = c.args.by.now in
    let answer = c.proves.result in
    let at : IsRowIfFits z (Some c.in-Some.target) = subst (IsRowIfFits z) c.in-Some.is is in
    let says : Says rows by.list (plain_row c.in-Some.target) by.scale answer = search rules in
    subst (λ (o : Option Flaw). IfSome o (MultipliersFail rows by.list z by.scale)) (sym c.flaw_of.ensures.which)
    (flaw_fails rows by.list z by.scale answer at.1 (subst (λ (t : List ℤ). Says rows by.list t by.scale answer) at.0 says))
