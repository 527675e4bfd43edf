-- What an answer of the test of multipliers says of them.
use Rattle.std.proofs.Common.{◌≡◌, ℤ, true, List, IfSome}
use Rattle.linear_rows.specs.Verdict.{Says}
use Rattle.linear_rows.specs.declared.multipliers.Proof.{Proof}
use Rattle.linear_rows.specs.declared.multipliers.Proof.TheVariants as proof
use Rattle.termination_model.specs.sizes.Systems.{row_fits}
use Rattle.number_tests.specs.Failing.{MultipliersFail, fails, wide}
use Rattle.number_tests.specs.Shown.{flaw_in}

pub flaw_fails : (rows : List (List ℤ)) (ms target : List ℤ) (scale : ℤ) (answer : Proof) → row_fits target ≡ true → Says rows ms target scale answer
    → IfSome (flaw_in answer) (MultipliersFail rows ms target scale)
flaw_fails rows ms target scale proof.Holds fit says = tt
flaw_fails rows ms target scale proof.Fails fit says = fails fit says
flaw_fails rows ms target scale proof.Wide fit says = wide fit says
