-- The loop has derivations of each length.
use Rattle.std.proofs.Common.{◌≡◌, ℕ, zero, suc, ◌+◌, ◌<◌, List, [], ◌∷◌, length, refl, ap, arith}
use Rattle.cti_terms.specs.declared.derivation.Goal.{Goal}
use Rattle.cti_terms.specs.Unify.{none}
use Rattle.cti_terms.proofs.ResolveLaws.{resolve_complete}
use Rattle.cti_terms.specs.Derive.{IsDerivation}
use Rattle.termination_model.specs.examples.Loop.{proposition, loop, LoopGoesOn}

ones : ℕ → List ℕ
ones zero = []
ones (suc m) = 1 ∷ ones m

long : (m n : ℕ) → IsDerivation loop (record { atoms = proposition ∷ []; fresh = n }) (ones m)
unfolding ones
long zero n = tt
long (suc m) n =
    let h : Goal = record { atoms = proposition ∷ []; fresh = n + 0 } in
    ([], h, resolve_complete loop (record { atoms = proposition ∷ []; fresh = n }) 1 [] h (record { pred = refl; unifies = none; atoms = refl; fresh = refl }), long m (n + 0))

length-ones : (m : ℕ) → length (ones m) ≡ m
unfolding ones
length-ones zero = refl
length-ones (suc m) = ap suc (length-ones m)

pub loop_goes_on : LoopGoesOn
loop_goes_on n b =
    let l : length (ones b.0) < b.0 = b.1 (ones b.0) (long b.0 n) in
    omega (arith, length-ones b.0)
