-- Numbers of a set that has one more number before it, or has not.
use Rattle.std.proofs.Common.{◌≡◌, ℕ, suc, ◌≤◌, Bool, true, false, if◌then◌else◌, List, ◌∷◌, inl, inr, refl, arith}
use Rattle.linear_rows.specs.Members.{In}
use Rattle.termination_model.specs.grounds.Minimal.{IsSet}
use Rattle.termination_model.proofs.Sets.{within}

pub not_first : (b : Bool) (i x : ℕ) (rest : List ℕ) → suc i ≤ x → In x (if b then i ∷ rest else rest) → In x rest
not_first true i x rest l (inl e) = absurd (omega arith)
not_first true i x rest l (inr h) = h
not_first false i x rest l h = h

pub first_there : (b : Bool) (i hi : ℕ) (rest : List ℕ) → IsSet (suc i) hi rest → In i (if b then i ∷ rest else rest) → b ≡ true
first_there true i hi rest s h = refl
first_there false i hi rest s h = let r = (within (suc i) hi rest s i h).0 in absurd (omega arith)

pub in_if : (b : Bool) (i : ℕ) (rest : List ℕ) → b ≡ true → In i (if b then i ∷ rest else rest)
in_if true i rest e = inl refl
in_if false i rest e = cc

pub in_rest : (b : Bool) (i x : ℕ) (rest : List ℕ) → In x rest → In x (if b then i ∷ rest else rest)
in_rest true i x rest h = inr h
in_rest false i x rest h = h
