-- Private.
-- What a step answers.
use Rattle.std.specs.Prelude.{◌≡◌, ◌≢◌, ℕ, suc, ◌<◌, ℤ, Bool, true, List, length, slice_get, Option, None, Some}
use Rattle.linear_rows.specs.declared.system.System.{System}
use Rattle.termination_model.specs.chains.ChainRows.{bottom_row}
use Rattle.termination_model.specs.chains.ChainLicences.{IsLicensed}
use Rattle.termination_model.specs.chains.ChainSteps.{HasLegalRows}
use Rattle.linear_rows.specs.Rows.{HoldsOn}
use Rattle.polyhedra.specs.Telling.{IsBlownOn}
use Rattle.polyhedra.specs.Making.{arity_of, HoldsFor, Fails, AreShown}
use Rattle.size_chains.specs.declared.stepped.Stepped.{Stepped}
use Rattle.size_chains.specs.declared.filled.Filled.{Filled}
use Rattle.size_chains.specs.Filling.{IsFilled, weight}

-- what holds on an image holds on its clause
abbrev pub HoldsOnImage : (List ℤ → Bool) → System → List (List ℤ) → Type 0
HoldsOnImage speaks s image = (r : List ℤ) → length r ≡ suc (arity_of s) → speaks r ≡ true → HoldsOn (suc (arity_of s)) image r → HoldsFor s r

-- what allows a step on a clause's system to be weak
abbrev pub MayBeWeak : System → ℕ → List (List ℤ) → List (List ℤ) → Type 0
MayBeWeak s = IsLicensed (arity_of s) (HoldsFor s) (Fails s) (IsBlownOn s)

-- the row at a place is that of constant -1 and zeros
abbrev pub IsBottomAt : List (List ℤ) → ℕ → Type 0
IsBottomAt rows i = (n : ℕ) × (slice_get rows i ≡ Some (bottom_row n))

-- the rows after a step
abbrev pub rows_after : {D : Type 0} → (D → List (List ℤ)) → List (List ℤ) → Option D → List (List ℤ)
rows_after listed old None = old
rows_after listed old (Some d) = listed d

-- what holds of the new value, where there is one
abbrev pub IfNew : {D : Type 0} → (D → Type 0) → Option D → Type 0
IfNew P None = Unit {0}
IfNew P (Some d) = P d

abbrev pub IfNone : {D : Type 0} → Type 0 → Option D → Type 0
IfNone P None = P
IfNone P (Some d) = Unit {0}

module _ {D : Type 0} (width : D → ℕ) (listed : D → List (List ℤ)) (speaks : List ℤ → Bool) (s : System) (pass : ℕ) (old image : List (List ℤ)) where
  pub record IsStep (filled : Filled) (r : Stepped D) : Type 0 where
    pub legal : HasLegalRows speaks (arity_of s) (HoldsFor s) (Fails s) (IsBlownOn s) pass old image r.weak r.how (rows_after listed old r.next)
    pub sized : IfNew (λ d. width d ≡ arity_of s) r.next
    -- a new value has other rows
    pub new : IfNew (λ d. listed d ≢ old) r.next
    pub known : IsFilled (arity_of s) r.filled (rows_after listed old r.next)
    -- after the third pass less is left to do
    pub less : 3 < pass → IfNew (λ d. weight r.filled (listed d) < weight filled old) r.next
    -- rows that stay are proved
    pub shown : IfNone (AreShown s old r.by) r.next

-- the same of two values: the old one, and the image
abbrev pub IsStepOf : {D : Type 0} → (D → ℕ) → (D → List (List ℤ)) → (List ℤ → Bool)
    → System → ℕ → D → D → Filled → Stepped D → Type 0
IsStepOf width listed speaks s pass old image = IsStep width listed speaks s pass (listed old) (listed image)
