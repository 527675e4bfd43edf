-- Private.
-- What a noted step says of its clause.
use Rattle.std.specs.Prelude.{◌≡◌, ◌≢◌, ℕ, ◌<◌, ℤ, Bool, List, length}
use Rattle.cti_terms.specs.declared.clauses.Clause.{Clause}
use Rattle.linear_rows.specs.Plain.{plain_rows}
use Rattle.termination_model.specs.chains.ChainSteps.{Step}
use Rattle.size_chains.specs.declared.filled.Filled.{Filled}
use Rattle.size_chains.specs.declared.noting.Noted.{Noted}
use Rattle.size_chains.specs.Filling.{IsFilled, weight}
use Rattle.size_chains.specs.Proved.{IsProved}
use Rattle.size_chains.specs.Stepping.{rows_after, IfNew, IfNone}
use Rattle.size_chains.specs.Steps.{IsLegalStep}
use Rattle.size_chains.specs.Systems.{Systems}

-- a value lists the rows of the clause's head, which has so many columns
pub record HasRowsOf (columns : ℕ) (rows : ℕ → List (List ℤ)) (c : Clause) (filled : Filled) (width : ℕ) (listed : List (List ℤ)) : Type 0 where
  pub rows_are : listed ≡ rows c.head.pred.0
  pub width_is : width ≡ columns
  pub known : IsFilled columns filled listed

module _ {D : Type 0} (width : D → ℕ) (listed : D → List (List ℤ)) (speaks : List ℤ → Bool) (systems : Systems) (pass : ℕ) (rows : ℕ → List (List ℤ)) (c : Clause) (k : ℕ) where
  -- the note of a step
  abbrev pub note : Noted D → Step
  note r = record { clause = k; image = plain_rows r.image.value.list; image_weak = r.image_weak; how = r.stepped.how; rows = rows_after listed (rows c.head.pred.0) r.stepped.next; weak = r.stepped.weak }

  pub record IsNoted (filled : Filled) (r : Noted D) : Type 0 where
    pub legal : IsLegalStep speaks systems pass rows c (note r)
    pub known : IsFilled (length (systems.heads c)) r.stepped.filled (rows_after listed (rows c.head.pred.0) r.stepped.next)
    pub sized : IfNew (λ d. width d ≡ length (systems.heads c)) r.stepped.next
    pub new : IfNew (λ d. listed d ≢ rows c.head.pred.0) r.stepped.next
    pub less : 3 < pass → IfNew (λ d. weight r.stepped.filled (listed d) < weight filled (rows c.head.pred.0)) r.stepped.next
    pub shown : IfNone (IsProved systems rows c r.stepped.by) r.stepped.next
