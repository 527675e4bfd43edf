-- Private.
-- What a noted step says of its clause.
use Rattle.std.specs.Prelude.{◌≡◌, ◌≢◌, ℕ, ◌<◌, ℤ, Bool, List, length}
use Rattle.cti_terms.specs.Tree.{Tree}
use Rattle.cti_terms.specs.declared.clauses.Clause.{Clause}
use Rattle.linear_rows.specs.Plain.{plain_rows}
use Rattle.termination_model.specs.chains.ChainSteps.{Step, IsLegalStep}
use Rattle.numeric_model.specs.declared.filled.Filled.{Filled}
use Rattle.numeric_model.specs.declared.noting.Noted.{Noted}
use Rattle.numeric_model.specs.Filling.{IsFilled, weight}
use Rattle.numeric_model.specs.Proved.{IsProved}
use Rattle.numeric_model.specs.Stepping.{rows_after, IfNew, IfNone}

-- a value lists the rows of the clause's head
pub record HasRowsOf (rows : ℕ → List (List ℤ)) (c : Clause) (filled : Filled) (width : ℕ) (listed : List (List ℤ)) : Type 0 where
  pub rows_are : listed ≡ rows c.head.pred.0
  pub width_is : width ≡ length c.head.args
  pub known : IsFilled (length c.head.args) filled listed

module _ {D : Type 0} (width : D → ℕ) (listed : D → List (List ℤ)) (speaks : List ℤ → Bool) (expression : ℕ → Tree → List ℤ) (pass : ℕ) (rows : ℕ → List (List ℤ)) (c : Clause) (k : ℕ) where
  -- the note of a step
  abbrev pub note : Noted D → Step
  note r = record { clause = k; image = plain_rows r.image.value.list; image_weak = r.image_weak; how = r.stepped.how; rows = rows_after listed (rows c.head.pred.0) r.stepped.next; weak = r.stepped.weak }

  pub record IsNoted (filled : Filled) (r : Noted D) : Type 0 where
    pub legal : IsLegalStep speaks expression pass rows c (note r)
    pub known : IsFilled (length c.head.args) r.stepped.filled (rows_after listed (rows c.head.pred.0) r.stepped.next)
    pub sized : IfNew (λ d. width d ≡ length c.head.args) r.stepped.next
    pub new : IfNew (λ d. listed d ≢ rows c.head.pred.0) r.stepped.next
    pub less : 3 < pass → IfNew (λ d. weight r.stepped.filled (listed d) < weight filled (rows c.head.pred.0)) r.stepped.next
    pub shown : IfNone (IsProved expression rows c r.stepped.by) r.stepped.next
