-- Private.
-- A step of a chain: what it notes of its clause, and what it may do to the rows of its head's predicate.
--
-- As ChainSteps.antt of termination_model, over the systems of clauses in the place of a norm.
--
-- To believe: `IsImage`, `IsLegalImage`, `IsLegalStep`.
use Rattle.std.specs.Prelude.{◌≡◌, ℕ, suc, ◌↔◌, ℤ, Bool, true, false, List, [], length, None}
use Rattle.cti_terms.specs.declared.clauses.Clause.{Clause}
use Rattle.linear_rows.specs.Rows.{HoldsOn}
use Rattle.linear_rows.specs.Systems.{image_blown, image_left}
use Rattle.linear_rows.specs.Irredundant.{Fails, IsIrredundant, TestIsBlown}
use Rattle.termination_model.specs.chains.ChainRows.{HasSublist, IsBlown, AreSpoken}
use Rattle.termination_model.specs.chains.ChainSteps.{Step, HasLegalRows}
use Rattle.size_chains.specs.Systems.{Systems, at_head, body_of, head_of, naturals_of}

module _ (speaks : List ℤ → Bool) (systems : Systems) where
  module _ (rows : ℕ → List (List ℤ)) (k : Clause) where
    -- how many columns the head has
    abbrev pub columns : ℕ
    columns = length (systems.heads k)

    -- a row over the head's columns holds on the clause's system, fails at a point of it, or has a blown test there
    abbrev pub HoldsHere : List ℤ → Type 0
    HoldsHere r = HoldsOn (suc (naturals_of systems k)) (body_of systems rows k) (at_head systems k r)

    abbrev pub FailsHere : List ℤ → Type 0
    FailsHere r = Fails (naturals_of systems k) (body_of systems rows k) (at_head systems k r)

    abbrev pub IsBlownHere : List ℤ → Type 0
    IsBlownHere r = TestIsBlown (naturals_of systems k) (body_of systems rows k) (at_head systems k r)

    -- an irredundant sublist of the rows that elimination leaves, on which the same rows hold as on the clause
    pub record IsImage (image : List (List ℤ)) : Type 0 where
      pub decided : image_blown (naturals_of systems k) (head_of systems k) (body_of systems rows k) ≡ None
      pub part : HasSublist (image_left (naturals_of systems k) (head_of systems k) (body_of systems rows k)) image
      pub irredundant : IsIrredundant columns image
      pub spoken : AreSpoken speaks columns image
      pub same : (r : List ℤ) → length r ≡ suc columns → speaks r ≡ true → HoldsOn (suc columns) image r ↔ HoldsHere r

    -- the image that a step notes: weak and without rows where its system is blown, and only there
    abbrev pub IsLegalImage : Bool → List (List ℤ) → Type 0
    IsLegalImage false image = IsImage image
    IsLegalImage true image = IsBlown (image_blown (naturals_of systems k) (head_of systems k) (body_of systems rows k)) × (image ≡ [])

  -- a step that a chain may take in this pass: its image and its rows are legal
  pub record IsLegalStep (pass : ℕ) (rows : ℕ → List (List ℤ)) (k : Clause) (s : Step) : Type 0 where
    pub image : IsLegalImage rows k s.image_weak s.image
    pub legal : HasLegalRows speaks (columns rows k) (HoldsHere rows k) (FailsHere rows k) (IsBlownHere rows k) pass (rows k.head.pred.0) s.image s.weak s.how s.rows
