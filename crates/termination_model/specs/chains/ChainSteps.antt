-- To believe, for the modes.
-- A step of a chain: what it notes of its clause, and what it may do to the rows of its head's predicate.
--
-- A step takes the image of its clause: rows of the sizes that the head's arguments have where the body's size rows
-- hold. With the image it changes the rows of the head's predicate.
--
-- Systems of elimination and tests may be blown. An image whose system is blown is weak and has no rows. A step is weak
-- only where some test or join that it needs is blown (`ChainLicences.antt`); it keeps rows that hold, and loses only
-- rows that fail or whose test is blown.
--
-- To believe: `IsImage`, `IsStrong`, `IsWeak`, `IsLegalStep`, over the words of `ChainRows.antt`.
-- Source: the fixpoint of size relations with widening, as in Mesnard and Neumerkel 2001.
use Rattle.std.specs.Prelude.{◌≡◌, ℕ, suc, ◌<◌, ◌≤◌, ◌↔◌, ℤ, Bool, true, false, ◌⊎◌, List, [], ◌∷◌, map, length, None}
use Rattle.std.specs.List.{AllByRecursion}
use Rattle.cti_terms.specs.Tree.{Tree}
use Rattle.cti_terms.specs.declared.clauses.Clause.{Clause}
use Rattle.linear_rows.specs.Rows.{HoldsOn, AreEmpty}
use Rattle.linear_rows.specs.Systems.{image_blown, image_left}
use Rattle.linear_rows.specs.Irredundant.{Fails, IsIrredundant, TestIsBlown}
use Rattle.termination_model.specs.chains.ChainRows.{bottom_row, HasPoint, Sieved, HasSublist, IsBlown, AreSpoken, IsJoin}
use Rattle.termination_model.specs.chains.ChainLicences.{IsLicensed}
use Rattle.termination_model.specs.claims.Claims.{SomeOf}
use Rattle.termination_model.specs.sizes.Systems.{row_over, system}
use Rattle.termination_model.specs.declared.how.How.{How}
use Rattle.termination_model.specs.declared.how.How.TheVariants.{None as Nothing, First, Join, Keep, Same}

-- a step as it is noted: the number of its clause, its image, and the rows of the head's predicate after it
pub record Step : Type 0 where
  pub clause : ℕ
  pub image : List (List ℤ)
  pub image_weak : Bool
  pub how : How
  pub rows : List (List ℤ)
  pub weak : Bool

-- What a step may do to the n-ary rows of its head's predicate. What it knows of its clause are three facts of a row
-- over the head's arguments: it holds there, it fails at a point of it, its test there is blown.
module _ (speaks : List ℤ → Bool) (n : ℕ) (HoldsThere FailsThere IsBlownThere : List ℤ → Type 0) (pass : ℕ) (old image : List (List ℤ)) where
  -- neither the image nor the old rows are empty
  abbrev pub BothHavePoints : Type 0
  BothHavePoints = HasPoint n image × HasPoint n old

  -- the step may be weak: a test or a join that it needs is blown
  abbrev pub HasLicence : Type 0
  HasLicence = IsLicensed n HoldsThere FailsThere IsBlownThere pass old image

  -- a step that is not weak, by the first case that fits
  abbrev pub IsStrong : How → List (List ℤ) → Type 0
  IsStrong Nothing new = AreEmpty (suc n) image × (new ≡ old)
  IsStrong First new = HasPoint n image × AreEmpty (suc n) old × (new ≡ image)
  IsStrong Same new = BothHavePoints × AllByRecursion HoldsThere old × (new ≡ old)
  IsStrong Join new = (pass ≤ 3) × BothHavePoints × SomeOf FailsThere old × IsJoin speaks n old image new
  IsStrong Keep new = (3 < pass) × BothHavePoints × SomeOf FailsThere old × Sieved HoldsThere FailsThere old new

  -- rows are lost only where they fail or their test is blown
  abbrev pub KeepsOf : List (List ℤ) → List (List ℤ) → Type 0
  KeepsOf base new = Sieved HoldsThere (λ r. FailsThere r ⊎ IsBlownThere r) base new

  -- a weak step keeps rows of the image where the old rows are the one row of constant -1, and old rows otherwise
  abbrev pub IsWeak : How → List (List ℤ) → Type 0
  IsWeak First new = HasLicence × (old ≡ bottom_row n ∷ []) × KeepsOf image new
  IsWeak Keep new = HasLicence × (old ≡ bottom_row n ∷ [] → ⊥) × KeepsOf old new
  IsWeak Nothing new = ⊥
  IsWeak Same new = ⊥
  IsWeak Join new = ⊥

  -- the rows that a step may leave, weak or not
  abbrev pub HasLegalRows : Bool → How → List (List ℤ) → Type 0
  HasLegalRows false = IsStrong
  HasLegalRows true = IsWeak

module _ (speaks : List ℤ → Bool) (expression : ℕ → Tree → List ℤ) where
  module _ (rows : ℕ → List (List ℤ)) (k : Clause) where
    -- how many arguments the head has
    abbrev pub arity : ℕ
    arity = length k.head.args

    -- the clause's system: the size rows of its whole body, over its variables
    abbrev pub body : List (List ℤ)
    body = system expression rows k.vars k.body

    -- the sizes of the head's arguments, and a row over them
    abbrev pub heads : List (List ℤ)
    heads = map (expression k.vars) k.head.args

    abbrev pub at_head : List ℤ → List ℤ
    at_head = row_over expression k.vars k.head.args

    -- a row over the head's arguments holds on the clause's system, fails at a point of it, or has a blown test there
    abbrev pub HoldsHere : List ℤ → Type 0
    HoldsHere r = HoldsOn (suc k.vars) body (at_head r)

    abbrev pub FailsHere : List ℤ → Type 0
    FailsHere r = Fails k.vars body (at_head r)

    abbrev pub IsBlownHere : List ℤ → Type 0
    IsBlownHere r = TestIsBlown k.vars body (at_head r)

    -- an irredundant sublist of the rows that elimination leaves, on which the same rows hold as on the clause
    pub record IsImage (image : List (List ℤ)) : Type 0 where
      pub decided : image_blown k.vars heads body ≡ None
      pub part : HasSublist (image_left k.vars heads body) image
      pub irredundant : IsIrredundant arity image
      pub spoken : AreSpoken speaks arity image
      pub same : (r : List ℤ) → length r ≡ suc arity → speaks r ≡ true → HoldsOn (suc arity) image r ↔ HoldsHere r

    -- the image that a step notes: weak and without rows where its system is blown, and only there
    abbrev pub IsLegalImage : Bool → List (List ℤ) → Type 0
    IsLegalImage false image = IsImage image
    IsLegalImage true image = IsBlown (image_blown k.vars heads body) × (image ≡ [])

  -- a step that a chain may take in this pass: its image and its rows are legal
  pub record IsLegalStep (pass : ℕ) (rows : ℕ → List (List ℤ)) (k : Clause) (s : Step) : Type 0 where
    pub image : IsLegalImage rows k s.image_weak s.image
    pub legal : HasLegalRows speaks (arity rows k) (HoldsHere rows k) (FailsHere rows k) (IsBlownHere rows k) pass (rows k.head.pred.0) s.image s.weak s.how s.rows
