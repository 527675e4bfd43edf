-- Private.
-- The state of a chain, and what a step does to it.
use Rattle.std.specs.Prelude.{◌≡◌, ℕ, ◌+◌, ◌-◌, ◌^◌, ◌<◌, ◌≤◌, ℤ, Bool, true, false, nat_le, List, [], ◌∷◌, ◌++◌, length, slice_get, slice_set, Option, None, Some}
use Rattle.call_components.specs.Partition.{Partition}
use Rattle.cti_terms.specs.Arithmetic.{kind_of}
use Rattle.cti_terms.specs.Listing.{Listing}
use Rattle.cti_terms.specs.declared.builtins.Builtin.{Builtin}
use Rattle.cti_terms.specs.declared.predicates.Pred.{Pred}
use Rattle.linear_rows.specs.Plain.{plain_rows, HaveWidth}
use Rattle.linear_rows.specs.declared.row.Rows.{Rows}
use Rattle.termination_model.specs.chains.ChainSteps.{Step as PlainStep}
use Rattle.termination_model.specs.sizes.Sizes.{rows_of}
use Rattle.size_chains.specs.declared.filled.Filled.{Filled}
use Rattle.size_chains.specs.declared.filled.Filled.TheVariants.{Bottom}
use Rattle.size_chains.specs.declared.noting.Noted.{Noted}
use Rattle.size_chains.specs.declared.state.State.{State}
use Rattle.size_chains.specs.declared.step.Step.{Step}
use Rattle.size_chains.specs.declared.value.Value.{Value}
use Rattle.size_chains.specs.Filling.{IsFilled, weight}
use Rattle.size_chains.specs.Chains.{start_or_none}
use Rattle.size_chains.specs.Systems.{AreSizes, Systems}

-- whether a predicate is of the component c or of a later one
abbrev pub is_from : ℕ → Option ℕ → Bool
is_from c None = false
is_from c (Some d) = nat_le c d

abbrev pub own_from : Partition → ℕ → ℕ → Bool
own_from comps c q = is_from c (slice_get comps.of q)

abbrev pub every : ℕ → Bool
every q = true

-- a step, over plain lists
abbrev pub plain_step : Step → PlainStep
plain_step s = record { clause = s.clause; image = plain_rows s.image.value.list; image_weak = s.image_weak; how = s.how; rows = plain_rows s.rows.value.list; weak = s.step_weak }

module _ {D : Type 0} (width : D → ℕ) (listed : D → List (List ℤ)) where
  abbrev pub value_weight : Value D → ℕ
  value_weight v = weight v.filled (listed v.of)

  -- how far passes can still go: the weights of all values together
  abbrev pub weights : List (Value D) → ℕ
  weights [] = 0
  weights (v ∷ vs) = value_weight v + weights vs

  -- the rows and the value of a predicate with so many columns at the start
  pub record IsStart (n : ℕ) (rows : Rows) (v : Value D) : Type 0 where
    pub width_is : rows.width ≡ n
    pub long : HaveWidth n rows.list
    pub rows_are : listed v.of ≡ plain_rows rows.list
    pub value_width : width v.of ≡ n
    pub bottom : IsFilled n Bottom (listed v.of)
    pub filled : v.filled ≡ Bottom

  -- one more predicate, at the start
  pub record IsAdded (n : ℕ) (old new : State D) : Type 0 where
    pub rows : Rows
    pub value : Value D
    pub start : IsStart n rows value
    pub sizes : new.sizes.rows ≡ old.sizes.rows ++ rows ∷ []
    pub values : new.values.items ≡ old.values.items ++ value ∷ []

  -- a value and its rows in the place of a predicate's
  pub record IsReplaced (q : ℕ) (d : D) (filled : Filled) (old new : State D) : Type 0 where
    pub rows : Rows
    pub width_is : rows.width ≡ width d
    pub long : HaveWidth (width d) rows.list
    pub rows_are : plain_rows rows.list ≡ listed d
    pub few : length (listed d) < 2 ^ 64
    pub sizes : new.sizes.rows ≡ slice_set old.sizes.rows q rows
    pub values : new.values.items ≡ slice_set old.values.items q (record { of = d; filled = filled })

  abbrev pub IfReplaced : ℕ → Option D → Filled → State D → State D → Bool → Type 0
  IfReplaced q None filled old new changed = (changed ≡ false) × (new.sizes.rows ≡ old.sizes.rows) × (new.values.items ≡ old.values.items)
  IfReplaced q (Some d) filled old new changed = (changed ≡ true) × IsReplaced q d filled old new

  -- a step on the clause k of the predicate q is among the steps, with what it did to the rows
  pub record IsAccepted (q k : ℕ) (noted : Noted D) (old new : State D) (changed : Bool) : Type 0 where
    pub step : Step
    pub replaced : IfReplaced q noted.stepped.next noted.stepped.filled old new changed
    pub steps : new.steps ≡ old.steps ++ step ∷ []
    pub clause : step.clause ≡ k
    pub image : step.image.value.list ≡ noted.image.value.list
    pub image_weak : step.image_weak ≡ noted.image_weak
    pub how : step.how ≡ noted.stepped.how
    pub rows : plain_rows step.rows.value.list ≡ rows_of new.sizes.rows q
    pub weak : step.step_weak ≡ noted.stepped.weak
    pub proofs : new.proofs.items ≡ slice_set old.proofs.items (k - 1) noted.stepped.by

  module _ (systems : Systems) where
    -- the value of a predicate, which lists the predicate's rows where it is one of these and not built in
    pub record IsValueOf (own : ℕ → Bool) (kind : Option Builtin) (rows : ℕ → List (List ℤ)) (q : ℕ) (v : Value D) : Type 0 where
      pub rows_are : own q ≡ true → kind ≡ None → listed v.of ≡ rows q
      pub columns : systems.width q ≡ width v.of
      pub known : IsFilled (width v.of) v.filled (listed v.of)
      pub light : value_weight v ≤ 2 ^ 65

    pub record IsState (own : ℕ → Bool) (p : Listing) (s : State D) : Type 0 where
      pub sizes : AreSizes systems p.preds s.sizes.rows
      pub each : length s.values.items ≡ length p.preds
      pub values : (q : ℕ) (v : Value D) → slice_get s.values.items q ≡ Some v → IsValueOf own (kind_of p.arithmetic q) (rows_of s.sizes.rows) q v
      pub stated : (q : ℕ) (b : Builtin) → own q ≡ true → kind_of p.arithmetic q ≡ Some b → rows_of s.sizes.rows q ≡ systems.stated b
      pub proofs : length s.proofs.items ≡ length p.clauses

    -- rows and values of the first n predicates at the start
    pub record AreStarts (n : ℕ) (rows : List Rows) (values : List (Value D)) : Type 0 where
      pub rows_count : length rows ≡ n
      pub values_count : length values ≡ n
      pub starts : (q : ℕ) (r : Rows) (v : Value D) → slice_get rows q ≡ Some r → slice_get values q ≡ Some v → IsStart (systems.width q) r v

    abbrev pub IsFresh : List Pred → State D → Type 0
    IsFresh preds s = AreStarts (length preds) s.sizes.rows s.values.items

    -- the rows of a predicate have given way to those that are stated of it
    pub record IsStatedAt (q : ℕ) (kind : Builtin) (old new : State D) : Type 0 where
      pub rows : Rows
      pub width_is : rows.width ≡ systems.width q
      pub long : HaveWidth rows.width rows.list
      pub rows_are : plain_rows rows.list ≡ systems.stated kind
      pub sizes : new.sizes.rows ≡ slice_set old.sizes.rows q rows
      pub values : new.values.items ≡ old.values.items

    -- so it is with the built-in predicates below n
    pub record AreStatedTo (p : Listing) (n : ℕ) (s : State D) : Type 0 where
      pub sizes : AreSizes systems p.preds s.sizes.rows
      pub each : length s.values.items ≡ length p.preds
      pub values : (q : ℕ) (v : Value D) → slice_get s.values.items q ≡ Some v → IsValueOf every (kind_of p.arithmetic q) (rows_of s.sizes.rows) q v
      pub stated : (q : ℕ) (b : Builtin) → q < n → kind_of p.arithmetic q ≡ Some b → rows_of s.sizes.rows q ≡ systems.stated b
      pub others : (q : ℕ) → kind_of p.arithmetic q ≡ None → rows_of s.sizes.rows q ≡ start_or_none systems q (slice_get p.preds q)
