-- Private.
-- What an edit begins with: the rows, the proofs and the sets from before it, under the new numbers of predicates and
-- clauses.
use Rattle.std.specs.Prelude.{◌≡◌, ◌⊎◌, ℕ, ◌-◌, ◌≤◌, List, slice_get, Option, Some}
use Rattle.call_components.specs.Partition.{Partition, IsIn}
use Rattle.cti_terms.specs.Listing.{Listing}
use Rattle.cti_terms.specs.declared.clauses.Clause.{Clause}
use Rattle.cti_terms.specs.declared.predicates.Pred.{Pred}
use Rattle.linear_rows.specs.Plain.{plain_rows, HaveWidth}
use Rattle.linear_rows.specs.declared.multipliers.Multipliers.{Multipliers}
use Rattle.linear_rows.specs.declared.row.Rows.{Rows}
use Rattle.termination_model.specs.grounds.Grounds.{HasArity}
use Rattle.termination_model.specs.sizes.Sizes.{rows_of}
use Rattle.solved_program.specs.declared.edit.Edit.{Edit}

module _ {X : Type 0} (e : Edit) (old : List X) (none : X) where
  -- the value of a new predicate: what it had before, if it was there, and else this one
  pub record IsCarriedValue (r : ℕ) (v : X) : Type 0 where
    pub same : (q : ℕ) (x : Pred) → slice_get e.before.now.preds q ≡ Some x → slice_get e.after.now.preds r ≡ Some x → slice_get old q ≡ Some v
    pub from : (v ≡ none) ⊎ ((q : ℕ) × (x : Pred) × (slice_get e.before.now.preds q ≡ Some x) × (slice_get e.after.now.preds r ≡ Some x) × (slice_get old q ≡ Some v))

  -- so it is with each of these
  abbrev pub AreCarriedValues : List X → Type 0
  AreCarriedValues carried = (r : ℕ) (v : X) → slice_get carried r ≡ Some v → IsCarriedValue r v

-- the rows of the predicate with the same name and arity, if there is one
pub record IsCarriedRow (preds new_preds : List Pred) (rows : List Rows) (r : ℕ) (own : Rows) : Type 0 where
  pub arity : HasArity new_preds r own.width
  pub wide : HaveWidth own.width own.list
  pub same : (q : ℕ) (x : Pred) → slice_get preds q ≡ Some x → slice_get new_preds r ≡ Some x → plain_rows own.list ≡ rows_of rows q

abbrev pub AreCarriedRows : List Pred → List Pred → List Rows → List Rows → Type 0
AreCarriedRows preds new_preds rows carried = (r : ℕ) (own : Rows) → slice_get carried r ≡ Some own → IsCarriedRow preds new_preds rows r own

-- each kept clause has the proofs that it had
abbrev pub AreCarriedProofs : List (Option ℕ) → List (List Multipliers) → List (List Multipliers) → Type 0
AreCarriedProofs kept proofs carried = (i j : ℕ) (by : List Multipliers) → slice_get kept i ≡ Some (Some j) → slice_get carried i ≡ Some by → slice_get proofs (j - 1) ≡ Some by

-- the rows of members of components from d on are those from before, and so are the proofs of their clauses
pub record AreLaterCarried (p new : Listing) (new_comps : Partition) (kept : List (Option ℕ)) (rows : List Rows) (proofs : List (List Multipliers)) (d : ℕ) (now : List Rows) (now_proofs : List (List Multipliers)) : Type 0 where
  pub rows_are : (q r e : ℕ) (x : Pred) → slice_get p.preds q ≡ Some x → slice_get new.preds r ≡ Some x → IsIn new_comps e r → d ≤ e → rows_of now r ≡ rows_of rows q
  pub proofs_are : (i j e : ℕ) (k : Clause) (by : List Multipliers) → slice_get new.clauses i ≡ Some k → IsIn new_comps e k.head.pred.0 → d ≤ e
      → slice_get kept i ≡ Some (Some j) → slice_get now_proofs i ≡ Some by → slice_get proofs (j - 1) ≡ Some by
