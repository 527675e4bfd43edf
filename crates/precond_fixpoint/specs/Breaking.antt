-- Private.
-- Values of a clause's variables that break the rule, as sets have it. Nothing here has to be believed.
use Rattle.std.specs.Prelude.{◌≡◌, ◌<◌, ℕ, Bool, if◌then◌else◌, List, length, slice_get, Some}
use Rattle.truth_rows.specs.Ready.{HasAtom, HasAtoms, IsReadyClause}
use Rattle.truth_rows.specs.Rules.{same_rank}
use Rattle.bool_diagrams.specs.declared.diagram.Diagram.{Diagram}
use Rattle.bool_diagrams.specs.Tree.{Tree as Rows}
use Rattle.cti_terms.specs.Tree.{Tree}
use Rattle.cti_terms.specs.declared.atom_list.Atom.{Atom}
use Rattle.cti_terms.specs.declared.clauses.Clause.{Clause}

-- the clause's predicates have ranks, and its atoms sets of each kind
pub record AreReadyFor (trees : List Rows) (ranks : List ℕ) (grounds pre allowed : List Diagram) (k : Clause) : Type 0 where
  pub head : k.head.pred.0 < length ranks
  pub body : (j : ℕ) (b : Atom) → slice_get k.body j ≡ Some b → b.pred.0 < length ranks
  pub grounds_ready : IsReadyClause trees grounds k
  pub pre_ready : IsReadyClause trees pre k
  pub allowed_ready : IsReadyClause trees allowed k

module _ (truth : (ℕ → Bool) → Tree → Bool) (trees : List Rows) (ranks : List ℕ) (grounds pre allowed : List Diagram) (k : Clause) where
  -- the call at a place is reached and is not in its set
  pub record BreaksAt (v : ℕ → Bool) (j : ℕ) : Type 0 where
    pub call : Atom
    pub there : slice_get k.body j ≡ Some call
    pub reached : HasAtoms truth trees grounds v k.body j
    pub outside : HasAtom truth trees (if same_rank ranks call.pred.0 k.head.pred.0 then pre else allowed) v call → ⊥

  -- the head is in its set, and one of the first n calls breaks the rule
  abbrev pub BreaksBelow : ℕ → (ℕ → Bool) → Type 0
  BreaksBelow n v = HasAtom truth trees pre v k.head × ((j : ℕ) × (j < n) × BreaksAt v j)

  abbrev pub Breaks : (ℕ → Bool) → Type 0
  Breaks v = HasAtom truth trees pre v k.head × ((j : ℕ) × BreaksAt v j)
