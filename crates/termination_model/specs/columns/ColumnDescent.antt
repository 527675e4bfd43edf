-- Private.
-- The theorem, over columns: of a query whose rigid arguments make an admitted row, all derivations are shorter than
-- some bound.
--
-- To believe: `Meets`.
use Rattle.std.specs.Prelude.{ℕ, false, List, [], ◌∷◌, length}
use Rattle.cti_terms.specs.declared.atom_list.Atom.{Atom}
use Rattle.cti_terms.specs.Listing.{Listing, IsProgram}
use Rattle.cti_terms.specs.Derive.{Bounded}
use Rattle.termination_model.specs.sizes.Rows.{IsUpper}
use Rattle.termination_model.specs.grounds.Grounds.{HasArity, truth_row}
use Rattle.termination_model.specs.claims.Descent.{mode_row}
use Rattle.termination_model.specs.columns.ColumnClaims.{Claims, Admits, Shows}

-- the arguments that the mode names, counted from 1, are rigid
abbrev pub Meets : Claims → List ℕ → Atom → Type 0
Meets c mode a = IsUpper (truth_row c.truth (λ _. false) a) (mode_row mode 1 (length a.args))

abbrev pub RowsEnd : Type 0
RowsEnd = (p : Listing) (c : Claims) → IsProgram p → Shows p c
    → (a : Atom) (n : ℕ) → HasArity p.preds a.pred.0 (length a.args) → Admits c a.pred.0 (truth_row c.truth (λ _. false) a)
    → Bounded p (record { atoms = a ∷ []; fresh = n })

abbrev pub ModesEnd : Type 0
ModesEnd = (p : Listing) (c : Claims) → IsProgram p → Shows p c
    → (a : Atom) (n : ℕ) → HasArity p.preds a.pred.0 (length a.args)
    → (mode : List ℕ) → Admits c a.pred.0 (mode_row mode 1 (length a.args)) → Meets c mode a
    → Bounded p (record { atoms = a ∷ []; fresh = n })
