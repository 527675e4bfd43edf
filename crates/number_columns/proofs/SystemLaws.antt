-- Systems over columns, an atom at a time.
use Rattle.std.proofs.Common.{◌≡◌, ◌∙◌, ℕ, ℤ, Bool, ◌||◌, List, [], ◌∷◌, ◌++◌, map, refl, ap, sym}
use Rattle.std.proofs.lemmas.List.{map-append}
use Rattle.cti_terms.specs.declared.atom_list.Atom.{Atom}
use Rattle.termination_model.specs.sizes.ShortSystems.{short_row}
use Rattle.termination_model.specs.sizes.Sizes.{wide_rows}
use Rattle.termination_model.specs.columns.ColumnClaims.{Claims, atom_row, numbers_of, system}
use Rattle.termination_model.specs.columns.ColumnRows.{or_zeros}
use Rattle.termination_model.specs.columns.ColumnShort.{short_system}
use Rattle.termination_model.proofs.SystemLaws.{wide_append}
use Rattle.number_columns.proofs.ArgumentLaws.{append_assoc, append_none}

module _ (c : Claims) (vars : ℕ) where
  abbrev rows_of_atom : Atom → List (List ℤ)
  rows_of_atom b = map (λ r. or_zeros (numbers_of c vars) (atom_row c vars b r)) (c.rows b.pred.0)

  pub system_append : (xs ys : List Atom) → system c vars (xs ++ ys) ≡ system c vars xs ++ system c vars ys
  system_append [] ys = refl
  system_append (x ∷ xs) ys =
      ap (λ s. rows_of_atom x ++ s) (system_append xs ys) ∙ sym (append_assoc (rows_of_atom x) (system c vars xs) (system c vars ys))

  one_more : (xs : List Atom) (b : Atom) → system c vars (xs ++ b ∷ []) ≡ system c vars xs ++ rows_of_atom b
  one_more xs b = system_append xs (b ∷ []) ∙ ap (λ s. system c vars xs ++ s) (append_none (rows_of_atom b))

  pub short_push : (xs : List Atom) (b : Atom) → short_system c vars xs ++ map short_row (rows_of_atom b) ≡ short_system c vars (xs ++ b ∷ [])
  short_push xs b = sym (map-append short_row (system c vars xs) (rows_of_atom b)) ∙ ap (map short_row) (sym (one_more xs b))

  pub wide_push : (xs : List Atom) (b : Atom) → (wide_rows (system c vars xs) || wide_rows (rows_of_atom b)) ≡ wide_rows (system c vars (xs ++ b ∷ []))
  wide_push xs b = sym (wide_append (system c vars xs) (rows_of_atom b)) ∙ ap wide_rows (sym (one_more xs b))
