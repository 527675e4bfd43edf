-- Systems, an atom at a time.
use Rattle.std.proofs.Common.{◌≡◌, ℕ, suc, ℤ, pos, Bool, true, false, ◌||◌, not, if◌then◌else◌, List, [], ◌∷◌, ◌++◌, map, length, refl, ap, sym, ◌∙◌}
use Rattle.std.specs.List.{AllByRecursion}
use Rattle.std.proofs.lemmas.List.{map-append}
use Rattle.cti_terms.specs.Tree.{Tree}
use Rattle.cti_terms.specs.declared.atom_list.Atom.{Atom}
use Rattle.linear_rows.specs.Solving.{zeros}
use Rattle.term_size.specs.Norm.{IsNorm}
use Rattle.termination_model.specs.sizes.Replacing.{AreColumns, over_columns}
use Rattle.termination_model.specs.sizes.Sizes.{wide_rows, wide_system}
use Rattle.termination_model.specs.sizes.Systems.{row_over, system, row_fits}
use Rattle.termination_model.specs.sizes.ShortSystems.{short_row, short_system}
use Rattle.termination_model.proofs.Lists.{append_assoc}
use Rattle.termination_model.proofs.RowColumns.{columns_replace}

zeros_of_length : (z : List ℤ) → map (λ _. pos 0) z ≡ zeros (length z)
zeros_of_length [] = refl
zeros_of_length (x ∷ z) = ap (λ s. pos 0 ∷ s) (zeros_of_length z)

pub zeros_of : (z : List ℤ) → row_fits z ≡ false → short_row z ≡ zeros (length z)
zeros_of z e = (λ i. if e i then z else map (λ _. pos 0) z) ∙ zeros_of_length z

or_assoc : (a b c : Bool) → ((a || b) || c) ≡ (a || (b || c))
or_assoc true b c = refl
or_assoc false b c = refl

or_none : (a : Bool) → (a || false) ≡ a
or_none true = refl
or_none false = refl

pub wide_append : (xs ys : List (List ℤ)) → wide_rows (xs ++ ys) ≡ (wide_rows xs || wide_rows ys)
wide_append [] ys = refl
wide_append (x ∷ xs) ys = ap (λ b. not (row_fits x) || b) (wide_append xs ys) ∙ sym (or_assoc (not (row_fits x)) (wide_rows xs) (wide_rows ys))

-- one more row, after what was wide before
pub wide_push : (before : Bool) (xs : List (List ℤ)) (x : List ℤ) → ((before || wide_rows xs) || not (row_fits x)) ≡ (before || wide_rows (xs ++ x ∷ []))
wide_push before xs x =
    or_assoc before (wide_rows xs) (not (row_fits x))
    ∙ ap (λ b. before || b) (ap (λ b. wide_rows xs || b) (sym (or_none (not (row_fits x)))) ∙ sym (wide_append xs (x ∷ [])))

pub system_append : (expression : ℕ → Tree → List ℤ) (rows : ℕ → List (List ℤ)) (n : ℕ) (xs ys : List Atom) → system expression rows n (xs ++ ys) ≡ system expression rows n xs ++ system expression rows n ys
system_append expression rows n [] ys = refl
system_append expression rows n (x ∷ xs) ys =
    ap (λ s. map (row_over expression n x.args) (rows x.pred.0) ++ s) (system_append expression rows n xs ys)
    ∙ sym (append_assoc (map (row_over expression n x.args) (rows x.pred.0)) (system expression rows n xs) (system expression rows n ys))

append_none : {X : Type 0} → (xs : List X) → xs ++ [] ≡ xs
append_none [] = refl
append_none (x ∷ xs) = ap (λ s. x ∷ s) (append_none xs)

module _ (expression : ℕ → Tree → List ℤ) (rows : ℕ → List (List ℤ)) (n : ℕ) (xs : List Atom) (b : Atom) where
  abbrev more : List (List ℤ)
  more = map (row_over expression n b.args) (rows b.pred.0)

  one_more : system expression rows n (xs ++ b ∷ []) ≡ system expression rows n xs ++ more
  one_more = system_append expression rows n xs (b ∷ []) ∙ ap (λ s. system expression rows n xs ++ s) (append_none more)

  pub short_push : short_system expression rows n xs ++ map short_row more ≡ short_system expression rows n (xs ++ b ∷ [])
  short_push = sym (map-append short_row (system expression rows n xs) more) ∙ ap (map short_row) (sym one_more)

  pub wide_system_push : (wide_system expression rows n xs || wide_rows more) ≡ wide_system expression rows n (xs ++ b ∷ [])
  wide_system_push = sym (wide_append (system expression rows n xs) more) ∙ ap wide_rows (sym one_more)

module _ (size : (ℕ → ℕ) → Tree → ℕ) (truth : (ℕ → Bool) → Tree → Bool) (expression : ℕ → Tree → List ℤ) (norm : IsNorm size truth expression) where
  pub widths : (n : ℕ) (ts : List Tree) → AllByRecursion (λ (r : List ℤ). length r ≡ suc n) (map (expression n) ts)
  widths n [] = tt
  widths n (t ∷ ts) = (norm.width n t, widths n ts)

  -- the columns of arguments' expressions give the rows over the variables
  pub rows_over : (n : ℕ) (ts : List Tree) (columns : List (List ℤ)) → AreColumns (map (expression n) ts) n columns → (rs : List (List ℤ)) → map (over_columns columns) rs ≡ map (row_over expression n ts) rs
  rows_over n ts columns are [] = refl
  rows_over n ts columns are (r ∷ rs) =
      let here = columns_replace n (map (expression n) ts) columns r (widths n ts) are in
      λ i. here i ∷ rows_over n ts columns are rs i
