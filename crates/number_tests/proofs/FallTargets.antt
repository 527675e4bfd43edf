-- The target of a fall, column by column.
use Rattle.std.proofs.Common.{◌≡◌, ℕ, zero, suc, ◌+◌, ◌<◌, ℤ, Bool, List, [], ◌∷◌, ◌++◌, All, map, length, slice_index_or, refl, sym, ap, ◌∙◌, arith}
use Rattle.std.proofs.lemmas.List.{length-append, length-map}
use Rattle.exact128.specs.Sums.{entry}
use Rattle.cti_terms.specs.Tree.{Tree}
use Rattle.cti_terms.specs.declared.atom_list.Atom.{Atom}
use Rattle.cti_terms.specs.declared.clauses.Clause.{Clause}
use Rattle.number_tests.specs.declared.level_part.LevelPart.{LevelPart}
use Rattle.term_size.specs.Norm.{IsNorm}
use Rattle.termination_model.specs.sizes.Replacing.{AreColumns, column_over, over_columns}
use Rattle.termination_model.proofs.Lists.{any_default}
use Rattle.number_tests.specs.Proved.{fall_of}
use Rattle.number_tests.specs.Targets.{AreFallColumns, fall_weights, joined}
use Rattle.number_tests.proofs.DropLaws.{drop_target}

-- the joined columns of two lists of columns
joined_at : (xs ys : List (List ℤ)) (k : ℕ) → length xs ≡ length ys → k < length xs → slice_index_or (joined xs ys) k [] ≡ slice_index_or xs k [] ++ slice_index_or ys k []
joined_at [] ys k e lt = absurd (omega arith)
joined_at (x ∷ xs) [] k e lt = absurd (omega (arith, e))
joined_at (x ∷ xs) (y ∷ ys) zero e lt = refl
joined_at (x ∷ xs) (y ∷ ys) (suc k) e lt = joined_at xs ys k (omega (arith, e)) (omega arith)

length-joined : (xs ys : List (List ℤ)) → length xs ≡ length ys → length (joined xs ys) ≡ length xs
length-joined [] ys e = refl
length-joined (x ∷ xs) [] e = absurd (omega (arith, e))
length-joined (x ∷ xs) (y ∷ ys) e = ap suc (length-joined xs ys (omega (arith, e)))

pub joined_columns : (hs cs : List (List ℤ)) (vars : ℕ) (xs ys : List (List ℤ)) → AreColumns hs vars xs → AreColumns cs vars ys → AreFallColumns hs cs vars (joined xs ys)
joined_columns hs cs vars xs ys a b =
    let same : length xs ≡ length ys = a.count ∙ sym b.count in
    record {
      count = length-joined xs ys same ∙ a.count;
      each = λ x lt. joined_at xs ys x same (omega (arith, a.count)) ∙ (λ i. a.each x lt i ++ b.each x lt i);
    }

pub long_columns : (hs cs : List (List ℤ)) (vars n : ℕ) (columns : List (List ℤ)) → AreFallColumns hs cs vars columns → suc (length hs) + suc (length cs) ≡ n → All (λ c. length c ≡ n) columns
long_columns hs cs vars n columns are e k d lt =
    ap length (any_default columns k d [] lt ∙ are.each k (omega (arith, are.count)))
    ∙ length-append (column_over hs k) (column_over cs k)
    ∙ omega (arith, e, length-map hs (λ r. entry r k), length-map cs (λ r. entry r k))

module _ (size : (ℕ → ℕ) → Tree → ℕ) (truth : (ℕ → Bool) → Tree → Bool) (expression : ℕ → Tree → List ℤ) (norm : IsNorm size truth expression) where
  -- the columns give the level of the head less that of the call less 1
  pub fall_target : (c : Clause) (b : Atom) (head call : LevelPart) (columns : List (List ℤ)) → length head.coeffs ≡ length c.head.args
      → AreFallColumns (map (expression c.vars) c.head.args) (map (expression c.vars) b.args) c.vars columns
      → over_columns columns (fall_weights head call) ≡ fall_of expression c b head call
  fall_target = drop_target size truth expression norm 1
