-- The paths of a reduced tree are the cubes of its rows.
use Rattle.std.proofs.Common.{◌≡◌, ◌⊎◌, ℕ, zero, suc, ◌+◌, ◌-◌, ◌≤◌, ◌<◌, Bool, true, false, List, [], ◌∷◌, ◌++◌, map, replicate, length, get_or, refl, sym, ◌∙◌, subst, inl, inr, arith}
use Rattle.std.proofs.lemmas.List.{map-append}
use Rattle.bool_diagrams.specs.declared.cube.Cell.{Cell}
use Rattle.bool_diagrams.specs.declared.cube.Cell.TheVariants.{Zero, One, Any}
use Rattle.bool_diagrams.specs.Tree.{Tree, leaf, branch, IsFrom, IsReduced, SameRows}
use Rattle.bool_diagrams.specs.Cubes.{rests, same_rows, cubes}
use Rattle.bool_diagrams.specs.Paths.{rows_from}
use Rattle.bool_diagrams.proofs.Canonical.{same_tree}
use Rattle.bool_diagrams.proofs.CubeLemmas.{IsBelow, SameSet, value_agrees, same_rows_same, same_rows_is, same_rows_agree, cubes_agree}

-- a cube after variables that are not asked and one that is
abbrev pub behind : ℕ → Cell → List Cell → List Cell
behind m cell cube = replicate m Any ++ (cell ∷ cube)

-- the paths of a tree from a level on
abbrev pub paths_of : ℕ → ℕ → Tree → List (List Cell)
paths_of width level (leaf false) = []
paths_of width level (leaf true) = replicate (width - level) Any ∷ []
paths_of width level (branch v low high) =
    map (behind (v - level) Zero) (paths_of width (v + 1) low) ++ map (behind (v - level) One) (paths_of width (v + 1) high)

map-behind : (m : ℕ) (cell : Cell) (xs : List (List Cell)) → map (behind (suc m) cell) xs ≡ map (λ cube. Any ∷ cube) (map (behind m cell) xs)
map-behind m cell [] = refl
map-behind m cell (x ∷ xs) = rw (map-behind m cell xs) refl

-- a level that is not asked
skipped_paths : (width level : ℕ) (t : Tree) → level < width → IsFrom (level + 1) t → paths_of width level t ≡ map (λ cube. Any ∷ cube) (paths_of width (level + 1) t)
skipped_paths width level (leaf false) lt f = refl
skipped_paths width level (leaf true) lt f = let e : width - level ≡ suc (width - (level + 1)) = omega arith in rw e refl
skipped_paths width level (branch v low high) lt f =
    let e : v - level ≡ suc (v - (level + 1)) = omega arith in
    let xs = paths_of width (v + 1) low in
    let ys = paths_of width (v + 1) high in
    rw (e, map-behind (v - (level + 1)) Zero xs, map-behind (v - (level + 1)) One ys)
    (sym (map-append (λ cube. Any ∷ cube) (map (behind (v - (level + 1)) Zero) xs) (map (behind (v - (level + 1)) One) ys)))

skipped_rows : (width level : ℕ) (t : Tree) (b : Bool) → IsReduced t → IsFrom (level + 1) t → IsBelow width t → SameSet (rests b (rows_from level t)) (rows_from (level + 1) t)
skipped_rows width level t b r f below = λ row.
    value_agrees (level + 1) width t _ _ r f below (λ v le lt. let e : v - level ≡ suc (v - (level + 1)) = omega arith in rw e refl)

-- a level that is asked
low_rows : (width level : ℕ) (low high : Tree) → IsReduced (branch level low high) → IsBelow width low → SameSet (rests false (rows_from level (branch level low high))) (rows_from (level + 1) low)
low_rows width level low high r below = λ row.
    let e : level - level ≡ 0 = omega arith in
    let there = skipped_rows width level low false r.3 r.0 below row in
    rw e there

high_rows : (width level : ℕ) (low high : Tree) → IsReduced (branch level low high) → IsBelow width high → SameSet (rests true (rows_from level (branch level low high))) (rows_from (level + 1) high)
high_rows width level low high r below = λ row.
    let e : level - level ≡ 0 = omega arith in
    let there = skipped_rows width level high true r.4 r.1 below row in
    rw e there

-- the values of a row from a level on
abbrev values_from : ℕ → ℕ → (ℕ → Bool) → List Bool
values_from zero level row = []
values_from (suc k) level row = row level ∷ values_from k (level + 1) row

length-values_from : (k level : ℕ) (row : ℕ → Bool) → length (values_from k level row) ≡ k
length-values_from zero level row = refl
length-values_from (suc k) level row = let rec = length-values_from k (level + 1) row in omega arith

value_from : (k level : ℕ) (row : ℕ → Bool) (v i : ℕ) → v ≡ level + i → i < k → get_or (values_from k level row) i false ≡ row v
value_from zero level row v i e lt = absurd (omega arith)
value_from (suc k) level row v zero e lt = let is : v ≡ level = omega arith in rw is refl
value_from (suc k) level row v (suc i) e lt = value_from k (level + 1) row v i (omega arith) (omega arith)

-- the two halves of a reduced tree differ on a row of the length that is left
halves_differ : (width level k : ℕ) (low high : Tree) → width ≡ level + suc k → IsReduced (branch level low high) → IsBelow width low → IsBelow width high
    → same_rows k (rows_from (level + 1) low) (rows_from (level + 1) high) ≡ false
halves_differ width level k low high e r low_below high_below =
    (elim (same_rows k (rows_from (level + 1) low) (rows_from (level + 1) high)) as (λ b. same_rows k (rows_from (level + 1) low) (rows_from (level + 1) high) ≡ b → b ≡ false) [
      | true ↦ λ h.
          let same : SameRows low high = λ row.
          let list = values_from k (level + 1) row in
          let agrees = λ (v : ℕ) (le : level + 1 ≤ v) (lt : v < width). value_from k (level + 1) row v (v - (level + 1)) (omega arith) (omega arith) in
          let at_low = value_agrees (level + 1) width low _ row r.3 r.0 low_below agrees in
          let at_high = value_agrees (level + 1) width high _ row r.4 r.1 high_below agrees in
          sym at_low ∙ same_rows_is k (rows_from (level + 1) low) (rows_from (level + 1) high) h list (length-values_from k (level + 1) row) ∙ at_high in
          absurd (r.2 (same_tree high low r.4 r.3 same))
      | false ↦ λ h. refl
    ]) refl

skipped : (width level k : ℕ) (t : Tree) → width ≡ level + suc k → IsReduced t → IsFrom (level + 1) t → IsBelow width t
    → paths_of width (level + 1) t ≡ cubes k (rows_from (level + 1) t) → paths_of width level t ≡ cubes (suc k) (rows_from level t)
unfolding cubes
skipped width level k t e r f below rec =
    let on_false = skipped_rows width level t false r f below in
    let on_true = skipped_rows width level t true r f below in
    let same = same_rows_same k (rests false (rows_from level t)) (rests true (rows_from level t)) (λ row. on_false row ∙ sym (on_true row)) in
    let list = cubes_agree k (rests false (rows_from level t)) (rows_from (level + 1) t) on_false in
    rw (skipped_paths width level t (omega arith) f, same, rec, list) refl

asked : (width level k : ℕ) (low high : Tree) → width ≡ level + suc k → IsReduced (branch level low high) → IsBelow width low → IsBelow width high
    → paths_of width (level + 1) low ≡ cubes k (rows_from (level + 1) low) → paths_of width (level + 1) high ≡ cubes k (rows_from (level + 1) high)
    → paths_of width level (branch level low high) ≡ cubes (suc k) (rows_from level (branch level low high))
unfolding cubes
asked width level k low high e r low_below high_below low_rec high_rec =
    let whole = rows_from level (branch level low high) in
    let on_false = low_rows width level low high r low_below in
    let on_true = high_rows width level low high r high_below in
    let differ = same_rows_agree k (rests false whole) (rows_from (level + 1) low) (rests true whole) (rows_from (level + 1) high) on_false on_true
    ∙ halves_differ width level k low high e r low_below high_below in
    let low_list = cubes_agree k (rests false whole) (rows_from (level + 1) low) on_false in
    let high_list = cubes_agree k (rests true whole) (rows_from (level + 1) high) on_true in
    let none : level - level ≡ 0 = omega arith in
    rw (none, low_rec, high_rec, differ, low_list, high_list) refl

order : (level v : ℕ) → level ≤ v → (v ≡ level) ⊎ (level + 1 ≤ v)
order level v le = grind arith

pub paths_are_cubes : (k width level : ℕ) (t : Tree) → width ≡ level + k → IsReduced t → IsFrom level t → IsBelow width t → paths_of width level t ≡ cubes k (rows_from level t)
unfolding cubes
paths_are_cubes zero width level (leaf false) e r f below = refl
paths_are_cubes zero width level (leaf true) e r f below = let none : width - level ≡ 0 = omega arith in rw none refl
paths_are_cubes zero width level (branch v low high) e r f below = absurd (let lt = below.0 in omega arith)
paths_are_cubes (suc k) width level (leaf b) e r f below =
    skipped width level k (leaf b) e r tt tt (paths_are_cubes k width (level + 1) (leaf b) (omega arith) tt tt tt)
paths_are_cubes (suc k) width level (branch v low high) e r f below = elim (order level v f) [
  | inl is ↦
      let P : ℕ → Type 0 = λ u. IsReduced (branch u low high) → paths_of width level (branch u low high) ≡ cubes (suc k) (rows_from level (branch u low high)) in
      let here : P level = λ q.
      asked width level k low high e q below.1 below.2
      (paths_are_cubes k width (level + 1) low (omega arith) q.3 q.0 below.1) (paths_are_cubes k width (level + 1) high (omega arith) q.4 q.1 below.2) in
      subst P (sym is) here r
  | inr later ↦ skipped width level k (branch v low high) e r later below (paths_are_cubes k width (level + 1) (branch v low high) (omega arith) r later below)
]
