-- The rows of a template at its unknown numbers.
use Rattle.std.proofs.Common.{◌≡◌, ℕ, suc, ℤ, pos, neg_ℤ, ◌+ℤ◌, ◌*ℤ◌, List, [], ◌∷◌, ◌++◌, map, length, refl, ap, arith}
use Rattle.std.specs.Prelude.{◌-ℤ◌}
use Rattle.std.proofs.lemmas.Int.{ints}
use Rattle.std.proofs.lemmas.List.{length-map}
use Rattle.exact128.proofs.Rings.{rings}
use Rattle.exact128.specs.Sums.{dot, entry}
use Rattle.linear_rows.specs.Rows.{column}
use Rattle.linear_rows.specs.Solving.{zeros}
use Rattle.transitions.specs.Templates.{Target, least_in, template_row, differences}
use Rattle.termination_model.proofs.Entries.{dot_parts, dot_zeros}
use Rattle.termination_model.proofs.Points.{map_together, length_zeros}

pub dot_swap : (xs ys : List ℤ) → dot xs ys ≡ dot ys xs
unfolding dot
dot_swap [] [] = refl
dot_swap [] (y ∷ ys) = refl
dot_swap (x ∷ xs) [] = refl
dot_swap (x ∷ xs) (y ∷ ys) =
    let rest = dot_swap xs ys in
    let here : x *ℤ y ≡ y *ℤ x = simp rings (omega (arith, ints)) in
    omega (arith, ints, rest, here)

pub dot_minus : (xs vs : List ℤ) → dot (map neg_ℤ xs) vs ≡ neg_ℤ (dot xs vs)
unfolding dot
dot_minus [] vs = refl
dot_minus (x ∷ xs) [] = refl
dot_minus (x ∷ xs) (v ∷ vs) =
    let rest = dot_minus xs vs in
    let here : neg_ℤ x *ℤ v ≡ neg_ℤ (x *ℤ v) = simp rings (omega (arith, ints)) in
    omega (arith, ints, rest, here)

pub dot_differences : (xs : List ℤ) (cs ds : List ℕ) → length cs ≡ length ds → dot xs (map pos cs) -ℤ dot xs (map pos ds) ≡ dot xs (differences cs ds)
unfolding dot
dot_differences [] cs ds l = omega (arith, ints)
dot_differences (x ∷ xs) [] [] l = omega (arith, ints)
dot_differences (x ∷ xs) [] (d ∷ ds) l = absurd (omega arith)
dot_differences (x ∷ xs) (c ∷ cs) [] l = absurd (omega arith)
dot_differences (x ∷ xs) (c ∷ cs) (d ∷ ds) l =
    let rest = dot_differences xs cs ds (omega arith) in
    let here : x *ℤ (pos c -ℤ pos d) ≡ (x *ℤ pos c) -ℤ (x *ℤ pos d) = simp rings (omega (arith, ints)) in
    omega (arith, ints, rest, here)

pub length_differences : (cs ds : List ℕ) → length cs ≡ length ds → length (differences cs ds) ≡ length cs
length_differences [] ds l = refl
length_differences (c ∷ cs) [] l = absurd (omega arith)
length_differences (c ∷ cs) (d ∷ ds) l = ap suc (length_differences cs ds (omega arith))

-- the value of a template's row: what the features give, less what is to be exceeded and what the multipliers take
pub row_value : (g : Target) (x before after t : ℕ) (cs ds bs ms rest : List ℕ)
    → length cs ≡ length g.features → length ds ≡ length g.features → length bs ≡ before → length ms ≡ length g.rows
    → dot (template_row before after g x) (pos t ∷ map pos (cs ++ (ds ++ (bs ++ (ms ++ rest)))))
    ≡ (least_in g.least x *ℤ pos t) +ℤ (dot (column g.features x) (differences cs ds) -ℤ dot (map pos ms) (column g.rows x))
unfolding dot
row_value g x before after t cs ds bs ms rest lc ld lb lm =
    let fs = column g.features x in
    let rs = column g.rows x in
    let lf = length-map g.features (λ row. entry row x) in
    let lr = length-map g.rows (λ row. entry row x) in
    let lnf = length-map fs neg_ℤ in
    let lnr = length-map rs neg_ℤ in
    let m1 = map_together cs (ds ++ (bs ++ (ms ++ rest))) in
    let m2 = map_together ds (bs ++ (ms ++ rest)) in
    let m3 = map_together bs (ms ++ rest) in
    let m4 = map_together ms rest in
    let d1 = dot_parts fs (map neg_ℤ fs ++ (zeros before ++ (map neg_ℤ rs ++ zeros after))) (map pos cs) (map pos ds ++ (map pos bs ++ (map pos ms ++ map pos rest))) (omega (arith, lf, length-map cs pos, lc)) in
    let d2 = dot_parts (map neg_ℤ fs) (zeros before ++ (map neg_ℤ rs ++ zeros after)) (map pos ds) (map pos bs ++ (map pos ms ++ map pos rest)) (omega (arith, lf, lnf, length-map ds pos, ld)) in
    let d3 = dot_parts (zeros before) (map neg_ℤ rs ++ zeros after) (map pos bs) (map pos ms ++ map pos rest) (omega (arith, length_zeros before, length-map bs pos, lb)) in
    let d4 = dot_parts (map neg_ℤ rs) (zeros after) (map pos ms) (map pos rest) (omega (arith, lr, lnr, length-map ms pos, lm)) in
    let z1 = dot_zeros before (map pos bs) in
    let z2 = dot_zeros after (map pos rest) in
    let n1 = dot_minus fs (map pos ds) in
    let n2 = dot_minus rs (map pos ms) in
    let sw = dot_swap rs (map pos ms) in
    let df = dot_differences fs cs ds (omega (arith, lc, ld)) in
    rw (m1, m2, m3, m4) (omega (arith, ints, d1, d2, d3, d4, z1, z2, n1, n2, sw, df))
