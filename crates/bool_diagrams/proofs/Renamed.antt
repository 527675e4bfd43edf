-- A diagram that is chosen by any variable, and one whose variables are renamed.
use Rattle.std.proofs.Common.{◌≡◌, ℕ, ◌<◌, ◌==◌, ◌&&◌, ◌||◌, Bool, true, false, if◌then◌else◌, List, [], ◌∷◌, length, refl, ◌∙◌, arith}
use Rattle.std.specs.List.{All}
use Rattle.std.proofs.lemmas.List.Elements.{All-head, All-tail}
use Rattle.bool_diagrams.specs.declared.connective.Connective.TheVariants.{And, Or}
use Rattle.bool_diagrams.specs.Tree.{Tree, value}
use Rattle.bool_diagrams.specs.Rows.{IsOf, Keeps, tree}
use Rattle.bool_diagrams.specs.Joins.{Chooses, Joins}
use Rattle.bool_diagrams.specs.Renaming.{renamed}
use Rattle.bool_diagrams.proofs.Decided.{or_false}
use Rattle.bool_diagrams.proofs.Nodes.{tree_constant, keeps_twice}

-- where a list has ended there is no new name
pub renamed_from_none : (from to : List ℕ) (v : ℕ) → length from ≡ 0 → renamed from to v ≡ v
renamed_from_none [] to v e = refl
renamed_from_none (f ∷ from) to v e = absurd (omega arith)

pub renamed_to_none : (from to : List ℕ) (v : ℕ) → length to ≡ 0 → renamed from to v ≡ v
renamed_to_none [] to v e = refl
renamed_to_none (f ∷ from) [] v e = refl
renamed_to_none (f ∷ from) (t ∷ to) v e = absurd (omega arith)

either : (x high low : Bool) → (((if x then false else true) && low) || ((if x then true else false) && high)) ≡ (if x then high else low)
either true high low = refl
either false high low = or_false low

-- where the variable is true the rows of one diagram, where it is false those of the other
pub chosen_rows : (s0 s1 s2 s3 s4 s5 : List Tree) (v low high t f h l i : ℕ) → IsOf s0 low → IsOf s0 high
    → Keeps s0 s1 → Chooses s0 s1 v 0 1 t → Keeps s1 s2 → Chooses s1 s2 v 1 0 f
    → Keeps s2 s3 → Joins s3 And t high h → Keeps s3 s4 → Joins s4 And f low l → Keeps s4 s5 → Joins s5 Or l h i
    → (row : ℕ → Bool) → value (tree s5 i) row ≡ (if row v then value (tree s0 high) row else value (tree s0 low) row)
chosen_rows s0 s1 s2 s3 s4 s5 v low high t f h l i low_of high_of k1 is_true k2 is_false k3 on_high k4 on_low k5 both row =
    let k02 = keeps_twice s0 s1 s2 k1 k2 in
    let k03 = keeps_twice s0 s2 s3 k02 k3 in
    let k04 = keeps_twice s0 s3 s4 k03 k4 in
    let k13 = keeps_twice s1 s2 s3 k2 k3 in
    let k24 = keeps_twice s2 s3 s4 k3 k4 in
    let k35 = keeps_twice s3 s4 s5 k4 k5 in
    let no_row = tree_constant s0 0 (omega arith) in
    let each_row = tree_constant s0 1 (omega arith) in
    let no_row' = tree_constant s1 0 (omega arith) in
    let each_row' = tree_constant s1 1 (omega arith) in
    let t_value = rw (no_row, each_row) at (is_true.rows row) in
    let f_value = rw (no_row', each_row') at (is_false.rows row) in
    let h_value = on_high.rows row in
    let l_value = on_low.rows row in
    both.rows row ∙ rw (k5.trees l on_low.of, k35.trees h on_high.of, h_value, l_value, k13.trees t is_true.of, k24.trees f is_false.of, k03.trees high high_of, k04.trees low low_of, t_value, f_value)
    (either (row v) (value (tree s0 high) row) (value (tree s0 low) row))

-- a new name is a variable
pub renamed_in_range : (from to : List ℕ) (v : ℕ) → All (λ (u : ℕ). u < 64) to → v < 64 → renamed from to v < 64
renamed_in_range [] to v all lt = lt
renamed_in_range (f ∷ from) [] v all lt = lt
renamed_in_range (f ∷ from) (t ∷ to) v all lt = (elim (v == f) as (λ b. (if b then t else renamed from to v) < 64) [
  | true ↦ All-head (λ (u : ℕ). u < 64) t to all
  | false ↦ renamed_in_range from to v (All-tail (λ (u : ℕ). u < 64) t to all) lt
])
