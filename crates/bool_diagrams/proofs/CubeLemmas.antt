-- The paths of a reduced tree are the cubes of its rows.
use Rattle.std.proofs.Common.{◌||◌, ◌&&◌, ◌++◌, map, not, ◌≡◌, ℕ, zero, suc, ◌+◌, ◌≤◌, ◌<◌, ◌==◌, Bool, true, false, if◌then◌else◌, List, [], ◌∷◌, length, refl, sym, ◌∙◌, ap, inl, inr, arith}
use Rattle.std.proofs.lemmas.Bool.{cases_lt, and_parts, ne_eqb}
use Rattle.bool_diagrams.specs.Tree.{Tree, leaf, branch, value, with_value, IsFrom, IsReduced, SameRows}
use Rattle.bool_diagrams.specs.Rows.{iff}
use Rattle.bool_diagrams.specs.Cubes.{rests, same_rows, cubes, allows, covers, covered}
use Rattle.bool_diagrams.specs.Paths.{DependsBelow}
use Rattle.std.proofs.lemmas.List.Folds.{list_any-append}
use Rattle.bool_diagrams.specs.declared.cube.Cell.{Cell}
use Rattle.bool_diagrams.specs.declared.cube.Cell.TheVariants.{Zero, One, Any}
use Rattle.bool_diagrams.proofs.Decided.{or_false}
use Rattle.bool_diagrams.proofs.Canonical.{at_value, from_later, reads_later, same_tree}

-- every variable that is asked is below the width
abbrev pub IsBelow : ℕ → Tree → Type 0
IsBelow width (leaf b) = Unit {0}
IsBelow width (branch v low high) = (v < width) × IsBelow width low × IsBelow width high

-- a half of a tree depends on no more than the tree
half_depends : (width v : ℕ) (low high half : Tree) (b : Bool) → IsReduced half → IsFrom (v + 1) half
    → ((row : ℕ → Bool) → value (branch v low high) (with_value row v b) ≡ value half (with_value row v b))
    → DependsBelow width (branch v low high) → DependsBelow width half
half_depends width v low high half b red from is depends = λ row other agree.
    let there = depends (with_value row v b) (with_value other v b) (λ u lt. ap (λ (x : Bool). if u == v then b else x) (agree u lt)) in
    sym (reads_later half row v b red from) ∙ sym (is row) ∙ there ∙ is other ∙ reads_later half other v b red from

low_value : (v : ℕ) (low high : Tree) (row : ℕ → Bool) → value (branch v low high) (with_value row v false) ≡ value low (with_value row v false)
low_value v low high row = rw (at_value row v false) refl

high_value : (v : ℕ) (low high : Tree) (row : ℕ → Bool) → value (branch v low high) (with_value row v true) ≡ value high (with_value row v true)
high_value v low high row = rw (at_value row v true) refl

pub low_depends : (width v : ℕ) (low high : Tree) → IsReduced (branch v low high) → DependsBelow width (branch v low high) → DependsBelow width low
low_depends width v low high r depends = half_depends width v low high low false r.3 r.0 (low_value v low high) depends

pub high_depends : (width v : ℕ) (low high : Tree) → IsReduced (branch v low high) → DependsBelow width (branch v low high) → DependsBelow width high
high_depends width v low high r depends = half_depends width v low high high true r.4 r.1 (high_value v low high) depends

either_value : (row : ℕ → Bool) (v u : ℕ) → (u ≡ v → ⊥) → with_value row v true u ≡ with_value row v false u
either_value row v u apart = rw (ne_eqb u v apart) refl

-- a variable that is asked is below the width
pub variable_below : (width v : ℕ) (low high : Tree) → IsReduced (branch v low high) → DependsBelow width (branch v low high) → v < width
variable_below width v low high r depends = elim (cases_lt v width) [
  | inl lt ↦ lt
  | inr le ↦
      let same : SameRows high low = λ row.
      let there = depends (with_value row v true) (with_value row v false) (λ u lt. either_value row v u (λ e. omega arith)) in
      sym (reads_later high row v true r.4 r.1) ∙ sym (high_value v low high row) ∙ there ∙ low_value v low high row ∙ reads_later low row v false r.3 r.0 in
      absurd (r.2 (sym (same_tree low high r.3 r.4 same)))
]

pub all_below : (width : ℕ) (t : Tree) → IsReduced t → DependsBelow width t → IsBelow width t
all_below width (leaf b) r depends = tt
all_below width (branch v low high) r depends = (
  variable_below width v low high r depends,
  all_below width low r.3 (low_depends width v low high r depends),
  all_below width high r.4 (high_depends width v low high r depends),
)

-- a tree has the same value on rows that agree on the variables from a level up to a width
pub value_agrees : (level width : ℕ) (t : Tree) (row other : ℕ → Bool) → IsReduced t → IsFrom level t → IsBelow width t
    → ((v : ℕ) → level ≤ v → v < width → row v ≡ other v) → value t row ≡ value t other
value_agrees level width (leaf b) row other r f below agree = refl
value_agrees level width (branch v low high) row other r f below agree =
    let here = agree v f below.0 in
    let low_same = value_agrees level width low row other r.3 (from_later low level (v + 1) (omega arith) r.0) below.1 agree in
    let high_same = value_agrees level width high row other r.4 (from_later high level (v + 1) (omega arith) r.1) below.2 agree in
    rw (here, low_same, high_same) refl

-- ---- sets of truth rows

abbrev pub SameSet : (List Bool → Bool) → (List Bool → Bool) → Type 0
SameSet s t = (row : List Bool) → s row ≡ t row

iff_same : (a b : Bool) → a ≡ b → iff a b ≡ true
iff_same true b e = sym e
iff_same false b e = rw (← e) refl

iff_is : (a b : Bool) → iff a b ≡ true → a ≡ b
iff_is true b h = sym h
iff_is false true h = cc
iff_is false false h = refl

pub same_rows_same : (n : ℕ) (s t : List Bool → Bool) → SameSet s t → same_rows n s t ≡ true
unfolding same_rows
same_rows_same zero s t same = iff_same (s []) (t []) (same [])
same_rows_same (suc n) s t same =
    rw (same_rows_same n (rests false s) (rests false t) (λ row. same (false ∷ row)), same_rows_same n (rests true s) (rests true t) (λ row. same (true ∷ row))) refl

pub same_rows_is : (n : ℕ) (s t : List Bool → Bool) → same_rows n s t ≡ true → (row : List Bool) → length row ≡ n → s row ≡ t row
unfolding same_rows
same_rows_is zero s t h [] e = iff_is (s []) (t []) h
same_rows_is zero s t h (b ∷ row) e = absurd (omega arith)
same_rows_is (suc n) s t h [] e = absurd (omega arith)
same_rows_is (suc n) s t h (false ∷ row) e =
    let parts = and_parts (same_rows n (rests false s) (rests false t)) _ h in
    same_rows_is n (rests false s) (rests false t) parts.0 row (omega arith)
same_rows_is (suc n) s t h (true ∷ row) e =
    let parts = and_parts (same_rows n (rests false s) (rests false t)) _ h in
    same_rows_is n (rests true s) (rests true t) parts.1 row (omega arith)

-- two sets have the same rows of a length
abbrev pub SameAt : ℕ → (List Bool → Bool) → (List Bool → Bool) → Type 0
SameAt n s t = (row : List Bool) → length row ≡ n → s row ≡ t row

rests_agree : (n : ℕ) (b : Bool) (s t : List Bool → Bool) → SameAt (suc n) s t → SameAt n (rests b s) (rests b t)
rests_agree n b s t same row e = same (b ∷ row) (omega arith)

same_rows_at : (n : ℕ) (s s' t t' : List Bool → Bool) → SameAt n s s' → SameAt n t t' → same_rows n s t ≡ same_rows n s' t'
unfolding same_rows
same_rows_at zero s s' t t' same_s same_t = rw (same_s [] refl, same_t [] refl) refl
same_rows_at (suc n) s s' t t' same_s same_t =
    rw (
      same_rows_at n (rests false s) (rests false s') (rests false t) (rests false t') (rests_agree n false s s' same_s) (rests_agree n false t t' same_t),
      same_rows_at n (rests true s) (rests true s') (rests true t) (rests true t') (rests_agree n true s s' same_s) (rests_agree n true t t' same_t),
    ) refl

pub same_rows_agree : (n : ℕ) (s s' t t' : List Bool → Bool) → SameSet s s' → SameSet t t' → same_rows n s t ≡ same_rows n s' t'
same_rows_agree n s s' t t' same_s same_t = same_rows_at n s s' t t' (λ row _. same_s row) (λ row _. same_t row)

-- sets with the same rows of a length have the same cubes
pub cubes_at : (n : ℕ) (s t : List Bool → Bool) → SameAt n s t → cubes n s ≡ cubes n t
unfolding cubes
cubes_at zero s t same = rw (same [] refl) refl
cubes_at (suc n) s t same =
    rw (
      same_rows_at n (rests false s) (rests false t) (rests true s) (rests true t) (rests_agree n false s t same) (rests_agree n true s t same),
      cubes_at n (rests false s) (rests false t) (rests_agree n false s t same),
      cubes_at n (rests true s) (rests true t) (rests_agree n true s t same),
    ) refl

pub cubes_agree : (n : ℕ) (s t : List Bool → Bool) → SameSet s t → cubes n s ≡ cubes n t
cubes_agree n s t same = cubes_at n s t (λ row _. same row)

-- ---- the rows of cubes

and_none : (x : Bool) → false ≡ (x && false)
and_none true = refl
and_none false = refl

and_or : (x y z : Bool) → ((x && y) || (x && z)) ≡ (x && (y || z))
and_or true y z = refl
and_or false y z = refl

empty_row : (b : Bool) → covered (if b then [] ∷ [] else []) [] ≡ b
empty_row true = refl
empty_row false = refl

same_rest : (s : List Bool → Bool) (b : Bool) (row : List Bool) → s (false ∷ row) ≡ s (true ∷ row) → (true && s (false ∷ row)) ≡ s (b ∷ row)
same_rest s true row e = e
same_rest s false row e = refl

by_first : (s : List Bool → Bool) (b : Bool) (row : List Bool) → ((not b && s (false ∷ row)) || (b && s (true ∷ row))) ≡ s (b ∷ row)
by_first s true row = refl
by_first s false row = or_false (s (false ∷ row))

covered-map : (cell : Cell) (cs : List (List Cell)) (b : Bool) (row : List Bool) → covered (map (λ cube. cell ∷ cube) cs) (b ∷ row) ≡ (allows cell b && covered cs row)
covered-map cell [] b row = and_none (allows cell b)
covered-map cell (c ∷ cs) b row = rw (covered-map cell cs b row) (and_or (allows cell b) (covers c row) (covered cs row))

-- the cubes of a set have its rows
pub covered-cubes : (n : ℕ) (s : List Bool → Bool) → SameAt n (covered (cubes n s)) s
unfolding cubes
covered-cubes zero s [] e = empty_row (s [])
covered-cubes zero s (b ∷ row) e = absurd (omega arith)
covered-cubes (suc n) s [] e = absurd (omega arith)
covered-cubes (suc n) s (b ∷ row) e =
    let len : length row ≡ n = omega arith in
    let on_false = covered-cubes n (rests false s) row len in
    let on_true = covered-cubes n (rests true s) row len in
    let low = cubes n (rests false s) in
    let high = cubes n (rests true s) in
    (elim (same_rows n (rests false s) (rests true s)) as (λ x. same_rows n (rests false s) (rests true s) ≡ x
    → covered (if x then map (λ cube. Any ∷ cube) low else map (λ cube. Zero ∷ cube) low ++ map (λ cube. One ∷ cube) high) (b ∷ row) ≡ s (b ∷ row)) [
      | true ↦ λ same. covered-map Any low b row ∙ rw on_false (same_rest s b row (same_rows_is n (rests false s) (rests true s) same row len))
      | false ↦ λ differ.
          list_any-append (λ cube. covers cube (b ∷ row)) (map (λ cube. Zero ∷ cube) low) (map (λ cube. One ∷ cube) high)
          ∙ rw (covered-map Zero low b row, covered-map One high b row, on_false, on_true) (by_first s b row)
    ]) refl
