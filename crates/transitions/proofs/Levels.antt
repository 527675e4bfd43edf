-- Levels by the numbers of a turn: what a feature gives in each column.
use Rattle.std.proofs.Common.{◌≡◌, ℕ, zero, suc, ◌+◌, ◌<◌, ◌≤◌, ◌==◌, ℤ, pos, ◌+ℤ◌, ◌*ℤ◌, Bool, true, false, ◌&&◌, if◌then◌else◌, List, [], ◌∷◌, map, length, slice_get, replicate, Option, None, Some, inl, inr, refl, ap, sym, subst, ◌∙◌, arith, eqb-true}
use Rattle.std.specs.Prelude.{slice_index_or}
use Rattle.std.proofs.lemmas.Int.{ints}
use Rattle.std.proofs.lemmas.List.{length-map}
use Rattle.std.proofs.lemmas.Bool.Decides.{nat_tests}
use Rattle.exact128.proofs.Rings.{rings}
use Rattle.exact128.specs.Sums.{dot, entry}
use Rattle.linear_rows.specs.Members.{In}
use Rattle.linear_rows.specs.Replacing.{substituted}
use Rattle.linear_rows.specs.Rows.{column}
use Rattle.linear_rows.specs.Step.{columns}
use Rattle.termination_model.specs.columns.ColumnRows.{is_zero, lacks, or_empty}
use Rattle.transitions.specs.Transitions.{level_of}
use Rattle.transitions.specs.StuckSets.{Feature, LacksAt}
use Rattle.transitions.specs.Turns.{unit_row, share_row, is_same, number_at, mapping_of}
use Rattle.termination_model.proofs.Entries.{dot_nil, constant_at, entry_column, entry_substituted}
use Rattle.termination_model.proofs.Totals.{shifted}

-- ---- one number among columns
past_place : (a k w : ℕ) (z : ℤ) (es : List ℤ) → a < k → dot (map (λ j. if j == a then z else pos 0) (columns k w)) es ≡ pos 0
unfolding dot
past_place a k zero z es l = refl
past_place a k (suc w) z [] l = refl
past_place a k (suc w) z (e ∷ es) l =
    let apart : (k == a) ≡ false = grind (arith, nat_tests) in
    let rest = past_place a (suc k) w z es (omega arith) in
    rw apart (omega (arith, ints, rest))

at_place : (a k d w : ℕ) (z : ℤ) (es : List ℤ) → a ≡ k + d → length es ≤ w → dot (map (λ j. if j == a then z else pos 0) (columns k w)) es ≡ z *ℤ entry es d
unfolding dot
at_place a k d w z [] e l = dot_nil (map (λ j. if j == a then z else pos 0) (columns k w)) ∙ omega (arith, ints)
at_place a k d zero z (y ∷ es) e l = absurd (omega arith)
at_place a k zero (suc w) z (y ∷ es) e l =
    let same : (k == a) ≡ true = grind (arith, nat_tests) in
    let rest = past_place a (suc k) w z es (omega arith) in
    rw same (omega (arith, ints, rest))
at_place a k (suc d) (suc w) z (y ∷ es) e l =
    let apart : (k == a) ≡ false = grind (arith, nat_tests) in
    let rest = at_place a (suc k) d w z es (omega arith) (omega arith) in
    rw apart (omega (arith, ints, rest))

all_nothing : (js : List ℕ) (es : List ℤ) → dot (map (λ (j : ℕ). pos 0) js) es ≡ pos 0
unfolding dot
all_nothing [] es = refl
all_nothing (j ∷ js) [] = refl
all_nothing (j ∷ js) (e ∷ es) = let rest = all_nothing js es in omega (arith, ints, rest)

-- what one number gives, where it is the member's
one_share : (q w : ℕ) (f : Feature) (z : ℤ) (es : List ℤ) → length es ≤ w → dot (map (λ j. if is_same f (q, j) then z else pos 0) (columns 0 w)) es ≡ (if q == f.0 then z *ℤ entry es f.1 else pos 0)
one_share q w f z es l = go (q == f.0)
  where
    go : (b : Bool) → dot (map (λ j. if b && (j == f.1) then z else pos 0) (columns 0 w)) es ≡ (if b then z *ℤ entry es f.1 else pos 0)
    go true = at_place f.1 0 f.1 w z es (omega arith) l
    go false = all_nothing (columns 0 w) es

dot_plus : (g h : ℕ → ℤ) (js : List ℕ) (es : List ℤ) → dot (map (λ j. g j +ℤ h j) js) es ≡ dot (map g js) es +ℤ dot (map h js) es
unfolding dot
dot_plus g h [] es = omega (arith, ints)
dot_plus g h (j ∷ js) [] = omega (arith, ints)
dot_plus g h (j ∷ js) (e ∷ es) =
    let rest = dot_plus g h js es in
    let here : (g j +ℤ h j) *ℤ e ≡ (g j *ℤ e) +ℤ (h j *ℤ e) = simp rings (omega (arith, ints)) in
    omega (arith, ints, rest, here)

-- the shares of numbers, one after the other
abbrev shares : ℕ → List Feature → List ℤ → List ℤ → ℤ
shares q [] zs es = pos 0
shares q (f ∷ fs) [] es = pos 0
shares q (f ∷ fs) (z ∷ zs) es = (if q == f.0 then z *ℤ entry es f.1 else pos 0) +ℤ shares q fs zs es

all_shares : (q w : ℕ) (fs : List Feature) (zs es : List ℤ) → length es ≤ w → dot (map (λ j. number_at fs zs (q, j)) (columns 0 w)) es ≡ shares q fs zs es
all_shares q w [] zs es l = all_nothing (columns 0 w) es
all_shares q w (f ∷ fs) [] es l = all_nothing (columns 0 w) es
all_shares q w (f ∷ fs) (z ∷ zs) es l =
    let split = dot_plus (λ j. if is_same f (q, j) then z else pos 0) (λ j. number_at fs zs (q, j)) (columns 0 w) es in
    let here = one_share q w f z es l in
    let rest = all_shares q w fs zs es l in
    omega (arith, ints, split, here, rest)

-- ---- the entries of the rows of numbers
first_unit : (n x : ℕ) → entry (unit_row n) x ≡ constant_at x (pos 1)
first_unit n zero = refl
first_unit n (suc x) = none n x
  where
    none : (n x : ℕ) → entry (replicate n (pos 0)) x ≡ pos 0
    none zero x = refl
    none (suc n) zero = refl
    none (suc n) (suc x) = none n x

abbrev at_column : ℕ → List (Option (List ℤ)) → ℕ → List ℤ
at_column n es x = map (λ e. entry e x) (unit_row n ∷ map or_empty es)

share_entry : (n q : ℕ) (es : List (Option (List ℤ))) (f : Feature) (x : ℕ) → entry (share_row n q es f) x ≡ (if q == f.0 then entry (at_column n es x) f.1 else pos 0)
share_entry n q es f x = go (q == f.0)
  where
    go : (b : Bool) → entry (if b then slice_index_or (unit_row n ∷ map or_empty es) f.1 [] else []) x ≡ (if b then entry (at_column n es x) f.1 else pos 0)
    go true = sym (entry_column (unit_row n ∷ map or_empty es) x f.1)
    go false = refl

times_if : (b : Bool) (z y : ℤ) → z *ℤ (if b then y else pos 0) ≡ (if b then z *ℤ y else pos 0)
times_if true z y = refl
times_if false z y = omega (arith, ints)

pub shares_are : (n q : ℕ) (es : List (Option (List ℤ))) (fs : List Feature) (zs : List ℤ) (x : ℕ) → dot zs (column (map (share_row n q es) fs) x) ≡ shares q fs zs (at_column n es x)
unfolding dot
shares_are n q es [] zs x = dot_nil zs
shares_are n q es (f ∷ fs) [] x = refl
shares_are n q es (f ∷ fs) (z ∷ zs) x =
    let here = share_entry n q es f x in
    let rest = shares_are n q es fs zs x in
    let turned = times_if (q == f.0) z (entry (at_column n es x) f.1) in
    (λ i. (z *ℤ here i) +ℤ rest i) ∙ omega (arith, ints, turned)

-- the number of a level in a column: what the numbers give
pub level_entry : (width : ℕ → ℕ) (n q : ℕ) (es : List (Option (List ℤ))) (fs : List Feature) (zs : List ℤ) (x : ℕ) → length es ≡ width q
    → entry (substituted n (map or_empty es) ((mapping_of width fs zs).offset q ∷ (mapping_of width fs zs).coefficients q)) x ≡ dot zs (column (map (share_row n q es) fs) x)
unfolding dot
level_entry width n q es fs zs x l =
    let w = width q in
    let first = number_at fs zs (q, 0) in
    let later = map (λ i. number_at fs zs (q, suc i)) (columns 0 w) in
    let own = map (λ e. entry e x) (map or_empty es) in
    let e = entry_substituted n (map or_empty es) first later x in
    let u = first_unit n x in
    let c : constant_at x first ≡ first *ℤ constant_at x (pos 1) = constant x first in
    let moved : map (λ j. number_at fs zs (q, j)) (columns 1 w) ≡ later = shifted (λ j. number_at fs zs (q, j)) 0 w in
    let long : length (at_column n es x) ≤ suc w = omega (arith, length-map (map or_empty es) (λ e. entry e x), length-map es or_empty, l) in
    let whole = all_shares q (suc w) fs zs (at_column n es x) long in
    let split : dot (map (λ j. number_at fs zs (q, j)) (columns 0 (suc w))) (at_column n es x) ≡ (first *ℤ constant_at x (pos 1)) +ℤ dot later own =
    λ i. (first *ℤ u i) +ℤ dot (moved i) own in
    let s = shares_are n q es fs zs x in
    e ∙ omega (arith, ints, c, whole, split, s)
  where
    constant : (x : ℕ) (b : ℤ) → constant_at x b ≡ b *ℤ constant_at x (pos 1)
    constant zero b = omega (arith, ints)
    constant (suc x) b = omega (arith, ints)

-- ---- a mapping of numbers that no transition lacks
zero_is : (z : ℤ) → z ≡ pos 0 → is_zero z ≡ true
zero_is z e = subst (λ y. is_zero y ≡ true) (sym e) refl

pub none_lacks : (row : List ℤ) (es : List (Option (List ℤ))) → ((i : ℕ) → slice_get es i ≡ Some None → entry row i ≡ pos 0) → lacks row es ≡ false
none_lacks [] es h = refl
none_lacks (z ∷ row) [] h = refl
none_lacks (z ∷ row) (None ∷ es) h =
    let here = zero_is z (h 0 refl) in
    let rest = none_lacks row es (λ i e. h (suc i) e) in
    rw (here, rest) refl
none_lacks (z ∷ row) (Some r ∷ es) h = none_lacks row es (λ i e. h (suc i) e)

same_is : (f g : Feature) → is_same f g ≡ true → f ≡ g
same_is f g e = go (g.0 == f.0) (g.1 == f.1) refl refl e
  where
    go : (a b : Bool) → (g.0 == f.0) ≡ a → (g.1 == f.1) ≡ b → (a && b) ≡ true → f ≡ g
    go true true ea eb h =
        let first : f.0 ≡ g.0 = sym (eqb-true g.0 f.0 ea) in
        let second : f.1 ≡ g.1 = sym (eqb-true g.1 f.1 eb) in
        λ i. (first i, second i)
    go true false ea eb h = absurd (cc)
    go false b ea eb h = absurd (cc)

pub no_number : (fs : List Feature) (zs : List ℤ) (g : Feature) → (In g fs → ⊥) → number_at fs zs g ≡ pos 0
no_number [] zs g h = refl
no_number (f ∷ fs) [] g h = refl
no_number (f ∷ fs) (z ∷ zs) g h = go (is_same f g) refl (no_number fs zs g (λ i. h (inr i)))
  where
    go : (b : Bool) → is_same f g ≡ b → number_at fs zs g ≡ pos 0 → (if b then z else pos 0) +ℤ number_at fs zs g ≡ pos 0
    go true e rest = absurd (h (inl (same_is f g e)))
    go false e rest = omega (arith, ints, rest)

columns_entry : (g : ℕ → ℤ) (k w i : ℕ) → (i < w) → entry (map g (columns k w)) i ≡ g (k + i)
columns_entry g k zero i l = absurd (omega arith)
columns_entry g k (suc w) zero l = ap g (omega arith)
columns_entry g k (suc w) (suc i) l = columns_entry g (suc k) w i (omega arith) ∙ ap g (omega arith)

there_below : (es : List (Option (List ℤ))) (i : ℕ) (o : Option (List ℤ)) → slice_get es i ≡ Some o → i < length es
there_below [] i o e = absurd (cc)
there_below (x ∷ es) zero o e = omega arith
there_below (x ∷ es) (suc i) o e = let rest = there_below es i o e in omega arith

-- the level is there
pub level_there : (width : ℕ → ℕ) (n q : ℕ) (es : List (Option (List ℤ))) (fs : List Feature) (zs : List ℤ) → length es ≡ width q
    → ((f : Feature) → In f fs → LacksAt q es f → ⊥)
    → level_of n q es (mapping_of width fs zs) ≡ Some (substituted n (map or_empty es) ((mapping_of width fs zs).offset q ∷ (mapping_of width fs zs).coefficients q))
level_there width n q es fs zs l none =
    let l0 = mapping_of width fs zs in
    let free = none_lacks (l0.coefficients q) es (λ i e.
    columns_entry (λ i. number_at fs zs (q, suc i)) 0 (width q) i (omega (arith, l, there_below es i None e))
    ∙ ap (λ j. number_at fs zs (q, suc j)) (omega arith)
    ∙ no_number fs zs (q, suc i) (λ inside. none (q, suc i) inside (refl, e))) in
    λ i. if free i then None else Some (substituted n (map or_empty es) (l0.offset q ∷ l0.coefficients q))
