-- What facts have: predicates, numbers in range, modes, rows, multipliers, cubes and levels.
use Rattle.std.proofs.Common.{◌≡◌, ℕ, suc, ◌≤◌, Bool, true, false, ◌&&◌, ◌==◌, nat_eq, nat_lt, nat_le, List, [], ◌∷◌, map, length, Some, None, refl, ap, ap₂, sym, ◌∙◌, arith, eqb-true, eq-eqb, le-leb, leb-true, lt-ltb, ltb-true, ◌≢◌, slice_get, Option, option_map, unwrap_or}
use Rattle.std.proofs.lemmas.Bool.{false≢true, and_parts}
use Rattle.std.proofs.lemmas.Int.{ints}
use Rattle.std.specs.Prelude.{ℤ, pos, negsuc}
use Rattle.std.specs.List.{AllByRecursion, list_all}
use Rattle.std.specs.Cmp.Lexicographic.{pointwise}
use Rattle.bool_diagrams.specs.declared.cube.Cell.{Cell}
use Rattle.bool_diagrams.specs.declared.cube.Cell.TheVariants as side
use Rattle.certificate.specs.declared.cell.CertCell.{CertCell}
use Rattle.certificate.specs.declared.cell.CertCell.TheVariants as cell
use Rattle.certificate.specs.declared.pred_text.PredText.{PredText}
use Rattle.certificate.specs.Range.{most_127, IsEntry, IsAmount, AreEntries, AreAmounts}
use Rattle.linear_rows.specs.declared.multipliers.Multipliers.{Multipliers}
use Rattle.linear_rows.specs.declared.row.Row.{Row}
use Rattle.number_tests.specs.declared.level_part.LevelPart.{LevelPart}
use Rattle.cert_structure.specs.Order.{cell_of, text_or_none, pred_text}
use Rattle.cert_structure.specs.Shape.{Ascend, IsMode, IsSizeRow, HaveMultipliers, HasWidth, IsLevel, arity_in}
use Rattle.cert_structure.specs.Walk.{at_place, kept, same_pred, is_amount, is_entry, are_amounts, are_entries, is_mode, cell_read, row_read, multipliers_read, cube_read, level_read}
use Rattle.fact_reading.specs.Walk.{Taken}
use Rattle.fact_reading.proofs.SectionLemmas.{same_some}
use Rattle.cti_terms.specs.declared.predicates.Pred.{Pred}
use Rattle.cti_terms.specs.Listing.{Listing}

pub other_taken : {A : Type 0} {C : Type 0} (o : Taken A) (x : A) → o ≡ Some None → o ≡ Some (Some x) → C
other_taken o x none some =
    let e : Some None ≡ Some (Some x) = sym none ∙ some in
    let bad : None ≡ Some x = same_some _ _ e in
    absurd (cc bad)

pub placed : {A : Type 0} (here : Bool) (o : Taken A) (x : A) → at_place here o ≡ Some (Some x) → (here ≡ true) × (o ≡ Some (Some x))
placed true o x e = (refl, e)
placed false o x e = other_taken (Some None) x refl e

pub kept_is : {A : Type 0} (right : Bool) (y x : A) → kept right y ≡ Some (Some x) → (right ≡ true) × (y ≡ x)
kept_is true y x e = (refl, same_some y x (same_some (Some y) (Some x) e))
kept_is false y x e = absurd (cc e)

-- predicates of the same name and arity
same_names : (xs ys : List ℕ) → pointwise nat_eq xs ys ≡ true → xs ≡ ys
same_names [] [] e = refl
same_names [] (y ∷ ys) e = absurd (false≢true e)
same_names (x ∷ xs) [] e = absurd (false≢true e)
same_names (x ∷ xs) (y ∷ ys) e =
    let (one, more) = and_parts (x == y) (pointwise nat_eq xs ys) e in
    ap₂ (λ z zs. z ∷ zs) (eqb-true x y one) (same_names xs ys more)

name_itself : (xs : List ℕ) → pointwise nat_eq xs xs ≡ true
name_itself [] = refl
name_itself (x ∷ xs) = rw (eq-eqb x x refl, name_itself xs) refl

pub same_is : (q r : PredText) → same_pred q r ≡ true → q ≡ r
same_is q r e =
    let (name, arity) = and_parts (pointwise nat_eq q.name r.name) (q.arity == r.arity) e in
    ap₂ (λ n a. record { name = n; arity = a }) (same_names q.name r.name name) (eqb-true q.arity r.arity arity)

pub same_itself : (q : PredText) → same_pred q q ≡ true
same_itself q = rw (name_itself q.name, eq-eqb q.arity q.arity refl) refl

-- numbers in range
pub amount_is : (z : ℤ) → is_amount z ≡ true → IsAmount z
amount_is (pos n) e = let h = leb-true n most_127 e in (omega (arith, ints), omega (arith, ints, h))
amount_is (negsuc n) e = absurd (false≢true e)

pub amount_back : (z : ℤ) → IsAmount z → is_amount z ≡ true
amount_back (pos n) h = le-leb n most_127 (omega (arith, ints, h.1))
amount_back (negsuc n) h = absurd (omega (arith, ints, h.0))

entry_is : (z : ℤ) → is_entry z ≡ true → IsEntry z
entry_is (pos n) e = let h = leb-true n most_127 e in (omega (arith, ints), omega (arith, ints, h))
entry_is (negsuc n) e = let h = ltb-true n most_127 e in (omega (arith, ints, h), omega (arith, ints))

entry_back : (z : ℤ) → IsEntry z → is_entry z ≡ true
entry_back (pos n) h = le-leb n most_127 (omega (arith, ints, h.1))
entry_back (negsuc n) h = lt-ltb n most_127 (omega (arith, ints, h.0))

pub amounts_are : (zs : List ℤ) → are_amounts zs ≡ true → AreAmounts zs
amounts_are [] e = tt
amounts_are (z ∷ zs) e = let (one, more) = and_parts (is_amount z) (are_amounts zs) e in (amount_is z one, amounts_are zs more)

pub amounts_back : (zs : List ℤ) → AreAmounts zs → are_amounts zs ≡ true
amounts_back [] h = refl
amounts_back (z ∷ zs) h = rw (amount_back z h.0, amounts_back zs h.1) refl

pub entries_are : (zs : List ℤ) → are_entries zs ≡ true → AreEntries zs
entries_are [] e = tt
entries_are (z ∷ zs) e = let (one, more) = and_parts (is_entry z) (are_entries zs) e in (entry_is z one, entries_are zs more)

entries_back : (zs : List ℤ) → AreEntries zs → are_entries zs ≡ true
entries_back [] h = refl
entries_back (z ∷ zs) h = rw (entry_back z h.0, entries_back zs h.1) refl

-- modes
mode_is : (arity last : ℕ) (mode : List ℕ) → is_mode arity last mode ≡ true → Ascend last mode × AllByRecursion (λ a. a ≤ arity) mode
mode_is arity last [] e = (tt, tt)
mode_is arity last (a ∷ more) e =
    let (one, rest) = and_parts (nat_lt last a && nat_le a arity) (is_mode arity a more) e in
    let (above, within) = and_parts (nat_lt last a) (nat_le a arity) one in
    let (ascend, all) = mode_is arity a more rest in
    ((ltb-true last a above, ascend), (leb-true a arity within, all))

mode_back : (arity last : ℕ) (mode : List ℕ) → Ascend last mode → AllByRecursion (λ a. a ≤ arity) mode → is_mode arity last mode ≡ true
mode_back arity last [] h k = refl
mode_back arity last (a ∷ more) h k = rw (lt-ltb last a h.0, le-leb a arity k.0, mode_back arity a more h.1 k.1) refl

pub modes_are : (arity : ℕ) (modes : List (List ℕ)) → list_all (is_mode arity 0) modes ≡ true → AllByRecursion (IsMode arity) modes
modes_are arity [] e = tt
modes_are arity (m ∷ ms) e = let (one, more) = and_parts (is_mode arity 0 m) (list_all (is_mode arity 0) ms) e in (mode_is arity 0 m one, modes_are arity ms more)

pub modes_back : (arity : ℕ) (modes : List (List ℕ)) → AllByRecursion (IsMode arity) modes → list_all (is_mode arity 0) modes ≡ true
modes_back arity [] h = refl
modes_back arity (m ∷ ms) h = rw (mode_back arity 0 m h.0.0 h.0.1, modes_back arity ms h.1) refl

-- cells
cell_again : (c : Cell) → cell_read (cell_of c) ≡ c
cell_again side.Zero = refl
cell_again side.One = refl
cell_again side.Any = refl

cell_shown : (c : CertCell) → cell_of (cell_read c) ≡ c
cell_shown cell.Zero = refl
cell_shown cell.One = refl
cell_shown cell.Any = refl

cells_again : (cs : List Cell) → map cell_read (map cell_of cs) ≡ cs
cells_again [] = refl
cells_again (c ∷ cs) = ap₂ (λ x xs. x ∷ xs) (cell_again c) (cells_again cs)

cells_shown : (cs : List CertCell) → map cell_of (map cell_read cs) ≡ cs
cells_shown [] = refl
cells_shown (c ∷ cs) = ap₂ (λ x xs. x ∷ xs) (cell_shown c) (cells_shown cs)

many_cells : (cs : List Cell) → length (map cell_of cs) ≡ length cs
many_cells [] = refl
many_cells (c ∷ cs) = ap suc (many_cells cs)

many_read : (cs : List CertCell) → length (map cell_read cs) ≡ length cs
many_read [] = refl
many_read (c ∷ cs) = ap suc (many_read cs)

-- the parts of facts
pub row_is : (arity : ℕ) (row : List ℤ) (x : Row) → row_read arity row ≡ Some (Some x) → (row ≡ x.constant ∷ x.coeffs) × IsSizeRow arity x
row_is arity [] x e = absurd (cc e)
row_is arity (b ∷ bs) x e =
    let (right, same) = kept_is ((length bs == arity) && (is_entry b && are_entries bs)) (record { constant = b; coeffs = bs }) x e in
    let (wide, more) = and_parts (length bs == arity) (is_entry b && are_entries bs) right in
    let (one, others) = and_parts (is_entry b) (are_entries bs) more in
    rw (← same) (refl, (eqb-true (length bs) arity wide, (entry_is b one, entries_are bs others)))

pub row_back : (arity : ℕ) (x : Row) → IsSizeRow arity x → row_read arity (x.constant ∷ x.coeffs) ≡ Some (Some x)
row_back arity x h = rw (eq-eqb (length x.coeffs) arity h.0, entry_back x.constant h.1.0, entries_back x.coeffs h.1.1) refl

pub multipliers_are : (rows : ℕ) (scale : ℤ) (list : List ℤ) (x : Multipliers) → multipliers_read rows scale list ≡ Some (Some x)
    → (record { scale = scale; list = list } ≡ x) × HaveMultipliers rows x
multipliers_are rows scale list x e =
    let (right, same) = kept_is ((length list == rows) && (is_amount scale && are_amounts list)) (record { scale = scale; list = list }) x e in
    let (wide, more) = and_parts (length list == rows) (is_amount scale && are_amounts list) right in
    let (one, others) = and_parts (is_amount scale) (are_amounts list) more in
    rw (← same) (refl, (eqb-true (length list) rows wide, amount_is scale one, amounts_are list others))

pub multipliers_back : (rows : ℕ) (x : Multipliers) → HaveMultipliers rows x → multipliers_read rows x.scale x.list ≡ Some (Some x)
multipliers_back rows x h = rw (eq-eqb (length x.list) rows h.0, amount_back x.scale h.1, amounts_back x.list h.2) refl

pub cube_is : (arity : ℕ) (cells : List CertCell) (x : List Cell) → cube_read arity cells ≡ Some (Some x) → (cells ≡ map cell_of x) × HasWidth arity x
cube_is arity cells x e =
    let (right, same) = kept_is (length cells == arity) (map cell_read cells) x e in
    rw (← same) (sym (cells_shown cells), many_read cells ∙ eqb-true (length cells) arity right)

pub cube_back : (arity : ℕ) (x : List Cell) → HasWidth arity x → cube_read arity (map cell_of x) ≡ Some (Some x)
cube_back arity x h = rw (eq-eqb (length (map cell_of x)) arity (many_cells x ∙ h), cells_again x) refl

pub level_is : (arity : ℕ) (coeffs : List ℤ) (offset : ℤ) (x : LevelPart) → level_read arity coeffs offset ≡ Some (Some x)
    → (record { coeffs = coeffs; offset = offset } ≡ x) × IsLevel arity x
level_is arity coeffs offset x e =
    let (right, same) = kept_is ((length coeffs == arity) && (are_amounts coeffs && is_amount offset)) (record { coeffs = coeffs; offset = offset }) x e in
    let (wide, more) = and_parts (length coeffs == arity) (are_amounts coeffs && is_amount offset) right in
    let (others, one) = and_parts (are_amounts coeffs) (is_amount offset) more in
    rw (← same) (refl, (eqb-true (length coeffs) arity wide, amounts_are coeffs others, amount_is offset one))

pub level_back : (arity : ℕ) (x : LevelPart) → IsLevel arity x → level_read arity x.coeffs x.offset ≡ Some (Some x)
level_back arity x h = rw (eq-eqb (length x.coeffs) arity h.0, amounts_back x.coeffs h.1, amount_back x.offset h.2) refl

-- the arity of a predicate's text is the predicate's
pub arity_text : (p : Listing) (names : List (List ℕ)) (a : ℕ) → (pred_text p names a).arity ≡ arity_in p a
arity_text p names a = go (slice_get p.preds a)
  where
    go : (o : Option Pred) → (text_or_none names o).arity ≡ unwrap_or (option_map (λ q. q.arity) o) 0
    go None = refl
    go (Some q) = refl

pub not_same : (q r : PredText) → q ≢ r → same_pred q r ≡ false
not_same q r h = go (same_pred q r) refl
  where
    go : (b : Bool) → same_pred q r ≡ b → b ≡ false
    go true e = absurd (h (same_is q r e))
    go false e = refl
