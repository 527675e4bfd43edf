-- Claims of size rows that have their proofs over the systems are proved.
use Rattle.std.proofs.Common.{◌≡◌, ℕ, zero, suc, ℤ, pos, negsuc, ◌+ℤ◌, ◌*ℤ◌, ◌-ℤ◌, ◌≤ℤ◌, Bool, true, false, List, [], ◌∷◌, map, length, replicate, Option, None, Some, ◌⊎◌, inl, inr, refl, ap, sym, subst, ◌∙◌, arith}
use Rattle.std.specs.List.{AllByRecursion}
use Rattle.std.proofs.lemmas.Int.{ints}
use Rattle.cti_terms.specs.declared.builtins.Arith.{Arith}
use Rattle.cti_terms.specs.declared.clauses.Clause.{Clause}
use Rattle.exact128.specs.Sums.{dot, entry}
use Rattle.linear_rows.specs.Proves.{Proves, goal_number}
use Rattle.linear_rows.specs.Replacing.{substituted, unit_at}
use Rattle.linear_rows.specs.Rows.{column}
use Rattle.linear_rows.specs.Showing.{Shows, bottom_row}
use Rattle.linear_rows.specs.declared.multipliers.Multipliers.{Multipliers}
use Rattle.number_columns.specs.ColumnLists.{HaveLength, columns_over}
use Rattle.number_columns.proofs.ArgumentLaws.{columns_length}
use Rattle.number_columns.proofs.OverLaws.{length_substituted, over_lacking, over_there, widths, zeros_are}
use Rattle.size_chains.specs.Proved.{AreNaturalThere, AreProved, AreShownFor, IsProved, IsShownFor, target}
use Rattle.termination_model.proofs.Proved.{length-replicate', length-substituted}
use Rattle.termination_model.proofs.RowColumns.{entry_substituted, entry_zeros, same_lists}
use Rattle.termination_model.specs.columns.ColumnClaims.{Claims, numbers_of}
use Rattle.termination_model.specs.columns.ColumnRows.{lacks, least, or_empty, or_zeros}
use Rattle.termination_model.specs.columns.ColumnShort.{SizesProved, TargetProvable, head_row, short_system}
use Rattle.termination_model.specs.columns.Columns.{AreColumns}
use Rattle.termination_model.specs.sizes.Short.{Provable}
use Rattle.termination_model.specs.sizes.ShortSystems.{short_row}
use Rattle.column_systems.specs.ColumnSystems.{column_systems}
use Rattle.column_systems.specs.Laws.{ClausesAreProved, ProgramsAreProved}
use Rattle.column_systems.proofs.ClaimLaws.{systems_are_of_claims}

-- ---- multipliers
provable : (rows : List (List ℤ)) (row : List ℤ) (by : Multipliers) → Shows rows row by → Provable rows row
provable rows row by h = go by.scale refl h.multipliers.scale
  where
    go : (z : ℤ) → by.scale ≡ z → pos 0 ≤ℤ z → Provable rows row
    go (pos d) e le = (by.list, d, h.multipliers.naturals, subst (Proves rows by.list row) e h.shown.proves)
    go (negsuc d) e le = absurd (omega (arith, ints, le))

goal_same : (xs ys : List ℤ) (k : ℕ) → goal_number (pos 0) xs k ≡ goal_number (pos 0) ys k
goal_same xs ys zero = refl
goal_same xs ys (suc k) = refl

length_bottom : (n : ℕ) → length (bottom_row n) ≡ suc n
length_bottom n = ap (λ (zs : List ℤ). suc (length zs)) (zeros_are n) ∙ ap suc (length-replicate' n)

-- scale 0 shows that the rows are empty
bottom_provable : (n : ℕ) (rows : List (List ℤ)) (row : List ℤ) (by : Multipliers) → length row ≡ suc n → Shows rows row by → by.scale ≡ pos 0 → Provable rows (bottom_row n)
bottom_provable n rows row by long h e =
    let proved : Proves rows by.list row (pos 0) = subst (Proves rows by.list row) e h.shown.proves in
    let short = length_bottom n in (
      by.list,
      0,
      h.multipliers.naturals,
      λ k lt. subst (λ (g : ℤ). pos 0 ≤ℤ (g -ℤ dot by.list (column rows k))) (goal_same row (bottom_row n) k) (proved k (omega (arith, lt, long, short))),
    )

-- ---- rows of the head
natural_least : (row : List ℤ) (es : List (Option (List ℤ))) → AreNaturalThere row es → lacks (least row es) es ≡ false
natural_least [] es h = refl
natural_least (z ∷ zs) [] h = refl
natural_least (pos n ∷ zs) (None ∷ es) h = natural_least zs es h.1
natural_least (negsuc n ∷ zs) (None ∷ es) h = let le = h.0 in absurd (omega (arith, ints, le))
natural_least (z ∷ zs) (Some e ∷ es) h = natural_least zs es h

module _ (n : ℕ) where
  dots_same : (k : ℕ) (row : List ℤ) (es : List (Option (List ℤ))) → dot row (map (λ e. entry e k) (map (or_zeros n) es)) ≡ dot (least row es) (map (λ e. entry e k) (map or_empty es))
  unfolding dot
  dots_same k [] es = refl
  dots_same k (z ∷ zs) [] = refl
  dots_same k (z ∷ zs) (None ∷ es) =
      let none = entry_zeros (suc n) k in
      let rest = dots_same k zs es in
      ap (λ (x : ℤ). (z *ℤ x) +ℤ dot zs (map (λ e. entry e k) (map (or_zeros n) es))) none ∙ omega (arith, ints, rest)
  dots_same k (z ∷ zs) (Some e ∷ es) = ap (λ (x : ℤ). (z *ℤ entry e k) +ℤ x) (dots_same k zs es)

  numbers_same : (k : ℕ) (b : ℤ) (row : List ℤ) (es : List (Option (List ℤ)))
      → dot (b ∷ row) (unit_at k ∷ map (λ e. entry e k) (map (or_zeros n) es)) ≡ dot (b ∷ least row es) (unit_at k ∷ map (λ e. entry e k) (map or_empty es))
  unfolding dot
  numbers_same k b row es = ap (λ (x : ℤ). (b *ℤ unit_at k) +ℤ x) (dots_same k row es)

  -- columns without an expression count nothing in either
  targets_same : (es : List (Option (List ℤ))) (b : ℤ) (row : List ℤ) → HaveLength n es → substituted n (map (or_zeros n) es) (b ∷ row) ≡ substituted n (map or_empty es) (b ∷ least row es)
  targets_same es b row h =
      let left = length-substituted n (map (or_zeros n) es) (b ∷ row) (widths n es h) in
      let right = length_substituted n es (b ∷ least row es) h in
      same_lists (substituted n (map (or_zeros n) es) (b ∷ row)) (substituted n (map or_empty es) (b ∷ least row es)) (left ∙ sym right)
      (λ k lt. entry_substituted n (map (or_zeros n) es) (b ∷ row) k ∙ numbers_same k b row es ∙ sym (entry_substituted n (map or_empty es) (b ∷ least row es) k))

module _ (c : Claims) (k : Clause) (o : Option Arith) (are : AreColumns o c.truth c.columns) where
  abbrev s : List (Option (List ℤ))
  s = columns_over c.columns c.kinds k.vars k.head

  abbrev n : ℕ
  n = numbers_of c k.vars

  long : HaveLength n s
  long = columns_length n (c.columns.expression k.vars) (λ t j e is. (are.expressions k.vars t j e is).0) (c.kinds k.head.pred.0) k.head.args

  row_proved : (rows : List (List ℤ)) (row : List ℤ) (by : Multipliers) → IsShownFor (column_systems c.columns c.kinds) k rows row by → TargetProvable n rows (head_row c k row)
  row_proved rows [] by is = provable rows (replicate (suc n) (pos 0)) by is.shown
  row_proved rows (b ∷ row) by is = go (lacks (least row s) s) refl is.free
    where
      there : lacks (least row s) s ≡ false → TargetProvable n rows (head_row c k (b ∷ row))
      there e = subst (TargetProvable n rows) (sym (over_there n s b (least row s) e)) (subst (Provable rows) (targets_same n s b row long) (provable rows (target (column_systems c.columns c.kinds) k (b ∷ row)) by is.shown))

      go : (t : Bool) → lacks (least row s) s ≡ t → (by.scale ≡ pos 0) ⊎ AreNaturalThere row s → TargetProvable n rows (head_row c k (b ∷ row))
      go false e free = there e
      go true e (inr natural) = there (natural_least row s natural)
      go true e (inl none) =
          subst (TargetProvable n rows) (sym (over_lacking n s b (least row s) e))
          (bottom_provable n rows (target (column_systems c.columns c.kinds) k (b ∷ row)) by (length-substituted n (map (or_zeros n) s) (b ∷ row) (widths n s long)) is.shown none)

  rows_proved : (rows rs : List (List ℤ)) (proofs : List Multipliers) → AreShownFor (column_systems c.columns c.kinds) k rows rs proofs → AllByRecursion (λ (r : List ℤ). TargetProvable n rows (head_row c k r)) rs
  rows_proved rows [] proofs h = tt
  rows_proved rows (r ∷ rs) [] h = absurd h
  rows_proved rows (r ∷ rs) (m ∷ ms) h = (row_proved rows r m h.0, rows_proved rows rs ms h.1)

  pub clause_proved : (proofs : List Multipliers) → IsProved (column_systems c.columns c.kinds) c.rows k proofs → SizesProved c k
  clause_proved proofs h =
      rows_proved (short_system c k.vars k.body) (c.rows k.head.pred.0) proofs
      (subst (λ (rows : List (List ℤ)). AreShownFor (column_systems c.columns c.kinds) k (map short_row rows) (c.rows k.head.pred.0) proofs) (systems_are_of_claims c k k.body) h)

pub clauses_are_proved : ClausesAreProved
clauses_are_proved p c k proofs are h = clause_proved c k p.arithmetic.names are proofs h

pub programs_are_proved : ProgramsAreProved
programs_are_proved p c proofs are h = go p.clauses proofs h
  where
    go : (ks : List Clause) (ms : List (List Multipliers)) → AreProved (column_systems c.columns c.kinds) c.rows ks ms → AllByRecursion (SizesProved c) ks
    go [] ms h = tt
    go (k ∷ ks) [] h = absurd h
    go (k ∷ ks) (m ∷ ms) h = (clause_proved c k p.arithmetic.names are m h.0, go ks ms h.1)
