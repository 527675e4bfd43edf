-- The size rows and proofs of a chain are those of a certificate.
use Rattle.std.proofs.Common.{◌≡◌, ℕ, zero, suc, ◌+◌, ◌≤ℤ◌, ℤ, pos, true, List, [], ◌∷◌, length, map, slice_get, Some, None, Option, refl, ap, sym, subst, ◌∙◌, arith, length-append}
use Rattle.std.specs.Prelude.{All, IsSomeAnd, unwrap_or, option_map}
use Rattle.std.specs.List.{AllByRecursion}
use Rattle.std.proofs.lemmas.Int.{ints}
use Rattle.std.proofs.lemmas.List.{length-map}
use Rattle.std.proofs.lemmas.List.Elements.{All-head, All-tail}
use Rattle.std.proofs.lemmas.List.Sums.{sum_by-cons}
use Rattle.certificate.specs.Range.{AreAmounts, AreEntries, IsEntry}
use Rattle.cert_structure.specs.Numbered.{AreEach}
use Rattle.cert_structure.specs.Shape as shape
use Rattle.cti_terms.specs.Arithmetic.{kind_of}
use Rattle.cti_terms.specs.Listing.{Listing}
use Rattle.cti_terms.specs.Tree.{Tree}
use Rattle.cti_terms.specs.declared.atom_list.Atom.{Atom}
use Rattle.cti_terms.specs.declared.builtins.Builtin.{Builtin}
use Rattle.cti_terms.specs.declared.clauses.Clause.{Clause}
use Rattle.cti_terms.specs.declared.predicates.Pred.{Pred}
use Rattle.exact128.specs.Fits.{Fits, fits}
use Rattle.exact128.proofs.FitsLemmas.{both, of_fits}
use Rattle.linear_rows.specs.Members.{In}
use Rattle.linear_rows.specs.Plain.{HaveWidth, plain_row, plain_rows}
use Rattle.linear_rows.specs.Replacing.{row_fits}
use Rattle.linear_rows.specs.Showing.{AreMultipliers, Shows}
use Rattle.linear_rows.specs.declared.multipliers.Multipliers.{Multipliers}
use Rattle.linear_rows.specs.declared.row.Row.{Row}
use Rattle.linear_rows.specs.declared.row.Rows.{Rows}
use Rattle.number_tests.specs.Proved.{RowsAreKept}
use Rattle.number_tests.specs.Shape.{list_at}
use Rattle.numeric_model.specs.Proved.{AreProved, AreShownOver, IsProved}
use Rattle.termination_model.proofs.Lists.{by_places, indexed, place_below}
use Rattle.termination_model.specs.grounds.Grounds.{HasArity}
use Rattle.termination_model.specs.sizes.Sizes.{AreSizes, plain_or_none, rows_of}
use Rattle.termination_model.specs.sizes.Stated.{stated_rows}
use Rattle.termination_model.specs.sizes.Systems.{row_over, system}
use Rattle.termination_model.specs.sizes.ShortSystems.{short_row, short_system}
use Rattle.cert_assembly.specs.Sizing.{SizesHold}
use Rattle.cert_assembly.specs.Ranges.{AreBelow, AreMultipliersBelow}
use Rattle.cert_assembly.proofs.ModeLaws.{each_from, each_in, there}

pub are_each : {X : Type 0} (n : ℕ) (P : ℕ → X → Type 0) (xs : List X) → length xs ≡ n → ((i : ℕ) (x : X) → slice_get xs i ≡ Some x → P i x) → AreEach n P xs
are_each n P xs count h = record {
  count = count;
  each = each_from P 0 xs (λ i x e. let same : i ≡ 0 + i = omega arith in subst (λ (k : ℕ). P k x) same (h i x e));
}

-- ---- numbers in their ranges
entry_of : (z : ℤ) → Fits z → IsEntry z
entry_of z h = (omega (arith, ints, h), omega (arith, ints, h))

entries_of : (zs : List ℤ) → row_fits zs ≡ true → AreEntries zs
entries_of [] h = tt
entries_of (z ∷ zs) h = let b = both (fits z) (row_fits zs) h in (entry_of z (of_fits z b.0), entries_of zs b.1)

pub amounts_of : (zs : List ℤ) → All (λ z. pos 0 ≤ℤ z) zs → AreBelow zs → AreAmounts zs
amounts_of [] h b = tt
amounts_of (z ∷ zs) h b = ((All-head (λ z. pos 0 ≤ℤ z) z zs h, b.0), amounts_of zs (All-tail (λ z. pos 0 ≤ℤ z) z zs h) b.1)

pub multipliers_of : (n k : ℕ) (m : Multipliers) → n ≡ k → AreMultipliers n m → AreMultipliersBelow m → shape.HaveMultipliers k m
multipliers_of n k m same are below = (are.each ∙ same, (are.scale, below.0), amounts_of m.list are.naturals below.1)

-- ---- rows
row_of : (n : ℕ) (r : Row) → length r.coeffs ≡ n → row_fits (plain_row r) ≡ true → shape.IsSizeRow n r
row_of n r long fit = (long, entries_of (plain_row r) fit)

rows_are : (n : ℕ) (rs : List Row) → HaveWidth n rs → All (λ z. row_fits z ≡ true) (plain_rows rs) → AllByRecursion (shape.IsSizeRow n) rs
rows_are n [] long fit = tt
rows_are n (r ∷ rs) long fit =
    (row_of n r (All-head (λ (x : Row). length x.coeffs ≡ n) r rs long) (All-head (λ z. row_fits z ≡ true) (plain_row r) (plain_rows rs) fit), rows_are n rs (All-tail (λ (x : Row). length x.coeffs ≡ n) r rs long) (All-tail (λ z. row_fits z ≡ true) (plain_row r) (plain_rows rs) fit))

arity_is : (p : Listing) (q n : ℕ) → HasArity p.preds q n → n ≡ shape.arity_in p q
arity_is p q n h = go (slice_get p.preds q) h
  where
    go : (o : Option Pred) → IsSomeAnd o (λ d. d.arity ≡ n) → n ≡ unwrap_or (option_map (λ (d : Pred). d.arity) o) 0
    go None h = absurd h
    go (Some d) h = sym h

-- ---- how many rows
plain_count : (o : Option Rows) → length (plain_or_none o) ≡ unwrap_or (option_map (λ (r : Rows). length r.list) o) 0
plain_count None = refl
plain_count (Some r) = length-map r.list plain_row

pub row_count_is : (rows : List Rows) (q : ℕ) → length (rows_of rows q) ≡ shape.rows_of rows q
row_count_is rows q = plain_count (slice_get rows q)

system_count : (expression : ℕ → Tree → List ℤ) (rows : List Rows) (n : ℕ) (bs : List Atom) → length (system expression (rows_of rows) n bs) ≡ shape.rows_of_atoms rows bs
system_count expression rows n [] = refl
system_count expression rows n (b ∷ bs) =
    let first = length-map (rows_of rows b.pred.0) (row_over expression n b.args) in
    omega (
      arith,
      length-append (map (row_over expression n b.args) (rows_of rows b.pred.0)) (system expression (rows_of rows) n bs),
      first,
      row_count_is rows b.pred.0,
      system_count expression rows n bs,
      sum_by-cons (λ (x : Atom). shape.rows_of rows x.pred.0) b bs,
    )

pub short_count : (expression : ℕ → Tree → List ℤ) (rows : List Rows) (n : ℕ) (bs : List Atom) → length (short_system expression (rows_of rows) n bs) ≡ shape.rows_of_atoms rows bs
short_count expression rows n bs = length-map (system expression (rows_of rows) n bs) short_row ∙ system_count expression rows n bs

-- ---- proofs
shown_count : (rows : List (List ℤ)) (over : List ℤ → List ℤ) (rs : List (List ℤ)) (ms : List Multipliers) → AreShownOver rows over rs ms → length ms ≡ length rs
shown_count rows over [] [] h = refl
shown_count rows over [] (m ∷ ms) h = absurd h
shown_count rows over (r ∷ rs) [] h = absurd h
shown_count rows over (r ∷ rs) (m ∷ ms) h = ap suc (shown_count rows over rs ms h.1)

shown_at : (rows : List (List ℤ)) (over : List ℤ → List ℤ) (rs : List (List ℤ)) (ms : List Multipliers) → AreShownOver rows over rs ms
    → (i : ℕ) (r : List ℤ) (m : Multipliers) → slice_get rs i ≡ Some r → slice_get ms i ≡ Some m → Shows rows (over r) m
shown_at rows over [] ms h i r m e f = cc
shown_at rows over (x ∷ rs) [] h i r m e f = cc
shown_at rows over (x ∷ rs) (y ∷ ms) h zero r m e f =
    let one : x ≡ r = cc in
    let two : y ≡ m = cc in
    subst (λ (z : List ℤ). Shows rows (over z) m) one (subst (λ (z : Multipliers). Shows rows (over x) z) two h.0)
shown_at rows over (x ∷ rs) (y ∷ ms) h (suc i) r m e f = shown_at rows over rs ms h.1 i r m e f

shown_numbers : (rows : List (List ℤ)) (over : List ℤ → List ℤ) (rs : List (List ℤ)) (ms : List Multipliers) → AreShownOver rows over rs ms
    → (i : ℕ) (m : Multipliers) → slice_get ms i ≡ Some m → AreMultipliers (length rows) m
shown_numbers rows over rs [] h i m f = cc
shown_numbers rows over [] (y ∷ ms) h i m f = absurd h
shown_numbers rows over (x ∷ rs) (y ∷ ms) h zero m f = let two : y ≡ m = cc in subst (λ (z : Multipliers). AreMultipliers (length rows) z) two h.0.multipliers
shown_numbers rows over (x ∷ rs) (y ∷ ms) h (suc i) m f = shown_numbers rows over rs ms h.1 i m f

module _ (expression : ℕ → Tree → List ℤ) (rows : ℕ → List (List ℤ)) where
  proved_count : (ks : List Clause) (mss : List (List Multipliers)) → AreProved expression rows ks mss → length mss ≡ length ks
  proved_count [] [] h = refl
  proved_count [] (m ∷ ms) h = absurd h
  proved_count (k ∷ ks) [] h = absurd h
  proved_count (k ∷ ks) (m ∷ ms) h = ap suc (proved_count ks ms h.1)

  proved_at : (ks : List Clause) (mss : List (List Multipliers)) → AreProved expression rows ks mss → (i : ℕ) (k : Clause) (ms : List Multipliers) → slice_get ks i ≡ Some k → slice_get mss i ≡ Some ms → IsProved expression rows k ms
  proved_at [] mss h i k ms e f = cc
  proved_at (x ∷ ks) [] h i k ms e f = cc
  proved_at (x ∷ ks) (y ∷ mss) h zero k ms e f =
      let one : x ≡ k = cc in
      let two : y ≡ ms = cc in
      subst (λ (z : Clause). IsProved expression rows z ms) one (subst (λ (z : List Multipliers). IsProved expression rows x z) two h.0)
  proved_at (x ∷ ks) (y ∷ mss) h (suc i) k ms e f = proved_at ks mss h.1 i k ms e f

at_of : {X : Type 0} (xss : List (List X)) (k : ℕ) (xs : List X) → slice_get xss k ≡ Some xs → list_at xss k ≡ xs
at_of xss k xs e = indexed xss k xs [] e

clause_head : (p : Listing) (k : ℕ) (c : Clause) → slice_get p.clauses k ≡ Some c → shape.head_of p k ≡ c.head.pred.0
clause_head p k c e = ap (λ (o : Option Clause). unwrap_or (option_map (λ (x : Clause). x.head.pred.0) o) 0) e

clause_body : (p : Listing) (k : ℕ) (c : Clause) → slice_get p.clauses k ≡ Some c → shape.body_of p k ≡ c.body
clause_body p k c e = ap (λ (o : Option Clause). unwrap_or (option_map (λ (x : Clause). x.body) o) []) e

module _ (expression : ℕ → Tree → List ℤ) (p : Listing) (rows : List Rows) (proofs : List (List Multipliers)) (sizes : AreSizes p.preds rows) (fit : (q : ℕ) → All (λ r. row_fits r ≡ true) (rows_of rows q))
    (proved : AreProved expression (rows_of rows) p.clauses proofs) (below : AllByRecursion (AllByRecursion AreMultipliersBelow) proofs)
    (ends : (q : ℕ) (b : Builtin) → kind_of p.arithmetic q ≡ Some b → rows_of rows q ≡ stated_rows b) where
  rows_shape : (q : ℕ) (r : Rows) → slice_get rows q ≡ Some r → (r.width ≡ shape.arity_in p q) × AllByRecursion (shape.IsSizeRow (shape.arity_in p q)) r.list
  rows_shape q r e =
      let w = sizes.width q r e in
      let a = arity_is p q r.width w.0 in
      let plain : rows_of rows q ≡ plain_rows r.list = ap plain_or_none e in
      (a, rows_are (shape.arity_in p q) r.list (subst (λ (n : ℕ). HaveWidth n r.list) a w.1) (subst (λ (zs : List (List ℤ)). All (λ z. row_fits z ≡ true) zs) plain (fit q)))

  clause_there : (k : ℕ) (ms : List Multipliers) → slice_get proofs k ≡ Some ms → (c : Clause) × (slice_get p.clauses k ≡ Some c)
  clause_there k ms e = let l = place_below proofs k ms e in let n = proved_count expression (rows_of rows) p.clauses proofs proved in there p.clauses k (omega arith)

  proof_shape : (k : ℕ) (ms : List Multipliers) → slice_get proofs k ≡ Some ms → AreEach (shape.rows_of rows (shape.head_of p k)) (λ _. shape.HaveMultipliers (shape.rows_of_atoms rows (shape.body_of p k))) ms
  proof_shape k ms e =
      let c = clause_there k ms e in
      let is = proved_at expression (rows_of rows) p.clauses proofs proved k c.0 ms c.1 e in
      let body = short_system expression (rows_of rows) c.0.vars c.0.body in
      let over = row_over expression c.0.vars c.0.head.args in
      let head = sym (clause_head p k c.0 c.1) in
      let atoms = short_count expression rows c.0.vars c.0.body ∙ ap (shape.rows_of_atoms rows) (sym (clause_body p k c.0 c.1)) in
      are_each (shape.rows_of rows (shape.head_of p k)) (λ _. shape.HaveMultipliers (shape.rows_of_atoms rows (shape.body_of p k))) ms
      (shown_count body over (rows_of rows c.0.head.pred.0) ms is ∙ row_count_is rows c.0.head.pred.0 ∙ ap (shape.rows_of rows) head)
      (λ i m f. multipliers_of (length body) (shape.rows_of_atoms rows (shape.body_of p k)) m atoms (shown_numbers body over (rows_of rows c.0.head.pred.0) ms is i m f) (by_places AreMultipliersBelow ms (by_places (AllByRecursion AreMultipliersBelow) proofs below k ms e) i m f))

  keeps : (k : ℕ) (c : Clause) → slice_get p.clauses k ≡ Some c → RowsAreKept expression rows c (list_at proofs k)
  keeps k c e i row by er eb =
      let n = proved_count expression (rows_of rows) p.clauses proofs proved in
      let l = place_below p.clauses k c e in
      let ms = there proofs k (omega arith) in
      let is = proved_at expression (rows_of rows) p.clauses proofs proved k c ms.0 e ms.1 in
      let eb2 = subst (λ (z : List Multipliers). slice_get z i ≡ Some by) (at_of proofs k ms.0 ms.1) eb in
      (shown_at (short_system expression (rows_of rows) c.vars c.body) (row_over expression c.vars c.head.args) (rows_of rows c.head.pred.0) ms.0 is i row by er eb2).shown

  pub chain_sizes_hold : SizesHold expression p rows proofs
  chain_sizes_hold = record {
    shape = are_each (length p.preds) (λ q r. (r.width ≡ shape.arity_in p q) × AllByRecursion (shape.IsSizeRow (shape.arity_in p q)) r.list) rows sizes.each rows_shape;
    proofs_shape = are_each (length p.clauses) (λ k. AreEach (shape.rows_of rows (shape.head_of p k)) (λ _. shape.HaveMultipliers (shape.rows_of_atoms rows (shape.body_of p k)))) proofs
        (proved_count expression (rows_of rows) p.clauses proofs proved) proof_shape;
    stated = λ q b e. subst (λ (rs : List (List ℤ)). AllByRecursion (λ r. In r (stated_rows b)) rs) (sym (ends q b e)) (each_in (λ r. In r (stated_rows b)) (stated_rows b) (λ r h. h));
    hold = keeps;
  }
