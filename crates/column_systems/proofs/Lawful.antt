-- Systems over columns are systems of a program.
use Rattle.std.proofs.Common.{◌≡◌, ℕ, zero, suc, ◌+◌, ◌*◌, ◌≤◌, ◌<◌, ℤ, pos, ◌≤ℤ◌, Bool, true, IsTrue, List, [], ◌∷◌, ◌++◌, map, take, drop, length, slice_get, Option, None, Some, refl, ap, sym, subst, ◌∙◌, arith}
use Rattle.std.specs.Prelude.{IsSomeAnd, slice_index_or, sum}
use Rattle.std.specs.List.{AllByRecursion}
use Rattle.std.proofs.lemmas.Int.{ints}
use Rattle.std.proofs.lemmas.List.{length-drop, length-map, take-append-drop}
use Rattle.std.proofs.lemmas.List.Sums.{sum_by-cons}
use Rattle.cti_terms.specs.Listing.{IsAtom, IsClause, IsProgram, Listing}
use Rattle.cti_terms.specs.Tree.{Tree, is_below}
use Rattle.cti_terms.specs.declared.atom_list.Atom.{Atom}
use Rattle.cti_terms.specs.declared.clauses.Clause.{Clause}
use Rattle.cti_terms.specs.declared.predicates.Pred.{Pred}
use Rattle.exact128.specs.Sums.{dot}
use Rattle.linear_rows.specs.Replacing.{row_fits}
use Rattle.number_columns.proofs.ArgumentLaws.{length_columns}
use Rattle.linear_rows.specs.declared.row.Row.{Row}
use Rattle.number_columns.specs.ColumnLists.{HaveKinds, counts_at, kinds_at, plain_column, plain_columns}
use Rattle.number_columns.specs.declared.kind.Kind.{Kind}
use Rattle.number_columns.specs.declared.kind.Kind.TheVariants.{Number, Size}
use Rattle.size_chains.proofs.Naturals.{whole_natural}
use Rattle.size_chains.specs.Systems.{AreColumnsOf, AreSystems, IsHeadColumn}
use Rattle.termination_model.proofs.ChainSieves.{all_of, of_all}
use Rattle.termination_model.proofs.Lists.{by_places}
use Rattle.termination_model.specs.columns.Columns.{AreColumns, Columns, Valuation, columns_of, counted, numbers, numbers_from}
use Rattle.column_systems.specs.ColumnSystems.{AreFew, AreNumbers, column_systems}

-- ---- each list of naturals is that of a valuation
abbrev of_list : ℕ → List ℕ → Valuation
of_list width w zero m = slice_index_or w m 0
of_list width w (suc x) m = of_list width (drop width w) x m

take_step : (w : List ℕ) (i k : ℕ) → i < length w → slice_index_or w i 0 ∷ take k (drop (suc i) w) ≡ take (suc k) (drop i w)
take_step [] i k l = absurd (omega arith)
take_step (x ∷ w) zero k l = refl
take_step (x ∷ w) (suc i) k l = take_step w i k (omega (arith, l))

counted_same : (i k : ℕ) (w : List ℕ) → i + k ≤ length w → counted i k (λ m. slice_index_or w m 0) ≡ take k (drop i w)
counted_same i zero w l = refl
counted_same i (suc k) w l = ap (λ (xs : List ℕ). slice_index_or w i 0 ∷ xs) (counted_same (suc i) k w (omega (arith, l))) ∙ take_step w i k (omega (arith, l))

numbers_after : (width x n : ℕ) (s : Valuation) → numbers_from width (suc x) n s ≡ numbers_from width x n (λ y. s (suc y))
numbers_after width x zero s = refl
numbers_after width x (suc n) s = ap (λ (xs : List ℕ). counted 0 width (s (suc x)) ++ xs) (numbers_after width (suc x) n s)

numbers_listed : (width n : ℕ) (w : List ℕ) → length w ≡ n * width → numbers width n (of_list width w) ≡ w
numbers_listed width zero [] l = refl
numbers_listed width zero (x ∷ w) l = absurd (omega (arith, l))
numbers_listed width (suc n) w l =
    let e = length-drop width w in
    let first : counted 0 width (λ m. slice_index_or w m 0) ≡ take width w = counted_same 0 width w (omega (arith, l)) in
    let rest : numbers_from width 1 n (of_list width w) ≡ drop width w = numbers_after width 0 n (of_list width w) ∙ numbers_listed width n (drop width w) (omega (arith, l, e)) in
    (λ i. first i ++ rest i) ∙ take-append-drop width w

-- ---- the columns of a head
module _ (truth : (ℕ → Bool) → Tree → Bool) (m : Columns) (p : Listing) (are : AreColumns p.arithmetic.names truth m) (vars : ℕ) where
  -- a column is a measure at each valuation, and so its numbers are natural
  is_column : (t : Tree) → IsTrue (is_below vars t) → (j : ℕ) (e : List ℤ) → m.expression vars t j ≡ Some e → IsHeadColumn (vars * m.width) (Some e)
  is_column t below j e is =
      let expression = are.expressions vars t j e is in (
        expression.0,
        whole_natural e (vars * m.width) expression.0 (λ w l.
            let same = numbers_listed m.width vars w l in
            let value = expression.1 below (of_list m.width w) in
            subst (λ (z : ℤ). pos 0 ≤ℤ z) (sym (ap (λ (ws : List ℕ). dot e (pos 1 ∷ map pos ws)) (sym same) ∙ value)) (omega (arith, ints))),
      )

  counted_columns : (t : Tree) → IsTrue (is_below vars t) → (i k : ℕ) → AllByRecursion (IsHeadColumn (vars * m.width)) (counted i k (m.expression vars t))
  counted_columns t below i zero = tt
  counted_columns t below i (suc k) = (one (m.expression vars t i) refl, counted_columns t below (suc i) k)
    where
      one : (e : Option (List ℤ)) → m.expression vars t i ≡ e → IsHeadColumn (vars * m.width) e
      one None is = tt
      one (Some e) is = is_column t below i e is

  all_append : (es fs : List (Option (List ℤ))) → AllByRecursion (IsHeadColumn (vars * m.width)) es → AllByRecursion (IsHeadColumn (vars * m.width)) fs → AllByRecursion (IsHeadColumn (vars * m.width)) (es ++ fs)
  all_append [] fs h k = k
  all_append (e ∷ es) fs h k = (h.0, all_append es fs h.1 k)

  head_columns : (ks : List ℕ) (ts : List Tree) → AllByRecursion (λ t. IsTrue (is_below vars t)) ts → AllByRecursion (IsHeadColumn (vars * m.width)) (columns_of ks (map (m.expression vars) ts))
  head_columns [] ts below = tt
  head_columns (k ∷ ks) [] below = tt
  head_columns (k ∷ ks) (t ∷ ts) below = all_append (counted 0 k (m.expression vars t)) (columns_of ks (map (m.expression vars) ts)) (counted_columns t below.0 0 k) (head_columns ks ts below.1)

-- ---- how many there are
length_counted : {X : Type 0} → (i k : ℕ) (u : ℕ → X) → length (counted i k u) ≡ k
length_counted i zero u = refl
length_counted i (suc k) u = ap suc (length_counted (suc i) k u)

pub count_is : (old new : List (Option Row)) (n : ℕ) (u : ℕ → Option (List ℤ)) → old ≡ [] → plain_columns new ≡ plain_columns old ++ counted 0 n u → length new ≡ n
count_is old new n u none more = sym (length-map new plain_column) ∙ ap length (more ∙ ap (λ (xs : List (Option Row)). plain_columns xs ++ counted 0 n u) none) ∙ length_counted 0 n u

kind_few : (m : Columns) (count : Kind → ℕ) → AreFew m count → (k : Kind) → count k ≤ 3
kind_few m count few Size = few.size
kind_few m count few Number = few.number

pub sum_few : (count : Kind → ℕ) → ((k : Kind) → count k ≤ 3) → (ks : List Kind) → sum (map count ks) ≤ 3 * length ks
sum_few count few [] = omega arith
sum_few count few (k ∷ ks) = let rest = sum_few count few ks in let here = few k in let all = sum_by-cons (λ x. x) (count k) (map count ks) in omega (arith, rest, here, all)

product_few : (v w : ℕ) → v ≤ 48 → w ≤ 3 → v * w ≤ 144
product_few v zero h k = omega arith
product_few v (suc zero) h k = omega (arith, h)
product_few v (suc (suc zero)) h k = omega (arith, h)
product_few v (suc (suc (suc zero))) h k = omega (arith, h)
product_few v (suc (suc (suc (suc w)))) h k = absurd (omega (arith, k))

an_item : {X : Type 0} → (xs : List X) (i : ℕ) → i < length xs → (x : X) × (slice_get xs i ≡ Some x)
an_item [] i lt = absurd (omega (arith, lt))
an_item (x ∷ xs) zero lt = (x, refl)
an_item (x ∷ xs) (suc i) lt = an_item xs i (omega (arith, lt))

item_or : {X : Type 0} → (xs : List X) (i : ℕ) (d x : X) → slice_get xs i ≡ Some x → slice_index_or xs i d ≡ x
item_or [] i d x at = cc
item_or (y ∷ ys) zero d x at = cc
item_or (y ∷ ys) (suc i) d x at = item_or ys i d x at

known : {X : Type 0} → (xs : List X) (i : ℕ) (P : X → Type 0) → IsSomeAnd (slice_get xs i) P → i < length xs
known [] i P h = absurd h
known (x ∷ xs) zero P h = omega arith
known (x ∷ xs) (suc i) P h = let rest = known xs i P h in omega (arith, rest)

module _ (p : Listing) (prog : IsProgram p) (count : Kind → ℕ) (kinds : List (List Kind)) (have : HaveKinds p.preds kinds) where
  pub count_of_atom : (vars : ℕ) (a : Atom) → IsAtom p.preds vars a → length (counts_at count kinds a.pred.0) ≡ length a.args
  count_of_atom vars a is = length-map (kinds_at kinds a.pred.0) count ∙ go (slice_get p.preds a.pred.0) refl is.arity
    where
      go : (o : Option Pred) → slice_get p.preds a.pred.0 ≡ o → IsSomeAnd o (λ d. d.arity ≡ length a.args) → length (kinds_at kinds a.pred.0) ≡ length a.args
      go None e h = absurd h
      go (Some d) e h = have.arity a.pred.0 d e ∙ h

  pub few_kinds : (q : ℕ) → q < length p.preds → length (kinds_at kinds q) ≤ 12
  few_kinds q lt =
      let (d, e) = an_item p.preds q lt in
      let most = by_places (λ (x : Pred). x.arity ≤ 12) p.preds prog.arities q d e in
      let same = have.arity q d e in
      omega (arith, most, same)

  -- a predicate's kinds, as they are listed
  pub listed_kinds : (q : ℕ) (all : List (List Kind)) (ks ls : List Kind) → all ≡ kinds → slice_get all q ≡ Some ks → ls ≡ ks → kinds_at kinds q ≡ ls
  listed_kinds q all ks ls same at is = item_or kinds q [] ks (sym (ap (λ (xs : List (List Kind)). slice_get xs q) same) ∙ at) ∙ sym is

  module _ (truth : (ℕ → Bool) → Tree → Bool) (m : Columns) (are : AreColumns p.arithmetic.names truth m) (width : m.width ≤ 3) (numbers_are : AreNumbers p kinds) (few : AreFew m count) where
    clause_columns : (k : Clause) → IsClause p.preds k → AreColumnsOf (column_systems m (counts_at count kinds)) k
    clause_columns k is =
        let ks = counts_at count kinds k.head.pred.0 in
        let each = length_columns ks (map (m.expression k.vars) k.head.args) (count_of_atom k.vars k.head is.head ∙ sym (length-map k.head.args (m.expression k.vars))) in
        let sums = sum_few count (kind_few m count few) (kinds_at kinds k.head.pred.0) in
        let arguments = few_kinds k.head.pred.0 (known p.preds k.head.pred.0 (λ d. d.arity ≡ length k.head.args) is.head.arity) in
        let vars = product_few k.vars m.width is.few width in
        record {
          each = sym each;
          expressions = head_columns truth m p are k.vars ks k.head.args is.head.below;
          few = omega (arith, each, sums, arguments, vars);
        }

    pub columns_are_systems : AreSystems p (column_systems m (counts_at count kinds))
    columns_are_systems = record {
      clauses = all_of (AreColumnsOf (column_systems m (counts_at count kinds))) p.clauses (λ k i. clause_columns k (of_all (IsClause p.preds) p.clauses k prog.clauses i));
      stated = λ q b is.
          let same : sum (counts_at count kinds q) ≡ count Number + count Number =
          ap (λ (ks : List Kind). sum (map count ks)) (numbers_are q b is) ∙ sum_by-cons (λ x. x) (count Number) (count Number ∷ []) ∙ ap (λ (x : ℕ). count Number + x) (sum_by-cons (λ x. x) (count Number) [] ∙ omega arith) in
          subst (λ (n : ℕ). AllByRecursion (λ (r : List ℤ). (length r ≡ suc n) × (row_fits r ≡ true)) (m.stated b)) (sym same) (few.stated b);
    }
