-- Parts of the shape that a certificate's structure asks have what the tests of their numbers ask.
use Rattle.std.proofs.Common.{◌≡◌, ℕ, zero, suc, ◌+◌, ◌-◌, ◌<◌, ◌≤◌, ◌≤ℤ◌, ℤ, pos, Bool, true, false, IsTrue, ◌&&◌, inl, inr, List, [], ◌∷◌, All, take, length, slice_get, slice_index_or, unwrap_or, option_map, if◌then◌else◌, option_and_then, Option, None, Some, IfSome, IsSomeAnd, refl, sym, ap, subst, ◌∙◌, arith}
use Rattle.std.specs.List.{AllByRecursion}
use Rattle.std.proofs.lemmas.List.{length-map}
use Rattle.std.proofs.lemmas.List.Sums.{sum_by-cons}
use Rattle.std.proofs.lemmas.Option.{slice_get_cases, slice_get_within}
use Rattle.cti_terms.specs.Listing.{Listing, IsClause, IsProgram, numbered}
use Rattle.cti_terms.specs.declared.atom_list.Atom.{Atom}
use Rattle.cti_terms.specs.declared.clauses.Clause.{Clause}
use Rattle.cti_terms.specs.declared.predicates.Pred.{Pred}
use Rattle.call_components.proofs.Lists.{all_map}
use Rattle.call_components.specs.Partition.{AreComponents, IsIn, Partition}
use Rattle.certificate.specs.Range.{AreAmounts}
use Rattle.cert_structure.specs.Numbered.{AreEach, EachFrom}
use Rattle.cert_structure.specs.Shape as shape
use Rattle.number_tests.specs.declared.level_part.LevelPart.{LevelPart}
use Rattle.number_tests.specs.declared.pair_point.PairPoint.{PairPoint}
use Rattle.cert_structure.specs.declared.parts.Parts.{Parts}
use Rattle.linear_rows.specs.declared.point.Point.{Point}
use Rattle.linear_rows.specs.Plain.{HaveWidth, plain_row}
use Rattle.linear_rows.specs.declared.multipliers.Multipliers.{Multipliers}
use Rattle.linear_rows.specs.declared.row.Row.{Row}
use Rattle.linear_rows.specs.declared.row.Rows.{Rows}
use Rattle.termination_model.specs.sizes.Sizes.{AreSizes, plain_or_none, rows_of}
use Rattle.termination_model.proofs.Lists.{by_places, from_places, there}
use Rattle.number_tests.proofs.ColumnLengths.{an_element}
use Rattle.cert_checker.proofs.Partitions.{is_together_in}
use Rattle.number_tests.proofs.Sized.{some_below}
use Rattle.linear_rows.specs.Showing.{AreMultipliers}
use Rattle.number_tests.specs.Shape.{IsLevelPart, IsPairOf, list_at, row_count}
use Rattle.cert_checker.specs.Shape.{AreTogether, HaveFalls, HaveLevels, HaveRefutations, HaveRowProofs}

-- what each element has by its number
pub each_at : {X : Type 0} → (P : ℕ → X → Type 0) (i : ℕ) (xs : List X) → EachFrom i P xs → (k n : ℕ) (x : X) → n ≡ i + k → slice_get xs k ≡ Some x → P n x
each_at P i [] h k n x at e = cc
each_at P i (y ∷ xs) h zero n x at e = let same : y ≡ x = cc in let here : i ≡ n = omega (arith, at) in subst (P n) same (subst (λ (m : ℕ). P m y) here h.0)
each_at P i (y ∷ xs) h (suc k) n x at e = each_at P (suc i) xs h.1 k n x (omega (arith, at)) e

pub one_of : {X : Type 0} {n : ℕ} {P : ℕ → X → Type 0} (xs : List X) → AreEach n P xs → (k : ℕ) (x : X) → slice_get xs k ≡ Some x → P k x
one_of {P = P} xs are k x e = each_at P 0 xs are.each k k x (omega arith) e

pub each_in : {X : Type 0} {n : ℕ} {P : ℕ → X → Type 0} (Q : X → Type 0) → ((i : ℕ) (x : X) → P i x → Q x) → (xs : List X) → AreEach n P xs → AllByRecursion Q xs
each_in Q f xs are = from_places Q xs (λ i x e. f i x (one_of xs are i x e))

-- the list at a place
pub list_there : {X : Type 0} → (xss : List (List X)) (n k : ℕ) → length xss ≡ n → k < n → slice_get xss k ≡ Some (list_at xss k)
list_there xss n k same lt = there xss k [] (omega (arith, same, lt))

pub list_past : {X : Type 0} → (xss : List (List X)) (k : ℕ) → length xss ≤ k → list_at xss k ≡ []
list_past [] k le = refl
list_past (x ∷ xss) zero le = absurd (omega (arith, le))
list_past (x ∷ xss) (suc k) le = list_past xss k (omega (arith, le))

pub items_are : {X : Type 0} → (xss : List (List X)) (k : ℕ) → shape.items_of xss k ≡ list_at xss k
items_are [] k = refl
items_are (x ∷ xss) zero = refl
items_are (x ∷ xss) (suc k) = items_are xss k

-- rows are counted alike
plain_count : (o : Option Rows) → unwrap_or (option_map (λ (r : Rows). length r.list) o) 0 ≡ length (plain_or_none o)
plain_count None = refl
plain_count (Some r) = sym (length-map r.list plain_row)

pub row_counts : (rows : List Rows) (q : ℕ) → shape.rows_of rows q ≡ length (rows_of rows q)
row_counts rows q = plain_count (slice_get rows q)

pub atom_row_counts : (rows : List Rows) (bs : List Atom) → shape.rows_of_atoms rows bs ≡ row_count (rows_of rows) bs
atom_row_counts rows [] = refl
atom_row_counts rows (b ∷ bs) = omega (arith, sum_by-cons (λ (x : Atom). shape.rows_of rows x.pred.0) b bs, row_counts rows b.pred.0, atom_row_counts rows bs)

-- natural numbers
pub amounts_are : (xs : List ℤ) → AreAmounts xs → All (λ x. pos 0 ≤ℤ x) xs
amounts_are [] h k d lt = absurd (omega (arith, lt))
amounts_are (x ∷ xs) h zero d lt = h.0.0
amounts_are (x ∷ xs) h (suc k) d lt = amounts_are xs h.1 k d (omega (arith, lt))

widths_are : (m n : ℕ) → m ≡ n → (rows : List Row) → AllByRecursion (shape.IsSizeRow m) rows → HaveWidth n rows
widths_are m n same [] h k d lt = absurd (omega (arith, lt))
widths_are m n same (r ∷ rows) h zero d lt = h.0.0 ∙ same
widths_are m n same (r ∷ rows) h (suc k) d lt = widths_are m n same rows h.1 k d (omega (arith, lt))

pub multipliers_are : (m n : ℕ) → m ≡ n → (by : Multipliers) → shape.HaveMultipliers m by → AreMultipliers n by
multipliers_are m n same by (each, scale, list) = record { each = each ∙ same; naturals = amounts_are by.list list; scale = scale.0 }

pub level_is : (m n : ℕ) → m ≡ n → (l : LevelPart) → shape.IsLevel m l → IsLevelPart n l
level_is m n same l (each, coeffs, offset) = record { each = each ∙ same; naturals = amounts_are l.coeffs coeffs; offset = offset.0 }

pub some_is : {X : Type 0} → (P : X → Type 0) (o : Option X) (x : X) → o ≡ Some x → P x → IsSomeAnd o P
some_is P o x e h = subst (λ q. IsSomeAnd q P) (sym e) h

pub is_true : (b : Bool) → IsTrue b → b ≡ true
is_true b h = h

and_right : (b c : Bool) → IsTrue (b && c) → IsTrue c
and_right true c h = h
and_right false c h = cc

-- the element of a number that counts from 1
pub numbered_is : {X : Type 0} → (xs : List X) (n : ℕ) (x : X) → numbered xs n ≡ Some x → (1 ≤ n) × (slice_get xs (n - 1) ≡ Some x)
numbered_is xs zero x e = cc
numbered_is xs (suc i) x e = let same : i ≡ suc i - 1 = omega arith in (omega arith, subst (λ (k : ℕ). slice_get xs k ≡ Some x) same e)

module _ (p : Listing) where
  -- the arity of a predicate, the head and the body of a clause
  pub arity_at : (q : ℕ) (d : Pred) → slice_get p.preds q ≡ Some d → shape.arity_in p q ≡ d.arity
  arity_at q d e = ap (λ (o : Option Pred). unwrap_or (option_map (λ (x : Pred). x.arity) o) 0) e

  pub head_at : (k : ℕ) (c : Clause) → slice_get p.clauses k ≡ Some c → shape.head_of p k ≡ c.head.pred.0
  head_at k c e = ap (λ (o : Option Clause). unwrap_or (option_map (λ (x : Clause). x.head.pred.0) o) 0) e

  pub body_at : (k : ℕ) (c : Clause) → slice_get p.clauses k ≡ Some c → shape.body_of p k ≡ c.body
  body_at k c e = ap (λ (o : Option Clause). unwrap_or (option_map (λ (x : Clause). x.body) o) []) e

  -- size rows of each predicate, and a proof for each of a clause's head
  abbrev pub AreRowsOf : List Rows → Type 0
  AreRowsOf rows = AreEach (length p.preds) (λ a r. (r.width ≡ shape.arity_in p a) × AllByRecursion (shape.IsSizeRow (shape.arity_in p a)) r.list) rows

  abbrev pub AreProofsOf : List Rows → List (List Multipliers) → Type 0
  AreProofsOf rows proofs =
      AreEach (length p.clauses) (λ k. AreEach (shape.rows_of rows (shape.head_of p k)) (λ _. shape.HaveMultipliers (shape.rows_of_atoms rows (shape.body_of p k)))) proofs

  pub sizes_of : (rows : List Rows) → AreRowsOf rows → AreSizes p.preds rows
  sizes_of rows have = record {
    each = have.count;
    width = λ q r e.
        let (wide, own) = one_of rows have q r e in
        let (d, at) = an_element p.preds q (omega (arith, slice_get_within rows q r e, have.count)) in
        (some_is (λ (x : Pred). x.arity ≡ r.width) (slice_get p.preds q) d at (sym (wide ∙ arity_at q d at)), widths_are (shape.arity_in p q) r.width (sym wide) r.list own);
  }

  pub row_proofs_of : (parts : Parts) → AreProofsOf parts.rows parts.row_proofs → HaveRowProofs p parts
  row_proofs_of parts have = record {
    each = have.count;
    rows = λ k c e. (clause_proofs k c e).count ∙ ap (shape.rows_of parts.rows) (head_at k c e) ∙ row_counts parts.rows c.head.pred.0;
    multipliers = λ k c e.
        each_in (AreMultipliers (row_count (rows_of parts.rows) c.body))
        (λ i. multipliers_are (shape.rows_of_atoms parts.rows (shape.body_of p k)) (row_count (rows_of parts.rows) c.body) (ap (shape.rows_of_atoms parts.rows) (body_at k c e) ∙ atom_row_counts parts.rows c.body))
        (list_at parts.row_proofs k) (clause_proofs k c e);
  }
    where
      clause_proofs : (k : ℕ) (c : Clause) → slice_get p.clauses k ≡ Some c
          → AreEach (shape.rows_of parts.rows (shape.head_of p k)) (λ _. shape.HaveMultipliers (shape.rows_of_atoms parts.rows (shape.body_of p k))) (list_at parts.row_proofs k)
      clause_proofs k c e = one_of parts.row_proofs have k (list_at parts.row_proofs k) (list_there parts.row_proofs (length p.clauses) k have.count (slice_get_within p.clauses k c e))

  module _ (comps : Partition) (parts : Parts) (have : shape.HaveShape p comps parts) where
    pub are_sizes : AreSizes p.preds parts.rows
    are_sizes = sizes_of parts.rows have.rows

    pub have_row_proofs : HaveRowProofs p parts
    have_row_proofs = row_proofs_of parts have.row_proofs

    pub have_refutations : HaveRefutations p parts
    have_refutations = record {
      each = have.refutations.count;
      pairs = λ q r e. let (opens, some, ascend, all) = one_of parts.refutations have.refutations q (Some r) e in all_map (shape.IsPairPoint p comps q) (IsPairOf p) (pair_of q) r.points all;
    }
      where
        called : (a : ℕ) (o : Option Atom) → IsTrue (shape.is_own_call comps a o) → (b : Atom) × (o ≡ Some b)
        called a None h = cc
        called a (Some b) h = (b, refl)

        claused : (a call : ℕ) (o : Option Clause) → IsTrue (shape.is_own_clause comps a call o) → (c : Clause) × (o ≡ Some c) × IsTrue (shape.is_own_call comps a (numbered c.body call))
        claused a call None h = cc
        claused a call (Some c) h = (c, refl, and_right (shape.is_together comps a c.head.pred.0) (shape.is_own_call comps a (numbered c.body call)) h)

        second : (m n : ℕ) → m ≡ n → (t : ℤ) (o : Option Point) → shape.HasSecond m t o → IfSome o (λ (y : Point). length y.w ≡ n)
        second m n same t None h = tt
        second m n same t (Some y) h = h.1.0 ∙ same

        pair_of : (a : ℕ) (x : PairPoint) → shape.IsPairPoint p comps a x → IsPairOf p x
        pair_of a x is =
            let (c, ec, own) = claused a x.call (numbered p.clauses x.clause) is.pair in
            let (b, eb) = called a (numbered c.body x.call) own in
            let (first, at) = numbered_is p.clauses x.clause c ec in
            let (call, place) = numbered_is c.body x.call b eb in
            let vars : shape.vars_of (numbered p.clauses x.clause) ≡ c.vars = ap shape.vars_of ec in
            record {
              clause = c;
              there = at;
              first = first;
              call = call;
              last = omega (arith, call, slice_get_within c.body (x.call - 1) b place);
              point = is.point.0 ∙ vars;
              at = second (shape.vars_of (numbered p.clauses x.clause)) c.vars vars x.point.t x.at is.second;
            }

    module _ (are : AreComponents p comps) where
      -- predicates of one component have as many mappings
      first_at : (c x : ℕ) → IsIn comps c x → shape.first_of comps x ≡ slice_index_or (list_at comps.members c) 0 0
      first_at c x h =
          let ms = list_at comps.members c in
          let em : slice_get comps.members c ≡ Some ms = list_there comps.members (length comps.members) c refl (are.within c x h) in
          ap (λ (o : Option ℕ). unwrap_or (option_and_then (λ (ns : List ℕ). slice_get ns 0) (option_and_then (slice_get comps.members) o)) x) h
          ∙ ap (λ (o : Option (List ℕ)). unwrap_or (option_and_then (λ (ns : List ℕ). slice_get ns 0) o) x) em
          ∙ ap (λ (o : Option ℕ). unwrap_or o x) (there ms 0 0 (are.ascending c ms em).1)

      mappings_at : (c x y : ℕ) → IsIn comps c x → IsIn comps c y → shape.mappings_of comps parts.levels x ≡ shape.mappings_of comps parts.levels y
      mappings_at c x y hx hy =
          let answer : shape.is_recursive comps x ≡ shape.is_recursive comps y = ap (λ (o : Option ℕ). unwrap_or (option_and_then (slice_get comps.recursive) o) false) (hx ∙ sym hy) in
          let first = first_at c x hx ∙ sym (first_at c y hy) in
          λ i. if answer i then length (shape.items_of parts.levels (first i)) else 1

      level_count : (q : ℕ) → q < length p.preds → length (list_at parts.levels q) ≡ shape.mappings_of comps parts.levels q
      level_count q lt = (one_of parts.levels have.levels q (list_at parts.levels q) (list_there parts.levels (length p.preds) q have.levels.count lt)).0

      pub have_levels : HaveLevels p comps parts
      have_levels = record {
        each = have.levels.count;
        naturals = λ q d e.
            all_map (shape.IsLevel (shape.arity_in p q)) (IsLevelPart d.arity) (level_is (shape.arity_in p q) d.arity (arity_at q d e)) (list_at parts.levels q)
            (one_of parts.levels have.levels q (list_at parts.levels q) (list_there parts.levels (length p.preds) q have.levels.count (slice_get_within p.preds q d e))).1;
        members = members;
      }
        where
          within : (c x : ℕ) → IsIn comps c x → x < length p.preds
          within c x h = omega (arith, slice_get_within comps.of x c h, are.each)

          past : (x : ℕ) → slice_get comps.of x ≡ None → length parts.levels ≤ x
          past x none =
              elim (slice_get_cases comps.of x).1 [
                | inl (c, lt, e, is) ↦ absurd (let no : Some c ≡ None = sym e ∙ none in cc)
                | inr (le, e) ↦ omega (arith, le, are.each, have.levels.count)
              ]

          members : (x y : ℕ) → AreTogether comps x y → length (list_at parts.levels x) ≡ length (list_at parts.levels y)
          members x y h =
              elim (slice_get_cases comps.of x).1 [
                | inl (c, lt, e, is) ↦ (let ey : IsIn comps c y = sym h ∙ e in level_count x (within c x e) ∙ mappings_at c x y e ey ∙ sym (level_count y (within c y ey)))
                | inr (le, e) ↦ ap length (list_past parts.levels x (past x e) ∙ sym (list_past parts.levels y (past y (sym h ∙ e))))
              ]

      module _ (prog : IsProgram p) where
        clause_falls : (k : ℕ) (c : Clause) → slice_get p.clauses k ≡ Some c
            → AreEach (length (shape.body_of p k)) (λ j. AreEach (shape.proofs_of_call comps parts.levels (shape.head_of p k) (slice_get (shape.body_of p k) j)) (λ _. shape.HaveMultipliers (shape.rows_of_atoms parts.rows (take j (shape.body_of p k))))) (list_at parts.falls k)
        clause_falls k c e = one_of parts.falls have.falls k (list_at parts.falls k) (list_there parts.falls (length p.clauses) k have.falls.count (slice_get_within p.clauses k c e))

        call_falls : (k j : ℕ) (c : Clause) (b : Atom) → slice_get p.clauses k ≡ Some c → slice_get c.body j ≡ Some b
            → AreEach (shape.proofs_of_call comps parts.levels c.head.pred.0 (Some b)) (λ _. shape.HaveMultipliers (shape.rows_of_atoms parts.rows (take j c.body))) (list_at (list_at parts.falls k) j)
        call_falls k j c b e ej =
            let bs = body_at k c e in
            let inner = clause_falls k c e in
            let each = one_of (list_at parts.falls k) inner j (list_at (list_at parts.falls k) j)
            (list_there (list_at parts.falls k) (length c.body) j (inner.count ∙ ap length bs) (slice_get_within c.body j b ej)) in
            let head = subst (λ (h : ℕ). AreEach (shape.proofs_of_call comps parts.levels h (slice_get (shape.body_of p k) j)) (λ _. shape.HaveMultipliers (shape.rows_of_atoms parts.rows (take j (shape.body_of p k)))) (list_at (list_at parts.falls k) j)) (head_at k c e) each in
            let body = subst (λ (s : List Atom). AreEach (shape.proofs_of_call comps parts.levels c.head.pred.0 (slice_get s j)) (λ _. shape.HaveMultipliers (shape.rows_of_atoms parts.rows (take j s))) (list_at (list_at parts.falls k) j)) bs head in
            subst (λ (o : Option Atom). AreEach (shape.proofs_of_call comps parts.levels c.head.pred.0 o) (λ _. shape.HaveMultipliers (shape.rows_of_atoms parts.rows (take j c.body))) (list_at (list_at parts.falls k) j)) ej body

        together_is_true : (k j : ℕ) (c : Clause) (b : Atom) → slice_get p.clauses k ≡ Some c → AreTogether comps c.head.pred.0 b.pred.0 → shape.is_together comps c.head.pred.0 b.pred.0 ≡ true
        together_is_true k j c b e h =
            let head = (by_places (IsClause p.preds) p.clauses prog.clauses k c e).head in
            let (r, er) = an_element comps.of c.head.pred.0 (omega (arith, are.each, some_below (λ (d : Pred). d.arity ≡ length c.head.args) p.preds c.head.pred.0 head.arity)) in
            is_true (shape.is_together comps c.head.pred.0 b.pred.0) (is_together_in comps c.head.pred.0 b.pred.0 r er (sym h ∙ er))

        pub have_falls : HaveFalls p comps parts
        have_falls = record {
          each = have.falls.count;
          calls = λ k c e. (clause_falls k c e).count ∙ ap length (body_at k c e);
          mappings = λ k j c b e ej together.
              (call_falls k j c b e ej).count
              ∙ ap (λ (t : Bool). if t then length (shape.items_of parts.levels c.head.pred.0) else 0) (together_is_true k j c b e together)
              ∙ ap length (items_are parts.levels c.head.pred.0);
          multipliers = λ k j c b e ej together.
              each_in (AreMultipliers (row_count (rows_of parts.rows) (take j c.body)))
              (λ i. multipliers_are (shape.rows_of_atoms parts.rows (take j c.body)) (row_count (rows_of parts.rows) (take j c.body)) (atom_row_counts parts.rows (take j c.body)))
              (list_at (list_at parts.falls k) j) (call_falls k j c b e ej);
        }
