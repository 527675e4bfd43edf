-- Parts of the shape that a certificate's structure asks have what the tests of them ask.
use Rattle.std.proofs.Common.{◌≡◌, ℕ, zero, suc, ◌-◌, ◌<◌, ◌≤◌, ℤ, Bool, true, false, IsTrue, inl, inr, List, [], ◌∷◌, map, take, length, slice_get, slice_index_or, unwrap_or, if◌then◌else◌, option_and_then, Option, None, Some, IfSome, refl, sym, ap, subst, ◌∙◌, arith}
use Rattle.std.specs.List.{AllByRecursion}
use Rattle.std.proofs.lemmas.List.{length-map}
use Rattle.std.proofs.lemmas.Option.{slice_get_cases, slice_get_within}
use Rattle.call_components.proofs.Lists.{all_map}
use Rattle.call_components.specs.Partition.{AreComponents, IsIn, Partition}
use Rattle.cert_checker.proofs.NoMapping.{call_in, clause_in}
use Rattle.cert_checker.proofs.Partitions.{is_together_in}
use Rattle.cert_checker.proofs.ShapeLaws.{arity_at, atom_row_counts, body_at, head_at, items_are, level_is, list_past, list_there, multipliers_are, numbered_is, one_of, row_proofs_of, sizes_of}
use Rattle.cert_checker.specs.Shape.{AreTogether, HaveRefutations, HaveRowProofs}
use Rattle.cert_modes.specs.Shaped.{HaveSets, IsWide}
use Rattle.cert_structure.specs.Numbered as old
use Rattle.cert_structure.specs.Shape as shape
use Rattle.cti_terms.specs.Listing.{Listing, IsClause, IsProgram, numbered}
use Rattle.cti_terms.specs.declared.atom_list.Atom.{Atom}
use Rattle.cti_terms.specs.declared.clauses.Clause.{Clause}
use Rattle.cti_terms.specs.declared.predicates.Pred.{Pred}
use Rattle.fact_reading.specs.Numbered.{AreEach, EachFrom}
use Rattle.lex_certificate.specs.Flat.{flat, union_part, united, united_coefficients}
use Rattle.lex_certificate.specs.Shape.{ArePlaces, HaveShape, IsPlace, IsStuckPoint, lengths_of, lists_of_call}
use Rattle.lex_certificate.specs.declared.parts.LexParts.{LexParts}
use Rattle.linear_rows.specs.Showing.{AreMultipliers}
use Rattle.linear_rows.specs.declared.multipliers.Multipliers.{Multipliers}
use Rattle.linear_rows.specs.declared.point.Point.{Point}
use Rattle.number_tests.proofs.ColumnLengths.{an_element}
use Rattle.number_tests.proofs.Sized.{some_below}
use Rattle.number_tests.specs.Shape.{IsLevelPart, IsPairOf, list_at, row_count}
use Rattle.number_tests.specs.declared.level_part.LevelPart.{LevelPart}
use Rattle.number_tests.specs.declared.pair_point.PairPoint.{PairPoint}
use Rattle.termination_model.proofs.Lists.{by_places, there}
use Rattle.termination_model.specs.sizes.Sizes.{AreSizes, rows_of}
use Rattle.lex_checker.specs.Shape.{CanBeTested, HaveDrops, HaveLists, HavePlace}

-- what each item has by its number, in the words of `cert_structure`
each_from : {A : Type 0} (P Q : ℕ → A → Type 0) → ((i : ℕ) (x : A) → P i x → Q i x) → (i : ℕ) (xs : List A) → EachFrom i P xs → old.EachFrom i Q xs
each_from P Q h i [] k = tt
each_from P Q h i (x ∷ xs) k = (h i x k.0, each_from P Q h (suc i) xs k.1)

in_turn : {A : Type 0} {n : ℕ} {P : ℕ → A → Type 0} (Q : ℕ → A → Type 0) → ((i : ℕ) (x : A) → P i x → Q i x) → (xs : List A) → AreEach n P xs → old.AreEach n Q xs
in_turn {P = P} Q h xs are = record { count = are.count; each = each_from P Q h 0 xs are.each }

same_each : {A : Type 0} {n : ℕ} {P : ℕ → A → Type 0} (xs : List A) → AreEach n P xs → old.AreEach n P xs
same_each {P = P} xs are = in_turn P (λ i x h. h) xs are

pub has : {A : Type 0} {n : ℕ} {P : ℕ → A → Type 0} (xs : List A) → AreEach n P xs → (k : ℕ) (x : A) → slice_get xs k ≡ Some x → P k x
has xs are k x e = one_of xs (same_each xs are) k x e

-- the item at a place
has_list : {A : Type 0} {n : ℕ} {P : ℕ → List A → Type 0} (xss : List (List A)) → AreEach n P xss → (k : ℕ) → k < n → P k (list_at xss k)
has_list {n = n} xss are k lt = has xss are k (list_at xss k) (list_there xss n k are.count lt)

-- a union of measures of this many coefficients has as many
wide_united : (n : ℕ) (xs ys : List ℤ) → length xs ≡ n → length ys ≡ n → length (united xs ys) ≡ n
wide_united n [] ys h k = k
wide_united n (x ∷ xs) [] h k = h
wide_united n (x ∷ xs) (y ∷ ys) h k = ap suc (wide_united (n - 1) xs ys (omega (arith, h)) (omega (arith, k))) ∙ omega (arith, h)

wide_union : (n : ℕ) (ls : List LevelPart) → 1 ≤ length ls → AllByRecursion (shape.IsLevel n) ls → IsWide n (union_part ls)
wide_union n [] some h = absurd (omega (arith, some))
wide_union n (l ∷ []) some h = wide_one l.coeffs ∙ h.0.0
  where
    wide_one : (xs : List ℤ) → length (united xs []) ≡ length xs
    wide_one [] = refl
    wide_one (x ∷ xs) = refl
wide_union n (l ∷ (k ∷ ls)) some h = wide_united n l.coeffs (united_coefficients (k ∷ ls)) h.0.0 (wide_union n (k ∷ ls) (omega arith) h.1)

wide_unions : (n : ℕ) (own : List (List LevelPart)) (lengths : List ℕ) → map length own ≡ lengths → AllByRecursion (λ (k : ℕ). 1 ≤ k) lengths
    → AllByRecursion (AllByRecursion (shape.IsLevel n)) own → AllByRecursion (IsWide n) (map union_part own)
wide_unions n [] lengths e some h = tt
wide_unions n (ls ∷ own) [] e some h = cc
wide_unions n (ls ∷ own) (k ∷ lengths) e some h =
    let first : length ls ≡ k = cc in
    let rest : map length own ≡ lengths = cc in
    (wide_union n ls (omega (arith, first, some.0)) h.0, wide_unions n own lengths rest some.1 h.1)

each_mapped : {A B : Type 0} (f : A → B) (P : ℕ → A → Type 0) (Q : ℕ → B → Type 0) → ((i : ℕ) (x : A) → P i x → Q i (f x)) → (i : ℕ) (xs : List A) → EachFrom i P xs → old.EachFrom i Q (map f xs)
each_mapped f P Q h i [] k = tt
each_mapped f P Q h i (x ∷ xs) k = (h i x k.0, each_mapped f P Q h (suc i) xs k.1)

union_count : (lists : List (List (List LevelPart))) (a : ℕ) → length (shape.items_of (map (map union_part) lists) a) ≡ length (shape.items_of lists a)
union_count [] a = refl
union_count (own ∷ lists) zero = length-map own union_part
union_count (own ∷ lists) (suc a) = union_count lists a

-- the lengths of lists at a place
pub length_at : (xss yss : List (List LevelPart)) (m : ℕ) → map length xss ≡ map length yss → length (list_at xss m) ≡ length (list_at yss m)
length_at [] [] m e = refl
length_at [] (ys ∷ yss) m e = cc
length_at (xs ∷ xss) [] m e = cc
length_at (xs ∷ xss) (ys ∷ yss) zero e = cc
length_at (xs ∷ xss) (ys ∷ yss) (suc m) e = length_at xss yss m (let rest : map length xss ≡ map length yss = cc in rest)

module _ (p : Listing) (comps : Partition) (parts : LexParts) (have : HaveShape p comps parts) where
  pub are_sizes : AreSizes p.preds parts.rows
  are_sizes = sizes_of p parts.rows (same_each parts.rows have.rows)

  pub have_row_proofs : HaveRowProofs p (flat parts)
  have_row_proofs =
      row_proofs_of p (flat parts) (in_turn (λ k. old.AreEach (shape.rows_of parts.rows (shape.head_of p k)) (λ _. shape.HaveMultipliers (shape.rows_of_atoms parts.rows (shape.body_of p k))))
      (λ k ms are. same_each ms are) parts.row_proofs have.row_proofs)

  pub have_sets : HaveSets p (flat parts)
  have_sets = record {
    modes = have.modes.count;
    grounds = same_each parts.grounds have.grounds;
    levels = record {
      count = length-map parts.lists (map union_part) ∙ have.lists.count;
      each = each_mapped (map union_part) _ (λ a. AllByRecursion (IsWide (shape.arity_in p a)))
          (λ a own are. wide_unions (shape.arity_in p a) own (lengths_of comps parts.lists a) are.each are.some are.levels) 0 parts.lists have.lists.each;
    };
    preconditions = in_turn (λ a. old.AreEach (length (shape.items_of (map (map union_part) parts.lists) a)) (λ _. AllByRecursion (shape.HasWidth (shape.arity_in p a))))
        (λ a cs are. subst (λ (n : ℕ). old.AreEach n (λ _. AllByRecursion (shape.HasWidth (shape.arity_in p a))) cs) (sym (union_count parts.lists a)) (same_each cs are)) parts.preconditions have.preconditions;
  }

  stuck_pair : (q : ℕ) (x : PairPoint) → IsStuckPoint p comps q x → IsPairOf p x
  stuck_pair q x is =
      let (c, ec, head, own) = clause_in p comps q x.call (numbered p.clauses x.clause) is.pair in
      let (b, eb, call_together) = call_in p comps q (numbered c.body x.call) own in
      let (first, at) = numbered_is p.clauses x.clause c ec in
      let (call, place) = numbered_is c.body x.call b eb in
      let vars : shape.vars_of (numbered p.clauses x.clause) ≡ c.vars = ap shape.vars_of ec in
      record {
        clause = c;
        there = at;
        first = first;
        call = call;
        last = omega (arith, call, slice_get_within c.body (x.call - 1) b place);
        point = is.point.0 ∙ vars;
        at = subst (λ (o : Option Point). IfSome o (λ (y : Point). length y.w ≡ c.vars)) (sym is.single) tt;
      }

  pub have_stuck : HaveRefutations p (flat parts)
  have_stuck = record {
    each = have.stuck.count;
    pairs = λ q r e. let (opens, some, ascend, all) = has parts.stuck have.stuck q (Some r) e in all_map (IsStuckPoint p comps q) (IsPairOf p) (stuck_pair q) r.points all;
  }

  pub can_be_tested : CanBeTested p (flat parts)
  can_be_tested = record { sizes = are_sizes; row_proofs = have_row_proofs; refutations = have_stuck; sets = have_sets }

  module _ (are : AreComponents p comps) where
    -- the lists of a component are as long for each member
    first_at : (c x : ℕ) → IsIn comps c x → shape.first_of comps x ≡ slice_index_or (list_at comps.members c) 0 0
    first_at c x h =
        let ms = list_at comps.members c in
        let em : slice_get comps.members c ≡ Some ms = list_there comps.members (length comps.members) c refl (are.within c x h) in
        ap (λ (o : Option ℕ). unwrap_or (option_and_then (λ (ns : List ℕ). slice_get ns 0) (option_and_then (slice_get comps.members) o)) x) h
        ∙ ap (λ (o : Option (List ℕ)). unwrap_or (option_and_then (λ (ns : List ℕ). slice_get ns 0) o) x) em
        ∙ ap (λ (o : Option ℕ). unwrap_or o x) (there ms 0 0 (are.ascending c ms em).1)

    lengths_at : (c x y : ℕ) → IsIn comps c x → IsIn comps c y → lengths_of comps parts.lists x ≡ lengths_of comps parts.lists y
    lengths_at c x y hx hy =
        let answer : shape.is_recursive comps x ≡ shape.is_recursive comps y = ap (λ (o : Option ℕ). unwrap_or (option_and_then (slice_get comps.recursive) o) false) (hx ∙ sym hy) in
        let first = first_at c x hx ∙ sym (first_at c y hy) in
        λ i. if answer i then map length (shape.items_of parts.lists (first i)) else 1 ∷ []

    lengths_here : (q : ℕ) → q < length p.preds → map length (list_at parts.lists q) ≡ lengths_of comps parts.lists q
    lengths_here q lt = (has_list parts.lists have.lists q lt).each

    pub have_lists : HaveLists p comps parts
    have_lists = record {
      each = have.lists.count;
      naturals = λ q d e.
          all_map (AllByRecursion (shape.IsLevel (shape.arity_in p q))) (AllByRecursion (IsLevelPart d.arity))
          (λ ls a. all_map (shape.IsLevel (shape.arity_in p q)) (IsLevelPart d.arity) (level_is (shape.arity_in p q) d.arity (arity_at p q d e)) ls a) (list_at parts.lists q)
          (has_list parts.lists have.lists q (slice_get_within p.preds q d e)).levels;
      members = members;
    }
      where
        within : (c x : ℕ) → IsIn comps c x → x < length p.preds
        within c x h = omega (arith, slice_get_within comps.of x c h, are.each)

        past : (x : ℕ) → slice_get comps.of x ≡ None → length parts.lists ≤ x
        past x none =
            elim (slice_get_cases comps.of x).1 [
              | inl (c, lt, e, is) ↦ absurd (let no : Some c ≡ None = sym e ∙ none in cc)
              | inr (le, e) ↦ omega (arith, le, are.each, have.lists.count)
            ]

        members : (x y : ℕ) → AreTogether comps x y → map length (list_at parts.lists x) ≡ map length (list_at parts.lists y)
        members x y h =
            elim (slice_get_cases comps.of x).1 [
              | inl (c, lt, e, is) ↦ (let ey : IsIn comps c y = sym h ∙ e in lengths_here x (within c x e) ∙ lengths_at c x y e ey ∙ sym (lengths_here y (within c y ey)))
              | inr (le, e) ↦ ap (map length) (list_past parts.lists x (past x e) ∙ sym (list_past parts.lists y (past y (sym h ∙ e))))
            ]

    module _ (prog : IsProgram p) where
      abbrev OfCall : ℕ → List Atom → ℕ → Option Atom → List (List Multipliers) → Type 0
      OfCall h body j o mss = ArePlaces (shape.rows_of_atoms parts.rows (take j body)) (lists_of_call comps parts.lists h o) mss

      together_is_true : (k j : ℕ) (c : Clause) (b : Atom) → slice_get p.clauses k ≡ Some c → AreTogether comps c.head.pred.0 b.pred.0 → shape.is_together comps c.head.pred.0 b.pred.0 ≡ true
      together_is_true k j c b e h =
          let head = (by_places (IsClause p.preds) p.clauses prog.clauses k c e).head in
          let (r, er) = an_element comps.of c.head.pred.0 (omega (arith, are.each, some_below (λ (d : Pred). d.arity ≡ length c.head.args) p.preds c.head.pred.0 head.arity)) in
          let t : IsTrue (shape.is_together comps c.head.pred.0 b.pred.0) = is_together_in comps c.head.pred.0 b.pred.0 r er (sym h ∙ er) in
          t

      -- the multipliers for a call of the own component
      call_drops : (k j : ℕ) (c : Clause) (b : Atom) → slice_get p.clauses k ≡ Some c → slice_get c.body j ≡ Some b → AreTogether comps c.head.pred.0 b.pred.0
          → ArePlaces (shape.rows_of_atoms parts.rows (take j c.body)) (list_at parts.lists c.head.pred.0) (list_at (list_at parts.drops k) j)
      call_drops k j c b e ej together =
          let mss = list_at (list_at parts.drops k) j in
          let bs = body_at p k c e in
          let inner = has_list parts.drops have.drops k (slice_get_within p.clauses k c e) in
          let each = has_list (list_at parts.drops k) inner j (omega (arith, ap length bs, slice_get_within c.body j b ej)) in
          let head = subst (λ (h : ℕ). OfCall h (shape.body_of p k) j (slice_get (shape.body_of p k) j) mss) (head_at p k c e) each in
          let body = subst (λ (s : List Atom). OfCall c.head.pred.0 s j (slice_get s j) mss) bs head in
          let call = subst (λ (o : Option Atom). OfCall c.head.pred.0 c.body j o mss) ej body in
          let own = subst (λ (t : Bool). ArePlaces (shape.rows_of_atoms parts.rows (take j c.body)) (if t then shape.items_of parts.lists c.head.pred.0 else []) mss) (together_is_true k j c b e together) call in
          subst (λ (ls : List (List LevelPart)). ArePlaces (shape.rows_of_atoms parts.rows (take j c.body)) ls mss) (items_are parts.lists c.head.pred.0) own

      place_of : (m n len : ℕ) → m ≡ n → (ms : List Multipliers) → IsPlace m len ms → HavePlace n len ms
      place_of m n len same ms (some, few, each) = record { some = some; few = few; multipliers = all_map (shape.HaveMultipliers m) (AreMultipliers n) (multipliers_are m n same) ms each }

      pub have_drops : HaveDrops p comps parts
      have_drops = record {
        each = have.drops.count;
        lists = λ k j c b e ej together. (call_drops k j c b e ej together).count;
        places = λ k j m c b e ej together lt.
            let own = list_at parts.lists c.head.pred.0 in
            let rows = shape.rows_of_atoms parts.rows (take j c.body) in
            place_of rows (row_count (rows_of parts.rows) (take j c.body)) (length (list_at own m)) (atom_row_counts parts.rows (take j c.body)) (list_at (list_at (list_at parts.drops k) j) m)
            (subst (λ (ls : List LevelPart). IsPlace rows (length ls) (list_at (list_at (list_at parts.drops k) j) m)) (items_are own m)
            (has_list (list_at (list_at parts.drops k) j) (call_drops k j c b e ej together) m lt));
      }
