-- Private.
-- List size obeys the laws of norms: the proof. Nothing here has to be believed.
use Rattle.std.proofs.Common.{◌≡◌, ℕ, zero, suc, ◌+◌, ◌*◌, ◌<◌, ◌≤◌, Bool, true, false, ◌==◌, ◌&&◌, if◌then◌else◌, pos, Option, None, Some, length, refl, ap, sym, ◌∙◌, arith, eqb-true, ltb-true, nat_lt}
use Rattle.std.proofs.lemmas.Bool.{and_parts}
use Rattle.std.proofs.lemmas.Int.{ints}
use Rattle.cti_terms.specs.Tree.{Tree, Trees, Variable, Integer, Compound, End, More, all_truths, instance, all_instances, is_below, is_rigid}
use Rattle.cti_terms.specs.declared.naming.Name.{Name}
use Rattle.term_size.specs.Norm.{weighted, value_of, IsNorm}
use Rattle.term_size.specs.ListSize.{is_dot, list_size, cell_size, list_truth, cell_truth, end_of, cell_end, ends_in, ends_from, list_row}
use Rattle.term_size.specs.TermSizeLaws.{summed, summed-zero, summed-one}

module _ (d : Option Name) where
  mutual
    size_instance : (s : ℕ → ℕ) (a : ℕ → Tree) (t : Tree) → list_size d s (instance a t) ≡ list_size d (λ x. list_size d s (a x)) t
    size_instance s a (Variable x) = refl
    size_instance s a (Integer n) = refl
    size_instance s a (Compound f ts) = ap (λ (n : ℕ). if is_dot d f then n else 0) (cell_instance s a ts)

    cell_instance : (s : ℕ → ℕ) (a : ℕ → Tree) (ts : Trees) → cell_size d s (all_instances a ts) ≡ cell_size d (λ x. list_size d s (a x)) ts
    cell_instance s a End = refl
    cell_instance s a (More h End) = refl
    cell_instance s a (More h (More t End)) = ap (λ (n : ℕ). 1 + n) (size_instance s a t)
    cell_instance s a (More h (More t (More u us))) = refl

  mutual
    truth_instance : (v : ℕ → Bool) (a : ℕ → Tree) (t : Tree) → list_truth d v (instance a t) ≡ list_truth d (λ x. list_truth d v (a x)) t
    truth_instance v a (Variable x) = refl
    truth_instance v a (Integer n) = refl
    truth_instance v a (Compound f ts) = ap (λ (b : Bool). if is_dot d f then b else true) (cell_truth_instance v a ts)

    cell_truth_instance : (v : ℕ → Bool) (a : ℕ → Tree) (ts : Trees) → cell_truth d v (all_instances a ts) ≡ cell_truth d (λ x. list_truth d v (a x)) ts
    cell_truth_instance v a End = refl
    cell_truth_instance v a (More h End) = refl
    cell_truth_instance v a (More h (More t End)) = truth_instance v a t
    cell_truth_instance v a (More h (More t (More u us))) = refl

  -- the number of cells
  abbrev pub cells : Tree → ℕ
  cells = list_size d (λ _. 0)

  -- what a valuation gives the variable at the end
  abbrev pub at_end : (ℕ → ℕ) → Option ℕ → ℕ
  at_end s None = 0
  at_end s (Some x) = s x

  abbrev pub true_at_end : (ℕ → Bool) → Option ℕ → Bool
  true_at_end v None = true
  true_at_end v (Some x) = v x

  tested_size : (b : Bool) (m n : ℕ) (o : Option ℕ) (s : ℕ → ℕ) → m ≡ n + at_end s o → (if b then m else 0) ≡ (if b then n else 0) + at_end s (if b then o else None)
  tested_size true m n o s e = e
  tested_size false m n o s e = omega arith

  tested_truth : (b x : Bool) (o : Option ℕ) (v : ℕ → Bool) → x ≡ true_at_end v o → (if b then x else true) ≡ true_at_end v (if b then o else None)
  tested_truth true x o v e = e
  tested_truth false x o v e = refl

  mutual
    -- a size is the cells, and the size of the variable at the end
    pub size_ended : (s : ℕ → ℕ) (t : Tree) → list_size d s t ≡ cells t + at_end s (end_of d t)
    size_ended s (Variable x) = omega arith
    size_ended s (Integer n) = omega arith
    size_ended s (Compound f ts) = tested_size (is_dot d f) (cell_size d s ts) (cell_size d (λ _. 0) ts) (cell_end d ts) s (cell_ended s ts)

    cell_ended : (s : ℕ → ℕ) (ts : Trees) → cell_size d s ts ≡ cell_size d (λ _. 0) ts + at_end s (cell_end d ts)
    cell_ended s End = omega arith
    cell_ended s (More h End) = omega arith
    cell_ended s (More h (More t End)) = omega (arith, size_ended s t)
    cell_ended s (More h (More t (More u us))) = omega arith

  mutual
    -- and a term is true where the variable at its end is
    pub truth_ended : (v : ℕ → Bool) (t : Tree) → list_truth d v t ≡ true_at_end v (end_of d t)
    truth_ended v (Variable x) = refl
    truth_ended v (Integer n) = refl
    truth_ended v (Compound f ts) = tested_truth (is_dot d f) (cell_truth d v ts) (cell_end d ts) v (cell_truth_ended v ts)

    cell_truth_ended : (v : ℕ → Bool) (ts : Trees) → cell_truth d v ts ≡ true_at_end v (cell_end d ts)
    cell_truth_ended v End = refl
    cell_truth_ended v (More h End) = refl
    cell_truth_ended v (More h (More t End)) = truth_ended v t
    cell_truth_ended v (More h (More t (More u us))) = refl

  -- a rigid term has no variable at its end
  no_end : (o : Option ℕ) → true_at_end (λ _. false) o ≡ true → o ≡ None
  no_end None h = refl
  no_end (Some x) h = cc

  rigid_end : (t : Tree) → list_truth d (λ _. false) t ≡ true → end_of d t ≡ None
  rigid_end t h = no_end (end_of d t) (sym (truth_ended (λ _. false) t) ∙ h)

  rigid_true : (v : ℕ → Bool) (t : Tree) → list_truth d (λ _. false) t ≡ true → list_truth d v t ≡ true
  rigid_true v t h = truth_ended v t ∙ ap (true_at_end v) (rigid_end t h)

  rigid_sizes : (r s : ℕ → ℕ) (t : Tree) → list_truth d (λ _. false) t ≡ true → list_size d r t ≡ list_size d s t
  rigid_sizes r s t h =
      let e = ap (at_end r) (rigid_end t h) in
      let f = ap (at_end s) (rigid_end t h) in
      omega (arith, size_ended r t, size_ended s t, e, f)

  chosen : (b x : Bool) → x ≡ true → (if b then x else true) ≡ true
  chosen true x h = h
  chosen false x h = refl

  mutual
    closed : (t : Tree) → is_rigid t ≡ true → list_truth d (λ _. false) t ≡ true
    closed (Variable x) h = absurd (cc)
    closed (Integer n) h = refl
    closed (Compound f ts) h = chosen (is_dot d f) (cell_truth d (λ _. false) ts) (closed_cell ts h)

    closed_cell : (ts : Trees) → all_truths (λ _. false) ts ≡ true → cell_truth d (λ _. false) ts ≡ true
    closed_cell End h = refl
    closed_cell (More x End) h = refl
    closed_cell (More x (More t End)) h = closed t (and_parts (is_rigid t) true (and_parts (is_rigid x) (all_truths (λ _. false) (More t End)) h).1).0
    closed_cell (More x (More t (More u us))) h = refl

  -- the variable at the end occurs
  abbrev IsEndBelow : ℕ → Option ℕ → Type 0
  IsEndBelow n o = (x : ℕ) → o ≡ Some x → x < n

  tested_end : (b : Bool) (n : ℕ) (o : Option ℕ) → IsEndBelow n o → IsEndBelow n (if b then o else None)
  tested_end true n o h = h
  tested_end false n o h = λ x e. cc

  mutual
    pub end_below : (n : ℕ) (t : Tree) → is_below n t ≡ true → IsEndBelow n (end_of d t)
    end_below n (Variable y) h = λ x e. let same : y ≡ x = cc in let lt = ltb-true y n h in omega arith
    end_below n (Integer m) h = λ x e. cc
    end_below n (Compound f ts) h = tested_end (is_dot d f) n (cell_end d ts) (cell_below n ts h)

    cell_below : (n : ℕ) (ts : Trees) → all_truths (λ x. nat_lt x n) ts ≡ true → IsEndBelow n (cell_end d ts)
    cell_below n End h = λ x e. cc
    cell_below n (More y End) h = λ x e. cc
    cell_below n (More y (More t End)) h = end_below n t (and_parts (is_below n t) true (and_parts (is_below n y) (all_truths (λ x. nat_lt x n) (More t End)) h).1).0
    cell_below n (More y (More t (More u us))) h = λ x e. cc

  weighted_ends : (s : ℕ → ℕ) (k n : ℕ) (o : Option ℕ) → weighted s k (ends_from k n o) ≡ pos (summed (ends_in o) s k n)
  weighted_ends s k zero o = refl
  weighted_ends s k (suc n) o = omega (arith, ints, weighted_ends s (suc k) n o)

  summed_end : (s : ℕ → ℕ) (n : ℕ) (o : Option ℕ) → IsEndBelow n o → summed (ends_in o) s 0 n ≡ at_end s o
  summed_end s n None h = summed-zero s 0 n
  summed_end s n (Some x) h = let lt : x < n = h x refl in summed-one s x 0 n (omega arith) (omega (arith, lt))

  row_value : (n : ℕ) (s : ℕ → ℕ) (t : Tree) → is_below n t ≡ true → value_of (list_row d n t) s ≡ pos (list_size d s t)
  row_value n s t h =
      let w = weighted_ends s 0 n (end_of d t) ∙ ap pos (summed_end s n (end_of d t) (end_below n t h)) in
      let e = size_ended s t in
      rw (w, e) refl

  length-ends : (k n : ℕ) (o : Option ℕ) → length (ends_from k n o) ≡ n
  length-ends k zero o = refl
  length-ends k (suc n) o = ap suc (length-ends (suc k) n o)

  pub list_size_is_a_norm : IsNorm (list_size d) (list_truth d) (list_row d)
  list_size_is_a_norm = record {
    size_of_instance = size_instance;
    truth_of_instance = truth_instance;
    rigid_truth = rigid_true;
    rigid_size = rigid_sizes;
    closed_truth = closed;
    integer_size = λ s n. refl;
    width = λ n t. ap suc (length-ends 0 n (end_of d t));
    value = row_value;
  }
