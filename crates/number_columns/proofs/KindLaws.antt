-- Kinds of positions, from the links of a program.
use Rattle.std.proofs.Common.{◌≡◌, ◌↔◌, ◌∙◌, ℕ, zero, suc, ◌+◌, ◌*◌, ◌<◌, ◌≤◌, ◌==◌, Bool, true, false, if◌then◌else◌, List, [], ◌∷◌, ◌++◌, length, slice_get, slice_index_or, Some, inl, inr, refl, ap, sym, subst, arith}
use Rattle.std.specs.List.{AllByRecursion}
use Rattle.std.specs.Prelude.{IsSomeAnd}
use Rattle.cti_terms.specs.Arithmetic.{kind_of}
use Rattle.cti_terms.specs.Listing.{IsProgram, Listing}
use Rattle.cti_terms.specs.declared.builtins.Builtin.{Builtin}
use Rattle.cti_terms.specs.declared.clauses.Clause.{Clause}
use Rattle.cti_terms.specs.declared.predicates.Pred.{Pred}
use Rattle.termination_model.proofs.Lists.{by_places, place_below, there}
use Rattle.number_columns.specs.ColumnLists.{HaveKinds, kinds_at}
use Rattle.number_columns.specs.Cells.{one_if}
use Rattle.number_columns.specs.Links.{AreFalling, AreLinked, LinksMore, NoPair, Respects, mark_of, node_of, parent}
use Rattle.number_columns.specs.Meeting.{AreKindsOf, BuiltinPairs, BuiltinsLinked, ClausePairs, ClausesLinked, IsKindOf, IsLinkedUp, ProgramPairs, RowsKnown, StandsAt}
use Rattle.number_columns.specs.Numeric.{IsClosed, IsNumeric}
use Rattle.number_columns.specs.declared.kind.Kind.{Kind}
use Rattle.number_columns.specs.declared.kind.Kind.TheVariants.{Number, Size}
use Rattle.number_columns.proofs.RootLaws.{mark_is, same_test, test_same}

-- ---- lists that get one more

pub pushed : {X : Type 0} → (P : ℕ → X → Type 0) (xs : List X) (x : X) → ((j : ℕ) (y : X) → slice_get xs j ≡ Some y → P j y) → P (length xs) x → (j : ℕ) (y : X) → slice_get (xs ++ x ∷ []) j ≡ Some y → P j y
pushed P [] x h here zero y e = let same : x ≡ y = cc in subst (P 0) same here
pushed P [] x h here (suc j) y e = cc
pushed P (z ∷ zs) x h here zero y e = h 0 y e
pushed P (z ∷ zs) x h here (suc j) y e = pushed (λ i. P (suc i)) zs x (λ i. h (suc i)) here j y e

pub row_before : {X : Type 0} → (xs : List X) (x d : X) (j : ℕ) → j < length xs → slice_index_or (xs ++ x ∷ []) j d ≡ slice_index_or xs j d
row_before [] x d j lt = absurd (omega arith)
row_before (y ∷ ys) x d zero lt = refl
row_before (y ∷ ys) x d (suc j) lt = row_before ys x d j (omega arith)

pub row_last : {X : Type 0} → (xs : List X) (x d : X) → slice_index_or (xs ++ x ∷ []) (length xs) d ≡ x
row_last [] x d = refl
row_last (y ∷ ys) x d = row_last ys x d

pub row_known : (rows : List (List Kind)) (q i : ℕ) (k : Kind) → slice_get (kinds_at rows q) i ≡ Some k → q < length rows
row_known [] q i k e = cc
row_known (r ∷ rs) zero i k e = omega arith
row_known (r ∷ rs) (suc q) i k e = omega (arith, row_known rs q i k e)

pub some_below : {X : Type 0} → (P : X → Type 0) (xs : List X) (q : ℕ) → IsSomeAnd (slice_get xs q) P → q < length xs
some_below P [] q h = absurd h
some_below P (x ∷ xs) zero h = omega arith
some_below P (x ∷ xs) (suc q) h = omega (arith, some_below P xs q h)

-- ---- before links were shortened

pub kind_back : (old new : List ℕ) → LinksMore NoPair old new → (n : ℕ) (k : Kind) → IsKindOf new n k → IsKindOf old n k
kind_back old new h n Number is = λ f r. is f (h.only f (λ a b p. absurd p) r)
kind_back old new h n Size (f, r, ne) = (f, h.keeps f r, ne)

pub kinds_back : (old new : List ℕ) → LinksMore NoPair old new → (q : ℕ) (kinds : List Kind) → AreKindsOf new q kinds → AreKindsOf old q kinds
kinds_back old new h q kinds are i k e = kind_back old new h (node_of q i) k (are i k e)

-- ---- what is linked

if_one : (b : Bool) → one_if b ≡ 1 → b ≡ true
if_one true e = refl
if_one false e = absurd (omega (arith, e))

both_ways : (a b : Bool) → (a ≡ true → b ≡ true) → (b ≡ true → a ≡ true) → a ≡ b
both_ways true b f g = sym (f refl)
both_ways false true f g = g refl
both_ways false false f g = refl

module _ (p : Listing) (sound : IsProgram p) (begin mid ps : List ℕ) (own : (i : ℕ) → i < length begin → parent begin i ≡ i) (built : LinksMore (BuiltinPairs p.arithmetic) begin mid) (more : LinksMore (ProgramPairs p) mid ps)
    (builtins : BuiltinsLinked p.arithmetic mid (length p.preds)) (clauses : ClausesLinked p ps (length p.clauses)) where
  module _ (s : ℕ → ℕ → Bool) (h : IsClosed p s) where
    marked : (q i : ℕ) → i < 12 → s q i ≡ true → 1 ≡ mark_of s (node_of q i)
    marked q i lt e = sym (mark_is s q i lt ∙ ap (λ (b : Bool). if b then 1 else 0) e)

    builtin_marks : (n m : ℕ) → BuiltinPairs p.arithmetic n m → mark_of s n ≡ mark_of s m
    builtin_marks n m (zero_is, q, i, kind, is, lt, node) = ap (mark_of s) zero_is ∙ marked q i (omega (arith, lt)) (h.builtin q kind is i lt) ∙ ap (mark_of s) (sym node)

    shared_marks : (k : ℕ) (c : Clause) → slice_get p.clauses k ≡ Some c → (x n m : ℕ) → StandsAt c x n → StandsAt c x m → mark_of s n ≡ mark_of s m
    shared_marks k c at x n m a b =
        let same : s a.pred a.place ≡ s b.pred b.place = both_ways (s a.pred a.place) (s b.pred b.place) (h.shared k c at x a.pred a.place b.pred b.place a.stands b.stands) (h.shared k c at x b.pred b.place a.pred a.place b.stands a.stands) in
        ap (mark_of s) a.node ∙ mark_is s a.pred a.place a.few ∙ ap (λ (t : Bool). if t then 1 else 0) same ∙ sym (mark_is s b.pred b.place b.few) ∙ ap (mark_of s) (sym b.node)

    clause_marks : (n m : ℕ) → ProgramPairs p n m → mark_of s n ≡ mark_of s m
    clause_marks n m (k, c, at, inl (x, a, b)) = shared_marks k c at x n m a b
    clause_marks n m (k, c, at, inr (x, zero_is, a, e)) =
        ap (mark_of s) zero_is ∙ marked a.pred a.place a.few (h.evaluated k c at x a.pred a.place a.stands e) ∙ ap (mark_of s) (sym a.node)

    only : Respects (mark_of s) ps
    only = more.only (mark_of s) clause_marks (built.only (mark_of s) builtin_marks (λ i lt. ap (mark_of s) (own i lt)))

  closed : (f : ℕ → ℕ) → Respects f ps → IsClosed p (λ q i. f (node_of q i) == f 0)
  closed f r = record {
    builtin = λ q b is i lt. same_test (f (node_of q i)) (f 0) (sym (builtins q b (some_below (λ (x : Pred). x.arity ≡ 2) p.preds q (sound.binary q b is)) is i lt f (more.keeps f r)));
    evaluated = λ k c at x q i s e. same_test (f (node_of q i)) (f 0) (sym ((clauses k c (place_below p.clauses k c at) at).evaluated x q i s e f r));
    shared = λ k c at x q i t j s u yes. same_test (f (node_of t j)) (f 0) (sym ((clauses k c (place_below p.clauses k c at) at).shared x q i t j s u f r) ∙ test_same (f (node_of q i)) (f 0) yes);
  }

  pub linked_up : length begin ≡ length p.preds * 12 + 1 → IsLinkedUp p ps
  linked_up count = record { count = more.count ∙ built.count ∙ count; falling = more.falling; only = only; closed = closed }

-- ---- kinds are exact

module _ (p : Listing) (ps : List ℕ) (linked : IsLinkedUp p ps) where
  pub numeric : (q i : ℕ) → i < 12 → AreLinked ps (node_of q i) 0 → IsNumeric p q i
  numeric q i lt is s h = if_one (s q i) (sym (mark_is s q i lt) ∙ is (mark_of s) (linked.only s h))

  pub not_numeric : (q i : ℕ) (f : ℕ → ℕ) → Respects f ps → (f (node_of q i) ≡ f 0 → ⊥) → IsNumeric p q i → ⊥
  not_numeric q i f r ne is = ne (test_same (f (node_of q i)) (f 0) (is (λ a b. f (node_of a b) == f 0) (linked.closed f r)))

  -- the kind is that of a number exactly where the position is numeric
  pub exact_at : (q i : ℕ) → i < 12 → (k : Kind) → IsKindOf ps (node_of q i) k → (k ≡ Number) ↔ IsNumeric p q i
  exact_at q i lt Number is = (λ e. numeric q i lt is, λ n. refl)
  exact_at q i lt Size (f, r, ne) = (λ e. absurd (cc), λ n. absurd (not_numeric q i f r ne n))

  -- a place among the kinds of a predicate is one among its arguments
  pub few_at : IsProgram p → (n : ℕ) (rows : List (List Kind)) → RowsKnown p ps n rows → n ≡ length p.preds → (q i : ℕ) (k : Kind) → slice_get (kinds_at rows q) i ≡ Some k → i < 12
  few_at sound n rows known all q i k at =
      let lt : q < length p.preds = omega (arith, row_known rows q i k at, known.each, all) in
      let none : Pred = record { name = record { 0 = 0 }; arity = 0 } in
      let pred = slice_index_or p.preds q none in
      let e = there p.preds q none lt in
      let long = known.arity q pred (omega (arith, lt, all)) e in
      let few = by_places (λ (x : Pred). x.arity ≤ 12) p.preds sound.arities q pred e in
      omega (arith, place_below (kinds_at rows q) i k at, long, few)
