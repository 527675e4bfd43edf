-- Lemmas on clauses that come and go.
use Rattle.std.proofs.Common.{◌≡◌, ◌∙◌, ℕ, ◌+◌, ◌-◌, ◌<◌, ◌≤◌, zero, suc, None, Option, Some, slice_get, refl, IsTrue, nat_lt, List, [], ◌∷◌, ◌++◌, length, map, get_or, ap, sym, arith}
use Rattle.std.specs.List.{AllByRecursion, remove}
use Rattle.std.proofs.lemmas.Bool.{and_parts, and_from, lt-ltb, ltb-true}
use Rattle.std.proofs.lemmas.List.{length_push}
use Rattle.std.proofs.lemmas.List.Sums.{sum_by-remove}
use Rattle.prolog_grammar.specs.Placed.{Tree, tree, Shape, Var, Int, Fun, Trees, no_trees, more_trees}
use Rattle.prolog_reader.specs.Fit.{IsFit, AreFit}
use Rattle.prolog_terms.specs.Clauses.{Clause, nodes, is_known, shape_known, all_known}
use Rattle.prolog_terms.specs.Terms.{tree_of, clause_of}
use Rattle.prolog_terms.specs.declared.clause.ReadClause.{ReadClause}
use Rattle.kept_clauses.proofs.KeptListLaws.{from_at, length_from}
use Rattle.kept_clauses.specs.KeptLists.{AreKeptList, kept_from}
use Rattle.termination_model.proofs.Lists.{place_below}
use Rattle.edit_texts.specs.Snapshot.{nodes_in}
use Rattle.edit_texts.proofs.Lists.{all_remove, map_get, map_length}

-- ---- more names

module _ (m n : ℕ) (le : m ≤ n) where
  mutual
    known_more : (t : Tree) → IsTrue (is_known m t) → IsTrue (is_known n t)
    known_more (tree at s) h = shape_more s h

    shape_more : (s : Shape) → IsTrue (shape_known m s) → IsTrue (shape_known n s)
    shape_more (Var x) h = h
    shape_more (Int i) h = h
    shape_more (Fun f ts) h =
        let p = and_parts (nat_lt f m) (all_known m ts) h in
        let lt : f < m = ltb-true f m p.0 in
        and_from (nat_lt f n) (all_known n ts) (lt-ltb f n (omega (arith, lt, le))) (all_more ts p.1)

    all_more : (ts : Trees) → IsTrue (all_known m ts) → IsTrue (all_known n ts)
    all_more no_trees h = h
    all_more (more_trees t ts) h =
        let p = and_parts (is_known m t) (all_known m ts) h in
        and_from (is_known n t) (all_known n ts) (known_more t p.0) (all_more ts p.1)

  each_more : (cs : List Clause) → AllByRecursion (IsFit m) cs → AllByRecursion (IsFit n) cs
  each_more [] h = tt
  each_more (c ∷ cs) h = (record { below = h.0.below; known = known_more c.term h.0.known }, each_more cs h.1)

  -- clauses of fewer names are clauses of more
  pub fit_more : (cs : List Clause) → AreFit m cs → AreFit n cs
  fit_more cs h = record { each = each_more cs h.each; small = h.small }

-- ---- no clause less

-- each clause of a list is one of it
pub all_list : {X : Type 0} (xs : List X) → AreKeptList xs xs (kept_from 1 (length xs))
all_list xs = record {
  each = length_from 1 (length xs);
  same = λ i j at.
      let lt : i < length xs = omega (arith, place_below (kept_from 1 (length xs)) i (Some j) at, length_from 1 (length xs)) in
      let there = from_at 1 (length xs) i lt in
      let both : Some (Some j) ≡ Some (Some (1 + i)) = sym at ∙ there in
      let number : j ≡ 1 + i = cc in
      let before : j - 1 ≡ i = omega (arith, number) in
      (omega (arith, number), ap (λ (k : ℕ). slice_get xs k) before);
}

-- ---- what is kept where one more is put last, or one is taken out
module _ {X : Type 0} (old : List X) where
  abbrev Same : List X → List (Option ℕ) → Type 0
  Same xs since = (i j : ℕ) → slice_get since i ≡ Some (Some j) → (1 ≤ j) × (slice_get old (j - 1) ≡ slice_get xs i)

  push_same : (xs : List X) (x : X) (since : List (Option ℕ)) → length since ≡ length xs → Same xs since → Same (xs ++ x ∷ []) (since ++ None ∷ [])
  push_same [] x [] l h zero j e = cc
  push_same [] x [] l h (suc i) j e = cc
  push_same [] x (o ∷ since) l h i j e = absurd (omega arith)
  push_same (y ∷ xs) x [] l h i j e = absurd (omega arith)
  push_same (y ∷ xs) x (o ∷ since) l h zero j e = h 0 j e
  push_same (y ∷ xs) x (o ∷ since) l h (suc i) j e = push_same xs x since (omega (arith, l)) (λ n m. h (suc n) m) i j e

  take_same : (xs : List X) (since : List (Option ℕ)) (k : ℕ) → length since ≡ length xs → Same xs since → Same (remove xs k) (remove since k)
  take_same [] [] zero l h i j e = h i j e
  take_same [] [] (suc k) l h i j e = h i j e
  take_same [] (o ∷ since) k l h i j e = absurd (omega arith)
  take_same (y ∷ xs) [] k l h i j e = absurd (omega arith)
  take_same (y ∷ xs) (o ∷ since) zero l h i j e = h (suc i) j e
  take_same (y ∷ xs) (o ∷ since) (suc k) l h zero j e = h 0 j e
  take_same (y ∷ xs) (o ∷ since) (suc k) l h (suc i) j e = take_same xs since k (omega (arith, l)) (λ n m. h (suc n) m) i j e

  take_each : (xs : List X) (since : List (Option ℕ)) (k : ℕ) → length since ≡ length xs → length (remove since k) ≡ length (remove xs k)
  take_each [] [] zero l = refl
  take_each [] [] (suc k) l = refl
  take_each [] (o ∷ since) k l = absurd (omega arith)
  take_each (y ∷ xs) [] k l = absurd (omega arith)
  take_each (y ∷ xs) (o ∷ since) zero l = omega (arith, l)
  take_each (y ∷ xs) (o ∷ since) (suc k) l = omega (arith, take_each xs since k (omega (arith, l)))

  pub kept_push : (xs : List X) (x : X) (since : List (Option ℕ)) → AreKeptList old xs since → AreKeptList old (xs ++ x ∷ []) (since ++ None ∷ [])
  kept_push xs x since h = record { each = omega (arith, h.each, length_push since None, length_push xs x); same = push_same xs x since h.each h.same }

  pub kept_remove : (xs : List X) (since : List (Option ℕ)) (k : ℕ) → AreKeptList old xs since → AreKeptList old (remove xs k) (remove since k)
  kept_remove xs since k h = record { each = take_each xs since k h.each; same = take_same xs since k h.each h.same }

-- ---- one clause less

-- how many nodes there are then
nodes_remove : (cs : List Clause) (i : ℕ) (c : Clause) → i < length cs → nodes_in (remove cs i) + nodes (get_or cs i c).term ≡ nodes_in cs
nodes_remove cs i c lt = sum_by-remove (λ (c : Clause). nodes c.term) cs i c lt

-- the same of clauses of the code
pub nodes_taken : (xs : List ReadClause) (i : ℕ) (x : ReadClause) → i < length xs → x ≡ get_or xs i x → nodes_in (remove (map clause_of xs) i) + nodes (tree_of x.term) ≡ nodes_in (map clause_of xs)
nodes_taken xs i x lt here =
    let got : get_or (map clause_of xs) i (clause_of x) ≡ clause_of x = map_get clause_of xs i x ∙ ap clause_of (sym here) in
    ap (λ (c : Clause). nodes_in (remove (map clause_of xs) i) + nodes c.term) (sym got) ∙ nodes_remove (map clause_of xs) i (clause_of x) (omega (arith, map_length clause_of xs, lt))

pub fit_remove : (n : ℕ) (cs : List Clause) (i : ℕ) (c : Clause) → i < length cs → AreFit n cs → AreFit n (remove cs i)
fit_remove n cs i c lt h = record { each = all_remove (IsFit n) cs i h.each; small = omega (arith, h.small, nodes_remove cs i c lt) }
