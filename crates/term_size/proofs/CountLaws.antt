-- What counting leaves.
use Rattle.std.proofs.Common.{◌≡◌, ℕ, zero, suc, ◌+◌, ◌<◌, ◌≤◌, ◌↔◌, ◌⊎◌, inl, inr, Contains, Bool, true, nat_lt, pos, List, [], ◌∷◌, ◌++◌, Vec, Global, length, map, take, slice_index_or, refl, ap, ◌∙◌, arith}
use Rattle.std.proofs.lemmas.Bool.Decides.{nat_tests}
use Rattle.std.proofs.lemmas.Bool.{and_parts, cases_eq}
use Rattle.cti_terms.specs.declared.naming.Name.{Name}
use Rattle.cti_terms.specs.declared.syntax.Term.{Term}
use Rattle.cti_terms.specs.declared.syntax.Term.TheVariants.{Fun}
use Rattle.cti_terms.specs.Spell.{tree_of, trees_of}
use Rattle.cti_terms.specs.Tree.{Tree, Trees, Variable, Integer, Compound, End, More, nodes_of, all_nodes, is_inner, size, all_sizes, truth, all_truths, is_below}
use Rattle.cti_terms.proofs.Spelled.{tree_of_fun}
use Rattle.term_size.specs.declared.var_set.VarSet.{VarSet}
use Rattle.term_size.specs.Members.{members}
use Rattle.term_size.specs.Occurrences.{occurrences, all_occurrences, occurrences_from, size_row}
use Rattle.term_size.specs.Counts.{AreOf, AreBelow}
use Rattle.term_size.specs.declared.counting.Counts.{Counts}
use Rattle.term_size.proofs.RigidLaws.{both}

-- numbers that count each variable are the row of them
row_from : (k n : ℕ) (t : Tree) (xs : List ℕ) → n ≤ length xs → ((x : ℕ) → x < n → slice_index_or xs x 0 ≡ occurrences (k + x) t) → map pos (take n xs) ≡ occurrences_from k n t
row_from k zero t xs le h = refl
row_from k (suc n) t [] le h = absurd (omega arith)
row_from k (suc n) t (x ∷ xs) le h =
    let first : x ≡ occurrences k t = h 0 (omega arith) ∙ ap (λ m. occurrences m t) (omega arith) in
    let rest : map pos (take n xs) ≡ occurrences_from (suc k) n t = row_from (suc k) n t xs (omega arith) (λ y lt. h (suc y) (omega arith) ∙ ap (λ m. occurrences m t) (omega arith)) in
    rw (first, rest) refl

pub row_of_counts : (n : ℕ) (t : Tree) (counts : Counts) → n ≤ 48 → length counts.variables ≡ 48 → AreOf t counts → pos counts.names ∷ map pos (take n counts.variables) ≡ size_row n t
row_of_counts n t counts le long h =
    let r = row_from 0 n t counts.variables (omega arith) (λ x lt. h.variables x (omega arith) ∙ ap (λ m. occurrences m t) (omega arith)) in
    let e = h.names in
    rw (e, r) refl

-- ---- arguments, the last one apart

pub nodes_of_last : (xs : List Term) (y : Term) → all_nodes (trees_of (xs ++ y ∷ [])) ≡ all_nodes (trees_of xs) + nodes_of (tree_of y)
nodes_of_last [] y = omega arith
nodes_of_last (x ∷ xs) y = omega (arith, nodes_of_last xs y)

sizes_of_last : (s : ℕ → ℕ) (xs : List Term) (y : Term) → all_sizes s (trees_of (xs ++ y ∷ [])) ≡ all_sizes s (trees_of xs) + size s (tree_of y)
sizes_of_last s [] y = omega arith
sizes_of_last s (x ∷ xs) y = omega (arith, sizes_of_last s xs y)

occurrences_of_last : (k : ℕ) (xs : List Term) (y : Term) → all_occurrences k (trees_of (xs ++ y ∷ [])) ≡ all_occurrences k (trees_of xs) + occurrences k (tree_of y)
occurrences_of_last k [] y = omega arith
occurrences_of_last k (x ∷ xs) y = omega (arith, occurrences_of_last k xs y)

truths_of_last : (v : ℕ → Bool) (xs : List Term) (y : Term) → all_truths v (trees_of (xs ++ y ∷ [])) ≡ true → (all_truths v (trees_of xs) ≡ true) × (truth v (tree_of y) ≡ true)
truths_of_last v [] y h = (refl, (and_parts (truth v (tree_of y)) true h).0)
truths_of_last v (x ∷ xs) y h =
    let p = and_parts (truth v (tree_of x)) (all_truths v (trees_of (xs ++ y ∷ []))) h in
    let r = truths_of_last v xs y p.1 in
    (both (truth v (tree_of x)) (all_truths v (trees_of xs)) p.0 r.0, r.1)

inner_of_last : (xs : List Term) (y : Term) → is_inner (trees_of (xs ++ y ∷ [])) ≡ 1
inner_of_last [] y = refl
inner_of_last (x ∷ xs) y = refl

-- what a name with arguments counts: itself, the other arguments, and the last one
pub record Parts (t last : Tree) (others : Trees) : Type 0 where
  pub nodes : nodes_of t ≡ 1 + all_nodes others + nodes_of last
  pub names : size (λ _. 0) t ≡ 1 + all_sizes (λ _. 0) others + size (λ _. 0) last
  pub variables : (x : ℕ) → occurrences x t ≡ all_occurrences x others + occurrences x last
  pub below : (n : ℕ) → is_below n t ≡ true → AreBelow n others × (is_below n last ≡ true)

pub parts : (t : Term) (f : Name) (args : Vec Term Global) (last : Term) (others : List Term) → t ≡ Fun f args → args.items ≡ others ++ last ∷ [] → Parts (tree_of t) (tree_of last) (trees_of others)
parts t f args last others e split =
    let same : tree_of t ≡ Compound f.0 (trees_of (others ++ last ∷ [])) = ap tree_of e ∙ tree_of_fun f args ∙ ap (λ xs. Compound f.0 (trees_of xs)) split in
    rw same (record {
      nodes = omega (arith, nodes_of_last others last);
      names = omega (arith, inner_of_last others last, sizes_of_last (λ _. 0) others last);
      variables = λ x. occurrences_of_last x others last;
      below = λ n h. truths_of_last (λ x. nat_lt x n) others last h;
    })

-- ---- no more is counted than there are nodes

mutual
  pub names-le : (t : Tree) → size (λ _. 0) t ≤ nodes_of t
  names-le (Variable x) = omega arith
  names-le (Integer n) = omega arith
  names-le (Compound f End) = omega arith
  names-le (Compound f (More t ts)) = omega (arith, names-le t, all_names-le ts)

  pub all_names-le : (ts : Trees) → all_sizes (λ _. 0) ts ≤ all_nodes ts
  all_names-le End = omega arith
  all_names-le (More t ts) = omega (arith, names-le t, all_names-le ts)

mutual
  pub occurrences-le : (x : ℕ) (t : Tree) → occurrences x t ≤ nodes_of t
  occurrences-le x (Variable y) = grind (arith, nat_tests)
  occurrences-le x (Integer n) = omega arith
  occurrences-le x (Compound f ts) = omega (arith, all_occurrences-le x ts)

  pub all_occurrences-le : (x : ℕ) (ts : Trees) → all_occurrences x ts ≤ all_nodes ts
  all_occurrences-le x End = omega arith
  all_occurrences-le x (More t ts) = omega (arith, occurrences-le x t, all_occurrences-le x ts)

-- ---- the variables below x that were counted

abbrev pub IsUpTo : VarSet → ℕ → List ℕ → Type 0
IsUpTo set n counts = (x : ℕ) → Contains (members set) x ↔ ((x < n) × (0 < slice_index_or counts x 0))

pub one_more : (set new same : VarSet) (n : ℕ) (counts : List ℕ) → IsUpTo set n counts
    → ((x : ℕ) → Contains (members new) x ↔ (Contains (members set) x ⊎ (x ≡ n))) → same ≡ new → 0 < slice_index_or counts n 0 → IsUpTo same (n + 1) counts
one_more set new same n counts h put e some = λ x. rw e (forth x, back x)
  where
    here : (x : ℕ) → x ≡ n → 0 < slice_index_or counts x 0
    here x is = omega (arith, ap (λ y. slice_index_or counts y 0) is)

    forth : (x : ℕ) → Contains (members new) x → (x < n + 1) × (0 < slice_index_or counts x 0)
    forth x m = elim ((put x).0 m) [
      | inl old ↦ let r = (h x).0 old in (omega (arith, r.0), r.1)
      | inr is ↦ (omega arith, here x is)
    ]

    back : (x : ℕ) → (x < n + 1) × (0 < slice_index_or counts x 0) → Contains (members new) x
    back x r = let lt = r.0 in elim (cases_eq x n) [
      | inl is ↦ (put x).1 (inr is)
      | inr other ↦ (put x).1 (inl ((h x).1 (omega arith, r.1)))
    ]

pub one_less : (set same : VarSet) (n : ℕ) (counts : List ℕ) → IsUpTo set n counts → same ≡ set → slice_index_or counts n 0 ≤ 0 → IsUpTo same (n + 1) counts
one_less set same n counts h e none = λ x. rw e ((λ m. let r = (h x).0 m in (omega (arith, r.0), r.1)), back x)
  where
    back : (x : ℕ) → (x < n + 1) × (0 < slice_index_or counts x 0) → Contains (members set) x
    back x r = let lt = r.0 in let some = r.1 in elim (cases_eq x n) [
      | inl is ↦ absurd (omega (arith, ap (λ y. slice_index_or counts y 0) is))
      | inr other ↦ (h x).1 (omega arith, some)
    ]

pub up_to_all : (set : VarSet) (n vars : ℕ) (counts : List ℕ) → IsUpTo set n counts → n ≤ vars → vars ≤ n → IsUpTo set vars counts
up_to_all set n vars counts h le ge = λ x. (
  λ m. let r = (h x).0 m in (omega (arith, r.0), r.1),
  λ r. (h x).1 (omega (arith, r.0), r.1),
)
