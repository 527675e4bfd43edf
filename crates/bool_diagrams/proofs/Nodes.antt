-- Numbers of a sound table that spell one tree are the same, and their trees are reduced.
use Rattle.std.proofs.Common.{◌≡◌, ℕ, zero, suc, ◌+◌, ◌-◌, ◌≤◌, ◌<◌, ◌==◌, true, false, List, [], ◌∷◌, ◌++◌, reverse, get_or, length, Some, None, refl, sym, ◌∙◌, ap, inl, inr, arith}
use Rattle.std.proofs.lemmas.Bool.Decides.{nat_tests}
use Rattle.std.proofs.lemmas.List.{reverse-append, length-append, length-reverse, reverse-reverse, get_or_push, get_or_append_left}
use Rattle.std.proofs.lemmas.Bool.{cases_eq, cases_lt, eq-eqb, eqb-true, ne_eqb, and_parts}
use Rattle.bool_diagrams.specs.declared.node.Node.{Node}
use Rattle.bool_diagrams.specs.Tree.{Tree, leaf, branch, IsReduced, SameRows}
use Rattle.bool_diagrams.specs.Rows.{tree, IsOf, Keeps}
use Rattle.bool_diagrams.specs.Joins.{Stands}
use Rattle.bool_diagrams.specs.Nodes.{trees, same_node, place, node_at, IsSound}
use Rattle.bool_diagrams.proofs.Canonical.{same_tree}

-- each node has one tree
pub length-trees : (nodes : List Node) → length (trees nodes) ≡ length nodes
unfolding trees
length-trees [] = refl
length-trees (n ∷ older) =
    let rec = length-trees older in
    let new = branch n.variable (tree (trees older) n.low) (tree (trees older) n.high) in
    let len : length (trees older ++ new ∷ []) ≡ length (trees older) + length (new ∷ []) = length-append (trees older) (new ∷ []) in
    omega arith

-- a number of the trees is one of the nodes or of the constants
pub of_nodes : (nodes : List Node) (i : ℕ) → IsOf (trees nodes) i → i < length nodes + 2
of_nodes nodes i of = let len = length-trees nodes in omega arith

pub nodes_of : (nodes : List Node) (i : ℕ) → i < length nodes + 2 → IsOf (trees nodes) i
nodes_of nodes i lt = let len = length-trees nodes in omega arith

-- below two is a constant
pub tree_constant : (ts : List Tree) (i : ℕ) → i < 2 → tree ts i ≡ leaf (i == 1)
unfolding tree
tree_constant ts zero lt = refl
tree_constant ts (suc zero) lt = refl
tree_constant ts (suc (suc k)) lt = absurd (omega arith)

-- from two on it is one of the list
tree_listed : (ts : List Tree) (i : ℕ) → 2 ≤ i → tree ts i ≡ get_or ts (i - 2) (leaf false)
unfolding tree
tree_listed ts zero two = absurd (omega arith)
tree_listed ts (suc zero) two = absurd (omega arith)
tree_listed ts (suc (suc k)) two = let e : suc (suc k) - 2 ≡ k = omega arith in rw e refl

-- the newest node
pub tree_newest : (n : Node) (older : List Node) (i : ℕ) → i ≡ length older + 2 → tree (trees (n ∷ older)) i ≡ branch n.variable (tree (trees older) n.low) (tree (trees older) n.high)
unfolding trees
tree_newest n older i e =
    let len = length-trees older in
    let new = branch n.variable (tree (trees older) n.low) (tree (trees older) n.high) in
    tree_listed (trees older ++ new ∷ []) i (omega arith) ∙ get_or_push (trees older) new (leaf false) (i - 2) (omega arith)

-- the others stay
pub tree_older : (n : Node) (older : List Node) (i : ℕ) → IsOf (trees older) i → tree (trees (n ∷ older)) i ≡ tree (trees older) i
unfolding trees
tree_older n older i lt =
    let new = branch n.variable (tree (trees older) n.low) (tree (trees older) n.high) in
    let more = trees older ++ new ∷ [] in
    elim (cases_lt i 2) [
      | inl small ↦ tree_constant more i small ∙ sym (tree_constant (trees older) i small)
      | inr two ↦ tree_listed more i two ∙ get_or_append_left (trees older) (new ∷ []) (leaf false) (i - 2) (omega arith) ∙ sym (tree_listed (trees older) i two)
    ]

at_newest : (n : Node) (older : List Node) (i : ℕ) → i ≡ length older + 2 → node_at (n ∷ older) i ≡ n
at_newest n older i e = rw (eq-eqb i (length older + 2) e) refl

at_older : (n : Node) (older : List Node) (i : ℕ) → i < length older + 2 → node_at (n ∷ older) i ≡ node_at older i
at_older n older i lt = rw (ne_eqb i (length older + 2) (λ e. omega arith)) refl

pub keeps_same : (ts : List Tree) → Keeps ts ts
keeps_same ts = record { more = omega arith; trees = λ i lt. refl }

pub keeps_twice : (a b c : List Tree) → Keeps a b → Keeps b c → Keeps a c
keeps_twice a b c h k = record {
  more = omega arith;
  trees = λ i lt. let m = h.more in k.trees i (omega arith) ∙ h.trees i lt;
}

pub keeps_new : (n : Node) (older : List Node) → Keeps (trees older) (trees (n ∷ older))
keeps_new n older =
    let one = length-trees older in
    let two = length-trees (n ∷ older) in
    record { more = omega arith; trees = λ i lt. tree_older n older i lt }

node_is : (m n : Node) → m.variable ≡ n.variable → m.low ≡ n.low → m.high ≡ n.high → m ≡ n
node_is m n a b c =
    let mk : ℕ → ℕ → ℕ → Node = λ v l h. record { variable = v; low = l; high = h } in
    ap (λ v. mk v m.low m.high) a ∙ ap (λ l. mk n.variable l m.high) b ∙ ap (λ h. mk n.variable n.low h) c

same_is : (m n : Node) → same_node m n ≡ true → m ≡ n
same_is m n h =
    let a = and_parts (m.variable == n.variable) _ h in
    let b = and_parts (m.low == n.low) _ a.1 in
    node_is m n (eqb-true m.variable n.variable a.0) (eqb-true m.low n.low b.0) (eqb-true m.high n.high b.1)

same_self : (n : Node) → same_node n n ≡ true
same_self n = rw (eq-eqb n.variable n.variable refl, eq-eqb n.low n.low refl, eq-eqb n.high n.high refl) refl

stands_newest : (n : Node) (older : List Node) → IsSound (n ∷ older) → Stands (trees (n ∷ older)) (length older + 2) n
stands_newest n older s =
    let over = s.0 in
    let low_is = tree_older n older n.low over.low_of in
    let high_is = tree_older n older n.high over.high_of in
    let one = length-trees older in
    let two = length-trees (n ∷ older) in
    let low_of = over.low_of in
    let high_of = over.high_of in
    record {
      above = omega arith;
      of = omega arith;
      spells = rw (tree_newest n older (length older + 2) refl, low_is, high_is) refl;
      in_range = over.in_range;
      low_below = omega arith;
      high_below = omega arith;
      low_from = rw low_is over.low_from;
      high_from = rw high_is over.high_from;
    }

stands_older : (m : Node) (older : List Node) (i : ℕ) (n : Node) → Stands (trees older) i n → Stands (trees (m ∷ older)) i n
stands_older m older i n s =
    let o = s.of in
    let l = s.low_below in
    let h = s.high_below in
    let one = length-trees older in
    let two = length-trees (m ∷ older) in
    let low_is = tree_older m older n.low (omega arith) in
    let high_is = tree_older m older n.high (omega arith) in
    record {
      above = s.above;
      of = omega arith;
      spells = rw (tree_older m older i s.of, low_is, high_is) s.spells;
      in_range = s.in_range;
      low_below = s.low_below;
      high_below = s.high_below;
      low_from = rw low_is s.low_from;
      high_from = rw high_is s.high_from;
    }

-- a node that is found stands at its number
pub stands_at_place : (nodes : List Node) (n : Node) (i : ℕ) → IsSound nodes → place nodes n ≡ Some i → Stands (trees nodes) i n
stands_at_place [] n i s h = cc
stands_at_place (m ∷ older) n i s h = (elim (same_node m n) as (λ b. same_node m n ≡ b → Stands (trees (m ∷ older)) i n) [
  | true ↦ λ t.
      let is : n ≡ m = sym (same_is m n t) in
      let at : Some (length older + 2) ≡ Some i = rw t at h in
      let number : i ≡ length older + 2 = cc in
      rw (number, is) (stands_newest m older s)
  | false ↦ λ t. stands_older m older i n (stands_at_place older n i s.2 (rw t at h))
]) refl

-- the node with a number is found there
pub placed_at : (nodes : List Node) (i : ℕ) → IsSound nodes → 2 ≤ i → i < length nodes + 2 → place nodes (node_at nodes i) ≡ Some i
placed_at [] i s two lt = absurd (omega arith)
placed_at (m ∷ older) i s two lt = elim (cases_eq i (length older + 2)) [
  | inl e ↦ rw (at_newest m older i e, same_self m, e) refl
  | inr ne ↦
      let of : i < length older + 2 = omega arith in
      let n = node_at older i in
      let there = placed_at older i s.2 two of in
      let here = at_older m older i of in
      let other : same_node m n ≡ false = (elim (same_node m n) as (λ b. same_node m n ≡ b → b ≡ false) [
        | true ↦ λ t. let is : n ≡ m = sym (same_is m n t) in let none : place older n ≡ None = rw is s.1 in cc
        | false ↦ λ t. refl
      ]) refl in
      rw (here, other) there
]

pub stands_at : (nodes : List Node) (i : ℕ) → IsSound nodes → 2 ≤ i → IsOf (trees nodes) i → Stands (trees nodes) i (node_at nodes i)
stands_at nodes i s two lt = stands_at_place nodes (node_at nodes i) i s (placed_at nodes i s two (of_nodes nodes i lt))

-- a new node's tree is no older one's
is_new : (n : Node) (older : List Node) (j : ℕ) → IsSound (n ∷ older) → IsOf (trees older) j
    → ((a b : ℕ) → IsOf (trees older) a → IsOf (trees older) b → tree (trees older) a ≡ tree (trees older) b → a ≡ b)
    → branch n.variable (tree (trees older) n.low) (tree (trees older) n.high) ≡ tree (trees older) j → ⊥
is_new n older j s of same e = elim (cases_lt j 2) [
  | inl lt ↦ let c = tree_constant (trees older) j lt in cc
  | inr two ↦
      let m = node_at older j in
      let st = stands_at older j s.2 two of in
      let l = st.low_below in
      let h = st.high_below in
      let both : branch n.variable (tree (trees older) n.low) (tree (trees older) n.high) ≡ branch m.variable (tree (trees older) m.low) (tree (trees older) m.high) = e ∙ st.spells in
      let variable_is : n.variable ≡ m.variable = cc in
      let low_tree : tree (trees older) n.low ≡ tree (trees older) m.low = cc in
      let high_tree : tree (trees older) n.high ≡ tree (trees older) m.high = cc in
      let is : n ≡ m = node_is n m variable_is (same n.low m.low s.0.low_of (omega arith) low_tree) (same n.high m.high s.0.high_of (omega arith) high_tree) in
      let there = placed_at older j s.2 two (of_nodes older j of) in
      let none : place older m ≡ None = rw (← is) s.1 in
      cc
]

same_constant : (i j : ℕ) → i < 2 → j < 2 → tree (trees []) i ≡ tree (trees []) j → i ≡ j
same_constant i j li lj e =
    let at_i = tree_constant (trees []) i li in
    let at_j = tree_constant (trees []) j lj in
    let tests : (i == 1) ≡ (j == 1) = cc in
    grind (arith, nat_tests)

-- numbers with one tree are the same
pub same_number : (nodes : List Node) (i j : ℕ) → IsSound nodes → IsOf (trees nodes) i → IsOf (trees nodes) j → tree (trees nodes) i ≡ tree (trees nodes) j → i ≡ j
same_number [] i j s li lj e = same_constant i j (of_nodes [] i li) (of_nodes [] j lj) e
same_number (n ∷ older) i j s li lj e =
    let rec = λ (a b : ℕ) (la : IsOf (trees older) a) (lb : IsOf (trees older) b) (h : tree (trees older) a ≡ tree (trees older) b). same_number older a b s.2 la lb h in
    let li' = of_nodes (n ∷ older) i li in
    let lj' = of_nodes (n ∷ older) j lj in
    elim (cases_eq i (length older + 2)) [
      | inl ei ↦ elim (cases_eq j (length older + 2)) [
        | inl ej ↦ ei ∙ sym ej
        | inr nj ↦ let lt = nodes_of older j (omega arith) in
            absurd (is_new n older j s lt rec (sym (tree_newest n older i ei) ∙ e ∙ tree_older n older j lt))
      ]
      | inr ni ↦ let lt = nodes_of older i (omega arith) in elim (cases_eq j (length older + 2)) [
        | inl ej ↦ absurd (is_new n older i s lt rec (sym (tree_newest n older j ej) ∙ sym e ∙ tree_older n older i lt))
        | inr nj ↦ let lt' = nodes_of older j (omega arith) in rec i j lt lt' (sym (tree_older n older i lt) ∙ e ∙ tree_older n older j lt')
      ]
    ]

pub reduced : (nodes : List Node) (i : ℕ) → IsSound nodes → IsOf (trees nodes) i → IsReduced (tree (trees nodes) i)
reduced [] i s lt = rw (tree_constant (trees []) i (of_nodes [] i lt)) tt
reduced (n ∷ older) i s lt =
    let lt' = of_nodes (n ∷ older) i lt in
    elim (cases_eq i (length older + 2)) [
      | inl e ↦
          let over = s.0 in
          rw (tree_newest n older i e) (
            over.low_from,
            over.high_from,
            λ same. over.apart (same_number older n.low n.high s.2 over.low_of over.high_of same),
            reduced older n.low s.2 over.low_of,
            reduced older n.high s.2 over.high_of,
          )
      | inr ne ↦ let of = nodes_of older i (omega arith) in rw (tree_older n older i of) (reduced older i s.2 of)
    ]

-- numbers with the same rows are the same
pub canonical : (nodes : List Node) (i j : ℕ) → IsSound nodes → IsOf (trees nodes) i → IsOf (trees nodes) j → SameRows (tree (trees nodes) i) (tree (trees nodes) j) → i ≡ j
canonical nodes i j s li lj same =
    same_number nodes i j s li lj (same_tree (tree (trees nodes) j) (tree (trees nodes) i) (reduced nodes j s lj) (reduced nodes i s li) same)

-- the node with a number is the one that was pushed there
at_front : (nodes : List Node) (k : ℕ) (d : Node) → k < length nodes → node_at nodes (k + 2) ≡ get_or (reverse nodes) k d
at_front [] k d lt = absurd (omega arith)
at_front (n ∷ older) k d lt =
    let len = length-reverse older in
    let turned : reverse (n ∷ older) ≡ reverse older ++ n ∷ [] = reverse-append (n ∷ []) older in
    elim (cases_eq k (length older)) [
      | inl e ↦ rw (at_newest n older (k + 2) (omega arith), turned) (sym (get_or_push (reverse older) n d k (omega arith)))
      | inr ne ↦ rw (at_older n older (k + 2) (omega arith), turned, at_front older k d (omega arith)) (sym (get_or_append_left (reverse older) (n ∷ []) d k (omega arith)))
    ]

pub pushed_at : (items : List Node) (k : ℕ) (d : Node) → k < length items → node_at (reverse items) (k + 2) ≡ get_or items k d
pushed_at items k d lt =
    let len = length-reverse items in
    at_front (reverse items) k d (omega arith) ∙ ap (λ l. get_or l k d) (reverse-reverse items)
