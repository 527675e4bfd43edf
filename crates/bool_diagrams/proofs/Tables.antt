-- How a table stays sound, and what its parts give.
use Rattle.std.proofs.lemmas.List.{reverse-append, length-reverse}
use Rattle.std.proofs.Common.{IfOk, OnErr, Result, Ok, Err, is_ok, reverse, get_or, ◌++◌, ◌≡◌, ◌↔◌, ℕ, ◌+◌, ◌-◌, ◌≤◌, ◌<◌, nat_eq, Bool, IsTrue, if◌then◌else◌, List, [], ◌∷◌, length, Some, None, refl, sym, ◌∙◌, ap, arith, rules, tests}
use Rattle.std.specs.HashMap.{HashMap, get, Updates, IsUnchanged}
use Rattle.bool_diagrams.specs.declared.node.Node.{Node}
use Rattle.bool_diagrams.specs.declared.memo.Key.{Key}
use Rattle.bool_diagrams.specs.declared.memo.Key.TheVariants.{Join, Quantify}
use Rattle.bool_diagrams.specs.Tree.{Tree, value, SameRows}
use Rattle.bool_diagrams.specs.Rows.{IsOf, Keeps, tree}
use Rattle.bool_diagrams.specs.Joins.{Chooses, Stands, Splits, IsRight}
use Rattle.bool_diagrams.specs.Nodes.{trees, node_at, same_node, IsSound, IsNodeOver, IsTable}
use Rattle.bool_diagrams.proofs.Nodes.{length-trees, tree_constant, canonical, pushed_at, stands_at, keeps_new, keeps_same, stands_at_place, tree_newest}

right_keeps : (old new : List Tree) (key : Key) (i : ℕ) → Keeps old new → IsRight old key i → IsRight new key i
right_keeps old new (Join c a b) i k r =
    let m = k.more in
    let of = r.2.of in
    let l = r.0 in
    let h = r.1 in
    let left_is = k.trees a r.0 in
    let right_is = k.trees b r.1 in
    let this_is = k.trees i r.2.of in (
      omega arith,
      omega arith,
      record {
        of = omega arith;
        rows = λ row. rw (left_is, right_is, this_is) (r.2.rows row);
        from = rw (left_is, right_is, this_is) r.2.from;
      },
    )
right_keeps old new (Quantify c a v) i k r =
    let m = k.more in
    let of = r.1.of in
    let l = r.0 in
    let left_is = k.trees a r.0 in
    let this_is = k.trees i r.1.of in (
      omega arith,
      record {
        of = omega arith;
        rows = λ row. rw (left_is, this_is) (r.1.rows row);
        from = rw (left_is, this_is) r.1.from;
      },
    )

module _ {S : Type 0} (nodes : List Node) (unique : HashMap Node ℕ S) (memo : List (Key × ℕ)) where
  -- a node that is found is the one that was wanted
  pub chooses_found : (n : Node) (i : ℕ) → IsTable nodes unique memo → get same_node unique n ≡ Some i → Chooses (trees nodes) (trees nodes) n.variable n.low n.high i
  chooses_found n i t h =
      let s = stands_at_place nodes n i t.sound (sym (t.found n) ∙ h) in
      record {
        of = s.of;
        rows = λ row. rw s.spells refl;
        from = λ v le. rw s.spells le;
      }

  -- a table in which a look-up finds the same is a table
  table_unchanged : (unique' : HashMap Node ℕ S) → IsTable nodes unique memo → IsUnchanged unique unique' → IsTable nodes unique' memo
  table_unchanged unique' t same = record {
    sound = t.sound;
    found = λ n. rw same (t.found n);
    right = t.right;
  }

  -- a table with a new node is a table
  table_new : (n : Node) (unique' : HashMap Node ℕ S) → IsTable nodes unique memo → get same_node unique n ≡ None → IsNodeOver (trees nodes) n
      → Updates same_node unique unique' n (Some (length nodes + 2)) → IsTable (n ∷ nodes) unique' memo
  table_new n unique' t none over up = record {
    sound = (over, sym (t.found n) ∙ none, t.sound);
    found = λ q. up.0 q ∙ rw (t.found q) refl;
    right = λ entry there. right_keeps (trees nodes) (trees (n ∷ nodes)) entry.0 entry.1 (keeps_new n nodes) (t.right entry there);
  }

-- a new node is the one that was wanted
chooses_new : (nodes : List Node) (n : Node) → Chooses (trees nodes) (trees (n ∷ nodes)) n.variable n.low n.high (length nodes + 2)
chooses_new nodes n =
    let new = tree_newest n nodes (length nodes + 2) refl in
    let len = length-trees (n ∷ nodes) in
    record {
      of = omega arith;
      rows = λ row. rw new refl;
      from = λ v le. rw new le;
    }

-- what `add` gives of a node that the table lacks
abbrev pub Added : {S E : Type 0} → List Tree → List Node → HashMap Node ℕ S → List (Key × ℕ) → Node → Result ℕ E → Type 0
Added now nodes' unique' memo n r =
    IsTable nodes' unique' memo × Keeps now (trees nodes') × IfOk r (λ i. Chooses now (trees nodes') n.variable n.low n.high i)

added : {S E : Type 0} (items items' : List Node) (unique unique' : HashMap Node ℕ S) (memo : List (Key × ℕ)) (n : Node) (r : Result ℕ E)
    → IsTable (reverse items) unique memo → get same_node unique n ≡ None → IsNodeOver (trees (reverse items)) n
    → IfOk r (λ i. i ≡ length items + 2)
    → items' ≡ (if is_ok r then items ++ n ∷ [] else items)
    → IfOk r (λ i. Updates same_node unique unique' n (Some i)) → OnErr r (IsUnchanged unique unique')
    → Added (trees (reverse items)) (reverse items') unique' memo n r
added items items' unique unique' memo n (Ok i) t none over number nodes up same =
    let longer : reverse items' ≡ n ∷ reverse items = ap reverse nodes ∙ reverse-append items (n ∷ []) in
    let at : i ≡ length (reverse items) + 2 = rw length-reverse number in
    let updates : Updates same_node unique unique' n (Some (length (reverse items) + 2)) = rw (← at) up in
    rw (longer, at) (
      table_new (reverse items) unique memo n unique' t none over updates,
      keeps_new n (reverse items),
      chooses_new (reverse items) n,
    )
added items items' unique unique' memo n (Err e) t none over number nodes up same =
    rw nodes (table_unchanged (reverse items) unique memo unique' t same, keeps_same (trees (reverse items)), tt)

-- the same, where the table was seen as `now`
pub added_to : {S E : Type 0} (now : List Tree) (items items' : List Node) (unique unique' : HashMap Node ℕ S) (memo : List (Key × ℕ)) (n : Node) (r : Result ℕ E)
    → trees (reverse items) ≡ now → IsTable (reverse items) unique memo → get same_node unique n ≡ None → IsNodeOver now n
    → IfOk r (λ i. i ≡ length items + 2)
    → items' ≡ (if is_ok r then items ++ n ∷ [] else items)
    → IfOk r (λ i. Updates same_node unique unique' n (Some i)) → OnErr r (IsUnchanged unique unique')
    → Added now (reverse items') unique' memo n r
added_to now items items' unique unique' memo n r e t none over number nodes up same =
    rw (← e) (added items items' unique unique' memo n r t none (rw e over) number nodes up same)

-- equal numbers exactly where the rows are equal
pub same_exactly : (nodes : List Node) (a b : ℕ) → IsSound nodes → IsOf (trees nodes) a → IsOf (trees nodes) b → IsTrue (nat_eq a b) ↔ SameRows (tree (trees nodes) a) (tree (trees nodes) b)
same_exactly nodes a b s la lb = (
  λ t. let e : a ≡ b = search (tests, rules) in λ row. rw e refl,
  λ same. let e = canonical nodes a b s la lb same in search (tests, rules),
)

-- the node at its place among the items
pub stands_in : (items : List Node) (i : ℕ) (n : Node) → IsSound (reverse items) → 2 ≤ i → IsOf (trees (reverse items)) i → n ≡ get_or items (i - 2) n → Stands (trees (reverse items)) i n
stands_in items i n s two of e =
    let one = length-reverse items in
    let len = length-trees (reverse items) in
    let back : i - 2 + 2 ≡ i = omega arith in
    let is : node_at (reverse items) i ≡ n = ap (node_at (reverse items)) (sym back) ∙ pushed_at items (i - 2) n (omega arith) ∙ sym e in
    rw (← is) (stands_at (reverse items) i s two of)

pub value_constant : (ts : List Tree) (i : ℕ) (row : ℕ → Bool) → i < 2 → nat_eq i 1 ≡ value (tree ts i) row
value_constant ts i row lt = rw (tree_constant ts i lt) refl

pub splits_constant : (ts : List Tree) (variable i : ℕ) → i < 2 → IsOf ts i → Splits ts variable i i i
splits_constant ts variable i lt of =
    let is = tree_constant ts i lt in
    record {
      low_of = of;
      high_of = of;
      low_rows = λ row h. refl;
      high_rows = λ row h. refl;
      low_from = rw is tt;
      high_from = rw is tt;
      low_most = omega arith;
      high_most = omega arith;
      less = λ asks. absurd (asks (rw is tt));
    }
