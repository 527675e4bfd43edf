-- One step of the walk over the paths.
use Rattle.std.proofs.Common.{◌≡◌, ℕ, ◌+◌, ◌-◌, ◌≤◌, Bool, true, false, List, [], ◌∷◌, ◌++◌, map, replicate, length, take, refl, sym, ◌∙◌, ap, arith, append_assoc, append-nil}
use Rattle.std.proofs.lemmas.List.{map-append, map-id, length-append, length-replicate, take_all, take_at}
use Rattle.bool_diagrams.specs.declared.cube.Cell.{Cell}
use Rattle.bool_diagrams.specs.declared.cube.Cell.TheVariants.{Zero, One, Any}
use Rattle.bool_diagrams.specs.declared.node.Node.{Node}
use Rattle.bool_diagrams.specs.Tree.{Tree, leaf, branch, IsFrom, IsReduced}
use Rattle.bool_diagrams.specs.Rows.{tree}
use Rattle.bool_diagrams.specs.Joins.{Stands}
use Rattle.bool_diagrams.specs.Cubes.{cubes}
use Rattle.bool_diagrams.specs.Paths.{rows_from, DependsBelow}
use Rattle.bool_diagrams.proofs.CubeLemmas.{IsBelow, cubes_agree, all_below, variable_below, low_depends, high_depends}
use Rattle.bool_diagrams.proofs.PathLemmas.{behind, paths_of, paths_are_cubes}

-- a prefix with a cell for each variable up to one
pub filled : (p q : List Cell) (n m : ℕ) → n ≡ length p → length p ≤ m → q ≡ take m p ++ replicate (m - n) Any → q ≡ p ++ replicate (m - length p) Any
filled p q n m e le is = is ∙ rw (e, take_all m p le) refl

pub length-filled : (p q : List Cell) (m : ℕ) → length p ≤ m → q ≡ p ++ replicate (m - length p) Any → length q ≡ m
length-filled p q m le is =
    let len = length-append p (replicate (m - length p) Any) in
    let more = length-replicate (m - length p) Any in
    ap length is ∙ (omega arith)

-- the list with the cubes of a tree, each after the prefix
abbrev pub Walked : List Cell → ℕ → Tree → List (List Cell) → List (List Cell) → Type 0
Walked p width t f f' = f' ≡ f ++ map (λ cube. p ++ cube) (cubes (width - length p) (rows_from (length p) t))

walked : (p : List Cell) (width : ℕ) (t : Tree) (f f' : List (List Cell)) → length p ≤ width → IsReduced t → IsFrom (length p) t → IsBelow width t
    → f' ≡ f ++ map (λ cube. p ++ cube) (paths_of width (length p) t) → Walked p width t f f'
walked p width t f f' le r from below is = is ∙ rw (paths_are_cubes (width - length p) width (length p) t (omega arith) r from below) refl

unwalked : (p : List Cell) (width : ℕ) (t : Tree) (f f' : List (List Cell)) → length p ≤ width → IsReduced t → IsFrom (length p) t → IsBelow width t
    → Walked p width t f f' → f' ≡ f ++ map (λ cube. p ++ cube) (paths_of width (length p) t)
unwalked p width t f f' le r from below is = is ∙ rw (paths_are_cubes (width - length p) width (length p) t (omega arith) r from below) refl

pub walked_none : (p : List Cell) (width : ℕ) (t : Tree) (f : List (List Cell)) → length p ≤ width → t ≡ leaf false → Walked p width t f f
walked_none p width t f le is = rw is (walked p width (leaf false) f f le tt tt tt (sym (append-nil f)))

pub walked_all : (p q : List Cell) (width : ℕ) (t : Tree) (f f' : List (List Cell)) → length p ≤ width → t ≡ leaf true
    → q ≡ p ++ replicate (width - length p) Any → f' ≡ f ++ q ∷ [] → Walked p width t f f'
walked_all p q width t f f' le is q_is f_is = rw is (walked p width (leaf true) f f' le tt tt tt (f_is ∙ rw q_is refl))

regrouped : (p q w : List Cell) (m : ℕ) (cell : Cell) (xs : List (List Cell)) → q ≡ p ++ replicate m Any → w ≡ q ++ cell ∷ []
    → map (λ cube. w ++ cube) xs ≡ map (λ cube. p ++ cube) (map (behind m cell) xs)
regrouped p q w m cell [] q_is w_is = refl
regrouped p q w m cell (x ∷ xs) q_is w_is =
    let one : w ++ x ≡ p ++ (replicate m Any ++ (cell ∷ x)) =
    rw (w_is, q_is, append_assoc (p ++ replicate m Any) (cell ∷ []) x, append_assoc p (replicate m Any) (cell ∷ x)) refl in
    rw (one, regrouped p q w m cell xs q_is w_is) refl

-- what the walk asks of a half
pub half_ready : (ts : List Tree) (width i : ℕ) (n : Node) (p q w : List Cell) (cell : Cell) → Stands ts i n → IsReduced (tree ts i) → DependsBelow width (tree ts i)
    → length q ≡ n.variable → w ≡ q ++ cell ∷ [] → (length w ≡ n.variable + 1) × (length w ≤ width)
half_ready ts width i n p q w cell s r depends len is =
    let lt = variable_below width n.variable (tree ts n.low) (tree ts n.high) (rw s.spells at r) (rw s.spells at depends) in
    let one = length-append q (cell ∷ []) in
    let all = ap length is in
    (omega arith, omega arith)

pub low_ready : (ts : List Tree) (width i : ℕ) (n : Node) → Stands ts i n → IsReduced (tree ts i) → DependsBelow width (tree ts i) → DependsBelow width (tree ts n.low)
low_ready ts width i n s r depends = low_depends width n.variable (tree ts n.low) (tree ts n.high) (rw s.spells at r) (rw s.spells at depends)

pub high_ready : (ts : List Tree) (width i : ℕ) (n : Node) → Stands ts i n → IsReduced (tree ts i) → DependsBelow width (tree ts i) → DependsBelow width (tree ts n.high)
high_ready ts width i n s r depends = high_depends width n.variable (tree ts n.low) (tree ts n.high) (rw s.spells at r) (rw s.spells at depends)

-- the cubes of a node, from those of its halves
pub walked_node : (p q w w' : List Cell) (width v : ℕ) (low high : Tree) (f f1 f2 : List (List Cell)) → length p ≤ v → IsReduced (branch v low high) → DependsBelow width (branch v low high)
    → q ≡ p ++ replicate (v - length p) Any → w ≡ q ++ Zero ∷ [] → Walked w width low f f1 → w' ≡ q ++ One ∷ [] → Walked w' width high f1 f2
    → Walked p width (branch v low high) f f2
walked_node p q w w' width v low high f f1 f2 le r depends q_is w_is low_walk w'_is high_walk =
    let below = all_below width (branch v low high) r depends in
    let v_lt = below.0 in
    let len_q = length-filled p q v le q_is in
    let len_w : length w ≡ v + 1 = ap length w_is ∙ length-append q (Zero ∷ []) ∙ ap (λ (k : ℕ). k + 1) len_q in
    let len_w' : length w' ≡ v + 1 = ap length w'_is ∙ length-append q (One ∷ []) ∙ ap (λ (k : ℕ). k + 1) len_q in
    let xs = paths_of width (v + 1) low in
    let ys = paths_of width (v + 1) high in
    let on_low = rw len_w at (unwalked w width low f f1 (omega arith) r.3 (rw len_w r.0) below.1 low_walk) in
    let on_high = rw len_w' at (unwalked w' width high f1 f2 (omega arith) r.4 (rw len_w' r.1) below.2 high_walk) in
    let m = v - length p in
    let all : f2 ≡ f ++ map (λ cube. p ++ cube) (map (behind m Zero) xs ++ map (behind m One) ys) =
    on_high ∙ rw (
      on_low,
      regrouped p q w m Zero xs q_is w_is,
      regrouped p q w' m One ys q_is w'_is,
      append_assoc f (map (λ cube. p ++ cube) (map (behind m Zero) xs)) (map (λ cube. p ++ cube) (map (behind m One) ys)),
      map-append (λ cube. p ++ cube) (map (behind m Zero) xs) (map (behind m One) ys),
    ) refl in
    walked p width (branch v low high) f f2 (omega arith) r le below all

-- a node's variable is not before the level
pub level_first : (ts : List Tree) (i l : ℕ) (n : Node) → Stands ts i n → IsFrom l (tree ts i) → l ≤ n.variable
level_first ts i l n s from = rw s.spells at from

-- the prefix is cut back to the node's variable
pub cut_back : (p q w r : List Cell) (v : ℕ) (cell : Cell) → length q ≡ v → w ≡ q ++ cell ∷ [] → p ≡ w → r ≡ take v p → r ≡ q
cut_back p q w r v cell len w_is p_is r_is = r_is ∙ rw (p_is, w_is) (take_at q (cell ∷ []) v len)

-- and gets its next cell
pub pushed : (q r w : List Cell) (cell : Cell) → r ≡ q → w ≡ r ++ cell ∷ [] → w ≡ q ++ cell ∷ []
pushed q r w cell r_is w_is = w_is ∙ rw r_is refl

-- what the whole walk finds
pub found_whole : (p : List Cell) (width : ℕ) (t : Tree) (f f' : List (List Cell)) (set : List Bool → Bool) → p ≡ [] → f ≡ []
    → ((row : List Bool) → rows_from 0 t row ≡ set row) → Walked p width t f f' → f' ≡ cubes width set
found_whole p width t f f' set p_is f_is same is =
    let whole = rw (p_is, f_is) at is in
    let n : width - 0 ≡ width = omega arith in
    whole ∙ rw (n, map-id) (cubes_agree width (rows_from 0 t) set same)
