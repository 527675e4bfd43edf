-- Private.
-- What is left to be written. Nothing here has to be believed.
use Rattle.std.specs.Prelude.{ℕ, ◌+◌, ◌*◌, ◌-◌, List, [], ◌∷◌, ◌++◌, codes}
use Rattle.cti_terms.specs.Tree.{nodes_of, all_nodes}
use Rattle.cti_terms.specs.Spell.{tree_of, trees_of}
use Rattle.term_text.specs.declared.part.Part.{Part}
use Rattle.term_text.specs.declared.part.Part.TheVariants as part
use Rattle.term_text.specs.Spelling.{spelled, all_spelled, other_arguments}

-- the text of a part
abbrev pub part_text : List (List ℕ) → Part → List ℕ
part_text names (part.Alone t) = (spelled names (tree_of t.now)).alone
part_text names (part.Tail t) = (spelled names (tree_of t.now)).as_tail
part_text names (part.Arguments ts) = other_arguments (all_spelled names (trees_of ts.now))
part_text names part.ListEnd = codes "]"

-- the text of parts on a stack, the last of which is written first
abbrev pub left_text : List (List ℕ) → List Part → List ℕ
left_text names [] = []
left_text names (p ∷ ps) = left_text names ps ++ part_text names p

-- an upper bound of how often a part is taken from the stack
abbrev pub part_work : Part → ℕ
part_work (part.Alone t) = 3 * nodes_of (tree_of t.now) - 1
part_work (part.Tail t) = 3 * nodes_of (tree_of t.now) + 1
part_work (part.Arguments ts) = 3 * all_nodes (trees_of ts.now) + 1
part_work part.ListEnd = 1

-- the same for the parts on a stack
abbrev pub left_work : List Part → ℕ
left_work [] = 0
left_work (p ∷ ps) = part_work p + left_work ps
