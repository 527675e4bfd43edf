-- Private.
-- How the logic stores a list of trees: each tree as its leaves and variables, branches before their variable. Nothing
-- here has to be believed.
use Rattle.std.specs.Prelude.{◌≡◌, ℕ, Bool, false, List, [], ◌∷◌, ◌++◌, ◌⊎◌}
use Rattle.std.specs.Coded.{Coded, code_by, coded_ℕ, coded_bool, coded_list, coded⊎}
use Rattle.std.proofs.Common.{inl, inr, refl, ◌∙◌, append_assoc, append-nil, ap}
use Rattle.bool_diagrams.specs.Tree.{Tree, leaf, branch}

abbrev words : Tree → List (Bool ⊎ ℕ)
words (leaf b) = inl b ∷ []
words (branch v low high) = words low ++ (words high ++ (inr v ∷ []))

abbrev top : List Tree → Tree → Tree
top [] d = d
top (t ∷ ts) d = t

abbrev join_top : ℕ → List Tree → List Tree
join_top v [] = []
join_top v (high ∷ []) = []
join_top v (high ∷ (low ∷ rest)) = branch v low high ∷ rest

abbrev read : List (Bool ⊎ ℕ) → List Tree → List Tree
read [] stack = stack
read (inl b ∷ ws) stack = read ws (leaf b ∷ stack)
read (inr v ∷ ws) stack = read ws (join_top v stack)

read-words : (t : Tree) (ws : List (Bool ⊎ ℕ)) (stack : List Tree) → read (words t ++ ws) stack ≡ read ws (t ∷ stack)
read-words (leaf b) ws stack = refl
read-words (branch v low high) ws stack =
    rw (append_assoc (words low) (words high ++ (inr v ∷ [])) ws, append_assoc (words high) (inr v ∷ []) ws)
    (read-words low (words high ++ (inr v ∷ ws)) stack ∙ read-words high (inr v ∷ ws) (low ∷ stack))

abbrev tree_from : List (Bool ⊎ ℕ) → Tree
tree_from ws = top (read ws []) (leaf false)

pub tree_from-words : (t : Tree) → tree_from (words t) ≡ t
tree_from-words t =
    let whole = read-words t [] [] in
    let plain = rw (append-nil (words t)) at whole in
    ap (λ (ts : List Tree). top ts (leaf false)) plain

abbrev pub trees_code : Coded (List Tree)
trees_code = coded_list (code_by (List (Bool ⊎ ℕ)) (coded_list (coded⊎ coded_bool coded_ℕ)) words tree_from tree_from-words)
