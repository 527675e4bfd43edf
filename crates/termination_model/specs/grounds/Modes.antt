-- To believe, for the modes.
-- The modes of a set of truth rows: its minimal rows, each as the ascending list of the arguments that are true.
--
-- To believe: `modes`.
use Rattle.std.specs.Prelude.{ℕ, zero, suc, ◌&&◌, not, nat_lt, nat_eq, Bool, List, [], ◌∷◌, ◌++◌, map, filter, length}
use Rattle.std.specs.List.{list_all, list_any}
use Rattle.termination_model.specs.claims.Descent.{mode_row}

-- the ascending lists of k of the m numbers from i on, in lexicographic order: `chosen 2 1 3` is [1,2], [1,3], [2,3]
abbrev pub chosen : ℕ → ℕ → ℕ → List (List ℕ)
chosen zero i m = [] ∷ []
chosen (suc k) i zero = []
chosen (suc k) i (suc m) = map (λ args. i ∷ args) (chosen k (suc i) m) ++ chosen (suc k) (suc i) m

-- those of at most k arguments, the shorter ones first
abbrev pub chosen_up_to : ℕ → ℕ → List (List ℕ)
chosen_up_to n zero = chosen zero 1 n
chosen_up_to n (suc k) = chosen_up_to n k ++ chosen (suc k) 1 n

-- whether each number of the first list is in the second
abbrev pub is_part : List ℕ → List ℕ → Bool
is_part xs ys = list_all (λ x. list_any (λ y. nat_eq x y) ys) xs

-- the minimal rows of n truth values that a set has, by length and then in lexicographic order
abbrev pub modes : ℕ → (List Bool → Bool) → List (List ℕ)
modes n set =
    let all = filter (λ args. set (mode_row args 1 n)) (chosen_up_to n n) in
    filter (λ args. not (list_any (λ less. nat_lt (length less) (length args) && is_part less args) all)) all
