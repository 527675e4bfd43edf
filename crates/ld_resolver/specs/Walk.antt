-- Private.
-- A walk along the nodes of a goal that carries what a search has at hand: the bindings and the steps so far.
-- Nothing here has to be believed.
use Rattle.std.specs.Prelude.{ℕ, zero, suc, Bool, max, ◌+◌, List, [], ◌∷◌, ◌++◌, flat_map, filter_map, length, Option, None, Some, option_and_then}
use Rattle.std.specs.List.{range_with_len}
use Rattle.cti_terms.specs.declared.atom_list.Atom.{Atom}
use Rattle.cti_terms.specs.declared.derivation.Goal.{Goal}
use Rattle.cti_terms.specs.Arithmetic.{Arithmetic, begins_wide}
use Rattle.cti_terms.specs.Listing.{Listing}
use Rattle.cti_terms.specs.Unify.{Binding}
use Rattle.cti_terms.specs.Resolve.{resolve}
use Rattle.cti_terms.specs.Answers.{reached, answer_by, is_wide_left}

-- what is met at a node: the length of its derivation, its answer, and whether its goal begins with a wide atom
pub record Visit : Type 0 where
  pub steps : ℕ
  pub answer : Option (List Atom)
  pub wide : Bool

-- what is met at the node of a resolved goal, and then below it
abbrev pub entered : Arithmetic → List Atom → (List Binding → ℕ → Goal → List Visit) → List Binding → ℕ → Option (List Binding × Goal) → List Visit
entered ar q deeper bs l None = []
entered ar q deeper bs l (Some r) = record { steps = l + 1; answer = answer_by q (bs ++ r.0) r.1.atoms; wide = begins_wide ar r.1.atoms } ∷ deeper (bs ++ r.0) (l + 1) r.1

-- what is met by these clauses
abbrev pub walk_by : Listing → List Atom → (List Binding → ℕ → Goal → List Visit) → List Binding → ℕ → Goal → List ℕ → List Visit
walk_by p q deeper bs l h ks = flat_map (λ k. entered p.arithmetic q deeper bs l (resolve p h k)) ks

-- what is met within d more steps from a goal that l steps and these bindings have left of the query's atoms
abbrev pub walk : Listing → List Atom → ℕ → List Binding → ℕ → Goal → List Visit
walk p q zero bs l h = []
walk p q (suc d) bs l h = walk_by p q (walk p q d) bs l h (range_with_len 0 (suc (length p.clauses)))

-- the answer of a derivation from such a goal
abbrev pub answer_from : Listing → List Atom → List Binding → Goal → List ℕ → Option (List Atom)
answer_from p q bs h ks = option_and_then (λ r. answer_by q (bs ++ r.0) r.1.atoms) (reached p h ks)

-- what is met at the node of a derivation from such a goal
abbrev pub visit : Listing → List Atom → List Binding → ℕ → Goal → List ℕ → Visit
visit p q bs l h ks = record { steps = l + length ks; answer = answer_from p q bs h ks; wide = is_wide_left p.arithmetic (reached p h ks) }

-- the greatest number of steps
abbrev pub most_steps : List Visit → ℕ
most_steps [] = 0
most_steps (v ∷ vs) = max v.steps (most_steps vs)

-- the answers that were met
abbrev pub met_answers : List Visit → List (List Atom)
met_answers = filter_map (λ v. v.answer)
