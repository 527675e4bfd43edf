-- To believe, for the modes.
-- A component as its measures see it: its clauses in order, with the predicates as members or as lower ones.
--
-- A view holds all that mappings and preconditions of a component depend on, so that two components with equal views
-- have the same ones, whatever the numbers of their predicates and clauses are.
--
-- To believe: all of this file, where mappings of a component are spoken of.
use Rattle.std.specs.Prelude.{ℕ, zero, suc, ◌==◌, ℤ, pos, negsuc, Bool, true, false, ◌&&◌, if◌then◌else◌, List, [], ◌∷◌, ◌++◌, map, filter}
use Rattle.std.specs.List.{list_any}
use Rattle.linear_rows.specs.Rows.{HoldsOn}
use Rattle.cti_terms.specs.Tree.{Tree}
use Rattle.cti_terms.specs.declared.atom_list.Atom.{Atom}
use Rattle.cti_terms.specs.declared.clauses.Clause.{Clause}
use Rattle.cti_terms.specs.Listing.{Listing}
use Rattle.termination_model.specs.sizes.Rows.{scaled, added}
use Rattle.termination_model.specs.sizes.Systems.{row_over}
use Rattle.termination_model.specs.claims.Claims.{Mapping, Claims}

-- a member, by its place among the members, or a predicate below, with the rows that it admits
pub data Place : Type 0 where
  Member : ℕ → Place
  Lower : (List Bool → Bool) → Place

-- a call in a body: its arguments, the size rows and the ground rows of its predicate, and whether that is a member
pub record Call : Type 0 where
  pub args : List Tree
  pub rows : List (List ℤ)
  pub grounds : List Bool → Bool
  pub place : Place

-- a clause: its head's predicate as a member, its head's arguments, how many variables it has, and its calls
pub record Rule : Type 0 where
  pub member : ℕ
  pub args : List Tree
  pub vars : ℕ
  pub body : List Call

-- the size rows of calls, in order, over n variables
abbrev pub system_of : (ℕ → Tree → List ℤ) → ℕ → List Call → List (List ℤ)
system_of expression n [] = []
system_of expression n (b ∷ bs) = map (row_over expression n b.args) b.rows ++ system_of expression n bs

module _ (expression : ℕ → Tree → List ℤ) where
  -- the level by a mapping of an atom of member q with arguments ts, as a row over n variables
  abbrev pub level_over : ℕ → ℕ → List Tree → Mapping → List ℤ
  level_over n q ts l = row_over expression n ts (pos (l.offset q) ∷ map pos (l.coefficients q))

  -- the level of a clause's head, less that of a call, less d
  abbrev pub fall_over : Rule → ℕ → List Tree → ℕ → Mapping → List ℤ
  fall_over k q ts d l = added (level_over k.vars k.member k.args l) (scaled (negsuc 0) (added (level_over k.vars q ts l) (pos d ∷ [])))

  -- where the rows hold, the mapping at place i falls from the head to the call, and none before it rises
  abbrev pub FallsOver : Rule → List (List ℤ) → ℕ → List Tree → ℕ → List Mapping → Type 0
  FallsOver k rows q ts i [] = ⊥
  FallsOver k rows q ts zero (l ∷ ls) = HoldsOn (suc k.vars) rows (fall_over k q ts 1 l)
  FallsOver k rows q ts (suc i) (l ∷ ls) = HoldsOn (suc k.vars) rows (fall_over k q ts 0 l) × FallsOver k rows q ts i ls

-- f is true at this row and at each row that is true wherever this one is
abbrev pub all_upper : (List Bool → Bool) → List Bool → Bool
all_upper f [] = f []
all_upper f (true ∷ bs) = all_upper (λ us. f (true ∷ us)) bs
all_upper f (false ∷ bs) = all_upper (λ us. f (true ∷ us)) bs && all_upper (λ us. f (false ∷ us)) bs

-- the rows that some measure of a predicate's component admits
abbrev pub upward_union : Claims → ℕ → List Bool → Bool
upward_union c q bs = list_any (λ m. all_upper (m.pre q) bs) (c.measures (c.rank q))

-- a predicate as component r sees it, whose members `index` numbers
abbrev pub place_of : Claims → ℕ → (ℕ → ℕ) → ℕ → Place
place_of c r index q = if c.rank q == r then Member (index q) else Lower (upward_union c q)

-- an atom, a clause, and all clauses of the component, as it sees them
abbrev pub call_of : Claims → ℕ → (ℕ → ℕ) → Atom → Call
call_of c r index a = record { args = a.args; rows = c.rows a.pred.0; grounds = c.grounds a.pred.0; place = place_of c r index a.pred.0 }

abbrev pub rule_of : Claims → ℕ → (ℕ → ℕ) → Clause → Rule
rule_of c r index k = record { member = index k.head.pred.0; args = k.head.args; vars = k.vars; body = map (call_of c r index) k.body }

abbrev pub view_of : Listing → Claims → ℕ → (ℕ → ℕ) → List Rule
view_of p c r index = map (rule_of c r index) (filter (λ k. c.rank k.head.pred.0 == r) p.clauses)
