-- Private.
-- What clauses say of the columns of their atoms, and a clause's system.
--
-- A predicate has columns, and each of its rows has a constant and a number for each column. A clause has naturals, and
-- over them each row of an atom of its body is a row again, and a column of its head is an expression, where it has
-- one. A column of the head that has none may be any natural: the clause's system has a natural of its own for it,
-- which comes after the others, and of which no row of the body speaks.
--
-- To believe: all of this file.
use Rattle.std.specs.Prelude.{◌≡◌, ℕ, suc, ◌+◌, ◌^◌, ◌<◌, ◌≤ℤ◌, ℤ, pos, true, List, [], ◌∷◌, ◌++◌, map, length, slice_get, Option, None, Some, All}
use Rattle.std.specs.List.{AllByRecursion}
use Rattle.cti_terms.specs.Arithmetic.{kind_of}
use Rattle.cti_terms.specs.Listing.{Listing}
use Rattle.cti_terms.specs.declared.atom_list.Atom.{Atom}
use Rattle.cti_terms.specs.declared.builtins.Builtin.{Builtin}
use Rattle.cti_terms.specs.declared.clauses.Clause.{Clause}
use Rattle.cti_terms.specs.declared.predicates.Pred.{Pred}
use Rattle.linear_rows.specs.Plain.{HaveWidth}
use Rattle.linear_rows.specs.Replacing.{row_fits, substituted}
use Rattle.linear_rows.specs.Solving.{units, zeros}
use Rattle.linear_rows.specs.declared.row.Rows.{Rows}

-- how many columns a predicate has, how many naturals a clause; over these a row of an atom of its body, and the
-- columns of its head; and the stated rows of a built-in predicate
pub record Systems : Type 0 where
  pub width : ℕ → ℕ
  pub naturals : Clause → ℕ
  pub over : Clause → Atom → List ℤ → List ℤ
  pub heads : Clause → List (Option (List ℤ))
  pub stated : Builtin → List (List ℤ)

-- an expression has a constant and a number for each of n naturals, none of them below 0
abbrev pub IsHeadColumn : ℕ → Option (List ℤ) → Type 0
IsHeadColumn n None = Unit {0}
IsHeadColumn n (Some e) = (length e ≡ suc n) × All (λ x. pos 0 ≤ℤ x) e

-- a clause's head has the columns of its predicate
pub record AreColumnsOf (s : Systems) (k : Clause) : Type 0 where
  pub each : s.width k.head.pred.0 ≡ length (s.heads k)
  pub expressions : AllByRecursion (IsHeadColumn (s.naturals k)) (s.heads k)
  pub few : s.naturals k + length (s.heads k) < 2 ^ 32

-- what is asked of them for a program: stated rows are of their predicate's columns, and fit
pub record AreSystems (p : Listing) (s : Systems) : Type 0 where
  pub clauses : AllByRecursion (AreColumnsOf s) p.clauses
  pub stated : (q : ℕ) (b : Builtin) → kind_of p.arithmetic q ≡ Some b → AllByRecursion (λ (r : List ℤ). (length r ≡ suc (s.width q)) × (row_fits r ≡ true)) (s.stated b)

-- rows for each predicate, over its columns
pub record AreSizes (s : Systems) (preds : List Pred) (rows : List Rows) : Type 0 where
  pub each : length rows ≡ length preds
  pub width : (q : ℕ) (r : Rows) → slice_get rows q ≡ Some r → (s.width q ≡ r.width) × HaveWidth r.width r.list

-- ---- a clause's system
-- the rows of atoms of the clause, in order
abbrev pub system : Systems → (ℕ → List (List ℤ)) → Clause → List Atom → List (List ℤ)
system s rows k [] = []
system s rows k (b ∷ bs) = map (s.over k b) (rows b.pred.0) ++ system s rows k bs

-- how many columns have no expression
abbrev pub missing : List (Option (List ℤ)) → ℕ
missing [] = 0
missing (None ∷ es) = suc (missing es)
missing (Some e ∷ es) = missing es

-- a row with zeros for m more naturals
abbrev pub widened : ℕ → List ℤ → List ℤ
widened m r = r ++ zeros m

-- columns over n naturals and m more, of which those from place i on stand for the columns without an expression
abbrev pub tied : ℕ → ℕ → ℕ → List (Option (List ℤ)) → List (List ℤ)
tied n m i [] = []
tied n m i (None ∷ es) = (pos 0 ∷ (zeros n ++ units m i)) ∷ tied n m (suc i) es
tied n m i (Some e ∷ es) = widened m e ∷ tied n m i es

abbrev pub naturals_of : Systems → Clause → ℕ
naturals_of s k = s.naturals k + missing (s.heads k)

abbrev pub body_of : Systems → (ℕ → List (List ℤ)) → Clause → List (List ℤ)
body_of s rows k = map (widened (missing (s.heads k))) (system s rows k k.body)

abbrev pub head_of : Systems → Clause → List (List ℤ)
head_of s k = tied (s.naturals k) (missing (s.heads k)) 0 (s.heads k)

-- a row over the head's columns, over these naturals
abbrev pub at_head : Systems → Clause → List ℤ → List ℤ
at_head s k = substituted (naturals_of s k) (head_of s k)
