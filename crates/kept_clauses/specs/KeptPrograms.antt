-- Private.
-- Which clauses of the program of a list of definite clauses are those of the program of another list.
--
-- Each clause of a list is one of its program, in order, and one more may follow, that of =/2. So what is kept of a
-- program is what is kept of the list, and then the clause of =/2, where both have it.
use Rattle.std.specs.Prelude.{◌≡◌, ◌≢◌, ℕ, nat_lt, List, [], ◌∷◌, ◌++◌, length, Option, None, Some, if◌then◌else◌}
use Rattle.std.specs.List.{AllPairs}
use Rattle.cti_terms.specs.Listing.{Listing}
use Rattle.prolog_terms.specs.Clauses.{Clause as TextClause}
use Rattle.clause_normal.specs.Definite.{AreDefinite, program_of}
use Rattle.kept_clauses.specs.KeptLists.{AreKeptList}

-- two lists of definite clauses with their programs under the same names, and what is kept of the first list, which has
-- n clauses
pub record IsListEdit (names : List (List ℕ)) (cs ds : List TextClause) (n : ℕ) (kept : List (Option ℕ)) (p new : Listing) : Type 0 where
  pub distinct : AllPairs (λ (a b : List ℕ). a ≢ b) names
  pub definite_before : AreDefinite names cs
  pub definite : AreDefinite names ds
  pub before : p ≡ program_of names cs
  pub after : new ≡ program_of names ds
  pub many : length cs ≡ n
  pub kept_list : AreKeptList cs ds kept

-- what is kept of the clause of =/2, which is the last one of a program with more clauses than its list
abbrev pub equality_kept : Listing → Listing → ℕ → ℕ → List (Option ℕ)
equality_kept p new n m = if nat_lt m (length new.clauses) then (if nat_lt n (length p.clauses) then Some (length p.clauses) else None) ∷ [] else []

abbrev pub kept_of_program : Listing → Listing → ℕ → List (Option ℕ) → List (Option ℕ)
kept_of_program p new n kept = kept ++ equality_kept p new n (length kept)
