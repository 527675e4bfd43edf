-- Worked examples: the definitions, evaluated.
--
-- Names by number: 0 is `[]`, 1 is `'.'`, 4 is `f`. Variables by number: 0 is X, 1 is Y, 2 is Z.
use Rattle.std.proofs.Common.{◌≡◌, ℕ, zero, suc, pos, [], ◌∷◌, refl}
use Rattle.cti_terms.specs.Tree.{Tree, Variable, Integer, Compound, trees}
use Rattle.term_size.specs.Norm.{value_of}
use Rattle.term_size.specs.Occurrences.{size_row}
use Rattle.term_size.specs.Members.{members, members_from}

-- [X,Y|Z] has two names with arguments, and each variable once
abbrev open_list : Tree
open_list = Compound 1 (trees (Variable 0 ∷ Compound 1 (trees (Variable 1 ∷ Variable 2 ∷ [])) ∷ []))

open_list_row : size_row 4 open_list ≡ pos 2 ∷ pos 1 ∷ pos 1 ∷ pos 1 ∷ pos 0 ∷ []
open_list_row = refl

-- f(X,f(Z),X) counts X twice
abbrev twice : Tree
twice = Compound 4 (trees (Variable 0 ∷ Compound 4 (trees (Variable 2 ∷ [])) ∷ Variable 0 ∷ []))

twice_row : size_row 3 twice ≡ pos 2 ∷ pos 2 ∷ pos 0 ∷ pos 1 ∷ []
twice_row = refl

-- an atom and an integer have size 0
atom_row : size_row 1 (Compound 0 (trees [])) ≡ pos 0 ∷ pos 0 ∷ []
atom_row = refl

integer_row : size_row 1 (Integer (pos 7)) ≡ pos 0 ∷ pos 0 ∷ []
integer_row = refl

-- where X has size 3 and Z has size 5, f(X,f(Z),X) has size 13
abbrev sizes : ℕ → ℕ
sizes zero = 3
sizes (suc n) = 5

twice_value : value_of (size_row 3 twice) sizes ≡ pos 13
twice_value = refl

-- bits 0 and 2 are the members 0 and 2
two_members : members (record { 0 = 5 }) ≡ 0 ∷ 2 ∷ []
unfolding members members_from
two_members = refl
