-- The definitions, evaluated.
use Rattle.std.proofs.Common.{◌≡◌, ℕ, zero, suc, pos, false, true, List, [], ◌∷◌, refl}
use Rattle.certificate.specs.declared.fact.Fact.TheVariants.{Cti, Norm}
use Rattle.certificate.specs.declared.norm.CertNorm.TheVariants as norm
use Rattle.cti_terms.specs.Tree.{Tree, Variable, Compound, End, More, is_rigid}
use Rattle.call_components.proofs.Lists.{contains_has, has_contains}
use Rattle.call_components.specs.Table.{Has}
use Rattle.cert_checker.specs.Bounding.{NamedAreRigid, rigid_in}

not_first : Has (2 ∷ []) 1 → ⊥
not_first (zero, e) = cc
not_first (suc k, e) = cc

-- the arguments X and a meet the mode of argument 2
pub second_argument_is_rigid : NamedAreRigid is_rigid (2 ∷ []) 1 (Variable 0 ∷ Compound 7 End ∷ [])
second_argument_is_rigid = ((λ has. absurd (not_first (contains_has (2 ∷ []) 1 has))), ((λ has. refl), tt))

-- and not that of argument 1
pub first_argument_is_not_rigid : NamedAreRigid is_rigid (1 ∷ []) 1 (Variable 0 ∷ Compound 7 End ∷ []) → ⊥
first_argument_is_not_rigid h = let no : false ≡ true = h.0 (has_contains (1 ∷ []) 1 (0, refl)) in cc

-- every atom meets the mode that names no argument
pub empty_mode_is_met : NamedAreRigid is_rigid [] 1 (Variable 0 ∷ Variable 1 ∷ [])
empty_mode_is_met = ((λ has. absurd (none 1 (contains_has [] 1 has))), ((λ has. absurd (none 2 (contains_has [] 2 has))), tt))
  where
    none : (i : ℕ) → Has [] i → ⊥
    none i (k, e) = cc

-- the names a and '.', and the lists [X] and [a|X]
abbrev two_names : List (List ℕ)
two_names = (97 ∷ []) ∷ ((46 ∷ []) ∷ [])

abbrev closed_list : Tree
closed_list = Compound 1 (More (Variable 0) (More (Compound 0 End) End))

abbrev open_list : Tree
open_list = Compound 1 (More (Compound 0 End) (More (Variable 0) End))

-- by list size a list is rigid that ends in no variable
pub closed_lists_are_rigid : rigid_in two_names (Cti (pos 2) ∷ (Norm norm.List ∷ [])) closed_list ≡ true
closed_lists_are_rigid = refl

pub open_lists_are_not : rigid_in two_names (Cti (pos 2) ∷ (Norm norm.List ∷ [])) open_list ≡ false
open_lists_are_not = refl

-- and by term size none is that has a variable
pub variables_are_not_rigid : rigid_in two_names (Cti (pos 2) ∷ (Norm norm.Term ∷ [])) closed_list ≡ false
variables_are_not_rigid = refl

pub nor_in_version_1 : rigid_in two_names (Cti (pos 1) ∷ []) closed_list ≡ false
nor_in_version_1 = refl
