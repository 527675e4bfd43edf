-- Private.
-- How a proof distinguishes atoms, so that a contract may see a struct as a list of them. Nothing here has to be
-- believed.
use Rattle.std.specs.Prelude.{ℕ, List, refl}
use Rattle.std.specs.Coded.{Coded, code_by, coded×, coded_ℕ, coded_list}
use Rattle.cti_terms.specs.Tree.{Tree}
use Rattle.cti_terms.specs.Coding.{coded_tree}
use Rattle.cti_terms.specs.declared.atom_list.Atom.{Atom}

-- an atom is stored as its predicate's number and its arguments
abbrev pub coded_atom : Coded Atom
coded_atom =
    code_by (ℕ × List Tree) (coded× coded_ℕ (coded_list coded_tree)) (λ a. (a.pred.0, a.args)) (λ p. record { pred = record { 0 = p.0 }; args = p.1 }) (λ _. refl)
