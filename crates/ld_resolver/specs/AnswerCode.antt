-- Private.
-- How a proof distinguishes answers, so that a contract may see a list of them. Nothing here has to be believed.
use Rattle.std.specs.Prelude.{ℕ, List, ◌⊎◌, refl}
use Rattle.std.proofs.Common.{inl, inr, ◌≡◌}
use Rattle.std.specs.Coded.{Coded, code_by, coded⊎, coded_ℕ, coded_list}
use Rattle.cti_terms.specs.Codes.{coded_atom}
use Rattle.cti_terms.specs.declared.atom_list.Atom.{Atom}
use Rattle.ld_resolver.specs.declared.answer.Answer.{Answer}
use Rattle.ld_resolver.specs.declared.answer.Answer.TheVariants.{Atoms, Large}

-- an answer as its atoms, or as a number
abbrev pub stored_answer : Answer → List Atom ⊎ ℕ
stored_answer (Atoms atoms) = inl atoms
stored_answer Large = inr 0

abbrev pub read_answer : List Atom ⊎ ℕ → Answer
read_answer (inl atoms) = Atoms atoms
read_answer (inr n) = Large

-- what was stored is read
pub answer_back : (a : Answer) → read_answer (stored_answer a) ≡ a
answer_back (Atoms atoms) = refl
answer_back Large = refl

abbrev pub coded_answer : Coded Answer
coded_answer = code_by (List Atom ⊎ ℕ) (coded⊎ (coded_list coded_atom) coded_ℕ) stored_answer read_answer answer_back
