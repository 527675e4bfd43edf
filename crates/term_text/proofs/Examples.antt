-- The definitions evaluated.
use Rattle.std.proofs.Common.{◌≡◌, ℕ, List, [], ◌∷◌, ◌++◌, codes, refl}
use Rattle.std.specs.Prelude.{pos, neg_ℤ}
use Rattle.std.specs.Fmt.{digits}
use Rattle.cti_terms.specs.Tree.{Tree, Variable, Integer, Compound, End, More}
use Rattle.cti_terms.specs.Arithmetic.{no_arithmetic}
use Rattle.cti_terms.specs.Listing.{Listing}
use Rattle.cti_terms.specs.declared.atom_list.Atom.{Atom}
use Rattle.ld_resolver.specs.declared.answer.Answer.TheVariants.{Atoms, Large}
use Rattle.ld_resolver.specs.declared.running.Ending.TheVariants.{Stopped}
use Rattle.prolog_tokens.specs.Spelling.{spelling, spelled_byte}
use Rattle.term_text.specs.Spelling.{term_text}
use Rattle.term_text.specs.RunLines.{run_lines}

abbrev names : List (List ℕ)
names = codes "p" ∷ codes "." ∷ codes "[]" ∷ codes "x y" ∷ []

abbrev cell : Tree → Tree → Tree
cell head tail = Compound 1 (More head (More tail End))

abbrev end : Tree
end = Compound 2 End

-- a list, and one whose tail is a variable
closed_list : term_text names (cell (Integer (pos 97)) (cell (Variable 0) end)) ≡ codes "[97,_1]"
unfolding spelling digits
closed_list = refl

open_list : term_text names (cell (Integer (neg_ℤ (pos 7))) (cell (Variable 1) (Variable 0))) ≡ codes "[-7,_2|_1]"
unfolding spelling digits
open_list = refl

-- names with arguments, and a name that stands in quotes
functional_term : term_text names (Compound 0 (More (Compound 3 End) (More end (More (Compound 1 (More end End)) End)))) ≡ codes "p('x y',[],'.'([]))"
unfolding spelling spelled_byte digits
functional_term = refl

-- the lines of a run
abbrev program : Listing
program = record { preds = record { name = record { 0 = 0 }; arity = 1 } ∷ []; clauses = []; arithmetic = no_arithmetic }

abbrev atom : Tree → Atom
atom t = record { pred = record { 0 = 0 }; args = t ∷ [] }

two_answers : run_lines names program (Atoms (atom (Variable 0) ∷ atom end ∷ []) ∷ Large ∷ []) 12 3 Stopped
    ≡ codes "answer([p(_1),p([])]).\n" ++ codes "answer(large).\n" ++ codes "ran(12,3,stopped).\n"
unfolding spelling digits
two_answers = refl
