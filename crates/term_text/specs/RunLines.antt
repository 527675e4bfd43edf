-- To believe, for the command.
-- What a run prints: a line for each answer, then how far the search went and how it ended.
--
-- To believe: all of this file.
use Rattle.std.specs.Prelude.{ℕ, List, [], ◌∷◌, ◌++◌, codes, decimal, flat_map, slice_index_or}
use Rattle.cti_terms.specs.Tree.{trees}
use Rattle.cti_terms.specs.Listing.{Listing}
use Rattle.cti_terms.specs.declared.atom_list.Atom.{Atom}
use Rattle.cti_terms.specs.declared.predicates.Pred.{Pred}
use Rattle.ld_resolver.specs.declared.answer.Answer.{Answer}
use Rattle.ld_resolver.specs.declared.answer.Answer.TheVariants.{Atoms, Large}
use Rattle.ld_resolver.specs.declared.running.Ending.{Ending}
use Rattle.ld_resolver.specs.declared.running.Ending.TheVariants.{Finished, Overflow, Stopped}
use Rattle.term_text.specs.Spelling.{name_of, compound, all_spelled}

-- the name of the predicate with this number; past the end it is the first name
abbrev pub predicate_name : List Pred → ℕ → ℕ
predicate_name preds p = (slice_index_or preds p (record { name = record { 0 = 0 }; arity = 0 })).name.0

-- an atom is spelled as the term that it is written as
abbrev pub atom_text : List (List ℕ) → List Pred → Atom → List ℕ
atom_text names preds a = (compound (name_of names (predicate_name preds a.pred.0)) (all_spelled names (trees a.args))).alone

-- atoms with commas between them
abbrev pub atoms_text : List (List ℕ) → List Pred → List Atom → List ℕ
atoms_text names preds [] = []
atoms_text names preds (a ∷ others) = atom_text names preds a ++ flat_map (λ b. codes "," ++ atom_text names preds b) others

-- the line of an answer
abbrev pub answer_line : List (List ℕ) → List Pred → Answer → List ℕ
answer_line names preds (Atoms atoms) = codes "answer([" ++ atoms_text names preds atoms ++ codes "]).\n"
answer_line names preds Large = codes "answer(large).\n"

-- the word for how a run ended
abbrev pub ending_word : Ending → List ℕ
ending_word Finished = codes "finished"
ending_word Stopped = codes "stopped"
ending_word Overflow = codes "overflow"

-- the last line
abbrev pub ran_line : ℕ → ℕ → Ending → List ℕ
ran_line steps longest ending = codes "ran(" ++ decimal steps ++ codes "," ++ decimal longest ++ codes "," ++ ending_word ending ++ codes ").\n"

-- the lines of a run of a program with these answers
abbrev pub run_lines : List (List ℕ) → Listing → List Answer → ℕ → ℕ → Ending → List ℕ
run_lines names p answers steps longest ending = flat_map (answer_line names p.preds) answers ++ ran_line steps longest ending
