-- To believe, for the command.
-- How an answer is reported.
--
-- To believe: `told`.
use Rattle.std.specs.Prelude.{List, if◌then◌else◌}
use Rattle.cti_terms.specs.declared.atom_list.Atom.{Atom}
use Rattle.cti_terms.specs.Answers.{is_large, numbered_atoms}
use Rattle.ld_resolver.specs.declared.answer.Answer.{Answer}
use Rattle.ld_resolver.specs.declared.answer.Answer.TheVariants.{Atoms, Large}

-- the atoms with their variables numbered from 0 by first occurrence, unless they are too large
abbrev pub told : List Atom → Answer
told atoms = if is_large atoms then Large else Atoms (numbered_atoms atoms)
