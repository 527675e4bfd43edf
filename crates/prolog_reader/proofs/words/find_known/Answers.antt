use Rattle.std.proofs.Common.{[], ◌∷◌, ◌++◌, codes}
use Rattle.prolog_reader.proofs.NamingLemmas.{names_then}
use Rattle.prolog_reader.proofs.words.find_known.Goals as goal

pub returns-clause-added : goal.returns-clause-added
returns-clause-added c = names_then c.args.names.now c.word-3.new.names c.word-4.new.names (((codes "," ∷ []) ++ (codes "[]" ∷ [])) ++ (codes "{}" ∷ [])) (codes "." ∷ []) (names_then c.args.names.now c.word-2.new.names c.word-3.new.names ((codes "," ∷ []) ++ (codes "[]" ∷ [])) (codes "{}" ∷ []) (names_then c.args.names.now c.word.new.names c.word-2.new.names (codes "," ∷ []) (codes "[]" ∷ []) (c.in_ok-comma.ensures.added) c.in_ok-nil.ensures.added) c.in_ok-curly.ensures.added) c.in_ok-cell.ensures.added
