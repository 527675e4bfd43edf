use Rattle.std.proofs.Common.{refl, [], ◌∷◌, ◌++◌, codes}
use Rattle.prolog_reader.specs.Kinds.{kind_words}
use Rattle.prolog_reader.specs.Naming.{syntax_texts}
use Rattle.prolog_operators.proofs.NameLemmas.{extends_trans}
use Rattle.prolog_reader.proofs.NamingLemmas.{names_then}
use Rattle.prolog_reader.proofs.words.find_words.Goals as goal

pub returns-clause-words : goal.returns-clause-words
returns-clause-words c = λ later ext.
    let kinds = extends_trans c.find_kinds.new.names c.word-3.new.names later c.in_ok-bar.ensures.kept ext in
    let op = extends_trans c.word-2.new.names c.find_kinds.new.names later c.in_ok-kinds.ensures.kept kinds in
    let neck = extends_trans c.word.new.names c.word-2.new.names later c.in_ok-op.ensures.kept op in
    let known = extends_trans c.find_known.new.names c.word.new.names later c.in_ok-neck.ensures.kept neck in
    let are = c.in_ok-kinds.ensures.kinds in
    rw (
      c.in_ok-known.ensures.known later known,
      c.in_ok-neck.ensures.number later neck,
      c.in_ok-op.ensures.number later op,
      are.xfx later kinds,
      are.xfy later kinds,
      are.yfx later kinds,
      are.fx later kinds,
      are.fy later kinds,
      c.in_ok-bar.ensures.number later ext,
    ) refl

pub returns-clause-kept : goal.returns-clause-kept
returns-clause-kept c = extends_trans c.args.names.now c.find_kinds.new.names c.word-3.new.names (extends_trans c.args.names.now c.word-2.new.names c.find_kinds.new.names (extends_trans c.args.names.now c.word.new.names c.word-2.new.names (extends_trans c.args.names.now c.find_known.new.names c.word.new.names c.in_ok-known.ensures.kept c.in_ok-neck.ensures.kept) c.in_ok-op.ensures.kept) c.in_ok-kinds.ensures.kept) c.in_ok-bar.ensures.kept

pub returns-clause-added : goal.returns-clause-added
returns-clause-added c = names_then c.args.names.now c.find_kinds.new.names c.word-3.new.names (((syntax_texts ++ (codes ":-" ∷ [])) ++ (codes "op" ∷ [])) ++ kind_words) (codes "|" ∷ []) (names_then c.args.names.now c.word-2.new.names c.find_kinds.new.names ((syntax_texts ++ (codes ":-" ∷ [])) ++ (codes "op" ∷ [])) kind_words (names_then c.args.names.now c.word.new.names c.word-2.new.names (syntax_texts ++ (codes ":-" ∷ [])) (codes "op" ∷ []) (names_then c.args.names.now c.find_known.new.names c.word.new.names syntax_texts (codes ":-" ∷ []) c.in_ok-known.ensures.added c.in_ok-neck.ensures.added) c.in_ok-op.ensures.added) c.in_ok-kinds.ensures.added) c.in_ok-bar.ensures.added
