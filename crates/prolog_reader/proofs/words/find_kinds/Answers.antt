use Rattle.std.proofs.Common.{[], ◌∷◌, ◌++◌, codes}
use Rattle.prolog_operators.proofs.NameLemmas.{extends_trans}
use Rattle.prolog_reader.proofs.NamingLemmas.{names_then}
use Rattle.prolog_reader.proofs.words.find_kinds.Goals as goal

pub returns-clause-kinds : goal.returns-clause-kinds
returns-clause-kinds c = record {
  xfx = λ later ext. c.in_ok-xfx.ensures.number later (extends_trans c.word.new.names c.word-2.new.names later c.in_ok-xfy.ensures.kept (extends_trans c.word-2.new.names c.word-3.new.names later c.in_ok-yfx.ensures.kept (extends_trans c.word-3.new.names c.word-4.new.names later c.in_ok-fx.ensures.kept (extends_trans c.word-4.new.names c.word-5.new.names later c.in_ok-fy.ensures.kept ext))));
  xfy = λ later ext. c.in_ok-xfy.ensures.number later (extends_trans c.word-2.new.names c.word-3.new.names later c.in_ok-yfx.ensures.kept (extends_trans c.word-3.new.names c.word-4.new.names later c.in_ok-fx.ensures.kept (extends_trans c.word-4.new.names c.word-5.new.names later c.in_ok-fy.ensures.kept ext)));
  yfx = λ later ext. c.in_ok-yfx.ensures.number later (extends_trans c.word-3.new.names c.word-4.new.names later c.in_ok-fx.ensures.kept (extends_trans c.word-4.new.names c.word-5.new.names later c.in_ok-fy.ensures.kept ext));
  fx = λ later ext. c.in_ok-fx.ensures.number later (extends_trans c.word-4.new.names c.word-5.new.names later c.in_ok-fy.ensures.kept ext);
  fy = λ later ext. c.in_ok-fy.ensures.number later ext;
}

pub returns-clause-kept : goal.returns-clause-kept
returns-clause-kept c = extends_trans c.args.names.now c.word-4.new.names c.word-5.new.names (extends_trans c.args.names.now c.word-3.new.names c.word-4.new.names (extends_trans c.args.names.now c.word-2.new.names c.word-3.new.names (extends_trans c.args.names.now c.word.new.names c.word-2.new.names c.in_ok-xfx.ensures.kept c.in_ok-xfy.ensures.kept) c.in_ok-yfx.ensures.kept) c.in_ok-fx.ensures.kept) c.in_ok-fy.ensures.kept

pub returns-clause-added : goal.returns-clause-added
returns-clause-added c = names_then c.args.names.now c.word-4.new.names c.word-5.new.names (codes "xfx" ∷ codes "xfy" ∷ codes "yfx" ∷ codes "fx" ∷ []) (codes "fy" ∷ []) (names_then c.args.names.now c.word-3.new.names c.word-4.new.names (codes "xfx" ∷ codes "xfy" ∷ codes "yfx" ∷ []) (codes "fx" ∷ []) (names_then c.args.names.now c.word-2.new.names c.word-3.new.names (codes "xfx" ∷ codes "xfy" ∷ []) (codes "yfx" ∷ []) (names_then c.args.names.now c.word.new.names c.word-2.new.names (codes "xfx" ∷ []) (codes "xfy" ∷ []) c.in_ok-xfx.ensures.added c.in_ok-xfy.ensures.added) c.in_ok-yfx.ensures.added) c.in_ok-fx.ensures.added) c.in_ok-fy.ensures.added
