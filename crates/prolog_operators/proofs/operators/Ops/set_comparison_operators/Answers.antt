use Rattle.std.proofs.Common.{[], ◌∷◌, codes, ap, ◌∙◌}
use Rattle.prolog_operators.specs.declared.kind.OpKind.TheVariants.{Xfx}
use Rattle.prolog_operators.specs.Table.{Table, with_texts}
use Rattle.prolog_operators.proofs.NameLemmas.{extends_trans}
use Rattle.prolog_operators.proofs.TextsLemmas.{names_then}
use Rattle.prolog_operators.proofs.operators.Ops.set_comparison_operators.Goals as goal

pub returns-clause-ok : goal.returns-clause-ok
returns-clause-ok c = λ later ext.
    let x2 = ext in
    let x1 = extends_trans c.put_texts.new.names c.put_texts-2.new.names later c.in_ok-put_texts-2.ensures.kept x2 in
    c.in_ok-put_texts-2.ensures.ok later x2 ∙ ap (λ (t : Table). with_texts later t 700 Xfx (codes "=.." ∷ codes "is" ∷ codes "=:=" ∷ codes "=\\=" ∷ codes "<" ∷ codes "=<" ∷ codes ">" ∷ codes ">=" ∷ [])) (c.in_ok-put_texts.ensures.ok later x1)

pub returns-clause-added : goal.returns-clause-added
returns-clause-added c = names_then c.args.names.now c.put_texts.new.names c.put_texts-2.new.names (codes "=" ∷ codes "\\=" ∷ codes "==" ∷ codes "\\==" ∷ codes "@<" ∷ codes "@=<" ∷ codes "@>" ∷ codes "@>=" ∷ []) (codes "=.." ∷ codes "is" ∷ codes "=:=" ∷ codes "=\\=" ∷ codes "<" ∷ codes "=<" ∷ codes ">" ∷ codes ">=" ∷ []) (c.in_ok-put_texts.ensures.added) c.in_ok-put_texts-2.ensures.added
