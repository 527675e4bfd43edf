use Rattle.std.proofs.Common.{[], ◌∷◌, codes, ap, ◌∙◌}
use Rattle.prolog_operators.specs.declared.kind.OpKind.TheVariants.{Xfy, Fx, Fy}
use Rattle.prolog_operators.specs.Table.{Table, with_texts}
use Rattle.prolog_operators.proofs.NameLemmas.{extends_trans}
use Rattle.std.proofs.Common.{◌++◌}
use Rattle.prolog_operators.proofs.TextsLemmas.{names_then}
use Rattle.prolog_operators.proofs.operators.Ops.set_clause_operators.Goals as goal

pub returns-clause-ok : goal.returns-clause-ok
returns-clause-ok c = λ later ext.
    let x5 = ext in
    let x4 = extends_trans c.put_texts-4.new.names c.put_texts-5.new.names later c.in_ok-put_texts-5.ensures.kept x5 in
    let x3 = extends_trans c.put_texts-3.new.names c.put_texts-4.new.names later c.in_ok-put_texts-4.ensures.kept x4 in
    let x2 = extends_trans c.put_texts-2.new.names c.put_texts-3.new.names later c.in_ok-put_texts-3.ensures.kept x3 in
    let x1 = extends_trans c.put_texts.new.names c.put_texts-2.new.names later c.in_ok-put_texts-2.ensures.kept x2 in
    c.in_ok-put_texts-5.ensures.ok later x5 ∙ ap (λ (t : Table). with_texts later t 900 Fy (codes "\\+" ∷ [])) (c.in_ok-put_texts-4.ensures.ok later x4 ∙ ap (λ (t : Table). with_texts later t 1050 Xfy (codes "->" ∷ [])) (c.in_ok-put_texts-3.ensures.ok later x3 ∙ ap (λ (t : Table). with_texts later t 1100 Xfy (codes ";" ∷ [])) (c.in_ok-put_texts-2.ensures.ok later x2 ∙ ap (λ (t : Table). with_texts later t 1200 Fx (codes ":-" ∷ codes "?-" ∷ [])) (c.in_ok-put_texts.ensures.ok later x1))))

pub returns-clause-added : goal.returns-clause-added
returns-clause-added c = names_then c.args.names.now c.put_texts-4.new.names c.put_texts-5.new.names ((((codes ":-" ∷ codes "-->" ∷ []) ++ (codes ":-" ∷ codes "?-" ∷ [])) ++ (codes ";" ∷ [])) ++ (codes "->" ∷ [])) (codes "\\+" ∷ []) (names_then c.args.names.now c.put_texts-3.new.names c.put_texts-4.new.names (((codes ":-" ∷ codes "-->" ∷ []) ++ (codes ":-" ∷ codes "?-" ∷ [])) ++ (codes ";" ∷ [])) (codes "->" ∷ []) (names_then c.args.names.now c.put_texts-2.new.names c.put_texts-3.new.names ((codes ":-" ∷ codes "-->" ∷ []) ++ (codes ":-" ∷ codes "?-" ∷ [])) (codes ";" ∷ []) (names_then c.args.names.now c.put_texts.new.names c.put_texts-2.new.names (codes ":-" ∷ codes "-->" ∷ []) (codes ":-" ∷ codes "?-" ∷ []) (c.in_ok-put_texts.ensures.added) c.in_ok-put_texts-2.ensures.added) c.in_ok-put_texts-3.ensures.added) c.in_ok-put_texts-4.ensures.added) c.in_ok-put_texts-5.ensures.added
