use Rattle.std.proofs.Common.{◌≡◌, Some, ap, sym, ◌∙◌}
use Rattle.cert_structure.proofs.ComponentLemmas.{texts_differ}
use Rattle.fact_reading.proofs.SectionLemmas.{same_some}
use Rattle.prove_structure.specs.Walk.{read_whole}
use Rattle.prove_structure.proofs.ComponentLemmas.{structure}
use Rattle.prove_structure.proofs.WholeLemmas.{whole_back}
use Rattle.prove_structure.proofs.reading.one_reading.Goals as goal

pub returns : goal.returns
returns c p names one other facts a b program named distinct h k left right =
    let apart = texts_differ p names program distinct named in
    let moved = structure p other one k h names b facts right in
    let first : read_whole p names one facts ≡ Some a = ap (read_whole p names one) left.is ∙ whole_back p names one h apart a left.notes left.shape left.are_notes in
    let second : read_whole p names one facts ≡ Some b = ap (read_whole p names one) moved.is ∙ whole_back p names one h apart b moved.notes moved.shape moved.are_notes in
    same_some a b (sym first ∙ second)
