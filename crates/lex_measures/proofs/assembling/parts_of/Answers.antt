use Rattle.std.proofs.Common.{List, map, subst, sym, ◌∙◌}
use Rattle.lex_certificate.specs.Flat.{union_part}
use Rattle.number_tests.specs.declared.level_part.LevelPart.{LevelPart}
use Rattle.precond_fixpoint.specs.Solving.{AreLevels}
use Rattle.term_size.specs.AnyNorm.{any_row}
use Rattle.lex_measures.proofs.ListParts.{levels_are}
use Rattle.lex_measures.proofs.assembling.parts_of.Goals as goal

pub flat_of-requires-clause-levels : goal.flat_of-requires-clause-levels
flat_of-requires-clause-levels c =
    let p = c.args.measured.now.p.now in
    let comps = c.args.measured.now.comps.now in
    subst (λ (ls : List (List (List LevelPart))). AreLevels p comps (map (map union_part) ls)) (sym (c.as_slice.ensures ∙ c.in_ok-lists.ensures))
    (levels_are (any_row c.args.measured.now.norm) p comps c.args.sizes.now.rows c.args.found.now c.preds-program.ensures.sound c.requires.components c.requires.found)
