use Rattle.std.proofs.Common.{length}
use Rattle.termination_model.specs.sizes.Sizes.{rows_of}
use Rattle.solved_program.proofs.Marks.{stands_by_mark, stands_by_value}
use Rattle.solved_program.proofs.PredMarks.{marks_below}
use Rattle.carried_mappings.proofs.Resolved.{if_some_is}
use Rattle.carried_mappings.proofs.resolving.MappingSources.standing.Goals as goal

pub standing-requires-clause-sources : goal.standing-requires-clause-sources
standing-requires-clause-sources c = c.requires.sources.sources

pub standing-requires-clause-each : goal.standing-requires-clause-each
standing-requires-clause-each c = c.requires.sources.stayed.each

pub returns-clause-stands : goal.returns-clause-stands
returns-clause-stands c =
    let s = c.args.self.now in
    let e = s.sources.edit.now in
    let old = rows_of s.sources.old.now.sizes.rows in
    let now = rows_of s.sizes.now.rows in
    let marked = marks_below e old now c.args.c (length e.components.now.members) s.stayed.now c.requires.inner c.requires.sources.stayed in
    if_some_is c.standing.result _ _ (λ b h. stands_by_value e c.clauses-old.ensures.sound c.clauses-new.ensures.sound c.requires.sources.sources.edit c.args.c old now s.stayed.now marked b h) c.standing.ensures.stands

pub returns-clause-none : goal.returns-clause-none
returns-clause-none c = λ none b h.
    let s = c.args.self.now in
    let e = s.sources.edit.now in
    let old = rows_of s.sources.old.now.sizes.rows in
    let now = rows_of s.sizes.now.rows in
    let marked = marks_below e old now c.args.c (length e.components.now.members) s.stayed.now c.requires.inner c.requires.sources.stayed in
    c.standing.ensures.none none b (stands_by_mark e c.clauses-old.ensures.sound c.clauses-new.ensures.sound c.requires.sources.sources.edit c.args.c old now s.stayed.now marked b h)
