use Rattle.std.proofs.Common.{◌<◌, ◌∙◌, List, length, sym, ap, subst}
use Rattle.std.specs.List.{AllByRecursion}
use Rattle.cti_terms.specs.Listing.{Listing}
use Rattle.cti_terms.specs.declared.predicates.Pred.{Pred}
use Rattle.prolog_reader.proofs.NameLemmas.{extends_self}
use Rattle.clause_normal.specs.Numbering.{arithmetic_of, with_equality}
use Rattle.clause_normal.proofs.NumberingLemmas.{room_left}
use Rattle.clause_normal.proofs.text_program.whole_program.Goals as goal

pub add_equality-requires-clause-arithmetic : goal.add_equality-requires-clause-arithmetic
add_equality-requires-clause-arithmetic c = let later = c.program_of.new.names in c.in_ok-program.ensures.arithmetic later (extends_self later)

pub returns-clause-program : goal.returns-clause-program
returns-clause-program c =
    let later = c.program_of.new.names in
    c.in_ok-add_equality.ensures.program ∙ ap (with_equality later) (c.in_ok-program.ensures.program later (extends_self later))

pub returns-clause-arithmetic : goal.returns-clause-arithmetic
returns-clause-arithmetic c = λ later ext.
    let program = c.in_ok-add_equality.ensures.program in
    ap (λ (p : Listing). p.arithmetic) program ∙ c.in_ok-program.ensures.arithmetic later ext ∙ ap (arithmetic_of later) (sym (ap (λ (p : Listing). p.preds) program))

pub returns-clause-known : goal.returns-clause-known
returns-clause-known c =
    subst (λ (ps : List Pred). AllByRecursion (λ (q : Pred). q.name.0 < length c.program_of.new.names) ps) (sym (ap (λ (p : Listing). p.preds) c.in_ok-add_equality.ensures.program)) c.in_ok-program.ensures.known

pub returns-clause-room : goal.returns-clause-room
returns-clause-room c none =
    let later = c.program_of.new.names in
    room_left later c.in_ok-program.program c.add_equality.new.program c.in_ok-add_equality.ensures.program none c.in_ok-program.ensures.room
