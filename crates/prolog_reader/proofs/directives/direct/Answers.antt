use Rattle.std.proofs.Common.{◌≡◌, map, IfOk, ap, sym, ◌∙◌, subst}
use Rattle.prolog_terms.specs.Terms.{tree_of}
use Rattle.prolog_operators.specs.Meanings.{table_of}
use Rattle.prolog_reader.specs.Directive.{Effect, directive_by}
use Rattle.prolog_reader.specs.Knowing.{words_view, done_effect}
use Rattle.prolog_reader.proofs.DirectiveLemmas.{three_parts, no_three, other_length}
use Rattle.prolog_reader.proofs.directives.direct.Goals as goal

pub returns-then-eq : goal.returns-then-eq
returns-then-eq c =
    let P : Effect → Type 0 = λ x. IfOk c.set_by.result (λ done. x ≡ done_effect done (table_of c.set_by.new.ops)) in
    let by = three_parts (words_view c.args.words.now) (table_of c.args.ops.now) (tree_of c.args.directive.now) c.in-Some.name.0 (map tree_of c.in-Some.terms.now) (tree_of c.in-Some-three.at.now) (tree_of c.in-Some-three.of.now) (tree_of c.in-Some-three.names.now) c.in-Some.ensures c.in-Some-three.ensures.found in
    subst P (sym (rw (sym c.eq.ensures ∙ c.if-eq.true) at by)) c.set_by.ensures

pub returns-else-eq : goal.returns-else-eq
returns-else-eq c =
    let by = three_parts (words_view c.args.words.now) (table_of c.args.ops.now) (tree_of c.args.directive.now) c.in-Some.name.0 (map tree_of c.in-Some.terms.now) (tree_of c.in-Some-three.at.now) (tree_of c.in-Some-three.of.now) (tree_of c.in-Some-three.names.now) c.in-Some.ensures c.in-Some-three.ensures.found in
    rw (sym c.eq.ensures ∙ c.if-eq.false) at by

pub returns-in-None-three : goal.returns-in-None-three
returns-in-None-three c =
    ap (directive_by (words_view c.args.words.now) (table_of c.args.ops.now)) (sym c.in-Some.ensures)
    ∙ no_three (words_view c.args.words.now) (table_of c.args.ops.now) c.in-Some.name.0 (map tree_of c.in-Some.terms.now) (other_length tree_of c.in-Some.terms.now 3 c.in-None-three.ensures.other)
