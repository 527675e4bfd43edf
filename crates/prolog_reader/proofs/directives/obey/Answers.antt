use Rattle.std.proofs.Common.{◌≡◌, map, IfOk, ap, sym, ◌∙◌, subst}
use Rattle.prolog_terms.specs.Terms.{tree_of}
use Rattle.prolog_operators.specs.Meanings.{table_of}
use Rattle.prolog_reader.specs.Directive.{Effect, effect_by}
use Rattle.prolog_reader.specs.Knowing.{words_view, done_effect}
use Rattle.prolog_reader.proofs.DirectiveLemmas.{one_part, no_one, other_length}
use Rattle.prolog_reader.proofs.directives.obey.Goals as goal

pub returns-then-eq : goal.returns-then-eq
returns-then-eq c =
    let P : Effect → Type 0 = λ x. IfOk c.direct.result (λ done. x ≡ done_effect done (table_of c.direct.new.ops)) in
    let by = one_part (words_view c.args.words.now) (table_of c.args.ops.now) (tree_of c.args.clause.now) c.in-Some.name.0 (map tree_of c.in-Some.terms.now) (tree_of c.in-Some-one.directive.now) c.in-Some.ensures c.in-Some-one.ensures.found in
    subst P (sym (rw (sym c.eq.ensures ∙ c.if-eq.true) at by)) c.direct.ensures

pub returns-else-eq : goal.returns-else-eq
returns-else-eq c =
    let by = one_part (words_view c.args.words.now) (table_of c.args.ops.now) (tree_of c.args.clause.now) c.in-Some.name.0 (map tree_of c.in-Some.terms.now) (tree_of c.in-Some-one.directive.now) c.in-Some.ensures c.in-Some-one.ensures.found in
    rw (sym c.eq.ensures ∙ c.if-eq.false) at by

pub returns-in-None-one : goal.returns-in-None-one
returns-in-None-one c =
    ap (effect_by (words_view c.args.words.now) (table_of c.args.ops.now)) (sym c.in-Some.ensures)
    ∙ no_one (words_view c.args.words.now) (table_of c.args.ops.now) c.in-Some.name.0 (map tree_of c.in-Some.terms.now) (other_length tree_of c.in-Some.terms.now 1 c.in-None-one.ensures.other)
