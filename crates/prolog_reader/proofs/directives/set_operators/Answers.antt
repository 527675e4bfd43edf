use Rattle.std.proofs.Common.{◌≡◌, ℕ, List, Option, Some, IfOk, ap, subst}
use Rattle.prolog_terms.specs.Terms.{tree_of}
use Rattle.prolog_operators.specs.Meanings.{table_of}
use Rattle.prolog_reader.specs.Directive.{effect_of, operators_by}
use Rattle.prolog_reader.specs.Knowing.{words_view, done_effect}
use Rattle.prolog_reader.proofs.directives.set_operators.Goals as goal

pub returns-in-None : goal.returns-in-None
returns-in-None c =
    let P : Option (List ℕ) → Type 0 = λ o. IfOk c.set_listed.result (λ done. effect_of (words_view c.args.words.now) (table_of c.args.ops.now) (Some c.args.priority) (Some c.args.kind) o ≡ done_effect done (table_of c.set_listed.new.ops)) in
    subst P (ap (operators_by (words_view c.args.words.now) (tree_of c.args.names.now)) c.in-None.ensures) c.set_listed.ensures
