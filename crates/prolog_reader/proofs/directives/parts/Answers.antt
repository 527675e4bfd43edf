use Rattle.std.proofs.Common.{List, Some, ap, sym, ◌∙◌, map}
use Rattle.prolog_grammar.specs.Placed.{Tree}
use Rattle.prolog_terms.specs.Terms.{tree_of}
use Rattle.prolog_reader.specs.Directive.{parts_of}
use Rattle.prolog_reader.proofs.ViewLemmas.{tree_of_fun, list_of_row}
use Rattle.prolog_reader.proofs.directives.parts.Goals as goal

pub returns-in-Fun : goal.returns-in-Fun
returns-in-Fun c =
    let terms = c.in-Fun.terms.items in
    ap (λ (ts : List Tree). Some (c.in-Fun.name.0, ts)) (ap (map tree_of) c.as_slice.ensures.value ∙ sym (list_of_row (map tree_of terms))) ∙ sym (ap parts_of (tree_of_fun c.args.term.now c.in-Fun.name c.in-Fun.terms c.in-Fun.is))
