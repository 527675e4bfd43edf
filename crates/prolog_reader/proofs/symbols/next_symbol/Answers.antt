use Rattle.prolog_terms.specs.Numbering.{seen_of}
use Rattle.prolog_reader.proofs.LexLemmas.{int_small}
use Rattle.prolog_reader.proofs.SymbolLemmas.{named_token}
use Rattle.prolog_reader.proofs.symbols.next_symbol.Goals as goal

pub integer-requires : goal.integer-requires
integer-requires c = int_small c.args.text.now c.args.token c.in-Int.value c.requires.given c.in-Int.is

pub returns-in_ok-name-in-Name-clause-value : goal.returns-in_ok-name-in-Name-clause-value
returns-in_ok-name-in-Name-clause-value c = λ later ext.
    named_token later c.args.text.now (seen_of c.args.variables.now) c.args.before c.args.token c.in_ok-name-in-Name.name.0 c.in-Name.is (c.in_ok-name-in-Name.ensures.number later ext)
