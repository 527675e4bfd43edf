use Rattle.std.proofs.Common.{◌++◌, List, ℕ, ap, ◌∙◌}
use Rattle.prolog_tokens.specs.Decoding.{characters_of}
use Rattle.prolog_operators.proofs.NameLemmas.{number_kept, extends_with_text, got_within}
use Rattle.std.proofs.Common.{sym}
use Rattle.cti_terms.specs.Numbers.{with_text}
use Rattle.prolog_reader.proofs.NamingLemmas.{names_one}
use Rattle.prolog_reader.proofs.symbols.name.Goals as goal

pub returns-clause-number : goal.returns-clause-number
returns-clause-number c =
    let spelled = c.deref.ensures.value ∙ c.in_ok-decode.ensures.ok ∙ ap (λ (xs : List ℕ). xs ++ characters_of c.args.text.now c.args.token) c.new-spelled.ensures.items in
    rw (c.in_ok-name.ensures.number, c.in_ok-name.ensures.added, ← spelled) (number_kept c.args.names.now c.deref.result.now)

pub returns-clause-kept : goal.returns-clause-kept
returns-clause-kept c = rw c.in_ok-name.ensures.added (extends_with_text c.args.names.now c.deref.result.now)

pub returns-clause-known : goal.returns-clause-known
returns-clause-known c = got_within c.intern.new.self c.in_ok-name.name.0 c.deref.result.now c.in_ok-name.ensures.spelled

pub returns-clause-added : goal.returns-clause-added
returns-clause-added c =
    let spelled = c.deref.ensures.value ∙ c.in_ok-decode.ensures.ok ∙ ap (λ (xs : List ℕ). xs ++ characters_of c.args.text.now c.args.token) c.new-spelled.ensures.items in
    c.in_ok-name.ensures.added ∙ ap (with_text c.args.names.now) spelled ∙ sym (names_one c.args.names.now (characters_of c.args.text.now c.args.token))
