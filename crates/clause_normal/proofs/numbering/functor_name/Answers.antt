use Rattle.std.proofs.Common.{◌≡◌, ◌∙◌, ℕ, List, sym, ap, subst}
use Rattle.std.proofs.lemmas.Option.{slice_get_within}
use Rattle.cti_terms.specs.Numbers.{number_of, with_text}
use Rattle.prolog_reader.specs.Names.{Extends, name_text}
use Rattle.clause_normal.specs.declared.rule.Functor.{Functor}
use Rattle.prolog_reader.specs.Naming.{with_names}
use Rattle.clause_normal.specs.ChoiceNames.{functor_texts}
use Rattle.clause_normal.specs.Numbering.{name_number, choice_text}
use Rattle.clause_normal.specs.Kinds.{functor_text}
use Rattle.clause_normal.specs.RuleViews.{functor_of}
use Rattle.prolog_reader.proofs.NameLemmas.{extends_self, number_kept, name_text_added}
use Rattle.prolog_reader.proofs.NamingLemmas.{names_none, names_one}
use Rattle.clause_normal.proofs.numbering.functor_name.Goals as goal

pub returns-in_ok-name-in-Chosen-clause-number : goal.returns-in_ok-name-in-Chosen-clause-number
returns-in_ok-name-in-Chosen-clause-number c = λ later ext.
    let text = c.as_bytes.result.now in
    let text_is : text ≡ choice_text c.in-Chosen.number = c.as_bytes.ensures.value ∙ c.in_ok-text-in-Chosen.ensures.ok in
    let E : List (List ℕ) → Type 0 = λ ns. Extends ns later in
    ap (λ (f : Functor). name_number later (functor_of f)) c.in-Chosen.is ∙ ap (number_of later) (sym text_is)
    ∙ number_kept c.args.names.now text later (subst E c.in_ok-name-in-Chosen.ensures.added ext) ∙ sym c.in_ok-name-in-Chosen.ensures.number

pub returns-in_ok-name-in-Chosen-clause-text : goal.returns-in_ok-name-in-Chosen-clause-text
returns-in_ok-name-in-Chosen-clause-text c = λ _.
    let text = c.as_bytes.result.now in
    let text_is : text ≡ choice_text c.in-Chosen.number = c.as_bytes.ensures.value ∙ c.in_ok-text-in-Chosen.ensures.ok in
    let names = c.args.names.now in
    let ext : Extends (with_text names text) c.intern.new.self = subst (λ (ns : List (List ℕ)). Extends (with_text names text) ns) (sym c.in_ok-name-in-Chosen.ensures.added) (extends_self (with_text names text)) in
    ap (name_text c.intern.new.self) c.in_ok-name-in-Chosen.ensures.number ∙ name_text_added names text c.intern.new.self ext ∙ text_is
    ∙ ap (λ (f : Functor). functor_text names (functor_of f)) (sym c.in-Chosen.is)

pub returns-in_ok-name-in-Chosen-clause-known : goal.returns-in_ok-name-in-Chosen-clause-known
returns-in_ok-name-in-Chosen-clause-known c = λ _. slice_get_within c.intern.new.self c.in_ok-name-in-Chosen.name.0 c.as_bytes.result.now c.in_ok-name-in-Chosen.ensures.spelled

pub returns-in_ok-name-in-Chosen-clause-added : goal.returns-in_ok-name-in-Chosen-clause-added
returns-in_ok-name-in-Chosen-clause-added c =
    let text = c.as_bytes.result.now in
    let text_is : text ≡ choice_text c.in-Chosen.number = c.as_bytes.ensures.value ∙ c.in_ok-text-in-Chosen.ensures.ok in
    c.in_ok-name-in-Chosen.ensures.added ∙ ap (with_text c.args.names.now) text_is ∙ sym (names_one c.args.names.now (choice_text c.in-Chosen.number))
    ∙ ap (λ (f : Functor). with_names c.args.names.now (functor_texts (functor_of f))) (sym c.in-Chosen.is)

pub returns-in-Named-clause-added : goal.returns-in-Named-clause-added
returns-in-Named-clause-added c = sym (names_none c.args.names.now) ∙ ap (λ (f : Functor). with_names c.args.names.now (functor_texts (functor_of f))) (sym c.in-Named.is)
