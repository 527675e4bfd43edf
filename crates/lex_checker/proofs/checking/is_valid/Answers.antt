use Rattle.std.proofs.Common.{◌≡◌, ◌↔◌, Bool, IsTrue, Option, None, Some, IfSome, sym, subst, ◌∙◌}
use Rattle.cti_terms.specs.Tree.{truth}
use Rattle.lex_certificate.specs.Structure.{IsStructured}
use Rattle.lex_certificate.specs.declared.parts.LexParts.{LexParts}
use Rattle.number_tests.proofs.CallFacts.{if_ok_more}
use Rattle.term_size.specs.Occurrences.{size_row}
use Rattle.lex_checker.specs.Valid.{IsValid, PartsHold}
use Rattle.lex_checker.proofs.Validity.{decided, without_parts}
use Rattle.lex_checker.proofs.checking.is_valid.Goals as goal

pub returns-in-Some : goal.returns-in-Some
returns-in-Some c =
    let p = c.args.p.now in
    let names = c.args.names.now in
    let comps = c.in_ok-comps.comps in
    let facts = c.args.c.now.facts in
    let parts = c.in-Some.parts in
    let structured : IsStructured p names comps parts facts = subst (λ (o : Option LexParts). IfSome o (λ found. IsStructured p names comps found facts)) c.in-Some.is c.in_ok-parts.ensures.found in
    if_ok_more (λ (yes : Bool). IsTrue yes ↔ PartsHold truth size_row p comps parts) (λ (yes : Bool). IsTrue yes ↔ IsValid p names facts)
    (λ yes decides. decided c.one_structure.ensures p names comps c.in_ok-comps.ensures facts (IsTrue yes) parts structured
    (λ own is. let both : Some parts ≡ Some own = sym c.in-Some.is ∙ c.in_ok-parts.ensures.only own is in cc) decides) c.parts_hold.result c.parts_hold.ensures

pub returns : goal.returns
returns c =
    let nothing : Option LexParts = None in
    without_parts c.one_structure.ensures c.args.p.now c.args.names.now c.in_ok-comps.comps c.in_ok-comps.ensures c.args.c.now.facts
    (λ own is. let both : nothing ≡ Some own = sym c.in-None.is ∙ c.in_ok-parts.ensures.only own is in cc)
