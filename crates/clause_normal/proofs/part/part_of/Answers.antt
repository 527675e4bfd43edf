use Rattle.std.proofs.Common.{◌≡◌, ◌∙◌, List, length, map, ap, sym, arith}
use Rattle.prolog_reader.specs.Names.{name_text}
use Rattle.prolog_terms.specs.declared.term.ReadTerm.{ReadTerm}
use Rattle.clause_normal.specs.declared.words.Connective.TheVariants as connective
use Rattle.clause_normal.specs.Words.{connective_of}
use Rattle.clause_variables.specs.Terms.{list_variables}
use Rattle.clause_variables.specs.TermViews.{plain_of}
use Rattle.clause_normal.proofs.FormLemmas.{occurrences_two}
use Rattle.clause_variables.proofs.ListLemmas.{nothing_left}
use Rattle.clause_variables.proofs.TermLemmas.{occurrences_fun}
use Rattle.clause_normal.proofs.PartLemmas.{two_of_and, two_of_or, none_of_truth, part_both, part_either, part_nothing, part_goal, sides_smaller, query_both, query_either, query_nothing, query_other}
use Rattle.clause_normal.proofs.part.part_of.Goals as goal

pub sides-requires : goal.sides-requires
sides-requires c =
    let h : connective_of c.text_of.result.now c.len.result ≡ connective.And = cc (c.in-And.ensures) in
    let n = two_of_and _ _ h in
    omega (arith, c.deref.ensures.len)

pub sides-requires-in-Or : goal.sides-requires-in-Or
sides-requires-in-Or c =
    let h : connective_of c.text_of.result.now c.len.result ≡ connective.Or = cc (c.in-Or.ensures) in
    let n = two_of_or _ _ h in
    omega (arith, c.deref-in-Or.ensures.len)

pub returns-in-And-clause-part : goal.returns-in-And-clause-part
returns-in-And-clause-part c =
    let n : c.len.result ≡ length c.in-Fun.args.items = omega (arith, c.in-Fun.args.ok.0) in
    let h : connective_of (name_text c.args.names.now c.in-Fun.name.0) (length c.in-Fun.args.items) ≡ connective.And = cc (c.in-And.ensures) in
    part_both c.args.names.now c.args.term.now c.in-Fun.name c.in-Fun.args c.sides.result.0 c.sides.result.1 c.in-Fun.is (sym c.deref.ensures.value ∙ c.sides.ensures) h

pub returns-in-Or-clause-part : goal.returns-in-Or-clause-part
returns-in-Or-clause-part c =
    let n : c.len.result ≡ length c.in-Fun.args.items = omega (arith, c.in-Fun.args.ok.0) in
    let h : connective_of (name_text c.args.names.now c.in-Fun.name.0) (length c.in-Fun.args.items) ≡ connective.Or = cc (c.in-Or.ensures) in
    part_either c.args.names.now c.args.term.now c.in-Fun.name c.in-Fun.args c.sides-in-Or.result.0 c.sides-in-Or.result.1 c.in-Fun.is (sym c.deref-in-Or.ensures.value ∙ c.sides-in-Or.ensures) h

pub returns-in-Truth-clause-part : goal.returns-in-Truth-clause-part
returns-in-Truth-clause-part c =
    let n : c.len.result ≡ length c.in-Fun.args.items = omega (arith, c.in-Fun.args.ok.0) in
    let h : connective_of (name_text c.args.names.now c.in-Fun.name.0) (length c.in-Fun.args.items) ≡ connective.Truth = cc (c.in-Truth.ensures) in
    part_nothing c.args.names.now c.args.term.now c.in-Fun.name c.in-Fun.args c.in-Fun.is h

pub returns-in-Other-clause-part : goal.returns-in-Other-clause-part
returns-in-Other-clause-part c =
    let n : c.len.result ≡ length c.in-Fun.args.items = omega (arith, c.in-Fun.args.ok.0) in
    let h : connective_of (name_text c.args.names.now c.in-Fun.name.0) (length c.in-Fun.args.items) ≡ connective.Other = cc (c.in-Other.ensures) in
    part_goal c.args.names.now c.args.term.now c.in-Fun.name c.in-Fun.args _ c.in-Fun.is h c.atom_item.ensures.goal

pub returns-in-And-clause-smaller : goal.returns-in-And-clause-smaller
returns-in-And-clause-smaller c = sides_smaller c.args.term.now c.in-Fun.name c.in-Fun.args c.sides.result.0 c.sides.result.1 c.in-Fun.is (sym c.deref.ensures.value ∙ c.sides.ensures)

pub returns-in-Or-clause-smaller : goal.returns-in-Or-clause-smaller
returns-in-Or-clause-smaller c = sides_smaller c.args.term.now c.in-Fun.name c.in-Fun.args c.sides-in-Or.result.0 c.sides-in-Or.result.1 c.in-Fun.is (sym c.deref-in-Or.ensures.value ∙ c.sides-in-Or.ensures)

pub returns-in-And-clause-own : goal.returns-in-And-clause-own
returns-in-And-clause-own c = occurrences_two c.args.names.now c.args.term.now c.in-Fun.name c.in-Fun.args c.in-Fun.is c.sides.result.0.now c.sides.result.1.now (sym c.deref.ensures.value ∙ c.sides.ensures)

pub returns-in-Or-clause-own : goal.returns-in-Or-clause-own
returns-in-Or-clause-own c = occurrences_two c.args.names.now c.args.term.now c.in-Fun.name c.in-Fun.args c.in-Fun.is c.sides-in-Or.result.0.now c.sides-in-Or.result.1.now (sym c.deref-in-Or.ensures.value ∙ c.sides-in-Or.ensures)

pub returns-in-Truth-clause-own : goal.returns-in-Truth-clause-own
returns-in-Truth-clause-own c =
    let n : c.len.result ≡ length c.in-Fun.args.items = omega (arith, c.in-Fun.args.ok.0) in
    let h : connective_of (name_text c.args.names.now c.in-Fun.name.0) (length c.in-Fun.args.items) ≡ connective.Truth = cc (c.in-Truth.ensures) in
    let none = nothing_left c.in-Fun.args.items (none_of_truth _ _ h) in
    occurrences_fun c.args.term.now c.in-Fun.name c.in-Fun.args c.in-Fun.is ∙ ap (λ (ts : List ReadTerm). list_variables (map plain_of ts)) none

pub returns-in-And-clause-query : goal.returns-in-And-clause-query
returns-in-And-clause-query c =
    let n : c.len.result ≡ length c.in-Fun.args.items = omega (arith, c.in-Fun.args.ok.0) in
    let h : connective_of (name_text c.args.names.now c.in-Fun.name.0) (length c.in-Fun.args.items) ≡ connective.And = cc (c.in-And.ensures) in
    query_both c.args.names.now c.args.term.now c.in-Fun.name c.in-Fun.args c.in-Fun.is c.sides.result.0.now c.sides.result.1.now (sym c.deref.ensures.value ∙ c.sides.ensures) h

pub returns-in-Or-clause-query : goal.returns-in-Or-clause-query
returns-in-Or-clause-query c =
    let n : c.len.result ≡ length c.in-Fun.args.items = omega (arith, c.in-Fun.args.ok.0) in
    let h : connective_of (name_text c.args.names.now c.in-Fun.name.0) (length c.in-Fun.args.items) ≡ connective.Or = cc (c.in-Or.ensures) in
    query_either c.args.names.now c.args.term.now c.in-Fun.name c.in-Fun.args c.in-Fun.is h

pub returns-in-Truth-clause-query : goal.returns-in-Truth-clause-query
returns-in-Truth-clause-query c =
    let n : c.len.result ≡ length c.in-Fun.args.items = omega (arith, c.in-Fun.args.ok.0) in
    let h : connective_of (name_text c.args.names.now c.in-Fun.name.0) (length c.in-Fun.args.items) ≡ connective.Truth = cc (c.in-Truth.ensures) in
    query_nothing c.args.names.now c.args.term.now c.in-Fun.name c.in-Fun.args c.in-Fun.is h

pub returns-in-Other-clause-query : goal.returns-in-Other-clause-query
returns-in-Other-clause-query c =
    let n : c.len.result ≡ length c.in-Fun.args.items = omega (arith, c.in-Fun.args.ok.0) in
    let h : connective_of (name_text c.args.names.now c.in-Fun.name.0) (length c.in-Fun.args.items) ≡ connective.Other = cc (c.in-Other.ensures) in
    query_other c.args.names.now c.args.term.now c.in-Fun.name c.in-Fun.args c.in-Fun.is c.atom_item.result h c.atom_item.ensures.goal
