use Rattle.std.proofs.Common.{◌≡◌, length, refl, arith}
use Rattle.prolog_reader.specs.Names.{name_text}
use Rattle.clause_normal.specs.declared.words.Neck.TheVariants as neck
use Rattle.clause_normal.specs.Words.{neck_of}
use Rattle.clause_normal.proofs.FormLemmas.{one_of_directive, two_of_implies, form_at, parts_at}
use Rattle.clause_normal.proofs.forms.form_of.Goals as goal

pub only-goal-requires : goal.only-goal-requires
only-goal-requires c =
    let h : neck_of c.text_of.result.now c.len.result ≡ neck.Directive = cc (c.in-Directive.ensures) in
    let n = one_of_directive _ _ h in
    omega (arith, c.deref.ensures.len)

pub sides-requires : goal.sides-requires
sides-requires c =
    let h : neck_of c.text_of.result.now c.len.result ≡ neck.Implies = cc (c.in-Implies.ensures) in
    let n = two_of_implies _ _ h in
    omega (arith, c.deref-in-Implies.ensures.len)

pub returns-in-Query-clause-form : goal.returns-in-Query-clause-form
returns-in-Query-clause-form c =
    let n : c.len.result ≡ length c.in-Fun.args.items = omega (arith, c.len.ensures, c.in-Fun.args.ok.0) in
    let h : neck_of (name_text c.args.names.now c.in-Fun.name.0) (length c.in-Fun.args.items) ≡ neck.Query = cc (c.in-Query.ensures) in
    form_at c.args.names.now c.args.term.now c.in-Fun.name c.in-Fun.args c.in-Fun.is neck.Query h

pub returns-in-Grammar-clause-form : goal.returns-in-Grammar-clause-form
returns-in-Grammar-clause-form c =
    let n : c.len.result ≡ length c.in-Fun.args.items = omega (arith, c.len.ensures, c.in-Fun.args.ok.0) in
    let h : neck_of (name_text c.args.names.now c.in-Fun.name.0) (length c.in-Fun.args.items) ≡ neck.Grammar = cc (c.in-Grammar.ensures) in
    form_at c.args.names.now c.args.term.now c.in-Fun.name c.in-Fun.args c.in-Fun.is neck.Grammar h

pub returns-in-Fact-clause-form : goal.returns-in-Fact-clause-form
returns-in-Fact-clause-form c =
    let n : c.len.result ≡ length c.in-Fun.args.items = omega (arith, c.len.ensures, c.in-Fun.args.ok.0) in
    let h : neck_of (name_text c.args.names.now c.in-Fun.name.0) (length c.in-Fun.args.items) ≡ neck.Fact = cc (c.in-Fact.ensures) in
    (form_at c.args.names.now c.args.term.now c.in-Fun.name c.in-Fun.args c.in-Fun.is neck.Fact h, refl)

pub returns-in-Query-clause-parted : goal.returns-in-Query-clause-parted
returns-in-Query-clause-parted c =
    let n : c.len.result ≡ length c.in-Fun.args.items = omega (arith, c.len.ensures, c.in-Fun.args.ok.0) in
    let h : neck_of (name_text c.args.names.now c.in-Fun.name.0) (length c.in-Fun.args.items) ≡ neck.Query = cc (c.in-Query.ensures) in
    parts_at c.args.names.now c.args.term.now c.in-Fun.name c.in-Fun.args c.in-Fun.is neck.Query h

pub returns-in-Grammar-clause-parted : goal.returns-in-Grammar-clause-parted
returns-in-Grammar-clause-parted c =
    let n : c.len.result ≡ length c.in-Fun.args.items = omega (arith, c.len.ensures, c.in-Fun.args.ok.0) in
    let h : neck_of (name_text c.args.names.now c.in-Fun.name.0) (length c.in-Fun.args.items) ≡ neck.Grammar = cc (c.in-Grammar.ensures) in
    parts_at c.args.names.now c.args.term.now c.in-Fun.name c.in-Fun.args c.in-Fun.is neck.Grammar h

pub returns-in-Fact-clause-parted : goal.returns-in-Fact-clause-parted
returns-in-Fact-clause-parted c =
    let n : c.len.result ≡ length c.in-Fun.args.items = omega (arith, c.len.ensures, c.in-Fun.args.ok.0) in
    let h : neck_of (name_text c.args.names.now c.in-Fun.name.0) (length c.in-Fun.args.items) ≡ neck.Fact = cc (c.in-Fact.ensures) in
    parts_at c.args.names.now c.args.term.now c.in-Fun.name c.in-Fun.args c.in-Fun.is neck.Fact h
