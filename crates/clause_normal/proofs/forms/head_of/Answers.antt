use Rattle.std.proofs.Common.{◌≡◌, ◌≤◌, ◌∙◌, ℕ, List, None, length, map, sym, ap, arith}
use Rattle.std.proofs.lemmas.List.{length-map}
use Rattle.prolog_reader.specs.Names.{name_text}
use Rattle.prolog_terms.specs.Terms.{tree_of}
use Rattle.prolog_terms.specs.declared.term.ReadTerm.{ReadTerm}
use Rattle.clause_normal.specs.NormalForm.{named_head_fault, head_fault, head_call}
use Rattle.clause_normal.specs.Rules.{named}
use Rattle.clause_variables.specs.TermViews.{plain_of}
use Rattle.clause_normal.proofs.FormLemmas.{head_fault_fun, head_call_fun}
use Rattle.clause_normal.proofs.PartLemmas.{name_known}
use Rattle.clause_normal.proofs.forms.head_of.Goals as goal

pub returns-in-Some : goal.returns-in-Some
returns-in-Some c =
    let n : c.len.result ≡ length c.in-Fun.args.items = omega (arith, c.len.ensures, c.in-Fun.args.ok.0) in
    let at = c.args.term.now.at in
    head_fault_fun c.args.names.now c.args.term.now c.in-Fun.name c.in-Fun.args c.in-Fun.is
    ∙ ap (λ (k : ℕ). named_head_fault (name_text c.args.names.now c.in-Fun.name.0) k at) (sym n)
    ∙ ap (λ (x : List ℕ). named_head_fault x c.len.result at) (sym c.text_of.ensures) ∙ c.in-Some.ensures.fault at

pub returns-in-None : goal.returns-in-None
returns-in-None c =
    let n : c.len.result ≡ length c.in-Fun.args.items = omega (arith, c.len.ensures, c.in-Fun.args.ok.0) in
    let at = c.args.term.now.at in
    let ts = c.deref.result.now in
    let fault : head_fault c.args.names.now (tree_of c.args.term.now) ≡ None =
    head_fault_fun c.args.names.now c.args.term.now c.in-Fun.name c.in-Fun.args c.in-Fun.is
    ∙ ap (λ (k : ℕ). named_head_fault (name_text c.args.names.now c.in-Fun.name.0) k at) (sym n)
    ∙ ap (λ (x : List ℕ). named_head_fault x c.len.result at) (sym c.text_of.ensures) ∙ c.in-None.ensures.fault at in
    let args : ts ≡ c.in-Fun.args.items = c.deref.ensures.value in
    let call : record { functor = named c.in-Fun.name.0; args = map plain_of ts } ≡ head_call (tree_of c.args.term.now) =
    (λ i. record { functor = named c.in-Fun.name.0; args = map plain_of (args i) }) ∙ sym (head_call_fun c.args.names.now c.args.term.now c.in-Fun.name c.in-Fun.args c.in-Fun.is) in
    let few : length (map plain_of ts) ≤ 12 = omega (arith, length-map ts plain_of, ap (λ (us : List ReadTerm). length us) args, n, c.in-None.ensures.few) in
    (fault, call, (few, name_known (length c.args.names.now) c.args.term.now c.in-Fun.name c.in-Fun.args c.in-Fun.is c.requires))
