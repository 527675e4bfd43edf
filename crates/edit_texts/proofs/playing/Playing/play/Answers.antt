use Rattle.std.proofs.Common.{◌≡◌, ◌≤◌, ◌++◌, ◌∷◌, [], ℕ, ℤ, rules, ap, arith, subst, sym}
use Rattle.std.proofs.lemmas.Int.{to_z-of_z}
use Rattle.std.specs.Int.{w128}
use Rattle.std.specs.Prelude.{FitsSigned}
use Rattle.prolog_reader.proofs.ViewLemmas.{tree_of_parts}
use Rattle.prolog_terms.specs.Clauses.{place}
use Rattle.prolog_terms.specs.Terms.{clause_of, tree_of}
use Rattle.edit_texts.specs.Edits.{Edit, done, tell}
use Rattle.edit_texts.specs.Playing.{AnswersStep, clauses_in}
use Rattle.edit_texts.specs.Snapshot.{nodes_in}
use Rattle.edit_texts.proofs.Answered.{on_ok}
use Rattle.edit_texts.proofs.PlayLemmas.{nodes_both}
use Rattle.edit_texts.proofs.playing.Playing.play.Goals as goal

pub returns-in-Add-clause-step : goal.returns-in-Add-clause-step
returns-in-Add-clause-step c =
    let names = c.args.names.now in
    let cs = clauses_in c.args.self.now in
    let at = place (tree_of c.args.clause.term) in
    subst (λ (e : Edit). AnswersStep names c.args.self.now c.add.new.self (done names cs at e) c.add.result) c.in-Add.ensures.edit (c.add.ensures.step at)

pub returns-in-Add-clause-small : goal.returns-in-Add-clause-small
returns-in-Add-clause-small c =
    let cs = clauses_in c.args.self.now in
    let d = clause_of c.in-Add.clause in
    on_ok c.add.result
    (λ (h : clauses_in c.add.new.self ≡ cs ++ d ∷ []). let n = ap nodes_in h in omega (arith, n, nodes_both cs (d ∷ []), c.in-Add.ensures.fit.1))
    c.add.ensures.clauses

pub returns-in-Remove-clause-small : goal.returns-in-Remove-clause-small
returns-in-Remove-clause-small c =
    let cs = clauses_in c.args.self.now in
    on_ok c.remove.result (λ (h : nodes_in (clauses_in c.remove.new.self) ≤ nodes_in cs). omega (arith, h)) c.remove.ensures.fewer

pub returns-in-Tell-clause-step : goal.returns-in-Tell-clause-step
returns-in-Tell-clause-step c =
    let names = c.args.names.now in
    let cs = clauses_in c.args.self.now in
    let at = place (tree_of c.args.clause.term) in
    let there : c.args.clause.term.at ≡ at = sym (ap place (tree_of_parts c.args.clause.term)) in
    let fits : FitsSigned w128 c.in-Tell.arity = search rules in
    let n = c.in-Tell.name.0 in
    let told = subst (λ (z : ℤ). AnswersStep names c.args.self.now c.tell.new.self (done names cs c.args.clause.term.at (tell n z)) c.tell.result) (to_z-of_z w128 c.in-Tell.arity fits) c.tell.ensures.step in
    let placed = subst (λ (k : ℕ). AnswersStep names c.args.self.now c.tell.new.self (done names cs k (tell n c.in-Tell.arity)) c.tell.result) there told in
    subst (λ (e : Edit). AnswersStep names c.args.self.now c.tell.new.self (done names cs at e) c.tell.result) c.in-Tell.ensures.edit placed
