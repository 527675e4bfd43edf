use Rattle.std.proofs.Common.{◌≡◌, ◌∙◌, ℕ, List, [], ◌∷◌, ◌++◌, map, Some, Ok, Vec, Global, rules, ap, sym, subst}
use Rattle.std.proofs.lemmas.Int.{to_z-of_z}
use Rattle.std.specs.Int.{w128}
use Rattle.std.specs.Prelude.{FitsSigned}
use Rattle.cert_structure.specs.Order.{pred_text}
use Rattle.certificate.specs.Text.{fact_text}
use Rattle.certificate.specs.declared.fact.Fact.TheVariants.{Terminates}
use Rattle.clause_normal.specs.Definite.{program_of}
use Rattle.cti_terms.specs.Listing.{Listing}
use Rattle.prolog_terms.specs.Clauses.{Clause}
use Rattle.prolog_terms.specs.Terms.{clause_of}
use Rattle.prolog_terms.specs.declared.clause.ReadClause.{ReadClause}
use Rattle.edit_texts.specs.Edits.{predicate_in, told_at}
use Rattle.kept_program.specs.ProgramParts.{certificate_facts}
use Rattle.report.specs.Solution.{IsExactCertificate}
use Rattle.edit_texts.specs.Playing.{IsToldAs, IsUnderWay, clauses_in}
use Rattle.edit_texts.specs.Told.{IsLine}
use Rattle.edit_texts.proofs.PlayLemmas.{line_alone, stays}
use Rattle.edit_texts.proofs.ToldLines.{told_line}
use Rattle.edit_texts.proofs.playing.Playing.tell.Goals as goal

pub certified-requires : goal.certified-requires
certified-requires c = c.in_ok-catch_up.ensures.under_way.before.named

pub returns-in_ok-push_line-in-Some-clause-step : goal.returns-in_ok-push_line-in-Some-clause-step
returns-in_ok-push_line-in-Some-clause-step c =
    let names = c.args.names.now in
    let now = c.catch_up.new.self in
    let after = c.push_line.new.self in
    let q = c.in-Some.p.0 in
    let u : IsUnderWay names now = subst (λ (ns : List (List ℕ)). IsUnderWay ns now) c.in_ok-catch_up.ensures.names c.in_ok-catch_up.ensures.under_way in
    let program = u.current c.in_ok-catch_up.ensures.current in
    let line = subst (λ (ns : List (List ℕ)). IsToldAs ns now after q) c.in_ok-catch_up.ensures.names c.in_ok-push_line-in-Some.ensures.line in
    let exact = subst (λ (ns : List (List ℕ)). IsExactCertificate now.kept.program ns (certificate_facts ns now.kept)) c.in_ok-catch_up.ensures.names c.certified.ensures in
    let others = c.in_ok-push_line-in-Some.ensures.others in
    let same : clauses_in now ≡ clauses_in c.args.self.now = ap (λ (v : Vec ReadClause Global). map clause_of v.items) c.in_ok-catch_up.ensures.clauses in
    let last : clauses_in c.args.self.now ≡ clauses_in after = sym (ap (λ (v : Vec ReadClause Global). map clause_of v.items) others.0 ∙ same) in
    let fits : FitsSigned w128 c.args.arity = search rules in
    let found : predicate_in now.kept.program c.args.name.0 c.args.arity ≡ Some q =
    ap (λ (p : Listing). predicate_in p c.args.name.0 c.args.arity) (sym c.program.ensures) ∙ ap (predicate_in c.program.result.now c.args.name.0) (sym (to_z-of_z w128 c.args.arity fits)) ∙ sym c.in-Some.ensures.number in
    let there = ap (λ (p : Listing). predicate_in p c.args.name.0 c.args.arity) (sym (program ∙ ap (program_of names) same)) ∙ found in
    let told = told_line names (clauses_in now) now.kept program exact q line.modes line.at in
    record {
      told = (clauses_in c.args.self.now, q) ∷ [];
      is = ap (told_at (clauses_in c.args.self.now) c.args.at) there ∙ ap (λ (cs : List Clause). Ok (cs, (clauses_in c.args.self.now, q) ∷ [])) last;
      more = fact_text (Terminates (pred_text now.kept.program names q) line.modes);
      lines = line_alone names (clauses_in c.args.self.now, q) _ (subst (λ (cs : List Clause). IsLine names (cs, q) (fact_text (Terminates (pred_text now.kept.program names q) line.modes))) same told);
      text = line.lines ∙ ap (λ (v : Vec ℕ Global). v.items ++ fact_text (Terminates (pred_text now.kept.program names q) line.modes)) c.in_ok-catch_up.ensures.lines;
      under_way = stays names now after others.0 others.1 others.2 others.3 others.4 u;
    }
