use Rattle.std.proofs.Common.{◌≡◌, ◌∙◌, ℕ, List, length, map, ap, subst, sym}
use Rattle.cert_structure.specs.Structure.{AreNamed}
use Rattle.clause_normal.specs.ChoiceNames.{HasOperations}
use Rattle.clause_normal.specs.Definite.{AreDefinite, program_of}
use Rattle.cti_terms.specs.Listing.{Listing}
use Rattle.prolog_reader.specs.Fit.{AreFit}
use Rattle.prolog_terms.specs.Terms.{clause_of}
use Rattle.prolog_terms.specs.declared.clause.ReadClause.{ReadClause}
use Rattle.component_laws.specs.Untouched.{AreUntouched}
use Rattle.kept_clauses.specs.KeptPrograms.{IsListEdit, kept_of_program}
use Rattle.kept_clauses.proofs.KeptProgramLaws.{list_edit_keeps_untouched}
use Rattle.edit_texts.proofs.Answered.{on_both, on_ok}
use Rattle.edit_texts.proofs.BuiltAlike.{kind_is}
use Rattle.edit_texts.proofs.following.follow.Goals as goal

pub returns-clause-program : goal.returns-clause-program
returns-clause-program c =
    let names = c.definite_program.new.names in
    let cs = map clause_of c.args.clauses.now.items in
    let same = sym (c.in_ok-program.ensures.same c.requires.operations) in
    on_ok c.edit.result
    (λ is. record {
      fit = subst (λ (ns : List (List ℕ)). AreFit (length ns) cs) same c.requires.fit;
      definite = subst (λ (ns : List (List ℕ)). AreDefinite ns cs) same c.requires.definite;
      operations = subst HasOperations same c.requires.operations;
      program = is ∙ c.in_ok-program.ensures.program ∙ ap (λ (xs : List ReadClause). program_of names (map clause_of xs)) c.as_slice.ensures.value;
      named = subst (λ (p : Listing). AreNamed names p.preds) (sym is) c.in_ok-program.ensures.known;
    })
    c.edit.ensures.program

pub returns-clause-untouched : goal.returns-clause-untouched
returns-clause-untouched c =
    let names = c.args.names.now in
    let old = c.args.kept.now in
    let new = c.edit.new.self in
    let cs = map clause_of c.args.clauses.now.items in
    let before = c.requires.before in
    let program = c.in_ok-program.program in
    let same = c.in_ok-program.ensures.same c.requires.operations in
    let after : program ≡ program_of names cs =
    c.in_ok-program.ensures.program ∙ ap (λ (xs : List ReadClause). program_of c.definite_program.new.names (map clause_of xs)) c.as_slice.ensures.value ∙ ap (λ (ns : List (List ℕ)). program_of ns cs) same in
    let list : IsListEdit names before.clauses cs c.args.count c.args.since.now old.program program = record {
      distinct = c.count-names.ensures.distinct;
      definite_before = before.definite;
      definite = c.requires.definite;
      before = before.is;
      after = after;
      many = before.many;
      kept_list = before.kept;
    } in
    let numbers = c.deref.ensures.value ∙ c.in_ok-same.ensures.exact ∙ ap (λ (p : Listing). kept_of_program p program c.args.count c.args.since.now) c.program.ensures in
    on_both c.edit.result
    (λ is keeps one set untouched.
    let own = subst (λ (p : Listing). AreUntouched old.program p set) is untouched in
    keeps set own (list_edit_keeps_untouched names before.clauses cs c.args.count c.args.since.now c.deref.result.now old.program program set list numbers one.order own one.all)
    (λ q r x here there of_set. kind_is names program cs r x after there ∙ sym (kind_is names old.program before.clauses q x before.is here)))
    c.edit.ensures.program c.edit.ensures.untouched
