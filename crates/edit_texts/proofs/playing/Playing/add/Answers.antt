use Rattle.std.proofs.Common.{◌≡◌, ◌∙◌, ◌++◌, ◌∷◌, [], ℕ, List, Option, None, Ok, length, ap, refl, sym, subst, arith}
use Rattle.cert_structure.specs.Structure.{AreNamed}
use Rattle.clause_normal.specs.Definite.{AreDefinite, added_fault}
use Rattle.clause_normal.proofs.DefiniteLemmas.{definite_added}
use Rattle.kept_clauses.specs.KeptLists.{AreKeptList}
use Rattle.kept_program.specs.ProgramParts.{ProgramParts}
use Rattle.prolog_reader.specs.Fit.{AreFit}
use Rattle.prolog_terms.specs.Clauses.{Clause}
use Rattle.prolog_terms.specs.Terms.{clause_of}
use Rattle.edit_texts.specs.Edits.{added}
use Rattle.edit_texts.specs.Playing.{clauses_in}
use Rattle.edit_texts.proofs.Clauses.{kept_push}
use Rattle.edit_texts.proofs.Lists.{map_length}
use Rattle.edit_texts.proofs.PlayLemmas.{append_none, fit_push}
use Rattle.edit_texts.proofs.playing.Playing.add.Goals as goal

pub returns-clause-step : goal.returns-clause-step
returns-clause-step c = λ at.
    let names = c.args.names.now in
    let old = c.args.self.now in
    let new = c.push.new.self in
    let cs = clauses_in old in
    let d = clause_of c.args.clause in
    let u = c.requires.under_way in
    let e = c.in_ok-push.ensures in
    let many : c.len.result ≡ length cs = omega (arith, c.len.ensures, map_length clause_of old.clauses.items) in
    let none : added_fault names (length cs) d ≡ None = ap (λ (n : ℕ). added_fault names n d) (sym many) ∙ c.in_ok-check_added.ensures.exact in
    let fit : AreFit (length names) (cs ++ d ∷ []) = fit_push (length names) cs d u.fit c.requires.fit c.requires.small in
    let definite : AreDefinite names (cs ++ d ∷ []) = definite_added names cs d u.definite none in
    record {
      told = [];
      is = ap (added cs d) none ∙ ap (λ (ds : List Clause). Ok (ds, [])) (sym e.clauses);
      more = [];
      lines = refl;
      text = ap (λ v. v.items) e.others.2 ∙ sym (append_none old.lines.items);
      under_way = record {
        fit = subst (λ (ds : List Clause). AreFit (length names) ds) (sym e.clauses) fit;
        definite = subst (λ (ds : List Clause). AreDefinite names ds) (sym e.clauses) definite;
        operations = u.operations;
        before = record {
          clauses = u.before.clauses;
          many = u.before.many ∙ sym e.others.1;
          definite = u.before.definite;
          is = ap (λ (k : ProgramParts). k.program) e.others.0 ∙ u.before.is;
          named = subst (λ (k : ProgramParts). AreNamed names k.program.preds) (sym e.others.0) u.before.named;
          kept = subst (λ (ks : List (Option ℕ)). AreKeptList u.before.clauses (clauses_in new) ks) (sym e.since)
              (subst (λ (ds : List Clause). AreKeptList u.before.clauses ds (old.since.items ++ None ∷ [])) (sym e.clauses) (kept_push u.before.clauses cs d old.since.items u.before.kept));
        };
        current = λ f. absurd (let g = sym e.stale ∙ f in cc);
      };
    }
