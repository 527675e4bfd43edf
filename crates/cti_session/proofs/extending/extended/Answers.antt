use Rattle.std.proofs.Common.{◌≡◌, ◌∙◌, ◌-◌, ℕ, List, Option, length, map, ap, sym, subst, arith, length-append}
use Rattle.clause_normal.specs.Definite.{AreDefinite}
use Rattle.kept_clauses.specs.KeptLists.{AreKeptList}
use Rattle.prolog_reader.specs.Fit.{AreFit}
use Rattle.prolog_terms.specs.Clauses.{Clause}
use Rattle.prolog_terms.specs.Terms.{clause_of}
use Rattle.prolog_terms.specs.declared.clause.ReadClause.{ReadClause}
use Rattle.cti_session.specs.Extending.{first_fault}
use Rattle.edit_texts.specs.Following.{IsOneEdit}
use Rattle.cti_session.proofs.ExtendLemmas.{definite_more, fit_both, map_both}
use Rattle.edit_texts.proofs.Lists.{map_length}
use Rattle.cti_session.proofs.extending.extended.Goals as goal

pub follow-requires-clause-definite : goal.follow-requires-clause-definite
follow-requires-clause-definite c =
    let old = c.args.clauses.now.items in
    let more = c.args.more.items in
    let pushed = c.in_ok-nodes.ensures.pushed in
    let is = ap (λ (ds : List ReadClause). map clause_of ds) pushed.clauses ∙ map_both clause_of old more in
    let none = ap (λ (k : ℕ). first_fault c.args.names.now k (map clause_of more)) (map_length clause_of old) ∙ c.in_ok-nodes.ensures.exact in
    subst (λ (ds : List Clause). AreDefinite c.args.names.now ds) (sym is)
    (definite_more c.args.names.now (map clause_of old) (map clause_of more) c.requires.known.definite none)

pub follow-requires-clause-fit : goal.follow-requires-clause-fit
follow-requires-clause-fit c =
    let old = c.args.clauses.now.items in
    let more = c.args.more.items in
    let is = ap (λ (ds : List ReadClause). map clause_of ds) c.in_ok-nodes.ensures.pushed.clauses ∙ map_both clause_of old more in
    subst (λ (ds : List Clause). AreFit (length c.args.names.now) ds) (sym is)
    (fit_both (length c.args.names.now) (map clause_of old) (map clause_of more) c.requires.known.fit c.requires.fit c.requires.small)

pub follow-requires-clause-before : goal.follow-requires-clause-before
follow-requires-clause-before c =
    let old = c.args.clauses.now.items in
    let more = c.args.more.items in
    let cs = map clause_of old in
    let ds = map clause_of more in
    let pushed = c.in_ok-nodes.ensures.pushed in
    let many : length cs ≡ c.args.count = omega (arith, c.requires.count, map_length clause_of old) in
    let is = ap (λ (ds : List ReadClause). map clause_of ds) pushed.clauses ∙ map_both clause_of old more in
    let rest : length ds ≡ c.len.result - c.args.count = omega (arith, map_length clause_of more, c.requires.count, c.len.ensures, ap length pushed.clauses, length-append old more) in
    record {
      clauses = cs;
      many = many;
      definite = c.requires.known.definite;
      is = c.requires.known.program;
      named = c.requires.known.named;
      kept = subst (λ (ks : List (Option ℕ)). AreKeptList cs (map clause_of c.push_all.new.clauses.items) ks) (sym c.deref.ensures.value)
          (subst (λ (ds : List Clause). AreKeptList cs ds c.in_ok-since.since.items) (sym is) (c.in_ok-since.ensures.kept cs ds many rest));
    }

pub returns-clause-untouched : goal.returns-clause-untouched
returns-clause-untouched c =
    let one : IsOneEdit c.args.count c.deref.result.now = subst (λ (ks : List (Option ℕ)). IsOneEdit c.args.count ks) (sym c.deref.ensures.value) c.in_ok-since.ensures.one in
    c.in_ok-follow.ensures.untouched one
