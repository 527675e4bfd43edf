use Rattle.std.proofs.Common.{◌≡◌, ◌∙◌, ℕ, List, Option, length, map, inr, ap, sym, subst, arith}
use Rattle.clause_normal.specs.Definite.{AreDefinite}
use Rattle.kept_clauses.specs.KeptLists.{AreKeptList}
use Rattle.prolog_reader.specs.Fit.{AreFit}
use Rattle.prolog_terms.specs.Clauses.{Clause}
use Rattle.prolog_terms.specs.Terms.{clause_of}
use Rattle.prolog_terms.specs.declared.clause.ReadClause.{ReadClause}
use Rattle.edit_texts.specs.Following.{IsOneEdit}
use Rattle.edit_texts.proofs.Lists.{map_insert, map_length}
use Rattle.edit_texts.proofs.following.follow_with.Goals as goal

pub follow-requires-clause-before : goal.follow-requires-clause-before
follow-requires-clause-before c =
    let xs = c.args.clauses.now.items in
    let cs = map clause_of xs in
    let many : length cs ≡ c.len-count.result = omega (arith, c.len-count.ensures, map_length clause_of xs) in
    let is = ap (λ (ds : List ReadClause). map clause_of ds) c.in_ok-insert.ensures.items ∙ map_insert clause_of xs c.args.at c.args.clause in
    record {
      clauses = cs;
      many = many;
      definite = c.requires.known.definite;
      is = c.requires.known.program;
      named = c.requires.known.named;
      kept = subst (λ (ks : List (Option ℕ)). AreKeptList cs (map clause_of c.insert.new.self.items) ks) (sym c.deref.ensures.value)
          (subst (λ (ds : List Clause). AreKeptList cs ds c.in_ok-since.since.items) (sym is) (c.in_ok-since.ensures.kept cs (clause_of c.args.clause) many));
    }

pub follow-requires-clause-fit : goal.follow-requires-clause-fit
follow-requires-clause-fit c =
    let is = ap (λ (ds : List ReadClause). map clause_of ds) c.in_ok-insert.ensures.items ∙ map_insert clause_of c.args.clauses.now.items c.args.at c.args.clause in
    subst (λ (ds : List Clause). AreFit (length c.args.names.now) ds) (sym is) c.requires.fit

pub follow-requires-clause-definite : goal.follow-requires-clause-definite
follow-requires-clause-definite c =
    let is = ap (λ (ds : List ReadClause). map clause_of ds) c.in_ok-insert.ensures.items ∙ map_insert clause_of c.args.clauses.now.items c.args.at c.args.clause in
    subst (λ (ds : List Clause). AreDefinite c.args.names.now ds) (sym is) c.requires.definite

pub returns-in-Ok-clause-clauses : goal.returns-in-Ok-clause-clauses
returns-in-Ok-clause-clauses c = ap (λ (ds : List ReadClause). map clause_of ds) c.in_ok-insert.ensures.items ∙ map_insert clause_of c.args.clauses.now.items c.args.at c.args.clause

pub returns-in-Ok-clause-untouched : goal.returns-in-Ok-clause-untouched
returns-in-Ok-clause-untouched c =
    let one : IsOneEdit c.len-count.result c.deref.result.now = subst (λ (ks : List (Option ℕ)). IsOneEdit c.len-count.result ks) (sym c.deref.ensures.value) (record { order = c.in_ok-since.ensures.order; all = inr c.in_ok-since.ensures.onto }) in
    c.in-Ok.ensures.untouched one
