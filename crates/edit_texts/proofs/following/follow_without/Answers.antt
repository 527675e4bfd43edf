use Rattle.std.proofs.Common.{◌≡◌, ◌∙◌, ◌<◌, ℕ, List, Option, length, map, inl, ap, sym, subst, arith}
use Rattle.clause_normal.specs.Definite.{AreDefinite}
use Rattle.kept_clauses.specs.KeptLists.{AreKeptList}
use Rattle.prolog_reader.specs.Fit.{AreFit}
use Rattle.prolog_terms.specs.Clauses.{Clause}
use Rattle.prolog_terms.specs.Terms.{clause_of}
use Rattle.prolog_terms.specs.declared.clause.ReadClause.{ReadClause}
use Rattle.edit_texts.proofs.Clauses.{fit_remove}
use Rattle.edit_texts.specs.Following.{IsOneEdit}
use Rattle.edit_texts.proofs.Lists.{map_length, map_remove}
use Rattle.edit_texts.proofs.PlayLemmas.{definite_removed}
use Rattle.edit_texts.proofs.following.follow_without.Goals as goal

pub follow-requires-clause-before : goal.follow-requires-clause-before
follow-requires-clause-before c =
    let xs = c.args.clauses.now.items in
    let cs = map clause_of xs in
    let many : length cs ≡ c.len-count.result = omega (arith, c.len-count.ensures, map_length clause_of xs) in
    let is = ap (λ (ds : List ReadClause). map clause_of ds) c.remove-clause.ensures.items ∙ map_remove clause_of xs c.args.at in
    record {
      clauses = cs;
      many = many;
      definite = c.requires.known.definite;
      is = c.requires.known.program;
      named = c.requires.known.named;
      kept = subst (λ (ks : List (Option ℕ)). AreKeptList cs (map clause_of c.remove-clause.new.self.items) ks) (sym c.deref.ensures.value)
          (subst (λ (ds : List Clause). AreKeptList cs ds c.in_ok-since.since.items) (sym is) (c.in_ok-since.ensures.kept cs many));
    }

pub follow-requires-clause-fit : goal.follow-requires-clause-fit
follow-requires-clause-fit c =
    let xs = c.args.clauses.now.items in
    let is = ap (λ (ds : List ReadClause). map clause_of ds) c.remove-clause.ensures.items ∙ map_remove clause_of xs c.args.at in
    let n = length c.args.names.now in
    let lt : c.args.at < length (map clause_of xs) = omega (arith, c.requires.at, map_length clause_of xs) in
    subst (λ (ds : List Clause). AreFit n ds) (sym is) (fit_remove n (map clause_of xs) c.args.at (clause_of c.remove-clause.result) lt c.requires.known.fit)

pub follow-requires-clause-definite : goal.follow-requires-clause-definite
follow-requires-clause-definite c =
    let xs = c.args.clauses.now.items in
    let is = ap (λ (ds : List ReadClause). map clause_of ds) c.remove-clause.ensures.items ∙ map_remove clause_of xs c.args.at in
    subst (λ (ds : List Clause). AreDefinite c.args.names.now ds) (sym is) (definite_removed c.args.names.now (map clause_of xs) c.args.at c.requires.known.definite)

pub returns-in-Ok-clause-clauses : goal.returns-in-Ok-clause-clauses
returns-in-Ok-clause-clauses c = ap (λ (ds : List ReadClause). map clause_of ds) c.remove-clause.ensures.items ∙ map_remove clause_of c.args.clauses.now.items c.args.at

pub returns-in-Ok-clause-untouched : goal.returns-in-Ok-clause-untouched
returns-in-Ok-clause-untouched c =
    let one : IsOneEdit c.len-count.result c.deref.result.now = subst (λ (ks : List (Option ℕ)). IsOneEdit c.len-count.result ks) (sym c.deref.ensures.value) (record { order = c.in_ok-since.ensures.order; all = inl c.in_ok-since.ensures.total }) in
    c.in-Ok.ensures.untouched one
