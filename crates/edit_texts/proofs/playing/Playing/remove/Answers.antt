use Rattle.std.proofs.Common.{◌≡◌, ◌∙◌, ◌+◌, ◌-◌, ◌<◌, ◌≤◌, ℕ, List, Option, [], length, map, Some, Ok, rules, ap, refl, sym, subst, arith}
use Rattle.std.proofs.lemmas.Int.{to_z-of_z}
use Rattle.std.specs.Int.{w128}
use Rattle.std.specs.Prelude.{FitsSigned}
use Rattle.std.specs.List.{remove as removed}
use Rattle.clause_normal.specs.Definite.{AreDefinite}
use Rattle.prolog_reader.specs.Fit.{AreFit}
use Rattle.prolog_terms.specs.Clauses.{Clause}
use Rattle.prolog_terms.specs.Terms.{clause_of}
use Rattle.edit_texts.specs.Edits.{number_in, removed_at}
use Rattle.edit_texts.specs.Snapshot.{nodes_in}
use Rattle.kept_clauses.specs.KeptLists.{AreKeptList}
use Rattle.edit_texts.proofs.Clauses.{fit_remove, kept_remove}
use Rattle.edit_texts.proofs.Lists.{map_length, map_remove}
use Rattle.edit_texts.proofs.PlayLemmas.{append_none, definite_removed, fewer_nodes, number_within}
use Rattle.edit_texts.proofs.playing.Playing.remove.Goals as goal

pub remove-number-requires : goal.remove-number-requires
remove-number-requires c =
    let xs = c.args.self.now.clauses.items in
    let cs = map clause_of xs in
    let k = c.in-Some.place in
    let fits : FitsSigned w128 c.args.number = search rules in
    let n : c.len.result ≡ length cs = omega (arith, c.len.ensures, map_length clause_of xs) in
    let at : number_in (length cs) c.args.number ≡ Some (k + 1) = ap (λ (m : ℕ). number_in m c.args.number) (sym n) ∙ ap (number_in c.len.result) (sym (to_z-of_z w128 c.args.number fits)) ∙ sym c.in-Some.ensures in
    let within = number_within (length cs) c.args.number (k + 1) at in
    omega (arith, within.1, c.requires.each, map_length clause_of xs)

pub returns-in-Some-clause-step : goal.returns-in-Some-clause-step
returns-in-Some-clause-step c = λ names u.
    let xs = c.args.self.now.clauses.items in
    let cs = map clause_of xs in
    let k = c.in-Some.place in
    let fits : FitsSigned w128 c.args.number = search rules in
    let n : c.len.result ≡ length cs = omega (arith, c.len.ensures, map_length clause_of xs) in
    let at : number_in (length cs) c.args.number ≡ Some (k + 1) = ap (λ (m : ℕ). number_in m c.args.number) (sym n) ∙ ap (number_in c.len.result) (sym (to_z-of_z w128 c.args.number fits)) ∙ sym c.in-Some.ensures in
    let within = number_within (length cs) c.args.number (k + 1) at in
    let lt : k < length cs = omega (arith, within.1) in
    let before : k + 1 - 1 ≡ k = omega arith in
    let gone : map clause_of c.remove-removed.new.self.items ≡ removed cs k = ap (map clause_of) c.remove-removed.ensures.items ∙ map_remove clause_of xs k in
    record {
      told = [];
      is = ap (removed_at cs c.args.at) at ∙ ap (λ (ds : List Clause). Ok (ds, [])) (ap (λ (i : ℕ). removed cs i) before ∙ sym gone);
      more = [];
      lines = refl;
      text = sym (append_none c.args.self.now.lines.items);
      under_way = record {
        fit = subst (λ (ds : List Clause). AreFit (length names) ds) (sym gone) (fit_remove (length names) cs k (clause_of c.remove-removed.result) lt u.fit);
        definite = subst (λ (ds : List Clause). AreDefinite names ds) (sym gone) (definite_removed names cs k u.definite);
        operations = u.operations;
        before = record {
          clauses = u.before.clauses;
          many = u.before.many;
          definite = u.before.definite;
          is = u.before.is;
          named = u.before.named;
          kept = subst (λ (ks : List (Option ℕ)). AreKeptList u.before.clauses (map clause_of c.remove-removed.new.self.items) ks) (sym c.remove-number.ensures.items)
              (subst (λ (ds : List Clause). AreKeptList u.before.clauses ds (removed c.args.self.now.since.items k)) (sym gone) (kept_remove u.before.clauses cs c.args.self.now.since.items k u.before.kept));
        };
        current = λ e. absurd (let d = e in cc);
      };
    }

pub returns-in-Some-clause-fewer : goal.returns-in-Some-clause-fewer
returns-in-Some-clause-fewer c =
    let xs = c.args.self.now.clauses.items in
    let gone : map clause_of c.remove-removed.new.self.items ≡ removed (map clause_of xs) c.in-Some.place = ap (map clause_of) c.remove-removed.ensures.items ∙ map_remove clause_of xs c.in-Some.place in
    subst (λ (ds : List Clause). nodes_in ds ≤ nodes_in (map clause_of xs)) (sym gone) (fewer_nodes (map clause_of xs) c.in-Some.place)
