use Rattle.std.proofs.Common.{◌≡◌, List, None, Option, ℕ, length, ap, ◌∙◌, arith}
use Rattle.std.specs.List.{insert}
use Rattle.kept_clauses.specs.KeptLists.{kept_by_insertion}
use Rattle.kept_clauses.proofs.KeptListLaws.{length_from, put_all, put_kept, put_order}
use Rattle.kept_clauses.proofs.kept_lists.kept_with.Goals as goal

pub insert-requires : goal.insert-requires
insert-requires c = omega (arith, ap length c.in_ok-kept.ensures, length_from 1 c.args.count)

pub returns-clause-kept : goal.returns-clause-kept
returns-clause-kept c =
    let is : c.insert.new.self.items ≡ kept_by_insertion c.args.count c.args.at = c.in_ok-insert.ensures.items ∙ ap (λ (ks : List (Option ℕ)). insert ks c.args.at None) c.in_ok-kept.ensures in
    λ cs k e. put_kept c.args.count c.args.at c.requires.within c.insert.new.self.items is cs k e

pub returns-clause-order : goal.returns-clause-order
returns-clause-order c =
    let is : c.insert.new.self.items ≡ kept_by_insertion c.args.count c.args.at = c.in_ok-insert.ensures.items ∙ ap (λ (ks : List (Option ℕ)). insert ks c.args.at None) c.in_ok-kept.ensures in
    put_order c.args.count c.args.at c.requires.within c.insert.new.self.items is

pub returns-clause-onto : goal.returns-clause-onto
returns-clause-onto c =
    let is : c.insert.new.self.items ≡ kept_by_insertion c.args.count c.args.at = c.in_ok-insert.ensures.items ∙ ap (λ (ks : List (Option ℕ)). insert ks c.args.at None) c.in_ok-kept.ensures in
    put_all c.args.count c.args.at c.requires.within c.insert.new.self.items is
