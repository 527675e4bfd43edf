use Rattle.std.proofs.Common.{◌≡◌, List, Option, ℕ, length, ap, ◌∙◌, arith}
use Rattle.std.specs.List.{remove}
use Rattle.kept_clauses.specs.KeptLists.{kept_by_removal}
use Rattle.kept_clauses.proofs.KeptListLaws.{length_from, take_all, take_kept, take_order}
use Rattle.kept_clauses.proofs.kept_lists.kept_without.Goals as goal

pub remove-requires : goal.remove-requires
remove-requires c = omega (arith, ap length c.in_ok-kept.ensures, length_from 1 c.args.count)

pub returns-clause-kept : goal.returns-clause-kept
returns-clause-kept c =
    let is : c.remove.new.self.items ≡ kept_by_removal c.args.count c.args.at = c.remove.ensures.items ∙ ap (λ (ks : List (Option ℕ)). remove ks c.args.at) c.in_ok-kept.ensures in
    λ cs e. take_kept c.args.count c.args.at c.requires.within c.remove.new.self.items is cs e

pub returns-clause-order : goal.returns-clause-order
returns-clause-order c =
    let is : c.remove.new.self.items ≡ kept_by_removal c.args.count c.args.at = c.remove.ensures.items ∙ ap (λ (ks : List (Option ℕ)). remove ks c.args.at) c.in_ok-kept.ensures in
    take_order c.args.count c.args.at c.requires.within c.remove.new.self.items is

pub returns-clause-total : goal.returns-clause-total
returns-clause-total c =
    let is : c.remove.new.self.items ≡ kept_by_removal c.args.count c.args.at = c.remove.ensures.items ∙ ap (λ (ks : List (Option ℕ)). remove ks c.args.at) c.in_ok-kept.ensures in
    take_all c.args.count c.args.at c.requires.within c.remove.new.self.items is
