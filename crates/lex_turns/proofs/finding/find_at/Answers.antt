use Rattle.std.proofs.Common.{sym, subst, inl, inr}
use Rattle.level_systems.specs.Searched.{IsAnswer}
use Rattle.level_dual.proofs.Results.{if_ok}
use Rattle.lex_turns.specs.Found.{IsListIn}
use Rattle.lex_turns.specs.declared.within.Within.{Within}
use Rattle.lex_turns.proofs.Choosing.{all_chosen}
use Rattle.lex_turns.proofs.SingleLists.{one_found}
use Rattle.lex_turns.proofs.finding.find_at.Goals as goal

pub returns-in_ok-list_of_one-in-Mapping-clause-within :
    goal.returns-in_ok-list_of_one-in-Mapping-clause-within
returns-in_ok-list_of_one-in-Mapping-clause-within c = λ size truth expression comps rows r h.
    let p = c.args.p.now in
    let s = c.args.set.now in
    let found = subst (IsAnswer expression p comps rows r s) c.in-Mapping.is (c.in_ok-mapping.ensures size truth expression comps rows r h) in
    subst (IsListIn expression p comps rows r s) (sym c.in_ok-list_of_one-in-Mapping.ensures) (one_found expression p comps rows r s c.in-Mapping.mapping found)

pub returns-in-Refuted-clause-chosen : goal.returns-in-Refuted-clause-chosen
returns-in-Refuted-clause-chosen c =
    if_ok c.search_within.result (λ (w : Within) is. λ size truth expression comps rows r h.
    all_chosen expression c.args.p.now comps rows r c.args.set.now w (inr (subst (IsAnswer expression c.args.p.now comps rows r c.args.set.now) c.in-Refuted.is (c.in_ok-mapping.ensures size truth expression comps rows r h)))) c.search_within.ensures

pub returns-in-Blown-clause-chosen : goal.returns-in-Blown-clause-chosen
returns-in-Blown-clause-chosen c =
    if_ok c.search_within-in-Blown.result (λ (w : Within) is. λ size truth expression comps rows r h.
    all_chosen expression c.args.p.now comps rows r c.args.set.now w (inl (subst (IsAnswer expression c.args.p.now comps rows r c.args.set.now) c.in-Blown.is (c.in_ok-mapping.ensures size truth expression comps rows r h)))) c.search_within-in-Blown.ensures
