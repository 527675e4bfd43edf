use Rattle.std.proofs.Common.{◌≡◌, ◌↔◌, Bool, true, IsTrue}
use Rattle.number_tests.proofs.CallFacts.{if_ok_more}
use Rattle.lex_checker.specs.NoList.{StuckComponentsHaveNoList}
use Rattle.lex_checker.specs.Valid.{IsValid}
use Rattle.lex_checker.proofs.checking.check.Goals as goal

pub returns-clause-stuck : goal.returns-clause-stuck
returns-clause-stuck c =
    let p = c.args.p.now in
    let names = c.args.names.now in
    let facts = c.args.c.now.facts in
    if_ok_more (λ (yes : Bool). IsTrue yes ↔ IsValid p names facts) (λ (yes : Bool). yes ≡ true → StuckComponentsHaveNoList p names facts)
    (λ yes decides t. c.stuck_components_have_no_list.ensures p names facts c.preds.ensures.sound c.requires.named c.count.ensures.distinct (decides.0 t)) c.is_valid.result c.is_valid.ensures
