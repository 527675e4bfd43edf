use Rattle.std.proofs.Common.{◌≡◌, ◌<◌, ◌∙◌, ◌+◌, ◌∷◌, [], ℕ, List, map, drop, get_or, length, sym, ap, subst, arith}
use Rattle.std.proofs.lemmas.List.{at_drop_more, drop_all}
use Rattle.std.specs.List.{AllByRecursion}
use Rattle.cti_terms.specs.Listing.{Listing}
use Rattle.cti_terms.specs.declared.predicates.Pred.{Pred}
use Rattle.prolog_reader.specs.Naming.{with_names}
use Rattle.prolog_reader.proofs.NameLemmas.{extends_self, extends_trans}
use Rattle.prolog_reader.proofs.NamingLemmas.{names_none, names_more}
use Rattle.clause_normal.specs.declared.rule.Rule.{Rule as CodeRule}
use Rattle.clause_normal.specs.ChoiceNames.{call_texts, rule_texts}
use Rattle.clause_normal.specs.Numbering.{arithmetic_of, empty_program, operation_texts, with_rules}
use Rattle.clause_normal.specs.Kinds.{IsOrdinaryCall}
use Rattle.clause_normal.specs.Rules.{Rule}
use Rattle.clause_normal.specs.RuleViews.{rule_of, RuleIsFit, RuleIsNamed}
use Rattle.clause_variables.proofs.ListLemmas.{all_at, all_mapped_at}
use Rattle.clause_normal.proofs.KindLemmas.{call_stays}
use Rattle.clause_normal.proofs.NumberingLemmas.{extends_more, rule_later}
use Rattle.clause_normal.proofs.text_program.program_of.Goals as goal

pub add_rule-requires-clause-fit : goal.add_rule-requires-clause-fit
add_rule-requires-clause-fit c =
    let n = length c.args.names.now in
    let here = subst (RuleIsFit n) (sym c.rule-item.is) (all_at (RuleIsFit n) c.args.rules.now c.rules.rule-index c.rule-item.result c.requires.fit c.rules-test.true) in
    rule_later n (length c.rules.names) c.rule-item.result (extends_more c.args.names.now c.rules.names c.rules.invariant.kept) here

pub add_rule-requires-clause-ordinary : goal.add_rule-requires-clause-ordinary
add_rule-requires-clause-ordinary c =
    let names = c.args.names.now in
    let rules = c.args.rules.now in
    let i = c.rules.rule-index in
    let it = c.rule-item.result in
    let fit = subst (RuleIsFit (length names)) (sym c.rule-item.is) (all_at (RuleIsFit (length names)) rules i it c.requires.fit c.rules-test.true) in
    let P : Rule → Type 0 = λ r. IsOrdinaryCall names r.head in
    let ordinary = subst (λ (r : CodeRule). P (rule_of r)) (sym c.rule-item.is) (all_mapped_at P rule_of rules i it c.requires.ordinary c.rules-test.true) in
    call_stays names c.rules.names it.head c.rules.invariant.kept fit.head ordinary

pub rules-init : goal.rules-init
rules-init c =
    let names = c.args.names.now in
    let all = map rule_of c.args.rules.now in
    let later = c.empty_program.new.names in
    let made = c.in_ok-program.ensures.program in
    let here : c.in_ok-program.program ≡ empty_program later = made later (extends_self later) in
    let none : c.in_ok-program.program.preds ≡ [] = ap (λ (p : Listing). p.preds) here in
    record {
      kept = c.in_ok-program.ensures.kept;
      program = λ more ext. ap (λ (p : Listing). with_rules more p all) (made more ext);
      added = ap (λ (n : List (List ℕ)). with_names n (rule_texts all)) c.in_ok-program.ensures.added ∙ sym (names_more names operation_texts (rule_texts all));
      same = λ h k. c.in_ok-program.ensures.same h;
      arithmetic = λ more ext. ap (λ (p : Listing). p.arithmetic) (made more ext) ∙ ap (arithmetic_of more) (sym none);
      count = ap (λ (p : Listing). length p.clauses) here;
      known = subst (λ (ps : List Pred). AllByRecursion (λ (q : Pred). q.name.0 < length later) ps) (sym none) tt;
    }

pub rules-preserved : goal.rules-preserved
rules-preserved c =
    let items = c.args.rules.now in
    let i = c.rules.rule-index in
    let it = c.rule-item.result in
    let inv = c.rules.invariant in
    let add = c.in_ok-add_rule.ensures in
    let rest : List Rule = map rule_of (drop (i + 1) items) in
    let there : get_or items i it ≡ it = sym c.rule-item.is in
    let left : map rule_of (drop i items) ≡ rule_of it ∷ rest = at_drop_more (map rule_of) items i it c.rules-test.true ∙ ap (λ (t : CodeRule). rule_of t ∷ rest) there in
    let texts = call_texts ((rule_of it).head ∷ (rule_of it).body) in
    record {
      kept = extends_trans c.args.names.now c.rules.names c.add_rule.new.names inv.kept add.kept;
      program = λ later ext.
          ap (λ p. with_rules later p rest) (add.program later ext) ∙ ap (with_rules later c.rules.program) (sym left)
          ∙ inv.program later (extends_trans c.rules.names c.add_rule.new.names later add.kept ext);
      added =
          ap (λ (n : List (List ℕ)). with_names n (rule_texts rest)) add.added ∙ sym (names_more c.rules.names texts (rule_texts rest))
          ∙ ap (λ (rs : List Rule). with_names c.rules.names (rule_texts rs)) (sym left) ∙ inv.added;
      same = λ h k. add.named (subst RuleIsNamed there (all_at RuleIsNamed items i it k c.rules-test.true)) ∙ inv.same h k;
      arithmetic = add.arithmetic;
      count = omega (arith, inv.count, add.count);
      known = add.known inv.known;
    }

pub returns-clause-added : goal.returns-clause-added
returns-clause-added c =
    let none : drop c.rules.rule-index c.args.rules.now ≡ [] = drop_all c.rules.rule-index c.args.rules.now (omega arith) in
    sym (names_none c.rules.names) ∙ ap (λ (rs : List CodeRule). with_names c.rules.names (rule_texts (map rule_of rs))) (sym none) ∙ c.rules.invariant.added
