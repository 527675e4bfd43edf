use Rattle.std.proofs.Common.{rules, ◌≡◌, ◌-◌, take, length, of_z, to_z, ◌∷◌, [], ℤ, pos, drop, get_or, List, IfSome, Option, inr, ap, sym, subst, ◌∙◌}
use Rattle.std.specs.Int.{w128}
use Rattle.std.specs.Prelude.{FitsSigned}
use Rattle.std.specs.List.{AllByRecursion}
use Rattle.std.proofs.lemmas.Int.{to_z-of_z}
use Rattle.call_components.proofs.Lists.{all_append}
use Rattle.number_tests.specs.declared.pair_point.PairPoint.{PairPoint}
use Rattle.level_systems.specs.Refuted.{IsOfCalls, IsPointAt, IsSpelled, IsSpelledIf}
use Rattle.level_dual.proofs.PointLists.{first_rest, rest_whole}
use Rattle.level_dual.proofs.refuting.add_point.Goals as goal

pub returns : goal.returns
returns c =
    record {
      mine = λ owns i all.
          let is : IsPointAt c.args.own.now c.in-Some.point = subst (λ (o : Option PairPoint). IfSome o (IsPointAt c.args.own.now)) c.in-Some.is c.in_ok-point.ensures.at in
          subst (AllByRecursion (IsOfCalls owns)) (sym c.in_ok-push.ensures.ok) (all_append (IsOfCalls owns) c.args.points.now (c.in-Some.point ∷ []) all ((c.args.own.now, i, is), tt));
      exact = λ alone.
          let numbers : List ℤ = c.args.numbers.now in
          let f : FitsSigned w128 (get_or numbers 0 (pos 0)) = search rules in
          let first : to_z w128 (of_z w128 (get_or numbers 0 (pos 0))) ≡ get_or numbers 0 (pos 0) = to_z-of_z w128 (get_or numbers 0 (pos 0)) f in
          let is = subst (IsSpelledIf c.args.own.now (to_z w128 (of_z w128 (get_or numbers 0 (pos 0))) ∷ take (length numbers - 1) (drop 1 numbers))) c.in-Some.is (c.in_ok-point.ensures.exact alone) in
          let whole = ap (λ (z : ℤ). z ∷ take (length numbers - 1) (drop 1 numbers)) first ∙ ap (λ zs. get_or numbers 0 (pos 0) ∷ zs) (rest_whole 1 numbers) ∙ first_rest numbers c.args.own.now.rows.width c.requires.numbers in
          inr (c.in-Some.point, c.in_ok-push.ensures.ok, subst (λ (zs : List ℤ). IsSpelled c.args.own.now zs c.in-Some.point) whole is);
    }
