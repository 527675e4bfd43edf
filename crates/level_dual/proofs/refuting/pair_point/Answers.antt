use Rattle.std.proofs.Common.{rules, ◌≡◌, ◌∷◌, ℤ, Option, sym, subst, refl, ◌∙◌, of_z, to_z}
use Rattle.std.specs.Int.{w128}
use Rattle.std.specs.Prelude.{FitsSigned}
use Rattle.std.proofs.lemmas.Int.{to_z-of_z}
use Rattle.linear_rows.specs.Plain.{plain_rows}
use Rattle.linear_rows.specs.declared.point.Point.{Point}
use Rattle.level_systems.specs.Refuted.{HasFoundPoint, IsFoundPoint}
use Rattle.level_dual.proofs.refuting.pair_point.Goals as goal
use Rattle.level_dual.proofs.refuting.pair_point.Goals.{then-is_nought+in_ok-second+in-Some, else-is_nought}

pub returns-in_default-clause-exact : goal.returns-in_default-clause-exact
returns-in_default-clause-exact c = λ alone reached.
    let own = c.args.own.now in
    subst (IsFoundPoint own.rows.width (plain_rows own.rows.list)) c.in_default.is (c.in_ok-second.ensures.exact alone) reached.0 reached.1

pub returns-clause-exact : goal.returns-clause-exact
returns-clause-exact c = λ alone.
    let own = c.args.own.now in
    let f : FitsSigned w128 c.args.t = search rules in
    let t_is : to_z w128 (of_z w128 c.args.t) ≡ c.args.t = to_z-of_z w128 c.args.t f in
    let second : HasFoundPoint own c.args.t c.if-is_nought.at =
    elim c.if-is_nought.branch [
      | then-is_nought+in_ok-second+in-Some w ↦
          let is = subst (IsFoundPoint own.rows.width (plain_rows own.rows.list)) w.in-Some.is (w.in_ok-second.ensures.exact alone) in
          subst (λ (o : Option Point). HasFoundPoint own c.args.t o) (sym w.at-is) (sym t_is ∙ w.if-is_nought.ensures.0 refl, is)
      | else-is_nought w ↦ subst (λ (o : Option Point). HasFoundPoint own c.args.t o) (sym w.at-is) (λ e. let yes = w.if-is_nought.ensures.1 (t_is ∙ e) in cc)
    ] in
    record {
      clause = refl;
      call = refl;
      numbers = λ i. t_is i ∷ (c.from_vec-w.ensures ∙ c.in_ok-from_slice.ensures.items) i;
      second = subst (λ (t : ℤ). HasFoundPoint own t c.if-is_nought.at) (sym t_is) second;
    }
