-- A point of a clause's system that is remembered.
use Rattle.std.proofs.Common.{◌≡◌, ℤ, pos, ◌+ℤ◌, ◌*ℤ◌, List, ◌∷◌, Option, None, Some, ap, sym, subst, ◌∙◌}
use Rattle.std.specs.Prelude.{◌≤ℤ◌, SomeIff}
use Rattle.exact128.specs.Sums.{dot}
use Rattle.linear_rows.specs.Plain.{plain_rows}
use Rattle.linear_rows.specs.Rows.{IsPoint}
use Rattle.linear_rows.specs.Showing.{FailsAt}
use Rattle.linear_rows.specs.declared.point.Point.{Point}
use Rattle.linear_rows.specs.declared.system.System.{System}
use Rattle.simplex.specs.declared.held.Held.{Held}
use Rattle.simplex.specs.declared.held.Held.TheVariants.{Yes, No, Blown}
use Rattle.polyhedra.specs.Remembering.{IsPointOf, IsRemembered, IsFailing, HasNegative}
use Rattle.polyhedra.specs.Telling.{TellsHead}

pub remembered : (s : System) (row : List ℤ) (held : Held) (last now : Option Point) → TellsHead s row held → IsRemembered held last now → IsPointOf s last → IsPointOf s now
remembered s row (Yes by) last now told e h = subst (IsPointOf s) (sym e) h
remembered s row Blown last now told e h = subst (IsPointOf s) (sym e) h
remembered s row (No p) last now told e h =
    let f = told.point in
    let point : IsPoint s.variables (plain_rows s.rows.list) p.t p.w = record { scale = f.t; values = f.w; t_is = f.t_is; w_is = f.w_is; some = f.some; long = f.long; hold = f.hold } in
    subst (IsPointOf s) (sym e) point

pub failing_on : (s : System) (last : Option Point) (target : List ℤ) (p : Point) → IsPointOf s last → IsFailing last target p → FailsAt s.variables (plain_rows s.rows.list) target p
failing_on s None target p point h = absurd h
failing_on s (Some q) target p point (same, below) = record {
  t = point.scale;
  w = point.values;
  t_is = ap (λ (r : Point). r.t) same ∙ point.t_is;
  w_is = ap (λ (r : Point). r.w) same ∙ point.w_is;
  some = point.some;
  long = point.long;
  hold = point.hold;
  fails = λ h. below (subst (λ (t : ℤ). pos 0 ≤ℤ dot target (t ∷ q.w)) (sym point.t_is) (subst (λ (ws : List ℤ). pos 0 ≤ℤ dot target (pos point.scale ∷ ws)) (sym point.w_is) h));
}

pub below_by_parts : (b t : ℤ) (cs w : List ℤ) (first rest : ℤ) (F : Type 0) (o : Option ℤ) → first ≡ b *ℤ t → rest ≡ dot cs w → SomeIff o F (first +ℤ rest) → HasNegative o → pos 0 ≤ℤ dot (b ∷ cs) (t ∷ w) → ⊥
unfolding dot
below_by_parts b t cs w first rest F None ef er h n k = n
below_by_parts b t cs w first rest F (Some v) ef er h n k = n (subst (λ (z : ℤ). pos 0 ≤ℤ z) (sym (h.1 ∙ (λ i. ef i +ℤ er i))) k)
