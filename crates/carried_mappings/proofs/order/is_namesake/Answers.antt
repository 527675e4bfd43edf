use Rattle.std.proofs.Common.{◌≡◌, ◌∙◌, ap, sym, Some}
use Rattle.carried_mappings.proofs.order.is_namesake.Goals as goal

pub returns : goal.returns
returns c = (
  λ is. c.pred.ensures ∙ ap Some (c.is_same_pred.ensures.0 is) ∙ sym c.pred-2.ensures,
  λ same. c.is_same_pred.ensures.1 (some_same (sym c.pred.ensures ∙ same ∙ c.pred-2.ensures)),
)
  where
    some_same : {X : Type 0} {x y : X} → Some x ≡ Some y → x ≡ y
    some_same e = cc
