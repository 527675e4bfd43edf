use Rattle.std.proofs.Common.{◌≡◌, ◌∙◌, ◌<◌, ℕ, List, Option, None, Some, true, map, slice_get, get_or, length, inl, inr, sym, ap, subst, arith}
use Rattle.std.proofs.lemmas.Bool.{cases_eq}
use Rattle.cti_terms.specs.Spell.{tree_of}
use Rattle.cti_terms.specs.Tree.{Tree}
use Rattle.cti_terms.specs.declared.builtins.Arith.{Arith}
use Rattle.number_columns.specs.Links.{AreLinked}
use Rattle.number_columns.specs.Meeting.{ClausePairs, NumberPair}
use Rattle.number_columns.specs.Numeric.{is_evaluated}
use Rattle.number_columns.proofs.ArgumentLaws.{place_or}
use Rattle.number_columns.proofs.LinkLaws.{links_then}
use Rattle.number_columns.proofs.numeric.evaluate_atom.Goals as goal

pub loop-x-preserved : goal.loop-x-preserved
loop-x-preserved c =
    let x = c.loop-x.x in
    let inv = c.loop-x.invariant in
    let first = c.args.first.now in
    let o = c.args.arith in
    let a = c.loop-x.links.parents.items in
    let b = c.evaluate_variable.new.links.parents.items in
    let items = map tree_of c.as_slice.result.now in
    let ev = c.evaluate_variable.ensures in
    let own : slice_get first x ≡ Some (get_or first x None) = place_or first x None (omega arith) in
    record {
      ready = record { falling = ev.links.falling; within = λ y n e. omega (arith, inv.ready.within y n e, ev.links.count) };
      count = ev.links.count ∙ inv.count;
      keeps = λ f r. inv.keeps f (ev.links.keeps f r);
      meeting = λ ar k start place kind there is names h.
          let m = inv.meeting ar k start place kind there is names h in
          record {
            links = links_then (ClausePairs ar k) (ClausePairs ar k) (NumberPair o items x (get_or first x None)) start a b (λ n w p. p)
                (λ n w p. inr (
                  x,
                  p.0,
                  m.stands x w (own ∙ ap Some p.1),
                  record {
                    atom = c.args.atom.now;
                    place = place;
                    there = there;
                    kind = kind;
                    builtin = is;
                    argument = p.2;
                    term = p.3;
                    at = ap (λ (ts : List Tree). slice_get ts p.2) (sym c.as_slice.ensures) ∙ p.4;
                    evaluated = ap (λ (w : Option Arith). is_evaluated w x p.3) names ∙ p.5;
                  },
                )) m.links ev.links;
            stands = m.stands;
          };
      evaluated = λ y n argument term lt met at is. elim (cases_eq y x) [
        | inl same ↦ (
            let here : get_or first x None ≡ Some n = (let e : Some (get_or first x None) ≡ Some (Some n) = sym own ∙ ap (slice_get first) (sym same) ∙ met in cc) in
            let items_at : slice_get items argument ≡ Some term = ap (λ (ts : List Tree). slice_get ts argument) c.as_slice.ensures ∙ at in
            let of_x : is_evaluated o x term ≡ true = ap (λ (z : ℕ). is_evaluated o z term) (sym same) ∙ is in
            ev.evaluated n argument term here items_at of_x
            )
        | inr ne ↦ (λ f r. inv.evaluated y n argument term (omega (arith, lt, ne)) met at is f (ev.links.keeps f r))
      ];
    }

pub returns-clause-evaluated : goal.returns-clause-evaluated
returns-clause-evaluated c = λ y n argument term lt. c.loop-x.invariant.evaluated y n argument term (omega (arith, lt))
