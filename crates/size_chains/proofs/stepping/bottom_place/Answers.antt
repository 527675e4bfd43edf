use Rattle.std.proofs.Common.{◌≡◌, ℕ, ◌<◌, ◌+◌, ◌∙◌, sym, subst, ap, arith, IsTrue, false, slice_get, ◌⊎◌, inl, inr}
use Rattle.linear_rows.specs.Plain.{plain_row}
use Rattle.termination_model.specs.chains.ChainRows.{bottom_row}
use Rattle.termination_model.proofs.Lists.{at_place, place_below, one_element}
use Rattle.size_chains.proofs.Bottoms.{own_bottom, in_rows}
use Rattle.size_chains.proofs.stepping.bottom_place.Goals as goal

less_or_same : (j i : ℕ) → j < i + 1 → (j < i) ⊎ (j ≡ i)
less_or_same j i l = search arith

pub loop-i-preserved : goal.loop-i-preserved
loop-i-preserved c j n r l at e =
    elim (less_or_same j c.loop-i.i l) [
      | inl lt ↦ c.loop-i.invariant j n r lt at e
      | inr is ↦
          let here = at_place c.args.rows.now c.loop-i.i c.index-rows-i.result c.loop-i-test.true c.index-rows-i.is in
          let there : r ≡ c.index-rows-i.result = one_element c.args.rows.now c.loop-i.i r c.index-rows-i.result (ap (λ k. slice_get c.args.rows.now k) (sym is) ∙ at) here in
          let own = own_bottom c.index-rows-i.result n (ap plain_row (sym there) ∙ e) in
          let t = c.is_bottom.ensures.1 own in
          let never : IsTrue false = subst IsTrue c.if-is_bottom.false t in
          cc
    ]

pub returns-clause-none : goal.returns-clause-none
returns-clause-none c = λ _ n i.
    let h = in_rows c.args.rows.now (bottom_row n) i in
    let lt = place_below c.args.rows.now h.0 h.1 h.2 in
    c.loop-i.invariant h.0 n h.1 (omega (arith, c.loop-i-test.false, lt)) h.2 h.3
