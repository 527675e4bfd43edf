use Rattle.std.proofs.Common.{◌≡◌, ◌+◌, ◌-◌, List, length, slice_get, Some, refl, sym, ap, ◌∙◌, arith, below_more}
use Rattle.cert_structure.specs.Numbered.{lines_from}
use Rattle.cert_structure.specs.Order.{falls_line}
use Rattle.cti_terms.specs.Listing.{IsAtom}
use Rattle.cti_terms.specs.declared.atom_list.Atom.{Atom}
use Rattle.linear_rows.specs.declared.system.System.{System}
use Rattle.linear_rows.specs.declared.multipliers.Multipliers.{Multipliers}
use Rattle.termination_model.specs.sizes.Sizes.{rows_of}
use Rattle.termination_model.proofs.Lists.{at_place, by_places, one_element, place_below}
use Rattle.number_tests.specs.Shape.{list_at}
use Rattle.number_tests.specs.Systems.{IsSystemUpTo}
use Rattle.cert_checker.specs.Shape.{AreTogether}
use Rattle.cert_checker.specs.Finding.{FallsFail}
use Rattle.number_tests.proofs.BeforeLaws.{before_first, before_more}
use Rattle.number_tests.proofs.CallFacts.{list_at_is}
use Rattle.cert_checker.proofs.CallFallLaws.{IsOwnCall, call_ready, call_decided, call_found}
use Rattle.cert_checker.proofs.FallLaws.{no_falls}
use Rattle.cert_checker.proofs.FindLaws.{finds_item, finds_none, length_lines, list_there}
use Rattle.cert_checker.proofs.LevelFacts.{in_preds}
use Rattle.number_tests.proofs.Sized.{sized_clause}
use Rattle.cert_checker.proofs.fall_faults.clause_fall_fault.Given.{Over}
use Rattle.cert_checker.proofs.fall_faults.clause_fall_fault.Goals.{After-as_slice-own, After-extend}
use Rattle.cert_checker.proofs.fall_faults.clause_fall_fault.Goals as goal

-- a call of the clause's body, and its own multipliers
module _ (g : Over) (c : After-as_slice-own g) where
  call_at : slice_get c.clause-clause.result.now.body c.loop-j.j ≡ Some c.index-as_slice-j.result
  call_at =
      ap (λ (bs : List Atom). slice_get bs c.loop-j.j) (sym c.as_slice-in-loop-j.ensures)
      ∙ at_place c.as_slice-in-loop-j.result.now c.loop-j.j c.index-as_slice-j.result (omega (arith, ap length c.as_slice-in-loop-j.ensures, c.len-j-end.ensures)) c.index-as_slice-j.is

  own_is : c.as_slice-own.result.now ≡ list_at c.as_slice-proofs.result.now c.loop-j.j
  own_is = list_at_is c.as_slice-proofs.result.now c.as_slice-proofs.result.now c.loop-j.j c.index-proofs-j.result c.as_slice-own.result.now refl (omega (arith, c.len-j-end.ensures)) c.index-proofs-j.is c.as_slice-own.ensures

  own_at : slice_get c.as_slice-proofs.result.now c.loop-j.j ≡ Some c.as_slice-own.result.now
  own_at = list_there c.as_slice-proofs.result.now c.loop-j.j c.as_slice-own.result.now (omega (arith, c.len-j-end.ensures)) own_is

  -- where the call is of the clause's own component
  own_call : (s : System) → IsSystemUpTo (g.N.Norm.expression c.args.norm.now) (rows_of c.args.parts.now.rows) c.clause-clause.result.now c.loop-j.j s → AreTogether c.args.comps.now c.clause-clause.result.now.head.pred.0 c.index-as_slice-j.result.pred.0
      → IsOwnCall (g.N.Norm.expression c.args.norm.now) c.args.p.now c.args.comps.now c.args.parts.now (c.args.k - 1) c.loop-j.j c.clause-clause.result.now c.index-as_slice-j.result s c.as_slice-own.result.now
  own_call s system together = record {
    sizes = c.requires.sizes;
    levels = c.requires.levels;
    falls = c.requires.falls;
    there = c.clause-clause.ensures.there;
    sound = c.clause-clause.ensures.sound;
    at = call_at;
    together = together;
    system = system;
    multipliers = own_is ∙ ap (λ (mss : List (List Multipliers)). list_at mss c.loop-j.j) c.loop-j.invariant.multipliers;
  }

together : (g : Over) (c : After-extend g) → AreTogether c.args.comps.now c.clause-clause.result.now.head.pred.0 c.index-as_slice-j.result.pred.0
together g c = c.of-component.ensures ∙ ap Some (sym c.if-of-component.false) ∙ sym c.of.ensures

pub loop-j-init : goal.loop-j-init
loop-j-init g c =
    let multipliers = list_at_is c.as_slice.result.now c.args.parts.now.falls (c.args.k - 1) c.index-as_slice-k.result c.as_slice-proofs.result.now c.as_slice.ensures (omega (arith, c.requires.falls.each, c.requires.first, c.requires.last))
    c.index-as_slice-k.is c.as_slice-proofs.ensures in
    record {
      multipliers = multipliers;
      count = ap length multipliers ∙ c.requires.falls.calls (c.args.k - 1) c.clause-clause.result.now c.clause-clause.ensures.there;
      order = omega arith;
      system = c.in_ok-system.ensures;
      calls = λ j lt. absurd (omega (arith, lt));
      line = λ m. omega (arith, before_first (λ (ms : List Multipliers). length ms) c.as_slice-proofs.result.now);
      none = λ j lt. absurd (omega (arith, lt));
    }

pub first_system-requires : goal.first_system-requires
first_system-requires g c = sized_clause c.args.p.now.preds c.args.parts.now.rows c.clause-clause.result.now c.requires.sizes c.clause-clause.ensures.sound

pub extend-requires-clause-sized : goal.extend-requires-clause-sized
extend-requires-clause-sized g c = sized_clause c.args.p.now.preds c.args.parts.now.rows c.clause-clause.result.now c.requires.sizes c.clause-clause.ensures.sound

pub of-requires : goal.of-requires
of-requires g c =
    let clause = c.clause-clause.result.now in
    let atom = by_places (IsAtom c.args.p.now.preds clause.vars) clause.body c.clause-clause.ensures.sound.body c.loop-j.j c.index-as_slice-j.result (call_at g (goal.at.of-requires g c).After-as_slice-own) in
    omega (arith, in_preds c.args.p.now c.args.comps.now c.args.parts.now c.requires.levels clause.vars c.index-as_slice-j.result atom, c.requires.components.each)

pub loop-j-preserved-then-of-component : goal.loop-j-preserved-then-of-component
loop-j-preserved-then-of-component g c =
    let own = (goal.at.loop-j-preserved-then-of-component g c).After-as_slice-own in
    let n = c.loop-j.j in
    let clause = c.clause-clause.result.now in
    let b = c.index-as_slice-j.result in
    let order = c.loop-j.invariant.order in
    let apart : ¬ AreTogether c.args.comps.now clause.head.pred.0 b.pred.0 = λ to. let one : c.of.result ≡ c.of-component.result = let both = sym c.of.ensures ∙ sym to ∙ c.of-component.ensures in cc in c.if-of-component.true one in
    record {
      multipliers = c.loop-j.invariant.multipliers;
      count = c.loop-j.invariant.count;
      order = omega arith;
      system = c.loop-j.invariant.system;
      calls = below_more _ n c.loop-j.invariant.calls (λ x ex to. absurd (apart (rw (one_element clause.body n b x (call_at g own) ex) to)));
      line = λ m. omega (arith, c.loop-j.invariant.line (length c.as_slice-own.result.now + m), c.saturating_add-line.ensures, before_more (λ (ms : List Multipliers). length ms) c.as_slice-proofs.result.now n c.as_slice-own.result.now (own_at g own));
      none = below_more _ n c.loop-j.invariant.none
          (λ ms em. no_falls (g.N.Norm.expression c.args.norm.now) c.args.p.now c.args.comps.now c.args.parts.now (c.args.k - 1) n clause b c.clause-clause.ensures.there (call_at g own) apart ms);
    }

pub call_fault-requires : goal.call_fault-requires
call_fault-requires g c =
    let at = goal.at.call_fault-requires g c in
    rw c.as_slice-levels.ensures (call_ready (own_call g at.After-as_slice-own c.extend.new.system c.in_ok-extend.ensures (together g at.After-extend)))

pub returns-in-Some-clause-hold : goal.returns-in-Some-clause-hold
returns-in-Some-clause-hold g c =
    let at = goal.at.returns-in-Some-clause-hold g c in
    let own = at.After-as_slice-own in
    let to = together g at.After-extend in
    let decided = rw (own_is g own) at (call_decided (own_call g own c.extend.new.system c.in_ok-extend.ensures to) c.as_slice-levels.ensures c.in_ok-fault.ensures) in
    λ x ex. rw (one_element c.args.p.now.clauses (c.args.k - 1) x c.clause-clause.result.now ex c.clause-clause.ensures.there, ← c.loop-j.invariant.multipliers)
    (λ h. cc, λ all. let none = decided.1 (all c.loop-j.j c.index-as_slice-j.result (call_at g own) to) in let some = c.in-Some.is in cc)

pub returns-in-Some-clause-first : goal.returns-in-Some-clause-first
returns-in-Some-clause-first g c =
    let at = goal.at.returns-in-Some-clause-first g c in
    let own = at.After-as_slice-own in
    let norm = c.args.norm.now in
    let found = call_found (own_call g own c.extend.new.system c.in_ok-extend.ensures (together g at.After-extend)) c.as_slice-levels.ensures c.in_ok-fault.ensures (g.N.Norm.size norm) (g.N.Norm.truth norm) (g.met.N.Norm.laws norm) in
    rw (← c.loop-j.invariant.multipliers)
    (finds_item (FallsFail (g.N.Norm.expression norm) c.args.p.now c.args.comps.now c.args.parts.now) (λ j ms. lines_from 0 (falls_line (c.args.k - 1) j) ms) (λ (ms : List Multipliers). length ms) (λ j ms. length_lines (falls_line (c.args.k - 1) j) 0 ms)
    c.args.first c.loop-j.line c.as_slice-proofs.result.now c.loop-j.j c.as_slice-own.result.now c.in-Some.fault (own_at g own) c.loop-j.invariant.line c.loop-j.invariant.none (rw c.in-Some.is at found))

pub loop-j-preserved : goal.loop-j-preserved
loop-j-preserved g c =
    let at = goal.at.loop-j-preserved g c in
    let own = at.After-as_slice-own in
    let call = own_call g own c.extend.new.system c.in_ok-extend.ensures (together g at.After-extend) in
    let n = c.loop-j.j in
    let norm = c.args.norm.now in
    let shown = rw (own_is g own) at ((call_decided call c.as_slice-levels.ensures c.in_ok-fault.ensures).0 c.in_default.is) in
    let found = call_found call c.as_slice-levels.ensures c.in_ok-fault.ensures (g.N.Norm.size norm) (g.N.Norm.truth norm) (g.met.N.Norm.laws norm) in
    record {
      multipliers = c.loop-j.invariant.multipliers;
      count = c.loop-j.invariant.count;
      order = omega arith;
      system = c.in_ok-extend.ensures;
      calls = below_more _ n c.loop-j.invariant.calls (λ x ex to. rw (one_element c.clause-clause.result.now.body n x c.index-as_slice-j.result ex (call_at g own)) shown);
      line = λ m. omega (arith, c.loop-j.invariant.line (length c.as_slice-own.result.now + m), c.saturating_add-line.ensures, before_more (λ (xs : List Multipliers). length xs) c.as_slice-proofs.result.now n c.as_slice-own.result.now (own_at g own));
      none = below_more _ n c.loop-j.invariant.none (λ xs ex. rw (one_element c.as_slice-proofs.result.now n xs c.as_slice-own.result.now ex (own_at g own)) (rw c.in_default.is at found));
    }

pub returns-clause-hold : goal.returns-clause-hold
returns-clause-hold g c = λ x ex. rw (one_element c.args.p.now.clauses (c.args.k - 1) x c.clause-clause.result.now ex c.clause-clause.ensures.there, ← c.loop-j.invariant.multipliers)
    (λ none j b ej. c.loop-j.invariant.calls j (omega (arith, place_below c.clause-clause.result.now.body j b ej, c.len-j-end.ensures)) b ej, λ all. refl)

pub returns-clause-first : goal.returns-clause-first
returns-clause-first g c = rw (← c.loop-j.invariant.multipliers)
    (finds_none (FallsFail (g.N.Norm.expression c.args.norm.now) c.args.p.now c.args.comps.now c.args.parts.now) (λ j ms. lines_from 0 (falls_line (c.args.k - 1) j) ms) (λ (ms : List Multipliers). length ms) (λ j ms. length_lines (falls_line (c.args.k - 1) j) 0 ms)
    c.as_slice-proofs.result.now (λ j ms em. c.loop-j.invariant.none j (omega (arith, place_below c.as_slice-proofs.result.now j ms em, c.len-j-end.ensures)) ms em))
