use Rattle.std.proofs.Common.{◌↔◌, Bool, IsTrue, sym, subst}
use Rattle.cert_structure.specs.declared.parts.Parts.{Parts}
use Rattle.cti_terms.specs.Tree.{truth}
use Rattle.lex_certificate.specs.Flat.{flat}
use Rattle.number_tests.proofs.CallFacts.{if_ok_more}
use Rattle.term_size.specs.Occurrences.{size_row}
use Rattle.lex_checker.specs.Shape.{CanBeTested}
use Rattle.lex_checker.specs.Valid.{FlatHolds, PartsHold}
use Rattle.lex_checker.proofs.Shapes.{are_sizes, can_be_tested, have_drops, have_lists}
use Rattle.lex_checker.proofs.checking.parts_hold.Goals as goal

pub drops_hold-requires-clause-sizes : goal.drops_hold-requires-clause-sizes
drops_hold-requires-clause-sizes c = are_sizes c.args.p.now c.args.comps.now c.args.parts c.requires.shape

pub drops_hold-requires-clause-lists : goal.drops_hold-requires-clause-lists
drops_hold-requires-clause-lists c = have_lists c.args.p.now c.args.comps.now c.args.parts c.requires.shape c.requires.components

pub drops_hold-requires-clause-drops : goal.drops_hold-requires-clause-drops
drops_hold-requires-clause-drops c = have_drops c.args.p.now c.args.comps.now c.args.parts c.requires.shape c.requires.components c.preds.ensures.sound

pub flat_holds-requires-clause-tested : goal.flat_holds-requires-clause-tested
flat_holds-requires-clause-tested c = subst (CanBeTested c.args.p.now) (sym c.in_ok-flat.ensures) (can_be_tested c.args.p.now c.args.comps.now c.args.parts c.requires.shape)

-- what is left decides, since the tests of lists have found that they hold
pub returns : goal.returns
returns c =
    let p = c.args.p.now in
    let comps = c.args.comps.now in
    let parts = c.args.parts in
    if_ok_more (λ (yes : Bool). IsTrue yes ↔ FlatHolds truth size_row p comps c.in_ok-flat.flat) (λ (yes : Bool). IsTrue yes ↔ PartsHold truth size_row p comps parts)
    (λ yes decides.
    let own : IsTrue yes ↔ FlatHolds truth size_row p comps (flat parts) = subst (λ (f : Parts). IsTrue yes ↔ FlatHolds truth size_row p comps f) c.in_ok-flat.ensures decides in (
      λ t.
          let h = own.0 t in
          record {
            modes = h.modes;
            stated = h.stated;
            rows = h.rows;
            zero = c.lists_are_zero.ensures.0 c.if-not-lists_are_zero.false;
            drops = c.in_ok-drops_hold.ensures.0 c.if-not-branch.false;
            stuck = h.stuck;
          },
      λ h. own.1 (record { modes = h.modes; stated = h.stated; rows = h.rows; stuck = h.stuck }),
    )) c.flat_holds.result c.flat_holds.ensures
