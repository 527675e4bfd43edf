use Rattle.lex_checker.proofs.Flags.{is_none_of, none_is, none_of}
use Rattle.lex_checker.proofs.checking.flat_holds.Goals as goal

-- the last fault decides, since the tests before it have found none
pub returns : goal.returns
returns c = (
  λ yes. record {
    modes = c.in_ok-fault.ensures.hold.0 (is_none_of c.in_ok-fault.fault c.is_none.result c.is_none.ensures yes);
    stated = c.stated_fault.ensures.hold.0 (none_of c.stated_fault.result c.is_some.result c.is_some.ensures c.if-is_some.false);
    rows = c.in_ok-size_fault.ensures.hold.0 (none_of c.in_ok-size_fault.field-0 c.is_some-2.result c.is_some-2.ensures c.if-is_some-2.false);
    stuck = c.in_ok-refutation_fault.ensures.hold.0 (none_of c.in_ok-refutation_fault.field-0 c.is_some-3.result c.is_some-3.ensures c.if-is_some-3.false);
  },
  λ hold. none_is c.in_ok-fault.fault c.is_none.result c.is_none.ensures (c.in_ok-fault.ensures.hold.1 hold.modes),
)
