use Rattle.std.proofs.Common.{ap, arith}
use Rattle.cert_checker.specs.Sections.{count_all, count_in}
use Rattle.cert_checker.proofs.lines.Lines.of.Goals as goal

pub returns : goal.returns
returns c = record {
  modes = c.first_mode-modes.ensures;
  sizes = omega (arith, c.len.ensures, c.after-sizes.ensures);
  row_proofs = omega (arith, c.after_rows-row_proofs.ensures);
  measures = omega (arith, c.after_lists-grounds.ensures, c.after_lists-measures.ensures, ap count_in c.as_slice.ensures, ap count_in c.as_slice-2.ensures);
  falls = omega (arith, c.after_lists-falls.ensures, ap count_in c.as_slice-3.ensures);
  refutations = omega (arith, c.after_all-preconditions.ensures, c.after_all-refutations.ensures, ap count_all c.as_slice-4.ensures, ap count_all c.as_slice-5.ensures);
}
