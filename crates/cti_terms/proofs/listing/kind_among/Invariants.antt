use Rattle.std.proofs.Common.{◌≡◌, drop}
use Rattle.cti_terms.specs.Arithmetic.{kind_among}
use Rattle.cti_terms.proofs.listing.kind_among.Given as goal

abbrev pub invariant-loop-builtin : goal.invariant-loop-builtin
invariant-loop-builtin l = kind_among (drop l.builtin-index l.builtins) l.p.0 ≡ kind_among l.builtins l.p.0
