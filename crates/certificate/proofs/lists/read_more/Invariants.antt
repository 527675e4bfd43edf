use Rattle.std.proofs.Common.{◌≡◌, length}
use Rattle.std.specs.List.{AllByRecursion}
use Rattle.certificate.specs.Parse.{read_until, with_all, next_item}
use Rattle.certificate.proofs.lists.read_more.Given as goal

-- what is read in all is the items so far and what is read of the rest
abbrev pub invariant-loop-first : goal.invariant-loop-first
invariant-loop-first g l = record {
  value : with_all l.items (read_until 93 (next_item g.T.Field.reads) l.rest) ≡ with_all l.initial.items (read_until 93 (next_item g.T.Field.reads) l.initial.rest);
  fits : AllByRecursion g.T.Field.fits l.initial.items → AllByRecursion g.T.Field.fits l.items;
}

abbrev pub decreases-loop-first : goal.decreases-loop-first
decreases-loop-first g l = length l.rest
