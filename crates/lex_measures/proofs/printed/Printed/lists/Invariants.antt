use Rattle.std.proofs.Common.{◌≡◌, ◌-◌, ◌++◌, length, map}
use Rattle.linear_rows.specs.Step.{columns}
use Rattle.lex_measures.specs.Lists.{printed_lists, printed_at}
use Rattle.lex_measures.proofs.printed.Printed.lists.Given as goal

abbrev pub invariant-loop-q : goal.invariant-loop-q
invariant-loop-q l =
    l.lists ++ map (printed_at l.self.p.now l.self.comps.now l.self.found.now) (columns l.q (length l.self.p.now.preds - l.q)) ≡ printed_lists l.self.p.now l.self.comps.now l.self.found.now
