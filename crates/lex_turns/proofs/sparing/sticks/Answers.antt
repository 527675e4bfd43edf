use Rattle.std.proofs.Common.{subst}
use Rattle.lex_turns.specs.Coursing.{IsLess}
use Rattle.lex_turns.proofs.ListSupports.{void_of}
use Rattle.lex_turns.proofs.NoneAmong.{none_among}
use Rattle.lex_turns.proofs.sparing.sticks.Goals as goal

pub returns-in-Refuted : goal.returns-in-Refuted
returns-in-Refuted c = λ yes size truth expression comps rows r h s is.
    let x = c.args.component.now in
    let p = c.args.p.now in
    let at = c.args.at.now in
    let new = c.shrink.new.gone.items in
    let less = subst (IsLess p x at c.loop-gone.gone.items new) c.in-Refuted.is c.in_ok-shrink.ensures.less in
    void_of expression p comps rows r s (none_among size truth expression p comps rows r x h at new c.in_ok-shrink.ensures.reached less.0 (less.1 size truth expression comps rows r h) s is)
