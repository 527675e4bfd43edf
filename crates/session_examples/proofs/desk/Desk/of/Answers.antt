use Rattle.std.proofs.Common.{List, length, ap, arith, subst, sym}
use Rattle.edit_texts.specs.Snapshot.{nodes_in}
use Rattle.prolog_reader.specs.Fit.{AreFit}
use Rattle.prolog_terms.specs.Clauses.{Clause}
use Rattle.session_examples.proofs.desk.Desk.of.Goals as goal

pub invariant_of-result : goal.invariant_of-result
invariant_of-result c =
    let later = c.read_text.new.names in
    let fit = subst (λ (cs : List Clause). AreFit (length later) cs) (sym c.into_vec.ensures) c.in_ok-read.ensures.fit in
    record {
      program = c.sessions_stay.ensures c.new.new.names later c.in_ok-session.session c.in_ok-read.ensures.kept c.in_ok-session.ensures.session.program;
      room = omega arith;
      fit = fit.each;
      small = omega (arith, ap nodes_in c.in_ok-session.ensures.clauses, fit.small);
    }
