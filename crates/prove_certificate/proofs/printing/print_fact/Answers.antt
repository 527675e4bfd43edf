use Rattle.std.proofs.Common.{◌≡◌, subst, append_assoc}
use Rattle.std.specs.Prelude.{OnOk}
use Rattle.prove_certificate.proofs.printing.print_fact.Goals as goal

pub returns-in-Terminates : goal.returns-in-Terminates
returns-in-Terminates c = rw c.in-Terminates.is (subst (λ t. OnOk c.line_of_two.result (c.line_of_two.new.out.items ≡ t)) (simp append_assoc) c.line_of_two.ensures)
