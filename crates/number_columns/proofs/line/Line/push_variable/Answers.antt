use Rattle.std.proofs.Common.{◌≡◌, ◌++◌, ◌∷◌, [], pos, subst, arith}
use Rattle.number_columns.specs.Cells.{capped}
use Rattle.number_columns.specs.Lines.{IsLine}
use Rattle.number_columns.proofs.RowLaws.{append_thrice}
use Rattle.number_columns.proofs.line.Line.push_variable.Goals as goal

pub returns : goal.returns
returns c = λ zs n is line.
    let zero : 0 ≡ capped 0 = omega arith in
    let one = c.in_ok-push.ensures zs n is line in
    let two = c.in_ok-push-2.ensures (zs ++ pos n ∷ []) 0 zero one in
    let three = c.in_ok-push-3.ensures ((zs ++ pos n ∷ []) ++ pos 0 ∷ []) 0 zero two in
    subst (λ xs. IsLine xs c.push-3.new.self) (append_thrice zs (pos n) (pos 0) (pos 0)) three
