use Rattle.linear_rows.proofs.Soundness.{law_holds, law_empty}
use Rattle.linear_rows.proofs.laws.proofs_are_sound.Goals as goal

pub returns : goal.returns
returns c = record { holds = law_holds; empty = law_empty }
