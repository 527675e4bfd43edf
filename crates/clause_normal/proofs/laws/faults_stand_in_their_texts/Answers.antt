use Rattle.clause_normal.proofs.PlaceLemmas.{normal_placed, query_form_placed}
use Rattle.clause_normal.proofs.laws.faults_stand_in_their_texts.Goals as goal

pub returns : goal.returns
returns c = record { text = normal_placed; query = λ size names p clause f h e. query_form_placed size names p clause f h e }
