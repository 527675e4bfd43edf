use Rattle.linear_rows.proofs.Sequence.{all_kept_on, all_back_on, all_left_on}
use Rattle.linear_rows.proofs.Origins.{all_gone}
use Rattle.linear_rows.proofs.laws.elimination_projects.Goals as goal

pub returns : goal.returns
returns c = record {
  vanish = λ m ks rows w row i k j. all_gone m ks k rows (λ x h. (w x h).1) j row i;
  left = λ m ks rows w row i. all_left_on m ks rows row w i;
  same = λ m ks rows w d f row z. (all_back_on m ks rows row w, all_kept_on m ks rows row d w f z);
}
