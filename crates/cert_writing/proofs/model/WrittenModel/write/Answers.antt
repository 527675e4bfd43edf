use Rattle.std.proofs.Common.{◌≡◌, ◌++◌, List, OnOk, subst}
use Rattle.std.proofs.lemmas.List.{append_assoc}
use Rattle.cert_writing.proofs.model.WrittenModel.write.Goals as goal

-- four lists of facts put after others one by one
four_more : {F : Type 0} (start a b c d x y z : List F) → x ≡ start ++ a → y ≡ x ++ b → z ≡ y ++ c → z ++ d ≡ start ++ (a ++ b ++ c ++ d)
four_more start a b c d x y z first second third = rw (third, second, first) (simp append_assoc)

-- each writer adds its facts to those before
pub returns : goal.returns
returns g c =
    subst (λ t. OnOk c.write_each-4.result (c.write_each-4.new.out ≡ t))
    (four_more _ _ _ _ _ _ _ _ c.in_ok-write_each.ensures c.in_ok-write_each-2.ensures c.in_ok-write_each-3.ensures) c.write_each-4.ensures
