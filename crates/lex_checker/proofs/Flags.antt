-- Whether there is a fault, as a truth value.
use Rattle.std.proofs.Common.{◌≡◌, Bool, true, false, IsTrue, Option, None, Some, refl, sym, ◌∙◌}
use Rattle.std.specs.Prelude.{is_some, not}

pub none_of : {X : Type 0} (o : Option X) (b : Bool) → b ≡ is_some o → b ≡ false → o ≡ None
none_of None b e f = refl
none_of (Some x) b e f = cc

pub no_fault : {X : Type 0} (o : Option X) (b : Bool) → b ≡ is_some o → b ≡ true → o ≡ None → IsTrue false
no_fault None b e t none = sym e ∙ t
no_fault (Some x) b e t none = cc

pub is_none_of : {X : Type 0} (o : Option X) (b : Bool) → is_some o ≡ not b → b ≡ true → o ≡ None
is_none_of None b e t = refl
is_none_of (Some x) true e t = cc
is_none_of (Some x) false e t = cc

pub none_is : {X : Type 0} (o : Option X) (b : Bool) → is_some o ≡ not b → o ≡ None → b ≡ true
none_is None true e none = refl
none_is None false e none = cc
none_is (Some x) b e none = cc
