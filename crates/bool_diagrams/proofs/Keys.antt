-- Keys of a memo that compare as equal are the same.
use Rattle.std.proofs.Common.{◌==◌, ◌&&◌, ◌≡◌, ℕ, true, ◌∙◌, ap}
use Rattle.std.proofs.lemmas.Bool.{eqb-true, and_parts}
use Rattle.bool_diagrams.specs.declared.connective.Connective.TheVariants.{And, Or, Iff}
use Rattle.bool_diagrams.specs.declared.memo.Key.{Key}
use Rattle.bool_diagrams.specs.declared.memo.Key.TheVariants.{Join, Quantify}
use Rattle.bool_diagrams.specs.contracts.memo.KeyPartialEq.TheImpl.{eq-value}

both : (make : ℕ → ℕ → Key) (a b c d : ℕ) → ((a == c) && (b == d)) ≡ true → make a b ≡ make c d
both make a b c d h =
    let parts = and_parts (a == c) (b == d) h in
    ap (λ (n : ℕ). make n b) (eqb-true a c parts.0) ∙ ap (make c) (eqb-true b d parts.1)

-- the derived comparison finds the same key
pub same_key : (j k : Key) → eq-value.it j k ≡ true → j ≡ k
same_key (Join And a b) (Join And c d) h = both (Join And) a b c d h
same_key (Join Or a b) (Join Or c d) h = both (Join Or) a b c d h
same_key (Join Iff a b) (Join Iff c d) h = both (Join Iff) a b c d h
same_key (Quantify And a b) (Quantify And c d) h = both (Quantify And) a b c d h
same_key (Quantify Or a b) (Quantify Or c d) h = both (Quantify Or) a b c d h
same_key (Quantify Iff a b) (Quantify Iff c d) h = both (Quantify Iff) a b c d h
same_key j k h = cc
