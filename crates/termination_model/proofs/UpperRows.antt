-- What is true at all upper rows is true at each.
use Rattle.std.proofs.Common.{◌≡◌, Bool, true, false, List, [], ◌∷◌, refl}
use Rattle.std.proofs.lemmas.Bool.{and_parts}
use Rattle.termination_model.specs.sizes.Rows.{IsUpper}
use Rattle.termination_model.specs.mappings.View.{all_upper}

pub upper_all : (f : List Bool → Bool) (bs us : List Bool) → all_upper f bs ≡ true → IsUpper us bs → f us ≡ true
upper_all f [] [] h u = h
upper_all f [] (x ∷ us) h u = absurd u
upper_all f (b ∷ bs) [] h u = absurd u
upper_all f (true ∷ bs) (true ∷ us) h u = upper_all (λ xs. f (true ∷ xs)) bs us h u.1
upper_all f (true ∷ bs) (false ∷ us) h u = absurd (let e = u.0 refl in cc)
upper_all f (false ∷ bs) (true ∷ us) h u = upper_all (λ xs. f (true ∷ xs)) bs us (and_parts (all_upper (λ xs. f (true ∷ xs)) bs) (all_upper (λ xs. f (false ∷ xs)) bs) h).0 u.1
upper_all f (false ∷ bs) (false ∷ us) h u = upper_all (λ xs. f (false ∷ xs)) bs us (and_parts (all_upper (λ xs. f (true ∷ xs)) bs) (all_upper (λ xs. f (false ∷ xs)) bs) h).1 u.1
