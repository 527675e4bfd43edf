-- Parts with the shape of a program have what the test of modes needs.
use Rattle.std.proofs.Common.{◌≡◌, ℕ, suc, List, [], ◌∷◌, length}
use Rattle.std.specs.List.{AllByRecursion}
use Rattle.cert_structure.specs.Numbered.{EachFrom}
use Rattle.cert_structure.specs.Shape.{IsLevel, arity_in, mappings_of}
use Rattle.number_tests.specs.declared.level_part.LevelPart.{LevelPart}
use Rattle.cert_modes.specs.Shaped.{IsWide, ShapesHaveSets}

each_weaker : {A : Type 0} (P Q : ℕ → A → Type 0) → ((i : ℕ) (x : A) → P i x → Q i x) → (i : ℕ) (xs : List A) → EachFrom i P xs → EachFrom i Q xs
each_weaker P Q h i [] k = tt
each_weaker P Q h i (x ∷ xs) k = (h i x k.0, each_weaker P Q h (suc i) xs k.1)

wide : (n : ℕ) (ls : List LevelPart) → AllByRecursion (IsLevel n) ls → AllByRecursion (IsWide n) ls
wide n [] h = tt
wide n (l ∷ ls) h = (h.0.0, wide n ls h.1)

pub shapes_have_sets : ShapesHaveSets
shapes_have_sets p comps parts shape = record {
  modes = shape.modes.count;
  grounds = shape.grounds;
  levels = record {
    count = shape.levels.count;
    each = each_weaker (λ a ls. (length ls ≡ mappings_of comps parts.levels a) × AllByRecursion (IsLevel (arity_in p a)) ls) (λ a. AllByRecursion (IsWide (arity_in p a)))
        (λ a ls h. wide (arity_in p a) ls h.1) 0 parts.levels shape.levels.each;
  };
  preconditions = shape.preconditions;
}
