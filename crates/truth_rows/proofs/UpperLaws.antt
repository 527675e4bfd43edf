-- Rows all of whose upper rows are in a set, argument by argument.
use Rattle.std.proofs.Common.{◌≡◌, ◌↔◌, ◌⊎◌, inl, inr, ℕ, zero, suc, ◌+◌, ◌<◌, ◌≤◌, Bool, true, false, ◌&&◌, IsTrue, List, [], ◌∷◌, length, refl, ap, sym, ◌∙◌, arith}
use Rattle.std.proofs.lemmas.Bool.{and_parts, cases_eq}
use Rattle.bool_diagrams.specs.Cubes.{values_of}
use Rattle.bool_diagrams.specs.Tree.{with_value}
use Rattle.termination_model.specs.sizes.Rows.{IsUpper}
use Rattle.termination_model.specs.mappings.View.{all_upper}
use Rattle.truth_rows.proofs.RowLaws.{both, same_bool, with_same, with_other, first_row, first_values, length-first}
use Rattle.termination_model.proofs.UpperRows.{upper_all}

pub all_from_upper : (f : List Bool → Bool) (bs : List Bool) → ((us : List Bool) → IsUpper us bs → f us ≡ true) → all_upper f bs ≡ true
all_from_upper f [] h = h [] tt
all_from_upper f (true ∷ bs) h = all_from_upper (λ xs. f (true ∷ xs)) bs (λ us u. h (true ∷ us) (λ e. refl, u))
all_from_upper f (false ∷ bs) h =
    both (all_upper (λ xs. f (true ∷ xs)) bs) (all_upper (λ xs. f (false ∷ xs)) bs)
    (all_from_upper (λ xs. f (true ∷ xs)) bs (λ us u. h (true ∷ us) (λ e. refl, u)))
    (all_from_upper (λ xs. f (false ∷ xs)) bs (λ us u. h (false ∷ us) (λ e. cc, u)))

-- the other row is true below n wherever the row is, and the same from n on
pub record IsRaised (n : ℕ) (row other : ℕ → Bool) : Type 0 where
  pub below : (x : ℕ) → x < n → IsTrue (row x) → IsTrue (other x)
  pub above : (x : ℕ) → n ≤ x → other x ≡ row x

pub raised_none : (set : (ℕ → Bool) → Bool) (agree : (row other : ℕ → Bool) → ((x : ℕ) → row x ≡ other x) → set row ≡ set other) (row : ℕ → Bool) → IsTrue (set row) ↔ ((other : ℕ → Bool) → IsRaised 0 row other → IsTrue (set other))
raised_none set agree row = (
  λ t other r. agree other row (λ x. r.above x (omega arith)) ∙ t,
  λ h. h row (record { below = λ x lt t. t; above = λ x le. refl }),
)

raised_itself : (n : ℕ) (row other : ℕ → Bool) → IsRaised n row other → IsRaised (n + 1) row other
raised_itself n row other r = record {
  below = λ x lt t. elim (cases_eq x n) [
    | inl same ↦ r.above x (omega arith) ∙ t
    | inr different ↦ r.below x (omega arith) t
  ];
  above = λ x le. r.above x (omega arith);
}

raised_here : (n : ℕ) (row other : ℕ → Bool) → IsRaised n (with_value row n true) other → IsRaised (n + 1) row other
raised_here n row other r = record {
  below = λ x lt t. elim (cases_eq x n) [
    | inl same ↦ r.above x (omega arith) ∙ ap (with_value row n true) same ∙ with_same row n true
    | inr different ↦ r.below x (omega arith) (with_other row n true x different ∙ t)
  ];
  above = λ x le. r.above x (omega arith) ∙ with_other row n true x (λ e. omega arith);
}

raised_either : (n : ℕ) (row other : ℕ → Bool) → IsRaised (n + 1) row other → IsRaised n row other ⊎ IsRaised n (with_value row n true) other
raised_either n row other r = go (row n) (other n) refl refl
  where
    kept : row n ≡ other n → IsRaised n row other
    kept same = record {
      below = λ x lt t. r.below x (omega arith) t;
      above = λ x le. elim (cases_eq x n) [
        | inl is ↦ ap other is ∙ sym same ∙ ap row (sym is)
        | inr different ↦ r.above x (omega arith)
      ];
    }

    lifted : other n ≡ true → IsRaised n (with_value row n true) other
    lifted on = record {
      below = λ x lt t. r.below x (omega arith) (sym (with_other row n true x (λ e. omega arith)) ∙ t);
      above = λ x le. elim (cases_eq x n) [
        | inl is ↦ ap other is ∙ on ∙ sym (with_same row n true) ∙ ap (with_value row n true) (sym is)
        | inr different ↦ r.above x (omega arith) ∙ sym (with_other row n true x different)
      ];
    }

    go : (a b : Bool) → row n ≡ a → other n ≡ b → IsRaised n row other ⊎ IsRaised n (with_value row n true) other
    go a true e f = inr (lifted f)
    go false false e f = inl (kept (e ∙ sym f))
    go true false e f = let t = r.below n (omega arith) e in cc

-- one more argument
pub raised_more : (set now : (ℕ → Bool) → Bool) (n : ℕ) → ((row : ℕ → Bool) → IsTrue (now row) ↔ ((other : ℕ → Bool) → IsRaised n row other → IsTrue (set other)))
    → (row : ℕ → Bool) → IsTrue (now row && now (with_value row n true)) ↔ ((other : ℕ → Bool) → IsRaised (n + 1) row other → IsTrue (set other))
raised_more set now n h row = (forth, back)
  where
    forth : IsTrue (now row && now (with_value row n true)) → (other : ℕ → Bool) → IsRaised (n + 1) row other → IsTrue (set other)
    forth t other r =
        let parts = and_parts (now row) (now (with_value row n true)) t in
        elim (raised_either n row other r) [
          | inl kept ↦ (h row).0 parts.0 other kept
          | inr lifted ↦ (h (with_value row n true)).0 parts.1 other lifted
        ]

    back : ((other : ℕ → Bool) → IsRaised (n + 1) row other → IsTrue (set other)) → IsTrue (now row && now (with_value row n true))
    back all =
        both (now row) (now (with_value row n true))
        ((h row).1 (λ other r. all other (raised_itself n row other r)))
        ((h (with_value row n true)).1 (λ other r. all other (raised_here n row other r)))

beyond : (row : List Bool) (x : ℕ) → length row ≤ x → values_of row x ≡ false
beyond [] x le = refl
beyond (b ∷ row) zero le = absurd (omega arith)
beyond (b ∷ row) (suc x) le = beyond row x (omega arith)

upper_length : (bs us : List Bool) → IsUpper us bs → length us ≡ length bs
upper_length [] [] u = refl
upper_length [] (x ∷ us) u = absurd u
upper_length (b ∷ bs) [] u = absurd u
upper_length (b ∷ bs) (v ∷ us) u = ap suc (upper_length bs us u.1)

upper_at : (bs us : List Bool) → IsUpper us bs → (x : ℕ) → IsTrue (values_of bs x) → IsTrue (values_of us x)
upper_at [] us u x t = cc
upper_at (b ∷ bs) [] u x t = absurd u
upper_at (b ∷ bs) (v ∷ us) u zero t = u.0 t
upper_at (b ∷ bs) (v ∷ us) u (suc x) t = upper_at bs us u.1 x t

raised_upper : (bs us : List Bool) → length us ≡ length bs → ((x : ℕ) → x < length bs → IsTrue (values_of bs x) → IsTrue (values_of us x)) → IsUpper us bs
raised_upper [] [] l h = tt
raised_upper [] (x ∷ us) l h = absurd (omega arith)
raised_upper (b ∷ bs) [] l h = absurd (omega arith)
raised_upper (b ∷ bs) (v ∷ us) l h = (λ t. h 0 (omega arith) t, raised_upper bs us (omega arith) (λ x lt t. h (suc x) (omega arith) t))

pub upper_is : (set now : (ℕ → Bool) → Bool) (width : ℕ) → ((row other : ℕ → Bool) → ((v : ℕ) → v < width → row v ≡ other v) → set row ≡ set other)
    → ((row : ℕ → Bool) → IsTrue (now row) ↔ ((other : ℕ → Bool) → IsRaised width row other → IsTrue (set other)))
    → (row : List Bool) → length row ≡ width → now (values_of row) ≡ all_upper (λ us. set (values_of us)) row
upper_is set now width reads h row long = same_bool (now (values_of row)) (all_upper (λ us. set (values_of us)) row) forth back
  where
    forth : IsTrue (now (values_of row)) → IsTrue (all_upper (λ us. set (values_of us)) row)
    forth t = all_from_upper (λ us. set (values_of us)) row (λ us u.
        let l = upper_length row us u in
        (h (values_of row)).0 t (values_of us) (record {
          below = λ x lt s. upper_at row us u x s;
          above = λ x le. beyond us x (omega arith) ∙ sym (beyond row x (omega arith));
        }))

    back : IsTrue (all_upper (λ us. set (values_of us)) row) → IsTrue (now (values_of row))
    back t = (h (values_of row)).1 (λ other r.
        let us = first_row width other in
        let l = length-first width other in
        let u = raised_upper row us (omega arith) (λ x lt s. first_values width other x (omega arith) ∙ r.below x (omega arith) s) in
        reads other (values_of us) (λ v lt. sym (first_values width other v lt)) ∙ upper_all (λ xs. set (values_of xs)) row us t u)
