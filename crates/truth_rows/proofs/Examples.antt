-- `p(X,f(X)) :- q(X).`, where no row of q is allowed: the set with the row (0,1) alone keeps the rule, since the head
-- has no such row, and the query `p(Y,t)` with a rigid t calls q all the same. So the row (1,1) above it has to be
-- there too.
use Rattle.std.proofs.Common.{◌≡◌, zero, suc, Bool, true, false, ◌&&◌, not, List, [], ◌∷◌, refl}
use Rattle.cti_terms.specs.Tree.{Variable, Compound, End, More, truth}
use Rattle.cti_terms.specs.declared.clauses.Clause.{Clause}
use Rattle.termination_model.specs.grounds.Grounds.{Family}
use Rattle.termination_model.specs.mappings.View.{all_upper}
use Rattle.truth_rows.specs.Rules.{KeepsSets, same_rank}

abbrev rule : Clause
rule = record {
  head = record { pred = record { 0 = 0 }; args = Variable 0 ∷ Compound 2 (More (Variable 0) End) ∷ [] };
  body = record { pred = record { 0 = 1 }; args = Variable 0 ∷ [] } ∷ [];
  vars = 1;
}

-- the row (0,1) alone, and the rows (0,1) and (1,1)
abbrev second_alone : List Bool → Bool
second_alone [] = false
second_alone (a ∷ []) = false
second_alone (a ∷ b ∷ []) = not a && b
second_alone (a ∷ b ∷ c ∷ row) = false

abbrev second : List Bool → Bool
second [] = false
second (a ∷ []) = false
second (a ∷ b ∷ []) = b
second (a ∷ b ∷ c ∷ row) = false

abbrev rows_of_p : (List Bool → Bool) → Family
rows_of_p set zero row = set row
rows_of_p set (suc q) row = false

abbrev all_rows : Family
all_rows q row = true

no_such_head : (b : Bool) → second_alone (b ∷ (b && true) ∷ []) ≡ true → ⊥
no_such_head true h = cc
no_such_head false h = cc

pub kept_by_no_row : KeepsSets truth (rows_of_p second_alone) (rows_of_p second_alone) all_rows (λ q. same_rank (1 ∷ 0 ∷ []) q 0) rule
kept_by_no_row v head j b at before = absurd (no_such_head (v 0) head)

pub not_kept : KeepsSets truth (rows_of_p second) (rows_of_p second) all_rows (λ q. same_rank (1 ∷ 0 ∷ []) q 0) rule → ⊥
not_kept keeps = let stays = keeps (λ x. true) refl 0 (record { pred = record { 0 = 1 }; args = Variable 0 ∷ [] }) refl tt in cc

pub no_row_stays : all_upper second_alone (false ∷ true ∷ []) ≡ false
no_row_stays = refl

pub both_rows_stay : all_upper second (false ∷ true ∷ []) ≡ true
both_rows_stay = refl
