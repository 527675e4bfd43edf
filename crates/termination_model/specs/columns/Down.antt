-- Private.
-- An example: of a count down without a bound no list descends.
--
-- down(N) :- M is N-1, down(M).
--
-- The stuck set is the one call. Its group has the point N = 0, M = -1, and a floor in the direction of N = -1: the
-- values fall from 0 to -1, and the head's at the floor is -1.
use Rattle.std.specs.Prelude.{ℕ, zero, suc, Bool, true, false, List, [], ◌∷◌, Some}
use Rattle.std.specs.List.{AllByRecursion}
use Rattle.cti_terms.specs.Tree.{Variable}
use Rattle.termination_model.specs.mappings.View.{Member, Lower}
use Rattle.termination_model.specs.columns.ColumnClaims.{Mapping}
use Rattle.termination_model.specs.columns.ColumnStuck.{Own, Group, IsNatural, ListDescends}
use Rattle.termination_model.specs.columns.ColumnView.{Call, Rule}
use Rattle.termination_model.specs.columns.Count.{names, less_one, all_rows}
use Rattle.termination_model.specs.columns.Expressions.{expression}
use Rattle.termination_model.specs.columns.Measures.{stated_rows}
use Rattle.cti_terms.specs.declared.builtins.Builtin.TheVariants.{Is}

abbrev pub call_of_is : Call
call_of_is = record { args = Variable 1 ∷ (less_one (Variable 0) ∷ []); kinds = 3 ∷ (3 ∷ []); rows = stated_rows Is; grounds = all_rows; place = Lower all_rows }

abbrev pub call_of_down : Call
call_of_down = record { args = Variable 1 ∷ []; kinds = 3 ∷ []; rows = []; grounds = all_rows; place = Member 0 }

abbrev pub down : Rule
down = record { member = 0; args = Variable 0 ∷ []; kinds = 3 ∷ []; vars = 2; body = call_of_is ∷ (call_of_down ∷ []) }

-- of each argument the first column is a size
abbrev pub first_column : ℕ → ℕ → Bool
first_column q zero = true
first_column q (suc i) = false

abbrev pub the_call : Own
the_call = record { rule = down; place = 1; call = call_of_down; member = 0 }

abbrev pub the_group : Group
the_group = record {
  first = record { own = the_call; t = 1; w = 0 ∷ (0 ∷ (0 ∷ (0 ∷ (0 ∷ (1 ∷ []))))) };
  others = [];
  floor = Some (0, 0 ∷ (0 ∷ (1 ∷ (0 ∷ (0 ∷ (1 ∷ []))))));
}

abbrev pub DownHasNoList : Type 0
DownHasNoList = (ls : List Mapping) → AllByRecursion (IsNatural first_column) ls → ListDescends 3 (expression (Some names)) (down ∷ []) ls → ⊥
