-- Private.
-- Examples: a count down to 0, over whose one transition the value of the argument descends; and one without a bound,
-- which is stuck.
--
-- count(N) :- N > 0, M is N-1, count(M).
-- down(N) :- M is N-1, down(M).
use Rattle.std.specs.Prelude.{◌≡◌, pos, negsuc, Bool, List, [], ◌∷◌, Some}
use Rattle.cti_terms.specs.Tree.{Variable, Integer}
use Rattle.cti_terms.specs.declared.builtins.Builtin.TheVariants.{Greater}
use Rattle.termination_model.specs.columns.ColumnClaims.{Mapping}
use Rattle.termination_model.specs.columns.ColumnStuck.{Own}
use Rattle.termination_model.specs.columns.ColumnView.{Call, Rule}
use Rattle.termination_model.specs.columns.Count.{names, all_rows}
use Rattle.termination_model.specs.columns.Down.{call_of_is, call_of_down, the_call}
use Rattle.termination_model.specs.columns.Expressions.{expression}
use Rattle.termination_model.specs.columns.Measures.{stated_rows}
use Rattle.termination_model.specs.mappings.View.{Lower}
use Rattle.transitions.specs.StuckSets.{Feature, Group, IsStuckAt}
use Rattle.transitions.specs.Transitions.{Transition, transition_of, Descends}
use Rattle.transitions.specs.Turns.{fall_target}

abbrev pub call_of_greater : Call
call_of_greater = record { args = Variable 0 ∷ (Integer (pos 0) ∷ []); kinds = 3 ∷ (3 ∷ []); rows = stated_rows Greater; grounds = all_rows; place = Lower all_rows }

abbrev pub count : Rule
count = record { member = 0; args = Variable 0 ∷ []; kinds = 3 ∷ []; vars = 2; body = call_of_greater ∷ (call_of_is ∷ (call_of_down ∷ [])) }

abbrev pub count_call : Own
count_call = record { rule = count; place = 2; call = call_of_down; member = 0 }

abbrev pub count_transition : Transition
count_transition = transition_of 3 (expression (Some names)) count_call

abbrev pub down_transition : Transition
down_transition = transition_of 3 (expression (Some names)) the_call

-- what N is above 0, less what it is below
abbrev pub value : Mapping
value = record { coefficients = λ _. pos 0 ∷ (pos 1 ∷ (negsuc 0 ∷ [])); offset = λ _. pos 0 }

-- the point N = 0, M = -1, and a floor in the direction of N = -1
abbrev pub down_group : Group
down_group = record {
  first = record { of = down_transition; t = 1; w = 0 ∷ (0 ∷ (0 ∷ (0 ∷ (0 ∷ (1 ∷ []))))) };
  others = [];
  floor = Some (0, 0 ∷ (0 ∷ (1 ∷ (0 ∷ (0 ∷ (1 ∷ []))))));
}

-- the value is a feature's row: of the offset, of the size, and of what is above and below 0, head less call
abbrev pub features : List Feature
features = (0, 0) ∷ ((0, 1) ∷ ((0, 2) ∷ ((0, 3) ∷ [])))

pub record CountAndDown : Type 0 where
  pub descends : Descends (count_transition ∷ []) (value ∷ [])
  pub stuck : (test : Feature → Bool) → IsStuckAt test (down_transition ∷ []) (down_group ∷ [])
  pub none : (ls : List Mapping) → Descends (down_transition ∷ []) ls → ⊥
  pub target : (fall_target features 1 count_transition).features
      ≡ (pos 0 ∷ (pos 0 ∷ (pos 0 ∷ (pos 0 ∷ (pos 0 ∷ (pos 0 ∷ (pos 0 ∷ [])))))))
      ∷ ((pos 0 ∷ (pos 1 ∷ (pos 0 ∷ (pos 0 ∷ (negsuc 0 ∷ (pos 0 ∷ (pos 0 ∷ [])))))))
      ∷ ((pos 0 ∷ (pos 0 ∷ (pos 1 ∷ (pos 0 ∷ (pos 0 ∷ (negsuc 0 ∷ (pos 0 ∷ [])))))))
      ∷ ((pos 0 ∷ (pos 0 ∷ (pos 0 ∷ (pos 1 ∷ (pos 0 ∷ (pos 0 ∷ (negsuc 0 ∷ []))))))) ∷ [])))
