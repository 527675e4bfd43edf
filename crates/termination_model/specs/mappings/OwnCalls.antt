-- To believe, for the modes.
-- A component's calls of itself, its members and its argument positions, in the order of its clauses.
--
-- To believe: all of this file, where the system of a support is spoken of.
use Rattle.std.specs.Prelude.{ℕ, suc, ◌==◌, ℤ, if◌then◌else◌, List, [], ◌∷◌, ◌++◌, map, take, length}
use Rattle.std.specs.List.{list_any}
use Rattle.cti_terms.specs.Tree.{Tree}
use Rattle.linear_rows.specs.Step.{columns}
use Rattle.termination_model.specs.mappings.View.{Place, Member, Lower, Call, Rule, system_of}

-- a call of a member in a rule: its place in the body, and the member that is called
pub record OwnCall : Type 0 where
  pub rule : Rule
  pub place : ℕ
  pub call : Call
  pub member : ℕ

-- a member, and the number of one of its arguments, from 0
abbrev pub Position : Type 0
Position = ℕ × ℕ

abbrev pub own_call : Rule → ℕ → Call → Place → List OwnCall
own_call k j b (Member q) = record { rule = k; place = j; call = b; member = q } ∷ []
own_call k j b (Lower f) = []

abbrev pub own_calls_from : Rule → ℕ → List Call → List OwnCall
own_calls_from k j [] = []
own_calls_from k j (b ∷ bs) = own_call k j b b.place ++ own_calls_from k (suc j) bs

-- the calls of members, by rule and place
abbrev pub own_calls : List Rule → List OwnCall
own_calls [] = []
own_calls (k ∷ ks) = own_calls_from k 0 k.body ++ own_calls ks

-- the first rule of each member, in order, but for members that were seen
abbrev pub first_rules : List ℕ → List Rule → List Rule
first_rules seen [] = []
first_rules seen (k ∷ ks) = if list_any (λ q. q == k.member) seen then first_rules seen ks else k ∷ first_rules (k.member ∷ seen) ks

-- the members, by their first rules
abbrev pub members_of : List Rule → List ℕ
members_of view = map (λ (k : Rule). k.member) (first_rules [] view)

abbrev pub positions_of_rule : Rule → List Position
positions_of_rule k = map (λ a. (k.member, a)) (columns 0 (length k.args))

abbrev pub positions_of_rules : List Rule → List Position
positions_of_rules [] = []
positions_of_rules (k ∷ ks) = positions_of_rule k ++ positions_of_rules ks

-- the argument positions, by member and argument
abbrev pub positions_of : List Rule → List Position
positions_of view = positions_of_rules (first_rules [] view)

module _ (expression : ℕ → Tree → List ℤ) where
  -- the size rows of the atoms before a call
  abbrev pub rows_before : OwnCall → List (List ℤ)
  rows_before o = system_of expression o.rule.vars (take o.place o.rule.body)

  -- the sizes of the head's arguments, and of the call's
  abbrev pub head_sizes : OwnCall → List (List ℤ)
  head_sizes o = map (expression o.rule.vars) o.rule.args

  abbrev pub call_sizes : OwnCall → List (List ℤ)
  call_sizes o = map (expression o.rule.vars) o.call.args
