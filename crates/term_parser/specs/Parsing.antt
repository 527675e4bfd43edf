-- Private.
-- What the parser's functions do, as moves of the machine. Nothing here has to be believed.
use Rattle.std.specs.Prelude.{◌≡◌, ◌≤◌, nat_le, ℕ, List, [], ◌∷◌, Bool, true, false, if◌then◌else◌}
use Rattle.prolog_grammar.specs.Token.{Leaf, Paren, text}
use Rattle.prolog_grammar.specs.Rules.{Infix, Prefix, Head, Rules}
use Rattle.prolog_grammar.specs.Machine.{Open, Frame, infix_frame, open_frame, want, have, inside, arguments_open, ends}
use Rattle.prolog_grammar.specs.Walk.{Next, go_on, deep_here, walk_have, walk_ended, walk_want, walk_apply, walk_titled, walk_bracketed, walk_braced, walk_prefix, walk_named, walk_step, or_stuck, only_stuck}
use Rattle.prolog_grammar.specs.Run.{height, inside_height}
use Rattle.prolog_grammar.specs.Placed.{Part, named_at}
use Rattle.prolog_operators.specs.declared.operators.Ops.{Ops}
use Rattle.prolog_terms.specs.declared.symbol.Known.{Known}
use Rattle.prolog_terms.specs.declared.symbol.Symbol.{Symbol}
use Rattle.term_parser.specs.declared.frame.Operator.{Operator}
use Rattle.term_parser.specs.declared.frame.Operator.TheVariants as operator
use Rattle.term_parser.specs.declared.state.NameRead.{NameRead}
use Rattle.term_parser.specs.declared.state.State.{State}
use Rattle.term_parser.specs.declared.state.Step.{Step}
use Rattle.term_parser.specs.declared.parser.Parser.{Parser}
use Rattle.term_parser.specs.Limits.{most_openers}
use Rattle.term_parser.specs.Views.{rules_of, token_of, opened, state_of, step_of, part_view, IsCounted, FitsState, FitsStep}

-- the rules by which a parser reads, and what is open
abbrev pub rules : Parser → Rules Part
rules p = rules_of p.ops.now p.names

abbrev pub frames : Parser → List (Frame Part)
frames p = opened p.stack

-- the counter of openers is right, and there are no more openers than this
abbrev pub IsUnder : ℕ → Parser → Type 0
IsUnder most p = IsCounted p.stack × (height (frames p) ≤ most)

-- the same inside an opening token that was taken off the stack
abbrev pub IsInside : ℕ → Open Part → Parser → Type 0
IsInside most o p = IsCounted p.stack × (inside_height o (height (frames p)) ≤ most)

-- the same in a state
abbrev pub IsIn : State → Parser → Type 0
IsIn s p = IsCounted p.stack × FitsState s (height (frames p))

-- the parser reads by these operators and names, and nothing is open
abbrev pub IsFresh : Ops → Known → Parser → Type 0
IsFresh ops names p = (p.ops.now ≡ ops) × (p.names ≡ names) × (frames p ≡ []) × IsCounted p.stack

-- a step goes where the machine goes; the operators and names stay, and the openers fit where reading continues
abbrev pub Leads : Parser → Parser → Next Part → Step → Type 0
Leads old new move step =
    (step_of step (frames new) ≡ move) × (new.ops ≡ old.ops) × (new.names ≡ old.names)
    × IsCounted new.stack × FitsStep step (height (frames new))

-- a token where an operand is expected, and a text or a parenthesis there
abbrev pub operand_move : Parser → ℕ → Symbol → Next Part
operand_move p bound token = walk_want most_openers (rules p) bound (frames p) (token_of token)

abbrev pub text_move : Parser → ℕ → ℕ → List ℕ → Next Part
text_move p bound at codes = walk_want most_openers (rules p) bound (frames p) (Leaf at (text codes))

abbrev pub group_move : Parser → ℕ → ℕ → Next Part
group_move p bound at = walk_want most_openers (rules p) bound (frames p) (Paren at)

-- an opening token: an operand is expected inside it
abbrev pub open_move : Parser → ℕ → Open Part → Next Part
open_move p bound o = go_on (want (inside o) (open_frame bound o ∷ frames p))

-- an operand that is whole
abbrev pub operand_done : Parser → ℕ → Part → Next Part
operand_done p bound t = go_on (have bound t 0 (frames p))

-- an infix operator that is taken, if its left side is not too deep
abbrev pub infix_move : Parser → ℕ → Part → ℕ → Infix → Next Part
infix_move p bound left name op =
    if nat_le most_openers left.depth then deep_here else go_on (want op.right (infix_frame bound name op.priority left ∷ frames p))

-- a token after a term
abbrev pub term_move : Parser → ℕ → Part → ℕ → Symbol → Next Part
term_move p bound t priority token = walk_have most_openers (rules p) (frames p) bound t priority (token_of token)

-- a term inside an opening token, and the token after it
abbrev pub ended_move : Parser → ℕ → Open Part → Part → Symbol → Next Part
ended_move p bound o t token = walk_ended bound (frames p) (ends (rules p) o t (token_of token))

-- a token after a name
abbrev pub name_move : Parser → NameRead → Symbol → Bool → Next Part
name_move p n token touched = walk_named most_openers (rules p) (frames p) n.bound n.at n.name.0 (token_of token) touched

-- a token after a name that is a prefix operator, and after one that is applied
abbrev pub prefix_move : Parser → NameRead → Prefix → Symbol → Bool → Next Part
prefix_move p n op token touched = walk_prefix most_openers (rules p) (frames p) n.bound n.at n.name.0 op (token_of token) touched

abbrev pub applied_move : Parser → NameRead → Prefix → Symbol → Next Part
applied_move p n op token = walk_apply most_openers (rules p) n.bound n.at n.name.0 op (frames p) (token_of token)

-- a token after a name that is an atom
abbrev pub atom_move : Parser → ℕ → Head → Symbol → Next Part
atom_move p bound h token = walk_have most_openers (rules p) (frames p) bound ((rules p).atom h) 0 (token_of token)

-- the same where the name is a prefix operator, which can be applied or not, and the token is an infix operator alone,
-- which a parenthesis touches or not
abbrev pub decided : Bool → Bool → Next Part → Next Part
decided can true move = only_stuck move
decided can false move = or_stuck can move

-- the parenthesis before arguments
abbrev pub arguments_move : Parser → ℕ → Head → Next Part
arguments_move p bound h = open_move p bound (arguments_open h [])

-- a token after [] or {}, after an opening bracket, and after an opening brace
abbrev pub brackets_move : Parser → ℕ → Head → Symbol → Next Part
brackets_move p bound h token = walk_titled most_openers (rules p) (frames p) bound h (token_of token)

abbrev pub open_list_move : Parser → ℕ → ℕ → Symbol → Next Part
open_list_move p bound at token = walk_bracketed most_openers (rules p) (frames p) bound at (token_of token)

abbrev pub open_curly_move : Parser → ℕ → ℕ → Symbol → Next Part
open_curly_move p bound at token = walk_braced most_openers (rules p) (frames p) bound at (token_of token)

-- a token in a state
abbrev pub state_move : Parser → State → Symbol → Bool → Next Part
state_move p s token touched = walk_step most_openers (rules p) (state_of s (frames p)) (token_of token) touched

-- an operator with its operands, the last of which was under way
abbrev pub applied : Operator → Part → Part
applied (operator.Infix name left) t = named_at most_openers (part_view left).at name.0 (part_view left ∷ t ∷ [])
applied (operator.Prefix at name) t = named_at most_openers at name.0 (t ∷ [])
