-- Private.
-- The values of the code as those of the machine. Nothing here has to be believed.
use Rattle.std.specs.Prelude.{◌≡◌, ◌≤◌, ◌+◌, ℕ, List, [], ◌∷◌, length, map, Option, option_map}
use Rattle.term_parser.specs.declared.part.Part.{Part as CodePart}
use Rattle.prolog_operators.specs.declared.operators.Infix.{Infix as CodeInfix}
use Rattle.prolog_operators.specs.declared.operators.Ops.{Ops}
use Rattle.prolog_terms.specs.declared.symbol.Known.{Known as CodeKnown}
use Rattle.prolog_terms.specs.declared.symbol.Symbol.{Symbol}
use Rattle.prolog_terms.specs.declared.symbol.Symbol.TheVariants as symbol
use Rattle.term_parser.specs.declared.frame.Head.{Head as CodeHead}
use Rattle.term_parser.specs.declared.frame.Head.TheVariants as head
use Rattle.term_parser.specs.declared.frame.Open.{Open as CodeOpen}
use Rattle.term_parser.specs.declared.frame.Open.TheVariants as opening
use Rattle.term_parser.specs.declared.frame.Operator.{Operator as CodeOperator}
use Rattle.term_parser.specs.declared.frame.Operator.TheVariants as operator
use Rattle.term_parser.specs.declared.frame.Frame.{Frame as CodeFrame}
use Rattle.term_parser.specs.declared.frame.Frame.TheVariants as frame
use Rattle.term_parser.specs.declared.stack.Stack.{Stack}
use Rattle.term_parser.specs.declared.state.State.{State as CodeState}
use Rattle.term_parser.specs.declared.state.State.TheVariants as state
use Rattle.term_parser.specs.declared.state.Refusal.{Refusal}
use Rattle.term_parser.specs.declared.state.Refusal.TheVariants as refusal
use Rattle.term_parser.specs.declared.state.Step.{Step}
use Rattle.term_parser.specs.declared.state.Step.TheVariants as code
use Rattle.cti_terms.specs.declared.naming.Name.{Name}
use Rattle.prolog_grammar.specs.Token.{variable, integer, text, Token, Leaf, Joined, Name as NameToken, Paren, Touching, ParenEnd, Bracket, BracketEnd, Brace, BraceEnd, Comma, Bar, End}
use Rattle.prolog_grammar.specs.Rules.{Infix, Head, plain, brackets, braces, Rules}
use Rattle.prolog_grammar.specs.Machine.{Open, group_open, curly_open, arguments_open, items_open, tail_open, Frame, infix_frame, prefix_frame, open_frame, State, want, named, titled, bracketed, braced, have}
use Rattle.prolog_grammar.specs.Walk.{Next, go_on, stuck, finished, unexpected_here, deep_here}
use Rattle.prolog_grammar.specs.Placed.{Tree, tree, Part, Known, placed_rules}
use Rattle.prolog_grammar.specs.Run.{height}
use Rattle.term_parser.specs.Limits.{most_openers}
use Rattle.prolog_operators.specs.Table.{Table}
use Rattle.prolog_operators.specs.Meanings.{infix_of, table_of}
use Rattle.prolog_terms.specs.Terms.{tree_of}

abbrev pub from_tree : Tree → ℕ → Part
from_tree (tree at shape) d = record { at = at; shape = shape; depth = d }

abbrev pub part_view : CodePart → Part
part_view p = from_tree (tree_of p.term) p.depth

abbrev pub known_of : CodeKnown → Known
known_of n = record { comma = n.comma.0; nil = n.nil.0; curly = n.curly.0; cell = n.cell.0 }

-- the rules of the code's machine
abbrev pub table_rules : Table → Known → Rules Part
table_rules table known = placed_rules 1000 table.infixes table.prefixes known

abbrev pub rules_of : Ops → CodeKnown → Rules Part
rules_of ops known = table_rules (table_of ops) (known_of known)

-- an operator that was found, with its name
abbrev pub found_of : Option (Name × CodeInfix) → Option (ℕ × Infix)
found_of found = option_map (λ e. (e.0.0, infix_of e.1)) found

abbrev pub token_of : Symbol → Token
token_of (symbol.Var at n) = Leaf at (variable n)
token_of (symbol.Int at i) = Leaf at (integer i)
token_of (symbol.Joined at i) = Joined at i
token_of (symbol.Text at codes) = Leaf at (text codes.items)
token_of (symbol.Name at n) = NameToken at n.0
token_of (symbol.Paren at) = Paren at
token_of (symbol.Touching at) = Touching at
token_of symbol.ParenEnd = ParenEnd
token_of (symbol.Bracket at) = Bracket at
token_of symbol.BracketEnd = BracketEnd
token_of (symbol.Brace at) = Brace at
token_of symbol.BraceEnd = BraceEnd
token_of symbol.Comma = Comma
token_of symbol.Bar = Bar
token_of symbol.End = End

abbrev pub head_of : CodeHead → Head
head_of (head.Plain at n) = plain at n.0
head_of (head.Brackets at) = brackets at
head_of (head.Braces at) = braces at

abbrev pub open_of : CodeOpen → Open Part
open_of (opening.Group at) = group_open at
open_of (opening.Curly at) = curly_open at
open_of (opening.Arguments h parts) = arguments_open (head_of h) (map part_view parts.items)
open_of (opening.Items at parts) = items_open at (map part_view parts.items)
open_of (opening.Tail at parts) = tail_open at (map part_view parts.items)

abbrev pub operator_frame : ℕ → ℕ → CodeOperator → Frame Part
operator_frame bound priority (operator.Infix name left) = infix_frame bound name.0 priority (part_view left)
operator_frame bound priority (operator.Prefix at name) = prefix_frame bound at name.0 priority

abbrev pub frame_of : CodeFrame → Frame Part
frame_of (frame.Operator bound priority o) = operator_frame bound priority o
frame_of (frame.Open bound o) = open_frame bound (open_of o)

-- the last frame of the code's stack is on top
abbrev pub frames_onto : List (Frame Part) → List CodeFrame → List (Frame Part)
frames_onto k [] = k
frames_onto k (f ∷ fs) = frames_onto (frame_of f ∷ k) fs

abbrev pub frames_of : List CodeFrame → List (Frame Part)
frames_of fs = frames_onto [] fs

abbrev pub opened : Stack → List (Frame Part)
opened s = frames_of s.frames.items

-- how many openers a frame counts for
abbrev pub open_openers : CodeOpen → ℕ
open_openers (opening.Group at) = 1
open_openers (opening.Curly at) = 1
open_openers (opening.Arguments h parts) = 1
open_openers (opening.Items at parts) = length parts.items + 1
open_openers (opening.Tail at parts) = length parts.items + 1

abbrev pub frame_openers : CodeFrame → ℕ
frame_openers (frame.Operator bound priority o) = 1
frame_openers (frame.Open bound o) = open_openers o

-- the stack's counter of openers is right
abbrev pub IsCounted : Stack → Type 0
IsCounted s = s.openers ≡ height (opened s)

abbrev pub state_of : CodeState → List (Frame Part) → State Part
state_of (state.ExpectOperand bound) k = want bound k
state_of (state.AfterName n) k = named n.bound n.at n.name.0 k
state_of (state.AfterBrackets bound h) k = titled bound (head_of h) k
state_of (state.AfterOpenList bound at) k = bracketed bound at k
state_of (state.AfterOpenCurly bound at) k = braced bound at k
state_of (state.AfterTerm bound p priority) k = have bound (part_view p) priority k

abbrev pub refusal_of : Refusal → Next Part
refusal_of refusal.Unexpected = unexpected_here
refusal_of refusal.NextUnexpected = stuck
refusal_of refusal.Deep = deep_here

abbrev pub step_of : Step → List (Frame Part) → Next Part
step_of (code.Continue s) k = go_on (state_of s k)
step_of (code.Finished p) k = finished (part_view p)
step_of (code.Refused r) k = refusal_of r

-- no more openers than there may be: one more than the limit where an operand is expected
abbrev pub FitsState : CodeState → ℕ → Type 0
FitsState (state.ExpectOperand bound) openers = openers ≤ most_openers + 1
FitsState _ openers = openers ≤ most_openers

abbrev pub FitsStep : Step → ℕ → Type 0
FitsStep (code.Continue s) openers = FitsState s openers
FitsStep _ openers = Unit {0}
