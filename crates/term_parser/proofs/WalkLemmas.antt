-- One round of closing.
use Rattle.std.proofs.Common.{◌≡◌, ℕ, ◌≤◌, nat_le, Bool, true, false, if◌then◌else◌, List, [], ◌∷◌, Some, None, Result, Ok, Err, IfOk, refl, sym, ◌∙◌}
use Rattle.std.proofs.lemmas.Bool.{le-leb}
use Rattle.term_parser.specs.declared.frame.Operator.{Operator}
use Rattle.term_parser.specs.declared.frame.Operator.TheVariants as operator
use Rattle.prolog_operators.specs.Table.{Table}
use Rattle.term_parser.specs.Limits.{most_openers}
use Rattle.term_parser.specs.Views.{known_of, token_of, table_rules, operator_frame}
use Rattle.term_parser.specs.declared.parser.Parser.{Parser}
use Rattle.term_parser.specs.declared.state.Step.{Step}
use Rattle.prolog_terms.specs.declared.symbol.Symbol.{Symbol}
use Rattle.prolog_operators.specs.Meanings.{table_of}
use Rattle.term_parser.specs.Parsing.{rules, frames, Leads, infix_move, term_move, applied}
use Rattle.prolog_grammar.specs.Placed.{Part, Known}
use Rattle.prolog_grammar.specs.Token.{Token}
use Rattle.prolog_grammar.specs.Rules.{Infix, Prefix, Rules, taken}
use Rattle.prolog_grammar.specs.Machine.{Open, Frame, infix_frame, prefix_frame, open_frame, want, ends}
use Rattle.prolog_grammar.specs.Walk.{Next, go_on, deep_here, walk_take, walk_have, walk_want, walk_apply, walk_ended, walk_text}

-- an operator is taken, if its left side is not too deep
by_depth : (over : Bool) (op : ℕ × Infix) (bound : ℕ) (t : Part) (k : List (Frame Part)) (other : Next Part)
    → walk_take (Some op) over bound t k other ≡ (if over then deep_here else go_on (want op.1.right (infix_frame bound op.0 op.1.priority t ∷ k)))
by_depth true op bound t k other = refl
by_depth false op bound t k other = refl

pub have_taken : (table : Table) (known : Known) (k : List (Frame Part)) (bound : ℕ) (t : Part) (p : ℕ) (token : Token) (op : ℕ × Infix) → taken (table_rules table known) bound p token ≡ Some op
    → walk_have most_openers (table_rules table known) k bound t p token
    ≡ (if nat_le most_openers t.depth then deep_here else go_on (want op.1.right (infix_frame bound op.0 op.1.priority t ∷ k)))
have_taken table known [] bound t p token op h = rw h (by_depth (nat_le most_openers t.depth) op bound t _ _)
have_taken table known (infix_frame b n q left ∷ k) bound t p token op h = rw h (by_depth (nat_le most_openers t.depth) op bound t _ _)
have_taken table known (prefix_frame b at n q ∷ k) bound t p token op h = rw h (by_depth (nat_le most_openers t.depth) op bound t _ _)
have_taken table known (open_frame b o ∷ k) bound t p token op h = rw h (by_depth (nat_le most_openers t.depth) op bound t _ _)

pub have_end : {T : Type 0} (limit : ℕ) (ops : Rules T) (bound : ℕ) (t : T) (p : ℕ) (token : Token) → taken ops bound p token ≡ None → walk_have limit ops [] bound t p token ≡ walk_text t token
have_end limit ops bound t p token h = rw h refl

pub have_operator : (table : Table) (known : Known) (k : List (Frame Part)) (b q : ℕ) (o : Operator) (bound : ℕ) (t : Part) (p : ℕ) (token : Token) → taken (table_rules table known) bound p token ≡ None
    → walk_have most_openers (table_rules table known) (operator_frame b q o ∷ k) bound t p token ≡ walk_have most_openers (table_rules table known) k b (applied o t) q token
have_operator table known k b q (operator.Infix name left) bound t p token h = rw h refl
have_operator table known k b q (operator.Prefix at name) bound t p token h = rw h refl

pub have_open : {T : Type 0} (limit : ℕ) (ops : Rules T) (k : List (Frame T)) (b : ℕ) (o : Open T) (bound : ℕ) (t : T) (p : ℕ) (token : Token) → taken ops bound p token ≡ None
    → walk_have limit ops (open_frame b o ∷ k) bound t p token ≡ walk_ended b k (ends ops o t token)
have_open limit ops k b o bound t p token h = rw h refl

-- a prefix operator within the bound is applied
pub apply_fits : {T : Type 0} (limit : ℕ) (rules : Rules T) (bound at n : ℕ) (op : Prefix) (k : List (Frame T)) (token : Token) → op.priority ≤ bound
    → walk_apply limit rules bound at n op k token ≡ walk_want limit rules op.right (prefix_frame bound at n op.priority ∷ k) token
apply_fits limit rules bound at n op k token h = rw (le-leb op.priority bound h) refl

-- an operator that is taken here leads from the start to where it leads from here
pub leads_infix : {E : Type 0} (start here new : Parser) (b0 b : ℕ) (t0 t : Part) (p0 p : ℕ) (token : Symbol) (n : ℕ) (op : Infix) (r : Result Step E)
    → term_move here b t p token ≡ term_move start b0 t0 p0 token → here.ops ≡ start.ops → here.names ≡ start.names → taken (rules here) b p (token_of token) ≡ Some (n, op)
    → IfOk r (Leads here new (infix_move here b t n op)) → IfOk r (Leads start new (term_move start b0 t0 p0 token))
leads_infix start here new b0 b t0 t p0 p token n op (Err e) same ops names h led = tt
leads_infix start here new b0 b t0 t p0 p token n op (Ok s) same ops names h led =
    (led.0 ∙ sym (have_taken (table_of here.ops.now) (known_of here.names) (frames here) b t p (token_of token) (n, op) h) ∙ same, led.1 ∙ ops, led.2 ∙ names, led.3, led.4)
