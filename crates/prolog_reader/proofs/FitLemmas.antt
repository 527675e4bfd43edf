-- What is open stays in range while a clause is read, and so is the clause.
use Rattle.std.proofs.Common.{◌≡◌, ℕ, ◌+◌, ◌≤◌, Bool, codes, List, [], ◌∷◌, ◌++◌, length, sym, ap, ◌∙◌, subst, arith}
use Rattle.std.specs.List.{AllByRecursion}
use Rattle.prolog_grammar.specs.Token.{Token}
use Rattle.prolog_grammar.specs.Placed.{Tree, Part, part_tree, Known}
use Rattle.prolog_grammar.specs.Machine.{State}
use Rattle.prolog_grammar.specs.Walk.{Next, walk_step}
use Rattle.prolog_terms.specs.Clauses.{nodes, is_below, is_known}
use Rattle.prolog_operators.specs.Names.{Extends}
use Rattle.prolog_reader.specs.Words.{known}
use Rattle.prolog_operators.specs.Table.{Table}
use Rattle.prolog_reader.specs.FoundFit.{AreWithin, IsClauseFit}
use Rattle.term_parser.specs.Views.{table_rules}
use Rattle.prolog_reader.specs.Measures.{weight, part_nodes, state_nodes, NextWithin, IsFine, IsStateFine, IsNextFine, IsTokenFine}
use Rattle.prolog_operators.proofs.NameLemmas.{number_within}
use Rattle.prolog_reader.proofs.MeasureLemmas.{step_fine, step_within}

pub known_within : (names : List (List ℕ)) (k : Known) (count : ℕ) → ((later : List (List ℕ)) → Extends names later → known later ≡ k) → length names ≤ count → AreWithin count k
known_within names k count are few = record {
  comma = let h = number_within names (codes ",") k.comma (λ later ext. ap (λ (x : Known). x.comma) (are later ext)) in omega (arith, h, few);
  nil = let h = number_within names (codes "[]") k.nil (λ later ext. ap (λ (x : Known). x.nil) (are later ext)) in omega (arith, h, few);
  curly = let h = number_within names (codes "{}") k.curly (λ later ext. ap (λ (x : Known). x.curly) (are later ext)) in omega (arith, h, few);
  cell = let h = number_within names (codes ".") k.cell (λ later ext. ap (λ (x : Known). x.cell) (are later ext)) in omega (arith, h, few);
}

-- what a step makes
pub next_fine : (count vars : ℕ) (table : Table) (k : Known) (s : State Part) (u : Token) (touch : Bool) (n : Next Part) → AreWithin count k → IsStateFine count vars s → IsTokenFine count vars u
    → n ≡ walk_step 1000 (table_rules table k) s u touch → IsNextFine count vars n
next_fine count vars table k s u touch n in_range fine token is =
    subst (IsNextFine count vars) (sym is) (step_fine count vars table.infixes table.prefixes k in_range.comma in_range.nil in_range.curly in_range.cell s u touch fine token)

pub next_within : (count vars : ℕ) (table : Table) (k : Known) (s : State Part) (u : Token) (touch : Bool) (n : Next Part) → AreWithin count k → IsStateFine count vars s
    → n ≡ walk_step 1000 (table_rules table k) s u touch → NextWithin (state_nodes s + weight u) n
next_within count vars table k s u touch n in_range fine is =
    subst (NextWithin (state_nodes s + weight u)) (sym is) (step_within count vars table.infixes table.prefixes k in_range.comma in_range.nil in_range.curly in_range.cell s u touch fine)

-- a whole clause
pub clause_fit : (count vars before after : ℕ) (p : Part) (t : Tree) → part_tree p ≡ t → IsFine count vars p → part_nodes p + before ≤ after
    → IsClauseFit count before after (record { term = t; vars = vars })
clause_fit count vars before after p t is fine small = record {
  fit = record { below = ap (is_below vars) (sym is) ∙ fine.below; known = ap (is_known count) (sym is) ∙ fine.known };
  small = omega (arith, small, ap nodes is);
}

-- one element more
pub all_push : {X : Type 0} (P : X → Type 0) (xs : List X) (x : X) → AllByRecursion P xs → P x → AllByRecursion P (xs ++ x ∷ [])
all_push P [] x h g = (g, tt)
all_push P (y ∷ ys) x h g = (h.0, all_push P ys x h.1 g)
