-- The definitions at a small program: r :- p, q.   p :- p.   q.
use Rattle.std.proofs.Common.{◌≡◌, ℕ, List, [], ◌∷◌, map, refl, arith}
use Rattle.cti_terms.specs.declared.atom_list.Atom.{Atom}
use Rattle.cti_terms.specs.declared.clauses.Clause.{Clause}
use Rattle.cti_terms.specs.Arithmetic.{no_arithmetic}
use Rattle.cti_terms.specs.Listing.{Listing}
use Rattle.call_components.specs.Calls.{Calls}
use Rattle.call_components.specs.Table.{callees, Has}
use Rattle.call_components.proofs.Tables.{callees_have}

abbrev call : ℕ → Atom
call p = record { pred = record { 0 = p }; args = [] }

abbrev rule : ℕ → List ℕ → Clause
rule p body = record { head = call p; body = map call body; vars = 0 }

-- r is 0, p is 1 and q is 2
abbrev example : Listing
example = record { preds = []; clauses = rule 0 (1 ∷ 2 ∷ []) ∷ (rule 1 (1 ∷ []) ∷ (rule 2 [] ∷ [])); arithmetic = no_arithmetic }

callees_of_r : callees 0 example.clauses ≡ 1 ∷ 2 ∷ []
callees_of_r = refl

p_calls_itself : Calls example 1 1
p_calls_itself = (1, rule 1 (1 ∷ []), omega arith, refl, (refl, (0, call 1, omega arith, refl, refl)))

-- q calls nothing
q_calls_nothing : (b : ℕ) → Calls example 2 b → ⊥
q_calls_nothing b h = none (callees_have 2 b example.clauses h)
  where
    none : Has [] b → ⊥
    none (k, e) = cc

-- r calls p, which calls itself
r_calls_p : Calls example 0 1
r_calls_p = (0, rule 0 (1 ∷ 2 ∷ []), omega arith, refl, (refl, (0, call 1, omega arith, refl, refl)))
