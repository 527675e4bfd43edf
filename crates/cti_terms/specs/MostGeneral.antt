-- To believe, for a loop.
-- Most general unifiers.
--
-- A substitution solves equations where it makes both sides of each the same. The bindings that unification finds
-- are such a substitution, and each other one goes through them: to apply it after the bindings is to apply it alone.
-- So unification never fails where some substitution would have served.
--
-- To believe: `Solves`, `IsMostGeneral`.
-- Source: Robinson 1965; the unifier here is idempotent, so the factor is the other substitution itself.
use Rattle.std.specs.Prelude.{◌≡◌, ℕ, List}
use Rattle.std.specs.List.{AllByRecursion}
use Rattle.cti_terms.specs.Tree.{Tree, Variable, instance}
use Rattle.cti_terms.specs.Unify.{Equation, Binding, applied}

-- a substitution makes both sides of each equation the same
abbrev pub Solves : (ℕ → Tree) → List Equation → Type 0
Solves a = AllByRecursion (λ (e : Equation). instance a e.0 ≡ instance a e.1)

-- the bindings solve the equations, and each substitution that does goes through them
pub record IsMostGeneral (es : List Equation) (bs : List Binding) : Type 0 where
  pub solves : Solves (λ x. applied bs (Variable x)) es
  pub general : (a : ℕ → Tree) → Solves a es → (t : Tree) → instance a (applied bs t) ≡ instance a t
