-- Private.
-- The clauses of one program in another: the same but for the numbers of their predicates.
--
-- Names are the same numbers in both programs, so terms are the same.
use Rattle.std.specs.Prelude.{◌≡◌, ℕ, Bool, true, List, map, filter}
use Rattle.cti_terms.specs.Arithmetic.{kind_of}
use Rattle.cti_terms.specs.Listing.{Listing}
use Rattle.cti_terms.specs.declared.atom_list.Atom.{Atom}
use Rattle.cti_terms.specs.declared.clauses.Clause.{Clause}
use Rattle.linear_rows.specs.Members.{In}

-- with other numbers in the place of the predicates'
abbrev pub renamed_atom : (ℕ → ℕ) → Atom → Atom
renamed_atom f a = record { pred = record { 0 = f a.pred.0 }; args = a.args }

abbrev pub renamed : (ℕ → ℕ) → Clause → Clause
renamed f k = record { head = renamed_atom f k.head; body = map (renamed_atom f) k.body; vars = k.vars }

-- the clauses of some predicates, in order
abbrev pub own_clauses : Listing → (ℕ → Bool) → List Clause
own_clauses p is_member = filter (λ k. is_member k.head.pred.0) p.clauses

-- the predicates of a clause are among these
pub record IsOver (Known : ℕ → Type 0) (k : Clause) : Type 0 where
  pub head : Known k.head.pred.0
  pub body : (b : Atom) → In b k.body → Known b.pred.0

-- these predicates
abbrev pub Those : (ℕ → Bool) → ℕ → Type 0
Those known q = known q ≡ true

-- no two of these predicates get one number
abbrev pub KeepsApart : (ℕ → Type 0) → (ℕ → ℕ) → Type 0
KeepsApart Known f = (q r : ℕ) → Known q → Known r → f q ≡ f r → q ≡ r

-- what these predicates have is what the others have
abbrev pub AgreeOn : {X : Type 0} → (ℕ → Type 0) → (ℕ → ℕ) → (ℕ → X) → (ℕ → X) → Type 0
AgreeOn Known f old new = (q : ℕ) → Known q → new (f q) ≡ old q

-- Some predicates of a program, the members, stand in another one under other numbers: they have the same clauses
-- there, in their order, where the predicates that these name have other numbers.
pub record StandIn (Known : ℕ → Type 0) (f : ℕ → ℕ) (p new : Listing) (is_member is_new_member : ℕ → Bool) : Type 0 where
  pub known : (q : ℕ) → is_member q ≡ true → Known q
  pub apart : KeepsApart Known f
  pub members : AgreeOn Known f is_member is_new_member
  -- a member that is built in is so in both
  pub kinds : AgreeOn (Those is_member) f (kind_of p.arithmetic) (kind_of new.arithmetic)
  -- each new member is one of them
  pub from : (r : ℕ) → is_new_member r ≡ true → (q : ℕ) × Known q × (is_member q ≡ true) × (f q ≡ r)
  pub clauses : own_clauses new is_new_member ≡ map (renamed f) (own_clauses p is_member)
  pub over : (k : Clause) → In k (own_clauses p is_member) → IsOver Known k
