-- Private.
-- To believe, for modes over stated facts.
-- Linking: claims of a program that takes facts of another's predicates, and the claims of that one, together.
--
-- The upper program p calls the lower predicates, and has no clauses of them. The lower program q has clauses of lower
-- predicates alone, and calls those alone. Both have the same table of predicates. A predicate that is open in both is
-- a lower one, as is a built-in one that both call.
--
-- To believe: `joined`, `linked_facts`, `Links`; `linked` where the modes of the whole are wanted.
use Rattle.std.specs.Prelude.{◌≡◌, ℕ, ◌+◌, ◌-◌, ◌<◌, nat_lt, Bool, true, false, if◌then◌else◌, List, ◌++◌, length}
use Rattle.std.specs.List.{AllByRecursion}
use Rattle.cti_terms.specs.declared.atom_list.Atom.{Atom}
use Rattle.cti_terms.specs.declared.clauses.Clause.{Clause}
use Rattle.cti_terms.specs.declared.predicates.Pred.{Pred}
use Rattle.cti_terms.specs.Derive.{Bounded, query}
use Rattle.cti_terms.specs.Listing.{Listing, IsProgram}
use Rattle.cti_terms.specs.Worlds.{World, BoundedIn}
use Rattle.termination_model.specs.grounds.Grounds.{HasArity, truth_row}
use Rattle.termination_model.specs.claims.Claims.{Measure, Claims, Admits, Shows}
use Rattle.termination_model.specs.claims.Descent.{mode_row}
use Rattle.termination_model.specs.claims.StatedFacts.{Stated, Agrees, AllowsCalls, Takes}

-- the clauses of both programs
abbrev pub joined : Listing → Listing → Listing
joined p q = record { preds = p.preds; clauses = p.clauses ++ q.clauses; arithmetic = p.arithmetic }

module _ (is_lower : ℕ → Bool) where
  -- the claims c of lower predicates, and d of the others, whose ranks begin at top
  abbrev pub linked : ℕ → Claims → Claims → Claims
  linked top c d = record {
    size = c.size;
    truth = c.truth;
    expression = c.expression;
    rank = λ i. if is_lower i then c.rank i else top + d.rank i;
    rows = λ i. if is_lower i then c.rows i else d.rows i;
    grounds = λ i. if is_lower i then c.grounds i else d.grounds i;
    measures = λ r. if nat_lt r top then c.measures r else d.measures (r - top);
  }

  -- what stays open: the lower predicates that are open in f, and the others that are open in g
  abbrev pub linked_facts : Stated → Stated → Stated
  linked_facts f g = record {
    is_open = λ i. if is_lower i then f.is_open i else g.is_open i;
    rows = λ i. if is_lower i then f.rows i else g.rows i;
    grounds = λ i. if is_lower i then f.grounds i else g.grounds i;
    modes = λ i. if is_lower i then f.modes i else g.modes i;
  }

  -- the claims d take the claims c of lower predicates, and admit of these only what c admits
  pub record Extends (preds : List Pred) (c d : Claims) : Type 0 where
    pub size : d.size ≡ c.size
    pub truth : d.truth ≡ c.truth
    pub expression : d.expression ≡ c.expression
    pub rows : (i : ℕ) → is_lower i ≡ true → d.rows i ≡ c.rows i
    pub grounds : (i : ℕ) → is_lower i ≡ true → d.grounds i ≡ c.grounds i
    pub admits : (r : ℕ) → AllByRecursion (λ (m : Measure). (i : ℕ) (bs : List Bool) → d.rank i ≡ r → is_lower i ≡ true → HasArity preds i (length bs)
        → m.pre i bs ≡ true → Admits c i bs) (d.measures r)

  -- what is stated of lower predicates that are open is what c claims of them
  pub record Gives (preds : List Pred) (c : Claims) (g : Stated) : Type 0 where
    pub rows : (i : ℕ) → is_lower i ≡ true → g.is_open i ≡ true → g.rows i ≡ c.rows i
    pub grounds : (i : ℕ) → is_lower i ≡ true → g.is_open i ≡ true → g.grounds i ≡ c.grounds i
    pub modes : (i : ℕ) → is_lower i ≡ true → g.is_open i ≡ true
        → AllByRecursion (λ (mode : List ℕ). (n : ℕ) → HasArity preds i n → Admits c i (mode_row mode 1 n)) (g.modes i)

  -- of lower predicates that are not open, as built-in ones, both claim the same, and c admits each row
  pub record Shares (preds : List Pred) (c d : Claims) (g : Stated) : Type 0 where
    pub rows : (i : ℕ) → is_lower i ≡ true → g.is_open i ≡ false → d.rows i ≡ c.rows i
    pub grounds : (i : ℕ) → is_lower i ≡ true → g.is_open i ≡ false → d.grounds i ≡ c.grounds i
    pub admits : (i : ℕ) → is_lower i ≡ true → g.is_open i ≡ false → (bs : List Bool) → HasArity preds i (length bs) → Admits c i bs

  -- a clause of a predicate that is not a lower one
  abbrev pub IsUpperClause : Clause → Type 0
  IsUpperClause k = is_lower k.head.pred.0 ≡ false

  -- a clause of lower predicates alone
  abbrev pub IsLowerClause : Clause → Type 0
  IsLowerClause k = (is_lower k.head.pred.0 ≡ true) × AllByRecursion (λ (b : Atom). is_lower b.pred.0 ≡ true) k.body

  pub record Links (p q : Listing) (c d : Claims) (top : ℕ) : Type 0 where
    pub upper : AllByRecursion IsUpperClause p.clauses
    pub lower : AllByRecursion IsLowerClause q.clauses
    pub extends : Extends p.preds c d
    pub ranks : (i : ℕ) → is_lower i ≡ true → c.rank i < top

-- claims over facts that are another program's claims take these
abbrev pub FactsExtend : Type 0
FactsExtend = (is_lower : ℕ → Bool) (preds : List Pred) (c d : Claims) (g : Stated) → d.size ≡ c.size → d.truth ≡ c.truth → d.expression ≡ c.expression
    → Takes d g → Gives is_lower preds c g → Shares is_lower preds c d g → Extends is_lower preds c d

-- claims that link show for the clauses of both programs, and take what stays open
abbrev pub ClaimsLink : Type 0
ClaimsLink = (is_lower : ℕ → Bool) (p q : Listing) (c d : Claims) (top : ℕ) → IsProgram p → Links is_lower p q c d top → Shows q c → Shows p d
    → Shows (joined p q) (linked is_lower top c d)

abbrev pub FactsLink : Type 0
FactsLink = (is_lower : ℕ → Bool) (p q : Listing) (c d : Claims) (f g : Stated) (top : ℕ) → Links is_lower p q c d top → Takes c f → Takes d g
    → Takes (linked is_lower top c d) (linked_facts is_lower f g)

-- what either program's claims admit, those of both admit
abbrev pub AdmitsLink : Type 0
AdmitsLink = (is_lower : ℕ → Bool) (p q : Listing) (c d : Claims) (top : ℕ) → Links is_lower p q c d top → (i : ℕ) (bs : List Bool)
    → Admits (if is_lower i then c else d) i bs → Admits (linked is_lower top c d) i bs

-- so queries of both programs end, in each world that agrees with what stays open
abbrev pub LinkedRowsEnd : Type 0
LinkedRowsEnd = (is_lower : ℕ → Bool) (p q : Listing) (c d : Claims) (f g : Stated) (top : ℕ) (w : World) → IsProgram p → IsProgram (joined p q)
    → Links is_lower p q c d top → Shows q c → Shows p d → Takes c f → Takes d g → Agrees c.size c.truth (linked_facts is_lower f g) p.preds w
    → (a : Atom) (n : ℕ) → HasArity p.preds a.pred.0 (length a.args) → Admits (if is_lower a.pred.0 then c else d) a.pred.0 (truth_row c.truth (λ _. false) a)
    → BoundedIn (joined p q) (linked_facts is_lower f g).is_open w (query a n) × AllowsCalls c.size c.truth (linked_facts is_lower f g) (joined p q) w (query a n)

-- and where nothing stays open, they are bounded
abbrev pub LinkedQueriesEnd : Type 0
LinkedQueriesEnd = (is_lower : ℕ → Bool) (p q : Listing) (c d : Claims) (f g : Stated) (top : ℕ) → IsProgram p → IsProgram (joined p q)
    → Links is_lower p q c d top → Shows q c → Shows p d → Takes c f → Takes d g → ((i : ℕ) → (linked_facts is_lower f g).is_open i ≡ false)
    → (a : Atom) (n : ℕ) → HasArity p.preds a.pred.0 (length a.args) → Admits (if is_lower a.pred.0 then c else d) a.pred.0 (truth_row c.truth (λ _. false) a)
    → Bounded (joined p q) (query a n)
