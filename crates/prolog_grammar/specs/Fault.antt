-- To believe, for reading.
-- Where a clause's tokens are not a clause: the first unexpected token, and the first token that is too deep.
--
-- "Some further tokens" are any tokens. Those with which the proofs complete a clause touch one another only as tokens
-- of a text do.
--
-- To believe: all of this file.
use Rattle.std.specs.Prelude.{◌≡◌, ℕ, List, [], ◌∷◌, ◌++◌, length, Some, Result, Bool, true, false}
use Rattle.prolog_grammar.specs.Token.{Token, Name, End, touches}
use Rattle.prolog_grammar.specs.Rules.{Rules}
use Rattle.prolog_grammar.specs.Grammar.{TermOf}
use Rattle.prolog_grammar.specs.Syntax.{Syntax}
use Rattle.prolog_grammar.specs.Depth.{clause_loads, first_deep}

-- the tokens are a term at 1200 and an End
abbrev pub IsClause : {T : Type 0} → Rules T → List Token → Type 0
IsClause {T = T} rules us = (t : T) × (p : ℕ) × TermOf rules us (End ∷ []) 1200 t p

-- some further tokens make them a clause
abbrev pub CanGoOn : {T : Type 0} → Rules T → List Token → Type 0
CanGoOn rules us = (more : List Token) × IsClause rules (us ++ more)

-- with the first of the rest they cannot go on, if there is a first one
abbrev pub CannotGoOn : {T : Type 0} → Rules T → List Token → List Token → Type 0
CannotGoOn rules before [] = Unit {0}
CannotGoOn rules before (token ∷ rest) = CanGoOn rules (before ++ token ∷ []) → ⊥

-- The rest begins at the first token such that nothing completes the tokens up to and with it, or is empty where the
-- tokens end too early.
pub record IsUnexpected {T : Type 0} (rules : Rules T) (us rest : List Token) : Type 0 where
  pub before : List Token
  pub whole : us ≡ before ++ rest
  pub can : CanGoOn rules before
  pub cannot : CannotGoOn rules before rest
  -- no clause stands at the front
  pub unread : (t : T) (p : ℕ) (after : List Token) → TermOf rules us (End ∷ after) 1200 t p → ⊥

-- the token is a name
abbrev pub is_name : Token → Bool
is_name (Name at n) = true
is_name _ = false

-- of what follows a name it counts whether a parenthesis touches the name, and of what follows another token nothing
-- counts
abbrev pub FollowsAlike : Token → List Token → List Token → Type 0
FollowsAlike token us vs = is_name token ≡ true → touches us ≡ touches vs

-- The rest begins at a token that is too deep before all others, however the tokens up to and with it go on; and they
-- can go on. A name keeps the parenthesis that touches it: so a name whose role is open counts only where every
-- continuation makes it too deep.
pub record IsDeep (limit : ℕ) (rules : Rules Syntax) (us rest : List Token) : Type 0 where
  pub before : List Token
  pub token : Token
  pub after : List Token
  pub cuts : rest ≡ token ∷ after
  pub whole : us ≡ before ++ token ∷ after
  pub some : (vs : List Token) × (t : Syntax) × (p : ℕ) × FollowsAlike token vs after × TermOf rules (before ++ token ∷ vs) (End ∷ []) 1200 t p
  pub every : (vs : List Token) (t : Syntax) (p : ℕ)
      → FollowsAlike token vs after → TermOf rules (before ++ token ∷ vs) (End ∷ []) 1200 t p → first_deep limit (clause_loads t) ≡ Some (length before)

-- which fault, and the tokens from the faulty one on
pub data ReadFault : Type 0 where
  unexpected : List Token → ReadFault
  deep : List Token → ReadFault

-- what is read and the tokens after its End, or the fault
abbrev pub Verdict : Type 0 → Type 0
Verdict T = Result (T × List Token) ReadFault
