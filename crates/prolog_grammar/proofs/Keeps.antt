-- What the tokens keep, the term that is read of them keeps: as, that all places stand within a text.
use Rattle.std.proofs.Common.{◌≡◌, ℕ, List, ◌∷◌, Option, Some, None, Bool, true, false, if◌then◌else◌, nat_le, ◌&&◌, ap, subst}
use Rattle.std.specs.List.{AllByRecursion}
use Rattle.prolog_grammar.specs.Token.{Value, integer, Token, Leaf, Joined, Name, Paren, Touching, ParenEnd, Bracket, BracketEnd, Brace, BraceEnd, Comma, Bar, End}
use Rattle.prolog_grammar.specs.Rules.{Infix, plain, brackets, braces, Rules, if_fits, taken_first}
use Rattle.prolog_grammar.specs.Grammar.{Operand, a_leaf, a_joined, a_negative, an_atom, a_prefix_atom, a_prefix, empty_brackets, empty_braces, a_compound, a_brackets_compound, a_braces_compound, a_list, a_curly, a_group, a_touching_group, Arguments, last_argument, next_argument, Items, last_item, with_tail, next_item, TermOf, a_term, Rest, no_more, an_infix}

-- the rules build terms that keep it of tokens and terms that do
pub record Keeps {T : Type 0} (rules : Rules T) (G : Token → Type 0) (P : T → Type 0) : Type 0 where
  pub leaf : (at : ℕ) (v : Value) → G (Leaf at v) → P (rules.leaf at v)
  pub joined : (at i : ℕ) → G (Joined at i) → P (rules.leaf at (integer i))
  pub negative : (at n i : ℕ) → G (Name at n) → P (rules.negative at i)
  pub atom : (at n : ℕ) → G (Name at n) → P (rules.atom (plain at n))
  pub empty_list : (at : ℕ) → G (Bracket at) → P (rules.atom (brackets at))
  pub empty_curly : (at : ℕ) → G (Brace at) → P (rules.atom (braces at))
  pub call : (at n : ℕ) (ts : List T) → G (Name at n) → AllByRecursion P ts → P (rules.call (plain at n) ts)
  pub call_list : (at : ℕ) (ts : List T) → G (Bracket at) → AllByRecursion P ts → P (rules.call (brackets at) ts)
  pub call_curly : (at : ℕ) (ts : List T) → G (Brace at) → AllByRecursion P ts → P (rules.call (braces at) ts)
  pub prefixed : (at n : ℕ) (t : T) → G (Name at n) → P t → P (rules.prefixed at n t)
  pub infixed : (at n : ℕ) (t u : T) → G (Name at n) → P t → P u → P (rules.infixed n t u)
  pub comma : (t u : T) → P t → P u → P (rules.infixed rules.comma t u)
  pub listed : (at : ℕ) (ts : List T) → G (Bracket at) → AllByRecursion P ts → P (rules.listed at ts None)
  pub listed_to : (at : ℕ) (ts : List T) (t : T) → G (Bracket at) → AllByRecursion P ts → P t → P (rules.listed at ts (Some t))
  pub curled : (at : ℕ) (t : T) → G (Brace at) → P t → P (rules.curled at t)
  pub grouped : (at : ℕ) (t : T) → G (Paren at) → P t → P (rules.grouped at t)
  pub grouped_touching : (at : ℕ) (t : T) → G (Touching at) → P t → P (rules.grouped at t)

-- an operator that is taken has the name that was looked up
fits_name : (bound so_far n : ℕ) (o : Option Infix) (op : ℕ × Infix) → if_fits bound so_far n o ≡ Some op → n ≡ op.0
fits_name bound so_far n None op h = cc
fits_name bound so_far n (Some i) op h = by_test (nat_le i.priority bound && nat_le so_far i.left) h
  where
    name_in : Option (ℕ × Infix) → ℕ
    name_in None = n
    name_in (Some q) = q.0

    by_test : (b : Bool) → ◌≡◌ {A = Option (ℕ × Infix)} (if b then Some (n, i) else None) (Some op) → n ≡ op.0
    by_test true e = ap name_in e
    by_test false e = cc

module _ {T : Type 0} (rules : Rules T) (G : Token → Type 0) (P : T → Type 0) (keeps : Keeps rules G P) where
  abbrev All : List Token → Type 0
  All us = AllByRecursion G us

  -- the tail of a list, if there is one
  abbrev pub Tail : Option T → Type 0
  Tail None = Unit {0}
  Tail (Some t) = P t

  by_tail : (at : ℕ) (ts : List T) (tail : Option T) → G (Bracket at) → AllByRecursion P ts → Tail tail → P (rules.listed at ts tail)
  by_tail at ts None g all h = keeps.listed at ts g all
  by_tail at ts (Some t) g all h = keeps.listed_to at ts t g all h

  taken_keeps : (bound so_far : ℕ) (token : Token) (us : List Token) (op : ℕ × Infix) (t u : T) → taken_first rules bound so_far (token ∷ us) ≡ Some op → G token → P t → P u
      → P (rules.infixed op.0 t u)
  taken_keeps bound so_far (Name at n) us op t u h g p q =
      subst (λ (m : ℕ). P (rules.infixed m t u)) (fits_name bound so_far n (rules.infixes n) op h) (keeps.infixed at n t u g p q)
  taken_keeps bound so_far Comma us op t u h g p q = subst (λ (m : ℕ). P (rules.infixed m t u)) (fits_name bound so_far rules.comma (Some (record { priority = 1000; left = 999; right = 1000 })) op h) (keeps.comma t u p q)
  taken_keeps bound so_far (Leaf at v) us op t u h g p q = cc
  taken_keeps bound so_far (Joined at i) us op t u h g p q = cc
  taken_keeps bound so_far (Paren at) us op t u h g p q = cc
  taken_keeps bound so_far (Touching at) us op t u h g p q = cc
  taken_keeps bound so_far ParenEnd us op t u h g p q = cc
  taken_keeps bound so_far (Bracket at) us op t u h g p q = cc
  taken_keeps bound so_far BracketEnd us op t u h g p q = cc
  taken_keeps bound so_far (Brace at) us op t u h g p q = cc
  taken_keeps bound so_far BraceEnd us op t u h g p q = cc
  taken_keeps bound so_far Bar us op t u h g p q = cc
  taken_keeps bound so_far End us op t u h g p q = cc

  mutual
    pub operand_keeps : {us vs : List Token} {bound : ℕ} {t : T} {p : ℕ} → Operand rules us vs bound t p → All us → P t × All vs
    operand_keeps (a_leaf {at = at} {v = v}) g = (keeps.leaf at v g.0, g.1)
    operand_keeps (a_joined {at = at} {i = i}) g = (keeps.joined at i g.0, g.1)
    operand_keeps (a_negative {at = at} {n = n} {at' = at'} {i = i}) g = (keeps.negative at n i g.0, g.1.1)
    operand_keeps (an_atom {at = at} {n = n} h k) g = (keeps.atom at n g.0, g.1)
    operand_keeps (a_prefix_atom {at = at} {n = n} h k) g = (keeps.atom at n g.0, g.1)
    operand_keeps (a_prefix {at = at} {n = n} {t = t} h c e w r) g = let k = term_keeps r g.1 in (keeps.prefixed at n t g.0 k.0, k.1)
    operand_keeps (empty_brackets {at = at} h) g = (keeps.empty_list at g.0, g.1.1)
    operand_keeps (empty_braces {at = at} h) g = (keeps.empty_curly at g.0, g.1.1)
    operand_keeps (a_compound {at = at} {n = n} {ts = ts} r) g = let k = arguments_keep r g.1.1 in (keeps.call at n ts g.0 k.0, k.1)
    operand_keeps (a_brackets_compound {at = at} {ts = ts} r) g = let k = arguments_keep r g.1.1.1 in (keeps.call_list at ts g.0 k.0, k.1)
    operand_keeps (a_braces_compound {at = at} {ts = ts} r) g = let k = arguments_keep r g.1.1.1 in (keeps.call_curly at ts g.0 k.0, k.1)
    operand_keeps (a_list {at = at} {ts = ts} {tail = tail} r) g = let k = items_keep r g.1 in (by_tail at ts tail g.0 k.0 k.1, k.2)
    operand_keeps (a_curly {at = at} {t = t} r) g = let k = term_keeps r g.1 in (keeps.curled at t g.0 k.0, k.1.1)
    operand_keeps (a_group {at = at} {t = t} r) g = let k = term_keeps r g.1 in (keeps.grouped at t g.0 k.0, k.1.1)
    operand_keeps (a_touching_group {at = at} {t = t} r) g = let k = term_keeps r g.1 in (keeps.grouped_touching at t g.0 k.0, k.1.1)

    pub arguments_keep : {us vs : List Token} {ts : List T} → Arguments rules us vs ts → All us → AllByRecursion P ts × All vs
    arguments_keep (last_argument r) g = let k = term_keeps r g in ((k.0, tt), k.1.1)
    arguments_keep (next_argument r more) g = let k = term_keeps r g in let m = arguments_keep more k.1.1 in ((k.0, m.0), m.1)

    pub items_keep : {us vs : List Token} {ts : List T} {tail : Option T} → Items rules us vs ts tail → All us → AllByRecursion P ts × Tail tail × All vs
    items_keep (last_item r) g = let k = term_keeps r g in ((k.0, tt), tt, k.1.1)
    items_keep (with_tail r s) g = let k = term_keeps r g in let m = term_keeps s k.1.1 in ((k.0, tt), m.0, m.1.1)
    items_keep (next_item r more) g = let k = term_keeps r g in let m = items_keep more k.1.1 in ((k.0, m.0), m.1, m.2)

    pub term_keeps : {us vs : List Token} {bound : ℕ} {t : T} {p : ℕ} → TermOf rules us vs bound t p → All us → P t × All vs
    term_keeps (a_term o r) g = let k = operand_keeps o g in rest_keeps r k.0 k.1

    pub rest_keeps : {us vs : List Token} {bound : ℕ} {t : T} {p : ℕ} {t' : T} {p' : ℕ} → Rest rules us vs bound t p t' p' → P t → All us → P t' × All vs
    rest_keeps (no_more h) k g = (k, g)
    rest_keeps (an_infix {token = token} {us = us} {bound = bound} {t = t} {p = p} {op = op} {t' = t'} h r more) k g =
        let right = term_keeps r g.1 in
        rest_keeps more (taken_keeps bound p token us op t t' h g.0 k right.0) right.1
