-- What is proved of at most n tokens, and how what is open closes.
use Rattle.std.proofs.Common.{◌≡◌, ℕ, ◌≤◌, ◌<◌, List, [], ◌∷◌, ◌++◌, length, Option, Some, None, Ok, refl, sym, ◌∙◌, inl, inr, ◌⊎◌}
use Rattle.prolog_grammar.specs.Token.{Token, ParenEnd, BracketEnd, BraceEnd, Comma, Bar}
use Rattle.prolog_grammar.specs.Rules.{Head, Rules, taken_first}
use Rattle.prolog_grammar.specs.Grammar.{Operand, Arguments, Items, TermOf, Rest}
use Rattle.prolog_grammar.specs.Machine.{Open, group_open, curly_open, arguments_open, items_open, tail_open, Frame, open_frame, want, have, ends, ended, moved, go}
use Rattle.prolog_grammar.proofs.Moves.{no_end, go-open}

-- An operand, a term and so on is read, and from there the machine ends with r.
pub record Operates {T : Type 0} (rules : Rules T) (k : List (Frame T)) (r : T × List Token) (us : List Token) (bound : ℕ) : Type 0 where
  pub t : T
  pub p : ℕ
  pub vs : List Token
  pub reads : Operand rules us vs bound t p
  pub goes : go rules (have bound t p k) vs ≡ Ok r
  pub shorter : length vs < length us

pub record Terms {T : Type 0} (rules : Rules T) (k : List (Frame T)) (r : T × List Token) (us : List Token) (bound : ℕ) : Type 0 where
  pub t : T
  pub p : ℕ
  pub vs : List Token
  pub reads : TermOf rules us vs bound t p
  pub goes : go rules (have bound t p k) vs ≡ Ok r
  pub ends : taken_first rules bound p vs ≡ None
  pub shorter : length vs < length us

pub record Rests {T : Type 0} (rules : Rules T) (k : List (Frame T)) (r : T × List Token) (us : List Token) (bound : ℕ) (t : T) (p : ℕ) : Type 0 where
  pub t' : T
  pub p' : ℕ
  pub vs : List Token
  pub reads : Rest rules us vs bound t p t' p'
  pub goes : go rules (have bound t' p' k) vs ≡ Ok r
  pub ends : taken_first rules bound p' vs ≡ None
  pub shorter : length vs ≤ length us

pub record Argues {T : Type 0} (rules : Rules T) (k : List (Frame T)) (r : T × List Token) (us : List Token) (bound : ℕ) (head : Head) (before : List T) : Type 0 where
  pub ts : List T
  pub vs : List Token
  pub reads : Arguments rules us vs ts
  pub goes : go rules (have bound (rules.call head (before ++ ts)) 0 k) vs ≡ Ok r
  pub shorter : length vs < length us

pub record Lists {T : Type 0} (rules : Rules T) (k : List (Frame T)) (r : T × List Token) (us : List Token) (bound at : ℕ) (before : List T) : Type 0 where
  pub ts : List T
  pub tail : Option T
  pub vs : List Token
  pub reads : Items rules us vs ts tail
  pub goes : go rules (have bound (rules.listed at (before ++ ts) tail) 0 k) vs ≡ Ok r
  pub shorter : length vs < length us

-- what is proved of at most n tokens
pub record Sound {T : Type 0} (rules : Rules T) (n : ℕ) : Type 0 where
  pub terms : (us : List Token) (k : List (Frame T)) (r : T × List Token) (bound : ℕ) → length us ≤ n → go rules (want bound k) us ≡ Ok r
      → Terms rules k r us bound
  pub rests : (us : List Token) (k : List (Frame T)) (r : T × List Token) (bound : ℕ) (t : T) (p : ℕ) → length us ≤ n
      → go rules (have bound t p k) us ≡ Ok r → Rests rules k r us bound t p
  pub args : (us : List Token) (k : List (Frame T)) (r : T × List Token) (bound : ℕ) (head : Head) (before : List T) → length us ≤ n
      → go rules (want 999 (open_frame bound (arguments_open head before) ∷ k)) us ≡ Ok r → Argues rules k r us bound head before
  pub items : (us : List Token) (k : List (Frame T)) (r : T × List Token) (bound at : ℕ) (before : List T) → length us ≤ n
      → go rules (want 999 (open_frame bound (items_open at before) ∷ k)) us ≡ Ok r → Lists rules k r us bound at before

-- the token after a term that is at its end, where the machine goes on
pub closes : {T : Type 0} (rules : Rules T) (k : List (Frame T)) (r : T × List Token) (b : ℕ) (o : Open T) (bound : ℕ) (t : T) (p : ℕ)
    (vs : List Token)
    → taken_first rules bound p vs ≡ None
    → go rules (have bound t p (open_frame b o ∷ k)) vs ≡ Ok r
    → (token : Token) × (ws : List Token) × (vs ≡ token ∷ ws) × (moved (ended b k (ends rules o t token)) (λ s. go rules s ws) (token ∷ ws) ws ≡ Ok r)
closes rules k r b o bound t p [] e h = absurd (no_end rules (have bound t p (open_frame b o ∷ k)) r h)
closes rules k r b o bound t p (token ∷ vs) e h = (token, vs, refl, sym (go-open rules k b o bound t p token vs e) ∙ h)

pub group_closes : {T : Type 0} (rules : Rules T) (k : List (Frame T)) (r : T × List Token) (b at : ℕ) (t : T) (token : Token) (ws : List Token)
    → moved (ended b k (ends rules (group_open at) t token)) (λ s. go rules s ws) (token ∷ ws) ws ≡ Ok r
    → (token ≡ ParenEnd) × (go rules (have b (rules.grouped at t) 0 k) ws ≡ Ok r)
group_closes rules k r b at t ParenEnd ws h = (refl, h)
group_closes rules k r b at t _ ws h = cc

pub curly_closes : {T : Type 0} (rules : Rules T) (k : List (Frame T)) (r : T × List Token) (b at : ℕ) (t : T) (token : Token) (ws : List Token)
    → moved (ended b k (ends rules (curly_open at) t token)) (λ s. go rules s ws) (token ∷ ws) ws ≡ Ok r
    → (token ≡ BraceEnd) × (go rules (have b (rules.curled at t) 0 k) ws ≡ Ok r)
curly_closes rules k r b at t BraceEnd ws h = (refl, h)
curly_closes rules k r b at t _ ws h = cc

pub tail_closes : {T : Type 0} (rules : Rules T) (k : List (Frame T)) (r : T × List Token) (b at : ℕ) (ts : List T) (t : T) (token : Token)
    (ws : List Token)
    → moved (ended b k (ends rules (tail_open at ts) t token)) (λ s. go rules s ws) (token ∷ ws) ws ≡ Ok r
    → (token ≡ BracketEnd) × (go rules (have b (rules.listed at ts (Some t)) 0 k) ws ≡ Ok r)
tail_closes rules k r b at ts t BracketEnd ws h = (refl, h)
tail_closes rules k r b at ts t _ ws h = cc

pub args_close : {T : Type 0} (rules : Rules T) (k : List (Frame T)) (r : T × List Token) (b : ℕ) (head : Head) (ts : List T) (t : T) (token : Token)
    (ws : List Token)
    → moved (ended b k (ends rules (arguments_open head ts) t token)) (λ s. go rules s ws) (token ∷ ws) ws ≡ Ok r
    → ((token ≡ ParenEnd) × (go rules (have b (rules.call head (ts ++ t ∷ [])) 0 k) ws ≡ Ok r)) ⊎
    ((token ≡ Comma) × (go rules (want 999 (open_frame b (arguments_open head (ts ++ t ∷ [])) ∷ k)) ws ≡ Ok r))
args_close rules k r b head ts t ParenEnd ws h = inl (refl, h)
args_close rules k r b head ts t Comma ws h = inr (refl, h)
args_close rules k r b head ts t _ ws h = cc

-- the end of a list, a comma or a bar
abbrev pub ItemsClose : {T : Type 0} (rules : Rules T) (k : List (Frame T)) (r : T × List Token) (b at : ℕ) (ts : List T) (token : Token)
    (ws : List Token)
    → Type 0
ItemsClose rules k r b at ts token ws = ((token ≡ BracketEnd) × (go rules (have b (rules.listed at ts None) 0 k) ws ≡ Ok r))
    ⊎ (((token ≡ Comma) × (go rules (want 999 (open_frame b (items_open at ts) ∷ k)) ws ≡ Ok r)) ⊎ ((token ≡ Bar) × (go rules (want 999 (open_frame b (tail_open at ts) ∷ k)) ws ≡ Ok r)))

pub items_close : {T : Type 0} (rules : Rules T) (k : List (Frame T)) (r : T × List Token) (b at : ℕ) (ts : List T) (t : T) (token : Token)
    (ws : List Token)
    → moved (ended b k (ends rules (items_open at ts) t token)) (λ s. go rules s ws) (token ∷ ws) ws ≡ Ok r
    → ItemsClose rules k r b at (ts ++ t ∷ []) token ws
items_close rules k r b at ts t BracketEnd ws h = inl (refl, h)
items_close rules k r b at ts t Comma ws h = inr (inl (refl, h))
items_close rules k r b at ts t Bar ws h = inr (inr (refl, h))
items_close rules k r b at ts t _ ws h = cc
