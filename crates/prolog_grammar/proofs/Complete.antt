-- What the grammar reads, the machine reads.
use Rattle.std.proofs.Common.{◌≡◌, ℕ, List, [], ◌∷◌, ◌++◌, Option, Some, None, Ok, Bool, true, false, ◌&&◌, not, nat_le, inl, inr, refl, ap, sym, ◌∙◌, subst, append_assoc}
use Rattle.std.proofs.lemmas.Bool.{le-leb}
use Rattle.prolog_grammar.specs.Token.{Token, Leaf, Name, Paren, Touching, ParenEnd, Bracket, BracketEnd, Brace, BraceEnd, Comma, Bar, End, touches, clings}
use Rattle.prolog_grammar.specs.Rules.{Prefix, Head, plain, brackets, braces, Rules, taken_first, is_infix_alone, ends_atom}
use Rattle.prolog_grammar.specs.Grammar.{Operand, a_leaf, a_joined, a_negative, an_atom, a_prefix_atom, a_prefix, empty_brackets, empty_braces, a_compound, a_brackets_compound, a_braces_compound, a_list, a_curly, a_group, a_touching_group, Arguments, last_argument, next_argument, Items, last_item, with_tail, next_item, TermOf, a_term, Rest, no_more, an_infix}
use Rattle.prolog_grammar.specs.Machine.{group_open, curly_open, arguments_open, items_open, tail_open, Frame, infix_frame, prefix_frame, open_frame, want, named, titled, bracketed, braced, have, unsure, infix_only, only_infix, step_have, go, start}
use Rattle.prolog_grammar.proofs.Moves.{and_true, go-next, not_fault, no_end, step_have_taken, TakesOrFails, name_cases, go-named, go-titled, go-infix, go-prefix, step_fork, step_name_applies, go-unsure, go-infix_only, touching_is, go-bracketed, go-braced}

not_true : (b : Bool) → not b ≡ true → b ≡ false
not_true true h = cc
not_true false h = refl

-- a prefix operator and an infix operator, where the first is an atom
atom_goes : {T : Type 0} (rules : Rules T) (x : T × List Token) (k : List (Frame T)) (bound at n : ℕ) (op : Prefix) (at' m : ℕ) (us : List Token)
    (can : Bool)
    → rules.prefixes n ≡ Some op
    → is_infix_alone rules m ≡ true → touches us ≡ false → nat_le op.priority bound ≡ can
    → TakesOrFails (step_have rules k bound (rules.atom (plain at n)) 0 (Name at' m))
    → go rules (have bound (rules.atom (plain at n)) 0 k) (Name at' m ∷ us) ≡ Ok x → go rules (named bound at n k) (Name at' m ∷ us) ≡ Ok x
atom_goes rules x k bound at n op at' m us can e alone apart fits (inl fails) h =
    absurd (not_fault rules (have bound (rules.atom (plain at n)) 0 k) (Name at' m) us x fails h)
atom_goes rules x k bound at n op at' m us true e alone apart fits (inr takes) h =
    go-next rules (named bound at n k) (unsure bound at n op at' m k) (Name at' m) us (step_fork rules k bound at n op at' m true e alone fits)
    ∙ go-unsure rules k bound at n op at' m takes.0 takes.1 us apart takes.2
    ∙ sym (go-next rules (have bound (rules.atom (plain at n)) 0 k) (want takes.0 takes.1) (Name at' m) us takes.2) ∙ h
atom_goes rules x k bound at n op at' m us false e alone apart fits (inr takes) h =
    go-next rules (named bound at n k) (infix_only takes.0 takes.1) (Name at' m) us (step_fork rules k bound at n op at' m false e alone fits ∙ ap only_infix takes.2)
    ∙ go-infix_only rules takes.1 takes.0 us apart
    ∙ sym (go-next rules (have bound (rules.atom (plain at n)) 0 k) (want takes.0 takes.1) (Name at' m) us takes.2) ∙ h

-- a prefix operator that is an atom
prefix_atom : {T : Type 0} (rules : Rules T) (x : T × List Token) (k : List (Frame T)) (bound at n : ℕ) (op : Prefix) (us : List Token)
    → rules.prefixes n ≡ Some op → ends_atom rules us ≡ true
    → go rules (have bound (rules.atom (plain at n)) 0 k) us ≡ Ok x → go rules (named bound at n k) us ≡ Ok x
unfolding go
prefix_atom rules x k bound at n op [] e ends h = absurd (no_end rules (have bound (rules.atom (plain at n)) 0 k) x h)
prefix_atom rules x k bound at n op (Name at' m ∷ us) e ends h =
    let parts = and_true (is_infix_alone rules m) (not (touches us)) ends in
    atom_goes rules x k bound at n op at' m us (nat_le op.priority bound) e parts.0 (not_true (touches us) parts.1) refl (name_cases rules k bound (rules.atom (plain at n)) 0 at' m) h
prefix_atom rules x k bound at n op (ParenEnd ∷ us) e ends h = rw e h
prefix_atom rules x k bound at n op (BracketEnd ∷ us) e ends h = rw e h
prefix_atom rules x k bound at n op (BraceEnd ∷ us) e ends h = rw e h
prefix_atom rules x k bound at n op (Comma ∷ us) e ends h = rw e h
prefix_atom rules x k bound at n op (Bar ∷ us) e ends h = rw e h
prefix_atom rules x k bound at n op (End ∷ us) e ends h = rw e h
prefix_atom rules x k bound at n op (_ ∷ us) e ends h = cc

name_applied : {T : Type 0} (rules : Rules T) (x : T × List Token) (k : List (Frame T)) (bound at n : ℕ) (op : Prefix) (at' m : ℕ) (us : List Token)
    (alone : Bool)
    → is_infix_alone rules m ≡ alone
    → rules.prefixes n ≡ Some op → (alone && not (touches us)) ≡ false → nat_le op.priority bound ≡ true
    → go rules (want op.right (prefix_frame bound at n op.priority ∷ k)) (Name at' m ∷ us) ≡ Ok x
    → go rules (named bound at n k) (Name at' m ∷ us) ≡ Ok x
name_applied rules x k bound at n op at' m us false is e ends fits h =
    go-next rules (named bound at n k) (named op.right at' m (prefix_frame bound at n op.priority ∷ k)) (Name at' m) us (step_name_applies rules k bound at n op at' m e is ∙ rw fits refl)
    ∙ sym (go-next rules (want op.right (prefix_frame bound at n op.priority ∷ k)) _ (Name at' m) us refl) ∙ h
name_applied rules x k bound at n op at' m us true is e ends fits h =
    let call = touching_is us (was_true (touches us) ends) in
    let goes = subst (λ xs. go rules (want op.right (prefix_frame bound at n op.priority ∷ k)) (Name at' m ∷ xs) ≡ Ok x) call.2 h in
    let inside = sym (go-next rules (want op.right (prefix_frame bound at n op.priority ∷ k)) _ (Name at' m) (Touching call.0 ∷ call.1) refl ∙ go-next rules (named op.right at' m (prefix_frame bound at n op.priority ∷ k)) _ (Touching call.0) call.1 refl) ∙ goes in
    subst (λ xs. go rules (named bound at n k) (Name at' m ∷ xs) ≡ Ok x) (sym call.2)
    (go-next rules (named bound at n k) (unsure bound at n op at' m k) (Name at' m) (Touching call.0 ∷ call.1) (step_fork rules k bound at n op at' m true e is fits)
    ∙ go-next rules (unsure bound at n op at' m k) (want 999 (open_frame op.right (arguments_open (plain at' m) []) ∷ prefix_frame bound at n op.priority ∷ k)) (Touching call.0) call.1 refl ∙ inside)
  where
    was_true : (b : Bool) → not b ≡ false → b ≡ true
    was_true true e' = refl
    was_true false e' = cc

prefix_applied : {T : Type 0} (rules : Rules T) (x : T × List Token) (k : List (Frame T)) (bound at n : ℕ) (op : Prefix) (us : List Token)
    → rules.prefixes n ≡ Some op → clings us ≡ false
    → ends_atom rules us ≡ false → nat_le op.priority bound ≡ true
    → go rules (want op.right (prefix_frame bound at n op.priority ∷ k)) us ≡ Ok x → go rules (named bound at n k) us ≡ Ok x
unfolding go
prefix_applied rules x k bound at n op [] e apart ends fits h = absurd (no_end rules (want op.right (prefix_frame bound at n op.priority ∷ k)) x h)
prefix_applied rules x k bound at n op (Name at' m ∷ us) e apart ends fits h =
    name_applied rules x k bound at n op at' m us (is_infix_alone rules m) refl e ends fits h
prefix_applied rules x k bound at n op (Leaf at' v ∷ us) e apart ends fits h = rw (e, fits) h
prefix_applied rules x k bound at n op (Paren at' ∷ us) e apart ends fits h = rw (e, fits) h
prefix_applied rules x k bound at n op (Bracket at' ∷ us) e apart ends fits h = rw (e, fits) h
prefix_applied rules x k bound at n op (Brace at' ∷ us) e apart ends fits h = rw (e, fits) h
prefix_applied rules x k bound at n op (_ ∷ us) e apart ends fits h = cc

mutual
  pub complete_operand : {T : Type 0} {rules : Rules T} {us vs : List Token} {bound : ℕ} {t : T} {p : ℕ} → Operand rules us vs bound t p
      → (k : List (Frame T)) (x : T × List Token)
      → go rules (have bound t p k) vs ≡ Ok x → go rules (want bound k) us ≡ Ok x
  complete_operand a_leaf k x h = go-next _ _ _ _ _ refl ∙ h
  complete_operand a_joined k x h = go-next _ _ _ _ _ refl ∙ h
  complete_operand (a_negative {at = at} {n = n} {bound = bound}) k x h = go-next _ _ (named bound at n k) _ _ refl ∙ go-next _ _ _ _ _ refl ∙ h
  complete_operand (an_atom {at = at} {n = n} {rest = rest} {bound = bound} e apart) k x h =
      go-next _ _ _ _ _ refl ∙ go-named _ k bound at n rest e apart ∙ h
  complete_operand (a_prefix_atom {at = at} {n = n} {op = op} {rest = rest} {bound = bound} e ends) k x h =
      go-next _ _ _ _ _ refl ∙ prefix_atom _ x k bound at n op rest e ends h
  complete_operand {rules = rules} (a_prefix {at = at} {n = n} {op = op} {us = us} {rest = rest} {bound = bound} {t = t} {p = p} e apart ends fits term) k x h =
      go-next _ _ _ _ _ refl ∙ prefix_applied rules x k bound at n op us e apart ends (le-leb op.priority bound fits)
      ((complete_term term (prefix_frame bound at n op.priority ∷ k) x).0 (go-prefix rules k bound at n op.priority op.right t p rest (complete_term term (prefix_frame bound at n op.priority ∷ k) x).1 ∙ h))
  complete_operand (empty_brackets {at = at} {rest = rest} {bound = bound} apart) k x h =
      go-next _ _ (bracketed bound at k) _ _ refl ∙ go-next _ _ (titled bound (brackets at) k) _ _ refl ∙ go-titled _ k bound (brackets at) rest apart ∙ h
  complete_operand (empty_braces {at = at} {rest = rest} {bound = bound} apart) k x h =
      go-next _ _ (braced bound at k) _ _ refl ∙ go-next _ _ (titled bound (braces at) k) _ _ refl ∙ go-titled _ k bound (braces at) rest apart ∙ h
  complete_operand (a_compound {at = at} {n = n} {bound = bound} args) k x h =
      go-next _ _ (named bound at n k) _ _ refl ∙ go-next _ _ _ _ _ refl ∙ complete_args args k bound (plain at n) [] x h
  complete_operand (a_brackets_compound {at = at} {bound = bound} args) k x h =
      go-next _ _ (bracketed bound at k) _ _ refl ∙ go-next _ _ (titled bound (brackets at) k) _ _ refl ∙ go-next _ _ _ _ _ refl ∙ complete_args args k bound (brackets at) [] x h
  complete_operand (a_braces_compound {at = at} {bound = bound} args) k x h =
      go-next _ _ (braced bound at k) _ _ refl ∙ go-next _ _ (titled bound (braces at) k) _ _ refl ∙ go-next _ _ _ _ _ refl ∙ complete_args args k bound (braces at) [] x h
  complete_operand {rules = rules} (a_list {at = at} {us = us} {bound = bound} items) k x h =
      go-next _ _ (bracketed bound at k) _ _ refl ∙ go-bracketed rules k bound at us x (complete_items items k bound at [] x h)
  complete_operand {rules = rules} (a_curly {at = at} {us = us} {bound = bound} term) k x h =
      go-next _ _ (braced bound at k) _ _ refl ∙ go-braced rules k bound at us x ((complete_term term (open_frame bound (curly_open at) ∷ k) x).0 (go-next _ _ _ _ _ refl ∙ h))
  complete_operand (a_group {at = at} {bound = bound} term) k x h =
      go-next _ _ _ _ _ refl ∙ (complete_term term (open_frame bound (group_open at) ∷ k) x).0 (go-next _ _ _ _ _ refl ∙ h)
  complete_operand (a_touching_group {at = at} {bound = bound} term) k x h =
      go-next _ _ _ _ _ refl ∙ (complete_term term (open_frame bound (group_open at) ∷ k) x).0 (go-next _ _ _ _ _ refl ∙ h)

  pub complete_args : {T : Type 0} {rules : Rules T} {us vs : List Token} {ts : List T} → Arguments rules us vs ts
      → (k : List (Frame T)) (bound : ℕ) (head : Head) (before : List T) (x : T × List Token)
      → go rules (have bound (rules.call head (before ++ ts)) 0 k) vs ≡ Ok x
      → go rules (want 999 (open_frame bound (arguments_open head before) ∷ k)) us ≡ Ok x
  complete_args (last_argument term) k bound head before x h =
      (complete_term term (open_frame bound (arguments_open head before) ∷ k) x).0 (go-next _ _ _ _ _ refl ∙ h)
  complete_args {rules = rules} (next_argument {rest = rest} {t = t} {ts = ts} term args) k bound head before x h =
      (complete_term term (open_frame bound (arguments_open head before) ∷ k) x).0 (go-next _ _ _ _ _ refl
      ∙ complete_args args k bound head (before ++ t ∷ []) x (ap (λ xs. go rules (have bound (rules.call head xs) 0 k) rest) (append_assoc before (t ∷ []) ts) ∙ h))

  pub complete_items : {T : Type 0} {rules : Rules T} {us vs : List Token} {ts : List T} {tail : Option T} → Items rules us vs ts tail
      → (k : List (Frame T)) (bound at : ℕ) (before : List T) (x : T × List Token)
      → go rules (have bound (rules.listed at (before ++ ts) tail) 0 k) vs ≡ Ok x
      → go rules (want 999 (open_frame bound (items_open at before) ∷ k)) us ≡ Ok x
  complete_items (last_item term) k bound at before x h =
      (complete_term term (open_frame bound (items_open at before) ∷ k) x).0 (go-next _ _ _ _ _ refl ∙ h)
  complete_items (with_tail {t = t} term tail) k bound at before x h =
      (complete_term term (open_frame bound (items_open at before) ∷ k) x).0 (go-next _ _ _ _ _ refl
      ∙ (complete_term tail (open_frame bound (tail_open at (before ++ t ∷ [])) ∷ k) x).0 (go-next _ _ _ _ _ refl ∙ h))
  complete_items {rules = rules} (next_item {rest = rest} {t = t} {ts = ts} {tail = tail} term items) k bound at before x h =
      (complete_term term (open_frame bound (items_open at before) ∷ k) x).0 (go-next _ _ _ _ _ refl
      ∙ complete_items items k bound at (before ++ t ∷ []) x (ap (λ xs. go rules (have bound (rules.listed at xs tail) 0 k) rest) (append_assoc before (t ∷ []) ts) ∙ h))

  pub complete_term : {T : Type 0} {rules : Rules T} {us vs : List Token} {bound : ℕ} {t : T} {p : ℕ} → TermOf rules us vs bound t p
      → (k : List (Frame T)) (x : T × List Token)
      → (go rules (have bound t p k) vs ≡ Ok x → go rules (want bound k) us ≡ Ok x) × (taken_first rules bound p vs ≡ None)
  complete_term (a_term operand rest) k x = (λ h. complete_operand operand k x ((complete_rest rest k x).0 h), (complete_rest rest k x).1)

  pub complete_rest : {T : Type 0} {rules : Rules T} {us vs : List Token} {bound : ℕ} {t : T} {p : ℕ} {t' : T} {p' : ℕ}
      → Rest rules us vs bound t p t' p' → (k : List (Frame T)) (x : T × List Token)
      → (go rules (have bound t' p' k) vs ≡ Ok x → go rules (have bound t p k) us ≡ Ok x) × (taken_first rules bound p' vs ≡ None)
  complete_rest (no_more h) k x = (λ g. g, h)
  complete_rest {rules = rules} (an_infix {token = token} {bound = bound} {t = t} {p = p} {op = op} {t' = t'} {q = q} e term rest) k x = (
    λ h. go-next _ _ _ _ _ (step_have_taken rules k bound t p token op e) ∙ (complete_term term (infix_frame bound op.0 op.1.priority t ∷ k) x).0
        (go-infix rules k bound op.0 op.1.priority t op.1.right t' q _ (complete_term term (infix_frame bound op.0 op.1.priority t ∷ k) x).1 ∙ (complete_rest rest k x).0 h),
    (complete_rest rest k x).1,
  )

last_move : {T : Type 0} (rules : Rules T) (t : T) (p : ℕ) (rest : List Token) → go rules (have 1200 t p []) (End ∷ rest) ≡ Ok (t, rest)
unfolding go
last_move rules t p rest = refl

-- a reading of the whole is found
pub complete : {T : Type 0} {rules : Rules T} {us rest : List Token} {t : T} {p : ℕ} → TermOf rules us (End ∷ rest) 1200 t p
    → go rules start us ≡ Ok (t, rest)
complete {rules = rules} {rest = rest} {t = t} {p = p} term = (complete_term term [] (t, rest)).0 (last_move rules t p rest)
