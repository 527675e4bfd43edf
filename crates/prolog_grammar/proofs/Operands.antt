-- The operands that the machine reads, the grammar reads, where the terms in them have at most n tokens.
use Rattle.std.proofs.Common.{◌≡◌, ℕ, suc, ◌≤◌, ◌<◌, List, [], ◌∷◌, length, Option, Some, None, Ok, Bool, true, false, nat_le, refl, ap, sym, ◌∙◌, arith, subst, inl, inr}
use Rattle.std.proofs.lemmas.Bool.{leb-true}
use Rattle.prolog_grammar.specs.Token.{integer, Token, Leaf, Joined, Name, Paren, Touching, ParenEnd, Bracket, BracketEnd, Brace, BraceEnd, Comma, Bar, End, touches, clings}
use Rattle.prolog_grammar.specs.Rules.{Prefix, Head, plain, brackets, braces, Rules, is_infix_alone, ends_atom}
use Rattle.prolog_grammar.specs.Grammar.{Operand, a_leaf, a_joined, a_negative, an_atom, a_prefix_atom, a_prefix, empty_brackets, empty_braces, a_compound, a_brackets_compound, a_braces_compound, a_list, a_curly, a_group, a_touching_group, Arguments, TermOf}
use Rattle.prolog_grammar.specs.Machine.{group_open, curly_open, arguments_open, items_open, Frame, prefix_frame, open_frame, want, named, titled, bracketed, braced, have, unsure, infix_only, ends, apply, only_infix, step, step_have, moved, go}
use Rattle.prolog_grammar.proofs.Moves.{TakesOrFails, name_cases, go_step, go-next, not_fault, no_end, go-named, go-titled, go-prefix, step_fork, step_name_applies, go-unsure, go-infix_only, no_infix_touching, no_call_apart, touching_is}
use Rattle.prolog_grammar.proofs.SoundClaims.{Operates, Sound, closes, group_closes, curly_closes}

module _ {T : Type 0} (rules : Rules T) (n : ℕ) (below : Sound rules n) where
  group_operates : (us : List Token) (k : List (Frame T)) (r : T × List Token) (bound at : ℕ) (first : Token)
      →
      ((rest : List Token) (t : T) (p : ℕ) → TermOf rules us (ParenEnd ∷ rest) 1200 t p → Operand rules (first ∷ us) rest bound (rules.grouped at t) 0)
      → length us ≤ n → go rules (want 1200 (open_frame bound (group_open at) ∷ k)) us ≡ Ok r → Operates rules k r (first ∷ us) bound
  group_operates us k r bound at first makes small h =
      let inner = below.terms us (open_frame bound (group_open at) ∷ k) r 1200 small h in
      let found = closes rules k r bound (group_open at) 1200 inner.t inner.p inner.vs inner.ends inner.goes in
      let close = group_closes rules k r bound at inner.t found.0 found.1 found.3 in
      let after = found.2 ∙ ap (λ x. x ∷ found.1) close.0 in
      record {
        t = rules.grouped at inner.t;
        p = 0;
        vs = found.1;
        reads = makes found.1 inner.t inner.p (subst (λ xs. TermOf rules us xs 1200 inner.t inner.p) after inner.reads);
        goes = close.1;
        shorter = omega (arith, inner.shorter, ap length after);
      }

  curly_operates : (us : List Token) (k : List (Frame T)) (r : T × List Token) (bound at : ℕ) → length us ≤ n
      → go rules (want 1200 (open_frame bound (curly_open at) ∷ k)) us ≡ Ok r → Operates rules k r (Brace at ∷ us) bound
  curly_operates us k r bound at small h =
      let inner = below.terms us (open_frame bound (curly_open at) ∷ k) r 1200 small h in
      let found = closes rules k r bound (curly_open at) 1200 inner.t inner.p inner.vs inner.ends inner.goes in
      let close = curly_closes rules k r bound at inner.t found.0 found.1 found.3 in
      let after = found.2 ∙ ap (λ x. x ∷ found.1) close.0 in
      record {
        t = rules.curled at inner.t;
        p = 0;
        vs = found.1;
        reads = a_curly (subst (λ xs. TermOf rules us xs 1200 inner.t inner.p) after inner.reads);
        goes = close.1;
        shorter = omega (arith, inner.shorter, ap length after);
      }

  list_operates : (us : List Token) (k : List (Frame T)) (r : T × List Token) (bound at : ℕ) → length us ≤ n
      → go rules (want 999 (open_frame bound (items_open at []) ∷ k)) us ≡ Ok r → Operates rules k r (Bracket at ∷ us) bound
  list_operates us k r bound at small h =
      let inner = below.items us k r bound at [] small h in
      record { t = rules.listed at inner.ts inner.tail; p = 0; vs = inner.vs; reads = a_list inner.reads; goes = inner.goes; shorter = omega (arith, inner.shorter) }

  compound_operates : (first us : List Token) (k : List (Frame T)) (r : T × List Token) (bound : ℕ) (head : Head) → length us ≤ n
      → length us < length first
      → ((rest : List Token) (ts : List T) → Arguments rules us rest ts → Operand rules first rest bound (rules.call head ts) 0)
      → go rules (want 999 (open_frame bound (arguments_open head []) ∷ k)) us ≡ Ok r → Operates rules k r first bound
  compound_operates first us k r bound head small less makes h =
      let inner = below.args us k r bound head [] small h in
      record { t = rules.call head inner.ts; p = 0; vs = inner.vs; reads = makes inner.vs inner.ts inner.reads; goes = inner.goes; shorter = omega (arith, inner.shorter, less) }

  atom_operates : (us : List Token) (k : List (Frame T)) (r : T × List Token) (bound at m : ℕ) → rules.prefixes m ≡ None → clings us ≡ false
      → go rules (named bound at m k) us ≡ Ok r → Operates rules k r (Name at m ∷ us) bound
  atom_operates us k r bound at m e apart h =
      record { t = rules.atom (plain at m); p = 0; vs = us; reads = an_atom e apart; goes = sym (go-named rules k bound at m us e apart) ∙ h; shorter = omega arith }

  prefix_atom_operates : (us : List Token) (k : List (Frame T)) (r : T × List Token) (bound at m : ℕ) (op : Prefix) → rules.prefixes m ≡ Some op
      → ends_atom rules us ≡ true
      → go rules (have bound (rules.atom (plain at m)) 0 k) us ≡ Ok r → Operates rules k r (Name at m ∷ us) bound
  prefix_atom_operates us k r bound at m op e ends h =
      record { t = rules.atom (plain at m); p = 0; vs = us; reads = a_prefix_atom e ends; goes = h; shorter = omega arith }

  prefix_operates : (us : List Token) (k : List (Frame T)) (r : T × List Token) (bound at m : ℕ) (op : Prefix) → length us ≤ n
      → rules.prefixes m ≡ Some op → clings us ≡ false
      → ends_atom rules us ≡ false → nat_le op.priority bound ≡ true
      → go rules (want op.right (prefix_frame bound at m op.priority ∷ k)) us ≡ Ok r → Operates rules k r (Name at m ∷ us) bound
  prefix_operates us k r bound at m op small e apart ends fits h =
      let inner = below.terms us (prefix_frame bound at m op.priority ∷ k) r op.right small h in
      record {
        t = rules.prefixed at m inner.t;
        p = op.priority;
        vs = inner.vs;
        reads = a_prefix {op = op} e apart ends (leb-true op.priority bound fits) inner.reads;
        goes = sym (go-prefix rules k bound at m op.priority op.right inner.t inner.p inner.vs inner.ends) ∙ inner.goes;
        shorter = omega (arith, inner.shorter);
      }

  -- a prefix operator, and a token that it is applied to
  applies : (token : Token) (us : List Token) (k : List (Frame T)) (r : T × List Token) (bound at m : ℕ) (op : Prefix) (can : Bool)
      → length (token ∷ us) ≤ n → rules.prefixes m ≡ Some op
      → clings (token ∷ us) ≡ false → ends_atom rules (token ∷ us) ≡ false → step rules (named bound at m k) token ≡ apply rules bound at m op k token
      → nat_le op.priority bound ≡ can
      → go rules (named bound at m k) (token ∷ us) ≡ Ok r → Operates rules k r (Name at m ∷ token ∷ us) bound
  applies token us k r bound at m op false small e apart ends moves fits h =
      absurd (not_fault rules (named bound at m k) token us r (moves ∙ rw fits refl) h)
  applies token us k r bound at m op true small e apart ends moves fits h =
      prefix_operates (token ∷ us) k r bound at m op small e apart ends fits
      (go_step rules (want op.right (prefix_frame bound at m op.priority ∷ k)) token us
      ∙ ap (λ v. moved v (λ s'. go rules s' us) (token ∷ us) us) (sym (moves ∙ rw fits refl))
      ∙ sym (go_step rules (named bound at m k) token us) ∙ h)

  -- a prefix operator, and a name that is an infix operator alone
  forks : (at' l : ℕ) (us : List Token) (k : List (Frame T)) (r : T × List Token) (bound at m : ℕ) (op : Prefix) (can touch : Bool)
      → length (Name at' l ∷ us) ≤ n → rules.prefixes m ≡ Some op
      → is_infix_alone rules l ≡ true → TakesOrFails (step_have rules k bound (rules.atom (plain at m)) 0 (Name at' l))
      → nat_le op.priority bound ≡ can → touches us ≡ touch
      → go rules (named bound at m k) (Name at' l ∷ us) ≡ Ok r → Operates rules k r (Name at m ∷ Name at' l ∷ us) bound
  forks at' l us k r bound at m op false touch small e alone (inl fails) fits touching h =
      absurd (not_fault rules (named bound at m k) (Name at' l) us r (step_fork rules k bound at m op at' l false e alone fits ∙ ap only_infix fails) h)
  forks at' l us k r bound at m op false true small e alone (inr takes) fits touching h =
      absurd (no_infix_touching rules takes.1 takes.0 us r touching
      (sym (go-next rules (named bound at m k) (infix_only takes.0 takes.1) (Name at' l) us (step_fork rules k bound at m op at' l false e alone fits ∙ ap only_infix takes.2)) ∙ h))
  forks at' l us k r bound at m op false false small e alone (inr takes) fits touching h =
      prefix_atom_operates (Name at' l ∷ us) k r bound at m op e (rw (alone, touching) refl)
      (go-next rules (have bound (rules.atom (plain at m)) 0 k) (want takes.0 takes.1) (Name at' l) us takes.2
      ∙ sym (go-infix_only rules takes.1 takes.0 us touching)
      ∙ sym (go-next rules (named bound at m k) (infix_only takes.0 takes.1) (Name at' l) us (step_fork rules k bound at m op at' l false e alone fits ∙ ap only_infix takes.2)) ∙ h)
  forks at' l us k r bound at m op true false small e alone (inl fails) fits touching h =
      absurd (no_call_apart rules k bound at m op at' l us r touching fails (sym (go-next rules (named bound at m k) (unsure bound at m op at' l k) (Name at' l) us (step_fork rules k bound at m op at' l true e alone fits)) ∙ h))
  forks at' l us k r bound at m op true false small e alone (inr takes) fits touching h =
      prefix_atom_operates (Name at' l ∷ us) k r bound at m op e (rw (alone, touching) refl)
      (go-next rules (have bound (rules.atom (plain at m)) 0 k) (want takes.0 takes.1) (Name at' l) us takes.2
      ∙ sym (go-unsure rules k bound at m op at' l takes.0 takes.1 us touching takes.2)
      ∙ sym (go-next rules (named bound at m k) (unsure bound at m op at' l k) (Name at' l) us (step_fork rules k bound at m op at' l true e alone fits)) ∙ h)
  forks at' l us k r bound at m op true true small e alone cases fits touching h =
      let call = touching_is us touching in
      let goes = subst (λ xs. go rules (named bound at m k) (Name at' l ∷ xs) ≡ Ok r) call.2 h in
      let inner = sym (go-next rules (named bound at m k) (unsure bound at m op at' l k) (Name at' l) (Touching call.0 ∷ call.1) (step_fork rules k bound at m op at' l true e alone fits)
      ∙ go-next rules (unsure bound at m op at' l k) (want 999 (open_frame op.right (arguments_open (plain at' l) []) ∷ prefix_frame bound at m op.priority ∷ k)) (Touching call.0) call.1 refl) ∙ goes in
      prefix_operates (Name at' l ∷ us) k r bound at m op small e refl (rw (alone, touching) refl) fits
      (subst (λ xs. go rules (want op.right (prefix_frame bound at m op.priority ∷ k)) (Name at' l ∷ xs) ≡ Ok r) (sym call.2)
      (go-next rules (want op.right (prefix_frame bound at m op.priority ∷ k)) (named op.right at' l (prefix_frame bound at m op.priority ∷ k)) (Name at' l) (Touching call.0 ∷ call.1) refl
      ∙ go-next rules (named op.right at' l (prefix_frame bound at m op.priority ∷ k)) _ (Touching call.0) call.1 refl ∙ inner))

  prefix_name : (at' l : ℕ) (us : List Token) (k : List (Frame T)) (r : T × List Token) (bound at m : ℕ) (op : Prefix) (alone : Bool)
      → length (Name at' l ∷ us) ≤ n → rules.prefixes m ≡ Some op
      → is_infix_alone rules l ≡ alone → go rules (named bound at m k) (Name at' l ∷ us) ≡ Ok r
      → Operates rules k r (Name at m ∷ Name at' l ∷ us) bound
  prefix_name at' l us k r bound at m op false small e alone h =
      applies (Name at' l) us k r bound at m op (nat_le op.priority bound) small e refl (rw alone refl) (step_name_applies rules k bound at m op at' l e alone) refl h
  prefix_name at' l us k r bound at m op true small e alone h =
      forks at' l us k r bound at m op (nat_le op.priority bound) (touches us) small e alone (name_cases rules k bound (rules.atom (plain at m)) 0 at' l) refl refl h

  -- a name that a parenthesis or an integer clings to
  call_named : (at' : ℕ) (us : List Token) (k : List (Frame T)) (r : T × List Token) (bound at m : ℕ) → length (Touching at' ∷ us) ≤ n
      → go rules (named bound at m k) (Touching at' ∷ us) ≡ Ok r → Operates rules k r (Name at m ∷ Touching at' ∷ us) bound
  call_named at' us k r bound at m small h =
      compound_operates (Name at m ∷ Touching at' ∷ us) us k r bound (plain at m) (omega (arith, small)) (omega arith) (λ rest ts args. a_compound args)
      (sym (go-next rules (named bound at m k) _ (Touching at') us refl) ∙ h)

  negative_named : (at' i : ℕ) (us : List Token) (k : List (Frame T)) (r : T × List Token) (bound at m : ℕ)
      → go rules (named bound at m k) (Joined at' i ∷ us) ≡ Ok r → Operates rules k r (Name at m ∷ Joined at' i ∷ us) bound
  negative_named at' i us k r bound at m h =
      record { t = rules.negative at i; p = 0; vs = us; reads = a_negative; goes = sym (go-next rules (named bound at m k) _ (Joined at' i) us refl) ∙ h; shorter = omega arith }

  prefix_named : (us : List Token) (k : List (Frame T)) (r : T × List Token) (bound at m : ℕ) (op : Prefix) → length us ≤ n
      → rules.prefixes m ≡ Some op
      → go rules (named bound at m k) us ≡ Ok r → Operates rules k r (Name at m ∷ us) bound
  unfolding go
  prefix_named [] k r bound at m op small e h = absurd (no_end rules (named bound at m k) r h)
  prefix_named (Name at' l ∷ us) k r bound at m op small e h = prefix_name at' l us k r bound at m op (is_infix_alone rules l) small e refl h
  prefix_named (Leaf at' v ∷ us) k r bound at m op small e h =
      applies (Leaf at' v) us k r bound at m op (nat_le op.priority bound) small e refl refl (rw e refl) refl h
  prefix_named (Paren at' ∷ us) k r bound at m op small e h =
      applies (Paren at') us k r bound at m op (nat_le op.priority bound) small e refl refl (rw e refl) refl h
  prefix_named (Bracket at' ∷ us) k r bound at m op small e h =
      applies (Bracket at') us k r bound at m op (nat_le op.priority bound) small e refl refl (rw e refl) refl h
  prefix_named (Brace at' ∷ us) k r bound at m op small e h =
      applies (Brace at') us k r bound at m op (nat_le op.priority bound) small e refl refl (rw e refl) refl h
  prefix_named (Touching at' ∷ us) k r bound at m op small e h = call_named at' us k r bound at m small h
  prefix_named (Joined at' i ∷ us) k r bound at m op small e h = negative_named at' i us k r bound at m h
  prefix_named (ParenEnd ∷ us) k r bound at m op small e h = prefix_atom_operates (ParenEnd ∷ us) k r bound at m op e refl (rw e at h)
  prefix_named (BracketEnd ∷ us) k r bound at m op small e h = prefix_atom_operates (BracketEnd ∷ us) k r bound at m op e refl (rw e at h)
  prefix_named (BraceEnd ∷ us) k r bound at m op small e h = prefix_atom_operates (BraceEnd ∷ us) k r bound at m op e refl (rw e at h)
  prefix_named (Comma ∷ us) k r bound at m op small e h = prefix_atom_operates (Comma ∷ us) k r bound at m op e refl (rw e at h)
  prefix_named (Bar ∷ us) k r bound at m op small e h = prefix_atom_operates (Bar ∷ us) k r bound at m op e refl (rw e at h)
  prefix_named (End ∷ us) k r bound at m op small e h = prefix_atom_operates (End ∷ us) k r bound at m op e refl (rw e at h)

  plain_named : (us : List Token) (k : List (Frame T)) (r : T × List Token) (bound at m : ℕ) → length us ≤ n → rules.prefixes m ≡ None
      → go rules (named bound at m k) us ≡ Ok r → Operates rules k r (Name at m ∷ us) bound
  plain_named [] k r bound at m small e h = absurd (no_end rules (named bound at m k) r h)
  plain_named (Touching at' ∷ us) k r bound at m small e h = call_named at' us k r bound at m small h
  plain_named (Joined at' i ∷ us) k r bound at m small e h = negative_named at' i us k r bound at m h
  plain_named (token ∷ us) k r bound at m small e h = atom_operates (token ∷ us) k r bound at m e refl h

  named_by : (us : List Token) (k : List (Frame T)) (r : T × List Token) (bound at m : ℕ) (op : Option Prefix) → length us ≤ n → rules.prefixes m ≡ op
      → go rules (named bound at m k) us ≡ Ok r → Operates rules k r (Name at m ∷ us) bound
  named_by us k r bound at m None small e h = plain_named us k r bound at m small e h
  named_by us k r bound at m (Some op) small e h = prefix_named us k r bound at m op small e h

  -- [] or {}
  titled_operates : (head : Head) (first : List Token) (us : List Token) (k : List (Frame T)) (r : T × List Token) (bound : ℕ) → length us ≤ n
      → length us < length first
      → (touches us ≡ false → Operand rules first us bound (rules.atom head) 0)
      →
      ((at : ℕ) (vs rest : List Token) (ts : List T) → us ≡ Touching at ∷ vs → Arguments rules vs rest ts → Operand rules first rest bound (rules.call head ts) 0)
      → go rules (titled bound head k) us ≡ Ok r → Operates rules k r first bound
  titled_operates head first [] k r bound small less makes calls h = absurd (no_end rules (titled bound head k) r h)
  titled_operates head first (Touching at ∷ us) k r bound small less makes calls h =
      compound_operates first us k r bound head (omega (arith, small)) (omega (arith, less)) (λ rest ts args. calls at us rest ts refl args) (sym (go-next rules (titled bound head k) _ (Touching at) us refl) ∙ h)
  titled_operates head first (token ∷ us) k r bound small less makes calls h =
      record { t = rules.atom head; p = 0; vs = token ∷ us; reads = makes refl; goes = sym (go-titled rules k bound head (token ∷ us) refl) ∙ h; shorter = less }

  bracketed_operates : (us : List Token) (k : List (Frame T)) (r : T × List Token) (bound at : ℕ) → length us ≤ n
      → go rules (bracketed bound at k) us ≡ Ok r → Operates rules k r (Bracket at ∷ us) bound
  unfolding go
  bracketed_operates [] k r bound at small h = absurd (no_end rules (bracketed bound at k) r h)
  bracketed_operates (BracketEnd ∷ us) k r bound at small h =
      titled_operates (brackets at) (Bracket at ∷ BracketEnd ∷ us) us k r bound (omega (arith, small)) (omega arith) (λ apart. empty_brackets apart)
      (λ at' vs rest ts e args. subst (λ xs. Operand rules (Bracket at ∷ BracketEnd ∷ xs) rest bound (rules.call (brackets at) ts) 0) (sym e) (a_brackets_compound args)) h
  bracketed_operates (token ∷ us) k r bound at small h = list_operates (token ∷ us) k r bound at small h

  braced_operates : (us : List Token) (k : List (Frame T)) (r : T × List Token) (bound at : ℕ) → length us ≤ n
      → go rules (braced bound at k) us ≡ Ok r → Operates rules k r (Brace at ∷ us) bound
  unfolding go
  braced_operates [] k r bound at small h = absurd (no_end rules (braced bound at k) r h)
  braced_operates (BraceEnd ∷ us) k r bound at small h =
      titled_operates (braces at) (Brace at ∷ BraceEnd ∷ us) us k r bound (omega (arith, small)) (omega arith) (λ apart. empty_braces apart)
      (λ at' vs rest ts e args. subst (λ xs. Operand rules (Brace at ∷ BraceEnd ∷ xs) rest bound (rules.call (braces at) ts) 0) (sym e) (a_braces_compound args)) h
  braced_operates (token ∷ us) k r bound at small h = curly_operates (token ∷ us) k r bound at small h

  pub operates : (us : List Token) (k : List (Frame T)) (r : T × List Token) (bound : ℕ) → length us ≤ suc n → go rules (want bound k) us ≡ Ok r
      → Operates rules k r us bound
  unfolding go
  operates [] k r bound small h = absurd (no_end rules (want bound k) r h)
  operates (Name at m ∷ us) k r bound small h = named_by us k r bound at m (rules.prefixes m) (omega (arith, small)) refl h
  operates (Leaf at v ∷ us) k r bound small h = record { t = rules.leaf at v; p = 0; vs = us; reads = a_leaf; goes = h; shorter = omega arith }
  operates (Joined at i ∷ us) k r bound small h = record { t = rules.leaf at (integer i); p = 0; vs = us; reads = a_joined; goes = h; shorter = omega arith }
  operates (Paren at ∷ us) k r bound small h = group_operates us k r bound at (Paren at) (λ rest t p h'. a_group h') (omega (arith, small)) h
  operates (Touching at ∷ us) k r bound small h =
      group_operates us k r bound at (Touching at) (λ rest t p h'. a_touching_group h') (omega (arith, small)) h
  operates (Bracket at ∷ us) k r bound small h = bracketed_operates us k r bound at (omega (arith, small)) h
  operates (Brace at ∷ us) k r bound small h = braced_operates us k r bound at (omega (arith, small)) h
  operates (_ ∷ us) k r bound small h = cc
