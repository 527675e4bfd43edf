-- What the machine reads, the grammar reads. By induction on a bound on how many tokens there are.
use Rattle.std.proofs.Common.{◌≡◌, ℕ, zero, suc, ◌≤◌, List, [], ◌∷◌, ◌++◌, length, Option, Some, None, Ok, refl, ap, sym, ◌∙◌, append_assoc, arith, subst, inl, inr}
use Rattle.prolog_grammar.specs.Token.{Token, Name, Comma, End}
use Rattle.prolog_grammar.specs.Rules.{Infix, Head, Rules, taken, taken_first}
use Rattle.prolog_grammar.specs.Grammar.{last_argument, next_argument, last_item, with_tail, next_item, TermOf, a_term, no_more, an_infix}
use Rattle.prolog_grammar.specs.Machine.{arguments_open, items_open, tail_open, Frame, infix_frame, open_frame, State, want, have, go, start}
use Rattle.prolog_grammar.proofs.Moves.{no_end, step_have_taken, go-infix}
use Rattle.prolog_grammar.proofs.SoundClaims.{Terms, Rests, Argues, Lists, Sound, closes, tail_closes, args_close, items_close}
use Rattle.prolog_grammar.proofs.Operands.{operates}

module _ {T : Type 0} (rules : Rules T) (n : ℕ) (below : Sound rules n) where
  rests_no_more : (us : List Token) (k : List (Frame T)) (r : T × List Token) (bound : ℕ) (t : T) (p : ℕ) → go rules (have bound t p k) us ≡ Ok r
      → taken_first rules bound p us ≡ None → Rests rules k r us bound t p
  rests_no_more us k r bound t p h e = record { t' = t; p' = p; vs = us; reads = no_more e; goes = h; ends = e; shorter = omega arith }

  rests_infix : (token : Token) (us : List Token) (k : List (Frame T)) (r : T × List Token) (bound : ℕ) (t : T) (p : ℕ) (op : ℕ × Infix)
      → length us ≤ n
      → go rules (have bound t p k) (token ∷ us) ≡ Ok r → taken rules bound p token ≡ Some op → Rests rules k r (token ∷ us) bound t p
  unfolding go
  rests_infix token us k r bound t p op small h e =
      let goes = rw (step_have_taken rules k bound t p token op e) at h in
      let right = below.terms us (infix_frame bound op.0 op.1.priority t ∷ k) r op.1.right small goes in
      let after = sym (go-infix rules k bound op.0 op.1.priority t op.1.right right.t right.p right.vs right.ends) ∙ right.goes in
      let more = below.rests right.vs k r bound (rules.infixed op.0 t right.t) op.1.priority (omega (arith, right.shorter)) after in
      record { t' = more.t'; p' = more.p'; vs = more.vs; reads = an_infix {rest = more.vs} {t'' = more.t'} {p'' = more.p'} e right.reads more.reads; goes = more.goes; ends = more.ends; shorter = omega (arith, right.shorter, more.shorter) }

  rests_by : (token : Token) (us : List Token) (k : List (Frame T)) (r : T × List Token) (bound : ℕ) (t : T) (p : ℕ) (op : Option (ℕ × Infix))
      → length us ≤ n
      → go rules (have bound t p k) (token ∷ us) ≡ Ok r → taken rules bound p token ≡ op → Rests rules k r (token ∷ us) bound t p
  rests_by token us k r bound t p None small h e = rests_no_more (token ∷ us) k r bound t p h e
  rests_by token us k r bound t p (Some op) small h e = rests_infix token us k r bound t p op small h e

  rests : (us : List Token) (k : List (Frame T)) (r : T × List Token) (bound : ℕ) (t : T) (p : ℕ) → length us ≤ suc n
      → go rules (have bound t p k) us ≡ Ok r → Rests rules k r us bound t p
  rests [] k r bound t p small h = absurd (no_end rules (have bound t p k) r h)
  rests (token ∷ us) k r bound t p small h = rests_by token us k r bound t p (taken rules bound p token) (omega (arith, small)) h refl

  terms : (us : List Token) (k : List (Frame T)) (r : T × List Token) (bound : ℕ) → length us ≤ suc n → go rules (want bound k) us ≡ Ok r
      → Terms rules k r us bound
  terms us k r bound small h =
      let first = operates rules n below us k r bound small h in
      let more = below.rests first.vs k r bound first.t first.p (omega (arith, first.shorter, small)) first.goes in
      record { t = more.t'; p = more.p'; vs = more.vs; reads = a_term first.reads more.reads; goes = more.goes; ends = more.ends; shorter = omega (arith, first.shorter, more.shorter) }

  args : (us : List Token) (k : List (Frame T)) (r : T × List Token) (bound : ℕ) (head : Head) (before : List T) → length us ≤ suc n
      → go rules (want 999 (open_frame bound (arguments_open head before) ∷ k)) us ≡ Ok r → Argues rules k r us bound head before
  args us k r bound head before small h =
      let first = terms us (open_frame bound (arguments_open head before) ∷ k) r 999 small h in
      let found = closes rules k r bound (arguments_open head before) 999 first.t first.p first.vs first.ends first.goes in
      elim (args_close rules k r bound head before first.t found.0 found.1 found.3) [
        | inl close ↦
            let after = found.2 ∙ ap (λ x. x ∷ found.1) close.0 in
            record {
              ts = first.t ∷ [];
              vs = found.1;
              reads = last_argument (subst (λ xs. TermOf rules us xs 999 first.t first.p) after first.reads);
              goes = close.1;
              shorter = omega (arith, first.shorter, ap length after);
            }
        | inr comma ↦
            let after = found.2 ∙ ap (λ x. x ∷ found.1) comma.0 in
            let more = below.args found.1 k r bound head (before ++ first.t ∷ []) (omega (arith, small, first.shorter, ap length after)) comma.1 in
            record {
              ts = first.t ∷ more.ts;
              vs = more.vs;
              reads = next_argument (subst (λ xs. TermOf rules us xs 999 first.t first.p) after first.reads) more.reads;
              goes = ap (λ xs. go rules (have bound (rules.call head xs) 0 k) more.vs) (sym (append_assoc before (first.t ∷ []) more.ts)) ∙ more.goes;
              shorter = omega (arith, first.shorter, more.shorter, ap length after);
            }
      ]

  items : (us : List Token) (k : List (Frame T)) (r : T × List Token) (bound at : ℕ) (before : List T) → length us ≤ suc n
      → go rules (want 999 (open_frame bound (items_open at before) ∷ k)) us ≡ Ok r → Lists rules k r us bound at before
  items us k r bound at before small h =
      let first = terms us (open_frame bound (items_open at before) ∷ k) r 999 small h in
      let found = closes rules k r bound (items_open at before) 999 first.t first.p first.vs first.ends first.goes in
      elim (items_close rules k r bound at before first.t found.0 found.1 found.3) [
        | inl close ↦
            let after = found.2 ∙ ap (λ x. x ∷ found.1) close.0 in
            record {
              ts = first.t ∷ [];
              tail = None;
              vs = found.1;
              reads = last_item (subst (λ xs. TermOf rules us xs 999 first.t first.p) after first.reads);
              goes = close.1;
              shorter = omega (arith, first.shorter, ap length after);
            }
        | inr (inl comma) ↦
            let after = found.2 ∙ ap (λ x. x ∷ found.1) comma.0 in
            let more = below.items found.1 k r bound at (before ++ first.t ∷ []) (omega (arith, small, first.shorter, ap length after)) comma.1 in
            record {
              ts = first.t ∷ more.ts;
              tail = more.tail;
              vs = more.vs;
              reads = next_item (subst (λ xs. TermOf rules us xs 999 first.t first.p) after first.reads) more.reads;
              goes = ap (λ xs. go rules (have bound (rules.listed at xs more.tail) 0 k) more.vs) (sym (append_assoc before (first.t ∷ []) more.ts)) ∙ more.goes;
              shorter = omega (arith, first.shorter, more.shorter, ap length after);
            }
        | inr (inr bar) ↦
            let after = found.2 ∙ ap (λ x. x ∷ found.1) bar.0 in
            let tail = below.terms found.1 (open_frame bound (tail_open at (before ++ first.t ∷ [])) ∷ k) r 999 (omega (arith, small, first.shorter, ap length after)) bar.1 in
            let found' = closes rules k r bound (tail_open at (before ++ first.t ∷ [])) 999 tail.t tail.p tail.vs tail.ends tail.goes in
            let close = tail_closes rules k r bound at (before ++ first.t ∷ []) tail.t found'.0 found'.1 found'.3 in
            let after' = found'.2 ∙ ap (λ x. x ∷ found'.1) close.0 in
            record {
              ts = first.t ∷ [];
              tail = Some tail.t;
              vs = found'.1;
              reads = with_tail (subst (λ xs. TermOf rules us xs 999 first.t first.p) after first.reads) (subst (λ xs. TermOf rules found.1 xs 999 tail.t tail.p) after' tail.reads);
              goes = close.1;
              shorter = omega (arith, first.shorter, tail.shorter, ap length after, ap length after');
            }
      ]

no_tokens : (us : List Token) → length us ≤ 0 → us ≡ []
no_tokens [] h = refl
no_tokens (token ∷ us) h = absurd (omega arith)

none_read : {T : Type 0} (rules : Rules T) (s : State T) (us : List Token) (r : T × List Token) → length us ≤ 0 → go rules s us ≡ Ok r → ⊥
none_read rules s us r small h = no_end rules s r (ap (go rules s) (sym (no_tokens us small)) ∙ h)

pub sound_of : {T : Type 0} (rules : Rules T) (n : ℕ) → Sound rules n
sound_of rules zero = record {
  terms = λ us k r bound small h. absurd (none_read rules (want bound k) us r small h);
  rests = λ us k r bound t p small h. absurd (none_read rules (have bound t p k) us r small h);
  args = λ us k r bound head before small h. absurd (none_read rules (want 999 (open_frame bound (arguments_open head before) ∷ k)) us r small h);
  items = λ us k r bound at before small h. absurd (none_read rules (want 999 (open_frame bound (items_open at before) ∷ k)) us r small h);
}
sound_of rules (suc n) = record { terms = terms rules n (sound_of rules n); rests = rests rules n (sound_of rules n); args = args rules n (sound_of rules n); items = items rules n (sound_of rules n) }

closes_text : {T : Type 0} (rules : Rules T) (r : T × List Token) (t : T) (p : ℕ) (vs : List Token) → taken_first rules 1200 p vs ≡ None
    → go rules (have 1200 t p []) vs ≡ Ok r → (vs ≡ End ∷ r.1) × (t ≡ r.0)
unfolding go
closes_text rules r t p [] e h = cc
closes_text rules r t p (Name at m ∷ vs) e h = let f = rw e at h in cc
closes_text rules r t p (Comma ∷ vs) e h = let f = rw e at h in cc
closes_text rules r t p (End ∷ vs) e h = (cc, cc)
closes_text rules r t p (_ ∷ vs) e h = cc

-- what is read is in the grammar
pub sound : {T : Type 0} (rules : Rules T) (us rest : List Token) (t : T) → go rules start us ≡ Ok (t, rest)
    → (p : ℕ) × TermOf rules us (End ∷ rest) 1200 t p
sound rules us rest t h =
    let found = (sound_of rules (length us)).terms us [] (t, rest) 1200 (omega arith) h in
    let closed = closes_text rules (t, rest) found.t found.p found.vs found.ends found.goes in
    (found.p, subst (λ x. TermOf rules us (End ∷ rest) 1200 x found.p) closed.1 (subst (λ xs. TermOf rules us xs 1200 found.t found.p) closed.0 found.reads))
