-- Both ways: what the machine with the depth rule answers, and when.
use Rattle.std.proofs.Common.{◌≡◌, ℕ, suc, List, [], ◌∷◌, ◌++◌, length, arith, Option, Some, None, Ok, Err, Bool, true, false, refl, ap, sym, ◌∙◌}
use Rattle.prolog_grammar.specs.Token.{Token, End, touches}
use Rattle.prolog_grammar.specs.Rules.{Infix, Prefix, Rules}
use Rattle.prolog_grammar.specs.Grammar.{TermOf}
use Rattle.prolog_grammar.specs.Syntax.{Syntax, syntax_rules}
use Rattle.prolog_grammar.specs.Fault.{IsUnexpected}
use Rattle.prolog_grammar.specs.Machine.{Outcome, State, Move, next, done, fault, step, moved, go, start}
use Rattle.prolog_grammar.specs.Depth.{clause_loads, too_deep, one_on, first_deep}
use Rattle.prolog_grammar.specs.Fault.{FollowsAlike, IsDeep, unexpected, deep, Verdict}
use Rattle.prolog_grammar.specs.Run.{load, checked, run}
use Rattle.prolog_grammar.proofs.Complete.{complete}
use Rattle.prolog_grammar.proofs.Sound.{sound}
use Rattle.prolog_grammar.proofs.First as first
use Rattle.prolog_grammar.proofs.Exact.{one_fault, refuses}
use Rattle.prolog_grammar.proofs.Loads.{traced, trace, traces}
use Rattle.prolog_grammar.proofs.DeepRuns.{touches_same, load_alike, deep_run}

zero_on : (x : Option ℕ) → one_on x ≡ Some 0 → ⊥
zero_on None h = cc
zero_on (Some i) h = absurd (omega (arith, some_is (suc i) 0 h))
  where
    some_is : (a b : ℕ) → ◌≡◌ {A = Option ℕ} (Some a) (Some b) → a ≡ b
    some_is a b h' = cc

one_back : (x : Option ℕ) (i : ℕ) → one_on x ≡ Some (suc i) → x ≡ Some i
one_back None i h = cc
one_back (Some j) i h = ap Some (omega (arith, some_is (suc j) (suc i) h))
  where
    some_is : (a b : ℕ) → ◌≡◌ {A = Option ℕ} (Some a) (Some b) → a ≡ b
    some_is a b h' = cc

zero_suc : (i : ℕ) → ◌≡◌ {A = Option ℕ} (Some 0) (Some (suc i)) → ⊥
zero_suc i h = absurd (omega (arith, some_is 0 (suc i) h))
  where
    some_is : (a b : ℕ) → ◌≡◌ {A = Option ℕ} (Some a) (Some b) → a ≡ b
    some_is a b h' = cc

one_none : (x : Option ℕ) → one_on x ≡ None → x ≡ None
one_none None h = refl
one_none (Some i) h = cc

module _ {T : Type 0} (limit : ℕ) (rules : Rules T) where
  -- a machine that ends well with some tokens, the first too deep of which is after those before
  finds : (before : List Token) (s : State T) (token : Token) (vs after : List Token) (x : T × List Token) → FollowsAlike token vs after
      → go rules s (before ++ token ∷ vs) ≡ Ok x
      → first_deep limit (trace rules s (before ++ token ∷ vs)) ≡ Some (length before)
      → run limit rules s (before ++ token ∷ after) ≡ Err (deep (token ∷ after))
  unfolding go trace run
  finds [] s token vs after x alike h d = by_move (step rules s token) (too_deep limit (load rules s token (touches vs))) refl refl h d
    where
      by_move : (m : Move T) (over : Bool) → step rules s token ≡ m → too_deep limit (load rules s token (touches vs)) ≡ over
          → moved m (λ s'. go rules s' vs) (token ∷ vs) vs ≡ Ok x
          → first_deep limit (traced (step rules s token) (load rules s token (touches vs)) (λ s'. trace rules s' vs)) ≡ Some 0
          → checked (step rules s token) (too_deep limit (load rules s token (touches after))) (λ s'. run limit rules s' after)
          (token ∷ after) after ≡ Err (deep (token ∷ after))
      by_move fault over e o f d' = cc
      by_move (next s') true e o f d' = rw (e, sym (load_alike rules s token (touches vs) (touches after) alike), o) refl
      by_move (done t) true e o f d' = rw (e, sym (load_alike rules s token (touches vs) (touches after) alike), o) refl
      by_move (next s') false e o f d' = absurd (zero_on (first_deep limit (trace rules s' vs)) (rw (e, o) at d'))
      by_move (done t) false e o f d' = let d'' = rw (e, o) at d' in cc
  finds (y ∷ before) s token vs after x alike h d =
      by_move (step rules s y) (too_deep limit (load rules s y (touches (before ++ token ∷ vs)))) refl refl h d (λ s' f g. finds before s' token vs after x alike f g)
    where
      by_move : (m : Move T) (over : Bool) → step rules s y ≡ m → too_deep limit (load rules s y (touches (before ++ token ∷ vs))) ≡ over
          → moved m (λ s'. go rules s' (before ++ token ∷ vs)) (y ∷ before ++ token ∷ vs) (before ++ token ∷ vs) ≡ Ok x
          → first_deep limit
          (traced (step rules s y) (load rules s y (touches (before ++ token ∷ vs))) (λ s'. trace rules s' (before ++ token ∷ vs))) ≡ Some
          (suc (length before))
          →
          ((s' : State T) → go rules s' (before ++ token ∷ vs) ≡ Ok x → first_deep limit (trace rules s' (before ++ token ∷ vs)) ≡ Some (length before) → run limit rules s' (before ++ token ∷ after) ≡ Err (deep (token ∷ after)))
          → checked (step rules s y) (too_deep limit (load rules s y (touches (before ++ token ∷ after))))
          (λ s'. run limit rules s' (before ++ token ∷ after)) (y ∷ before ++ token ∷ after) (before ++ token ∷ after) ≡ Err
          (deep (token ∷ after))
      by_move fault over e o f d' later = cc
      by_move (next s') true e o f d' later = absurd (zero_suc (length before) (rw (e, o) at d'))
      by_move (done t) true e o f d' later = absurd (zero_suc (length before) (rw (e, o) at d'))
      by_move (next s') false e o f d' later =
          rw (e, touches_same before token after vs, o) (later s' f (one_back (first_deep limit (trace rules s' (before ++ token ∷ vs))) (length before) (rw (e, o) at d')))
      by_move (done t) false e o f d' later = let d'' = rw (e, o) at d' in cc

  verdict_is : (x y : T × List Token) → ◌≡◌ {A = Verdict T} (Ok x) (Ok y) → x ≡ y
  verdict_is x y h = cc

  fault_is : (us vs : List Token) → ◌≡◌ {A = Verdict T} (Err (unexpected us)) (Err (unexpected vs)) → us ≡ vs
  fault_is us vs h = cc

  run_ok : (s : State T) (us : List Token) (x : T × List Token) → run limit rules s us ≡ Ok x
      → (go rules s us ≡ Ok x) × (first_deep limit (trace rules s us) ≡ None)
  unfolding go trace run
  run_ok s [] x h = cc
  run_ok s (token ∷ us) x h = by_move (step rules s token) (too_deep limit (load rules s token (touches us))) refl refl h (λ s' h'. run_ok s' us x h')
    where
      by_move : (m : Move T) (over : Bool) → step rules s token ≡ m → too_deep limit (load rules s token (touches us)) ≡ over
          → checked m over (λ s'. run limit rules s' us) (token ∷ us) us ≡ Ok x
          → ((s' : State T) → run limit rules s' us ≡ Ok x → (go rules s' us ≡ Ok x) × (first_deep limit (trace rules s' us) ≡ None))
          → (moved (step rules s token) (λ s'. go rules s' us) (token ∷ us) us ≡ Ok x) ×
          (first_deep limit (traced (step rules s token) (load rules s token (touches us)) (λ s'. trace rules s' us)) ≡ None)
      by_move fault over e o f later = cc
      by_move (next s') true e o f later = cc
      by_move (done t) true e o f later = cc
      by_move (next s') false e o f later = let below = later s' f in (rw e below.0, rw (e, o, below.1) refl)
      by_move (done t) false e o f later = (rw e (ap Ok (verdict_is (t, us) x f)), rw (e, o) refl)

  run_unexpected : (s : State T) (us rest : List Token) → run limit rules s us ≡ Err (unexpected rest) → go rules s us ≡ Err rest
  unfolding go run
  run_unexpected s [] rest h = ap Err (fault_is [] rest h)
  run_unexpected s (token ∷ us) rest h =
      by_move (step rules s token) (too_deep limit (load rules s token (touches us))) refl refl h (λ s' h'. run_unexpected s' us rest h')
    where
      by_move : (m : Move T) (over : Bool) → step rules s token ≡ m → too_deep limit (load rules s token (touches us)) ≡ over
          → checked m over (λ s'. run limit rules s' us) (token ∷ us) us ≡ Err (unexpected rest)
          → ((s' : State T) → run limit rules s' us ≡ Err (unexpected rest) → go rules s' us ≡ Err rest)
          → moved (step rules s token) (λ s'. go rules s' us) (token ∷ us) us ≡ Err rest
      by_move fault over e o f later = rw e (ap Err (fault_is (token ∷ us) rest f))
      by_move (next s') true e o f later = cc
      by_move (done t) true e o f later = cc
      by_move (next s') false e o f later = rw e (later s' f)
      by_move (done t) false e o f later = cc

  ok_run : (s : State T) (us : List Token) (x : T × List Token) → go rules s us ≡ Ok x → first_deep limit (trace rules s us) ≡ None
      → run limit rules s us ≡ Ok x
  unfolding go trace run
  ok_run s [] x h d = cc
  ok_run s (token ∷ us) x h d =
      by_move (step rules s token) (too_deep limit (load rules s token (touches us))) refl refl h d (λ s' h' d'. ok_run s' us x h' d')
    where
      ok_is : (a b : T × List Token) → ◌≡◌ {A = Outcome T} (Ok a) (Ok b) → a ≡ b
      ok_is a b h' = cc

      by_move : (m : Move T) (over : Bool) → step rules s token ≡ m → too_deep limit (load rules s token (touches us)) ≡ over
          → moved m (λ s'. go rules s' us) (token ∷ us) us ≡ Ok x
          → first_deep limit (traced (step rules s token) (load rules s token (touches us)) (λ s'. trace rules s' us)) ≡ None
          → ((s' : State T) → go rules s' us ≡ Ok x → first_deep limit (trace rules s' us) ≡ None → run limit rules s' us ≡ Ok x)
          → checked (step rules s token) (too_deep limit (load rules s token (touches us))) (λ s'. run limit rules s' us) (token ∷ us) us ≡ Ok x
      by_move fault over e o f d' later = cc
      by_move (next s') true e o f d' later = let d'' = rw (e, o) at d' in cc
      by_move (done t) true e o f d' later = let d'' = rw (e, o) at d' in cc
      by_move (next s') false e o f d' later = rw (e, o) (later s' f (one_none (first_deep limit (trace rules s' us)) (rw (e, o) at d')))
      by_move (done t) false e o f d' later = rw (e, o) (ap Ok (ok_is (t, us) x f))

module _ (infixes : ℕ → Option Infix) (prefixes : ℕ → Option Prefix) (comma : ℕ) (limit : ℕ) where
  abbrev rules : Rules Syntax
  rules = syntax_rules infixes prefixes comma

  pub deep_found : (us rest : List Token) → IsDeep limit rules us rest → run limit rules start us ≡ Err (deep rest)
  deep_found us rest h =
      let found = finds limit rules h.before start h.token h.some.0 h.after (h.some.1, []) h.some.3 (complete h.some.4)
      (ap (first_deep limit) (traces infixes prefixes comma (h.before ++ h.token ∷ h.some.0) [] h.some.1 h.some.2 h.some.4) ∙ h.every h.some.0 h.some.1 h.some.2 h.some.3 h.some.4) in
      ap (run limit rules start) h.whole ∙ found ∙ ap (λ xs. Err (deep xs)) (sym h.cuts)

  pub reads_within : (us rest : List Token) (t : Syntax) → run limit rules start us ≡ Ok (t, rest)
      → (p : ℕ) × TermOf rules us (End ∷ rest) 1200 t p × (first_deep limit (clause_loads t) ≡ None)
  reads_within us rest t h =
      let parts = run_ok limit rules start us (t, rest) h in
      let reading = sound rules us rest t parts.0 in
      (reading.0, reading.1, ap (first_deep limit) (sym (traces infixes prefixes comma us rest t reading.0 reading.1)) ∙ parts.1)

  pub within_reads : (us rest : List Token) (t : Syntax) (p : ℕ) → TermOf rules us (End ∷ rest) 1200 t p → first_deep limit (clause_loads t) ≡ None
      → run limit rules start us ≡ Ok (t, rest)
  within_reads us rest t p h fine =
      ok_run limit rules start us (t, rest) (complete h) (ap (first_deep limit) (traces infixes prefixes comma us rest t p h) ∙ fine)

  pub unexpected_run : (us rest : List Token) → run limit rules start us ≡ Err (unexpected rest)
      → IsUnexpected rules us rest × ((rest' : List Token) → IsDeep limit rules us rest' → ⊥)
  unexpected_run us rest h =
      (first.unexpected rules us rest (run_unexpected limit rules start us rest h), λ rest' d. let both = sym (deep_found us rest' d) ∙ h in cc)

  pub unexpected_found : (us rest : List Token) → IsUnexpected rules us rest → ((rest' : List Token) → IsDeep limit rules us rest' → ⊥)
      → run limit rules start us ≡ Err (unexpected rest)
  unexpected_found us rest h none = by_verdict (run limit rules start us) refl
    where
      by_verdict : (x : Verdict Syntax) → run limit rules start us ≡ x → x ≡ Err (unexpected rest)
      by_verdict (Ok r) e = let both = sym (refuses rules us rest h) ∙ (run_ok limit rules start us r e).0 in cc
      by_verdict (Err (unexpected rest')) e =
          ap (λ xs. Err (unexpected xs)) (one_fault rules us rest' rest (first.unexpected rules us rest' (run_unexpected limit rules start us rest' e)) h)
      by_verdict (Err (deep rest')) e = absurd (none rest' (deep_run infixes prefixes comma limit us rest' e))
